-- A type that has a value stands in the table.
use Rattle.std.proofs.Common.{◌≡◌, ℕ, zero, suc, ◌<◌, List, Option, Some, None, refl, ap, subst, ◌∙◌, length}
use Rattle.std.specs.Prelude.{IsSomeAnd, slice_get, option_map}
use Rattle.std.specs.Option.{option_map_or}
use Rattle.std.proofs.lemmas.Option.{slice_get_within}
use Rattle.ild_schema.specs.declared.number.Slot.{Slot}
use Rattle.ild_schema.specs.declared.number.TypeNo.{TypeNo}
use Rattle.ild_schema.specs.declared.row.Row.{Row}
use Rattle.ild_schema.specs.Copies.{target_in, followed}
use Rattle.ild_schema.specs.Rows.{def_at}
use Rattle.ild_schema.specs.Slots.{form_of, plainly}
use Rattle.ild_schema.specs.Value.{Value, null, boolean, integer, text, bytes, link, list, map, struct, union, enum, unit, any, hamt}
use Rattle.ild_typed.specs.Fits.{FormFits, ValueFits, FitsPast, Fits}

-- a number outside of a table has no form
pub outside : (rows : List Row) (n copies : ℕ) → slice_get rows n ≡ None → def_at rows (followed rows copies n) ≡ None
outside rows n zero e = ap (λ o. option_map (λ r. r.def) o) e
outside rows n (suc copies) e =
    ap (λ o. def_at rows (option_map_or (λ target. followed rows copies target) (target_in (option_map (λ r. r.def) o)) n)) e
    ∙ ap (λ o. option_map (λ r. r.def) o) e

-- and no values
no_value : (rows : List Row) (room : ℕ) (below : ℕ → Slot → Value → Type 0) (key : TypeNo) (v : Value) → form_of rows (plainly key) ≡ None → ValueFits rows room below (plainly key) v → ⊥
no_value rows room below key null e h = absurd cc
no_value rows room below key (boolean b) e h = subst (λ o. IsSomeAnd o (FormFits rows room below (boolean b))) e h
no_value rows room below key (integer n) e h = subst (λ o. IsSomeAnd o (FormFits rows room below (integer n))) e h
no_value rows room below key (text s) e h = subst (λ o. IsSomeAnd o (FormFits rows room below (text s))) e h
no_value rows room below key (bytes s) e h = subst (λ o. IsSomeAnd o (FormFits rows room below (bytes s))) e h
no_value rows room below key (link s) e h = subst (λ o. IsSomeAnd o (FormFits rows room below (link s))) e h
no_value rows room below key (list vs) e h = subst (λ o. IsSomeAnd o (FormFits rows room below (list vs))) e h
no_value rows room below key (map ps) e h = subst (λ o. IsSomeAnd o (FormFits rows room below (map ps))) e h
no_value rows room below key (struct os) e h = subst (λ o. IsSomeAnd o (FormFits rows room below (struct os))) e h
no_value rows room below key (union n v) e h = subst (λ o. IsSomeAnd o (FormFits rows room below (union n v))) e h
no_value rows room below key (enum n) e h = subst (λ o. IsSomeAnd o (FormFits rows room below (enum n))) e h
no_value rows room below key unit e h = subst (λ o. IsSomeAnd o (FormFits rows room below unit)) e h
no_value rows room below key (any d) e h = subst (λ o. IsSomeAnd o (FormFits rows room below (any d))) e h
no_value rows room below key (hamt d) e h = subst (λ o. IsSomeAnd o (FormFits rows room below (hamt d))) e h

pub no_fit : (rows : List Row) (key : TypeNo) → form_of rows (plainly key) ≡ None → (room : ℕ) (v : Value) → Fits rows room (plainly key) v → ⊥
unfolding FitsPast
no_fit rows key e zero v h = no_value rows zero (λ over t w. ⊥) key v e h
no_fit rows key e (suc room) v h = no_value rows (suc room) (FitsPast rows room) key v e h

pub in_table : (rows : List Row) (key : TypeNo) (room : ℕ) (v : Value) → Fits rows room (plainly key) v → key.0 < length rows
in_table rows key room v h = by (slice_get rows key.0) refl
  where
    by : (o : Option Row) → slice_get rows key.0 ≡ o → key.0 < length rows
    by None at = absurd (no_fit rows key (outside rows key.0 (length rows) at) room v h)
    by (Some r) at = slice_get_within rows key.0 r at
