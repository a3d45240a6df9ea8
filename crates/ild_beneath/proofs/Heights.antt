-- A value nests no more levels than the room in which it fits.
use Rattle.std.proofs.Common.{◌≡◌, ℕ, zero, suc, ◌+◌, ◌-◌, ◌≤◌, List, [], ◌∷◌, ap, arith}
use Rattle.std.specs.Prelude.{IsSomeAnd, IsUtf8}
use Rattle.std.specs.List.{AllByRecursion}
use Rattle.ild_data.specs.Data as T
use Rattle.ild_schema.specs.declared.number.Slot.{Slot}
use Rattle.ild_schema.specs.declared.number.TypeNo.{TypeNo}
use Rattle.ild_schema.specs.declared.def.TypeDef.{TypeDef}
use Rattle.ild_schema.specs.declared.def.MapForm.{MapForm}
use Rattle.ild_schema.specs.declared.def.MapForm.TheVariants as MF
use Rattle.ild_schema.specs.declared.def.StructForm.{StructForm}
use Rattle.ild_schema.specs.declared.def.StructForm.TheVariants as S
use Rattle.ild_schema.specs.declared.def.Field.{Field}
use Rattle.ild_schema.specs.declared.row.Row.{Row}
use Rattle.ild_schema.specs.Slots.{form_of, plainly}
use Rattle.ild_schema.specs.Value as V
use Rattle.ild_schema.specs.Value.{Value, Values, Pairs, Optionals, height, values_height, pairs_height, optionals_height, values_list, pairs_list, optionals_list}
use Rattle.ild_typed.specs.Fits.{Fits, FitsPast, FormFits, ValueFits}
use Rattle.ild_typed.specs.Layers.{FieldsFit, RepresentsSome}
use Rattle.ild_typed.specs.Levels.{levels_of, map_levels, struct_levels}
use Rattle.ild_typed.proofs.FormOf.{member_there, list_form, map_form, struct_form, union_form}

map_some : (f : MapForm) → 1 ≤ map_levels f
map_some MF.Map = omega arith
map_some MF.ListPairs = omega arith
map_some (MF.StringPairs i e) = omega arith
map_some (MF.Hamt p) = omega arith

struct_some : (f : StructForm) → 1 ≤ struct_levels f
struct_some S.Map = omega arith
struct_some S.Tuple = omega arith
struct_some S.ListPairs = omega arith
struct_some (S.StringPairs i e) = omega arith
struct_some (S.StringJoin d) = omega arith

module _ (rows : List Row) (room : ℕ) (below : ℕ → Slot → Value → Type 0) (bound : (over : ℕ) (s : Slot) (v : Value) → below over s v → height v + 1 ≤ room) where
  values_high : (o : ℕ) (u : Slot) (vs : Values) → AllByRecursion (below o u) (values_list vs) → 1 ≤ room → values_height vs + 1 ≤ room
  values_high o u V.no_values all some = omega (arith, some)
  values_high o u (V.value v vs) all some = let a = bound o u v all.0 in let b = values_high o u vs all.1 some in omega (arith, a, b)

  pairs_high : (o : ℕ) (key : TypeNo) (u : Slot) (ps : Pairs) → AllByRecursion (λ p. IsUtf8 p.0 × RepresentsSome (below o) rows (plainly key) (T.text p.0) × below o u p.1) (pairs_list ps) → 1 ≤ room → pairs_height ps + 1 ≤ room
  pairs_high o key u V.no_pairs all some = omega (arith, some)
  pairs_high o key u (V.pair k v ps) all some = let a = bound o u v all.0.2 in let b = pairs_high o key u ps all.1 some in omega (arith, a, b)

  fields_high : (o : ℕ) (fs : List Field) (os : Optionals) → FieldsFit (below o) fs (optionals_list os) → 1 ≤ room → optionals_height os + 1 ≤ room
  fields_high o fs V.no_optionals all some = omega (arith, some)
  fields_high o [] (V.absent os) all some = absurd all
  fields_high o [] (V.present v os) all some = absurd all
  fields_high o (f ∷ fs) (V.absent os) all some = fields_high o fs os all.1 some
  fields_high o (f ∷ fs) (V.present v os) all some = let a = bound o f.slot v all.0 in let b = fields_high o fs os all.1 some in omega (arith, a, b)

  form_high : (v : Value) (d : TypeDef) → FormFits rows room below v d → height v ≤ room
  form_high (V.list vs) d f =
      let o = levels_of d (V.list vs) - 1 in
      let x = list_form rows (below o) d (values_list vs) f.1 in
      let one : levels_of d (V.list vs) ≡ 1 = ap (λ k. levels_of k (V.list vs)) x.2 in
      let le = f.0 in
      values_high o x.0 vs x.3 (omega (arith, one, le))
  form_high (V.map ps) d f =
      let o = levels_of d (V.map ps) - 1 in
      let x = map_form rows (below o) d (pairs_list ps) f.1 in
      let one : levels_of d (V.map ps) ≡ map_levels x.4 = ap (λ k. levels_of k (V.map ps)) x.5 in
      let some = map_some x.4 in
      let le = f.0 in
      pairs_high o x.0 x.2 ps x.6.1 (omega (arith, one, some, le))
  form_high (V.struct os) d f =
      let o = levels_of d (V.struct os) - 1 in
      let x = struct_form rows (below o) d (optionals_list os) f.1 in
      let one : levels_of d (V.struct os) ≡ struct_levels x.0.form = ap (λ k. levels_of k (V.struct os)) x.1 in
      let some = struct_some x.0.form in
      let le = f.0 in
      fields_high o x.0.fields os x.2 (omega (arith, one, some, le))
  form_high (V.union n v) d f =
      let o = levels_of d (V.union n v) - 1 in
      let x = union_form rows (below o) d n v f.1 in
      bound o (plainly x.1.ty) v x.4
  form_high v d f = omega arith

  some_high : (s : Slot) (v : Value) → IsSomeAnd (form_of rows s) (FormFits rows room below v) → height v ≤ room
  some_high s v h = let x = member_there (FormFits rows room below v) (form_of rows s) h in form_high v x.0 x.2

  value_high : (s : Slot) (v : Value) → ValueFits rows room below s v → height v ≤ room
  value_high s V.null h = omega arith
  value_high s v h = some_high s v h

pub past_high : (rows : List Row) (room over : ℕ) (s : Slot) (v : Value) → FitsPast rows room over s v → height v + over ≤ room
unfolding FitsPast
past_high rows zero zero s v f = let x = value_high rows zero (λ over t w. ⊥) (λ over t w b. absurd b) s v f in omega (arith, x)
past_high rows zero (suc over) s v f = absurd f
past_high rows (suc room) zero s v f =
    let x = value_high rows (suc room) (FitsPast rows room) (λ over t w b. let g = past_high rows room over t w b in omega (arith, g)) s v f in omega (arith, x)
past_high rows (suc room) (suc over) s v f = let g = past_high rows room over s v f in omega (arith, g)

pub fits_high : (rows : List Row) (room : ℕ) (s : Slot) (v : Value) → Fits rows room s v → height v ≤ room
fits_high rows room s v f = let g = past_high rows room zero s v f in omega (arith, g)
