-- The parts of a value that fits fit too, in the room for a block.
use Rattle.std.proofs.Common.{◌≡◌, ℕ, suc, ◌-◌, List, Some, option_map, sym, ap, ◌∙◌, subst, arith}
use Rattle.std.specs.Prelude.{IsSomeAnd, IsUtf8}
use Rattle.std.specs.List.{AllByRecursion}
use Rattle.std.proofs.lemmas.Option.{same_Some}
use Rattle.ild_data.specs.Limits.{deepest}
use Rattle.ild_schema.specs.declared.def.TypeDef.{TypeDef}
use Rattle.ild_schema.specs.declared.number.Slot.{Slot}
use Rattle.ild_schema.specs.declared.row.Row.{Row}
use Rattle.ild_schema.specs.Slots.{form_of}
use Rattle.ild_schema.specs.Value as V
use Rattle.ild_schema.specs.Value.{Value, Values, Pairs, Optionals, values_list, pairs_list, optionals_list, height}
use Rattle.ild_typed.specs.Fits.{Fits, FitsPast, FormFits, ValueFits}
use Rattle.ild_typed.specs.Layers.{FieldsFit}
use Rattle.ild_typed.specs.Levels.{levels_of}
use Rattle.ild_typed.specs.Slots.{element_of, fields_of, member_of, slot_of}
use Rattle.ild_typed.proofs.Rooms.{all_more, fields_more, fits_more, past_less}
use Rattle.ild_typed.proofs.TreeParts.{list_fits, map_fits, struct_fits, union_fits}
use Rattle.ild_beneath.proofs.Heights.{past_high}

opened : (rows : List Row) (room : ℕ) (s : Slot) (v : Value) → Fits rows (suc room) s v → ValueFits rows (suc room) (FitsPast rows room) s v
unfolding FitsPast
opened rows room s v fits = fits

part_fits : (rows : List Row) (room over : ℕ) (s : Slot) (v : Value) → FitsPast rows room over s v → Fits rows (suc room) s v
part_fits rows room over s v f =
    let high = past_high rows room over s v f in
    let less : Fits rows (room - over) s v = subst (λ A. A) (past_less rows over (room - over) room (omega (arith, high)) s v) f in
    fits_more rows (room - over) (suc room) (omega arith) s v less

module _ (rows : List Row) where
  form_there : (s : Slot) (v : Value) (d : TypeDef) → form_of rows s ≡ Some d → IsSomeAnd (form_of rows s) (FormFits rows deepest (FitsPast rows 95) v) → FormFits rows deepest (FitsPast rows 95) v d
  form_there s v d form f = subst (λ o. IsSomeAnd o (FormFits rows deepest (FitsPast rows 95) v)) form f

  pub elements_fit : (s : Slot) (vs : Values) (d : TypeDef) (u : Slot) → form_of rows s ≡ Some d → element_of (Some d) ≡ Some u → Fits rows deepest s (V.list vs)
      → AllByRecursion (Fits rows deepest u) (values_list vs)
  elements_fit s vs d u form is fits =
      let o = levels_of d (V.list vs) - 1 in
      let f = form_there s (V.list vs) d form (opened rows 95 s (V.list vs) fits) in
      let z = list_fits (FitsPast rows 95 o) rows d (values_list vs) f.1 in
      let all : AllByRecursion (Fits rows deepest z.slot) (values_list vs) = all_more (FitsPast rows 95 o z.slot) (Fits rows deepest z.slot) (λ w b. part_fits rows 95 o z.slot w b) (values_list vs) z.each in
      subst (λ k. AllByRecursion (Fits rows deepest k) (values_list vs)) (same_Some z.slot u (sym z.is ∙ is)) all

  pub entries_fit : (s : Slot) (ps : Pairs) (d : TypeDef) (u : Slot) → form_of rows s ≡ Some d → element_of (Some d) ≡ Some u → Fits rows deepest s (V.map ps)
      → AllByRecursion (λ p. IsUtf8 p.0 × Fits rows deepest u p.1) (pairs_list ps)
  entries_fit s ps d u form is fits =
      let o = levels_of d (V.map ps) - 1 in
      let f = form_there s (V.map ps) d form (opened rows 95 s (V.map ps) fits) in
      let z = map_fits (FitsPast rows 95 o) rows d (pairs_list ps) f.1 in
      let all : AllByRecursion (λ p. IsUtf8 p.0 × Fits rows deepest z.slot p.1) (pairs_list ps)
      = all_more (λ p. IsUtf8 p.0 × FitsPast rows 95 o z.slot p.1) (λ p. IsUtf8 p.0 × Fits rows deepest z.slot p.1) (λ p b. (b.0, part_fits rows 95 o z.slot p.1 b.1)) (pairs_list ps) z.each in
      subst (λ k. AllByRecursion (λ p. IsUtf8 p.0 × Fits rows deepest k p.1) (pairs_list ps)) (same_Some z.slot u (sym z.is ∙ is)) all

  pub fields_fit : (s : Slot) (os : Optionals) (d : TypeDef) → form_of rows s ≡ Some d → Fits rows deepest s (V.struct os) → FieldsFit (Fits rows deepest) (fields_of (form_of rows s)) (optionals_list os)
  fields_fit s os d form fits =
      let o = levels_of d (V.struct os) - 1 in
      let f = form_there s (V.struct os) d form (opened rows 95 s (V.struct os) fits) in
      subst (λ q. FieldsFit (Fits rows deepest) (fields_of q) (optionals_list os)) (sym form)
      (fields_more rows (FitsPast rows 95 o) (Fits rows deepest) (λ u w b. part_fits rows 95 o u w b) (fields_of (Some d)) (optionals_list os) (struct_fits (FitsPast rows 95 o) rows d (optionals_list os) f.1))

  pub member_fits : (s : Slot) (n : ℕ) (v : Value) (d : TypeDef) (u : Slot) → form_of rows s ≡ Some d → member_of (Some d) n ≡ Some u → Fits rows deepest s (V.union n v) → Fits rows deepest u v
  member_fits s n v d u form is fits =
      let o = levels_of d (V.union n v) - 1 in
      let f = form_there s (V.union n v) d form (opened rows 95 s (V.union n v) fits) in
      let z = union_fits (FitsPast rows 95 o) rows d n v f.1 in
      subst (λ k. Fits rows deepest k v) (same_Some (slot_of z.member) u (sym (ap (option_map slot_of) z.is) ∙ is)) (part_fits rows 95 o (slot_of z.member) v z.holds)
