-- What the parts of a value weigh, in the turns of the loops that write them.
use Rattle.std.proofs.Common.{◌≡◌, ⊎_elim, ℕ, ◌+◌, ◌≤◌, List, [], ◌∷◌, length, drop, true, Option, Some, None, option_map, slice_get, refl, ap, ◌∙◌, zero-add, arith}
use Rattle.std.specs.Option.{option_map_or}
use Rattle.ild_data.proofs.Gets.{drop_at, drop_past}
use Rattle.ild_data.specs.declared.hamt_shape.HamtShape.{HamtShape}
use Rattle.ild_schema.specs.declared.number.Slot.{Slot}
use Rattle.ild_schema.specs.declared.number.TypeNo.{TypeNo}
use Rattle.ild_schema.specs.declared.def.TypeDef.TheVariants as D
use Rattle.ild_schema.specs.declared.def.MapForm.{MapForm}
use Rattle.ild_schema.specs.declared.def.MapForm.TheVariants as MF
use Rattle.ild_schema.specs.declared.def.StructDef.{StructDef}
use Rattle.ild_schema.specs.declared.def.UnionDef.{UnionDef}
use Rattle.ild_schema.specs.declared.def.Field.{Field}
use Rattle.ild_schema.specs.declared.def.Member.{Member}
use Rattle.ild_schema.specs.declared.def.Scalar.{Scalar}
use Rattle.ild_schema.specs.declared.def.Scalar.TheVariants as C
use Rattle.ild_schema.specs.declared.row.Row.{Row}
use Rattle.ild_schema.specs.Slots.{form_of, plainly}
use Rattle.ild_schema.specs.Value as V
use Rattle.ild_schema.specs.Value.{Value, Values, Pairs, Optionals, values_list, pairs_list, optionals_list}
use Rattle.ild_typed.specs.Slots.{element_of, fields_of, member_of, slot_of}
use Rattle.ild_build.specs.LeftOut.{is_left_out}
use Rattle.ild_build.specs.PartAt.{field_at}
use Rattle.ild_build_pass.specs.Weights.{Weight, weigh, weigh_values, weigh_pairs, weigh_fields, hamt_weight, items_weight, entries_weight, fields_weight, place_weight}
use Rattle.ild_build_leaf.specs.Kept.{kept_at}
use Rattle.ild_build_leaf.proofs.Turns.{kept_none, over_none, over_some}

module _ (rows : List Row) (μ : Weight) where
  pub item_weight : (u : Slot) (vs : List Value) (i : ℕ) (v : Value) → slice_get vs i ≡ Some v → items_weight μ rows u (drop i vs) ≡ weigh μ rows u v + items_weight μ rows u (drop (i + 1) vs)
  item_weight u vs i v at = ap (items_weight μ rows u) (drop_at vs i v at)

  pub items_weigh : (u : Slot) (vs : List Value) (i : ℕ) → length vs ≤ i → items_weight μ rows u (drop i vs) ≡ 0
  items_weigh u vs i h = ap (items_weight μ rows u) (drop_past vs i h)

  pub entry_weight : (u : Slot) (ps : List (List ℕ × Value)) (i : ℕ) (k : List ℕ) (v : Value) → slice_get ps i ≡ Some (k, v) → entries_weight μ rows u (drop i ps) ≡ weigh μ rows u v + entries_weight μ rows u (drop (i + 1) ps)
  entry_weight u ps i k v at = ap (entries_weight μ rows u) (drop_at {X = List ℕ × Value} ps i (k, v) at)

  pub entries_weigh : (u : Slot) (ps : List (List ℕ × Value)) (i : ℕ) → length ps ≤ i → entries_weight μ rows u (drop i ps) ≡ 0
  entries_weigh u ps i h = ap (entries_weight μ rows u) (drop_past ps i h)

  weight_ends : (f : Field) (fs : List Field) → fields_weight μ rows (f ∷ fs) [] ≡ fields_weight μ rows fs []
  weight_ends f [] = refl
  weight_ends f (g ∷ fs) = refl

  pub field_weight : (fs : List Field) (os : List (Option Value)) (i : ℕ) (f : Field) (v : Value) → slice_get fs i ≡ Some f → field_at os i ≡ Some v
      → fields_weight μ rows (drop i fs) (drop i os) ≡ weigh μ rows f.slot v + fields_weight μ rows (drop (i + 1) fs) (drop (i + 1) os)
  field_weight = over_some (fields_weight μ rows) (λ f fs os. refl) weight_ends

  pub field_skip : (fs : List Field) (os : List (Option Value)) (i : ℕ) (f : Field) → slice_get fs i ≡ Some f → field_at os i ≡ None → fields_weight μ rows (drop i fs) (drop i os) ≡ fields_weight μ rows (drop (i + 1) fs) (drop (i + 1) os)
  field_skip = over_none (fields_weight μ rows) (λ f fs os. refl) weight_ends

  pub fields_weigh : (fs : List Field) (os : List (Option Value)) (i : ℕ) → length fs ≤ i → fields_weight μ rows (drop i fs) (drop i os) ≡ 0
  fields_weigh fs os i h = ap (λ xs. fields_weight μ rows xs (drop i os)) (drop_past fs i h)

  -- a field that is left out is no HAMT, nor holds one
  pub left_weight : (o : Option Scalar) (u : Slot) (v : Value) → is_left_out o v ≡ true → weigh μ rows u v ≡ 0
  left_weight None u v e = absurd cc
  left_weight (Some (C.Bool a)) u (V.boolean b) e = refl
  left_weight (Some (C.Bool a)) u v e = absurd cc
  left_weight (Some (C.Int a)) u (V.integer b) e = refl
  left_weight (Some (C.Int a)) u v e = absurd cc
  left_weight (Some (C.Text a)) u (V.text b) e = refl
  left_weight (Some (C.Text a)) u v e = absurd cc

  pub field_passed : (fs : List Field) (os : List (Option Value)) (i : ℕ) (f : Field) → slice_get fs i ≡ Some f → kept_at f os i ≡ None → fields_weight μ rows (drop i fs) (drop i os) ≡ fields_weight μ rows (drop (i + 1) fs) (drop (i + 1) os)
  field_passed fs os i f at e =
      ⊎_elim (λ n. field_skip fs os i f at n)
      (λ x. let none = left_weight f.implicit f.slot x.value x.left in let turn = field_weight fs os i f x.value at x.there in omega (arith, none, turn)) (kept_none f os i e)

  pub field_place : (fs : List Field) (os : List (Option Value)) (i : ℕ) (f : Field) (v : Value) → slice_get fs i ≡ Some f → field_at os i ≡ Some v → place_weight μ rows fs os i ≡ weigh μ rows f.slot v
  field_place fs os i f v at there =
      ap (λ o. option_map_or (λ (g : Field). option_map_or (λ w. weigh μ rows g.slot w) (field_at os i) 0) o 0) at ∙ ap (λ o. option_map_or (λ w. weigh μ rows f.slot w) o 0) there

  pub no_place : (fs : List Field) (os : List (Option Value)) (i : ℕ) → slice_get fs i ≡ None → place_weight μ rows fs os i ≡ 0
  no_place fs os i none = ap (λ o. option_map_or (λ (g : Field). option_map_or (λ w. weigh μ rows g.slot w) (field_at os i) 0) o 0) none

  -- ---- parts in lists

  pub values_weigh : (u : Slot) (vs : Values) → weigh_values μ rows u vs ≡ items_weight μ rows u (values_list vs)
  values_weigh u V.no_values = refl
  values_weigh u (V.value v vs) = ap (λ n. weigh μ rows u v + n) (values_weigh u vs)

  pub pairs_weigh : (u : Slot) (ps : Pairs) → weigh_pairs μ rows u ps ≡ entries_weight μ rows u (pairs_list ps)
  pairs_weigh u V.no_pairs = refl
  pairs_weigh u (V.pair k v ps) = ap (λ n. weigh μ rows u v + n) (pairs_weigh u ps)

  pub optionals_weigh : (fs : List Field) (os : Optionals) → weigh_fields μ rows fs os ≡ fields_weight μ rows fs (optionals_list os)
  optionals_weigh [] V.no_optionals = refl
  optionals_weigh (f ∷ fs) V.no_optionals = refl
  optionals_weigh [] (V.absent os) = refl
  optionals_weigh [] (V.present v os) = refl
  optionals_weigh (f ∷ fs) (V.absent os) = optionals_weigh fs os
  optionals_weigh (f ∷ fs) (V.present v os) = ap (λ n. weigh μ rows f.slot v + n) (optionals_weigh fs os)

  pub list_weight : (s elem : Slot) (at : ℕ) (vs : Values) → form_of rows s ≡ Some (D.List elem at) → weigh μ rows s (V.list vs) ≡ items_weight μ rows elem (values_list vs)
  list_weight s elem at vs is = ap (λ o. option_map_or (λ u. weigh_values μ rows u vs) (element_of o) 0) is ∙ values_weigh elem vs

  map_weight_by : (s : Slot) (key : TypeNo) (key_at : ℕ) (value : Slot) (at : ℕ) (f : MapForm) (ps : Pairs) → form_of rows s ≡ Some (D.Map key key_at value at f)
      → weigh μ rows s (V.map ps) ≡ hamt_weight μ (Some (D.Map key key_at value at f)) ps + entries_weight μ rows value (pairs_list ps)
  map_weight_by s key key_at value at f ps is =
      ap (λ o. hamt_weight μ o ps + option_map_or (λ u. weigh_pairs μ rows u ps) (element_of o) 0) is ∙ ap (λ n. hamt_weight μ (Some (D.Map key key_at value at f)) ps + n) (pairs_weigh value ps)

  -- of a map that is no HAMT
  pub map_weight : (s : Slot) (key : TypeNo) (key_at : ℕ) (value : Slot) (at : ℕ) (f g : MapForm) (ps : Pairs) → form_of rows s ≡ Some (D.Map key key_at value at f) → f ≡ g → hamt_weight μ (Some (D.Map key key_at value at g)) ps ≡ 0
      → weigh μ rows s (V.map ps) ≡ entries_weight μ rows value (pairs_list ps)
  map_weight s key key_at value at f g ps is form none =
      map_weight_by s key key_at value at g ps (is ∙ ap (λ k. Some (D.Map key key_at value at k)) form) ∙ ap (λ n. n + entries_weight μ rows value (pairs_list ps)) none ∙ zero-add (entries_weight μ rows value (pairs_list ps))

  pub hamt_weigh : (s : Slot) (key : TypeNo) (key_at : ℕ) (value : Slot) (at : ℕ) (f : MapForm) (p : HamtShape) (ps : Pairs) → form_of rows s ≡ Some (D.Map key key_at value at f) → f ≡ MF.Hamt p
      → weigh μ rows s (V.map ps) ≡ μ p value ps + entries_weight μ rows value (pairs_list ps)
  hamt_weigh s key key_at value at f p ps is form = map_weight_by s key key_at value at (MF.Hamt p) ps (is ∙ ap (λ k. Some (D.Map key key_at value at k)) form)

  pub struct_weight : (s : Slot) (sd : StructDef) (os : Optionals) → form_of rows s ≡ Some (D.Struct sd) → weigh μ rows s (V.struct os) ≡ fields_weight μ rows sd.fields (optionals_list os)
  struct_weight s sd os is = ap (λ o. weigh_fields μ rows (fields_of o) os) is ∙ optionals_weigh sd.fields os

  pub union_weight : (s : Slot) (ud : UnionDef) (n : ℕ) (m : Member) (v : Value) → form_of rows s ≡ Some (D.Union ud) → slice_get ud.members n ≡ Some m → weigh μ rows s (V.union n v) ≡ weigh μ rows (plainly m.ty) v
  union_weight s ud n m v is at =
      ap (λ o. option_map_or (λ u. weigh μ rows u v) (member_of o n) 0) is ∙ ap (λ o. option_map_or (λ u. weigh μ rows u v) (option_map slot_of o) 0) at
