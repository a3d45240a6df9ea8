-- A test of every layer of a value is a test of the layer and of its parts by their places; and parts nest less deep.
use Rattle.std.proofs.Common.{◌≡◌, ◌⊎◌, inl, inr, ℕ, zero, suc, ◌+◌, ◌<◌, ◌≤◌, List, [], ◌∷◌, Bool, true, false, nat_lt, Option, Some, None, option_map, slice_get, refl, sym, ◌∙◌, ap, subst, arith}
use Rattle.std.specs.Prelude.{option_and_then}
use Rattle.std.proofs.lemmas.Bool.Decides.{nat_tests}
use Rattle.std.specs.Option.{option_map_or}
use Rattle.std.proofs.lemmas.Option.{same_Some, none-some, slice_get_within}
use Rattle.std.proofs.lemmas.Bool.{or_left, or_right, or_from}
use Rattle.ild_schema.specs.declared.number.Slot.{Slot}
use Rattle.ild_schema.specs.declared.def.TypeDef.{TypeDef}
use Rattle.ild_schema.specs.declared.def.Field.{Field}
use Rattle.ild_schema.specs.declared.row.Row.{Row}
use Rattle.ild_schema.specs.Slots.{form_of}
use Rattle.ild_schema.specs.Value as V
use Rattle.ild_schema.specs.Value.{Value, Values, Pairs, Optionals, values_list, pairs_list, optionals_list, height, values_height, pairs_height, optionals_height}
use Rattle.ild_typed.specs.EachLayer.{some_layer, some_value, some_pair, some_field}
use Rattle.ild_typed.specs.Slots.{element_of, fields_of, member_of}
use Rattle.ild_build.specs.PartAt.{in_slot, places, field_at, member_at, value_part_at}

-- ---- what stands at a place

pub record At (os : Option Slot) (ov : Option Value) (u : Slot) (w : Value) : Type 0 where
  pub slot : os ≡ Some u
  pub value : ov ≡ Some w

pub at_of : (os : Option Slot) (ov : Option Value) (u : Slot) (w : Value) → in_slot os ov ≡ Some (u, w) → At os ov u w
at_of None ov u w e = absurd (none-some {A = Slot × Value} (u, w) e)
at_of (Some s) None u w e = absurd (none-some {A = Slot × Value} (u, w) e)
at_of (Some s) (Some v) u w e =
    let same : (s, v) ≡ (u, w) = same_Some {A = Slot × Value} (s, v) (u, w) e in
    record { slot = ap (λ (p : Slot × Value). Some p.0) same; value = ap (λ (p : Slot × Value). Some p.1) same }

-- the value of an entry at a place
pub record Entry (ps : List (List ℕ × Value)) (i : ℕ) (w : Value) : Type 0 where
  pub entry : List ℕ × Value
  pub is : slice_get ps i ≡ Some entry
  pub value : entry.1 ≡ w

pub entry_of : (ps : List (List ℕ × Value)) (i : ℕ) (w : Value) (o : Option (List ℕ × Value)) → slice_get ps i ≡ o → option_map (λ (p : List ℕ × Value). p.1) o ≡ Some w → Entry ps i w
entry_of ps i w None is e = absurd (none-some w e)
entry_of ps i w (Some p) is e = record { entry = p; is = is; value = same_Some p.1 w e }

pub field_is : (os : List (Option Value)) (i : ℕ) (w : Value) (o : Option (Option Value)) → slice_get os i ≡ o → option_and_then (λ (x : Option Value). x) o ≡ Some w → slice_get os i ≡ Some (Some w)
field_is os i w None is e = absurd (none-some w e)
field_is os i w (Some x) is e = is ∙ ap Some e

pub record FieldSlot (fs : List Field) (i : ℕ) (u : Slot) : Type 0 where
  pub field : Field
  pub is : slice_get fs i ≡ Some field
  pub slot : field.slot ≡ u

pub field_slot_of : (fs : List Field) (i : ℕ) (u : Slot) (o : Option Field) → slice_get fs i ≡ o → option_map (λ (f : Field). f.slot) o ≡ Some u → FieldSlot fs i u
field_slot_of fs i u None is e = absurd (none-some u e)
field_slot_of fs i u (Some f) is e = record { field = f; is = is; slot = same_Some f.slot u e }

pub only_member : (v : Value) (i : ℕ) (w : Value) → member_at v i ≡ Some w → v ≡ w
only_member v zero w e = same_Some v w e
only_member v (suc i) w e = absurd (none-some w e)

first_member : (v : Value) (i : ℕ) (w : Value) → member_at v i ≡ Some w → i < 1
first_member v zero w e = omega arith
first_member v (suc i) w e = absurd (none-some w e)

-- ---- places

pub part_placed : (d : Option TypeDef) (v : Value) (i : ℕ) (u : Slot) (w : Value) → value_part_at d v i ≡ Some (u, w) → i < places v
part_placed d (V.list vs) i u w e = slice_get_within (values_list vs) i w (at_of (element_of d) (slice_get (values_list vs) i) u w e).value
part_placed d (V.map ps) i u w e =
    let x = entry_of (pairs_list ps) i w (slice_get (pairs_list ps) i) refl (at_of (element_of d) (option_map (λ (p : List ℕ × Value). p.1) (slice_get (pairs_list ps) i)) u w e).value in
    slice_get_within (pairs_list ps) i x.entry x.is
part_placed d (V.struct os) i u w e =
    let a = at_of (option_map (λ (f : Field). f.slot) (slice_get (fields_of d) i)) (field_at (optionals_list os) i) u w e in
    slice_get_within (optionals_list os) i (Some w) (field_is (optionals_list os) i w (slice_get (optionals_list os) i) refl a.value)
part_placed d (V.union n v) i u w e = first_member v i w (at_of (member_of d n) (member_at v i) u w e).value
part_placed d v i u w e = absurd (none-some {A = Slot × Value} (u, w) e)

-- ---- heights

value_height : (vs : Values) (i : ℕ) (w : Value) → slice_get (values_list vs) i ≡ Some w → height w ≤ values_height vs
value_height V.no_values i w e = absurd (none-some w e)
value_height (V.value v vs) zero w e = subst (λ x. height x ≤ values_height (V.value v vs)) (same_Some v w e) (omega arith)
value_height (V.value v vs) (suc i) w e = omega (arith, value_height vs i w e)

pub pair_height : (ps : Pairs) (i : ℕ) (p : List ℕ × Value) → slice_get (pairs_list ps) i ≡ Some p → height p.1 ≤ pairs_height ps
pair_height V.no_pairs i p e = absurd (none-some {A = List ℕ × Value} p e)
pair_height (V.pair k v ps) zero p e = subst (λ (x : List ℕ × Value). height x.1 ≤ pairs_height (V.pair k v ps)) (same_Some {A = List ℕ × Value} (k, v) p e) (omega arith)
pair_height (V.pair k v ps) (suc i) p e = omega (arith, pair_height ps i p e)

pub field_height : (os : Optionals) (i : ℕ) (w : Value) → slice_get (optionals_list os) i ≡ Some (Some w) → height w ≤ optionals_height os
field_height V.no_optionals i w e = absurd (none-some {A = Option Value} (Some w) e)
field_height (V.absent os) zero w e = absurd (none-some w (same_Some {A = Option Value} None (Some w) e))
field_height (V.absent os) (suc i) w e = field_height os i w e
field_height (V.present v os) zero w e = subst (λ x. height x ≤ optionals_height (V.present v os)) (same_Some v w (same_Some (Some v) (Some w) e)) (omega arith)
field_height (V.present v os) (suc i) w e = omega (arith, field_height os i w e)

-- parts nest less deep
pub part_lower : (d : Option TypeDef) (v : Value) (i : ℕ) (u : Slot) (w : Value) → value_part_at d v i ≡ Some (u, w) → height w < height v
part_lower d (V.list vs) i u w e = omega (arith, value_height vs i w (at_of (element_of d) (slice_get (values_list vs) i) u w e).value)
part_lower d (V.map ps) i u w e =
    let x = entry_of (pairs_list ps) i w (slice_get (pairs_list ps) i) refl (at_of (element_of d) (option_map (λ (p : List ℕ × Value). p.1) (slice_get (pairs_list ps) i)) u w e).value in
    let below : height w ≤ pairs_height ps = subst (λ y. height y ≤ pairs_height ps) x.value (pair_height ps i x.entry x.is) in
    omega arith
part_lower d (V.struct os) i u w e =
    let a = at_of (option_map (λ (f : Field). f.slot) (slice_get (fields_of d) i)) (field_at (optionals_list os) i) u w e in
    omega (arith, field_height os i w (field_is (optionals_list os) i w (slice_get (optionals_list os) i) refl a.value))
part_lower d (V.union n v) i u w e =
    let same : v ≡ w = only_member v i w (at_of (member_of d n) (member_at v i) u w e).value in
    subst (λ y. height y < height (V.union n v)) same (omega arith)
part_lower d v i u w e = absurd (none-some {A = Slot × Value} (u, w) e)

-- ---- tests of every layer

pub placed : (os : Option Slot) (ov : Option Value) (u : Slot) (w : Value) → os ≡ Some u → ov ≡ Some w → in_slot os ov ≡ Some (u, w)
placed os ov u w a b = ap (λ o. in_slot o ov) a ∙ ap (in_slot (Some u)) b

module _ (test : Option TypeDef → Value → Bool) (rows : List Row) where
  value_found : (u : Slot) (vs : Values) (i : ℕ) (w : Value) → slice_get (values_list vs) i ≡ Some w → some_layer test rows u w ≡ true → some_value test rows u vs ≡ true
  value_found u V.no_values i w e h = absurd (none-some w e)
  value_found u (V.value v vs) zero w e h = or_left (some_layer test rows u v) (some_value test rows u vs) (ap (some_layer test rows u) (same_Some v w e) ∙ h)
  value_found u (V.value v vs) (suc i) w e h = or_right (some_layer test rows u v) (some_value test rows u vs) (value_found u vs i w e h)

  pair_found : (u : Slot) (ps : Pairs) (i : ℕ) (p : List ℕ × Value) → slice_get (pairs_list ps) i ≡ Some p → some_layer test rows u p.1 ≡ true → some_pair test rows u ps ≡ true
  pair_found u V.no_pairs i p e h = absurd (none-some {A = List ℕ × Value} p e)
  pair_found u (V.pair k v ps) zero p e h =
      or_left (some_layer test rows u v) (some_pair test rows u ps) (ap (λ (q : List ℕ × Value). some_layer test rows u q.1) (same_Some {A = List ℕ × Value} (k, v) p e) ∙ h)
  pair_found u (V.pair k v ps) (suc i) p e h = or_right (some_layer test rows u v) (some_pair test rows u ps) (pair_found u ps i p e h)

  field_found : (fs : List Field) (os : Optionals) (i : ℕ) (f : Field) (w : Value) → slice_get fs i ≡ Some f → slice_get (optionals_list os) i ≡ Some (Some w)
      → some_layer test rows f.slot w ≡ true → some_field test rows fs os ≡ true
  field_found [] os i f w g e h = absurd (none-some f g)
  field_found (x ∷ fs) V.no_optionals i f w g e h = absurd (none-some {A = Option Value} (Some w) e)
  field_found (x ∷ fs) (V.absent os) zero f w g e h = absurd (none-some w (same_Some {A = Option Value} None (Some w) e))
  field_found (x ∷ fs) (V.absent os) (suc i) f w g e h = field_found fs os i f w g e h
  field_found (x ∷ fs) (V.present v os) zero f w g e h =
      or_left (some_layer test rows x.slot v) (some_field test rows fs os)
      (ap (λ (y : Field). some_layer test rows y.slot v) (same_Some x f g) ∙ ap (some_layer test rows f.slot) (same_Some v w (same_Some (Some v) (Some w) e)) ∙ h)
  field_found (x ∷ fs) (V.present v os) (suc i) f w g e h = or_right (some_layer test rows x.slot v) (some_field test rows fs os) (field_found fs os i f w g e h)

  given_true : (f : Slot → Bool) (o : Option Slot) (u : Slot) → o ≡ Some u → f u ≡ true → option_map_or f o false ≡ true
  given_true f o u e h = ap (λ x. option_map_or f x false) e ∙ h

  -- what one part has, the value has
  pub part_found : (s : Slot) (v : Value) (i : ℕ) (u : Slot) (w : Value) → value_part_at (form_of rows s) v i ≡ Some (u, w) → some_layer test rows u w ≡ true → some_layer test rows s v ≡ true
  part_found s (V.list vs) i u w e h =
      let d = form_of rows s in
      let a = at_of (element_of d) (slice_get (values_list vs) i) u w e in
      or_right (test d (V.list vs)) (option_map_or (λ x. some_value test rows x vs) (element_of d) false)
      (given_true (λ x. some_value test rows x vs) (element_of d) u a.slot (value_found u vs i w a.value h))
  part_found s (V.map ps) i u w e h =
      let d = form_of rows s in
      let a = at_of (element_of d) (option_map (λ (p : List ℕ × Value). p.1) (slice_get (pairs_list ps) i)) u w e in
      let x = entry_of (pairs_list ps) i w (slice_get (pairs_list ps) i) refl a.value in
      or_right (test d (V.map ps)) (option_map_or (λ y. some_pair test rows y ps) (element_of d) false)
      (given_true (λ y. some_pair test rows y ps) (element_of d) u a.slot (pair_found u ps i x.entry x.is (ap (some_layer test rows u) x.value ∙ h)))
  part_found s (V.struct os) i u w e h =
      let d = form_of rows s in
      let a = at_of (option_map (λ (f : Field). f.slot) (slice_get (fields_of d) i)) (field_at (optionals_list os) i) u w e in
      let x = field_slot_of (fields_of d) i u (slice_get (fields_of d) i) refl a.slot in
      or_right (test d (V.struct os)) (some_field test rows (fields_of d) os)
      (field_found (fields_of d) os i x.field w x.is (field_is (optionals_list os) i w (slice_get (optionals_list os) i) refl a.value) (ap (λ y. some_layer test rows y w) x.slot ∙ h))
  part_found s (V.union n v) i u w e h =
      let d = form_of rows s in
      let a = at_of (member_of d n) (member_at v i) u w e in
      or_right (test d (V.union n v)) (option_map_or (λ x. some_layer test rows x v) (member_of d n) false)
      (given_true (λ x. some_layer test rows x v) (member_of d n) u a.slot (ap (some_layer test rows u) (only_member v i w a.value) ∙ h))
  part_found s v i u w e h = absurd (none-some {A = Slot × Value} (u, w) e)

  values_none : (u : Slot) (vs : Values) → ((i : ℕ) (w : Value) → slice_get (values_list vs) i ≡ Some w → some_layer test rows u w ≡ false) → some_value test rows u vs ≡ false
  values_none u V.no_values all = refl
  values_none u (V.value v vs) all = or_from (some_layer test rows u v) (some_value test rows u vs) (all 0 v refl) (values_none u vs (λ i w e. all (suc i) w e))

  pairs_none : (u : Slot) (ps : Pairs) → ((i : ℕ) (p : List ℕ × Value) → slice_get (pairs_list ps) i ≡ Some p → some_layer test rows u p.1 ≡ false) → some_pair test rows u ps ≡ false
  pairs_none u V.no_pairs all = refl
  pairs_none u (V.pair k v ps) all = or_from (some_layer test rows u v) (some_pair test rows u ps) (all 0 (k, v) refl) (pairs_none u ps (λ i p e. all (suc i) p e))

  fields_none : (fs : List Field) (os : Optionals) → ((i : ℕ) (f : Field) (w : Value) → slice_get fs i ≡ Some f → slice_get (optionals_list os) i ≡ Some (Some w) → some_layer test rows f.slot w ≡ false)
      → some_field test rows fs os ≡ false
  fields_none fs V.no_optionals all = refl
  fields_none [] (V.absent os) all = refl
  fields_none [] (V.present v os) all = refl
  fields_none (f ∷ fs) (V.absent os) all = fields_none fs os (λ i g w a b. all (suc i) g w a b)
  fields_none (f ∷ fs) (V.present v os) all =
      or_from (some_layer test rows f.slot v) (some_field test rows fs os) (all 0 f v refl refl) (fields_none fs os (λ i g w a b. all (suc i) g w a b))

  given_none : (f : Slot → Bool) (o : Option Slot) → ((u : Slot) → o ≡ Some u → f u ≡ false) → option_map_or f o false ≡ false
  given_none f None all = refl
  given_none f (Some u) all = all u refl

  -- what neither the layer nor a part has, the value has not
  pub parts_none : (s : Slot) (v : Value) → test (form_of rows s) v ≡ false → ((i : ℕ) (u : Slot) (w : Value) → value_part_at (form_of rows s) v i ≡ Some (u, w) → some_layer test rows u w ≡ false)
      → some_layer test rows s v ≡ false
  parts_none s (V.list vs) here all =
      let d = form_of rows s in
      or_from (test d (V.list vs)) (option_map_or (λ x. some_value test rows x vs) (element_of d) false) here
      (given_none (λ x. some_value test rows x vs) (element_of d) (λ u is. values_none u vs (λ i w e. all i u w (placed (element_of d) (slice_get (values_list vs) i) u w is e))))
  parts_none s (V.map ps) here all =
      let d = form_of rows s in
      or_from (test d (V.map ps)) (option_map_or (λ y. some_pair test rows y ps) (element_of d) false) here
      (given_none (λ y. some_pair test rows y ps) (element_of d) (λ u is. pairs_none u ps (λ i p e.
      all i u p.1 (placed (element_of d) (option_map (λ (q : List ℕ × Value). q.1) (slice_get (pairs_list ps) i)) u p.1 is (ap (option_map (λ (q : List ℕ × Value). q.1)) e)))))
  parts_none s (V.struct os) here all =
      let d = form_of rows s in
      or_from (test d (V.struct os)) (some_field test rows (fields_of d) os) here
      (fields_none (fields_of d) os (λ i f w a b.
      all i f.slot w (placed (option_map (λ (g : Field). g.slot) (slice_get (fields_of d) i)) (field_at (optionals_list os) i) f.slot w (ap (option_map (λ (g : Field). g.slot)) a) (ap (option_and_then (λ (x : Option Value). x)) b))))
  parts_none s (V.union n v) here all =
      let d = form_of rows s in
      or_from (test d (V.union n v)) (option_map_or (λ x. some_layer test rows x v) (member_of d n) false) here
      (given_none (λ x. some_layer test rows x v) (member_of d n) (λ u is. all 0 u v (placed (member_of d n) (Some v) u v is refl)))
  parts_none s v here all = refl

  -- the same, where the form is known
  pub by_part : (s : Slot) (v : Value) (d : TypeDef) → form_of rows s ≡ Some d → (i : ℕ) (u : Slot) (w : Value) → value_part_at (Some d) v i ≡ Some (u, w) → some_layer test rows u w ≡ true
      → some_layer test rows s v ≡ true
  by_part s v d is i u w e h = part_found s v i u w (ap (λ o. value_part_at o v i) is ∙ e) h

  pub by_parts : (s : Slot) (v : Value) (d : TypeDef) → form_of rows s ≡ Some d → test (Some d) v ≡ false → (n : ℕ) → places v ≤ n
      → ((i : ℕ) (u : Slot) (w : Value) → i < n → value_part_at (Some d) v i ≡ Some (u, w) → some_layer test rows u w ≡ false) → some_layer test rows s v ≡ false
  by_parts s v d is here n le all =
      parts_none s v (ap (λ o. test o v) is ∙ here) (λ i u w e. let h = ap (λ o. value_part_at o v i) (sym is) ∙ e in all i u w (below (part_placed (Some d) v i u w h) le) h)
    where
      below : {i p m : ℕ} → i < p → p ≤ m → i < m
      below a b = omega arith

  pub struct_found : (s : Slot) (os : Optionals) (d : TypeDef) → form_of rows s ≡ Some d → test (Some d) (V.struct os) ≡ true → some_layer test rows s (V.struct os) ≡ true
  struct_found s os d is e = or_left (test (form_of rows s) (V.struct os)) (some_field test rows (fields_of (form_of rows s)) os) (ap (λ o. test o (V.struct os)) is ∙ e)

  pub map_found : (s : Slot) (ps : Pairs) (d : TypeDef) → form_of rows s ≡ Some d → test (Some d) (V.map ps) ≡ true → some_layer test rows s (V.map ps) ≡ true
  map_found s ps d is e =
      or_left (test (form_of rows s) (V.map ps)) (option_map_or (λ y. some_pair test rows y ps) (element_of (form_of rows s)) false) (ap (λ o. test o (V.map ps)) is ∙ e)

-- ---- what is known of all parts before a place

-- the same number, or less
pub below_next : (j i : ℕ) → j < i + 1 → (j < i) ⊎ (j ≡ i)
below_next j i h = by (nat_lt j i) refl
  where
    by : (b : Bool) → nat_lt j i ≡ b → (j < i) ⊎ (j ≡ i)
    by true e = inl (grind (arith, nat_tests, e))
    by false e = inr (grind (arith, nat_tests, e, h))

abbrev pub PartsBefore : (Slot → Value → Type 0) → TypeDef → Value → ℕ → Type 0
PartsBefore Q d v i = (j : ℕ) (u : Slot) (w : Value) → j < i → value_part_at (Some d) v j ≡ Some (u, w) → Q u w

pub parts_next : (Q : Slot → Value → Type 0) (d : TypeDef) (v : Value) (i : ℕ) (u : Slot) (w : Value) → value_part_at (Some d) v i ≡ Some (u, w) → Q u w → PartsBefore Q d v i → PartsBefore Q d v (i + 1)
parts_next Q d v i u w here q before j x y h e = by (below_next j i h)
  where
    by : (j < i) ⊎ (j ≡ i) → Q x y
    by (inl less) = before j x y less e
    by (inr same) =
        let both : (u, w) ≡ (x, y) = same_Some {A = Slot × Value} (u, w) (x, y) (sym here ∙ ap (value_part_at (Some d) v) (sym same) ∙ e) in
        subst (λ (p : Slot × Value). Q p.0 p.1) both q

pub parts_absent : (Q : Slot → Value → Type 0) (d : TypeDef) (v : Value) (i : ℕ) → value_part_at (Some d) v i ≡ None → PartsBefore Q d v i → PartsBefore Q d v (i + 1)
parts_absent Q d v i here before j x y h e = by (below_next j i h)
  where
    by : (j < i) ⊎ (j ≡ i) → Q x y
    by (inl less) = before j x y less e
    by (inr same) = absurd (none-some {A = Slot × Value} (x, y) (sym here ∙ ap (value_part_at (Some d) v) (sym same) ∙ e))
