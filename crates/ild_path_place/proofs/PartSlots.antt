-- The slots of parts are of types of the table, and null, where it may stand in them, stands for null alone.
use Rattle.std.proofs.Common.{◌≡◌, ℕ, suc, List, [], ◌∷◌, length, Bool, true, false, cond, Option, Some, None, Result, Ok, Err, option_map, slice_get, refl, sym, ◌∙◌, subst, arith}
use Rattle.std.proofs.Math.Logic.{∥∥₁_elim}
use Rattle.std.proofs.Props.{props}
use Rattle.std.specs.Prelude.{IfOk, option_and_then, is_some}
use Rattle.std.proofs.lemmas.Option.{get_or_from_slice_get, none-some, same_Some, slice_get_within}
use Rattle.ild_data.specs.Data as T
use Rattle.ild_data.specs.Data.{Data, items_list, members_list}
use Rattle.ild_data.specs.Key.{same_text, value_at}
use Rattle.ild_path_edits.specs.Table.{declared_slot, if_absent, new_index, slot_left_out, slot_to_insert, slot_to_set}
use Rattle.ild_path_place.specs.inside.Slots.{IsPartSlot, IsSlotOr, KeySlot}
use Rattle.ild_path_rules.specs.declared.delete.Refusal.{Refusal}
use Rattle.ild_path_place.specs.declared.verb.Verb.{Verb}
use Rattle.ild_path_place.specs.declared.verb.Verb.TheVariants as V
use Rattle.ild_schema.specs.Legible.{IsLegible}
use Rattle.ild_schema.specs.Copies.{base}
use Rattle.ild_schema.specs.Prelude.{anything}
use Rattle.ild_schema.specs.Slots.{form_of, plainly}
use Rattle.ild_schema.specs.Table.{IsTable, IsWithin}
use Rattle.ild_schema.specs.Value.{Value, Optionals, Pairs, Values, any, list, map, optionals_list, pairs_list, struct, union, values_list}
use Rattle.ild_schema.specs.declared.def.Field.{Field}
use Rattle.ild_schema.specs.declared.def.Member.{Member}
use Rattle.ild_schema.specs.declared.def.StructDef.{StructDef}
use Rattle.ild_schema.specs.declared.def.TypeDef.{TypeDef}
use Rattle.ild_schema.specs.declared.def.TypeDef.TheVariants as D
use Rattle.ild_schema.specs.declared.def.UnionDef.{UnionDef}
use Rattle.ild_schema.specs.declared.number.Slot.{Slot}
use Rattle.ild_schema.specs.declared.row.Row.{Row}
use Rattle.ild_typed.specs.At.{seen}
use Rattle.ild_typed.specs.Holder.{any_holder, holder_of, list_holder, map_holder, struct_holder, union_holder}
use Rattle.ild_typed.specs.Segment.{index_of, member_named, next_member}
use Rattle.ild_view.proofs.Placing.{anything_safe, element_in, element_is_safe, field_in, field_is_safe, member_in, member_is_safe, value_is_safe}
use Rattle.ild_view.specs.View.{IsView, slot_of, table_of}
use Rattle.ild_view.specs.declared.view.View.{View}

-- ---- what is found by a name

constant : {A B : Type 0} (b u : B) (o : Option A) → option_map (λ (x : A). b) o ≡ Some u → b ≡ u
constant b u None e = absurd (none-some u e)
constant b u (Some x) e = same_Some b u e

unless_there : {B : Type 0} (b u : B) (there : Bool) → cond there None (Some b) ≡ Some u → b ≡ u
unless_there b u true e = absurd (none-some u e)
unless_there b u false e = same_Some b u e

-- a field of a slot
record FieldOf (fs : List Field) (u : Slot) : Type 0 where
  place : ℕ
  field : Field
  there : slice_get fs place ≡ Some field
  slot_is : field.slot ≡ u

later_field : (f : Field) (fs : List Field) (u : Slot) → FieldOf fs u → FieldOf (f ∷ fs) u
later_field f fs u x = record { place = suc x.place; field = x.field; there = x.there; slot_is = x.slot_is }

declared_field : (name : List ℕ) (fs : List Field) (os : List (Option Value)) (u : Slot) → declared_slot name fs os ≡ Some u → FieldOf fs u
declared_field name [] os u e = absurd (none-some u e)
declared_field name (f ∷ fs) [] u e = absurd (none-some u e)
declared_field name (f ∷ fs) (o ∷ os) u e = by (same_text name f.name) (declared_field name fs os u) e where
  by : (b : Bool) → (declared_slot name fs os ≡ Some u → FieldOf fs u) → cond b (Some f.slot) (declared_slot name fs os) ≡ Some u → FieldOf (f ∷ fs) u
  by true rest is = record { place = 0; field = f; there = refl; slot_is = same_Some f.slot u is }
  by false rest is = later_field f fs u (rest is)

absent_slot : (s u : Slot) (optional : Bool) (o : Option Value) → if_absent s optional o ≡ Some u → s ≡ u
absent_slot s u optional (Some v) e = absurd (none-some u e)
absent_slot s u true None e = same_Some s u e
absent_slot s u false None e = absurd (none-some u e)

left_out_field : (name : List ℕ) (fs : List Field) (os : List (Option Value)) (u : Slot) → slot_left_out name fs os ≡ Some u → FieldOf fs u
left_out_field name [] os u e = absurd (none-some u e)
left_out_field name (f ∷ fs) [] u e = absurd (none-some u e)
left_out_field name (f ∷ fs) (o ∷ os) u e = by (same_text name f.name) (left_out_field name fs os u) e where
  by : (b : Bool) → (slot_left_out name fs os ≡ Some u → FieldOf fs u) → cond b (if_absent f.slot f.optional o) (slot_left_out name fs os) ≡ Some u → FieldOf (f ∷ fs) u
  by true rest is = record { place = 0; field = f; there = refl; slot_is = absent_slot f.slot u f.optional o is }
  by false rest is = later_field f fs u (rest is)

-- a member of a slot
record MemberOf (ms : List Member) (u : Slot) : Type 0 where
  place : ℕ
  member : Member
  there : slice_get ms place ≡ Some member
  slot_is : plainly member.ty ≡ u

abbrev slot_of_member : ℕ × Member → Slot
slot_of_member p = plainly (p.1).ty

named_member : (name : List ℕ) (ms : List Member) (u : Slot) → option_map slot_of_member (member_named name ms) ≡ Some u → MemberOf ms u
named_member name [] u e = absurd (none-some u e)
named_member name (m ∷ ms) u e = by (same_text name m.name) (named_member name ms u) e where
  later : (o : Option (ℕ × Member)) → option_map slot_of_member (option_map next_member o) ≡ Some u → option_map slot_of_member o ≡ Some u
  later None is = is
  later (Some p) is = is

  by : (b : Bool) → (option_map slot_of_member (member_named name ms) ≡ Some u → MemberOf ms u) → option_map slot_of_member (cond b (Some (0, m)) (option_map next_member (member_named name ms))) ≡ Some u
      → MemberOf (m ∷ ms) u
  by true rest is = record { place = 0; member = m; there = refl; slot_is = same_Some (plainly m.ty) u is }
  by false rest is = let x = rest (later (member_named name ms) is) in record { place = suc x.place; member = x.member; there = x.there; slot_is = x.slot_is }

-- ---- the slots of a table

module _ (rows : List Row) (table : IsTable rows) (legible : IsLegible rows) (s : Slot) where
  within_form : (d : TypeDef) → form_of rows s ≡ Some d → IsWithin (length rows) d
  within_form d e = by (base rows s.ty.0) (slice_get rows (base rows s.ty.0)) refl e where
    by : (n : ℕ) (o : Option Row) → slice_get rows n ≡ o → option_map (λ (r : Row). r.def) o ≡ Some d → IsWithin (length rows) d
    by n None is h = absurd (none-some d h)
    by n (Some r) is h =
        let P : Row → Type 0 = λ q. IsWithin (length rows) q.def in
        subst (IsWithin (length rows)) (same_Some r.def d h) (subst P (get_or_from_slice_get rows n r r is) (table.within n r (slice_get_within rows n r is)))

  any_part : (u : Slot) → anything ≡ u → IsPartSlot rows u
  any_part u e = subst (IsPartSlot rows) e (element_in rows table legible s D.Any (omega arith, λ k d less. absurd (omega (arith, less))) anything refl, anything_safe rows table legible s)

  element_part : (elem : Slot) (at : ℕ) → form_of rows s ≡ Some (D.List elem at) → (u : Slot) → elem ≡ u → IsPartSlot rows u
  element_part elem at known u e =
      subst (IsPartSlot rows) e
      (element_in rows table legible s (D.List elem at) (within_form (D.List elem at) known) elem refl, element_is_safe rows table legible s (D.List elem at) known elem refl)

  field_part : (def : StructDef) → form_of rows s ≡ Some (D.Struct def) → (u : Slot) → FieldOf def.fields u → IsPartSlot rows u
  field_part def known u x =
      subst (IsPartSlot rows) x.slot_is
      (field_in rows legible s def known x.place x.field x.there (within_form (D.Struct def) known), field_is_safe rows legible s def known x.place x.field x.there)

  member_part : (def : UnionDef) → form_of rows s ≡ Some (D.Union def) → (u : Slot) → MemberOf def.members u → IsPartSlot rows u
  member_part def known u x =
      subst (IsPartSlot rows) x.slot_is
      (member_in rows legible s def known x.place x.member x.there (within_form (D.Union def) known), member_is_safe rows legible s def known x.member)

  -- ---- of the part that is set

  set_list : (vs : Values) (k : List ℕ) (u : Slot) (o : Option TypeDef) → form_of rows s ≡ o → slot_to_set (list_holder o vs) k ≡ Some u → IsPartSlot rows u
  set_list vs k u (Some (D.List elem at)) known e = element_part elem at known u (constant elem u (option_and_then (λ i. slice_get (values_list vs) i) (index_of k)) e)
  set_list vs k u o known e = absurd (none-some u e)

  set_map : (ps : Pairs) (k : List ℕ) (u : Slot) (o : Option TypeDef) → form_of rows s ≡ o → slot_to_set (map_holder o ps) k ≡ Some u → IsPartSlot rows u
  set_map ps k u (Some (D.Map key key_at value at form)) known e =
      let w = within_form (D.Map key key_at value at form) known in
      subst (IsPartSlot rows) (same_Some value u e) (w.1 1 0 (omega arith), value_is_safe rows table legible s key key_at value at form known)
  set_map ps k u o known e = absurd (none-some u e)

  set_struct : (os : Optionals) (k : List ℕ) (u : Slot) (o : Option TypeDef) → form_of rows s ≡ o → slot_to_set (struct_holder o os) k ≡ Some u → IsPartSlot rows u
  set_struct os k u (Some (D.Struct def)) known e = field_part def known u (declared_field k def.fields (optionals_list os) u e)
  set_struct os k u o known e = absurd (none-some u e)

  set_union : (n : ℕ) (v : Value) (k : List ℕ) (u : Slot) (o : Option TypeDef) → form_of rows s ≡ o → slot_to_set (union_holder o n v) k ≡ Some u → IsPartSlot rows u
  set_union n v k u (Some (D.Union def)) known e = member_part def known u (named_member k def.members u e)
  set_union n v k u o known e = absurd (none-some u e)

  set_any : (d : Data) (k : List ℕ) (u : Slot) → slot_to_set (any_holder d) k ≡ Some u → IsPartSlot rows u
  set_any (T.list ds) k u e = any_part u (constant anything u (option_and_then (λ i. slice_get (items_list ds) i) (index_of k)) e)
  set_any (T.map ms) k u e = any_part u (same_Some anything u e)
  set_any d k u e = absurd (none-some u e)

  set_part_slot : (v : Value) (k : List ℕ) (u : Slot) → slot_to_set (holder_of rows s v) k ≡ Some u → IsPartSlot rows u
  set_part_slot (list vs) k u e = set_list vs k u (form_of rows s) refl e
  set_part_slot (map ps) k u e = set_map ps k u (form_of rows s) refl e
  set_part_slot (struct os) k u e = set_struct os k u (form_of rows s) refl e
  set_part_slot (union n v) k u e = set_union n v k u (form_of rows s) refl e
  set_part_slot (any d) k u e = set_any d k u e
  set_part_slot v k u e = absurd (none-some u e)

  -- ---- of the part that is inserted

  insert_list : (vs : Values) (k : List ℕ) (u : Slot) (o : Option TypeDef) → form_of rows s ≡ o → slot_to_insert (list_holder o vs) k ≡ Some u → IsPartSlot rows u
  insert_list vs k u (Some (D.List elem at)) known e = element_part elem at known u (constant elem u (new_index (length (values_list vs)) k) e)
  insert_list vs k u o known e = absurd (none-some u e)

  insert_map : (ps : Pairs) (k : List ℕ) (u : Slot) (o : Option TypeDef) → form_of rows s ≡ o → slot_to_insert (map_holder o ps) k ≡ Some u → IsPartSlot rows u
  insert_map ps k u (Some (D.Map key key_at value at form)) known e =
      let w = within_form (D.Map key key_at value at form) known in
      subst (IsPartSlot rows) (unless_there value u (is_some (value_at k (pairs_list ps))) e) (w.1 1 0 (omega arith), value_is_safe rows table legible s key key_at value at form known)
  insert_map ps k u o known e = absurd (none-some u e)

  insert_struct : (os : Optionals) (k : List ℕ) (u : Slot) (o : Option TypeDef) → form_of rows s ≡ o → slot_to_insert (struct_holder o os) k ≡ Some u → IsPartSlot rows u
  insert_struct os k u (Some (D.Struct def)) known e = field_part def known u (left_out_field k def.fields (optionals_list os) u e)
  insert_struct os k u o known e = absurd (none-some u e)

  insert_union : (n : ℕ) (v : Value) (k : List ℕ) (u : Slot) (o : Option TypeDef) → slot_to_insert (union_holder o n v) k ≡ Some u → IsPartSlot rows u
  insert_union n v k u (Some (D.Union def)) e = absurd (none-some u e)
  insert_union n v k u o e = absurd (none-some u e)

  insert_any : (d : Data) (k : List ℕ) (u : Slot) → slot_to_insert (any_holder d) k ≡ Some u → IsPartSlot rows u
  insert_any (T.list ds) k u e = any_part u (constant anything u (new_index (length (items_list ds)) k) e)
  insert_any (T.map ms) k u e = any_part u (unless_there anything u (is_some (value_at k (members_list ms))) e)
  insert_any d k u e = absurd (none-some u e)

  insert_part_slot : (v : Value) (k : List ℕ) (u : Slot) → slot_to_insert (holder_of rows s v) k ≡ Some u → IsPartSlot rows u
  insert_part_slot (list vs) k u e = insert_list vs k u (form_of rows s) refl e
  insert_part_slot (map ps) k u e = insert_map ps k u (form_of rows s) refl e
  insert_part_slot (struct os) k u e = insert_struct os k u (form_of rows s) refl e
  insert_part_slot (union n v) k u e = insert_union n v k u (form_of rows s) e
  insert_part_slot (any d) k u e = insert_any d k u e
  insert_part_slot v k u e = absurd (none-some u e)

-- ---- of a view

-- whatever the view stands for
viewed : (v : View) (u : Slot) → ((f : Value) → IsView v f → IsPartSlot (table_of v) u) → IsPartSlot (table_of v) u
viewed v u all = (
  ∥∥₁_elim v.stands (hlevel props) (λ x. (all x.value (record { room = x.room; tree = x.tree; stands = x.stands; front = x.front })).0),
  ∥∥₁_elim v.stands (hlevel props) (λ x. (all x.value (record { room = x.room; tree = x.tree; stands = x.stands; front = x.front })).1),
)

module _ (v : View) (table : IsTable (table_of v)) (legible : IsLegible (table_of v)) (k : List ℕ) (o : Option Slot) where
  pub set_fits : ((f : Value) → IsView v f → o ≡ slot_to_set (seen (table_of v) (slot_of v, f)) k) → (r : Result Slot Refusal) → IsSlotOr o r → IfOk r (IsPartSlot (table_of v))
  set_fits all (Ok u) is = viewed v u (λ f x. set_part_slot (table_of v) table legible (slot_of v) f k u (sym (all f x) ∙ is))
  set_fits all (Err e) is = tt

  pub insert_fits : ((f : Value) → IsView v f → o ≡ slot_to_insert (seen (table_of v) (slot_of v, f)) k) → (r : Result Slot Refusal) → IsSlotOr o r → IfOk r (IsPartSlot (table_of v))
  insert_fits all (Ok u) is = viewed v u (λ f x. insert_part_slot (table_of v) table legible (slot_of v) f k u (sym (all f x) ∙ is))
  insert_fits all (Err e) is = tt

-- of a view of a part
pub part_fits : (v w : View) (u : Slot) → table_of w ≡ table_of v → u ≡ slot_of w → IsPartSlot (table_of v) u
part_fits v w u table is = subst (IsPartSlot (table_of v)) (sym is) (subst (λ r. IsPartSlot r (slot_of w)) table (w.within, w.safe))

-- of the values of a HAMT
pub key_fits : (rows : List Row) (slot : Slot) → IsPartSlot rows slot → (there : Bool) (verb : Verb) (r : Result Slot Refusal) → KeySlot slot there verb r → IfOk r (IsPartSlot rows)
key_fits rows slot own there V.Set r is = subst (λ (z : Result Slot Refusal). IfOk z (IsPartSlot rows)) (sym is) own
key_fits rows slot own true V.Ins r is = subst (λ (z : Result Slot Refusal). IfOk z (IsPartSlot rows)) (sym is) tt
key_fits rows slot own false V.Ins r is = subst (λ (z : Result Slot Refusal). IfOk z (IsPartSlot rows)) (sym is) own
key_fits rows slot own true V.Del r is = subst (λ (z : Result Slot Refusal). IfOk z (IsPartSlot rows)) (sym is) own
key_fits rows slot own false V.Del r is = subst (λ (z : Result Slot Refusal). IfOk z (IsPartSlot rows)) (sym is) tt
