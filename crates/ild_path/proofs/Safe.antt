-- The slot to which a part comes: null stands for null alone there.
use Rattle.std.proofs.Common.{◌≡◌, ℕ, Bool, true, false, is_some, if◌then◌else◌, List, [], ◌∷◌, length, slice_get, Option, Some, None, option_map, option_and_then, refl, ap, subst}
use Rattle.std.specs.List.{AllByRecursion}
use Rattle.std.proofs.lemmas.Option.{none-some, same_Some}
use Rattle.ild_data.specs.Data as T
use Rattle.ild_data.specs.Data.{Data}
use Rattle.ild_data.specs.Key.{same_text, value_at}
use Rattle.ild_path_edits.specs.Edit.{Edit, del_at, ins_at, new_slot, set_at}
use Rattle.ild_path_edits.specs.Table.{declared_slot, if_absent, new_index, slot_left_out, slot_to_insert, slot_to_set}
use Rattle.ild_schema.specs.Clear.{AreSafe, IsClear, IsSafe}
use Rattle.ild_schema.specs.Copies.{base}
use Rattle.ild_schema.specs.DataKinds.{kind_in}
use Rattle.ild_schema.specs.Prelude.{anything}
use Rattle.ild_schema.specs.Slots.{form_of, plainly}
use Rattle.ild_schema.specs.Value as V
use Rattle.ild_schema.specs.Value.{Optionals, Pairs, Value, Values}
use Rattle.ild_schema.specs.declared.def.Field.{Field}
use Rattle.ild_schema.specs.declared.def.KindWord.TheVariants as K
use Rattle.ild_schema.specs.declared.def.Member.{Member}
use Rattle.ild_schema.specs.declared.def.TypeDef.{TypeDef}
use Rattle.ild_schema.specs.declared.def.TypeDef.TheVariants as D
use Rattle.ild_schema.specs.declared.number.Slot.{Slot}
use Rattle.ild_schema.specs.declared.row.Row.{Row}
use Rattle.ild_typed.specs.At.{InSlot, last_holder, seen}
use Rattle.ild_typed.specs.Holder.{Holder, any_elements, any_entries, any_holder, elements, entries, fields, holder_of, list_holder, map_holder, member, nothing, struct_holder, union_holder}
use Rattle.ild_typed.specs.Segment.{index_of, member_named, part}
use Rattle.ild_typed.proofs.OneValue.{plain_safe}

-- the slots that a type gives to the parts of a holder
abbrev AllSafe : List Row → Holder → Type 0
AllSafe rows (fields fs os) = AllByRecursion (λ f. IsSafe rows f.slot) fs
AllSafe rows (entries key slot paired ps) = IsSafe rows slot
AllSafe rows (elements slot vs) = IsSafe rows slot
AllSafe rows (member ms n v) = Unit {0}
AllSafe rows (any_entries ms) = Unit {0}
AllSafe rows (any_elements ds) = Unit {0}
AllSafe rows (nothing v) = Unit {0}

module _ (rows : List Row) (clear : IsClear rows) (any_there : form_of rows anything ≡ Some D.Any) where
  -- ---- of the parts of a value

  safe_in : (s : Slot) (d : TypeDef) → form_of rows s ≡ Some d → AreSafe rows d
  safe_in s d form = clear.parts (base rows s.ty.0) d form

  list_safe : (s : Slot) (o : Option TypeDef) (vs : Values) → form_of rows s ≡ o → AllSafe rows (list_holder o vs)
  list_safe s None vs form = tt
  list_safe s (Some (D.List elem at)) vs form = safe_in s (D.List elem at) form
  list_safe s (Some d) vs form = tt

  map_safe : (s : Slot) (o : Option TypeDef) (ps : Pairs) → form_of rows s ≡ o → AllSafe rows (map_holder o ps)
  map_safe s None ps form = tt
  map_safe s (Some (D.Map key key_at value at f)) ps form = safe_in s (D.Map key key_at value at f) form
  map_safe s (Some d) ps form = tt

  struct_safe : (s : Slot) (o : Option TypeDef) (os : Optionals) → form_of rows s ≡ o → AllSafe rows (struct_holder o os)
  struct_safe s None os form = tt
  struct_safe s (Some (D.Struct r)) os form = safe_in s (D.Struct r) form
  struct_safe s (Some d) os form = tt

  union_safe : (o : Option TypeDef) (n : ℕ) (v : Value) → AllSafe rows (union_holder o n v)
  union_safe None n v = tt
  union_safe (Some (D.Union u)) n v = tt
  union_safe (Some d) n v = tt

  inside_safe : (d : Data) → AllSafe rows (any_holder d)
  inside_safe (T.list ds) = tt
  inside_safe (T.map ms) = tt
  inside_safe d = tt

  seen_safe : (s : Slot) (v : Value) → AllSafe rows (holder_of rows s v)
  seen_safe s (V.list vs) = list_safe s (form_of rows s) vs refl
  seen_safe s (V.map ps) = map_safe s (form_of rows s) ps refl
  seen_safe s (V.struct os) = struct_safe s (form_of rows s) os refl
  seen_safe s (V.union n v) = union_safe (form_of rows s) n v
  seen_safe s (V.any d) = inside_safe d
  seen_safe s v = tt

  last_safe : (p : InSlot) (s : List ℕ) (ss : List (List ℕ)) (l : Holder × List ℕ) → last_holder rows p s ss ≡ Some l → AllSafe rows l.0
  last_safe p s [] l is = subst (λ (x : Holder × List ℕ). AllSafe rows x.0) (same_Some (seen rows p, s) l is) (seen_safe p.0 p.1)
  last_safe p s (t ∷ ss) l is = by (λ q. last_safe q t ss l) (part (seen rows p) s) is where
    by : ((q : InSlot) → last_holder rows q t ss ≡ Some l → AllSafe rows l.0) → (o : Option InSlot) → option_and_then (λ q. last_holder rows q t ss) o ≡ Some l → AllSafe rows l.0
    by later None e = absurd (none-some l e)
    by later (Some q) e = later q e

  -- ---- of what comes

  any_safe : IsSafe rows anything
  any_safe e = ap (λ o. kind_in o K.Null) any_there

  one_safe : (x slot : Slot) → IsSafe rows x → Some x ≡ Some slot → IsSafe rows slot
  one_safe x slot safe e = subst (IsSafe rows) (same_Some x slot e) safe

  mapped_safe : {A : Type 0} (x : Slot) (o : Option A) (slot : Slot) → IsSafe rows x → option_map (λ a. x) o ≡ Some slot → IsSafe rows slot
  mapped_safe x None slot safe e = absurd (none-some slot e)
  mapped_safe x (Some a) slot safe e = one_safe x slot safe e

  unless_safe : (b : Bool) (x slot : Slot) → IsSafe rows x → (if b then None else Some x) ≡ Some slot → IsSafe rows slot
  unless_safe true x slot safe e = absurd (none-some slot e)
  unless_safe false x slot safe e = one_safe x slot safe e

  member_safe : (o : Option (ℕ × Member)) (slot : Slot) → option_map (λ (p : ℕ × Member). plainly (p.1).ty) o ≡ Some slot → IsSafe rows slot
  member_safe None slot e = absurd (none-some slot e)
  member_safe (Some p) slot e = one_safe (plainly (p.1).ty) slot (plain_safe rows (plainly (p.1).ty) refl) e

  absent_safe : (s : Slot) (b : Bool) (o : Option Value) (slot : Slot) → IsSafe rows s → if_absent s b o ≡ Some slot → IsSafe rows slot
  absent_safe s b (Some v) slot safe e = absurd (none-some slot e)
  absent_safe s true None slot safe e = one_safe s slot safe e
  absent_safe s false None slot safe e = absurd (none-some slot e)

  declared_safe : (name : List ℕ) (fs : List Field) (os : List (Option Value)) (slot : Slot) → AllByRecursion (λ f. IsSafe rows f.slot) fs → declared_slot name fs os ≡ Some slot → IsSafe rows slot
  declared_safe name [] os slot all e = absurd (none-some slot e)
  declared_safe name (f ∷ fs) [] slot all e = absurd (none-some slot e)
  declared_safe name (f ∷ fs) (o ∷ os) slot all e = by (declared_safe name fs os slot all.1) (same_text name f.name) e where
    by : (declared_slot name fs os ≡ Some slot → IsSafe rows slot) → (b : Bool) → (if b then Some f.slot else declared_slot name fs os) ≡ Some slot → IsSafe rows slot
    by later true g = one_safe f.slot slot all.0 g
    by later false g = later g

  left_safe : (name : List ℕ) (fs : List Field) (os : List (Option Value)) (slot : Slot) → AllByRecursion (λ f. IsSafe rows f.slot) fs → slot_left_out name fs os ≡ Some slot → IsSafe rows slot
  left_safe name [] os slot all e = absurd (none-some slot e)
  left_safe name (f ∷ fs) [] slot all e = absurd (none-some slot e)
  left_safe name (f ∷ fs) (o ∷ os) slot all e = by (left_safe name fs os slot all.1) (same_text name f.name) e where
    by : (slot_left_out name fs os ≡ Some slot → IsSafe rows slot) → (b : Bool) → (if b then if_absent f.slot f.optional o else slot_left_out name fs os) ≡ Some slot → IsSafe rows slot
    by later true g = absent_safe f.slot f.optional o slot all.0 g
    by later false g = later g

  set_safe : (h : Holder) (s : List ℕ) (slot : Slot) → AllSafe rows h → slot_to_set h s ≡ Some slot → IsSafe rows slot
  set_safe (fields fs os) s slot all e = declared_safe s fs os slot all e
  set_safe (member ms n v) s slot all e = member_safe (member_named s ms) slot e
  set_safe (entries key x paired ps) s slot all e = one_safe x slot all e
  set_safe (elements x vs) s slot all e = mapped_safe x (option_and_then (λ i. slice_get vs i) (index_of s)) slot all e
  set_safe (any_entries ms) s slot all e = one_safe anything slot (any_safe) e
  set_safe (any_elements ds) s slot all e = mapped_safe anything (option_and_then (λ i. slice_get ds i) (index_of s)) slot (any_safe) e
  set_safe (nothing v) s slot all e = absurd (none-some slot e)

  insert_safe : (h : Holder) (s : List ℕ) (slot : Slot) → AllSafe rows h → slot_to_insert h s ≡ Some slot → IsSafe rows slot
  insert_safe (fields fs os) s slot all e = left_safe s fs os slot all e
  insert_safe (member ms n v) s slot all e = absurd (none-some slot e)
  insert_safe (entries key x paired ps) s slot all e = unless_safe (is_some (value_at s ps)) x slot all e
  insert_safe (elements x vs) s slot all e = mapped_safe x (new_index (length vs) s) slot all e
  insert_safe (any_entries ms) s slot all e = unless_safe (is_some (value_at s ms)) anything slot (any_safe) e
  insert_safe (any_elements ds) s slot all e = mapped_safe anything (new_index (length ds) s) slot (any_safe) e
  insert_safe (nothing v) s slot all e = absurd (none-some slot e)

  by_last : (f : Holder → List ℕ → Option Slot) → ((h : Holder) (s : List ℕ) (slot : Slot) → AllSafe rows h → f h s ≡ Some slot → IsSafe rows slot) → (p : InSlot) (s : List ℕ) (ss : List (List ℕ)) (slot : Slot)
      → option_and_then (λ (l : Holder × List ℕ). f l.0 l.1) (last_holder rows p s ss) ≡ Some slot → IsSafe rows slot
  by_last f safe p s ss slot is = by (last_holder rows p s ss) refl is where
    by : (o : Option (Holder × List ℕ)) → last_holder rows p s ss ≡ o → option_and_then (λ (l : Holder × List ℕ). f l.0 l.1) o ≡ Some slot → IsSafe rows slot
    by None there e = absurd (none-some slot e)
    by (Some l) there e = safe l.0 l.1 slot (last_safe p s ss l there) e

  pub new_safe : (p : InSlot) (e : Edit Value) (slot : Slot) → IsSafe rows p.0 → new_slot rows p e ≡ Some slot → IsSafe rows slot
  new_safe p (set_at [] w) slot own is = one_safe p.0 slot own is
  new_safe p (set_at (s ∷ ss) w) slot own is = by_last slot_to_set set_safe p s ss slot is
  new_safe p (ins_at [] w) slot own is = absurd (none-some slot is)
  new_safe p (ins_at (s ∷ ss) w) slot own is = by_last slot_to_insert insert_safe p s ss slot is
  new_safe p (del_at path) slot own is = absurd (none-some slot is)
