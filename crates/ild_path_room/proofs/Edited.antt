-- A holder with room, in which a part is set, inserted or deleted: it has room exactly where the new part does, and the key.
use Rattle.std.proofs.Common.{cond, ◌≡◌, ℕ, zero, suc, ◌-◌, ◌≤◌, List, [], ◌∷◌, length, slice_get, Bool, true, false, Option, Some, None, refl, ap, sym, subst}
use Rattle.std.specs.Prelude.{IsSomeAnd, is_some, slice_set, insert, remove, option_map, option_and_then}
use Rattle.std.specs.Option.{option_map_or}
use Rattle.std.specs.List.{AllByRecursion}
use Rattle.std.proofs.lemmas.Option.{same_Some, none-some}
use Rattle.ild_data.specs.Data as D
use Rattle.ild_data.specs.Data.{Data, depth}
use Rattle.ild_data.specs.Key.{same_text, value_at}
use Rattle.ild_schema.specs.declared.def.Field.{Field}
use Rattle.ild_schema.specs.declared.def.Member.{Member}
use Rattle.ild_schema.specs.declared.number.Slot.{Slot}
use Rattle.ild_schema.specs.declared.row.Row.{Row}
use Rattle.ild_schema.specs.Prelude.{anything}
use Rattle.ild_schema.specs.Slots.{form_of, plainly}
use Rattle.ild_schema.specs.Value.{Value}
use Rattle.ild_typed.specs.Holder.{Holder, fields, member, entries, elements, any_entries, any_elements, nothing, of_any, data_in}
use Rattle.ild_typed.specs.Segment.{part, set_part, set_field, field_at, index_of, member_named, held_as, at_index}
use Rattle.ild_typed.specs.At.{InSlot}
use Rattle.ild_typed.specs.Fits.{Fits}
use Rattle.ild_typed.specs.OfType.{OfType}
use Rattle.ild_value_meaning.proofs.Members.{member-named}
use Rattle.ild_path_edits.specs.Along.{taken}
use Rattle.ild_path_edits.specs.Table.{declared_slot, slot_to_set, if_absent, slot_left_out, slot_to_insert, new_index, insert_part, delete_part}
use Rattle.ild_path_edits.proofs.Entries.{put_by-there}
use Rattle.ild_path_edits.proofs.HeldTyped.{with_slot, inside_any, slot_given, indexed, held_is, new_key}
use Rattle.ild_path_edits.proofs.Typing.{each_got, each_with, each_inserted, each_removed, each_at, each_by, each_put, each_without, each_found}
use Rattle.ild_path_room.specs.Room.{KeyFits}
use Rattle.ild_build.proofs.RoomParts.{null_room}
use Rattle.ild_path_room.proofs.Depths.{Shallow, ShallowEntry}
use Rattle.ild_path_room.proofs.Roomy.{EachPresent, Left, EntryLeft, IsRoomy, any_fits, depth_in}

-- ---- fields

module _ (P : Slot → Value → Type 0) where
  declared_first : (s : List ℕ) (w : Value) (f : Field) (fs : List Field) (o : Option Value) (os : List (Option Value)) (r : Slot) (b : Bool) → EachPresent P (f ∷ fs) (o ∷ os)
      → cond b (Some f.slot) (declared_slot s fs os) ≡ Some r → P r w → (declared_slot s fs os ≡ Some r → EachPresent P fs (set_field s (Some w) fs os))
      → EachPresent P (f ∷ fs) (cond b (Some w ∷ os) (o ∷ set_field s (Some w) fs os))
  declared_first s w f fs o os r true h e n rest = (subst (λ r. P r w) (sym (same_Some f.slot r e)) n, h.1)
  declared_first s w f fs o os r false h e n rest = (h.0, rest e)

  declared_set : (s : List ℕ) (w : Value) (fs : List Field) (os : List (Option Value)) (r : Slot) → EachPresent P fs os → declared_slot s fs os ≡ Some r → P r w → EachPresent P fs (set_field s (Some w) fs os)
  declared_set s w [] os r h e n = tt
  declared_set s w (f ∷ fs) [] r h e n = tt
  declared_set s w (f ∷ fs) (o ∷ os) r h e n = declared_first s w f fs o os r (same_text s f.name) h e n (λ g. declared_set s w fs os r h.1 g n)

  field_first : (s : List ℕ) (f : Field) (fs : List Field) (o : Option Value) (os : List (Option Value)) (q : InSlot) (b : Bool) → EachPresent P (f ∷ fs) (o ∷ os)
      → cond b (option_map (λ v. (f.slot, v)) o) (field_at s fs os) ≡ Some q → (field_at s fs os ≡ Some q → P q.0 q.1) → P q.0 q.1
  field_first s f fs None os q true h e rest = absurd (none-some q e)
  field_first s f fs (Some v) os q true h e rest = subst (λ (r : InSlot). P r.0 r.1) (same_Some (f.slot, v) q e) h.0
  field_first s f fs o os q false h e rest = rest e

  field_got : (s : List ℕ) (fs : List Field) (os : List (Option Value)) (q : InSlot) → EachPresent P fs os → field_at s fs os ≡ Some q → P q.0 q.1
  field_got s [] os q h e = absurd (none-some q e)
  field_got s (f ∷ fs) [] q h e = absurd (none-some q e)
  field_got s (f ∷ fs) (o ∷ os) q h e = field_first s f fs o os q (same_text s f.name) h e (λ g. field_got s fs os q h.1 g)

  gone_first : (s : List ℕ) (f : Field) (fs : List Field) (o : Option Value) (os : List (Option Value)) (b : Bool) → EachPresent P (f ∷ fs) (o ∷ os) → EachPresent P fs (set_field s None fs os)
      → EachPresent P (f ∷ fs) (cond b (None ∷ os) (o ∷ set_field s None fs os))
  gone_first s f fs o os true h rest = (tt, h.1)
  gone_first s f fs o os false h rest = (h.0, rest)

  field_gone : (s : List ℕ) (fs : List Field) (os : List (Option Value)) → EachPresent P fs os → EachPresent P fs (set_field s None fs os)
  field_gone s [] os h = tt
  field_gone s (f ∷ fs) [] h = tt
  field_gone s (f ∷ fs) (o ∷ os) h = gone_first s f fs o os (same_text s f.name) h (field_gone s fs os h.1)

-- ---- their slots

optional_slot : (slot : Slot) (b : Bool) (r : Slot) → cond b (Some slot) None ≡ Some r → slot ≡ r
optional_slot slot true r e = same_Some slot r e
optional_slot slot false r e = absurd (none-some r e)

absent_slot : (slot : Slot) (b : Bool) (o : Option Value) (r : Slot) → if_absent slot b o ≡ Some r → slot ≡ r
absent_slot slot b None r e = optional_slot slot b r e
absent_slot slot b (Some v) r e = absurd (none-some r e)

left_out_first : (s : List ℕ) (f : Field) (fs : List Field) (o : Option Value) (os : List (Option Value)) (r : Slot) (b : Bool)
    → cond b (if_absent f.slot f.optional o) (slot_left_out s fs os) ≡ Some r → (slot_left_out s fs os ≡ Some r → declared_slot s fs os ≡ Some r) → cond b (Some f.slot) (declared_slot s fs os) ≡ Some r
left_out_first s f fs o os r true e rest = ap Some (absent_slot f.slot f.optional o r e)
left_out_first s f fs o os r false e rest = rest e

left_out : (s : List ℕ) (fs : List Field) (os : List (Option Value)) (r : Slot) → slot_left_out s fs os ≡ Some r → declared_slot s fs os ≡ Some r
left_out s [] os r e = absurd (none-some r e)
left_out s (f ∷ fs) [] r e = absurd (none-some r e)
left_out s (f ∷ fs) (o ∷ os) r e = left_out_first s f fs o os r (same_text s f.name) e (λ g. left_out s fs os r g)

-- ---- what was inserted is one of them

inserted_each : {X : Type 0} (P : X → Type 0) (xs : List X) (i : ℕ) (x : X) → AllByRecursion P (insert xs i x) → P x
inserted_each P [] zero x h = h.0
inserted_each P [] (suc i) x h = h.0
inserted_each P (y ∷ ys) zero x h = h.0
inserted_each P (y ∷ ys) (suc i) x h = inserted_each P ys i x h.1

module _ (rows : List Row) where
  abbrev pub KeyHas : ℕ → Slot → Holder → List ℕ → Type 0
  KeyHas i slot k s = KeyFits rows (i - taken (form_of rows slot)) k s

  -- ---- what comes

  shallow : (i : ℕ) (slot r : Slot) (w : Value) → Left rows i slot r w → depth (data_in w) ≤ i - taken (form_of rows slot)
  shallow i slot r w h = depth_in rows (i - taken (form_of rows slot)) r w h

  member_in : (i : ℕ) (slot : Slot) (ms : List Member) (n : ℕ) (v w : Value) (s : List ℕ) (r : Slot) (o : Option (ℕ × Member)) → member_named s ms ≡ o → IsRoomy rows i slot (member ms n v)
      → option_map (λ (p : ℕ × Member). plainly (p.1).ty) o ≡ Some r → Left rows i slot r w → IsRoomy rows i slot (option_map_or (λ (p : ℕ × Member). member ms p.0 w) o (member ms n v))
  member_in i slot ms n v w s r None e h g new = absurd (none-some r g)
  member_in i slot ms n v w s r (Some p) e h g new =
      let m = member-named s ms p e in
      (h.0, subst (λ o. IsSomeAnd o (λ m. Left rows i slot (plainly m.ty) w)) (sym m.placed) (subst (λ r. Left rows i slot r w) (sym (same_Some (plainly (p.1).ty) r g)) new))

  pub set_in : (i : ℕ) (slot : Slot) (k : Holder) (s : List ℕ) (r : Slot) (w : Value) → IsRoomy rows i slot k → slot_to_set k s ≡ Some r → KeyHas i slot k s → Left rows i slot r w → IsRoomy rows i slot (set_part k s w)
  set_in i slot (fields fs os) s r w h e key new = (h.0, declared_set (Left rows i slot) s w fs os r h.1 e new)
  set_in i slot (member ms n v) s r w h e key new = member_in i slot ms n v w s r (member_named s ms) refl h e new
  set_in i slot (entries kt elem paired ps) s r w h e key new =
      (h.0, each_by (EntryLeft rows i slot kt elem) paired s w ps h.1 (key, subst (λ t. Left rows i slot t w) (sym (same_Some elem r e)) new))
  set_in i slot (elements elem vs) s r w h e key new =
      let x = slot_given elem (option_and_then (λ i. slice_get vs i) (index_of s)) r e in
      (h.0, each_at (Left rows i slot elem) (λ i xs. slice_set xs i w) (index_of s) vs h.1 (λ j. each_with (Left rows i slot elem) vs j w h.1 (subst (λ t. Left rows i slot t w) (sym x) new)))
  set_in i slot (any_entries ms) s r w h e key new = (h.0, each_put (ShallowEntry (i - taken (form_of rows slot))) s (data_in w) ms h.1 (shallow i slot r w new))
  set_in i slot (any_elements ds) s r w h e key new =
      let P = Shallow (i - taken (form_of rows slot)) in
      (h.0, each_at P (λ i xs. slice_set xs i (data_in w)) (index_of s) ds h.1 (λ j. each_with P ds j (data_in w) h.1 (shallow i slot r w new)))
  set_in i slot (nothing v) s r w h e key new = h

  pub inserted_in : (i : ℕ) (slot : Slot) (k : Holder) (s : List ℕ) (r : Slot) (w : Value) → IsRoomy rows i slot k → slot_to_insert k s ≡ Some r → KeyHas i slot k s → Left rows i slot r w → IsRoomy rows i slot (insert_part k s w)
  inserted_in i slot (fields fs os) s r w h e key new = set_in i slot (fields fs os) s r w h (left_out s fs os r e) key new
  inserted_in i slot (member ms n v) s r w h e key new = absurd (none-some r e)
  inserted_in i slot (entries kt elem paired ps) s r w h e key new = set_in i slot (entries kt elem paired ps) s r w h (new_key (is_some (value_at s ps)) elem r e) key new
  inserted_in i slot (elements elem vs) s r w h e key new =
      let n = new_index (length vs) s in
      let x = slot_given elem n r e in
      (h.0, each_at (Left rows i slot elem) (λ i xs. insert xs i w) n vs h.1 (λ j. each_inserted (Left rows i slot elem) vs j w h.1 (subst (λ t. Left rows i slot t w) (sym x) new)))
  inserted_in i slot (any_entries ms) s r w h e key new = set_in i slot (any_entries ms) s r w h (new_key (is_some (value_at s ms)) anything r e) key new
  inserted_in i slot (any_elements ds) s r w h e key new =
      let P = Shallow (i - taken (form_of rows slot)) in
      (h.0, each_at P (λ i xs. insert xs i (data_in w)) (new_index (length ds) s) ds h.1 (λ j. each_inserted P ds j (data_in w) h.1 (shallow i slot r w new)))
  inserted_in i slot (nothing v) s r w h e key new = h

  pub deleted_in : (i : ℕ) (slot : Slot) (k : Holder) (s : List ℕ) → IsRoomy rows i slot k → IsRoomy rows i slot (delete_part k s)
  deleted_in i slot (fields fs os) s h = (h.0, field_gone (Left rows i slot) s fs os h.1)
  deleted_in i slot (member ms n v) s h = h
  deleted_in i slot (entries kt elem paired ps) s h = (h.0, each_without (EntryLeft rows i slot kt elem) s ps h.1)
  deleted_in i slot (elements elem vs) s h = (h.0, each_at (Left rows i slot elem) (λ i xs. remove xs i) (index_of s) vs h.1 (λ j. each_removed (Left rows i slot elem) vs j h.1))
  deleted_in i slot (any_entries ms) s h = (h.0, each_without (ShallowEntry (i - taken (form_of rows slot))) s ms h.1)
  deleted_in i slot (any_elements ds) s h =
      let P = Shallow (i - taken (form_of rows slot)) in
      (h.0, each_at P (λ i xs. remove xs i) (index_of s) ds h.1 (λ j. each_removed P ds j h.1))
  deleted_in i slot (nothing v) s h = h

  -- ---- what is there

  any_left : (n : ℕ) (d : Data) → OfType rows anything (of_any d) → depth d ≤ n → Fits rows n anything (of_any d)
  any_left n D.null t le = null_room rows n anything refl
  any_left n (D.boolean b) t le = any_fits rows n anything (D.boolean b) t le
  any_left n (D.integer x) t le = any_fits rows n anything (D.integer x) t le
  any_left n (D.text x) t le = any_fits rows n anything (D.text x) t le
  any_left n (D.bytes x) t le = any_fits rows n anything (D.bytes x) t le
  any_left n (D.list ds) t le = any_fits rows n anything (D.list ds) t le
  any_left n (D.map ms) t le = any_fits rows n anything (D.map ms) t le
  any_left n (D.link x) t le = any_fits rows n anything (D.link x) t le

  inside_left : (n : ℕ) (o : Option Data) (q : InSlot) → ((d : Data) → o ≡ Some d → depth d ≤ n) → OfType rows q.0 q.1 → option_map (λ d. (anything, of_any d)) o ≡ Some q → Fits rows n q.0 q.1
  inside_left n o q below t e =
      let x = inside_any o q e in
      subst (λ (r : InSlot). Fits rows n r.0 r.1) x.2 (any_left n x.0 (subst (λ (r : InSlot). OfType rows r.0 r.1) (sym x.2) t) (below x.0 x.1))

  pub part_left : (i : ℕ) (slot : Slot) (k : Holder) (s : List ℕ) (q : InSlot) → IsRoomy rows i slot k → part k s ≡ Some q → OfType rows q.0 q.1 → Left rows i slot q.0 q.1
  part_left i slot (fields fs os) s q h e t = field_got (Left rows i slot) s fs os q h.1 e
  part_left i slot (member ms n v) s q h e t = held_left (slice_get ms n) e h.1
    where
      held_left : (o : Option Member) → held_as s v o ≡ Some q → IsSomeAnd o (λ m. Left rows i slot (plainly m.ty) v) → Left rows i slot q.0 q.1
      held_left None e h = absurd h
      held_left (Some m) e h = let x = held_is s v (Some m) m q refl e in subst (λ (r : InSlot). Left rows i slot r.0 r.1) x.1 h
  part_left i slot (entries kt elem paired ps) s q h e t =
      let x = with_slot elem (value_at s ps) q e in
      subst (λ (r : InSlot). Left rows i slot r.0 r.1) x.2 (each_found (EntryLeft rows i slot kt elem) s x.0 ps h.1 x.1).1
  part_left i slot (elements elem vs) s q h e t =
      let x = with_slot elem (option_and_then (λ i. slice_get vs i) (index_of s)) q e in
      let j = indexed vs (index_of s) x.0 x.1 in
      subst (λ (r : InSlot). Left rows i slot r.0 r.1) x.2 (each_got (Left rows i slot elem) vs j.0 x.0 h.1 j.1)
  part_left i slot (any_entries ms) s q h e t =
      inside_left (i - taken (form_of rows slot)) (value_at s ms) q (λ d g. each_found (ShallowEntry (i - taken (form_of rows slot))) s d ms h.1 g) t e
  part_left i slot (any_elements ds) s q h e t =
      inside_left (i - taken (form_of rows slot)) (option_and_then (λ i. slice_get ds i) (index_of s)) q
      (λ d g. let j = indexed ds (index_of s) d g in each_got (Shallow (i - taken (form_of rows slot))) ds j.0 d h.1 j.1) t e
  part_left i slot (nothing v) s q h e t = absurd (none-some q e)

  -- the key of a part that is there
  pub key_there : (i : ℕ) (slot : Slot) (k : Holder) (s : List ℕ) (q : InSlot) → IsRoomy rows i slot k → part k s ≡ Some q → KeyHas i slot k s
  key_there i slot (fields fs os) s q h e = tt
  key_there i slot (member ms n v) s q h e = tt
  key_there i slot (entries kt elem paired ps) s q h e =
      let x = with_slot elem (value_at s ps) q e in
      (each_found (EntryLeft rows i slot kt elem) s x.0 ps h.1 x.1).0
  key_there i slot (elements elem vs) s q h e = tt
  key_there i slot (any_entries ms) s q h e = tt
  key_there i slot (any_elements ds) s q h e = tt
  key_there i slot (nothing v) s q h e = tt

  pub key_set : (i : ℕ) (slot : Slot) (k : Holder) (s : List ℕ) (w : Value) → IsRoomy rows i slot (set_part k s w) → KeyHas i slot k s
  key_set i slot (fields fs os) s w h = tt
  key_set i slot (member ms n v) s w h = tt
  key_set i slot (entries kt elem paired ps) s w h = (each_found (EntryLeft rows i slot kt elem) s w _ h.1 (put_by-there paired s w ps)).0
  key_set i slot (elements elem vs) s w h = tt
  key_set i slot (any_entries ms) s w h = tt
  key_set i slot (any_elements ds) s w h = tt
  key_set i slot (nothing v) s w h = tt

  pub key_inserted : (i : ℕ) (slot : Slot) (k : Holder) (s : List ℕ) (w : Value) → IsRoomy rows i slot (insert_part k s w) → KeyHas i slot k s
  key_inserted i slot (fields fs os) s w h = tt
  key_inserted i slot (member ms n v) s w h = tt
  key_inserted i slot (entries kt elem paired ps) s w h = key_set i slot (entries kt elem paired ps) s w h
  key_inserted i slot (elements elem vs) s w h = tt
  key_inserted i slot (any_entries ms) s w h = tt
  key_inserted i slot (any_elements ds) s w h = tt
  key_inserted i slot (nothing v) s w h = tt

  -- what was inserted, where setting tells of what was set
  element_left : (i : ℕ) (slot elem : Slot) (vs : List Value) (o : Option ℕ) (r : Slot) (w : Value) → AllByRecursion (Left rows i slot elem) (at_index (λ i xs. insert xs i w) o vs) → option_map (λ i. elem) o ≡ Some r
      → Left rows i slot r w
  element_left i slot elem vs None r w h e = absurd (none-some r e)
  element_left i slot elem vs (Some j) r w h e = subst (λ t. Left rows i slot t w) (same_Some elem r e) (inserted_each (Left rows i slot elem) vs j w h)

  datum_left : (n : ℕ) (ds : List Data) (o : Option ℕ) (r : Slot) (w : Value) → (anything ≡ r → of_any (data_in w) ≡ w) → OfType rows r w → AllByRecursion (Shallow n) (at_index (λ i xs. insert xs i (data_in w)) o ds)
      → option_map (λ i. anything) o ≡ Some r → Fits rows n r w
  datum_left n ds None r w inside t h e = absurd (none-some r e)
  datum_left n ds (Some j) r w inside t h e =
      let same : anything ≡ r = same_Some anything r e in
      let back = inside same in
      subst (λ r. Fits rows n r w) same (subst (λ v. Fits rows n anything v) back
      (any_left n (data_in w) (subst (λ v. OfType rows anything v) (sym back) (subst (λ r. OfType rows r w) (sym same) t)) (inserted_each (Shallow n) ds j (data_in w) h)))

  pub inserted_left : (i : ℕ) (slot : Slot) (k : Holder) (s : List ℕ) (r : Slot) (w : Value) → (anything ≡ r → of_any (data_in w) ≡ w) → OfType rows r w → IsRoomy rows i slot (insert_part k s w)
      → slot_to_insert k s ≡ Some r → (slot_to_set k s ≡ Some r → IsRoomy rows i slot (set_part k s w) → Left rows i slot r w) → Left rows i slot r w
  inserted_left i slot (fields fs os) s r w inside t h e by_set = by_set (left_out s fs os r e) h
  inserted_left i slot (member ms n v) s r w inside t h e by_set = absurd (none-some r e)
  inserted_left i slot (entries kt elem paired ps) s r w inside t h e by_set = by_set (new_key (is_some (value_at s ps)) elem r e) h
  inserted_left i slot (elements elem vs) s r w inside t h e by_set = element_left i slot elem vs (new_index (length vs) s) r w h.1 e
  inserted_left i slot (any_entries ms) s r w inside t h e by_set = by_set (new_key (is_some (value_at s ms)) anything r e) h
  inserted_left i slot (any_elements ds) s r w inside t h e by_set = datum_left (i - taken (form_of rows slot)) ds (new_index (length ds) s) r w inside t h.1 e
  inserted_left i slot (nothing v) s r w inside t h e by_set = absurd (none-some r e)
