-- A property of values that goes to all parts of a holder, and is kept where a part with it is set or inserted, or one goes.
use Rattle.std.proofs.Common.{◌≡◌, ℕ, cond, List, [], ◌∷◌, length, slice_get, insert, Bool, true, false, Option, Some, None, refl, sym, subst}
use Rattle.std.specs.Prelude.{IfSome, slice_set, remove, option_map, option_and_then}
use Rattle.std.specs.Option.{option_map_or}
use Rattle.std.proofs.lemmas.Option.{same_Some, none-some}
use Rattle.ild_data.specs.Key.{same_text}
use Rattle.ild_schema.specs.declared.def.Field.{Field}
use Rattle.ild_schema.specs.declared.def.Member.{Member}
use Rattle.ild_schema.specs.declared.number.Slot.{Slot}
use Rattle.ild_schema.specs.declared.row.Row.{Row}
use Rattle.ild_schema.specs.Slots.{plainly}
use Rattle.ild_schema.specs.Value.{Value}
use Rattle.ild_typed.specs.Holder.{Holder, fields, member, entries, elements, any_entries, any_elements, nothing}
use Rattle.ild_typed.specs.Segment.{set_part, set_field, member_named, index_of}
use Rattle.ild_value_meaning.proofs.Members.{member-named}
use Rattle.ild_path_edits.specs.Table.{declared_slot, slot_to_set, new_index, slot_to_insert, insert_part, delete_part}
use Rattle.ild_path_edits.proofs.HeldTyped.{slot_given}
use Rattle.ild_path_edits.proofs.Typing.{Each, each_with, each_inserted, each_removed, each_at, each_by, each_without}
use Rattle.ild_typed_fronts.proofs.Holding.{to_declared, unless_some}

module _ (N : Slot → Value → Type 0) where
  abbrev pub EntryHas : Slot → List ℕ × Value → Type 0
  EntryHas s p = N s p.1

  abbrev pub MayHave : Field → Option Value → Type 0
  MayHave f None = Unit {0}
  MayHave f (Some v) = N f.slot v

  abbrev pub EachHas : List Field → List (Option Value) → Type 0
  EachHas [] os = Unit {0}
  EachHas (f ∷ fs) [] = Unit {0}
  EachHas (f ∷ fs) (o ∷ os) = MayHave f o × EachHas fs os

  abbrev pub PartsHave : Holder → Type 0
  PartsHave (fields fs os) = EachHas fs os
  PartsHave (member ms n v) = IfSome (slice_get ms n) (λ m. N (plainly m.ty) v)
  PartsHave (entries key elem paired ps) = Each (EntryHas elem) ps
  PartsHave (elements elem vs) = Each (N elem) vs
  PartsHave (any_entries ms) = Unit {0}
  PartsHave (any_elements ds) = Unit {0}
  PartsHave (nothing v) = Unit {0}

  declared_has : (s : List ℕ) (c : Value) (fs : List Field) (os : List (Option Value)) (r : Slot) → EachHas fs os → declared_slot s fs os ≡ Some r → N r c → EachHas fs (set_field s (Some c) fs os)
  declared_has s c [] os r a e n = absurd (none-some r e)
  declared_has s c (f ∷ fs) [] r a e n = absurd (none-some r e)
  declared_has s c (f ∷ fs) (o ∷ os) r a e n = by (same_text s f.name) e (λ g. declared_has s c fs os r a.1 g n) where
    by : (b : Bool) → cond b (Some f.slot) (declared_slot s fs os) ≡ Some r → (declared_slot s fs os ≡ Some r → EachHas fs (set_field s (Some c) fs os)) → EachHas (f ∷ fs) (cond b (Some c ∷ os) (o ∷ set_field s (Some c) fs os))
    by true g rest = (subst (λ r. N r c) (sym (same_Some f.slot r g)) n, a.1)
    by false g rest = (a.0, rest g)

  gone_has : (s : List ℕ) (fs : List Field) (os : List (Option Value)) → EachHas fs os → EachHas fs (set_field s None fs os)
  gone_has s [] os a = tt
  gone_has s (f ∷ fs) [] a = tt
  gone_has s (f ∷ fs) (o ∷ os) a = by (same_text s f.name) (gone_has s fs os a.1) where
    by : (b : Bool) → EachHas fs (set_field s None fs os) → EachHas (f ∷ fs) (cond b (None ∷ os) (o ∷ set_field s None fs os))
    by true rest = (tt, a.1)
    by false rest = (a.0, rest)

  other_member : (ms : List Member) (n : ℕ) (v c : Value) (s : List ℕ) (r : Slot) (o : Option (ℕ × Member)) → member_named s ms ≡ o → option_map (λ (p : ℕ × Member). plainly (p.1).ty) o ≡ Some r → N r c
      → PartsHave (option_map_or (λ (p : ℕ × Member). member ms p.0 c) o (member ms n v))
  other_member ms n v c s r None e h g = absurd (none-some r h)
  other_member ms n v c s r (Some p) e h g =
      let m = member-named s ms p e in
      subst (λ o. IfSome o (λ m. N (plainly m.ty) c)) (sym m.placed) (subst (λ r. N r c) (sym (same_Some (plainly (p.1).ty) r h)) g)

  pub set_has : (k : Holder) (s : List ℕ) (r : Slot) (c : Value) → PartsHave k → slot_to_set k s ≡ Some r → N r c → PartsHave (set_part k s c)
  set_has (fields fs os) s r c a e n = declared_has s c fs os r a e n
  set_has (member ms k v) s r c a e n = other_member ms k v c s r (member_named s ms) refl e n
  set_has (entries key elem paired ps) s r c a e n = each_by (EntryHas elem) paired s c ps a (subst (λ r. N r c) (sym (same_Some elem r e)) n)
  set_has (elements elem vs) s r c a e n =
      let x = slot_given elem (option_and_then (λ i. slice_get vs i) (index_of s)) r e in
      each_at (N elem) (λ i xs. slice_set xs i c) (index_of s) vs a (λ j. each_with (N elem) vs j c a (subst (λ r. N r c) (sym x) n))
  set_has (any_entries ms) s r c a e n = tt
  set_has (any_elements ds) s r c a e n = tt
  set_has (nothing v) s r c a e n = tt

  pub insert_has : (h : List ℕ → List ℕ) (rows : List Row) (k : Holder) (s : List ℕ) (r : Slot) (c : Value) → PartsHave k → slot_to_insert k s ≡ Some r → N r c → PartsHave (insert_part k s c)
  insert_has h rows (fields fs os) s r c a e n = declared_has s c fs os r a (to_declared h rows s fs os r e) n
  insert_has h rows (member ms k v) s r c a e n = absurd (none-some r e)
  insert_has h rows (entries key elem paired ps) s r c a e n = each_by (EntryHas elem) paired s c ps a (subst (λ r. N r c) (sym (unless_some h rows _ elem r e)) n)
  insert_has h rows (elements elem vs) s r c a e n =
      let x = slot_given elem (new_index (length vs) s) r e in
      each_at (N elem) (λ i xs. insert xs i c) (new_index (length vs) s) vs a (λ j. each_inserted (N elem) vs j c a (subst (λ r. N r c) (sym x) n))
  insert_has h rows (any_entries ms) s r c a e n = tt
  insert_has h rows (any_elements ds) s r c a e n = tt
  insert_has h rows (nothing v) s r c a e n = tt

  pub delete_has : (k : Holder) (s : List ℕ) → PartsHave k → PartsHave (delete_part k s)
  delete_has (fields fs os) s a = gone_has s fs os a
  delete_has (member ms n v) s a = a
  delete_has (entries key elem paired ps) s a = each_without (EntryHas elem) s ps a
  delete_has (elements elem vs) s a = each_at (N elem) (λ i xs. remove xs i) (index_of s) vs a (λ j. each_removed (N elem) vs j a)
  delete_has (any_entries ms) s a = tt
  delete_has (any_elements ds) s a = tt
  delete_has (nothing v) s a = tt
