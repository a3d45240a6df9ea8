-- What an edit makes of one holder is judged by the holder's own test and by the part that came.
use Rattle.std.proofs.Common.{◌≡◌, ℕ, List, Bool, Some, None, subst}
use Rattle.std.specs.Prelude.{◌↔◌}
use Rattle.ild_schema.specs.declared.def.TypeDef.{TypeDef}
use Rattle.ild_schema.specs.declared.number.Slot.{Slot}
use Rattle.ild_schema.specs.declared.row.Row.{Row}
use Rattle.ild_schema.specs.Value.{Value}
use Rattle.std.specs.Prelude.{Option}
use Rattle.ild_typed.specs.At.{InSlot, seen}
use Rattle.ild_typed.specs.Holder.{Holder, holder_of, value_of}
use Rattle.ild_typed.specs.OfType.{OfType, TestsKeys}
use Rattle.ild_typed.specs.Schema.{IsSchema}
use Rattle.ild_typed.specs.Segment.{part, set_part}
use Rattle.ild_value_meaning.proofs.Told.{told}
use Rattle.ild_value_meaning.proofs.TypedByParts.{to_parts}
use Rattle.ild_path_edits.specs.Along.{IsFree, LayerPasses}
use Rattle.ild_path_edits.specs.Table.{slot_to_insert, MayStand, insert_part, refusal_to_delete, delete_part}
use Rattle.ild_path_edits.proofs.HeldTyped.{IsHeld, held}
use Rattle.ild_path_edits.proofs.KeepTyped.{of_type_is_kept}
use Rattle.ild_path_edits.proofs.Kept.{IsKept}
use Rattle.ild_path_edits.proofs.LayerTesting.{set_is_judged}
use Rattle.ild_path_edits.proofs.Seen.{insert_part-seen, delete_part-seen}
use Rattle.ild_path_room.specs.Room.{Coming, by_set, by_insert, slot_for, brought}
use Rattle.ild_path_judged.proofs.Parts.{PartsFree, parts_seen, from_parts, insert_free, delete_free, came_free}

module _ (rows : List Row) (is_key : ℕ → List ℕ → Bool) (schema : IsSchema rows) (keys : TestsKeys rows is_key) where
  abbrev pub Of : InSlot → Type 0
  Of p = OfType rows p.0 p.1

  pub kept : IsKept rows is_key (λ slot v. OfType rows slot v)
  kept = of_type_is_kept rows is_key schema keys

  abbrev pub HeldBy : Slot → Holder → Type 0
  HeldBy slot k = IsHeld rows is_key (told rows schema).apart (told rows schema).any_there slot k

  pub held_of : (slot : Slot) (v : Value) → OfType rows slot v → HeldBy slot (holder_of rows slot v)
  held_of slot v is = held rows is_key (told rows schema).apart (told rows schema).any_there v slot (to_parts rows is_key keys v slot is)

  pub held_as : (slot : Slot) (k : Holder) → holder_of rows slot (value_of k) ≡ k → OfType rows slot (value_of k) → HeldBy slot k
  held_as slot k same is = subst (λ k. HeldBy slot k) same (held_of slot (value_of k) is)

  module _ (test : Option TypeDef → Value → Bool) where
    abbrev pub Free : InSlot → Type 0
    Free p = IsFree test rows p.0 p.1

    pub parts_of : (slot : Slot) (v : Value) → OfType rows slot v → IsFree test rows slot v → LayerPasses test rows slot (holder_of rows slot v) × PartsFree test rows (holder_of rows slot v)
    parts_of slot v is a = parts_seen test rows is_key slot v (to_parts rows is_key keys v slot is) a

    whole_of : (slot : Slot) (k : Holder) → HeldBy slot k → LayerPasses test rows slot k → PartsFree test rows k → IsFree test rows slot (value_of k)
    whole_of slot k h o a = from_parts test rows is_key (told rows schema).apart (told rows schema).any_there slot k h o a

    -- a holder seen again
    seen_parts : (slot : Slot) (k : Holder) → holder_of rows slot (value_of k) ≡ k → OfType rows slot (value_of k) → IsFree test rows slot (value_of k) → LayerPasses test rows slot k × PartsFree test rows k
    seen_parts slot k same is a = subst (λ k. LayerPasses test rows slot k × PartsFree test rows k) same (parts_of slot (value_of k) is a)

    pub inserted : (p : InSlot) (s : List ℕ) (slot : Slot) (w : Value) → Of p → Free p → slot_to_insert (seen rows p) s ≡ Some slot → MayStand is_key (seen rows p) s → OfType rows slot w
        → IsFree test rows p.0 (value_of (insert_part (seen rows p) s w)) ↔ (LayerPasses test rows p.0 (insert_part (seen rows p) s w) × IsFree test rows slot w)
    inserted p s slot w is free e stands new =
        let k = insert_part (seen rows p) s w in
        let same = insert_part-seen rows p.0 p.1 s w in
        let typed : OfType rows p.0 (value_of k) = kept.inserted p s slot w is e stands new in (
          λ h.
              let x = seen_parts p.0 k same typed h in
              (x.0, came_free test rows (seen rows p) s slot w (λ g. kept.inside w (subst (λ r. OfType rows r w) g new)) x.1 e),
          λ t. whole_of p.0 k (held_as p.0 k same typed) t.0 (insert_free test rows (seen rows p) s slot w (parts_of p.0 p.1 is free).1 e t.1),
        )

    pub came : (how : Coming) (p : InSlot) (s : List ℕ) (slot : Slot) (w : Value) → Of p → Free p → slot_for how (seen rows p) s ≡ Some slot → MayStand is_key (seen rows p) s → OfType rows slot w
        → IsFree test rows p.0 (value_of (brought how w (seen rows p) s)) ↔ (LayerPasses test rows p.0 (brought how w (seen rows p) s) × IsFree test rows slot w)
    came by_set p s slot w is free e stands new = set_is_judged rows is_key test schema keys p s slot w is free e stands new
    came by_insert p s slot w is free e stands new = inserted p s slot w is free e stands new

    pub went : (p : InSlot) (s : List ℕ) → Of p → Free p → refusal_to_delete (seen rows p) s ≡ None
        → IsFree test rows p.0 (value_of (delete_part (seen rows p) s)) ↔ LayerPasses test rows p.0 (delete_part (seen rows p) s)
    went p s is free e =
        let k = delete_part (seen rows p) s in
        let same = delete_part-seen rows p.0 p.1 s in
        let typed : OfType rows p.0 (value_of k) = kept.deleted p s is e in (
          λ h. (seen_parts p.0 k same typed h).0,
          λ o. whole_of p.0 k (held_as p.0 k same typed) o (delete_free test rows (seen rows p) s (parts_of p.0 p.1 is free).1),
        )

    -- a part that is there, replaced
    pub replaced : (p q : InSlot) (s : List ℕ) (c : Value) → Of p → Free p → part (seen rows p) s ≡ Some q → OfType rows q.0 c
        → IsFree test rows p.0 (value_of (set_part (seen rows p) s c)) ↔ (LayerPasses test rows p.0 (set_part (seen rows p) s c) × IsFree test rows q.0 c)
    replaced p q s c is free e new = set_is_judged rows is_key test schema keys p s q.0 c is free (kept.slots p q s is e) (kept.there p q s is e) new
