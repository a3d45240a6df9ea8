-- What may be done at a segment, told by the holder.
use Rattle.std.proofs.Common.{◌≡◌, ℕ, List, None, Result, Ok, Err, refl}
use Rattle.ild_path_edits.specs.Table.{refusal_to_delete}
use Rattle.ild_path_place.proofs.Deleting.{gone}
use Rattle.ild_path_place.specs.inside.Slots.{IsSlotOr, SlotAnswer, part_slot}
use Rattle.ild_path_rules.specs.declared.delete.Refusal.{Refusal}
use Rattle.ild_path_rules.specs.declared.delete.Refusal.TheVariants as R
use Rattle.ild_path_place.specs.declared.verb.Verb.TheVariants as V
use Rattle.ild_schema.specs.declared.number.Slot.{Slot}
use Rattle.ild_schema.specs.declared.row.Row.{Row}
use Rattle.ild_typed.specs.At.{InSlot, seen}
use Rattle.ild_typed.specs.Segment.{part}

pub may_go : (rows : List Row) (q : InSlot) (s : List ℕ) (r : Result Slot Refusal) → refusal_to_delete (seen rows q) s ≡ None → IsSlotOr (part_slot rows q s) r → SlotAnswer rows q s V.Del r
may_go rows q s (Ok slot) free is = (free, is)
may_go rows q s (Err R.Path) free none = absurd (gone (part (seen rows q) s) s (seen rows q) refl none free)
may_go rows q s (Err R.Mismatch) free is = absurd is
