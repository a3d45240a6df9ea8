use Rattle.ild_path_inward.proofs.Halting.{table_kept}
use Rattle.ild_path_place.proofs.PartSlots.{part_fits}
use Rattle.ild_path_place.proofs.refusal.slot_there.Goals as goal

pub returns-in-Some-clause-part : goal.returns-in-Some-clause-part
returns-in-Some-clause-part c =
    let v = c.args.holder.now in
    let w = c.in-Some.part in
    part_fits v w c.slot.result (table_kept v c.args.segment.now w c.in-Some.ensures) c.slot.ensures
