use Rattle.std.proofs.Common.{subst}
use Rattle.ild_schema.specs.Legible.{IsLegible}
use Rattle.ild_schema.specs.Table.{IsTable}
use Rattle.ild_path_place.proofs.PartSlots.{insert_fits, set_fits}
use Rattle.ild_path_place.proofs.refusal.slot_in_block.Goals as goal

pub returns-in-Set-clause-part : goal.returns-in-Set-clause-part
returns-in-Set-clause-part c =
    let table = subst IsTable c.schema.ensures c.recall.ensures.table in
    let legible = subst IsLegible c.schema.ensures c.recall.ensures.legible in
    set_fits c.args.holder.now table legible c.args.segment.now c.slot_to_set.result c.slot_to_set.ensures c.slot_or.result c.slot_or.ensures

pub returns-in-Ins-clause-part : goal.returns-in-Ins-clause-part
returns-in-Ins-clause-part c =
    let table = subst IsTable c.schema.ensures c.recall.ensures.table in
    let legible = subst IsLegible c.schema.ensures c.recall.ensures.legible in
    insert_fits c.args.holder.now table legible c.args.segment.now c.slot_to_insert.result c.slot_to_insert.ensures c.slot_or-in-Ins.result c.slot_or-in-Ins.ensures
