use Rattle.ild_run_generate.proofs.Counts.{counts, none_lacks}
use Rattle.ild_run_generate.proofs.counting.count_entries.Goals as goal

pub returns-in-Ok : goal.returns-in-Ok
returns-in-Ok g c =
    counts c.held_are_standing.ensures c.one_stands.ensures c.bare_roots_are_frames.ensures c.args.doc.now c.schema.result.now c.schema.ensures c.recall.ensures.table c.recall.ensures.accepted c.schema-2.result.now c.schema-2.ensures c.ty.result c.ty.ensures c.root.result.0 c.root.ensures
    (g.K.Store.moment c.args.store.now) (g.K.Store.moment c.open_value.new.store) c.in-Ok.opened (rw c.in-Ok.is at c.open_value.ensures) c.count_in.result c.count_in.ensures

pub returns-in-Err-Block : goal.returns-in-Err-Block
returns-in-Err-Block g c =
    none_lacks c.held_are_standing.ensures c.args.doc.now c.schema-2.result.now c.schema-2.ensures c.ty.result c.ty.ensures c.root.result.0 c.root.ensures
    (g.K.Store.moment c.args.store.now) (g.K.Store.moment c.open_value.new.store) c.in-Err-Block.field-0 (rw c.in-Err-Block.is at c.open_value.ensures) c.in-Err-Block.id c.in-Err-Block.why c.in-Err-Block.field-0-is
