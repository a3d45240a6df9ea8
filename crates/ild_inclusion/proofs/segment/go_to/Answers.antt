use Rattle.ild_view.specs.View.{slot_of, table_of}
use Rattle.ild_inclusion.proofs.Stepping.{map_element, memory_again, slot_there, value_goes, value_refused}
use Rattle.ild_inclusion.proofs.segment.go_to.Goals as goal

pub returns-in-Ok : goal.returns-in-Ok
returns-in-Ok c = λ elem map t stands memory.
    let v = c.args.map.now in
    let own = map_element _ elem map in
    let same = slot_there (table_of v) c.schema-acc.result.now (slot_of v) c.in-Some.slot elem c.schema-acc.ensures c.in-Some.ensures.0 own in
    value_goes (table_of v) c.args.room (slot_of v) elem c.args.at t own c.schema-acc.result.now c.in-Some.slot c.in-Ok.view c.args.left.now c.on_to.result c.schema-acc.ensures same
    (λ q part. c.on_to.ensures (table_of v) q part) (c.in-Ok.ensures t stands (λ e. absurd cc))

pub returns-in-Err : goal.returns-in-Err
returns-in-Err c = λ elem map t stands memory.
    let v = c.args.map.now in
    let own = map_element _ elem map in
    let same = slot_there (table_of v) c.schema-acc.result.now (slot_of v) c.in-Some.slot elem c.schema-acc.ensures c.in-Some.ensures.0 own in
    value_refused (table_of v) c.args.room (slot_of v) elem c.args.at t own c.schema-acc.result.now c.in-Some.slot c.args.left.now c.in-Err.fault c.schema-acc.ensures same
    (c.in-Err.ensures t stands (λ e. memory (memory_again c.in-Err.fault e)))
