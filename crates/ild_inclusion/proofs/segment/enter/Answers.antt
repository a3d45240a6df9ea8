use Rattle.std.proofs.Common.{Ok, Err, refl, ap, ◌∙◌}
use Rattle.ild_node_slots.proofs.Shapes.{levels_some}
use Rattle.ild_schema.specs.Slots.{form_of}
use Rattle.ild_view.specs.View.{slot_of, table_of}
use Rattle.ild_path_room.proofs.Rooting.{hamt_of}
use Rattle.ild_inclusion.specs.declared.segment.Step.TheVariants as S
use Rattle.ild_inclusion.specs.declared.fault.VerifyErr.TheVariants as E
use Rattle.ild_inclusion.proofs.Stepping.{enters_off, enters_on, enters_refused, map_in, way_of_root}
use Rattle.ild_inclusion.proofs.segment.enter.Goals as goal

pub find_end-requires-clause-low : goal.find_end-requires-clause-low
find_end-requires-clause-low g c = levels_some c.shape.result

pub returns-in-Err : goal.returns-in-Err
returns-in-Err g c = λ d view root memory.
    let v = c.args.map.now in
    let y = hamt_of (form_of (table_of v) (slot_of v)) d c.args.root root in
    let hash = c.hash-hash.ensures ∙ ap g.H.KeyHash.hash_of c.as_bytes.ensures.value in
    enters_refused (table_of v) (g.H.KeyHash.hash_of c.args.key.now) c.args.key.now c.args.room (slot_of v) d c.args.at c.args.left.now y.shape y.named y.slots y.root (Err (E.Reject c.in-Err.reject)) c.in-Err.reject refl
    (way_of_root c.args.root c.args.key.now c.args.at c.args.left.now (Err c.in-Err.reject) c.shape.result y.shape c.shape.ensures y.slots y.has _ _ hash c.in-Err.ensures)

pub returns-in-Some : goal.returns-in-Some
returns-in-Some g c = λ d view root memory.
    let v = c.args.map.now in
    let form = form_of (table_of v) (slot_of v) in
    let y = hamt_of form d c.args.root root in
    let hash = c.hash-hash.ensures ∙ ap g.H.KeyHash.hash_of c.as_bytes.ensures.value in
    enters_on (table_of v) (g.H.KeyHash.hash_of c.args.key.now) c.args.key.now c.args.room (slot_of v) d c.args.at c.args.left.now y.shape y.named y.slots y.root c.go_to.result c.in-Ok.end c.in-Some.node c.in-Some.is
    (way_of_root c.args.root c.args.key.now c.args.at c.args.left.now (Ok c.in-Ok.end) c.shape.result y.shape c.shape.ensures y.slots y.has _ _ hash c.in-Ok.ensures)
    (λ t stands. c.go_to.ensures y.type.value (map_in form y.shape y.type) t stands memory)

pub returns-in-None : goal.returns-in-None
returns-in-None g c = λ d view root memory.
    let v = c.args.map.now in
    let y = hamt_of (form_of (table_of v) (slot_of v)) d c.args.root root in
    let hash = c.hash-hash.ensures ∙ ap g.H.KeyHash.hash_of c.as_bytes.ensures.value in
    enters_off (table_of v) (g.H.KeyHash.hash_of c.args.key.now) c.args.key.now c.args.room (slot_of v) d c.args.at c.args.left.now y.shape y.named y.slots y.root (Ok (S.Off c.in-Ok.end)) c.in-Ok.end c.in-None.is refl
    (way_of_root c.args.root c.args.key.now c.args.at c.args.left.now (Ok c.in-Ok.end) c.shape.result y.shape c.shape.ensures y.slots y.has _ _ hash c.in-Ok.ensures)
