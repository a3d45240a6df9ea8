use Rattle.ild_run_open.proofs.Putting.{starts}
use Rattle.ild_run_open.proofs.Unrefused.{no_fault, no_shape}
use Rattle.ild_run_open.proofs.opening.open_empty.Goals as goal

pub returns-in-Ok-of : goal.returns-in-Ok-of
returns-in-Ok-of g c =
    starts g.H.KeyHash.hash_of c.args.acc.now c.args.ty (g.K.Store.moment c.args.store.now) (g.K.Store.moment c.put_empty.new.store) c.in-Ok.block c.in-Ok-of.doc c.in-Ok.ensures c.in-Ok-of.ensures

pub unreachable-requires : goal.unreachable-requires
unreachable-requires g c =
    let has = c.in-Ok.ensures.answer in
    no_fault c.args.acc.now (record { table = c.recall.ensures.table; accepted = c.recall.ensures.accepted }) c.recall.ensures.legible g.H.KeyHash.hash_of c.args.ty has.value has.is.tree has.is.storable c.in-Ok.block has.is.spelled
    c.in-Err-Cbor.field-0-0 (rw c.in-Err-Cbor.field-0-is at c.in-Err-Cbor.ensures)

pub unreachable-requires-in-Err-Shape : goal.unreachable-requires-in-Err-Shape
unreachable-requires-in-Err-Shape g c =
    let has = c.in-Ok.ensures.answer in
    no_shape c.args.acc.now (record { table = c.recall.ensures.table; accepted = c.recall.ensures.accepted }) c.recall.ensures.legible g.H.KeyHash.hash_of c.args.ty has.value has.is.tree has.is.storable c.in-Ok.block has.is.spelled
    c.in-Err-Shape.field-0-0 (rw c.in-Err-Shape.field-0-is at c.in-Err-Shape.ensures)
