use Rattle.std.proofs.Common.{sym, subst}
use Rattle.std.specs.Prelude.{Ok, Err}
use Rattle.ild_path_room.proofs.Telling.{schema_of}
use Rattle.ild_cbor.proofs.Blocks.{block_again}
use Rattle.ild_cbor.specs.Block.{IsBlockOf}
use Rattle.ild_schema.specs.ValueSeen.{value_of}
use Rattle.ild_run_edit.specs.inside.Moves.{PutsPart}
use Rattle.ild_run_edit.proofs.Joining.{put_done}
use Rattle.ild_run_edit.proofs.Naming.{done_named}
use Rattle.ild_run_edit.proofs.Reading.{typed_as_place}
use Rattle.ild_run_edit.proofs.putting.put_part.Goals as goal

-- it was built of data that a block can hold
pub known_root-item-requires : goal.known_root-item-requires
known_root-item-requires g c = let made = c.in-Ok.ensures.block in block_again _ made.tree (subst (λ x. IsBlockOf x made.tree) (sym c.as_slice.ensures.same) made.block)

pub returns-in-Ok-replace-clause-puts : goal.returns-in-Ok-replace-clause-puts
returns-in-Ok-replace-clause-puts g c =
    put_done _ c.args.place (value_of c.args.part.now) c.args.json.now (schema_of _ _ c.requires.table c.recall.ensures.table c.recall.ensures.accepted) c.places_tell_on.ensures (typed_as_place _ _ _ _ c.requires.table c.requires.typed) _ _ _ c.in-Ok.block c.known_root-item.result (Ok c.in-Ok-replace.root)
    c.in-Ok.ensures.builds c.in-Ok-replace.ensures.spares c.in-Ok-replace.ensures.brings
    (λ d is. (c.known_root-item.ensures d (subst (λ x. IsBlockOf x d) (sym c.as_slice.ensures.same) is)).stands)

pub returns-clause-puts : goal.returns-clause-puts
returns-clause-puts g c =
    subst (λ r. PutsPart g.H.KeyHash.hash_of c.args.place (value_of c.args.part.now) c.args.json.now (g.K.Store.moment c.args.store.now) (Err r) (g.K.Store.moment c.replace.new.store)) (sym c.done_fault.ensures.same)
    (put_done _ c.args.place (value_of c.args.part.now) c.args.json.now (schema_of _ _ c.requires.table c.recall.ensures.table c.recall.ensures.accepted) c.places_tell_on.ensures (typed_as_place _ _ _ _ c.requires.table c.requires.typed) _ _ _ c.in-Ok.block c.known_root-item.result (Err c.in-Err-replace.fault)
    c.in-Ok.ensures.builds c.in-Err-replace.ensures.spares c.in-Err-replace.ensures.brings
    (λ d is. (c.known_root-item.ensures d (subst (λ x. IsBlockOf x d) (sym c.as_slice.ensures.same) is)).stands))

pub returns-clause-named : goal.returns-clause-named
returns-clause-named g c =
    done_named (g.K.Store.moment c.built_part.new.store) (g.K.Store.moment c.replace.new.store) c.in-Err-replace.fault c.done_fault.new.clash c.done_fault.result c.in-Err-replace.ensures.spares.cause c.done_fault.ensures.notes c.done_fault.ensures.same
