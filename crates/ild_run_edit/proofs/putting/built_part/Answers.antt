use Rattle.std.proofs.Common.{sym, subst, Ok, Err}
use Rattle.ild_path_room.proofs.Telling.{schema_of}
use Rattle.ild_schema.specs.ValueSeen.{value_of}
use Rattle.ild_run_edit.specs.inside.Moves.{BuildsPart}
use Rattle.ild_run_edit.proofs.Building.{block_is, builds_as, fit_within, part_builds, parts_as, room_deep}
use Rattle.ild_run_edit.proofs.Naming.{built_named}
use Rattle.ild_run_edit.proofs.Reading.{typed_as_place}
use Rattle.ild_run_edit.proofs.putting.built_part.Goals as goal

pub build-requires-clause-delimiter : goal.build-requires-clause-delimiter
build-requires-clause-delimiter g c = parts_as _ _ _ _ (value_of c.args.part.now) c.requires.table c.slot.ensures.same c.requires.free.delimiter

pub build-requires-clause-fits : goal.build-requires-clause-fits
build-requires-clause-fits g c =
    fit_within _ _ _ _ c.requires.free.room (value_of c.args.part.now) c.requires.table c.slot.ensures.same
    (room_deep _ _ c.requires.free.room c.room.ensures.same c.requires.free.room_is c.room.ensures.deep) c.requires.free.fits

pub returns-in-Ok-clause-block : goal.returns-in-Ok-clause-block
returns-in-Ok-clause-block g c =
    let built = builds_as g.H.KeyHash.hash_of _ _ _ _ (value_of c.args.part.now) _ _ (Ok c.in-Ok.block) c.requires.table c.slot.ensures.same c.in-Ok.ensures in
    block_is g.H.KeyHash.hash_of c.args.place.now (value_of c.args.part.now) c.args.json.now (schema_of _ _ c.requires.table c.recall.ensures.table c.recall.ensures.accepted) (typed_as_place _ _ _ _ c.requires.table c.requires.typed) c.requires.free
    (room_deep _ _ c.requires.free.room c.room.ensures.same c.requires.free.room_is c.room.ensures.deep) _ _ (Ok c.in-Ok.block) built.answer

pub returns-in-Ok-clause-builds : goal.returns-in-Ok-clause-builds
returns-in-Ok-clause-builds g c =
    part_builds g.H.KeyHash.hash_of c.args.place.now (value_of c.args.part.now) c.args.json.now (schema_of _ _ c.requires.table c.recall.ensures.table c.recall.ensures.accepted) (typed_as_place _ _ _ _ c.requires.table c.requires.typed) c.requires.free
    (room_deep _ _ c.requires.free.room c.room.ensures.same c.requires.free.room_is c.room.ensures.deep) _ _ (Ok c.in-Ok.block)
    (builds_as g.H.KeyHash.hash_of _ _ _ _ (value_of c.args.part.now) _ _ (Ok c.in-Ok.block) c.requires.table c.slot.ensures.same c.in-Ok.ensures)

pub returns-in-Err-clause-builds : goal.returns-in-Err-clause-builds
returns-in-Err-clause-builds g c =
    subst (λ r. BuildsPart g.H.KeyHash.hash_of c.args.place.now (value_of c.args.part.now) c.args.json.now (g.K.Store.moment c.args.store.now) (Err r) (g.K.Store.moment c.build.new.store)) (sym c.built_fault.ensures.same)
    (part_builds g.H.KeyHash.hash_of c.args.place.now (value_of c.args.part.now) c.args.json.now (schema_of _ _ c.requires.table c.recall.ensures.table c.recall.ensures.accepted) (typed_as_place _ _ _ _ c.requires.table c.requires.typed) c.requires.free
    (room_deep _ _ c.requires.free.room c.room.ensures.same c.requires.free.room_is c.room.ensures.deep) _ _ (Err c.in-Err.fault)
    (builds_as g.H.KeyHash.hash_of _ _ _ _ (value_of c.args.part.now) _ _ (Err c.in-Err.fault) c.requires.table c.slot.ensures.same c.in-Err.ensures))

pub returns-in-Err-clause-named : goal.returns-in-Err-clause-named
returns-in-Err-clause-named g c =
    built_named g.H.KeyHash.hash_of c.args.acc.now c.slot.result (value_of c.args.part.now) (g.K.Store.moment c.args.store.now) (g.K.Store.moment c.build.new.store) c.in-Err.fault c.built_fault.new.clash c.built_fault.result c.in-Err.ensures c.built_fault.ensures.notes c.built_fault.ensures.same
