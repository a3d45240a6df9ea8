use Rattle.std.proofs.Common.{sym, ◌∙◌, subst}
use Rattle.std.specs.Prelude.{Ok, Err}
use Rattle.ild_path_room.proofs.Telling.{schema_of}
use Rattle.ild_run_edit.specs.inside.Moves.{GoesFrom}
use Rattle.ild_run_edit.proofs.Going.{hole_goes, delimiter_goes, erased_goes, memory_goes, tells_going}
use Rattle.ild_run_edit.proofs.Naming.{done_named}
use Rattle.ild_run_edit.proofs.erasing.erase_part.Goals as goal

pub returns-then-hole-clause-goes : goal.returns-then-hole-clause-goes
returns-then-hole-clause-goes g c = hole_goes _ _ (schema_of _ _ c.requires.table c.recall.ensures.table c.recall.ensures.accepted) _ (sym c.hole.ensures ∙ c.if-hole.true)

pub returns-in-Ok-true-clause-goes : goal.returns-in-Ok-true-clause-goes
returns-in-Ok-true-clause-goes g c =
    delimiter_goes _ _ (schema_of _ _ c.requires.table c.recall.ensures.table c.recall.ensures.accepted) _ c.in-Ok-true.field-0 (sym c.hole.ensures ∙ c.if-hole.false)
    (tells_going _ c.breaks_around.result c.in-Ok-true.field-0 c.breaks_around.ensures.going c.in-Ok-true.is) c.in-Ok-true.field-0-test

pub returns-in-Ok-clause-goes : goal.returns-in-Ok-clause-goes
returns-in-Ok-clause-goes g c =
    erased_goes _ _ (schema_of _ _ c.requires.table c.recall.ensures.table c.recall.ensures.accepted) _ _ c.in-Ok-false.field-0 (Ok c.in-Ok.block) (sym c.hole.ensures ∙ c.if-hole.false)
    (tells_going _ c.breaks_around.result c.in-Ok-false.field-0 c.breaks_around.ensures.going c.in-Ok-false.is) c.in-Ok-false.field-0-test c.in-Ok.ensures.spares c.in-Ok.ensures.erases

pub returns-in-Err-erase-clause-goes : goal.returns-in-Err-erase-clause-goes
returns-in-Err-erase-clause-goes g c =
    subst (λ r. GoesFrom g.H.KeyHash.hash_of c.args.place (g.K.Store.moment c.args.store.now) (Err r) (g.K.Store.moment c.erase.new.store)) (sym c.done_fault.ensures.same)
    (erased_goes _ _ (schema_of _ _ c.requires.table c.recall.ensures.table c.recall.ensures.accepted) _ _ c.in-Ok-false.field-0 (Err c.in-Err-erase.fault) (sym c.hole.ensures ∙ c.if-hole.false)
    (tells_going _ c.breaks_around.result c.in-Ok-false.field-0 c.breaks_around.ensures.going c.in-Ok-false.is) c.in-Ok-false.field-0-test c.in-Err-erase.ensures.spares c.in-Err-erase.ensures.erases)

pub returns-in-Err-clause-goes : goal.returns-in-Err-clause-goes
returns-in-Err-clause-goes g c = memory_goes _ _ (schema_of _ _ c.requires.table c.recall.ensures.table c.recall.ensures.accepted) _

pub returns-in-Err-erase-clause-named : goal.returns-in-Err-erase-clause-named
returns-in-Err-erase-clause-named g c =
    done_named (g.K.Store.moment c.args.store.now) (g.K.Store.moment c.erase.new.store) c.in-Err-erase.fault c.done_fault.new.clash c.done_fault.result c.in-Err-erase.ensures.spares.cause c.done_fault.ensures.notes c.done_fault.ensures.same
