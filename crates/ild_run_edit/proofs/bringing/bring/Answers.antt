use Rattle.std.specs.Prelude.{Ok, Err}
use Rattle.ild_path_room.proofs.Telling.{schema_of}
use Rattle.ild_run_edit.proofs.Still.{no_part, refused_comes, let_comes}
use Rattle.ild_run_edit.proofs.Judging.{free_part}
use Rattle.ild_run_edit.proofs.Naming.{part_unclashed, refused_unclashed}
use Rattle.ild_run_edit.proofs.Reading.{part_as, typed_as}
use Rattle.ild_run_edit.proofs.bringing.bring.Goals as goal

pub returns-in-Err-clause-comes : goal.returns-in-Err-clause-comes
returns-in-Err-clause-comes g c = no_part _ _ _ _ _ (part_as _ _ _ _ c.args.json.now (Err c.in-Err.refusal) c.requires.table c.slot.ensures.same c.in-Err.ensures.answer)

pub put_part-requires-clause-free : goal.put_part-requires-clause-free
put_part-requires-clause-free g c = free_part _ _ c.in-Ok-None.field-0 c.in-Ok-None.ensures c.in-Ok-None.field-0-is

pub returns-in-Ok-None-clause-comes : goal.returns-in-Ok-None-clause-comes
returns-in-Ok-None-clause-comes g c =
    let_comes _ _ _ _ c.in-Ok-None.field-0 (schema_of _ _ c.requires.table c.recall.ensures.table c.recall.ensures.accepted) (typed_as _ _ _ _ _ c.requires.table c.slot.ensures.same c.in-Ok.ensures.typed) c.in-Ok-None.ensures
    (part_as _ _ _ _ c.args.json.now (Ok c.in-Ok.part) c.requires.table c.slot.ensures.same c.in-Ok.ensures.answer) _ _ _ c.in-Ok-None.field-0-is c.put_part.ensures.puts

pub returns-in-Ok-Some-clause-comes : goal.returns-in-Ok-Some-clause-comes
returns-in-Ok-Some-clause-comes g c =
    refused_comes _ _ _ _ c.in-Ok-Some.field-0 (schema_of _ _ c.requires.table c.recall.ensures.table c.recall.ensures.accepted) (typed_as _ _ _ _ _ c.requires.table c.slot.ensures.same c.in-Ok.ensures.typed) c.in-Ok-Some.ensures
    (part_as _ _ _ _ c.args.json.now (Ok c.in-Ok.part) c.requires.table c.slot.ensures.same c.in-Ok.ensures.answer) _ _ c.in-Ok-Some.field-0-is

pub returns-in-Err-clause-named : goal.returns-in-Err-clause-named
returns-in-Err-clause-named g c = λ e. absurd (part_unclashed c.args.acc.now c.slot.result c.args.json.now c.in-Err.refusal c.in-Err.ensures.answer e)

pub returns-in-Ok-Some-clause-named : goal.returns-in-Ok-Some-clause-named
returns-in-Ok-Some-clause-named g c = λ e. absurd (refused_unclashed _ _ c.in-Ok-Some.field-0 _ c.in-Ok-Some.ensures c.in-Ok-Some.field-0-is e)
