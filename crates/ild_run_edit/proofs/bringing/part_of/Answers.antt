use Rattle.std.proofs.Common.{subst}
use Rattle.ild_data.specs.Seen.{data_of}
use Rattle.ild_schema.specs.ValueSeen.{value_of}
use Rattle.ild_value.specs.Readings.{MeansNone}
use Rattle.ild_run_edit.proofs.Reading.{none_meant, part_meant}
use Rattle.ild_run_edit.proofs.bringing.part_of.Goals as goal

pub returns-in-Ok-from_shown-clause-answer : goal.returns-in-Ok-from_shown-clause-answer
returns-in-Ok-from_shown-clause-answer c =
    part_meant c.args.acc.now (record { table = c.recall.ensures.table; accepted = c.recall.ensures.accepted }) c.args.slot c.args.json.now (data_of c.in-Ok.tree) (value_of c.in-Ok-from_shown.val)
    c.in-Ok.ensures.ok c.in-Ok-from_shown.ensures.ok

pub returns-in-Err-Mismatch-clause-answer : goal.returns-in-Err-Mismatch-clause-answer
returns-in-Err-Mismatch-clause-answer c =
    none_meant c.args.acc.now c.args.slot c.args.json.now (data_of c.in-Ok.tree) c.in-Ok.ensures.ok (subst (λ e. MeansNone c.args.acc.now c.args.slot (data_of c.in-Ok.tree) e) c.in-Err-Mismatch.field-0-is c.in-Err-Mismatch.ensures.none)
