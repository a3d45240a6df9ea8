use Rattle.ild_data.specs.Seen.{data_of}
use Rattle.ild_schema.specs.ValueSeen.{value_of}
use Rattle.ild_run_create.proofs.Blocks.{given_as, stops_shown}
use Rattle.ild_run_create.proofs.block.given.Goals as goal

pub returns-in-Ok-from_shown-clause-ok : goal.returns-in-Ok-from_shown-clause-ok
returns-in-Ok-from_shown-clause-ok c = given_as c.args.acc.now c.args.ty c.args.bytes.now (data_of c.in-Ok.tree) (value_of c.in-Ok-from_shown.val) c.in-Ok.ensures.ok c.in-Ok-from_shown.ensures.ok

pub returns-in-Err-from_shown-clause-err : goal.returns-in-Err-from_shown-clause-err
returns-in-Err-from_shown-clause-err c =
    λ h. rw c.shown_fault.ensures (stops_shown h c.args.acc.now c.args.ty c.args.bytes.now (data_of c.in-Ok.tree) c.in-Err-from_shown.err c.in-Ok.ensures.ok c.in-Err-from_shown.ensures.none)
