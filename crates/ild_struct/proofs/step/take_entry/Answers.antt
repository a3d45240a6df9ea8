use Rattle.ild_struct.proofs.Stepping.{no_entry, entry_first}
use Rattle.ild_struct.proofs.step.take_entry.Goals as goal

pub returns-in_err-name-clause-takes : goal.returns-in_err-name-clause-takes
returns-in_err-name-clause-takes c = λ apart es h. rw c.from_residual.ensures (no_entry c.args.fields.now.def.now.fields es c.args.entries c.next.new.self c.in_err-name.ensures.steps h)

pub returns-clause-takes : goal.returns-clause-takes
returns-clause-takes c = λ apart es h.
    entry_first c.args.fields.now.def.now.fields es c.args.entries c.next.new.self c.in_ok-name.name c.in_ok-name.value c.place_by_key-place.result.0 c.place_by_key-place.result.1 c.in_ok-name.ensures.steps h apart (c.place_by_key-place.ensures.place apart)
