use Rattle.ild_beneath_read.proofs.Looking.{look_first, look_on, look_over}
use Rattle.ild_beneath_read.proofs.fields.found_in_map.Goals as goal

pub loop-name-init : goal.loop-name-init
loop-name-init c = λ es h. look_first c.args.fields.now.def.now.fields es c.args.entries _ c.in_ok-found.ensures h

pub loop-name-preserved : goal.loop-name-preserved
loop-name-preserved c = λ es h.
    look_on c.args.fields.now.def.now.fields es c.loop-name.left c.next.new.self (c.in-Some.name, c.in-Some.value) c.place_by_key-place.result.0 c.loop-name.found.items c.note.new.found.items c.requires
    c.in-Some.ensures.steps (c.place_by_key-place.ensures.place c.requires) c.note.ensures (c.loop-name.invariant es h)

pub returns : goal.returns
returns c = λ es h. look_over c.args.fields.now.def.now.fields es c.loop-name.left c.next.new.self c.loop-name.found.items c.in_default.ensures.steps (c.loop-name.invariant es h)
