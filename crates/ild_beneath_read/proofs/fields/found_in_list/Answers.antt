use Rattle.ild_beneath_read.proofs.Looking.{search_first, search_on, search_over, search_past}
use Rattle.ild_beneath_read.proofs.fields.found_in_list.Goals as goal

pub loop-item-init : goal.loop-item-init
loop-item-init c = λ ds h. search_first c.args.fields.now.def.now.fields ds c.args.items _ c.in_ok-found.ensures h

pub loop-item-preserved : goal.loop-item-preserved
loop-item-preserved c = λ ds h.
    search_on c.args.fields.now.def.now.fields ds c.loop-item.left c.next.new.self c.in-Some.item c.loop-item.found.items c.in-Some.ensures.steps (c.loop-item.invariant ds h) c.in-Some-named.name c.in-Some-named.value
    c.place-place.result c.note.new.found.items c.requires c.in-Some-named.ensures (c.place-place.ensures.place c.requires) c.note.ensures

pub loop-item-preserved-in_default-named : goal.loop-item-preserved-in_default-named
loop-item-preserved-in_default-named c = λ ds h.
    search_past c.args.fields.now.def.now.fields ds c.loop-item.left c.next.new.self c.in-Some.item c.loop-item.found.items c.in-Some.ensures.steps (c.loop-item.invariant ds h) c.in_default-named.ensures

pub returns : goal.returns
returns c = λ ds h. search_over c.args.fields.now.def.now.fields ds c.loop-item.left c.next.new.self c.loop-item.found.items c.in_default.ensures.steps (c.loop-item.invariant ds h)
