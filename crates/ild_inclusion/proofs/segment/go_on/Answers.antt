use Rattle.std.proofs.Common.{◌-◌, ap, ◌∙◌}
use Rattle.ild_inclusion.proofs.Stepping.{has_map, steps_in, steps_off}
use Rattle.ild_inclusion.proofs.segment.go_on.Goals as goal

pub enter-requires-clause-map : goal.enter-requires-clause-map
enter-requires-clause-map g c = has_map c.args.from.now.view c.in-Some-hamt.root c.in-Some-hamt.ensures

pub returns-in-Some-hamt : goal.returns-in-Some-hamt
returns-in-Some-hamt g c = λ f is memory.
    let x = c.args.from.now in
    steps_in g.H.KeyHash.hash_of x.view f is x.room x.at c.args.segment.now x.left.now c.enter.result c.in-Some-hamt.root c.saturating_sub-room.result (c.in_default.ensures f is) (c.in-Some-hamt.ensures f is)
    (c.saturating_sub-room.ensures ∙ ap (λ n. x.room - n) c.levels.ensures) (λ d view root. c.enter.ensures d view root memory)

pub returns-in-None : goal.returns-in-None
returns-in-None g c = λ f is memory.
    let x = c.args.from.now in
    steps_off g.H.KeyHash.hash_of x.view f is x.room x.at c.args.segment.now x.left.now c.nowhere.result (c.in_default.ensures f is) (c.in-None.ensures f is) c.nowhere.ensures
