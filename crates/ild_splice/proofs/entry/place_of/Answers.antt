use Rattle.std.proofs.Common.{sym}
use Rattle.ild_data.specs.Data.{map, members_list}
use Rattle.ild_splice.proofs.Searching.{begins, found, passes, stops, meets, ends}
use Rattle.ild_splice.proofs.entry.place_of.Goals as goal

pub loop-found-init : goal.loop-found-init
loop-found-init c = λ ms stands. begins c.args.node.now ms c.args.key.now c.in-Some.entries stands (c.in-Some.ensures (map ms) stands)

pub returns-in-Less : goal.returns-in-Less
returns-in-Less c = λ ms stands.
    stops c.args.key.now (members_list ms) c.loop-found.passed c.in-Some-next.found.now c.in-Some-next.value c.next.new.self
    (found c.args.key.now (members_list ms) c.loop-found.passed c.loop-found.rest (c.in-Some-next.found, c.in-Some-next.value) c.next.new.self (c.loop-found.invariant ms stands) c.in-Some-next.ensures.steps)
    (sym c.in-Less.ensures)

pub returns-in-Equal : goal.returns-in-Equal
returns-in-Equal c = λ ms stands.
    meets c.args.key.now (members_list ms) c.loop-found.passed c.passed_with-next.result c.in-Some-next.found.now c.in-Some-next.value c.next.new.self
    (found c.args.key.now (members_list ms) c.loop-found.passed c.loop-found.rest (c.in-Some-next.found, c.in-Some-next.value) c.next.new.self (c.loop-found.invariant ms stands) c.in-Some-next.ensures.steps)
    c.passed_with-next.ensures (sym c.in-Equal.ensures)

pub loop-found-preserved : goal.loop-found-preserved
loop-found-preserved c = λ ms stands.
    passes c.args.key.now (members_list ms) c.loop-found.passed c.passed_with-next.result c.in-Some-next.found.now c.in-Some-next.value c.next.new.self
    (found c.args.key.now (members_list ms) c.loop-found.passed c.loop-found.rest (c.in-Some-next.found, c.in-Some-next.value) c.next.new.self (c.loop-found.invariant ms stands) c.in-Some-next.ensures.steps)
    c.passed_with-next.ensures (sym c.in-Greater.ensures)

pub returns-in_default-next : goal.returns-in_default-next
returns-in_default-next c = λ ms stands.
    ends c.args.key.now (members_list ms) c.loop-found.passed c.loop-found.rest c.next.new.self (c.loop-found.invariant ms stands) c.in_default-next.ensures.steps

pub returns-in_default : goal.returns-in_default
returns-in_default c = λ ms stands. absurd (c.in_default.ensures (map ms) stands)
