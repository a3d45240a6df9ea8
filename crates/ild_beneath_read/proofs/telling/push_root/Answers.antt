use Rattle.std.proofs.Common.{◌-◌, arith}
use Rattle.ild_beneath.specs.Children.{children_in}
use Rattle.ild_beneath_read.proofs.Appending.{none_more, pushes_same}
use Rattle.ild_beneath_read.proofs.Blocks.{node_tells, nothing_tells, root_tells}
use Rattle.ild_beneath_read.proofs.telling.push_root.Goals as goal

pub returns-then-kind-eq0 : goal.returns-then-kind-eq0
returns-then-kind-eq0 c = λ d stands.
    pushes_same c.push_slot.result c.args.out.now.items c.push_slot.new.out.items _ _ (root_tells c.args.acc.now c.args.ty c.args.kind d (omega arith)) (c.push_slot.ensures d stands)

pub returns-in-Some : goal.returns-in-Some
returns-in-Some c = λ d stands.
    pushes_same c.push_node.result c.args.out.now.items c.push_node.new.out.items _ _
    (node_tells c.args.acc.now c.args.ty c.args.kind (c.args.kind - 1) (omega arith) d c.in-Some.value c.in-Some.ensures.same) (c.push_node.ensures d stands)

pub returns-in-None : goal.returns-in-None
returns-in-None c = λ d stands. none_more c.args.out.now.items (children_in c.args.acc.now c.args.ty c.args.kind d) (nothing_tells c.args.acc.now c.args.ty c.args.kind (c.args.kind - 1) (omega arith) d c.in-None.ensures.same)
