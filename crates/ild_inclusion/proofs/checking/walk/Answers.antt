use Rattle.ild_inclusion.proofs.Rooted.{walks_from, walks_refused}
use Rattle.ild_inclusion.proofs.Stepping.{memory_again}
use Rattle.ild_inclusion.proofs.checking.walk.Goals as goal

pub returns-in-Ok-fronted : goal.returns-in-Ok-fronted
returns-in-Ok-fronted g c = λ memory.
    walks_from g.H.KeyHash.hash_of c.args.acc.now c.args.ty c.args.root.now.0 c.args.path.now c.args.blocks.now c.in-Some.first.now c.in-Some.left.now c.in-Some.ensures.cases.0 c.as_slice.result.now c.as_slice-2.result.now c.as_slice.ensures.same
    c.as_slice-2.ensures.same (c.is_named.ensures.0 c.if-not-is_named.false) c.in-Ok.node c.in-Ok.ensures c.follow.result c.in-Ok-fronted.view (λ t stands. c.in-Ok-fronted.ensures t stands (λ e. absurd cc))
    (λ f view. c.follow.ensures f view memory)

pub returns-in-Err-fronted : goal.returns-in-Err-fronted
returns-in-Err-fronted g c = λ memory.
    walks_refused g.H.KeyHash.hash_of c.args.acc.now c.args.ty c.args.root.now.0 c.args.path.now c.args.blocks.now c.in-Some.first.now c.in-Some.left.now c.in-Some.ensures.cases.0 c.as_slice.result.now c.as_slice-2.result.now c.as_slice.ensures.same
    c.as_slice-2.ensures.same (c.is_named.ensures.0 c.if-not-is_named.false) c.in-Ok.node c.in-Ok.ensures c.in-Err-fronted.fault (λ t stands. c.in-Err-fronted.ensures t stands (λ e. memory (memory_again c.in-Err-fronted.fault e)))
