use Rattle.ild_bulk_walker.specs.inside.Stepping.{FitsNext}
use Rattle.ild_bulk_walker.proofs.Passing.{passed-on}
use Rattle.ild_bulk_walker.proofs.walker.Walker.pass.Goals as goal

pub returns-then-branch-clause-gives : goal.returns-then-branch-clause-gives
returns-then-branch-clause-gives g c =
    let f : FitsNext g.H.KeyHash.hash_of c.args.self.now.shape c.args.self.now = rw c.if-branch.true at c.in_ok-is_next.ensures in
    passed-on c.args.self.now.shape g.H.KeyHash.hash_of c.args.self.now c.pass_step.new.self f c.in_ok-pass_step.ensures.passes
