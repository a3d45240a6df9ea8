use Rattle.ild_bulk_walker.specs.inside.Stepping.{FitsNext}
use Rattle.ild_bulk_walker.proofs.Nexting.{taken}
use Rattle.ild_bulk_walker.proofs.walker.Walker.give.Goals as goal

pub returns-then-branch-clause-gives : goal.returns-then-branch-clause-gives
returns-then-branch-clause-gives g c =
    let f : FitsNext g.H.KeyHash.hash_of c.args.self.now.shape c.args.self.now = rw c.if-branch.true at c.in_ok-is_next.ensures in
    taken c.args.self.now.shape g.H.KeyHash.hash_of c.args.self.now c.take_row.new.self f.next c.take_row.result f.fit c.take_row.ensures.takes
