use Rattle.ild_inclusion.proofs.Single.{verifies}
use Rattle.ild_inclusion.proofs.Told.{walk_found, walk_refused}
use Rattle.ild_inclusion.proofs.checking.verify.Goals as goal

pub returns-in-Ok : goal.returns-in-Ok
returns-in-Ok g c =
    verifies g.H.KeyHash.hash_of c.args.acc.now (record { table = c.recall.ensures.table; accepted = c.recall.ensures.accepted }) c.args.ty c.args.root.now.0 c.args.path.now c.args.proof.now c.spelled.result
    (λ memory. walk_found g.H.KeyHash.hash_of c.args.acc.now c.args.ty c.args.root.now.0 c.args.path.now _ c.args.proof.now c.blocks-2.ensures c.in-Ok.found c.spelled.result (λ a found. c.spelled.ensures a found memory) c.in-Ok.ensures)

pub returns-in-Err : goal.returns-in-Err
returns-in-Err g c =
    verifies g.H.KeyHash.hash_of c.args.acc.now (record { table = c.recall.ensures.table; accepted = c.recall.ensures.accepted }) c.args.ty c.args.root.now.0 c.args.path.now c.args.proof.now _
    (λ memory. walk_refused g.H.KeyHash.hash_of c.args.acc.now c.args.ty c.args.root.now.0 c.args.path.now _ c.args.proof.now c.blocks-2.ensures c.in-Err.fault memory c.in-Err.ensures)
