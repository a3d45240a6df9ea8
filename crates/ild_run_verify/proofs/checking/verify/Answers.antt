use Rattle.ild_run_verify.proofs.Lines.{verified, refused}
use Rattle.ild_run_verify.proofs.checking.verify.Goals as goal

pub returns-in-Ok : goal.returns-in-Ok
returns-in-Ok g c =
    verified g.H.KeyHash.hash_of c.args.acc.now c.args.ty c.args.root.now.0 c.args.path.now c.args.input.now c.in-Ok.part (g.W.Sink.output c.args.out.now) c.tell.result (g.W.Sink.output c.tell.new.out) c.in-Ok.ensures c.tell.ensures

pub returns-in-Err : goal.returns-in-Err
returns-in-Err g c = refused g.H.KeyHash.hash_of c.args.acc.now c.args.ty c.args.root.now.0 c.args.path.now c.args.input.now c.in-Err.fault (g.W.Sink.output c.args.out.now) c.in-Err.ensures
