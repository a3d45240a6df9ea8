use Rattle.std.proofs.Common.{Some, refl}
use Rattle.ild_run.specs.Opening.{job_seen}
use Rattle.ild_run.specs.Ended.{Call, call_of}
use Rattle.ild_run.proofs.Carryings.{ended_task}
use Rattle.ild_run.proofs.Endings.{ended_inputs}
use Rattle.ild_run.proofs.top.carry_job.Goals as goal

pub returns-in-Err-clause-ended : goal.returns-in-Err-clause-ended
returns-in-Err-clause-ended g c =
    let call : Call = call_of (Some (job_seen c.args.job.now)) (g.I.Inputs.supply c.args.inputs.now) (g.K.Store.moment c.args.store.now) (g.W.Sink.output c.args.out.now) (g.I.Inputs.supply c.plan.new.inputs) (g.K.Store.moment c.args.store.now) (g.W.Sink.output c.tell.new.out) in
    let opens = c.in-Err.ensures in
    ended_inputs call (job_seen c.args.job.now) opens.taking c.in-Err.fault c.tell.result refl opens.taken opens.answer refl c.tell.ensures

pub returns-clause-ended : goal.returns-clause-ended
returns-clause-ended g c =
    let call : Call = call_of (Some (job_seen c.args.job.now)) (g.I.Inputs.supply c.args.inputs.now) (g.K.Store.moment c.args.store.now) (g.W.Sink.output c.args.out.now) (g.I.Inputs.supply c.plan.new.inputs) (g.K.Store.moment c.carry_task.new.store) (g.W.Sink.output c.carry_task.new.out) in
    let opens = c.in-Ok.ensures in
    ended_task call (job_seen c.args.job.now) opens.taking c.in-Ok.task c.carry_task.result refl opens.taken opens.answer c.carry_task.ensures.carried
