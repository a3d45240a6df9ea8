use Rattle.std.proofs.Common.{Option, refl, sym, subst}
use Rattle.ild_run.specs.Words.{Job, job_of}
use Rattle.ild_run.specs.Ended.{Call, Ended, call_of}
use Rattle.ild_run.proofs.Endings.{ended_words, ended_unread}
use Rattle.ild_run.proofs.top.carry_out.Goals as goal

pub returns-in-Ok-Some-clause-ended : goal.returns-in-Ok-Some-clause-ended
returns-in-Ok-Some-clause-ended g c =
    let call : Option Job → Call = λ (job : Option Job). call_of job (g.I.Inputs.supply c.args.inputs.now) (g.K.Store.moment c.args.store.now) (g.W.Sink.output c.args.out.now) (g.I.Inputs.supply c.carry_job.new.inputs) (g.K.Store.moment c.carry_job.new.store) (g.W.Sink.output c.carry_job.new.out) in
    let asks = rw c.in-Ok-Some.field-0-is at c.in-Ok-Some.ensures in
    subst (λ (job : Option Job). Ended (call job) c.carry_job.result) asks c.carry_job.ensures.ended

pub returns-in-Ok-None-clause-ended : goal.returns-in-Ok-None-clause-ended
returns-in-Ok-None-clause-ended g c =
    let call : Call = call_of (job_of c.args.words.now) (g.I.Inputs.supply c.args.inputs.now) (g.K.Store.moment c.args.store.now) (g.W.Sink.output c.args.out.now) (g.I.Inputs.supply c.args.inputs.now) (g.K.Store.moment c.args.store.now) (g.W.Sink.output c.tell.new.out) in
    let asks = rw c.in-Ok-None.field-0-is at c.in-Ok-None.ensures in
    ended_words call c.tell.result (sym asks) refl c.tell.ensures

pub returns-in-Err-clause-ended : goal.returns-in-Err-clause-ended
returns-in-Err-clause-ended g c =
    let call : Call = call_of (job_of c.args.words.now) (g.I.Inputs.supply c.args.inputs.now) (g.K.Store.moment c.args.store.now) (g.W.Sink.output c.args.out.now) (g.I.Inputs.supply c.args.inputs.now) (g.K.Store.moment c.args.store.now) (g.W.Sink.output c.tell-in-Err.new.out) in
    ended_unread call c.tell-in-Err.result refl c.tell-in-Err.ensures
