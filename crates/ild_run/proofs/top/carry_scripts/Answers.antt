use Rattle.std.proofs.Common.{refl}
use Rattle.ild_run.specs.Ended.{Call, call_of}
use Rattle.ild_run.specs.NamedScript.{script_run}
use Rattle.ild_run.specs.Words.{job_of}
use Rattle.ild_run.proofs.Completes.{complete_from}
use Rattle.ild_run.proofs.CompletesNamed.{nothing_answered, script_answered}
use Rattle.ild_run.proofs.Endings.{ended_unread}
use Rattle.ild_run.proofs.Generating.{complete_none}
use Rattle.ild_run.proofs.Roots.{no_job_scripted, script_ended, scriptless, unread_answered, unread_last}
use Rattle.ild_run.proofs.top.carry_scripts.Goals as goal

pub returns-in-Ok-Some-clause-ended : goal.returns-in-Ok-Some-clause-ended
returns-in-Ok-Some-clause-ended g c =
    let call : Call = call_of (job_of c.args.words.now) (g.I.Inputs.supply c.args.inputs.now) (g.K.Store.moment c.args.store.now) (g.W.Sink.output c.args.out.now) (g.I.Inputs.supply c.run_root.new.inputs) (g.K.Store.moment c.run_root.new.store) (g.W.Sink.output c.run_root.new.out) in
    let asks = rw c.in-Ok-Some.field-0-is at c.in-Ok-Some.ensures in
    script_ended (script_run c.args.words.now) _ call c.run_root.result asks c.run_root.ensures.runs

pub returns-in-Ok-Some-clause-complete : goal.returns-in-Ok-Some-clause-complete
returns-in-Ok-Some-clause-complete g c =
    let call : Call = call_of (job_of c.args.words.now) (g.I.Inputs.supply c.args.inputs.now) (g.K.Store.moment c.args.store.now) (g.W.Sink.output c.args.out.now) (g.I.Inputs.supply c.run_root.new.inputs) (g.K.Store.moment c.run_root.new.store) (g.W.Sink.output c.run_root.new.out) in
    let asks = rw c.in-Ok-Some.field-0-is at c.in-Ok-Some.ensures in
    complete_none call c.run_root.result (no_job_scripted c.args.words.now _ asks)

pub returns-in-Ok-None-clause-ended : goal.returns-in-Ok-None-clause-ended
returns-in-Ok-None-clause-ended g c =
    let call : Call = call_of (job_of c.args.words.now) (g.I.Inputs.supply c.args.inputs.now) (g.K.Store.moment c.args.store.now) (g.W.Sink.output c.args.out.now) (g.I.Inputs.supply c.carry_out.new.inputs) (g.K.Store.moment c.carry_out.new.store) (g.W.Sink.output c.carry_out.new.out) in
    let asks = rw c.in-Ok-None.field-0-is at c.in-Ok-None.ensures in
    scriptless (script_run c.args.words.now) call c.carry_out.result asks c.carry_out.ensures.ended

pub returns-in-Ok-None-clause-complete : goal.returns-in-Ok-None-clause-complete
returns-in-Ok-None-clause-complete g c =
    let call : Call = call_of (job_of c.args.words.now) (g.I.Inputs.supply c.args.inputs.now) (g.K.Store.moment c.args.store.now) (g.W.Sink.output c.args.out.now) (g.I.Inputs.supply c.carry_out.new.inputs) (g.K.Store.moment c.carry_out.new.store) (g.W.Sink.output c.carry_out.new.out) in
    complete_from call c.carry_out.result c.carry_out.ensures.ended

pub returns-in-Err-clause-ended : goal.returns-in-Err-clause-ended
returns-in-Err-clause-ended g c =
    let call : Call = call_of (job_of c.args.words.now) (g.I.Inputs.supply c.args.inputs.now) (g.K.Store.moment c.args.store.now) (g.W.Sink.output c.args.out.now) (g.I.Inputs.supply c.args.inputs.now) (g.K.Store.moment c.args.store.now) (g.W.Sink.output c.tell.new.out) in
    unread_last call c.tell.result refl refl c.tell.ensures (script_run c.args.words.now)

pub returns-in-Err-clause-complete : goal.returns-in-Err-clause-complete
returns-in-Err-clause-complete g c =
    let call : Call = call_of (job_of c.args.words.now) (g.I.Inputs.supply c.args.inputs.now) (g.K.Store.moment c.args.store.now) (g.W.Sink.output c.args.out.now) (g.I.Inputs.supply c.args.inputs.now) (g.K.Store.moment c.args.store.now) (g.W.Sink.output c.tell.new.out) in
    complete_from call c.tell.result (ended_unread call c.tell.result refl c.tell.ensures)

pub returns-in-Ok-Some-clause-answered : goal.returns-in-Ok-Some-clause-answered
returns-in-Ok-Some-clause-answered g c =
    let call : Call = call_of (job_of c.args.words.now) (g.I.Inputs.supply c.args.inputs.now) (g.K.Store.moment c.args.store.now) (g.W.Sink.output c.args.out.now) (g.I.Inputs.supply c.run_root.new.inputs) (g.K.Store.moment c.run_root.new.store) (g.W.Sink.output c.run_root.new.out) in
    let asks = rw c.in-Ok-Some.field-0-is at c.in-Ok-Some.ensures in
    script_answered (script_run c.args.words.now) _ call c.run_root.result asks c.run_root.ensures.runs

pub returns-in-Ok-None-clause-answered : goal.returns-in-Ok-None-clause-answered
returns-in-Ok-None-clause-answered g c =
    let call : Call = call_of (job_of c.args.words.now) (g.I.Inputs.supply c.args.inputs.now) (g.K.Store.moment c.args.store.now) (g.W.Sink.output c.args.out.now) (g.I.Inputs.supply c.carry_out.new.inputs) (g.K.Store.moment c.carry_out.new.store) (g.W.Sink.output c.carry_out.new.out) in
    let asks = rw c.in-Ok-None.field-0-is at c.in-Ok-None.ensures in
    nothing_answered (script_run c.args.words.now) call c.carry_out.result asks

pub returns-in-Err-clause-answered : goal.returns-in-Err-clause-answered
returns-in-Err-clause-answered g c =
    let call : Call = call_of (job_of c.args.words.now) (g.I.Inputs.supply c.args.inputs.now) (g.K.Store.moment c.args.store.now) (g.W.Sink.output c.args.out.now) (g.I.Inputs.supply c.args.inputs.now) (g.K.Store.moment c.args.store.now) (g.W.Sink.output c.tell.new.out) in
    unread_answered call c.tell.result refl refl c.tell.ensures (script_run c.args.words.now)
