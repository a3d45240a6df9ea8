use Rattle.std.proofs.Common.{refl}
use Rattle.ild_run.specs.Ended.{Call, call_of}
use Rattle.ild_run.specs.Named.{root_shown}
use Rattle.ild_run.specs.NamedScript.{script_run}
use Rattle.ild_run.specs.Words.{job_of}
use Rattle.ild_run.proofs.Completes.{complete_from}
use Rattle.ild_run.proofs.CompletesNamed.{nothing_answered}
use Rattle.ild_run.proofs.Endings.{ended_unread}
use Rattle.ild_run.proofs.Generating.{complete_none}
use Rattle.ild_run.proofs.Roots.{no_job_shown, nothing_revealed, root_ended, root_revealed, rootless, no_script_shown, unread_answered, unread_ended, unread_revealed}
use Rattle.ild_run.proofs.top.carry_words.Goals as goal

pub returns-in-Ok-Some-clause-ended : goal.returns-in-Ok-Some-clause-ended
returns-in-Ok-Some-clause-ended g c =
    let call : Call = call_of (job_of c.args.words.now) (g.I.Inputs.supply c.args.inputs.now) (g.K.Store.moment c.args.store.now) (g.W.Sink.output c.args.out.now) (g.I.Inputs.supply c.args.inputs.now) (g.K.Store.moment c.reveal.new.store) (g.W.Sink.output c.reveal.new.out) in
    let asks = rw c.in-Ok-Some.field-0-is at c.in-Ok-Some.ensures in
    root_ended (root_shown c.args.words.now) c.in-Ok-Some.root.0 call c.reveal.result asks refl c.reveal.ensures (script_run c.args.words.now)

pub returns-in-Ok-Some-clause-complete : goal.returns-in-Ok-Some-clause-complete
returns-in-Ok-Some-clause-complete g c =
    let call : Call = call_of (job_of c.args.words.now) (g.I.Inputs.supply c.args.inputs.now) (g.K.Store.moment c.args.store.now) (g.W.Sink.output c.args.out.now) (g.I.Inputs.supply c.args.inputs.now) (g.K.Store.moment c.reveal.new.store) (g.W.Sink.output c.reveal.new.out) in
    let asks = rw c.in-Ok-Some.field-0-is at c.in-Ok-Some.ensures in
    complete_none call c.reveal.result (no_job_shown c.args.words.now c.in-Ok-Some.root.0 asks)

pub returns-in-Ok-Some-clause-revealed : goal.returns-in-Ok-Some-clause-revealed
returns-in-Ok-Some-clause-revealed g c =
    let call : Call = call_of (job_of c.args.words.now) (g.I.Inputs.supply c.args.inputs.now) (g.K.Store.moment c.args.store.now) (g.W.Sink.output c.args.out.now) (g.I.Inputs.supply c.args.inputs.now) (g.K.Store.moment c.reveal.new.store) (g.W.Sink.output c.reveal.new.out) in
    let asks = rw c.in-Ok-Some.field-0-is at c.in-Ok-Some.ensures in
    root_revealed (root_shown c.args.words.now) c.in-Ok-Some.root.0 call c.reveal.result asks refl c.reveal.ensures

pub returns-in-Ok-None-clause-ended : goal.returns-in-Ok-None-clause-ended
returns-in-Ok-None-clause-ended g c =
    let call : Call = call_of (job_of c.args.words.now) (g.I.Inputs.supply c.args.inputs.now) (g.K.Store.moment c.args.store.now) (g.W.Sink.output c.args.out.now) (g.I.Inputs.supply c.carry_scripts.new.inputs) (g.K.Store.moment c.carry_scripts.new.store) (g.W.Sink.output c.carry_scripts.new.out) in
    let asks = rw c.in-Ok-None.field-0-is at c.in-Ok-None.ensures in
    rootless (root_shown c.args.words.now) (script_run c.args.words.now) call c.carry_scripts.result asks c.carry_scripts.ensures.ended

pub returns-in-Ok-None-clause-complete : goal.returns-in-Ok-None-clause-complete
returns-in-Ok-None-clause-complete g c = c.carry_scripts.ensures.complete

pub returns-in-Ok-None-clause-revealed : goal.returns-in-Ok-None-clause-revealed
returns-in-Ok-None-clause-revealed g c =
    let call : Call = call_of (job_of c.args.words.now) (g.I.Inputs.supply c.args.inputs.now) (g.K.Store.moment c.args.store.now) (g.W.Sink.output c.args.out.now) (g.I.Inputs.supply c.carry_scripts.new.inputs) (g.K.Store.moment c.carry_scripts.new.store) (g.W.Sink.output c.carry_scripts.new.out) in
    let asks = rw c.in-Ok-None.field-0-is at c.in-Ok-None.ensures in
    nothing_revealed (root_shown c.args.words.now) call c.carry_scripts.result asks

pub returns-in-Err-clause-ended : goal.returns-in-Err-clause-ended
returns-in-Err-clause-ended g c =
    let call : Call = call_of (job_of c.args.words.now) (g.I.Inputs.supply c.args.inputs.now) (g.K.Store.moment c.args.store.now) (g.W.Sink.output c.args.out.now) (g.I.Inputs.supply c.args.inputs.now) (g.K.Store.moment c.args.store.now) (g.W.Sink.output c.tell.new.out) in
    unread_ended call c.tell.result refl refl c.tell.ensures (root_shown c.args.words.now) (script_run c.args.words.now)

pub returns-in-Err-clause-complete : goal.returns-in-Err-clause-complete
returns-in-Err-clause-complete g c =
    let call : Call = call_of (job_of c.args.words.now) (g.I.Inputs.supply c.args.inputs.now) (g.K.Store.moment c.args.store.now) (g.W.Sink.output c.args.out.now) (g.I.Inputs.supply c.args.inputs.now) (g.K.Store.moment c.args.store.now) (g.W.Sink.output c.tell.new.out) in
    complete_from call c.tell.result (ended_unread call c.tell.result refl c.tell.ensures)

pub returns-in-Err-clause-revealed : goal.returns-in-Err-clause-revealed
returns-in-Err-clause-revealed g c =
    let call : Call = call_of (job_of c.args.words.now) (g.I.Inputs.supply c.args.inputs.now) (g.K.Store.moment c.args.store.now) (g.W.Sink.output c.args.out.now) (g.I.Inputs.supply c.args.inputs.now) (g.K.Store.moment c.args.store.now) (g.W.Sink.output c.tell.new.out) in
    unread_revealed call c.tell.result refl refl c.tell.ensures (root_shown c.args.words.now)

pub returns-in-Ok-Some-clause-answered : goal.returns-in-Ok-Some-clause-answered
returns-in-Ok-Some-clause-answered g c =
    let call : Call = call_of (job_of c.args.words.now) (g.I.Inputs.supply c.args.inputs.now) (g.K.Store.moment c.args.store.now) (g.W.Sink.output c.args.out.now) (g.I.Inputs.supply c.args.inputs.now) (g.K.Store.moment c.reveal.new.store) (g.W.Sink.output c.reveal.new.out) in
    let asks = rw c.in-Ok-Some.field-0-is at c.in-Ok-Some.ensures in
    nothing_answered (script_run c.args.words.now) call c.reveal.result (no_script_shown c.args.words.now c.in-Ok-Some.root.0 asks)

pub returns-in-Ok-None-clause-answered : goal.returns-in-Ok-None-clause-answered
returns-in-Ok-None-clause-answered g c = c.carry_scripts.ensures.answered

pub returns-in-Err-clause-answered : goal.returns-in-Err-clause-answered
returns-in-Err-clause-answered g c =
    let call : Call = call_of (job_of c.args.words.now) (g.I.Inputs.supply c.args.inputs.now) (g.K.Store.moment c.args.store.now) (g.W.Sink.output c.args.out.now) (g.I.Inputs.supply c.args.inputs.now) (g.K.Store.moment c.args.store.now) (g.W.Sink.output c.tell.new.out) in
    unread_answered call c.tell.result refl refl c.tell.ensures (script_run c.args.words.now)
