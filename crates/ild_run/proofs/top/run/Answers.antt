use Rattle.std.proofs.Common.{refl, sym, ◌∙◌}
use Rattle.ild_run.specs.Ended.{Call, call_of}
use Rattle.ild_run.specs.Named.{root_shown}
use Rattle.ild_run.specs.NamedScript.{script_run}
use Rattle.ild_run.specs.Words.{job_of}
use Rattle.ild_run_generate.specs.Words.{generation_of}
use Rattle.ild_run.proofs.CompletesNamed.{nothing_answered}
use Rattle.ild_run.proofs.Generating.{all_generated, complete_none, generation_ended, no_job_of, nothing_generated, something_else}
use Rattle.ild_run.proofs.Roots.{no_root_generated, no_script_generated, nothing_revealed}
use Rattle.ild_run.proofs.top.run.Goals as goal

pub returns-in-Some-clause-ended : goal.returns-in-Some-clause-ended
returns-in-Some-clause-ended g c =
    let call : Call = call_of (job_of c.args.words.now) (g.I.Inputs.supply c.args.inputs.now) (g.K.Store.moment c.args.store.now) (g.W.Sink.output c.args.out.now) (g.I.Inputs.supply c.args.inputs.now) (g.K.Store.moment c.run_generator.new.store) (g.W.Sink.output c.run_generator.new.out) in
    generation_ended (generation_of c.args.words.now) c.in-Some.count c.in-Some.seed call c.run_generator.result (sym c.generation_of.ensures ∙ c.in-Some.is) refl c.run_generator.ensures (root_shown c.args.words.now) (script_run c.args.words.now)

pub returns-in-Some-clause-complete : goal.returns-in-Some-clause-complete
returns-in-Some-clause-complete g c =
    let call : Call = call_of (job_of c.args.words.now) (g.I.Inputs.supply c.args.inputs.now) (g.K.Store.moment c.args.store.now) (g.W.Sink.output c.args.out.now) (g.I.Inputs.supply c.args.inputs.now) (g.K.Store.moment c.run_generator.new.store) (g.W.Sink.output c.run_generator.new.out) in
    complete_none call c.run_generator.result (no_job_of c.args.words.now _ (sym c.generation_of.ensures ∙ c.in-Some.is))

pub returns-in-Some-clause-generated : goal.returns-in-Some-clause-generated
returns-in-Some-clause-generated g c =
    let call : Call = call_of (job_of c.args.words.now) (g.I.Inputs.supply c.args.inputs.now) (g.K.Store.moment c.args.store.now) (g.W.Sink.output c.args.out.now) (g.I.Inputs.supply c.args.inputs.now) (g.K.Store.moment c.run_generator.new.store) (g.W.Sink.output c.run_generator.new.out) in
    all_generated (generation_of c.args.words.now) c.in-Some.count c.in-Some.seed call c.run_generator.result (sym c.generation_of.ensures ∙ c.in-Some.is) refl c.run_generator.ensures

pub returns-in-Some-clause-revealed : goal.returns-in-Some-clause-revealed
returns-in-Some-clause-revealed g c =
    let call : Call = call_of (job_of c.args.words.now) (g.I.Inputs.supply c.args.inputs.now) (g.K.Store.moment c.args.store.now) (g.W.Sink.output c.args.out.now) (g.I.Inputs.supply c.args.inputs.now) (g.K.Store.moment c.run_generator.new.store) (g.W.Sink.output c.run_generator.new.out) in
    nothing_revealed (root_shown c.args.words.now) call c.run_generator.result (no_root_generated c.args.words.now _ (sym c.generation_of.ensures ∙ c.in-Some.is))

pub returns-in-None-clause-ended : goal.returns-in-None-clause-ended
returns-in-None-clause-ended g c =
    let call : Call = call_of (job_of c.args.words.now) (g.I.Inputs.supply c.args.inputs.now) (g.K.Store.moment c.args.store.now) (g.W.Sink.output c.args.out.now) (g.I.Inputs.supply c.carry_words.new.inputs) (g.K.Store.moment c.carry_words.new.store) (g.W.Sink.output c.carry_words.new.out) in
    something_else (generation_of c.args.words.now) (root_shown c.args.words.now) (script_run c.args.words.now) call c.carry_words.result (sym c.generation_of.ensures ∙ c.in-None.is) c.carry_words.ensures.ended

pub returns-in-None-clause-complete : goal.returns-in-None-clause-complete
returns-in-None-clause-complete g c = c.carry_words.ensures.complete

pub returns-in-None-clause-generated : goal.returns-in-None-clause-generated
returns-in-None-clause-generated g c =
    let call : Call = call_of (job_of c.args.words.now) (g.I.Inputs.supply c.args.inputs.now) (g.K.Store.moment c.args.store.now) (g.W.Sink.output c.args.out.now) (g.I.Inputs.supply c.carry_words.new.inputs) (g.K.Store.moment c.carry_words.new.store) (g.W.Sink.output c.carry_words.new.out) in
    nothing_generated (generation_of c.args.words.now) call c.carry_words.result (sym c.generation_of.ensures ∙ c.in-None.is)

pub returns-in-Some-clause-answered : goal.returns-in-Some-clause-answered
returns-in-Some-clause-answered g c =
    let call : Call = call_of (job_of c.args.words.now) (g.I.Inputs.supply c.args.inputs.now) (g.K.Store.moment c.args.store.now) (g.W.Sink.output c.args.out.now) (g.I.Inputs.supply c.args.inputs.now) (g.K.Store.moment c.run_generator.new.store) (g.W.Sink.output c.run_generator.new.out) in
    nothing_answered (script_run c.args.words.now) call c.run_generator.result (no_script_generated c.args.words.now _ (sym c.generation_of.ensures ∙ c.in-Some.is))

pub returns-in-None-clause-answered : goal.returns-in-None-clause-answered
returns-in-None-clause-answered g c = c.carry_words.ensures.answered
