use Rattle.std.proofs.Common.{◌∙◌, Ok, sym, subst, arith}
use Rattle.ild_edges.specs.Store.{Moment}
use Rattle.ild_run_generate.specs.Steps.{TakesStep}
use Rattle.ild_run_generate.specs.declared.summary.Counts.{Counts}
use Rattle.ild_run_generate.proofs.Taken.{takes_nothing, takes_done, takes_absent, takes_left, takes_store, takes_memory, takes_clash_of, takes_lacking}
use Rattle.ild_run_generate.proofs.stepping.take_step.Goals as goal

pub returns-in_default-clause-takes : goal.returns-in_default-clause-takes
returns-in_default-clause-takes g c = takes_nothing c.args.doc.now c.args.x c.args.i c.args.counts (g.K.Store.moment c.args.store.now)

pub returns-in-Ok-clause-takes : goal.returns-in-Ok-clause-takes
returns-in-Ok-clause-takes g c =
    let m : Moment = g.K.Store.moment c.args.store.now in
    let n : Moment = g.K.Store.moment c.edit_naming-answer.new.store in
    let json = c.as_bytes-json.ensures.value ∙ c.as_str.ensures.same in
    subst (λ (o : Counts). TakesStep c.args.doc.now c.edit_naming-answer.new.doc c.args.x c.args.i c.args.counts m (Ok o) n) (sym (rw c.is_deletion.ensures at c.one_more.ensures.more))
    (takes_done c.steps_are_edits.ensures c.steps_add_blocks.ensures c.args.doc.now c.edit_naming-answer.new.doc c.args.x c.args.i (omega arith) c.in-Some.asked c.in-Some.ensures m n c.edit_naming-answer.result
    (rw json at c.edit_naming-answer.ensures.edits.answers) c.args.counts c.in-Ok.is)

pub returns-in-Absent-clause-takes : goal.returns-in-Absent-clause-takes
returns-in-Absent-clause-takes g c =
    let m : Moment = g.K.Store.moment c.args.store.now in
    let n : Moment = g.K.Store.moment c.edit_naming-answer.new.store in
    let json = c.as_bytes-json.ensures.value ∙ c.as_str.ensures.same in
    subst (λ (o : Counts). TakesStep c.args.doc.now c.edit_naming-answer.new.doc c.args.x c.args.i c.args.counts m (Ok o) n) (sym (rw c.is_deletion-in-Absent.ensures at c.one_absent.ensures.more))
    (takes_absent c.steps_are_edits.ensures c.steps_add_blocks.ensures c.args.doc.now c.edit_naming-answer.new.doc c.args.x c.args.i (omega arith) c.in-Some.asked c.in-Some.ensures m n c.edit_naming-answer.result
    (rw json at c.edit_naming-answer.ensures.edits.answers) c.args.counts c.in-Err.refusal c.in-Err.is (sym c.outcome_of.ensures ∙ c.in-Absent.is))

pub returns-in-Left-clause-takes : goal.returns-in-Left-clause-takes
returns-in-Left-clause-takes g c =
    let m : Moment = g.K.Store.moment c.args.store.now in
    let n : Moment = g.K.Store.moment c.edit_naming-answer.new.store in
    let json = c.as_bytes-json.ensures.value ∙ c.as_str.ensures.same in
    takes_left c.steps_are_edits.ensures c.steps_add_blocks.ensures c.args.doc.now c.edit_naming-answer.new.doc c.args.x c.args.i (omega arith) c.in-Some.asked c.in-Some.ensures m n c.edit_naming-answer.result
    (rw json at c.edit_naming-answer.ensures.edits.answers) c.args.counts c.in-Err.refusal c.in-Err.is (sym c.outcome_of.ensures ∙ c.in-Left.is)

pub returns-in-Block-clause-takes : goal.returns-in-Block-clause-takes
returns-in-Block-clause-takes g c =
    let m : Moment = g.K.Store.moment c.args.store.now in
    let n : Moment = g.K.Store.moment c.edit_naming-answer.new.store in
    let json = c.as_bytes-json.ensures.value ∙ c.as_str.ensures.same in
    takes_lacking c.steps_are_edits.ensures c.steps_add_blocks.ensures c.args.doc.now c.edit_naming-answer.new.doc c.args.x c.args.i (omega arith) c.in-Some.asked c.in-Some.ensures m n c.edit_naming-answer.result
    (rw json at c.edit_naming-answer.ensures.edits.answers) c.args.counts c.in-Err.refusal c.in-Err.is (sym c.outcome_of.ensures ∙ c.in-Block.is) c.lacking.result (g.K.Store.moment c.lacking.new.store) c.lacking.ensures

pub returns-in-Store-clause-takes : goal.returns-in-Store-clause-takes
returns-in-Store-clause-takes g c =
    let m : Moment = g.K.Store.moment c.args.store.now in
    let n : Moment = g.K.Store.moment c.edit_naming-answer.new.store in
    let json = c.as_bytes-json.ensures.value ∙ c.as_str.ensures.same in
    takes_store c.steps_are_edits.ensures c.steps_add_blocks.ensures c.args.doc.now c.edit_naming-answer.new.doc c.args.x c.args.i (omega arith) c.in-Some.asked c.in-Some.ensures m n c.edit_naming-answer.result
    (rw json at c.edit_naming-answer.ensures.edits.answers) c.args.counts c.in-Err.refusal c.in-Err.is (sym c.outcome_of.ensures ∙ c.in-Store.is)

pub returns-in-Clash-clause-takes : goal.returns-in-Clash-clause-takes
returns-in-Clash-clause-takes g c =
    let m : Moment = g.K.Store.moment c.args.store.now in
    let n : Moment = g.K.Store.moment c.edit_naming-answer.new.store in
    let json = c.as_bytes-json.ensures.value ∙ c.as_str.ensures.same in
    takes_clash_of c.steps_are_edits.ensures c.steps_add_blocks.ensures c.args.doc.now c.edit_naming-answer.new.doc c.args.x c.args.i (omega arith) c.in-Some.asked c.in-Some.ensures m n c.edit_naming-answer.result
    (rw json at c.edit_naming-answer.ensures.edits.answers) c.args.counts c.in-Err.refusal c.in-Err.is (sym c.outcome_of.ensures ∙ c.in-Clash.is) c.edit_naming-answer.new.clash c.edit_naming-answer.ensures.named c.clash_of.result c.clash_of.ensures

pub returns-clause-takes : goal.returns-clause-takes
returns-clause-takes g c =
    let m : Moment = g.K.Store.moment c.args.store.now in
    let n : Moment = g.K.Store.moment c.edit_naming-answer.new.store in
    let json = c.as_bytes-json.ensures.value ∙ c.as_str.ensures.same in
    takes_memory c.steps_are_edits.ensures c.steps_add_blocks.ensures c.args.doc.now c.edit_naming-answer.new.doc c.args.x c.args.i (omega arith) c.in-Some.asked c.in-Some.ensures m n c.edit_naming-answer.result
    (rw json at c.edit_naming-answer.ensures.edits.answers) c.args.counts c.in-Err.refusal c.in-Err.is
