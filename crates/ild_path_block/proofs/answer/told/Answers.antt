use Rattle.std.proofs.Common.{Some, None, length, ap, sym, ◌∙◌, arith}
use Rattle.std.proofs.lemmas.List.{take_all}
use Rattle.ild_splice_changes.specs.TreeChange.{part_at}
use Rattle.ild_path_replaced.specs.Seen.{all_steps}
use Rattle.ild_path_block.proofs.Replacing.{holder_before, holder_last, in_last_item, told_by}
use Rattle.ild_path_block.proofs.answer.told.Goals as goal

pub returns-in-Some : goal.returns-in-Some
returns-in-Some c = λ rows is_key edit w p path t u at ready.
    let steps = c.args.steps.now in
    let n = c.in-Some.holder in
    let told = told_by rows is_key edit w p path t u steps c.args.change.now c.args.new ready c.touch.result (Some n) c.in-Some.ensures.seen c.touch.ensures in
    let old = c.steps_stand.ensures rows p ready.first ready.others steps t (Some n) ready.lead ready.was c.in-Some.ensures.before in
    holder_before rows is_key edit w p path t u steps c.args.change.now c.args.new ready n c.in-Some.ensures.within told old.0 c.whole.result (c.whole.ensures t old.0 at old.1)

pub returns-then-is_whole : goal.returns-then-is_whole
returns-then-is_whole c = λ rows is_key edit w p path t u at ready.
    let steps = c.args.steps.now in
    let told = told_by rows is_key edit w p path t u steps c.args.change.now c.args.new ready c.touch.result None c.in-None.ensures.seen c.touch.ensures in
    let old = c.steps_stand.ensures rows p ready.first ready.others steps t None ready.lead ready.was c.in-None.ensures.before in
    holder_last rows is_key edit w p path t u steps c.args.change.now c.args.new ready (sym c.is_whole.ensures ∙ c.if-is_whole.true) told old.0 c.whole-then-is_whole.result
    (c.whole-then-is_whole.ensures t old.0 at (ap (λ o. part_at (all_steps o) t) (take_all (length steps) steps (omega arith)) ∙ old.1))

pub returns-else-is_whole : goal.returns-else-is_whole
returns-else-is_whole c = λ rows is_key edit w p path t u at ready.
    let steps = c.args.steps.now in
    let told = told_by rows is_key edit w p path t u steps c.args.change.now c.args.new ready c.touch.result None c.in-None.ensures.seen c.touch.ensures in
    let old = c.steps_stand.ensures rows p ready.first ready.others steps t None ready.lead ready.was c.in-None.ensures.before in
    in_last_item rows is_key edit w p path t u steps c.args.change.now c.args.new ready c.within.result told
    (λ v. c.within.ensures t old.0 ready.is_change.part v at old.1 (sym c.is_whole.ensures ∙ c.if-is_whole.false) ready.is_change.part_is)
