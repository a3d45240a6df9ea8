use Rattle.std.proofs.Common.{[], ◌++◌, ◌∙◌, cond, ap}
use Rattle.ild_data.specs.Spell.{head, spell_text}
use Rattle.ild_emit.proofs.Growing.{appended, grown_same, grown_then, on_err_always}
use Rattle.ild_build_entries.proofs.Marked.{on_ok}
use Rattle.ild_build_pass.specs.inside.Fronts.{tag_spelled}
use Rattle.ild_build_pass.proofs.Writing.{on_err}
use Rattle.ild_build_pass.proofs.fronts.begin_envelope.Goals as goal

pub returns-clause-ok : goal.returns-clause-ok
returns-clause-ok c =
    let tag = tag_spelled c.args.tag.key.now c.args.tag.name.now in
    let one = c.in_ok-add_tag_if.ensures.ok ∙ ap (λ b. c.head.new.self ++ cond b tag []) c.key_less.ensures in
    on_ok c.text.result _ _
    (λ e. appended c.args.out.now c.head.new.self c.text.new.self (head 5 2) _ c.in_ok-head.ensures.ok (appended c.head.new.self c.add_tag_if.new.out c.text.new.self _ (spell_text c.args.content.now) one e)) c.text.ensures.ok

pub returns-in_err-head-clause-err : goal.returns-in_err-head-clause-err
returns-in_err-head-clause-err c = on_err_always _ _ (grown_same c.args.out.now c.head.new.self c.in_err-head.ensures.err)

pub returns-in_err-add_tag_if-clause-err : goal.returns-in_err-add_tag_if-clause-err
returns-in_err-add_tag_if-clause-err c = on_err_always _ _ (grown_then c.args.out.now c.head.new.self c.add_tag_if.new.out _ c.in_ok-head.ensures.ok c.in_err-add_tag_if.ensures.err)

pub returns-clause-err : goal.returns-clause-err
returns-clause-err c =
    on_err c.text.result _ _
    (λ e. record { more = _; is = e ∙ appended c.args.out.now c.head.new.self c.add_tag_if.new.out (head 5 2) _ c.in_ok-head.ensures.ok c.in_ok-add_tag_if.ensures.ok }) c.text.ensures.err
