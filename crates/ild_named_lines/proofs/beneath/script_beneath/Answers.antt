use Rattle.std.proofs.Common.{◌∙◌}
use Rattle.ild_named_lines.proofs.Scripts.{made_all, made_more}
use Rattle.ild_named_lines.proofs.beneath.script_beneath.Goals as goal

pub loop-at-preserved : goal.loop-at-preserved
loop-at-preserved c =
    made_more c.args.script.now c.loop-at.text.items c.loop-at.rest.now c.loop-at.invariant c.push_line.new.text.items c.push.new.self.items c.in-Some.at c.in-Some.ensures c.in_ok-push_line.ensures c.in_ok-push.ensures.items

pub returns : goal.returns
returns c =
    c.from_vec.ensures ∙ made_all c.args.script.now c.loop-at.text.items c.loop-at.rest.now c.loop-at.invariant c.push_line-2.new.text.items c.in_default.ensures c.in_ok-push_line-2.ensures
