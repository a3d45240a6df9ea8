use Rattle.std.proofs.Common.{set, arith}
use Rattle.std.proofs.lemmas.List.{length-set}
use Rattle.ild_node.proofs.Changing.{long-set, used-more, used-done}
use Rattle.ild_node.proofs.changed.used_after.Goals as goal

pub returns : goal.returns
returns c = λ p slots s has is.
    used-done (set slots c.args.i s) c.loop-j.j c.loop-j.used.items (c.loop-j.invariant p slots s has is) (let e = long-set p c.shape.result c.args.view slots c.args.i s has c.shape.ensures in omega arith)

pub loop-j-preserved : goal.loop-j-preserved
loop-j-preserved c = λ p slots s has is.
    used-more (set slots c.args.i s) c.loop-j.j c.loop-j.used.items c.push.new.self.items c.is_on.result (let e = long-set p c.shape.result c.args.view slots c.args.i s has c.shape.ensures in omega arith) (c.loop-j.invariant p slots s has is)
    (c.is_on.ensures p slots s has is (let e = has.form.many in let n = long-set p c.shape.result c.args.view slots c.args.i s has c.shape.ensures in let m = length-set slots c.args.i s in omega arith)) c.in_ok-push.ensures.items
