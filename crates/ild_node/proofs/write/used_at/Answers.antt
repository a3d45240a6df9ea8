use Rattle.std.proofs.Common.{ℕ, ◌+◌, List, Bool, subst, sym, arith}
use Rattle.ild_node.proofs.Writing.{BitsLeft, bits-first, bits-step, bits-done}
use Rattle.ild_node.proofs.write.used_at.Goals as goal

pub loop-i-init : goal.loop-i-init
loop-i-init c = subst (λ (b : List Bool). BitsLeft c.args.slots.now c.args.count 0 0 b) (sym c.new-used.ensures.items) (bits-first _ _)

pub loop-i-preserved : goal.loop-i-preserved
loop-i-preserved c = subst (λ (n : ℕ). BitsLeft c.args.slots.now c.args.count (c.loop-i.i + 1) (c.loop-i.next + n) c.push.new.self.items) (sym c.bit.ensures.one) (bits-step _ _ c.loop-i.i c.loop-i.next _ _ c.is_at-on.result c.loop-i.invariant (omega arith) c.is_at-on.ensures c.in_ok-push.ensures.items)

pub returns : goal.returns
returns c = bits-done _ _ c.loop-i.i c.loop-i.next _ c.loop-i.invariant (omega arith)
