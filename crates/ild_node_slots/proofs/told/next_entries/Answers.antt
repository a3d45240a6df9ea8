use Rattle.std.proofs.Common.{◌≡◌, ◌-◌, ◌+◌, ℕ, Some, sym, ◌∙◌, subst, arith}
use Rattle.ild_node_slots.proofs.Telling.{EntriesAhead, entries-ahead, entries-step, entries-fall, entries-miss, entries-done}
use Rattle.ild_node_slots.proofs.told.next_entries.Goals as goal

pub loop-init : goal.loop-init
loop-init c = λ es ds h count. entries-ahead c.args.items.now es ds _ h (omega arith)

pub loop-preserved : goal.loop-preserved
loop-preserved c = λ es ds h count.
    let next : c.args.count - c.loop.counter - 1 ≡ c.args.count - (c.loop.counter + 1) = omega arith in
    subst (λ (k : ℕ). EntriesAhead c.next_entry.new.items es ds (Some c.in-Some.key.now) k) next
    (entries-step c.loop.items c.next_entry.new.items es ds _ (c.args.count - c.loop.counter) (c.in-Some.key, c.in-Some.field-0-1) (c.loop.invariant es ds h count) (omega arith) c.in-Some.ensures (sym c.rises.ensures ∙ c.if-not-rises.false))

pub returns-then-not-rises : goal.returns-then-not-rises
returns-then-not-rises c = λ es ds h count.
    entries-fall c.loop.items c.next_entry.new.items es ds _ (c.args.count - c.loop.counter) (c.in-Some.key, c.in-Some.field-0-1) (c.loop.invariant es ds h count) (omega arith) c.in-Some.ensures (sym c.rises.ensures ∙ c.if-not-rises.true)

pub returns-in-None : goal.returns-in-None
returns-in-None c = λ es ds h count. entries-miss c.loop.items c.next_entry.new.items es ds _ (c.args.count - c.loop.counter) (c.loop.invariant es ds h count) (omega arith) c.in-None.ensures

pub returns : goal.returns
returns c = λ es ds h count. entries-done c.loop.items es ds _ (c.args.count - c.loop.counter) (c.loop.invariant es ds h count) (omega arith)
