use Rattle.std.proofs.Common.{◌≡◌, ◌-◌, ◌+◌, ℕ, Some, sym, ◌∙◌, subst, arith}
use Rattle.ild_bulk_walker.proofs.Adding.{EntriesRead, entries-first, entries-on, entries-down, entries-missed, entries-end, next-lies}
use Rattle.ild_bulk_walker.proofs.read.add_entries.Goals as goal

pub loop-init : goal.loop-init
loop-init c = λ es ds h count. entries-first c.args.items.now es ds _ c.args.index _ c.args.steps.now.items h (omega arith) c.requires.here

pub add_entry-requires : goal.add_entry-requires
add_entry-requires c =
    let r = c.requires in
    next-lies c.loop.items c.next_entry.new.items r.of r.others _ (c.args.count - c.loop.counter) c.args.index _ c.args.steps.now.items c.loop.steps.items (c.in-Some.key, c.in-Some.value) (c.loop.invariant r.of r.others r.has r.many) (omega arith)
    c.in-Some.ensures

pub loop-preserved : goal.loop-preserved
loop-preserved c = λ es ds h count.
    let next : c.args.count - c.loop.counter - 1 ≡ c.args.count - (c.loop.counter + 1) = omega arith in
    subst (λ (k : ℕ). EntriesRead c.next_entry.new.items es ds (Some c.in-Some.key.now) k c.args.index c.args.held.now.value c.args.steps.now.items c.add_entry.new.steps.items) next
    (entries-on c.loop.items c.next_entry.new.items es ds _ (c.args.count - c.loop.counter) c.args.index _ c.args.steps.now.items c.loop.steps.items c.add_entry.new.steps.items (c.in-Some.key, c.in-Some.value) (c.loop.invariant es ds h count)
    (omega arith) c.in-Some.ensures (sym c.rises.ensures ∙ c.if-not-rises.false) c.in_ok-add_entry-in-Some.ensures)

pub returns-then-not-rises : goal.returns-then-not-rises
returns-then-not-rises c = λ es ds h count.
    entries-down c.loop.items c.next_entry.new.items es ds _ (c.args.count - c.loop.counter) c.args.index _ c.args.steps.now.items c.loop.steps.items _ (c.in-Some.key, c.in-Some.value) (c.loop.invariant es ds h count) (omega arith) c.in-Some.ensures
    (sym c.rises.ensures ∙ c.if-not-rises.true)

pub returns-in-None : goal.returns-in-None
returns-in-None c = λ es ds h count. entries-missed c.loop.items c.next_entry.new.items es ds _ (c.args.count - c.loop.counter) c.args.index _ c.args.steps.now.items c.loop.steps.items _ (c.loop.invariant es ds h count) (omega arith) c.in-None.ensures

pub returns : goal.returns
returns c = λ es ds h count. entries-end c.loop.items es ds _ (c.args.count - c.loop.counter) c.args.index _ c.args.steps.now.items c.loop.steps.items (c.loop.invariant es ds h count) (omega arith)
