use Rattle.std.proofs.Common.{◌≡◌, List, true, false, subst}
use Rattle.ild_schema.specs.declared.row.Row.{Row}
use Rattle.ild_view_walk.specs.inside.Stacked.{Spreads}
use Rattle.ild_view_walk.proofs.Stacking.{going_on, going_refused, ready_last}
use Rattle.ild_view_walk.proofs.stack.all_open.Goals as goal

never : {A : Type 0} → false ≡ true → A
never e = absurd cc

pub returns-then-not-branch : goal.returns-then-not-branch
returns-then-not-branch c = λ ps held plain.
    let rows : List Row = c.args.acc.now in
    let front = c.pop.new.self.items in (
      (λ e. never e),
      (λ shown. absurd (going_refused rows ps c.loop.left.items front c.in-Some.part c.in-Some.ensures.items (c.loop.invariant.going ps held plain)
          (λ p spotted is. subst (Spreads rows p front c.open_into.new.todo.items) c.if-not-branch.true (c.in_ok-open_into.ensures.spreads p spotted is)) shown)),
    )

pub loop-preserved : goal.loop-preserved
loop-preserved c =
    let rows : List Row = c.args.acc.now in
    let front = c.pop.new.self.items in
    record {
      ready = c.in_ok-open_into.ensures.ready (ready_last rows c.loop.left.items front c.in-Some.part c.in-Some.ensures.items c.loop.invariant.ready).0;
      going = λ ps held plain. going_on rows ps c.loop.left.items front c.in-Some.part c.in-Some.ensures.items (c.loop.invariant.going ps held plain) c.open_into.new.todo.items
          (λ p spotted is. subst (Spreads rows p front c.open_into.new.todo.items) c.if-not-branch.false (c.in_ok-open_into.ensures.spreads p spotted is));
    }
