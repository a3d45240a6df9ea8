use Rattle.std.proofs.Common.{subst}
use Rattle.ild_layer_parts.specs.Parts.{SplitsOff}
use Rattle.ild_layer_parts.specs.Ready.{AreReadyBoth}
use Rattle.ild_view_walk.proofs.Stacking.{adding_nothing, adding_part, ready_more}
use Rattle.ild_view_walk.proofs.stack.push_parts.Goals as goal

pub loop-part-preserved-in_ok-push : goal.loop-part-preserved-in_ok-push
loop-part-preserved-in_ok-push c =
    let x = c.in-Some-part.part in
    let behind = c.in-Some.behind in
    record {
      adding = λ rows ps has ready. adding_part rows ps c.args.todo.now.items c.loop-part.todo.items c.loop-part.left behind (c.loop-part.invariant.adding rows ps has ready) x
          (λ qs h. subst (λ o. SplitsOff rows qs o behind) c.in-Some-part.is (c.in-Some.ensures.step rows qs h))
          (subst (λ o. AreReadyBoth rows o behind) c.in-Some-part.is (c.in-Some.ensures.ready rows (c.loop-part.invariant.ready rows ready))) c.push.new.self.items c.in_ok-push.ensures.items;
      ready = λ rows ready. (c.in-Some.ensures.ready rows (c.loop-part.invariant.ready rows ready)).1;
      all = λ rows ready all. ready_more rows c.loop-part.todo.items x c.push.new.self.items c.in_ok-push.ensures.items
          (subst (λ o. AreReadyBoth rows o behind) c.in-Some-part.is (c.in-Some.ensures.ready rows (c.loop-part.invariant.ready rows ready))).0 (c.loop-part.invariant.all rows ready all);
    }

pub loop-part-preserved : goal.loop-part-preserved
loop-part-preserved c =
    let behind = c.in-Some.behind in
    record {
      adding = λ rows ps has ready. adding_nothing rows ps c.args.todo.now.items c.loop-part.todo.items c.loop-part.left behind (c.loop-part.invariant.adding rows ps has ready)
          (λ qs h. subst (λ o. SplitsOff rows qs o behind) c.in_default-part.is (c.in-Some.ensures.step rows qs h))
          (subst (λ o. AreReadyBoth rows o behind) c.in_default-part.is (c.in-Some.ensures.ready rows (c.loop-part.invariant.ready rows ready)));
      ready = λ rows ready. (c.in-Some.ensures.ready rows (c.loop-part.invariant.ready rows ready)).1;
      all = λ rows ready all. c.loop-part.invariant.all rows ready all;
    }
