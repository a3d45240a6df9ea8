use Rattle.std.proofs.Common.{sym, subst, List, ℕ}
use Rattle.std.specs.Prelude.{◌≤◌}
use Rattle.std.proofs.Math.Logic.{∥∥₁_elim}
use Rattle.std.proofs.Props.{props}
use Rattle.ild_data.specs.Data.{Data, depth}
use Rattle.ild_node.specs.Rows.{IsAbove, deepest_value}
use Rattle.ild_node.proofs.Pushing.{rows-pushed}
use Rattle.ild_node.proofs.rows.Rows.push.Goals as goal

pub invariant_of-self-2 : goal.invariant_of-self-2
invariant_of-self-2 c =
    rows-pushed c.self.inside.rows.items _ _ c.args.key.now c.in_ok-push.ensures.items c.in_ok-of.ensures c.self.invariant
    (subst (λ (es : List (List ℕ × Data)). IsAbove c.args.key.now es) (sym c.self.view_is) c.requires.above) c.utf8.key
    (record {
      tree = c.in_ok-of-2.ensures.within.tree;
      nested = ∥∥₁_elim c.args.value.now.stands (hlevel props) (λ s. subst (λ (d : Data). depth d ≤ deepest_value) (sym (c.in_ok-of-2.ensures.same s.of s.spells)) (c.requires.nested s.of s.spells));
    })
