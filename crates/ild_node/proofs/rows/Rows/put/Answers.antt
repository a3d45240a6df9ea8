use Rattle.std.proofs.Common.{sym, subst}
use Rattle.std.specs.Prelude.{◌≤◌}
use Rattle.std.proofs.Math.Logic.{∥∥₁_elim}
use Rattle.std.proofs.Props.{props}
use Rattle.ild_data.specs.Data.{Data, depth}
use Rattle.ild_node.specs.Rows.{deepest_value}
use Rattle.ild_node.proofs.Placing.{rows-kept}
use Rattle.ild_node.proofs.rows.Rows.put.Goals as goal

pub invariant_of-self : goal.invariant_of-self
invariant_of-self c =
    rows-kept c.put_row.result c.self.inside.rows.items c.put_row.new.rows.items _ c.args.key.now c.put_row.ensures.ok c.put_row.ensures.err c.in_ok-of.ensures c.self.invariant c.utf8.key
    (record {
      tree = c.in_ok-of-2.ensures.within.tree;
      nested = ∥∥₁_elim c.args.value.now.stands (hlevel props) (λ s. subst (λ (d : Data). depth d ≤ deepest_value) (sym (c.in_ok-of-2.ensures.same s.of s.spells)) (c.requires s.of s.spells));
    })
