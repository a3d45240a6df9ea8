use Rattle.std.proofs.Common.{◌≡◌, ◌⊎◌, List, ℕ, map, subst}
use Rattle.std.specs.Prelude.{Contains}
use Rattle.std.specs.Map.{values_of}
use Rattle.ild_open_known.specs.Roots.{nodes_in, seen_spot}
use Rattle.ild_open_known.proofs.Adding.{was_or_is}
use Rattle.ild_open_known.proofs.table.Known.put_node.Goals as goal

pub returns-clause-added : goal.returns-clause-added
returns-clause-added c = λ r has.
    let entries = c.in_ok-insert.ensures.entries in
    subst (λ (w : List ℕ). Contains (nodes_in c.args.self.now) r ⊎ (r ≡ (c.args.read_as, c.args.id.0, w))) c.in_ok-of.ensures
    (was_or_is seen_spot _ c.args.self.now.nodes.entries c.args.seat.digest (record { read_as = c.args.read_as; id = c.args.id; way = c.in_ok-of.field-0 }) r (subst (λ es. Contains (map seen_spot (values_of es)) r) entries has))
