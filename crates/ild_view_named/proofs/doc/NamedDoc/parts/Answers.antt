use Rattle.std.proofs.Math.Logic.{∥∥₁_elim}
use Rattle.std.proofs.Props.{props}
use Rattle.std.proofs.Common.{refl}
use Rattle.ild_named.specs.Named.{named_data}
use Rattle.ild_view_named.proofs.Known.{known_parts}
use Rattle.ild_view_named.proofs.doc.NamedDoc.parts.Goals as goal

pub returns : goal.returns
returns c = λ name id t root. known_parts c.node.result name id t c.in-Ok.parts (c.in-Ok.ensures (named_data name id t) (c.node.ensures name id t root).stands)

pub unreachable-requires : goal.unreachable-requires
unreachable-requires c =
    ∥∥₁_elim c.args.self.now.stands (hlevel props) (λ x.
    (c.in-Err.ensures (named_data x.name x.schema x.tree) (c.node.ensures x.name x.schema x.tree x.root).stands).unnamed x.name x.schema x.tree x.root.wide refl)
