use Rattle.std.proofs.Math.Logic.{∥∥₁_map}
use Rattle.ild_open.proofs.opening.read_root.Goals as goal

pub read-requires-clause-checked : goal.read-requires-clause-checked
read-requires-clause-checked g c =
    ∥∥₁_map c.requires.root (λ x. record { tree = x.root.tree; stands = (c.known_root.ensures x.root.tree x.root.block).stands; front = (x.value, x.root.front.fits, x.root.front.tree) })
