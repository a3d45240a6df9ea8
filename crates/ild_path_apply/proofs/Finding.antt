-- What was found tells whether there is something.
use Rattle.std.proofs.Common.{◌≡◌, ℕ, Option, Some, None, refl}
use Rattle.ild_cbor.specs.Nodes.{Finds}
use Rattle.ild_cbor.specs.declared.node.Node.{Node}
use Rattle.ild_data.specs.Data.{Data}

pub found_some : (n m : Node) (place : ℕ) (o : Option Data) → Finds n place o (Some m) → (e : Data) × (o ≡ Some e)
found_some n m place None f = absurd f
found_some n m place (Some e) f = (e, refl)

pub found_none : (n : Node) (place : ℕ) (o : Option Data) → Finds n place o None → o ≡ None
found_none n place None f = refl
found_none n place (Some e) f = absurd f
