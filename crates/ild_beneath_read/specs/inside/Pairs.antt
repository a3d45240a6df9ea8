-- What is read of pairs, which are lists of two items.
use Rattle.std.specs.Borrow.{Bor}
use Rattle.std.specs.Prelude.{◌≡◌, ℕ, List, [], ◌∷◌, Option, Some, None}
use Rattle.ild_cbor.specs.Nodes.{HasData}
use Rattle.ild_cbor.specs.declared.node.Node.{Node}
use Rattle.ild_data.specs.Data.{Data}

-- nodes for the two items, where there are two
abbrev pub IsPairOf : Option (Data × Data) → Option (Node × Node) → Type 0
IsPairOf None None = Unit {0}
IsPairOf None (Some y) = ⊥
IsPairOf (Some p) None = ⊥
IsPairOf (Some p) (Some y) = HasData y.0 p.0 × HasData y.1 p.1

-- a name, and a node for its value, where there is a pair of both
abbrev pub IsNamed : List (List ℕ × Data) → Option (Bor (List ℕ) × Node) → Type 0
IsNamed [] None = Unit {0}
IsNamed [] (Some x) = ⊥
IsNamed (e ∷ es) None = ⊥
IsNamed (e ∷ es) (Some x) = (es ≡ []) × (x.0.now ≡ e.0) × HasData x.1 e.1
