-- Parts of an item that may be a node or an entry, as they are read on the way.
use Rattle.std.specs.Prelude.{◌≡◌, ℕ, List, Option, Some, None}
use Rattle.std.specs.Borrow.{Bor}
use Rattle.ild_data.specs.Data.{Data}
use Rattle.ild_cbor.specs.Nodes.{IsPart}
use Rattle.ild_cbor.specs.Span.{place_of}
use Rattle.ild_cbor.specs.declared.node.Node.{Node}

-- nodes for the two items of a list of two, or neither
abbrev pub PairIs : Node → Data → Option (Data × Data) → Option (Node × Node) → Type 0
PairIs n t None None = Unit {0}
PairIs n t (Some x) (Some y) = IsPart n y.0 (place_of t 0) x.0 × IsPart n y.1 (place_of t 1) x.1
PairIs n t None (Some y) = ⊥
PairIs n t (Some x) None = ⊥

-- a key and a node for the value of an entry, or neither
abbrev pub EntryIn : Node → Data → Option (List ℕ × Data) → Option (Bor (List ℕ) × Node) → Type 0
EntryIn n t None None = Unit {0}
EntryIn n t (Some e) (Some r) = (r.0.now ≡ e.0) × IsPart n r.1 (place_of t 1) e.1
EntryIn n t None (Some r) = ⊥
EntryIn n t (Some e) None = ⊥
