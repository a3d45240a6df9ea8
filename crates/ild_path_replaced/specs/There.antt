-- The item to which steps lead.
use Rattle.std.specs.Prelude.{List, Option, Some, None}
use Rattle.ild_cbor.specs.declared.node.Node.{Node}
use Rattle.ild_data.specs.Data.{Data}
use Rattle.ild_splice.specs.Splices.{IsAt}
use Rattle.ild_splice_changes.specs.TreeChange.{TreeStep}

-- the node of a part, exactly where there is the part
abbrev pub IsThere : Data → List TreeStep → Option Data → Option Node → Type 0
IsThere t q None None = Unit {0}
IsThere t q None (Some m) = ⊥
IsThere t q (Some e) None = ⊥
IsThere t q (Some e) (Some m) = IsAt m t q e
