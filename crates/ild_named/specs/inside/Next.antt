-- The next entry of a map, where it has a key.
use Rattle.std.specs.Prelude.{◌≢◌, ℕ, List, Option, Some, None}
use Rattle.ild_data.specs.Data.{Members, no_members, member}
use Rattle.ild_cbor.specs.Steps.{StepsOverEntry}
use Rattle.ild_cbor.specs.declared.node.Node.{Node}
use Rattle.ild_cbor.specs.declared.pairs.Pairs.{Pairs}

-- the value of the first of these entries, where it has this key, and an iterator over the others
abbrev pub NextAt : Pairs → Members → List ℕ → Option Node → Pairs → Type 0
NextAt s no_members key None t = Unit {0}
NextAt s no_members key (Some n) t = ⊥
NextAt s (member k d ms) key (Some n) t = StepsOverEntry s k d ms key n t
NextAt s (member k d ms) key None t = key ≢ k
