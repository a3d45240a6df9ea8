-- Going over the items of a list.
use Rattle.std.specs.Prelude.{◌≡◌, ℕ, ◌+◌, List, drop}
use Rattle.ild_data.specs.Data.{Data, list, items_of}
use Rattle.ild_cbor.specs.declared.node.Node.{Node}
use Rattle.ild_cbor.specs.declared.items.Items.{Items as ItemsLeft}
use Rattle.ild_cbor.specs.Nodes.{block_of, start_of}
use Rattle.ild_cbor.specs.Span.{place_of}
use Rattle.ild_cbor.specs.Steps.{HasItems}

-- the iterator stands before the item of this number, of a list of these items
pub record IsAtItem (n : Node) (ds : List Data) (k : ℕ) (s : ItemsLeft) : Type 0 where
  pub left : HasItems s (items_of (drop k ds))
  pub block_is : s.block.now ≡ block_of n
  pub place : s.from ≡ start_of n + place_of (list (items_of ds)) k
