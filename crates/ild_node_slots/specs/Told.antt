-- Going on from item to item of a list: what was told of the next one, behind which the iterator then stands.
use Rattle.std.specs.Prelude.{◌≡◌, ℕ, ◌+◌, ◌++◌, length, List, Bool, true, false, Option, Some, None, IsUtf8}
use Rattle.std.specs.Borrow.{Bor}
use Rattle.ild_data.specs.Data.{Data, link, Items, no_items, item}
use Rattle.ild_data.specs.Spell.{spell}
use Rattle.ild_cbor.specs.Nodes.{HasData, block_of, start_of}
use Rattle.ild_cbor.specs.Steps.{HasItems}
use Rattle.ild_cbor.specs.declared.node.Node.{Node}
use Rattle.ild_cbor.specs.declared.items.Items.{Items as ItemsLeft}
use Rattle.ild_typed.specs.NodeReading.{links_block, element_fits}

-- nodes for the two items of the next one, the second behind the first, and an iterator behind both
pub record PairTold (s : ItemsLeft) (ds : Items) (x : Data × Data) (y : Node × Node) (t : ItemsLeft) : Type 0 where
  pub first : HasData y.0 x.0
  pub second : HasData y.1 x.1
  pub first_block : block_of y.0 ≡ s.block.now
  pub second_block : block_of y.1 ≡ s.block.now
  pub place : start_of y.1 ≡ start_of y.0 + length (spell x.0)
  pub left : HasItems t ds
  pub same_block : t.block.now ≡ s.block.now

-- the same, or neither
abbrev pub PairNext : ItemsLeft → Items → Option (Data × Data) → Option (Node × Node) → ItemsLeft → Type 0
PairNext s ds None None t = Unit {0}
PairNext s ds (Some x) (Some y) t = PairTold s ds x y t
PairNext s ds None (Some y) t = ⊥
PairNext s ds (Some x) None t = ⊥

-- the key of the entry that is next, and a node for its value, which is spelled right behind the key; the iterator stands behind both
pub record EntryTold (s : ItemsLeft) (ds : Items) (e : List ℕ × Data) (r : Bor (List ℕ) × Node) (t : ItemsLeft) : Type 0 where
  pub key : r.0.now ≡ e.0
  pub text : IsUtf8 e.0
  pub value : HasData r.1 e.1
  pub front : List ℕ
  pub after : List ℕ
  pub here : s.block.now ≡ front ++ (e.0 ++ (spell e.1 ++ after))
  pub place : length front + length e.0 ≡ start_of r.1
  pub left : HasItems t ds
  pub same_block : t.block.now ≡ s.block.now

-- the same, or neither
abbrev pub EntryNext : ItemsLeft → Items → Option (List ℕ × Data) → Option (Bor (List ℕ) × Node) → ItemsLeft → Type 0
EntryNext s ds None None t = Unit {0}
EntryNext s ds (Some e) (Some r) t = EntryTold s ds e r t
EntryNext s ds None (Some r) t = ⊥
EntryNext s ds (Some e) None t = ⊥

-- the answer of a test, and where it is yes, the iterator stands before these items
pub record Told (wanted : Bool) (ds : Items) (r : Bool) (t : ItemsLeft) : Type 0 where
  pub same : r ≡ wanted
  pub left : r ≡ true → HasItems t ds

-- whether the next item is there, and is an element of a node
abbrev pub ElementTold : ℕ → Items → Bool → ItemsLeft → Type 0
ElementTold most no_items r t = r ≡ false
ElementTold most (item d ds) r t = Told (element_fits most d) ds r t

-- the link of a block
abbrev pub link_fits : Data → Bool
link_fits (link s) = links_block s
link_fits t = false
