-- What a node stands for, and its parts.
use Rattle.std.specs.Prelude.{◌≡◌, ℕ, ◌+◌, Option, Some, None, List, [], ◌++◌}
use Rattle.ild_data.specs.Data.{Data, items_of}
use Rattle.ild_data.specs.Spell.{spell, spell_items}
use Rattle.ild_data.specs.Limits.{IsWithin}
use Rattle.ild_cbor.specs.declared.node.Node.{Node}
use Rattle.ild_cbor.specs.Spelled.{Spells}

-- the block that a node borrows, and where in it the node begins
abbrev pub block_of : Node → List ℕ
block_of n = n.block.now

abbrev pub start_of : Node → ℕ
start_of n = n.from

-- the node is the item that spells this tree
abbrev pub HasData : Node → Data → Type 0
HasData n t = Spells n.block.now n.from n.to t

-- the node is the one item of a block, from its first byte on
pub record IsRoot (n : Node) (block : List ℕ) (t : Data) : Type 0 where
  pub stands : HasData n t
  pub block_is : block_of n ≡ block
  pub start_is : start_of n ≡ 0

-- m is a part of n: it stands for the tree u, in the same block, this many bytes behind the start of n
pub record IsPart (n m : Node) (place : ℕ) (u : Data) : Type 0 where
  pub stands : HasData m u
  pub block_is : block_of m ≡ block_of n
  pub start_is : start_of m ≡ start_of n + place

-- the part that was sought in n, and the part that there is
abbrev pub Finds : Node → ℕ → Option Data → Option Node → Type 0
Finds n place (Some u) (Some m) = IsPart n m place u
Finds n place None None = Unit {0}
Finds n place (Some u) None = ⊥
Finds n place None (Some m) = ⊥

-- rest is the end of n's spelling, and begins with a part
pub record HasPart (n : Node) (rest : List ℕ) : Type 0 where
  pub whole : Data
  pub stands : HasData n whole
  pub front : List ℕ
  pub of : Data
  pub after : List ℕ
  pub is : spell whole ≡ front ++ rest
  pub rest_is : rest ≡ spell of ++ after
  pub within : IsWithin of

-- rest is the end of n's spelling, and is its last part
pub record HasLast (n : Node) (rest : List ℕ) : Type 0 where
  pub part : HasPart n rest
  pub end : part.after ≡ []

-- what stands in a list before some of its items, and what stands behind them
pub record AreAround (front back : List ℕ) (xs zs : List Data) : Type 0 where
  pub front_is : front ≡ spell_items (items_of xs)
  pub back_is : back ≡ spell_items (items_of zs)
