-- Steps of the iterators over the parts of an item.
use Rattle.std.specs.Borrow.{Bor}
use Rattle.std.specs.Prelude.{◌≡◌, ℕ, ◌+◌, length, Option, Some, None, List}
use Rattle.ild_data.specs.Data.{Data, list, map, Items, no_items, item, Members, no_members, member, items_list, members_list}
use Rattle.ild_data.specs.Spell.{head, spell, spell_text}
use Rattle.ild_cbor.specs.declared.node.Node.{Node}
use Rattle.ild_cbor.specs.declared.items.Items.{Items as ItemsLeft}
use Rattle.ild_cbor.specs.declared.pairs.Pairs.{Pairs}
use Rattle.ild_cbor.specs.Nodes.{HasData, block_of, start_of}
use Rattle.ild_cbor.specs.Spelled.{SpellsItems, SpellsMembers}
use Rattle.ild_cbor.specs.Chain.{chain}

-- ---- the items of a list

-- the iterator has these items left
abbrev pub HasItems : ItemsLeft → Items → Type 0
HasItems s ds = SpellsItems s.block.now s.from s.left ds

-- a node for the first item, where the iterator stood, and an iterator that has the others left and stands behind it
pub record StepsOver (s : ItemsLeft) (d : Data) (ds : Items) (n : Node) (t : ItemsLeft) : Type 0 where
  pub stands : HasData n d
  pub block_is : block_of n ≡ s.block.now
  pub start_is : start_of n ≡ s.from
  pub left : HasItems t ds
  pub same_block : t.block.now ≡ s.block.now
  pub place : t.from ≡ s.from + length (spell d)

abbrev pub ItemStep : ItemsLeft → Items → Option Node → ItemsLeft → Type 0
ItemStep s no_items None t = HasItems t no_items
ItemStep s no_items (Some n) t = ⊥
ItemStep s (item d ds) None t = ⊥
ItemStep s (item d ds) (Some n) t = StepsOver s d ds n t

abbrev pub ItemsGive : ItemsLeft → Option Node → ItemsLeft → Type 0
ItemsGive s r t = (ds : Items) → HasItems s ds → ItemStep s ds r t

-- an iterator over these items, from the first one on
pub record IteratesItems (n : Node) (ds : Items) (s : ItemsLeft) : Type 0 where
  pub left : HasItems s ds
  pub block_is : s.block.now ≡ block_of n
  pub place : s.from ≡ start_of n + length (head 4 (length (items_list ds)))

abbrev pub items_of : Data → Option Items
items_of (list ds) = Some ds
items_of t = None

-- the iterator that was asked for, and the items that there are
abbrev pub FindsItems : Node → Option Items → Option ItemsLeft → Type 0
FindsItems n (Some ds) (Some s) = IteratesItems n ds s
FindsItems n None None = Unit {0}
FindsItems n (Some ds) None = ⊥
FindsItems n None (Some s) = ⊥

-- the items of the next one, a list, stand in its place, and the iterator behind its head
pub record Unfolded (s : ItemsLeft) (es ds : Items) (n : ℕ) (t : ItemsLeft) : Type 0 where
  pub count : length (items_list es) ≡ n
  pub left : HasItems t (chain es ds)
  pub same_block : t.block.now ≡ s.block.now
  pub place : t.from ≡ s.from + length (head 4 n)

-- how many they are, or nothing is changed where it is no list
abbrev pub UnfoldStep : ItemsLeft → Items → Option Items → Option ℕ → ItemsLeft → Type 0
UnfoldStep s ds (Some es) (Some n) t = Unfolded s es ds n t
UnfoldStep s ds None None t = t ≡ s
UnfoldStep s ds (Some es) None t = ⊥
UnfoldStep s ds None (Some n) t = ⊥

abbrev pub UnfoldFirst : ItemsLeft → Items → Option ℕ → ItemsLeft → Type 0
UnfoldFirst s no_items None t = t ≡ s
UnfoldFirst s no_items (Some n) t = ⊥
UnfoldFirst s (item d ds) r t = UnfoldStep s ds (items_of d) r t

abbrev pub Unfolds : ItemsLeft → Option ℕ → ItemsLeft → Type 0
Unfolds s r t = (ds : Items) → HasItems s ds → UnfoldFirst s ds r t

-- ---- the entries of a map

abbrev pub HasEntries : Pairs → Members → Type 0
HasEntries s ms = SpellsMembers s.block.now s.from s.left ms

-- the first key, a node for its value behind the key, and an iterator that has the others left and stands behind the value
pub record StepsOverEntry (s : Pairs) (k : List ℕ) (d : Data) (ms : Members) (key : List ℕ) (n : Node) (t : Pairs) : Type 0 where
  pub key_is : key ≡ k
  pub stands : HasData n d
  pub block_is : block_of n ≡ s.block.now
  pub start_is : start_of n ≡ s.from + length (spell_text k)
  pub left : HasEntries t ms
  pub same_block : t.block.now ≡ s.block.now
  pub place : t.from ≡ s.from + length (spell_text k) + length (spell d)

abbrev pub EntryStep : Pairs → Members → Option (Bor (List ℕ) × Node) → Pairs → Type 0
EntryStep s no_members None t = HasEntries t no_members
EntryStep s no_members (Some x) t = ⊥
EntryStep s (member k d ms) None t = ⊥
EntryStep s (member k d ms) (Some x) t = StepsOverEntry s k d ms x.0.now x.1 t

abbrev pub EntriesGive : Pairs → Option (Bor (List ℕ) × Node) → Pairs → Type 0
EntriesGive s r t = (ms : Members) → HasEntries s ms → EntryStep s ms r t

pub record IteratesEntries (n : Node) (ms : Members) (s : Pairs) : Type 0 where
  pub left : HasEntries s ms
  pub block_is : s.block.now ≡ block_of n
  pub place : s.from ≡ start_of n + length (head 5 (length (members_list ms)))

abbrev pub members_of : Data → Option Members
members_of (map ms) = Some ms
members_of t = None

abbrev pub FindsEntries : Node → Option Members → Option Pairs → Type 0
FindsEntries n (Some ms) (Some s) = IteratesEntries n ms s
FindsEntries n None None = Unit {0}
FindsEntries n (Some ms) None = ⊥
FindsEntries n None (Some s) = ⊥
