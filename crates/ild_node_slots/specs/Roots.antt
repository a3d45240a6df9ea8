-- Reading the root map of a HAMT, entry by entry.
use Rattle.std.specs.Prelude.{◌≡◌, ◌≢◌, ℕ, ℤ, pos, ◌+◌, List, length, Option, Some, None, option_and_then}
use Rattle.ild_data.specs.Data.{Data, Members, no_members, member}
use Rattle.ild_cbor.specs.declared.node.Node.{Node}
use Rattle.ild_cbor.specs.declared.pairs.Pairs.{Pairs}
use Rattle.ild_cbor.specs.Nodes.{HasData, IsPart, block_of, start_of}
use Rattle.ild_data.specs.Spell.{spell_text}
use Rattle.ild_data.specs.Trie.{TrieSlot, node_data}
use Rattle.ild_data.specs.declared.hamt_shape.HamtShape.{HamtShape}
use Rattle.ild_cbor.specs.Scalar.{int_of}
use Rattle.ild_cbor.specs.Span.{entry_of, place_of}
use Rattle.ild_cbor.specs.Steps.{HasEntries}
use Rattle.ild_typed.specs.Node.{IsRoot}
use Rattle.ild_node_slots.specs.Views.{HasSlots, view_node}
use Rattle.ild_node_slots.specs.declared.view.NodeView.{NodeView}
use Rattle.ild_cbor.specs.declared.why.Why.{Why}
use Rattle.ild_cbor.specs.declared.why.Why.TheVariants as W

-- the value of the first of these entries, where it has this key, and an iterator over the others
pub record IsNext (s : Pairs) (k : List ℕ) (d : Data) (ms : Members) (key : List ℕ) (n : Node) (t : Pairs) : Type 0 where
  pub key_is : k ≡ key
  pub stands : HasData n d
  pub block_is : block_of n ≡ s.block.now
  pub start_is : start_of n ≡ s.from + length (spell_text k)
  pub left : HasEntries t ms

abbrev pub NextOf : Pairs → Members → List ℕ → Option Node → Pairs → Type 0
NextOf s no_members key None t = Unit {0}
NextOf s no_members key (Some n) t = ⊥
NextOf s (member k d ms) key (Some n) t = IsNext s k d ms key n t
NextOf s (member k d ms) key None t = k ≢ key

-- the integer at a key is another one
pub record HasOtherInt (t : Data) (key : List ℕ) (wanted : ℕ) : Type 0 where
  pub found : ℤ
  pub is : option_and_then int_of (entry_of t key) ≡ Some found
  pub other : found ≢ pos wanted

-- the view is that of the node of the root that an item is, behind its name
abbrev pub IsRootView : HamtShape → Node → Data → NodeView → Type 0
IsRootView p n t v = (slots : List TrieSlot) × IsRoot p slots t × HasSlots p v slots × IsPart n (view_node v) (place_of t 0) (node_data slots)

-- the causes for which an item isn't read as a root
abbrev pub IsRootWhy : Why → Type 0
IsRootWhy W.Trie = Unit {0}
IsRootWhy W.HashAlg = Unit {0}
IsRootWhy W.BucketSize = Unit {0}
IsRootWhy w = ⊥
