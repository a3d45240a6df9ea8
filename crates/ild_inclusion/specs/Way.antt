-- The nodes on a key's way, one block behind another (IPLD HashMap, "Algorithm in detail"): where the way ends and with what value, or what is wrong first.
use Rattle.std.specs.Prelude.{◌≡◌, ◌<◌, ℕ, ◌+◌, List, [], ◌∷◌, get_or, Option, None}
use Rattle.std.specs.FinMap.{find}
use Rattle.ild_cbor.specs.Block.{IsBlockOf}
use Rattle.ild_data.specs.ByteOrder.{bytewise}
use Rattle.ild_data.specs.Data.{Data}
use Rattle.ild_data.specs.Spell.{id_of}
use Rattle.ild_data.specs.Trie.{TrieSlot, empty, bucket, child, node_data}
use Rattle.ild_data.specs.TrieShape.{index, trie_levels}
use Rattle.ild_data.specs.declared.hamt_shape.HamtShape.{HamtShape}
use Rattle.ild_node_slots.specs.Form.{IsNode}
use Rattle.ild_inclusion.specs.Branches.{Whether, ElseBehind}
use Rattle.ild_inclusion.specs.declared.fault.Reject.{Reject}
use Rattle.ild_inclusion.specs.declared.fault.Reject.TheVariants as R

-- the data are the node of these slots, in a HAMT of this shape
pub record IsNodeOf (p : HamtShape) (t : Data) (slots : List TrieSlot) : Type 0 where
  pub form : IsNode p slots
  pub tree : t ≡ node_data slots

-- block i spells data within the limits of a block
abbrev pub Spelling : ℕ → List ℕ → (Data → Type 0) → (Reject → Type 0) → Type 0
Spelling i b Behind Wrong = ElseBehind (IsBlockOf b) Behind (Wrong (R.Cbor i))

-- the data in it are a node
abbrev pub NodeAt : HamtShape → ℕ → Data → (List TrieSlot → Type 0) → (Reject → Type 0) → Type 0
NodeAt p i t Behind Wrong = ElseBehind (IsNodeOf p t) Behind (Wrong (R.Shape i))

-- block i is the node to which a link leads
abbrev pub NodeIn : HamtShape → List ℕ → ℕ → List ℕ → (List TrieSlot → Type 0) → (Reject → Type 0) → Type 0
NodeIn p id i b Behind Wrong = Whether (id_of b ≡ id) (Spelling i b (λ t. NodeAt p i t Behind Wrong) Wrong) (Wrong (R.Missing i))

-- the next node is in the first of the blocks that are left, behind block i
abbrev pub NextNode : HamtShape → List ℕ → ℕ → List (List ℕ) → (List TrieSlot → List (List ℕ) → Type 0) → (Reject → Type 0) → Type 0
NextNode p id i [] Behind Wrong = Wrong (R.Missing (i + 1))
NextNode p id i (b ∷ bs) Behind Wrong = NodeIn p id (i + 1) b (λ below. Behind below bs) Wrong

-- a level is left below a node in block i at a depth
abbrev pub LevelLeft : HamtShape → ℕ → ℕ → Type 0 → (Reject → Type 0) → Type 0
LevelLeft p depth i Behind Wrong = Whether (depth + 1 < trie_levels p) Behind (Wrong (R.Shape i))

-- what stands in the slot of a key: nothing or a bucket, where the way ends, with the value at the key if it is there; or the link to the next node
abbrev pub AtSlot : List ℕ → (Option Data → Type 0) → (List ℕ → Type 0) → TrieSlot → Type 0
AtSlot key Ends On empty = Ends None
AtSlot key Ends On (bucket es) = Ends (find bytewise key es)
AtSlot key Ends On (child id) = On id

-- The way of a key and its hash in a HAMT of this shape, from a node at a depth, in block i, through the blocks that are left. It ends in a block, with those behind it left.
abbrev pub OnWay : HamtShape → List ℕ → List ℕ → (ℕ → List (List ℕ) → Option Data → Type 0) → (Reject → Type 0) → ℕ → ℕ → List TrieSlot → List (List ℕ) → Type 0
OnWay p hash key Ends Wrong depth i slots [] =
    AtSlot key (Ends i []) (λ id. LevelLeft p depth i (Wrong (R.Missing (i + 1))) Wrong) (get_or slots (index p hash depth) empty)
OnWay p hash key Ends Wrong depth i slots (b ∷ bs) =
    AtSlot key (Ends i (b ∷ bs))
    (λ id. LevelLeft p depth i (NodeIn p id (i + 1) b (λ below. OnWay p hash key Ends Wrong (depth + 1) (i + 1) below bs) Wrong) Wrong)
    (get_or slots (index p hash depth) empty)
