-- The nodes that hang beneath the root of a HAMT, by the links to child nodes (IPLD HashMap, "Element"), and what may be wrong with one.
use Rattle.std.specs.Prelude.{◌≡◌, ◌⊎◌, ℕ, zero, suc, ◌+◌, ◌-◌, ◌≤◌, false, List, [], ◌∷◌, length, reverse, slice_get, Option, Some, None}
use Rattle.ild_data.specs.declared.hamt_shape.HamtShape.{HamtShape}
use Rattle.ild_data.specs.Data.{Data}
use Rattle.ild_data.specs.Trie.{TrieSlot, empty, bucket, child}
use Rattle.ild_data.specs.TrieShape.{trie_levels}
use Rattle.ild_cbor.specs.Reading.{fault_of}
use Rattle.ild_cbor.specs.declared.why.BlockWhy.{BlockWhy}
use Rattle.ild_cbor.specs.declared.why.BlockWhy.TheVariants.{Missing, Cbor, Shape as NoNode}
use Rattle.ild_cbor.specs.declared.why.Why.TheVariants.{Trie}
use Rattle.ild_edges.specs.Count.{Rose}
use Rattle.ild_edges.specs.Gained.{IsUnder}
use Rattle.ild_edges.specs.Store.{block_at}
use Rattle.ild_edges.specs.Told.{IfTold}
use Rattle.ild_bulk_walker.specs.Gives.{IsNodeOf}
use Rattle.ild_bulk_walker.specs.Todo.{fits}

-- the block under an id is the node of these slots
pub record IsNodeAt (p : HamtShape) (told : Option (List (List ℕ))) (id : List ℕ) (slots : List TrieSlot) : Type 0 where
  pub block : List ℕ
  pub at : IsUnder told id block
  pub node : IsNodeOf p block slots

-- the slots of a node on the tree: at no index those of the root, else those of the block under its id
abbrev pub HasNode : HamtShape → Option (List (List ℕ)) → List TrieSlot → List ℕ → List ℕ → List TrieSlot → Type 0
HasNode p told root [] id slots = slots ≡ root
HasNode p told root (i ∷ up) id slots = IsNodeAt p told id slots

-- links to children lead from the root, which stands in the block `at`, to an id: at these indices, the last one first
abbrev pub IsOnTree : HamtShape → Option (List (List ℕ)) → List TrieSlot → List ℕ → List ℕ → List ℕ → Type 0
IsOnTree p told root at [] id = id ≡ at
IsOnTree p told root at (i ∷ up) id = (above : List ℕ) × (slots : List TrieSlot) × IsOnTree p told root at up above × HasNode p told root up above slots × (slice_get slots i ≡ Some (child id))

-- ---- how many entries stand in a node and beneath it

abbrev pub SlotMany : (List ℕ → ℕ → Type 0) → TrieSlot → ℕ → Type 0
SlotMany below empty n = n ≡ 0
SlotMany below (bucket es) n = n ≡ length es
SlotMany below (child id) n = below id n

abbrev pub SlotsMany : (List ℕ → ℕ → Type 0) → List TrieSlot → ℕ → Type 0
SlotsMany below [] n = n ≡ 0
SlotsMany below (s ∷ slots) n = (here : ℕ) × (more : ℕ) × (n ≡ here + more) × SlotMany below s here × SlotsMany below slots more

pub record NodeMany (p : HamtShape) (told : Option (List (List ℕ))) (below : List ℕ → ℕ → Type 0) (id : List ℕ) (n : ℕ) : Type 0 where
  pub slots : List TrieSlot
  pub node : IsNodeAt p told id slots
  pub many : SlotsMany below slots n

-- so many beneath an id, where so many levels are left
abbrev pub TreeMany : HamtShape → Option (List (List ℕ)) → ℕ → List ℕ → ℕ → Type 0
TreeMany p told zero id n = ⊥
TreeMany p told (suc left) id n = NodeMany p told (TreeMany p told left) id n

-- ---- what a node has that a trie hasn't there

-- a bucket has an entry whose key doesn't belong there
pub record HasStray (h : List ℕ → List ℕ) (p : HamtShape) (up : List ℕ) (slots : List TrieSlot) : Type 0 where
  pub index : ℕ
  pub entries : List (List ℕ × Data)
  pub stands : slice_get slots index ≡ Some (bucket entries)
  pub place : ℕ
  pub key : List ℕ
  pub value : Data
  pub is : slice_get entries place ≡ Some (key, value)
  pub stray : fits h p (reverse up) index key ≡ false

-- a child stands at the last level
pub record HasDeep (p : HamtShape) (up : List ℕ) (slots : List TrieSlot) : Type 0 where
  pub index : ℕ
  pub id : List ℕ
  pub stands : slice_get slots index ≡ Some (child id)
  pub last : trie_levels p ≤ suc (length up)

-- at most as many entries as a bucket takes stand in the node and beneath it
pub record HasFew (p : HamtShape) (told : Option (List (List ℕ))) (up : List ℕ) (slots : List TrieSlot) : Type 0 where
  pub many : ℕ
  pub stands : SlotsMany (TreeMany p told (trie_levels p - suc (length up))) slots many
  pub few : many ≤ p.bucket

-- of the root it isn't asked how many
abbrev pub IsUncollapsed : HamtShape → Option (List (List ℕ)) → List ℕ → List TrieSlot → Type 0
IsUncollapsed p told [] slots = ⊥
IsUncollapsed p told (i ∷ up) slots = HasFew p told (i ∷ up) slots

-- the block is no node
pub record IsNoNode (p : HamtShape) (told : Option (List (List ℕ))) (id : List ℕ) : Type 0 where
  pub block : List ℕ
  pub at : IsUnder told id block
  pub none : (slots : List TrieSlot) → IsNodeOf p block slots → ⊥

-- it is one, with something in it that a trie hasn't there
pub record IsWrongNode (h : List ℕ → List ℕ) (p : HamtShape) (told : Option (List (List ℕ))) (root : List TrieSlot) (up id : List ℕ) : Type 0 where
  pub slots : List TrieSlot
  pub node : HasNode p told root up id slots
  pub wrong : HasStray h p up slots ⊎ HasDeep p up slots ⊎ IsUncollapsed p told up slots

-- why the block under an id is refused: it lacks; it is no spelling; it isn't the node that a trie asks there
abbrev pub IsWrong : (List ℕ → List ℕ) → HamtShape → Option (List (List ℕ)) → List TrieSlot → ℕ → ℕ → List ℕ → List ℕ → BlockWhy → Type 0
IsWrong h p told root before now up id Missing = IfTold told (λ blocks. block_at blocks id ≡ None) × Rose before now
IsWrong h p told root before now up id (Cbor fault) = (block : List ℕ) × IsUnder told id block × (fault_of block ≡ Some fault)
IsWrong h p told root before now up id (NoNode why) = (why ≡ Trie) × (IsNoNode p told id ⊎ IsWrongNode h p told root up id)
