-- What is read of a node, item by item, while it is told that it is one: the steps of its entries and children.
use Rattle.std.specs.Prelude.{◌≡◌, ℕ, ◌+◌, List, [], ◌∷◌, ◌++◌, ◌^◌, length, map, Bool, true, false, Option, Some, None, IsUtf8}
use Rattle.std.specs.Borrow.{Bor}
use Rattle.std.specs.Global.{Vec}
use Rattle.ild_data.specs.Data.{Data, bytes, list, Items, no_items, item, items_list}
use Rattle.ild_data.specs.Spell.{spell}
use Rattle.ild_data.specs.Trie.{TrieSlot, node_data}
use Rattle.ild_data.specs.declared.hamt_shape.HamtShape.{HamtShape}
use Rattle.ild_cbor.specs.Chain.{chain}
use Rattle.ild_cbor.specs.Nodes.{HasData, block_of, start_of}
use Rattle.ild_cbor.specs.Steps.{HasItems, items_of}
use Rattle.ild_cbor.specs.declared.items.Items.{Items as ItemsLeft}
use Rattle.ild_cbor.specs.declared.node.Node.{Node}
use Rattle.ild_typed.specs.NodeReading.{child_in, entry_in, element_fits, elements_fit, map_bits, node_fits, pair_in}
use Rattle.ild_node_slots.specs.Form.{IsNode}
use Rattle.ild_bulk_walker.specs.Steps.{step_todo, steps_todo}
use Rattle.ild_bulk_walker.specs.Todo.{Todo, give, enter, node_todo}
use Rattle.ild_bulk_walker.specs.declared.step.Step.{Step}

-- a key stands in a block, and behind it the spelling of the value for which a node stands
pub record Lies (b key : List ℕ) (v : Node) (d : Data) : Type 0 where
  pub text : IsUtf8 key
  pub stands : HasData v d
  pub front : List ℕ
  pub after : List ℕ
  pub is : b ≡ front ++ (key ++ (spell d ++ after))
  pub place : length front + length key ≡ start_of v

-- some value does
pub record LiesThere (b key : List ℕ) (v : Node) : Type 0 where
  pub of : Data
  pub lies : Lies b key v of

-- ---- the iterator over what is still to be read, in its block

pub record HasItemsIn (block : List ℕ) (s : ItemsLeft) : Type 0 where
  pub of : Items
  pub has : HasItems s of
  pub here : s.block.now ≡ block

-- so many items of a list are next, and then others
pub record HasEntriesIn (block : List ℕ) (count : ℕ) (s : ItemsLeft) : Type 0 where
  pub of : Items
  pub others : Items
  pub has : HasItems s (chain of others)
  pub many : length (items_list of) ≡ count
  pub here : s.block.now ≡ block

-- an item stands in a block
pub record IsNodeIn (block : List ℕ) (n : Node) : Type 0 where
  pub of : Data
  pub stands : HasData n of
  pub here : block_of n ≡ block

-- ---- the steps of data

abbrev pub entry_todo : ℕ → Option (List ℕ × Data) → List Todo → List Todo
entry_todo i None more = more
entry_todo i (Some e) more = give e.0 e.1 i ∷ more

abbrev pub entries_todo : ℕ → Items → List Todo
entries_todo i no_items = []
entries_todo i (item d ds) = entry_todo i (entry_in d) (entries_todo i ds)

-- of a bucket, or else of the link of a child
abbrev pub element_by : ℕ → Option Items → Option (List ℕ) → List Todo
element_by i (Some es) o = entries_todo i es
element_by i None (Some id) = enter id i ∷ []
element_by i None None = []

abbrev pub element_todo : ℕ → Data → List Todo
element_todo i t = element_by i (items_of t) (child_in t)

-- of the elements for the bits that are set, from an index on
abbrev pub elements_todo : ℕ → List Bool → Items → List Todo
elements_todo i [] ds = []
elements_todo i (false ∷ bs) ds = elements_todo (i + 1) bs ds
elements_todo i (true ∷ bs) no_items = []
elements_todo i (true ∷ bs) (item d ds) = element_todo i d ++ elements_todo (i + 1) bs ds

-- ---- what was told and added

-- these steps, and the iterator stands in its block before these items
pub record Added (todo : List Todo) (block : List ℕ) (ds : Items) (old : List Step) (t : ItemsLeft) (new : List Step) : Type 0 where
  pub left : HasItems t ds
  pub here : t.block.now ≡ block
  pub todo_is : map step_todo new ≡ map step_todo old ++ todo

-- the answer of a test, and where it is yes, the steps are added
pub record Adds (wanted : Bool) (todo : List Todo) (block : List ℕ) (ds : Items) (old : List Step) (r : Bool) (t : ItemsLeft) (new : List Step) : Type 0 where
  pub same : r ≡ wanted
  pub added : r ≡ true → Added todo block ds old t new

abbrev pub ChildAdds : Option (List ℕ) → ℕ → List Step → Bool → List Step → Type 0
ChildAdds None i old r new = r ≡ false
ChildAdds (Some id) i old r new = (r ≡ true) × (map step_todo new ≡ map step_todo old ++ enter id i ∷ [])

-- whether the next item is there, and is an element of a node
abbrev pub ElementAdds : HamtShape → ℕ → List ℕ → Items → List Step → Bool → ItemsLeft → List Step → Type 0
ElementAdds p i block no_items old r t new = r ≡ false
ElementAdds p i block (item d ds) old r t new = Adds (element_fits p.bucket d) (element_todo i d) block ds old r t new

-- the same, where the bit of the slot is set
abbrev pub SlotAdds : HamtShape → Bool → ℕ → List ℕ → Items → ItemsLeft → List Step → Bool → ItemsLeft → List Step → Type 0
SlotAdds p true i block ds s old r t new = ElementAdds p i block ds old r t new
SlotAdds p false i block ds s old r t new = (r ≡ true) × (t ≡ s) × (new ≡ old)

pub record ReadsElements (p : HamtShape) (ones : List ℕ) (ds : Items) (old : List Step) (r : Bool) (new : List Step) : Type 0 where
  pub same : r ≡ elements_fit p.bucket (map_bits ones 0 (2 ^ p.width)) ds
  pub added : r ≡ true → map step_todo new ≡ map step_todo old ++ elements_todo 0 (map_bits ones 0 (2 ^ p.width)) ds

-- ---- whole nodes

-- the map of a node, and an iterator over its elements
pub record PartsIn (n : Node) (t : Data) (r : Bor (List ℕ) × ItemsLeft) : Type 0 where
  pub parts : Items
  pub pair : pair_in t ≡ Some (bytes r.0.now, list parts)
  pub has : HasItems r.1 parts
  pub here : r.1.block.now ≡ block_of n

abbrev pub PartsRead : Node → Data → Option (Bor (List ℕ) × ItemsLeft) → Type 0
PartsRead n t None = (p : HamtShape) → node_fits p t ≡ false
PartsRead n t (Some r) = PartsIn n t r

-- the steps of a node, or it is none
abbrev pub ReadsNode : HamtShape → Data → Option (Vec Step) → Type 0
ReadsNode p t None = node_fits p t ≡ false
ReadsNode p t (Some steps) = (node_fits p t ≡ true) × ((slots : List TrieSlot) → t ≡ node_data slots → IsNode p slots → steps_todo steps.items ≡ node_todo 0 slots)
