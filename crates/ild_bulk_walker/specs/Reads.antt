-- How many blocks of nodes hang beneath a root, and how many of them a walk has still to read.
use Rattle.std.specs.Prelude.{◌≡◌, ◌⊎◌, ℕ, zero, suc, ◌+◌, ◌-◌, ◌≤◌, List, [], ◌∷◌, length, Some, Result, Ok, Err}
use Rattle.std.specs.List.{AllByRecursion}
use Rattle.ild_data.specs.Bytes.{AreBytes}
use Rattle.ild_data.specs.declared.hamt_shape.HamtShape.{HamtShape}
use Rattle.ild_data.specs.Trie.{TrieSlot, empty, bucket, child}
use Rattle.ild_data.specs.TrieShape.{trie_levels}
use Rattle.ild_edges.specs.Gained.{AreHeld, IsGot}
use Rattle.ild_edges.specs.Store.{Moment}
use Rattle.ild_edges.specs.Told.{IfTold}
use Rattle.ild_node_slots.specs.declared.fault.HamtFault.{HamtFault}
use Rattle.ild_bulk_walker.specs.Gives.{IsNodeOf}
use Rattle.ild_bulk_walker.specs.OnTree.{IsNodeAt}
use Rattle.ild_bulk_walker.specs.Steps.{steps_todo}
use Rattle.ild_bulk_walker.specs.Todo.{Todo, give, enter, leave}
use Rattle.ild_bulk_walker.specs.declared.walker.Walker.{Walker}

abbrev pub SlotNodes : (List ℕ → ℕ → Type 0) → TrieSlot → ℕ → Type 0
SlotNodes below empty n = n ≡ 0
SlotNodes below (bucket es) n = n ≡ 0
SlotNodes below (child id) n = below id n

abbrev pub SlotsNodes : (List ℕ → ℕ → Type 0) → List TrieSlot → ℕ → Type 0
SlotsNodes below [] n = n ≡ 0
SlotsNodes below (s ∷ slots) n = (here : ℕ) × (more : ℕ) × (n ≡ here + more) × SlotNodes below s here × SlotsNodes below slots more

-- what hangs beneath a child: the children of its node, or nothing where its block lacks or is none
pub record NodesIn (p : HamtShape) (held : List (List ℕ)) (below : List ℕ → ℕ → Type 0) (id : List ℕ) (n : ℕ) : Type 0 where
  pub slots : List TrieSlot
  pub node : IsNodeAt p (Some held) id slots
  pub many : SlotsNodes below slots n

pub record NoNodes (p : HamtShape) (held : List (List ℕ)) (id : List ℕ) (n : ℕ) : Type 0 where
  pub none : (slots : List TrieSlot) → IsNodeAt p (Some held) id slots → ⊥
  pub zero : n ≡ 0

-- so many blocks are beneath a link to a child, its own among them, where so many levels are left
abbrev pub TreeNodes : HamtShape → List (List ℕ) → ℕ → List ℕ → ℕ → Type 0
TreeNodes p held zero id n = n ≡ 0
TreeNodes p held (suc left) id n = (more : ℕ) × (n ≡ 1 + more) × (NodesIn p held (TreeNodes p held left) id more ⊎ NoNodes p held id more)

-- so many are beneath a root of these slots, where a store holds these blocks
abbrev pub NodesBeneath : HamtShape → List (List ℕ) → List TrieSlot → ℕ → Type 0
NodesBeneath p held slots n = SlotsNodes (TreeNodes p held (trie_levels p - 1)) slots n

-- so many are still to be read, from a level on
abbrev pub TodoNodes : HamtShape → List (List ℕ) → ℕ → List Todo → ℕ → Type 0
TodoNodes p held level [] n = n ≡ 0
TodoNodes p held level (give k v i ∷ todo) n = TodoNodes p held level todo n
TodoNodes p held level (enter id i ∷ todo) n = (here : ℕ) × (more : ℕ) × (n ≡ here + more) × TreeNodes p held (trie_levels p - suc level) id here × TodoNodes p held level todo more
TodoNodes p held level (leave before ∷ todo) n = TodoNodes p held (level - 1) todo n

pub record LeftNodes (p : HamtShape) (held : List (List ℕ)) (w : Walker) (n : ℕ) : Type 0 where
  pub many : TodoNodes p held (length w.path.items) (steps_todo w.steps.items) n

-- at most so many more gets than nodes that are no longer to be read
pub record Spent (p : HamtShape) (held : List (List ℕ)) (before now n : ℕ) (w : Walker) : Type 0 where
  pub left : ℕ
  pub nodes : LeftNodes p held w left
  pub gets : now + left ≤ before + n

abbrev pub Spends : {A : Type 0} → HamtShape → List (List ℕ) → ℕ → ℕ → Walker → Result A HamtFault → Walker → Type 0
Spends p held before now v (Ok x) w = (n : ℕ) → LeftNodes p held v n → Spent p held before now n w
Spends p held before now v (Err e) w = (n : ℕ) → LeftNodes p held v n → now ≤ before + n

-- ---- over every store

-- each is the block of a node
abbrev pub AreNodes : HamtShape → List (List ℕ) → Type 0
AreNodes p blocks = AllByRecursion (λ b. (slots : List TrieSlot) × IsNodeOf p b slots) blocks

-- where these blocks are held, as many nodes fewer are to be read
abbrev pub ReadThem : HamtShape → List (List ℕ) → Walker → Walker → Type 0
ReadThem p blocks v w = (held : List (List ℕ)) (n : ℕ) → AreHeld blocks held → LeftNodes p held v n → (left : ℕ) × (n ≡ length blocks + left) × LeftNodes p held w left

-- a call that fails may get one block that it doesn't enter
abbrev pub fails_of : {A : Type 0} → Result A HamtFault → ℕ
fails_of (Ok x) = 0
fails_of (Err e) = 1

-- nodes were entered, and these are their blocks, which gets gave, with a get for each, and so many gets besides; and what is said of them
pub record HasRead (p : HamtShape) (Says : List (List ℕ) → Type 0) (besides : ℕ) (m : Moment) (v w : Walker) (n : Moment) : Type 0 where
  pub blocks : List (List ℕ)
  pub bytes : AllByRecursion AreBytes blocks
  pub nodes : AreNodes p blocks
  pub got : AllByRecursion (IsGot n) blocks
  pub held : IfTold m.blocks (λ held. AreHeld blocks held)
  pub gets : n.gets ≤ m.gets + (length blocks + besides)
  pub left : ReadThem p blocks v w
  pub says : Says blocks
