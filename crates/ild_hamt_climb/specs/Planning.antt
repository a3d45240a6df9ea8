-- A new way planned and put, of whatever trie its nodes are.
use Rattle.std.specs.Prelude.{◌≡◌, ◌⊎◌, ℕ, ◌+◌, ◌≤◌, true, false, All, IsSome, List, [], ◌∷◌, ◌++◌, length, Result, Ok, Err}
use Rattle.std.specs.List.{AllByRecursion}
use Rattle.ild_data.specs.declared.hamt_shape.HamtShape.{HamtShape}
use Rattle.ild_data.specs.Spell.{spell}
use Rattle.ild_data.specs.Trie.{TrieSlot, node_data}
use Rattle.ild_edges.specs.Store.{Moment, block_at}
use Rattle.ild_node.specs.Written.{IsNodeBlock}
use Rattle.ild_node_slots.specs.declared.fault.HamtFault.{HamtFault}
use Rattle.ild_node_slots.specs.declared.fault.HamtFault.TheVariants.{Size}
use Rattle.ild_bulk.specs.Build.{any_long}
use Rattle.ild_bulk.specs.Children.{ChildIn, IsIdAmong, IsNodeOver}
use Rattle.ild_bulk.specs.Putting.{PutsAll}
use Rattle.ild_bulk_walker.specs.Gives.{IsNodeOf}

-- the children in these slots are held
abbrev pub HoldsLinks : List (List ℕ) → List TrieSlot → Type 0
HoldsLinks held slots = AllByRecursion (ChildIn (λ c. IsSome (block_at held c))) slots

-- the children of the node that a block is are held
abbrev pub HoldsLinksOf : HamtShape → List (List ℕ) → List ℕ → Type 0
HoldsLinksOf p held b = (slots : List TrieSlot) → IsNodeOf p b slots → HoldsLinks held slots

-- the block spells a node of any slots
pub record SpellsNode (b : List ℕ) : Type 0 where
  pub slots : List TrieSlot
  pub spelled : b ≡ spell (node_data slots)

-- the block is written as a node that may stand in a HAMT
pub record IsWritten (p : HamtShape) (b : List ℕ) : Type 0 where
  pub slots : List TrieSlot
  pub block : IsNodeBlock p slots b

-- each block's children are held, or are among those before it
abbrev pub Rising : List (List ℕ) → List (List ℕ) → List (List ℕ) → Type 0
Rising held before [] = Unit {0}
Rising held before (b ∷ bs) = IsNodeOver (λ id. IsSome (block_at held id) ⊎ IsIdAmong before id) b × Rising held (before ++ b ∷ []) bs

-- so are the planned ones, and a child in this slot above them is held or planned
pub record IsPlanned (held : List (List ℕ)) (s : TrieSlot) (plan : List (List ℕ)) : Type 0 where
  pub rises : Rising held [] plan
  pub link : ChildIn (λ id. IsSome (block_at held id) ⊎ IsIdAmong plan id) s

-- one node up: a new slot for the node whose slot is exchanged, and its block planned, where it has one
pub record LiftsOver (slots : List TrieSlot) (s above : TrieSlot) (old new : List (List ℕ)) : Type 0 where
  pub few : length new ≤ length old + 1
  pub nodes : AllByRecursion SpellsNode old → AllByRecursion SpellsNode new
  pub planned : (held : List (List ℕ)) → HoldsLinks held slots → IsPlanned held s old → IsPlanned held above new

-- the way up from a slot through nodes in these blocks: at most one node more is planned for each, behind those that were
pub record ClimbsOver (p : HamtShape) (bs : List (List ℕ)) (s : TrieSlot) (old new : List (List ℕ)) : Type 0 where
  pub few : length new ≤ length old + length bs
  pub nodes : AllByRecursion SpellsNode old → AllByRecursion SpellsNode new
  pub rises : (held : List (List ℕ)) → All (HoldsLinksOf p held) bs → IsPlanned held s old → Rising held [] new

-- the root, and the planned nodes put; or nothing was put, since one of them or the root is too long; or why a put of them ended
abbrev pub PutsWay : List ℕ → List (List ℕ) → Moment → Result (List ℕ) HamtFault → Moment → Type 0
PutsWay root plan m (Ok b) n = (b ≡ root) × (any_long (root ∷ plan) ≡ false) × PutsAll m plan (Ok tt) n
PutsWay root plan m (Err Size) n = (any_long (root ∷ plan) ≡ true) × (n ≡ m)
PutsWay root plan m (Err e) n = (any_long (root ∷ plan) ≡ false) × PutsAll m plan (Err e) n
