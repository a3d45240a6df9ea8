-- What putting a batch's blocks leaves.
use Rattle.std.specs.Prelude.{◌≡◌, ◌⊎◌, ℕ, ◌+◌, ◌≤◌, List, [], ◌∷◌, length, take, suc, Some, Result, Ok, Err, Contains, IsSome}
use Rattle.std.specs.List.{AllByRecursion}
use Rattle.ild_data.specs.Spell.{id_of}
use Rattle.ild_edges.specs.Collide.{Collide}
use Rattle.ild_edges.specs.Count.{Rose}
use Rattle.ild_edges.specs.Gained.{AreHeld, CameFrom, Collides}
use Rattle.ild_edges.specs.Store.{Moment, Later, block_at}
use Rattle.ild_edges.specs.Told.{IfTold, BothTold}
use Rattle.ild_edges.specs.Among.{IsIn}
use Rattle.ild_dirty.specs.Beneath.{Place, HasPlace, blocks_in, places_in}
use Rattle.ild_dirty.specs.declared.fault.FlushFault.{FlushFault}
use Rattle.ild_dirty.specs.declared.fault.FlushFault.TheVariants as F

abbrev pub PutAnswer : Moment → List ℕ → Result (Unit {0}) FlushFault → Moment → Type 0
PutAnswer m b (Ok u) n = BothTold m.blocks n.blocks (λ was now. block_at now (id_of b) ≡ Some b)
PutAnswer m b (Err F.Store) n = Rose m.faults n.faults
PutAnswer m b (Err (F.Clash id kept new)) n = (new ≡ b) × (id.0 ≡ id_of new) × Collide kept new × IfTold n.blocks (λ held. block_at held (id_of new) ≡ Some kept)
PutAnswer m b (Err F.Memory) n = Unit {0}

-- one block was put, or why not
pub record PutsOne (m : Moment) (b : List ℕ) (result : Result (Unit {0}) FlushFault) (n : Moment) : Type 0 where
  pub answer : PutAnswer m b result n
  pub later : Later m n
  pub gets : n.gets ≡ m.gets
  pub puts : n.puts ≤ m.puts + 1
  pub adds : BothTold m.blocks n.blocks (CameFrom (b ∷ []))

abbrev pub PutsAnswer : Moment → List (List ℕ) → Result (Unit {0}) FlushFault → Moment → Type 0
PutsAnswer m bs (Ok u) n = BothTold m.blocks n.blocks (λ was now. AreHeld bs now)
PutsAnswer m bs (Err F.Store) n = Rose m.faults n.faults
PutsAnswer m bs (Err (F.Clash id kept new)) n = IsIn new bs × (id.0 ≡ id_of new) × Collide kept new × IfTold n.blocks (λ held. block_at held (id_of new) ≡ Some kept)
PutsAnswer m bs (Err F.Memory) n = Unit {0}

-- the blocks of a front are held, and no block was added but one of it and the one behind it
pub record StopsAfter (bs : List (List ℕ)) (k : ℕ) (was now : List (List ℕ)) : Type 0 where
  pub held : AreHeld (take k bs) now
  pub adds : CameFrom (take (suc k) bs) was now

-- blocks were put one after another, or why not all
pub record PutsAll (m : Moment) (bs : List (List ℕ)) (result : Result (Unit {0}) FlushFault) (n : Moment) : Type 0 where
  pub answer : PutsAnswer m bs result n
  pub later : Later m n
  pub gets : n.gets ≡ m.gets
  pub puts : n.puts ≤ m.puts + length bs
  pub stops : (k : ℕ) × BothTold m.blocks n.blocks (StopsAfter bs k)

-- each of these places has its block among the batch's own, or the blocks from there on down in the store
abbrev pub AreCarried : List (List ℕ) → List (List ℕ) → List (List ℕ × List (List ℕ)) → Type 0
AreCarried held own places = AllByRecursion (λ p. Contains own p.0 ⊎ AreHeld p.1 held) places

-- at one of its places the children of a block are all held
pub record IsWholeIn (children : ℕ → List ℕ → List (List ℕ × ℕ)) (t : Place) (held : List (List ℕ)) (b : List ℕ) : Type 0 where
  pub kind : ℕ
  pub place : HasPlace t b kind
  pub children_held : AllByRecursion (λ c. IsSome (block_at held c.0)) (children kind b)

-- each block that is held now was held, or has its children held
abbrev pub CameWholeIn : (ℕ → List ℕ → List (List ℕ × ℕ)) → Place → List (List ℕ) → List (List ℕ) → Type 0
CameWholeIn children t was now = (id b : List ℕ) → block_at now id ≡ Some b → (block_at was id ≡ Some b) ⊎ IsWholeIn children t now b

abbrev pub FlushAnswer : List (List ℕ) → Place → Moment → Result (Unit {0}) FlushFault → Moment → Type 0
FlushAnswer own t m (Ok u) n = BothTold m.blocks n.blocks (λ was now. AreCarried was own (places_in t) → AreHeld (blocks_in t) now)
FlushAnswer own t m (Err F.Store) n = Rose m.faults n.faults
FlushAnswer own t m (Err (F.Clash id kept new)) n = IsIn new (blocks_in t) × (id.0 ≡ id_of new) × Collide kept new × IfTold n.blocks (λ held. block_at held (id_of new) ≡ Some kept)
FlushAnswer own t m (Err F.Memory) n = Unit {0}

-- each of these blocks is one of those
abbrev pub AreAmong : List (List ℕ) → List (List ℕ) → Type 0
AreAmong blocks others = (b : List ℕ) → IsIn b blocks → IsIn b others

-- the blocks of a tree that are the batch's own were put, each once and behind its children, or why not all
pub record Flushes (own : List (List ℕ)) (children : ℕ → List ℕ → List (List ℕ × ℕ)) (t : Place) (m : Moment) (result : Result (Unit {0}) FlushFault) (n : Moment) : Type 0 where
  pub answer : FlushAnswer own t m result n
  pub adds : BothTold m.blocks n.blocks (CameFrom (blocks_in t))
  pub whole : BothTold m.blocks n.blocks (λ was now. AreCarried was own (places_in t) → CameWholeIn children t was now)
  -- each block once at most, however often it stands in the tree
  pub puts : (blocks : List (List ℕ)) → AreAmong (blocks_in t) blocks → n.puts ≤ m.puts + length blocks

-- where a block clashes, one of the batch's own collides with one that is held
abbrev pub ClashAnswer : List (List ℕ) → Result (Unit {0}) FlushFault → Moment → Type 0
ClashAnswer own (Err (F.Clash id kept new)) n = Collides n own
ClashAnswer own result n = Unit {0}

-- over every store
pub record Asks (own : List (List ℕ)) (m : Moment) (result : Result (Unit {0}) FlushFault) (n : Moment) : Type 0 where
  pub later : Later m n
  pub gets : n.gets ≡ m.gets
  pub puts : n.puts ≤ m.puts + length own
  pub failed : result ≡ Err F.Store → Rose m.faults n.faults
  pub clashed : ClashAnswer own result n
