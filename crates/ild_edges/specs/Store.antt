-- What the calls of a store say. A content is a list of blocks, each under its id; of two with one id the first counts.
use Rattle.std.specs.Prelude.{◌≡◌, ◌≢◌, ◌⊎◌, ◌↔◌, ℕ, zero, suc, ◌+◌, ◌-◌, ◌^◌, ◌<◌, ◌≤◌, List, Option, Some, None, Result, Ok, Err, find, Contains}
use Rattle.std.specs.List.{slice_get}
use Rattle.ild_data.specs.Key.{same_text}
use Rattle.ild_data.specs.Spell.{id_of}
use Rattle.ild_edges.specs.Count.{Rose, bumped}
use Rattle.ild_edges.specs.Told.{IfTold, BothTold}
use Rattle.ild_edges.specs.declared.error.EdgeErr.{EdgeErr}
use Rattle.ild_edges.specs.declared.error.EdgeErr.TheVariants.{Failed, Memory}

-- A store beneath a batch: by which references the batch holds it and its own blocks, how many of these there are, and how far the store
-- has come.
pub record Below : Type 0 where
  pub names : ℕ × ℕ
  pub own : ℕ
  pub blocks : Option (List (List ℕ))
  pub given : Option (List (List ℕ))
  pub gets : ℕ
  pub puts : ℕ

-- A store at a moment: the blocks that it holds and the ids that it was given, where it tells them; how many gets and
-- puts there were, how often a block was not there, and how often a call failed. Beneath a batch are the store over which it stands, and
-- those beneath that; beneath another store are none.
pub record Moment : Type 0 where
  pub blocks : Option (List (List ℕ))
  pub given : Option (List (List ℕ))
  pub gets : ℕ
  pub puts : ℕ
  pub lacks : ℕ
  pub faults : ℕ
  pub beneath : List Below

-- the block under an id
abbrev pub block_at : List (List ℕ) → List ℕ → Option (List ℕ)
block_at blocks id = find (λ b. same_text (id_of b) id) blocks

-- the block is held, and every other id is as before
pub record Adds (block : List ℕ) (old new : List (List ℕ)) : Type 0 where
  pub held : block_at new (id_of block) ≡ Some block
  pub others : (id : List ℕ) → id_of block ≢ id → block_at new id ≡ block_at old id

-- no other block is under the block's id
abbrev pub IsFree : List ℕ → List (List ℕ) → Type 0
IsFree block blocks = (block_at blocks (id_of block) ≡ None) ⊎ (block_at blocks (id_of block) ≡ Some block)

-- what was held is held
abbrev pub Keeps : List (List ℕ) → List (List ℕ) → Type 0
Keeps was now = (id b : List ℕ) → block_at was id ≡ Some b → block_at now id ≡ Some b

-- this id is given, beside those that were
abbrev pub Gives : List ℕ → List (List ℕ) → List (List ℕ) → Type 0
Gives id was now = (j : List ℕ) → Contains now j ↔ (Contains was j ⊎ (j ≡ id))

-- what was given is given
abbrev pub StaysGiven : List (List ℕ) → List (List ℕ) → Type 0
StaysGiven was now = (id : List ℕ) → Contains was id → Contains now id

-- The store beneath is the same, holds the same, and was got from no oftener than its batch was asked, by these gets and puts before and
-- now; and the batch keeps no more blocks than were put. The count of gets doesn't fall, nor does it pass the end of its type.
pub record StaysBelow (was now : ℕ × ℕ) (b c : Below) : Type 0 where
  pub names : c.names ≡ b.names
  pub blocks : c.blocks ≡ b.blocks
  pub given : c.given ≡ b.given
  pub puts : c.puts ≡ b.puts
  pub own : now.1 < 2 ^ 64 - 1 → c.own + was.1 ≤ b.own + now.1
  pub more : b.gets ≤ c.gets
  pub most : c.gets - (2 ^ 64 - 1) ≤ b.gets - (2 ^ 64 - 1)
  pub gets : now.0 < 2 ^ 64 - 1 → now.1 < 2 ^ 64 - 1 → c.gets + (was.0 + was.1) ≤ b.gets + (now.0 + now.1)

-- how often a store beneath was asked, by gets and puts
abbrev pub calls_of : Option Below → ℕ × ℕ
calls_of None = (0, 0)
calls_of (Some b) = (b.gets, b.puts)

-- how often what stands over a store beneath was asked: over the first it is the batch itself
abbrev pub asked_over : Moment → ℕ → ℕ × ℕ
asked_over m zero = (m.gets, m.puts)
asked_over m (suc i) = calls_of (slice_get m.beneath i)

-- no count falls, what was held is held, and what was given is given
pub record Later (m n : Moment) : Type 0 where
  pub keeps : BothTold m.blocks n.blocks Keeps
  pub given : BothTold m.given n.given StaysGiven
  pub gets : m.gets ≤ n.gets
  pub puts : m.puts ≤ n.puts
  pub lacks : m.lacks ≤ n.lacks
  pub faults : m.faults ≤ n.faults
  pub beneath : (i : ℕ) → BothTold (slice_get m.beneath i) (slice_get n.beneath i) (StaysBelow (asked_over m i) (asked_over n i))

-- what a get answers: the block under the id, or that there is none
abbrev pub GetsAnswer : Moment → List ℕ → Result (Option (List ℕ)) EdgeErr → Moment → Type 0
GetsAnswer m id (Ok (Some b)) n = (id_of b ≡ id) × IfTold m.blocks (λ blocks. block_at blocks id ≡ Some b)
GetsAnswer m id (Ok None) n = IfTold m.blocks (λ blocks. block_at blocks id ≡ None) × Rose m.lacks n.lacks
GetsAnswer m id (Err Failed) n = Rose m.faults n.faults
GetsAnswer m id (Err Memory) n = Unit {0}

-- a get: its answer, and that it changed nothing but counts
pub record Gets (m : Moment) (id : List ℕ) (result : Result (Option (List ℕ)) EdgeErr) (n : Moment) : Type 0 where
  pub answer : GetsAnswer m id result n
  pub later : Later m n
  pub blocks : n.blocks ≡ m.blocks
  pub given : n.given ≡ m.given
  pub gets : n.gets ≡ bumped m.gets
  pub puts : n.puts ≡ m.puts

-- what a put answers: the block is held now and was the only one under its id, or another is kept there
abbrev pub PutsAnswer : Moment → List ℕ → Result (Option (List ℕ)) EdgeErr → Moment → Type 0
PutsAnswer m block (Ok None) n =
    BothTold m.blocks n.blocks (λ was now. IsFree block was × Adds block was now) × BothTold m.given n.given (Gives (id_of block))
PutsAnswer m block (Ok (Some kept)) n =
    (id_of kept ≡ id_of block) × (kept ≢ block) × (n.blocks ≡ m.blocks) × IfTold m.blocks (λ blocks. block_at blocks (id_of block) ≡ Some kept) × (n.given ≡ m.given)
PutsAnswer m block (Err Failed) n =
    Rose m.faults n.faults × ((n.blocks ≡ m.blocks) ⊎ BothTold m.blocks n.blocks (λ was now. (block_at was (id_of block) ≡ None) × Adds block was now)) × (n.given ≡ m.given)
PutsAnswer m block (Err Memory) n = (n.blocks ≡ m.blocks) × (n.given ≡ m.given)

-- a put: its answer, and that it keeps what is held
pub record Puts (m : Moment) (block : List ℕ) (result : Result (Option (List ℕ)) EdgeErr) (n : Moment) : Type 0 where
  pub answer : PutsAnswer m block result n
  pub later : Later m n
  pub gets : n.gets ≡ m.gets
  pub puts : n.puts ≡ bumped m.puts
