-- What a store holds at a moment, and what came to it between two.
use Rattle.std.specs.Prelude.{◌≡◌, ◌≢◌, ◌⊎◌, ℕ, List, [], ◌∷◌, Option, Some, Ok, IsSome, Contains}
use Rattle.std.specs.List.{AllByRecursion}
use Rattle.ild_data.specs.Among.{AreUnderIds}
use Rattle.ild_data.specs.Bytes.{AreBytes}
use Rattle.ild_data.specs.Spell.{id_of}
use Rattle.ild_edges.specs.Collide.{Collide}
use Rattle.ild_edges.specs.Store.{Moment, Later, Gets, block_at}
use Rattle.ild_edges.specs.Told.{IfTold, BothTold}

-- each of these blocks is held under its id
abbrev pub AreHeld : List (List ℕ) → List (List ℕ) → Type 0
AreHeld blocks held = AreUnderIds (block_at held) blocks

-- a block under an id: the one that is held, where the store tells what it holds
pub record IsUnder (told : Option (List (List ℕ))) (id block : List ℕ) : Type 0 where
  pub named : id_of block ≡ id
  pub held : IfTold told (λ blocks. block_at blocks id ≡ Some block)

abbrev pub Holds : Moment → List (List ℕ) → Type 0
Holds m blocks = IfTold m.blocks (λ held. AreHeld blocks held)

-- the ids of these blocks are given
abbrev pub AreIdsGiven : List (List ℕ) → List (List ℕ) → Type 0
AreIdsGiven blocks given = AllByRecursion (λ b. Contains given (id_of b)) blocks

-- each block that is held now was held, or is one of these
abbrev pub CameFrom : List (List ℕ) → List (List ℕ) → List (List ℕ) → Type 0
CameFrom blocks was now = (id b : List ℕ) → block_at now id ≡ Some b → (block_at was id ≡ Some b) ⊎ Contains blocks b

-- the blocks that came are among these
abbrev pub AddsOnly : Moment → Moment → List (List ℕ) → Type 0
AddsOnly m n blocks = BothTold m.blocks n.blocks (λ was now. CameFrom blocks was now)

-- of a block's places, with the ids of its children at each, one has all of them held
pub record IsWhole (held : List (List ℕ)) (places : List (List (List ℕ))) : Type 0 where
  pub ids : List (List ℕ)
  pub place : Contains places ids
  pub children : AllByRecursion (λ id. IsSome (block_at held id)) ids

-- each block that is held now was held, or has its children held, those of one of its places
abbrev pub CameWhole : (List ℕ → List (List (List ℕ))) → List (List ℕ) → List (List ℕ) → Type 0
CameWhole children was now = (id b : List ℕ) → block_at now id ≡ Some b → (block_at was id ≡ Some b) ⊎ IsWhole now (children b)

abbrev pub AddsWhole : Moment → Moment → (List ℕ → List (List (List ℕ))) → Type 0
AddsWhole m n children = BothTold m.blocks n.blocks (λ was now. CameWhole children was now)

-- under this id other bytes are held than the new ones, which have it too
abbrev pub Clashes : Moment → List ℕ → List ℕ → List ℕ → Type 0
Clashes n id kept new = (id_of kept ≡ id) × (id_of new ≡ id) × (kept ≢ new) × IfTold n.blocks (λ held. block_at held id ≡ Some kept)

-- a block that is held collides with one of these
pub record Collides (m : Moment) (blocks : List (List ℕ)) : Type 0 where
  pub kept : List ℕ
  pub new : List ℕ
  pub held : Holds m (kept ∷ [])
  pub among : Contains blocks new
  pub collide : Collide kept new

-- gets alone
pub record OnlyReads (m n : Moment) : Type 0 where
  pub later : Later m n
  pub blocks : n.blocks ≡ m.blocks
  pub given : n.given ≡ m.given
  pub puts : n.puts ≡ m.puts

-- A get gave this block, and from then on until this moment nothing but gets was done. Where a store tells nothing this holds of any block
-- under its own hash, once a get was made.
pub record IsGot (n : Moment) (block : List ℕ) : Type 0 where
  pub before : Moment
  pub behind : Moment
  pub get : Gets before (id_of block) (Ok (Some block)) behind
  pub since : OnlyReads behind n

-- Something that was found out by gets, over every store: it holds wherever these blocks are held, each under its own id, which gets
-- gave. A store that tells what it holds has them among that.
pub record FromBlocks (n : Moment) (P : List (List ℕ) → Type 0) : Type 0 where
  pub blocks : List (List ℕ)
  pub bytes : AllByRecursion AreBytes blocks
  pub got : AllByRecursion (IsGot n) blocks
  pub so : (held : List (List ℕ)) → AreHeld blocks held → P held

-- two of these blocks collide
pub record HaveClash (blocks : List (List ℕ)) : Type 0 where
  pub kept : List ℕ
  pub new : List ℕ
  pub one : Contains blocks kept
  pub other : Contains blocks new
  pub collide : Collide kept new

-- blocks hold themselves, or two of them collide: so what follows from blocks holds of these, whatever the store does beside
abbrev pub BlocksHoldThemselves : Type 0
BlocksHoldThemselves = (blocks : List (List ℕ)) → AllByRecursion AreBytes blocks → AreHeld blocks blocks ⊎ HaveClash blocks
