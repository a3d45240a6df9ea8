-- What building the blocks of a typed value gives, and what it leaves in a store (IPLD Schemas, "Representation Strategies"; DAG-CBOR;
-- IPLD HashMap).
use Rattle.std.specs.Prelude.{◌≡◌, ◌⊎◌, ℕ, ◌+◌, ◌≤◌, true, List, [], ◌∷◌, length, map, Some, Result, Ok, Err, Contains}
use Rattle.std.specs.List.{AllByRecursion}
use Rattle.ild_data.specs.Data.{Data}
use Rattle.ild_data.specs.Limits.{longest_block}
use Rattle.ild_data.specs.Spell.{spell, id_of}
use Rattle.ild_edges.specs.Collide.{Collide}
use Rattle.ild_edges.specs.Count.{Rose}
pub use Rattle.ild_edges.specs.Gained.{AddsOnly, Holds}
use Rattle.ild_edges.specs.Store.{Moment, Later}
use Rattle.ild_edges.specs.Told.{BothTold}
use Rattle.ild_bulk.specs.Children.{AddsLinked}
use Rattle.ild_bulk.specs.Putting.{GivesAll}
use Rattle.ild_schema.specs.declared.number.Slot.{Slot}
use Rattle.ild_schema.specs.declared.row.Row.{Row}
use Rattle.ild_schema.specs.Value.{Value}
use Rattle.ild_typed.specs.Blocks.{nodes}
use Rattle.ild_typed_places.specs.Places.{places_in}
use Rattle.ild_bulk_places.specs.Leaving.{AddsPlaced}
use Rattle.ild_typed.specs.Hamt.{whole}
use Rattle.ild_typed.specs.Judged.{exhausts, IsTooLong}
use Rattle.ild_typed.specs.Represented.{represented}
use Rattle.ild_build_blocks.specs.declared.fault.BuildFault.{BuildFault}
use Rattle.ild_build_blocks.specs.declared.fault.BuildFault.TheVariants as B

-- ---- the blocks of a value

-- all of its blocks: that of its representation, and those of the nodes of its HAMTs
abbrev pub blocks_of : (List ℕ → List ℕ) → List Row → Slot → Value → Data → List (List ℕ)
blocks_of h rows slot v d = spell d ∷ nodes h rows slot v

-- it has a representation, and none of its blocks is too long
pub record HasBlocks (h : List ℕ → List ℕ) (rows : List Row) (slot : Slot) (v : Value) : Type 0 where
  pub tree : Data
  pub represented : represented (whole h) rows slot v ≡ Some tree
  pub sized : AllByRecursion (λ b. length b ≤ longest_block) (blocks_of h rows slot v tree)

-- ---- what a store holds

-- a block that is held collides with one of these, under this id
pub record CollidesUnder (m : Moment) (blocks : List (List ℕ)) (id kept new : List ℕ) : Type 0 where
  pub held : Holds m (kept ∷ [])
  pub among : Contains blocks new
  pub named : id_of new ≡ id
  pub collide : Collide kept new

-- some of these blocks were put, by one put each at most, and nothing else; and each that came has its children held
pub record PutsSome (m : Moment) (blocks : List (List ℕ)) (n : Moment) : Type 0 where
  pub later : Later m n
  pub gets : n.gets ≡ m.gets
  pub puts : n.puts ≤ m.puts + length blocks
  pub adds : AddsOnly m n blocks
  pub children : BothTold m.blocks n.blocks AddsLinked

-- ---- the answer

-- the block of the representation; the others are held, and their ids are given, and no further ones
pub record IsBuilt (h : List ℕ → List ℕ) (rows : List Row) (slot : Slot) (v : Value) (m : Moment) (b : List ℕ) (n : Moment) : Type 0 where
  pub has : HasBlocks h rows slot v
  pub spelled : b ≡ spell has.tree
  pub held : Holds n (nodes h rows slot v)
  pub given : BothTold m.given n.given (GivesAll (map id_of (nodes h rows slot v)))

abbrev pub BuildAnswer : (List ℕ → List ℕ) → List Row → Slot → Value → Moment → Result (List ℕ) BuildFault → Moment → Type 0
BuildAnswer h rows slot v m (Ok b) n = IsBuilt h rows slot v m b n
BuildAnswer h rows slot v m (Err B.Exhausted) n = (exhausts h rows slot v ≡ true) × (n ≡ m)
BuildAnswer h rows slot v m (Err B.Size) n = IsTooLong h rows slot v × (n ≡ m)
BuildAnswer h rows slot v m (Err B.Store) n = Rose m.faults n.faults × HasBlocks h rows slot v
BuildAnswer h rows slot v m (Err (B.Clash id kept new)) n = CollidesUnder n (nodes h rows slot v) id.0 kept new × HasBlocks h rows slot v
BuildAnswer h rows slot v m (Err B.Memory) n = (n ≡ m) ⊎ HasBlocks h rows slot v

-- From the moment m of a store, a value is built into the block of its representation, or not; and of its other blocks some are put.
pub record Builds (h : List ℕ → List ℕ) (rows : List Row) (slot : Slot) (v : Value) (m : Moment) (result : Result (List ℕ) BuildFault) (n : Moment) : Type 0 where
  pub answer : BuildAnswer h rows slot v m result n
  pub steps : PutsSome m (nodes h rows slot v) n
  -- and each that came has all its children held, those of one of its places, the nodes of HAMTs in the values of its buckets too
  pub children : BothTold m.blocks n.blocks (AddsPlaced (places_in h rows slot v))
