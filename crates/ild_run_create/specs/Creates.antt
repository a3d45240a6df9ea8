-- What creating a value of a type from bytes leaves in a store.
use Rattle.std.specs.Prelude.{◌≡◌, ◌⊎◌, ℕ, ◌+◌, ◌≤◌, List, length, Some, Result, Ok, Err}
use Rattle.std.specs.List.{AllByRecursion}
use Rattle.ild_bulk_places.specs.Leaving.{HasPlaceHeld}
use Rattle.ild_typed_places.specs.Places.{places_in}
use Rattle.ild_data.specs.Data.{Data}
use Rattle.ild_data.specs.Spell.{spell, id_of}
use Rattle.ild_data.specs.declared.id.BlockId.{BlockId}
use Rattle.ild_edges.specs.Count.{Rose}
use Rattle.ild_edges.specs.Store.{Moment, Later, block_at}
use Rattle.ild_edges.specs.Told.{IfTold, BothTold}
use Rattle.ild_schema.specs.declared.number.TypeNo.{TypeNo}
use Rattle.ild_schema.specs.declared.row.Row.{Row}
use Rattle.ild_schema.specs.Slots.{plainly}
use Rattle.ild_schema.specs.Value.{Value}
use Rattle.ild_script_session.specs.Step.{AddsOnly, Collides}
use Rattle.ild_typed.specs.Blocks.{nodes}
use Rattle.ild_typed.specs.Stands.{bare, root_id, blocks_of, Stands}
use Rattle.ild_run_create.specs.Makes.{Makes}
use Rattle.ild_run_create.specs.Refuses.{IsFirst}
use Rattle.ild_run_create.specs.declared.fault.CreateFault.{CreateFault}
use Rattle.ild_run_create.specs.declared.fault.CreateFault.TheVariants as F

-- the block came as the root of the value that these data represent, the blocks of whose nodes are held, or as one of these, with its
-- children at one of its places held
abbrev pub HasChildren : (List ℕ → List ℕ) → List Row → TypeNo → Value → Data → List (List ℕ) → List ℕ → Type 0
HasChildren h rows n v d now b =
    ((b ≡ spell d) × AllByRecursion (λ x. block_at now (id_of x) ≡ Some x) (nodes h rows (plainly n) v)) ⊎ HasPlaceHeld (places_in h rows (plainly n) v) now b

-- the bytes make a value, and nothing was asked of the store but to keep its blocks, each by one put at most; and each that came has its
-- children held
pub record Tries (h : List ℕ → List ℕ) (rows : List Row) (n : TypeNo) (b : List ℕ) (m k : Moment) : Type 0 where
  pub value : Value
  pub tree : Data
  pub makes : Makes h rows n b value tree
  pub adds : AddsOnly m k (blocks_of bare h rows n value tree)
  pub children : BothTold m.blocks k.blocks (λ was now. (id x : List ℕ) → block_at now id ≡ Some x → (block_at was id ≡ Some x) ⊎ HasChildren h rows n value tree now x)
  pub gets : k.gets ≤ m.gets
  pub puts : k.puts ≤ m.puts + length (blocks_of bare h rows n value tree)

-- the value stands under the id of its root block
pub record Created (h : List ℕ → List ℕ) (rows : List Row) (n : TypeNo) (b : List ℕ) (m k : Moment) (id : List ℕ) : Type 0 where
  pub tried : Tries h rows n b m k
  pub root : id ≡ root_id bare tried.tree
  pub stands : IfTold k.blocks (λ held. Stands bare (block_at held) h rows n id tried.value)

-- a block of the value, with this id, collides with one that is held
pub record Clashes (h : List ℕ → List ℕ) (rows : List Row) (n : TypeNo) (b : List ℕ) (m k : Moment) (id : List ℕ) : Type 0 where
  pub tried : Tries h rows n b m k
  pub hit : Collides k (blocks_of bare h rows n tried.value tried.tree)
  pub named : id ≡ id_of hit.new

abbrev pub CreateAnswer : (List ℕ → List ℕ) → List Row → TypeNo → List ℕ → Moment → Result BlockId CreateFault → Moment → Type 0
CreateAnswer h rows n b m (Ok id) k = Created h rows n b m k id.0
CreateAnswer h rows n b m (Err (F.Refused r)) k = IsFirst h rows n b r × (k ≡ m)
CreateAnswer h rows n b m (Err F.Store) k = Rose m.faults k.faults × Tries h rows n b m k
CreateAnswer h rows n b m (Err (F.Clash id)) k = Clashes h rows n b m k id.0
CreateAnswer h rows n b m (Err F.Memory) k = (k ≡ m) ⊎ Tries h rows n b m k

pub record Creates (h : List ℕ → List ℕ) (rows : List Row) (n : TypeNo) (b : List ℕ) (m : Moment) (result : Result BlockId CreateFault) (k : Moment) : Type 0 where
  pub answer : CreateAnswer h rows n b m result k
  pub later : Later m k
