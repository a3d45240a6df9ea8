-- The blocks of a value of a type, and the value that stands under an id in a store (IPLD HashMap; DAG-CBOR).
use Rattle.std.specs.Prelude.{◌≡◌, ℕ, ◌≤◌, List, [], ◌∷◌, ◌++◌, length, Option, Some}
use Rattle.std.specs.List.{AllByRecursion}
use Rattle.ild_data.specs.Among.{AreUnderIds}
use Rattle.ild_data.specs.Data.{Data}
use Rattle.ild_data.specs.Limits.{deepest, longest_block}
use Rattle.ild_data.specs.Spell.{spell, id_of}
use Rattle.ild_schema.specs.declared.number.TypeNo.{TypeNo}
use Rattle.ild_schema.specs.declared.row.Row.{Row}
use Rattle.ild_schema.specs.Value.{Value}
use Rattle.ild_schema.specs.Slots.{plainly}
use Rattle.ild_typed.specs.Hamt.{whole}
use Rattle.ild_typed.specs.Represented.{represented}
use Rattle.ild_typed.specs.Fits.{Fits}
use Rattle.ild_typed.specs.Blocks.{nodes}
use Rattle.ild_typed.specs.Nested.{TreeIn, IsBlock}

-- The frame of a root: the room that it leaves to the value, the data of the root block over the value's own, and the blocks
-- that the root names beside the value's.
pub record Frame : Type 0 where
  pub room : ℕ
  pub wrap : Data → Data
  pub beside : List (List ℕ)

-- a bare root: the representation itself
abbrev pub bare : Frame
bare = record { room = deepest; wrap = λ d. d; beside = [] }

-- a frame keeps data apart, and what it makes of a tree that fits in its room is a tree that a block can hold
pub record IsFrame (f : Frame) : Type 0 where
  pub less : f.room ≤ deepest
  pub apart : (c d : Data) → f.wrap c ≡ f.wrap d → c ≡ d
  pub fits : (d : Data) → TreeIn f.room d → TreeIn deepest (f.wrap d)
  pub blocks : AllByRecursion IsBlock f.beside

-- the blocks of a value that these data represent, the root block first
abbrev pub blocks_of : Frame → (List ℕ → List ℕ) → List Row → TypeNo → Value → Data → List (List ℕ)
blocks_of f h rows n v d = spell (f.wrap d) ∷ (nodes h rows (plainly n) v ++ f.beside)

-- the id of the root block
abbrev pub root_id : Frame → Data → List ℕ
root_id f d = id_of (spell (f.wrap d))

-- a value that a store can hold
pub record Storable (f : Frame) (h : List ℕ → List ℕ) (rows : List Row) (n : TypeNo) (v : Value) (d : Data) : Type 0 where
  pub fits : Fits rows f.room (plainly n) v
  pub tree : represented (whole h) rows (plainly n) v ≡ Some d
  pub sized : AllByRecursion (λ b. length b ≤ longest_block) (blocks_of f h rows n v d)

-- the value under an id, where block is what a store answers for an id: each of the value's blocks under its own
pub record Stands (f : Frame) (block : List ℕ → Option (List ℕ)) (h : List ℕ → List ℕ) (rows : List Row) (n : TypeNo) (id : List ℕ) (v : Value) : Type 0 where
  pub tree : Data
  pub storable : Storable f h rows n v tree
  pub root : id ≡ root_id f tree
  pub all : AreUnderIds block (blocks_of f h rows n v tree)
