-- The value that data represent, where a store holds the nodes of its HAMTs (IPLD Schemas, "Representations"; IPLD HashMap).
use Rattle.std.specs.Prelude.{◌≡◌, ℕ, ◌≤◌, List, length, Option, Some}
use Rattle.std.specs.List.{AllByRecursion}
use Rattle.ild_data.specs.Data.{Data}
use Rattle.ild_data.specs.Limits.{longest_block}
use Rattle.ild_data.specs.Spell.{id_of}
use Rattle.ild_schema.specs.declared.number.Slot.{Slot}
use Rattle.ild_schema.specs.declared.row.Row.{Row}
use Rattle.ild_schema.specs.Value.{Value}
use Rattle.ild_typed.specs.Blocks.{nodes}
use Rattle.ild_typed.specs.Fits.{Fits}
use Rattle.ild_typed.specs.Hamt.{whole}
use Rattle.ild_typed.specs.Represented.{represented}

-- the block is held under its id, and no longer than a block may be
pub record IsHeldBlock (block : List ℕ → Option (List ℕ)) (b : List ℕ) : Type 0 where
  pub short : length b ≤ longest_block
  pub there : block (id_of b) ≡ Some b

-- the value of a slot that the data represent: it fits in the room, and each node of its HAMTs is held
pub record IsHeld (block : List ℕ → Option (List ℕ)) (h : List ℕ → List ℕ) (rows : List Row) (room : ℕ) (s : Slot) (t : Data) (v : Value) : Type 0 where
  pub fits : Fits rows room s v
  pub tree : represented (whole h) rows s v ≡ Some t
  pub held : AllByRecursion (IsHeldBlock block) (nodes h rows s v)
