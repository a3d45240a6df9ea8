-- Root blocks: the value that their data represent is the one that stands under their id.
use Rattle.std.specs.Prelude.{◌≡◌, ℕ, ◌+◌, ◌≤◌, List, length, Option, Some}
use Rattle.ild_data.specs.Data.{Data}
use Rattle.ild_data.specs.Limits.{deepest, longest_block}
use Rattle.ild_data.specs.Spell.{id_of, spell}
use Rattle.ild_schema.specs.declared.number.TypeNo.{TypeNo}
use Rattle.ild_schema.specs.declared.row.Row.{Row}
use Rattle.ild_schema.specs.Slots.{plainly}
use Rattle.ild_schema.specs.Value.{Value}
use Rattle.ild_typed.specs.Blocks.{nodes}
use Rattle.ild_typed.specs.Stands.{Stands, bare, blocks_of}
use Rattle.ild_open_held.specs.Held.{IsHeld}

-- the value of the data of a held block stands under the block's id
abbrev pub HeldStand : Type 0
HeldStand =
    (block : List ℕ → Option (List ℕ)) (h : List ℕ → List ℕ) (rows : List Row) (n : TypeNo) (t : Data) (v : Value)
    → length (spell t) ≤ longest_block → block (id_of (spell t)) ≡ Some (spell t) → IsHeld block h rows deepest (plainly n) t v → Stands bare block h rows n (id_of (spell t)) v

-- of a value that stands the root block is held, which represents it, and it has one block more than nodes
pub record IsRooted (block : List ℕ → Option (List ℕ)) (h : List ℕ → List ℕ) (rows : List Row) (n : TypeNo) (id : List ℕ) (v : Value) (t : Data) : Type 0 where
  pub held : IsHeld block h rows deepest (plainly n) t v
  pub there : block id ≡ Some (spell t)
  pub many : length (blocks_of bare h rows n v t) ≡ 1 + length (nodes h rows (plainly n) v)

abbrev pub StandingAreHeld : Type 0
StandingAreHeld =
    (block : List ℕ → Option (List ℕ)) (h : List ℕ → List ℕ) (rows : List Row) (n : TypeNo) (id : List ℕ) (v : Value) (st : Stands bare block h rows n id v) → IsRooted block h rows n id v st.tree
