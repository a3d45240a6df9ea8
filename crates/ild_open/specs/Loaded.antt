-- What loading a view answers: the value at it, which follows from the blocks that gets gave, or the block for which there is none.
use Rattle.std.specs.Prelude.{◌≡◌, ℕ, ◌+◌, ◌≤◌, List, length, Some, Result, Ok, Err}
use Rattle.ild_data.specs.Data.{Data}
use Rattle.ild_edges.specs.Gained.{FromBlocks}
use Rattle.ild_edges.specs.Count.{Rose}
use Rattle.ild_edges.specs.Store.{Moment, block_at}
use Rattle.ild_schema.specs.Value.{Value}
use Rattle.ild_schema.specs.ValueSeen.{value_of}
use Rattle.ild_schema.specs.declared.val.Val.{Val}
use Rattle.ild_typed.specs.Blocks.{nodes}
use Rattle.ild_view.specs.Body.{BodyStands}
use Rattle.ild_view.specs.View.{body_of, slot_of, table_of}
use Rattle.ild_view.specs.declared.view.View.{View}
use Rattle.ild_open_held.specs.Held.{IsHeld}
use Rattle.ild_open_held.specs.Splits.{HasFront}
use Rattle.ild_open_parts.specs.Reads.{BrokenPart, OnlyReads}
use Rattle.ild_open_parts.specs.declared.fault.OpenFault.{OpenFault}
use Rattle.ild_open_parts.specs.declared.fault.OpenFault.TheVariants as F

-- the view shows these data, whose front nests so many levels at most
pub record IsShown (room : ℕ) (view : View) (t : Data) : Type 0 where
  pub stands : BodyStands (table_of view) (body_of view) t
  pub front : HasFront (table_of view) room (slot_of view, t)

-- there are such data
pub record IsShallow (room : ℕ) (view : View) : Type 0 where
  pub tree : Data
  pub shown : IsShown room view tree

-- the value at the view that these data represent, which fits in the room, where a store holds these blocks
abbrev pub IsValueAt : (List ℕ → List ℕ) → List (List ℕ) → ℕ → View → Data → Value → Type 0
IsValueAt h held room view t v = IsHeld (block_at held) h (table_of view) room (slot_of view) t v

-- of data that stand in the block `at`: a block is refused where something is wrong with a HAMT in them
abbrev pub LoadAnswer : (List ℕ → List ℕ) → ℕ → View → List ℕ → Moment → Data → Result Val OpenFault → Moment → Type 0
LoadAnswer h room view at m t (Ok val) n = FromBlocks n (λ held. IsValueAt h held room view t (value_of val))
LoadAnswer h room view at m t (Err (F.Block id why)) n =
    ((held : List (List ℕ)) (v : Value) → m.blocks ≡ Some held → IsValueAt h held room view t v → ⊥) × BrokenPart h at (table_of view) room (slot_of view, t) m n id.0 why
LoadAnswer h room view at m t (Err F.Store) n = Rose m.faults n.faults
LoadAnswer h room view at m t (Err F.Memory) n = Unit {0}

-- the value at a view, in the block `at`, is loaded: by gets alone, no more of them than it has nodes of HAMTs
pub record Loads (h : List ℕ → List ℕ) (room : ℕ) (view : View) (at : List ℕ) (m : Moment) (result : Result Val OpenFault) (n : Moment) : Type 0 where
  pub answer : (t : Data) → IsShown room view t → LoadAnswer h room view at m t result n
  pub only : OnlyReads m n
  pub gets : (t : Data) (held : List (List ℕ)) (v : Value) → IsShown room view t → m.blocks ≡ Some held → IsValueAt h held room view t v
      → n.gets ≤ m.gets + length (nodes h (table_of view) (slot_of view) v)
