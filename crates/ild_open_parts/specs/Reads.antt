-- What readers answer of data in a slot, and of several parts in turn: the values that follow from the blocks that gets gave.
use Rattle.std.specs.Prelude.{◌≡◌, ℕ, ◌+◌, ◌≤◌, Bool, true, List, length, Some, Result, Ok, Err, Contains}
use Rattle.ild_cbor.specs.declared.why.BlockWhy.{BlockWhy}
use Rattle.ild_edges.specs.Count.{Rose}
pub use Rattle.ild_edges.specs.Gained.{FromBlocks, OnlyReads}
use Rattle.ild_edges.specs.Store.{Moment, block_at}
use Rattle.ild_schema.specs.Value.{Value}
use Rattle.ild_schema.specs.ValueSeen.{value_of}
use Rattle.ild_schema.specs.declared.row.Row.{Row}
use Rattle.ild_schema.specs.declared.val.Val.{Val}
use Rattle.ild_typed.specs.Blocks.{nodes}
use Rattle.ild_open_held.specs.Held.{IsHeld}
use Rattle.ild_open_held.specs.Splits.{PartsHaveValues, Part, nodes_in}
use Rattle.ild_open_parts.specs.Broken.{HasBrokenBlock}
use Rattle.ild_open_parts.specs.declared.fault.OpenFault.{OpenFault}
use Rattle.ild_open_parts.specs.declared.fault.OpenFault.TheVariants as F

-- what is said of the fault of a reader: where a block is refused, that nothing is held, and what is wrong with the block of an id
abbrev pub Stops : Type 0 → (List ℕ → BlockWhy → Type 0) → Moment → OpenFault → Moment → Type 0
Stops None Broken m (F.Block id why) n = None × Broken id.0 why
Stops None Broken m F.Store n = Rose m.faults n.faults
Stops None Broken m F.Memory n = Unit {0}

-- ---- data in a slot

-- the value, which is kept where it is to be
pub record HasValue (h : List ℕ → List ℕ) (rows : List Row) (room : ℕ) (p : Part) (keep : Bool) (held : List (List ℕ)) (val : Val) : Type 0 where
  pub value : Value
  pub is : IsHeld (block_at held) h rows room p.0 p.1 value
  pub kept : keep ≡ true → value_of val ≡ value

abbrev pub NoValue : (List ℕ → List ℕ) → List Row → ℕ → Part → Moment → Type 0
NoValue h rows room p m = (held : List (List ℕ)) (v : Value) → m.blocks ≡ Some held → IsHeld (block_at held) h rows room p.0 p.1 v → ⊥

-- something is wrong in the data, which stand in the block `at`
abbrev pub BrokenPart : (List ℕ → List ℕ) → List ℕ → List Row → ℕ → Part → Moment → Moment → List ℕ → BlockWhy → Type 0
BrokenPart h at rows room p m n id why = HasBrokenBlock h rows m.blocks m.lacks n.lacks at room p.0 p.1 id why

abbrev pub ReadAnswer : (List ℕ → List ℕ) → List ℕ → List Row → ℕ → Part → Bool → Moment → Result Val OpenFault → Moment → Type 0
ReadAnswer h at rows room p keep m (Ok val) n = FromBlocks n (λ held. HasValue h rows room p keep held val)
ReadAnswer h at rows room p keep m (Err e) n = Stops (NoValue h rows room p m) (BrokenPart h at rows room p m n) m e n

pub record Reads (h : List ℕ → List ℕ) (at : List ℕ) (rows : List Row) (room : ℕ) (p : Part) (keep : Bool) (m : Moment) (result : Result Val OpenFault) (n : Moment) : Type 0 where
  pub answer : ReadAnswer h at rows room p keep m result n
  pub only : OnlyReads m n
  pub gets : (held : List (List ℕ)) (v : Value) → m.blocks ≡ Some held → IsHeld (block_at held) h rows room p.0 p.1 v → n.gets ≤ m.gets + length (nodes h rows p.0 v)

-- ---- parts in turn

-- values for them; of those that are to be kept, what is said
pub record HasValues (h : List ℕ → List ℕ) (rows : List Row) (room : ℕ) (ps : List Part) (keep : Bool) (held : List (List ℕ)) (Kept : List Value → Type 0) : Type 0 where
  pub values : List Value
  pub are : PartsHaveValues (block_at held) h rows room ps values
  pub kept : keep ≡ true → Kept values

-- so far these parts were read
pub record HasRead (h : List ℕ → List ℕ) (rows : List Row) (room : ℕ) (ps : List Part) (keep : Bool) (Kept : List Value → Type 0) (m n : Moment) : Type 0 where
  pub found : FromBlocks n (λ held. HasValues h rows room ps keep held Kept)
  pub only : OnlyReads m n
  pub gets : (held : List (List ℕ)) (vs : List Value) → m.blocks ≡ Some held → PartsHaveValues (block_at held) h rows room ps vs → n.gets ≤ m.gets + nodes_in h rows ps vs

abbrev pub NoValues : (List ℕ → List ℕ) → List Row → ℕ → List Part → Moment → Type 0
NoValues h rows room ps m = (held : List (List ℕ)) (vs : List Value) → m.blocks ≡ Some held → PartsHaveValues (block_at held) h rows room ps vs → ⊥

-- something is wrong in the data of one of them
abbrev pub BrokenParts : (List ℕ → List ℕ) → List ℕ → List Row → ℕ → List Part → Moment → Moment → List ℕ → BlockWhy → Type 0
BrokenParts h at rows room ps m n id why = (p : Part) × Contains ps p × BrokenPart h at rows room p m n id why

abbrev pub PartsAnswer : (List ℕ → List ℕ) → List ℕ → List Row → ℕ → List Part → Bool → (List Value → Value) → Moment → Result Val OpenFault → Moment → Type 0
PartsAnswer h at rows room ps keep make m (Ok val) n = FromBlocks n (λ held. HasValues h rows room ps keep held (λ vs. value_of val ≡ make vs))
PartsAnswer h at rows room ps keep make m (Err e) n = Stops (NoValues h rows room ps m) (BrokenParts h at rows room ps m n) m e n

-- all of them are read, and the whole is made of their values
pub record ReadsParts (h : List ℕ → List ℕ) (at : List ℕ) (rows : List Row) (room : ℕ) (ps : List Part) (keep : Bool)
    (make : List Value → Value) (m : Moment) (result : Result Val OpenFault) (n : Moment) : Type 0 where
  pub answer : PartsAnswer h at rows room ps keep make m result n
  pub only : OnlyReads m n
  pub gets : (held : List (List ℕ)) (vs : List Value) → m.blocks ≡ Some held → PartsHaveValues (block_at held) h rows room ps vs → n.gets ≤ m.gets + nodes_in h rows ps vs
