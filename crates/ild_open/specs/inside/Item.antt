-- What is loaded of data in a slot, in a room: the value, or the block for which there is none.
use Rattle.std.specs.Prelude.{◌≡◌, ◌+◌, ◌≤◌, ℕ, List, length, Some, Result, Ok, Err}
use Rattle.ild_cbor.specs.declared.piece.Piece.{Piece}
use Rattle.ild_cbor.specs.declared.why.BlockWhy.{BlockWhy}
use Rattle.ild_data.specs.Data.{Data}
use Rattle.ild_edges.specs.Gained.{FromBlocks}
use Rattle.ild_edges.specs.Store.{Moment, block_at}
use Rattle.ild_layer_piece.specs.Pieces.{StandsFor}
use Rattle.ild_schema.specs.Value.{Value}
use Rattle.ild_schema.specs.ValueSeen.{value_of}
use Rattle.ild_schema.specs.declared.number.Slot.{Slot}
use Rattle.ild_schema.specs.declared.row.Row.{Row}
use Rattle.ild_schema.specs.declared.val.Val.{Val}
use Rattle.ild_typed.specs.Blocks.{nodes}
use Rattle.ild_open_held.specs.Held.{IsHeld}
use Rattle.ild_open_held.specs.Splits.{HasFront}
use Rattle.ild_open_parts.specs.Reads.{BrokenPart, NoValue, OnlyReads, Stops}
use Rattle.ild_open_parts.specs.declared.fault.OpenFault.{OpenFault}

module _ (h : List ℕ → List ℕ) (rows : List Row) (room : ℕ) (s : Slot) where
  abbrev pub DataAnswer : (List ℕ → BlockWhy → Type 0) → Data → Moment → Result Val OpenFault → Moment → Type 0
  DataAnswer Stopped t m (Ok val) n = FromBlocks n (λ held. IsHeld (block_at held) h rows room s t (value_of val))
  DataAnswer Stopped t m (Err e) n = Stops (NoValue h rows room (s, t) m) Stopped m e n

  -- the value that the data represent is loaded; of a block that is refused, what is said
  pub record LoadsData (Stopped : List ℕ → BlockWhy → Type 0) (t : Data) (m : Moment) (result : Result Val OpenFault) (n : Moment) : Type 0 where
    pub answer : DataAnswer Stopped t m result n
    pub only : OnlyReads m n
    pub gets : (held : List (List ℕ)) (v : Value) → m.blocks ≡ Some held → IsHeld (block_at held) h rows room s t v → n.gets ≤ m.gets + length (nodes h rows s v)

  -- data that stand in no block by themselves: no block is refused
  pub record LoadsAlone (t : Data) (m : Moment) (result : Result Val OpenFault) (n : Moment) : Type 0 where
    pub only : OnlyReads m n
    pub loads : HasFront rows room (s, t) → LoadsData (λ id why. ⊥) t m result n

  -- those for which a piece stands
  pub record LoadsShown (piece : Piece) (Stopped : Data → List ℕ → BlockWhy → Type 0) (m : Moment) (result : Result Val OpenFault) (n : Moment) : Type 0 where
    pub only : OnlyReads m n
    pub each : (t : Data) → StandsFor rows piece t → HasFront rows room (s, t) → LoadsData (Stopped t) t m result n

  -- which are no list and no map
  abbrev pub LoadsFlat : Piece → Moment → Result Val OpenFault → Moment → Type 0
  LoadsFlat piece m r n = LoadsShown piece (λ t id why. ⊥) m r n

  -- which stand in the block `at`: a block is refused where something is wrong with a HAMT in the data
  abbrev pub LoadsPiece : List ℕ → Piece → Moment → Result Val OpenFault → Moment → Type 0
  LoadsPiece at piece m r n = LoadsShown piece (λ t id why. BrokenPart h at rows room (s, t) m n id why) m r n
