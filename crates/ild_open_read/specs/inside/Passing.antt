-- A HAMT of which nothing is kept.
use Rattle.std.specs.Prelude.{◌≡◌, ◌+◌, ◌≤◌, ℕ, Bool, false, List, Some, Result}
use Rattle.ild_data.specs.Data.{Data}
use Rattle.ild_data.specs.Trie.{TrieSlot}
use Rattle.ild_data.specs.declared.hamt_shape.HamtShape.{HamtShape}
use Rattle.ild_edges.specs.Store.{Moment}
use Rattle.ild_node_slots.specs.Views.{HasSlots}
use Rattle.ild_node_slots.specs.declared.view.NodeView.{NodeView}
use Rattle.ild_typed.specs.Node.{IsRoot}
use Rattle.ild_cbor.specs.declared.piece.Piece.{Piece}
use Rattle.ild_data.specs.Limits.{deepest}
use Rattle.ild_layer_piece.specs.Pieces.{StandsFor}
use Rattle.ild_schema.specs.Slots.{form_of}
use Rattle.ild_schema.specs.declared.def.MapForm.TheVariants as MF
use Rattle.ild_schema.specs.declared.def.TypeDef.TheVariants as D
use Rattle.ild_schema.specs.declared.number.Slot.{Slot}
use Rattle.ild_schema.specs.declared.number.TypeNo.{TypeNo}
use Rattle.ild_schema.specs.declared.row.Row.{Row}
use Rattle.ild_schema.specs.declared.val.Val.{Val}
use Rattle.ild_typed.specs.Pieces.{is_null_there}
use Rattle.ild_open_parts.specs.Reads.{Reads}
use Rattle.ild_open_parts.specs.declared.fault.OpenFault.{OpenFault}

-- these data are the root of a HAMT, and the view that of its node
pub record IsRootView (p : HamtShape) (t : Data) (v : NodeView) : Type 0 where
  pub slots : List TrieSlot
  pub root : IsRoot p slots t
  pub has : HasSlots p v slots

-- the value of a slot whose data are the root of a HAMT, also where it isn't known that they have a front in the room
abbrev pub ReadsRoot : (List ℕ → List ℕ) → HamtShape → List ℕ → List Row → ℕ → Bool → TypeNo → Slot → Piece → Moment → Result Val OpenFault → Moment → Type 0
ReadsRoot h p at rows room keep key value piece m r n =
    (s : Slot) (t : Data) (key_at place whole : ℕ) → StandsFor rows piece t → form_of rows s ≡ Some (D.Map key key_at value place (MF.Hamt p)) → whole ≡ room + 5 → whole ≤ deepest
    → is_null_there s t ≡ false → Reads h at rows whole (s, t) keep m r n
