-- An edit of the part at a path of a block that stands by itself: what it makes of the value, and the data before and after.
use Rattle.std.specs.Prelude.{◌≡◌, ℕ, Bool, List, Some, Ok}
use Rattle.ild_cbor.specs.Block.{IsBlockOf}
use Rattle.ild_cbor.specs.Nodes.{IsRoot, HasData}
use Rattle.ild_cbor.specs.declared.node.Node.{Node}
use Rattle.ild_cbor.specs.declared.piece.Piece.TheVariants as P
use Rattle.ild_data.specs.Data.{Data}
use Rattle.ild_path_edits.specs.Edit.{Edit, change, del_at, ins_at, new_slot, set_at}
use Rattle.ild_path_block.specs.declared.edit.PartEdit.{PartEdit}
use Rattle.ild_path_block.specs.declared.edit.PartEdit.TheVariants as E
use Rattle.ild_schema.specs.Value.{Value}
use Rattle.ild_schema.specs.declared.number.Slot.{Slot}
use Rattle.ild_schema.specs.declared.row.Row.{Row}
use Rattle.ild_typed.specs.At.{InSlot}
use Rattle.ild_typed.specs.Fits.{Front}
use Rattle.ild_typed.specs.Hamt.{alone}
use Rattle.ild_typed.specs.OfType.{OfType, TestsKeys}
use Rattle.ild_typed.specs.Represented.{represented}
use Rattle.ild_view.specs.View.{Views, piece_of, slot_of, table_of}
use Rattle.ild_view.specs.declared.view.View.{View}

-- the view of a whole block, that of the data t, whose front is f
pub record IsRootView (v : View) (f : Value) (t : Data) : Type 0 where
  pub node : Node
  pub piece : piece_of v ≡ Some (P.Node node)
  pub block : List ℕ
  pub spelled : IsBlockOf block t
  pub root : IsRoot node block t
  pub room : ℕ
  pub front : Front (table_of v) room (slot_of v) f t

-- what a check answers of the node of a whole block is such a view, of a front of the block's data
abbrev pub RootsAreViewed : Type 0
RootsAreViewed = (rows : List Row) (room : ℕ) (s : Slot) (n : Node) (b : List ℕ) (t : Data) (v : View) → IsBlockOf b t → IsRoot n b t → Views rows room s n t (Ok v) → (f : Value) × IsRootView v f t

-- with w as the new part
abbrev pub edit_of : PartEdit → Value → List (List ℕ) → Edit Value
edit_of (E.Set n) w path = set_at path w
edit_of (E.Insert n) w path = ins_at path w
edit_of E.Delete w path = del_at path

-- the node is the item of w in this slot
pub record IsPartItem (rows : List Row) (slot : Slot) (n : Node) (w : Value) : Type 0 where
  pub fits : OfType rows slot w
  pub tree : Data
  pub tree_is : represented alone rows slot w ≡ Some tree
  pub stands : HasData n tree

-- what an edit brings is w, of the slot to which it goes
abbrev pub BringsPart : List Row → InSlot → List (List ℕ) → PartEdit → Value → Type 0
BringsPart rows p path (E.Set n) w = (slot : Slot) → new_slot rows p (set_at path w) ≡ Some slot → IsPartItem rows slot n w
BringsPart rows p path (E.Insert n) w = (slot : Slot) → new_slot rows p (ins_at path w) ≡ Some slot → IsPartItem rows slot n w
BringsPart rows p path E.Delete w = Unit {0}

-- the edit makes this of a value, at a path of it
abbrev pub EditMakes : List Row → (ℕ → List ℕ → Bool) → PartEdit → Value → InSlot → List (List ℕ) → Value → Type 0
EditMakes rows is_key edit w p path c = change rows is_key p (edit_of edit w path) ≡ Ok c

-- the edit at a path makes c of the block's value f, and u of its data t
pub record EditsPart (is_key : ℕ → List ℕ → Bool) (v : View) (path : List (List ℕ)) (edit : PartEdit) (f w c : Value) (t u : Data) : Type 0 where
  pub keys : TestsKeys (table_of v) is_key
  pub root : IsRootView v f t
  pub brings : BringsPart (table_of v) (slot_of v, f) path edit w
  pub makes : EditMakes (table_of v) is_key edit w (slot_of v, f) path c
  pub shown : represented alone (table_of v) (slot_of v) c ≡ Some u

-- the whole value is set to one with the data u
abbrev pub IsNewRoot : PartEdit → Data → Type 0
IsNewRoot (E.Set n) u = HasData n u
IsNewRoot (E.Insert n) u = ⊥
IsNewRoot E.Delete u = ⊥
