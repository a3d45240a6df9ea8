-- What an edit through HAMTs brings, and that it makes of the value.
use Rattle.std.specs.Prelude.{◌≡◌, ℕ, Bool, List, [], ◌∷◌, Some, Ok}
use Rattle.ild_cbor.specs.Nodes.{HasData}
use Rattle.ild_cbor.specs.declared.node.Node.{Node}
use Rattle.ild_data.specs.Data.{Data}
use Rattle.ild_edges.specs.Store.{block_at}
use Rattle.ild_schema.specs.Clear.{IsSafe}
use Rattle.ild_schema.specs.declared.number.Slot.{Slot}
use Rattle.ild_schema.specs.declared.row.Row.{Row}
use Rattle.ild_schema.specs.Value.{Value}
use Rattle.ild_typed.specs.At.{InSlot}
use Rattle.ild_typed.specs.Fits.{Fits}
use Rattle.ild_typed.specs.Hamt.{whole}
use Rattle.ild_typed.specs.Represented.{represented}
use Rattle.ild_open_held.specs.Held.{IsHeld}
use Rattle.ild_path_edits.specs.Edit.{change, ins_at, new_slot, set_at}
use Rattle.ild_path_block.specs.Edits.{edit_of}
use Rattle.ild_path_block.specs.declared.edit.PartEdit.{PartEdit}
use Rattle.ild_path_block.specs.declared.edit.PartEdit.TheVariants as E

-- the item stands for w, a value of the slot all of whose nodes are held
pub record IsPartHeld (h : List ℕ → List ℕ) (rows : List Row) (was : List (List ℕ)) (slot : Slot) (n : Node) (w : Value) : Type 0 where
  pub safe : IsSafe rows slot
  pub room : ℕ
  pub tree : Data
  pub held : IsHeld (block_at was) h rows room slot tree w
  pub stands : HasData n tree

-- the part that an edit brings to its slot
abbrev pub BringsHeld : (List ℕ → List ℕ) → List Row → List (List ℕ) → InSlot → List (List ℕ) → PartEdit → Value → Type 0
BringsHeld h rows was p path (E.Set n) w = (slot : Slot) → new_slot rows p (set_at path w) ≡ Some slot → IsPartHeld h rows was slot n w
BringsHeld h rows was p path (E.Insert n) w = (slot : Slot) → new_slot rows p (ins_at path w) ≡ Some slot → IsPartHeld h rows was slot n w
BringsHeld h rows was p path E.Delete w = Unit {0}

-- the edit makes c of the value p, which has the data u and fits in the room
pub record IsChange (h : List ℕ → List ℕ) (rows : List Row) (is_key : ℕ → List ℕ → Bool) (was : List (List ℕ))
    (room : ℕ) (p : InSlot) (path : List (List ℕ)) (edit : PartEdit) (w c : Value) (u : Data) : Type 0 where
  pub brings : BringsHeld h rows was p path edit w
  pub makes : change rows is_key p (edit_of edit w path) ≡ Ok c
  pub tree : represented (whole h) rows p.0 c ≡ Some u
  pub fits : Fits rows room p.0 c

-- a whole value can be set, and else there is a last segment
abbrev pub HasEnd : PartEdit → List (List ℕ) → Type 0
HasEnd (E.Set n) path = Unit {0}
HasEnd (E.Insert n) [] = ⊥
HasEnd (E.Insert n) (s ∷ ss) = Unit {0}
HasEnd E.Delete [] = ⊥
HasEnd E.Delete (s ∷ ss) = Unit {0}
