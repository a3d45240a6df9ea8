-- Laws for callers that make the items of the holders along a path, from the last one up.
use Rattle.std.specs.Prelude.{◌≡◌, ◌≤◌, ℕ, true, List, [], ◌∷◌, Option, Some, None, Result, Ok}
use Rattle.ild_cbor.specs.Block.{IsBlockOf}
use Rattle.ild_cbor.specs.Nodes.{HasData}
use Rattle.ild_cbor.specs.declared.node.Node.{Node}
use Rattle.ild_data.specs.Data.{Data, depth}
use Rattle.ild_data.specs.Limits.{deepest}
use Rattle.ild_path_block.specs.Changes.{Allows, in_last}
use Rattle.ild_path_block.specs.Items.{ItemOf, MakesItem, MakesNone, is_refusing}
use Rattle.ild_path_block.specs.declared.edit.PartEdit.{PartEdit}
use Rattle.ild_path_block.specs.declared.edit.PartEdit.TheVariants as E
use Rattle.ild_path_holder.specs.Along.{is_holder}
use Rattle.ild_schema.specs.Slots.{form_of}
use Rattle.ild_schema.specs.Value.{Value}
use Rattle.ild_schema.specs.declared.row.Row.{Row}
use Rattle.ild_splice.specs.declared.error.SpliceErr.{SpliceErr}
use Rattle.ild_typed.specs.At.{InSlot, changed_in, seen}
use Rattle.ild_typed.specs.Hamt.{alone}
use Rattle.ild_typed.specs.Holder.{Holder}
use Rattle.ild_typed.specs.OfType.{OfType}
use Rattle.ild_typed.specs.Represented.{represented}
use Rattle.ild_typed.specs.Schema.{IsSchema}
use Rattle.ild_typed.specs.Segment.{part}

-- what is asked of a holder, and of an edit of its part
pub record MayEdit (rows : List Row) (h : Holder) (s : List ℕ) (n : Node) (c : Value) : Type 0 where
  pub holds : is_holder h ≡ true
  pub allows : Allows rows (E.Set n) h s c

-- a part q that is there may be set to what it becomes, by an item of that
abbrev pub PartsAreSet : Type 0
PartsAreSet = (rows : List Row) → IsSchema rows → (p q : InSlot) (s : List ℕ) (c : Value) (d : Data) (n : Node)
    → OfType rows p.0 p.1 → part (seen rows p) s ≡ Some q → OfType rows q.0 c → represented alone rows q.0 c ≡ Some d → HasData n d
    → MayEdit rows (seen rows p) s n c

-- the item of what a holder p is changed to along a path, which changes its last holder by f
pub record ItemAlong (rows : List Row) (f : Holder → List ℕ → Holder) (p : InSlot) (s : List ℕ) (ss : List (List ℕ)) (result : Result (Option (List ℕ)) SpliceErr) : Type 0 where
  pub made : (u : Data) → represented alone rows p.0 (changed_in rows f p s ss) ≡ Some u → MakesItem u result
  pub refused : is_refusing (form_of rows p.0) ≡ true → represented alone rows p.0 (changed_in rows f p s ss) ≡ None → MakesNone result

-- at the last holder it is the item of what that becomes by the edit
abbrev pub ItemsBegin : Type 0
ItemsBegin = (rows : List Row) (edit : PartEdit) (w : Value) (q : InSlot) (s : List ℕ) (result : Result (Option (List ℕ)) SpliceErr)
    → ItemOf rows edit w q s result → ItemAlong rows (in_last edit w).made q s [] result

-- above it is the item of what a holder becomes where its part q is set to what that is changed to along the rest of the path
abbrev pub ItemsGoUp : Type 0
ItemsGoUp = (rows : List Row) (f : Holder → List ℕ → Holder) (p q : InSlot) (s t : List ℕ) (ss : List (List ℕ)) (n : Node) (result : Result (Option (List ℕ)) SpliceErr) → part (seen rows p) s ≡ Some q
    → ItemOf rows (E.Set n) (changed_in rows f q t ss) p s result → ItemAlong rows f p s (t ∷ ss) result

-- an item that nests no deeper than a block may is a block
abbrev pub ItemsAreBlocks : Type 0
ItemsAreBlocks = (rows : List Row) → IsSchema rows → (q : InSlot) (u : Data) (b : List ℕ) → OfType rows q.0 q.1
    → represented alone rows q.0 q.1 ≡ Some u → depth u ≤ deepest → MakesItem u (Ok (Some b)) → IsBlockOf b u
