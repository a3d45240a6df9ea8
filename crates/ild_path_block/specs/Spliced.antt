-- What is answered of an edit in one block.
use Rattle.std.specs.Prelude.{◌≡◌, ◌<◌, ℕ, Bool, List, drop, length, Option, Some, None, Result, Ok, Err, take, [], false}
use Rattle.ild_splice_changes.specs.TreeChange.{TreeStep, applied as tree_with, changed, one, part_at, replace}
use Rattle.ild_cbor.specs.declared.node.Node.{Node}
use Rattle.ild_data.specs.Data.{Data}
use Rattle.ild_data.specs.Spell.{spell}
use Rattle.ild_path_changes.specs.LiftLaws.{edit_seen}
use Rattle.ild_path_block.specs.Edits.{EditMakes, edit_of}
use Rattle.ild_path_block.specs.declared.answer.Replaced.{Replaced}
use Rattle.ild_path_block.specs.declared.answer.Spliced.{Spliced}
use Rattle.ild_path_block.specs.declared.answer.Spliced.TheVariants as S
use Rattle.ild_path_block.specs.declared.edit.PartEdit.{PartEdit}
use Rattle.ild_schema.specs.Value.{Value}
use Rattle.ild_schema.specs.declared.row.Row.{Row}
use Rattle.ild_splice.specs.Made.{MakesBytes as MakesBlock}
use Rattle.ild_splice.specs.Splices.{IsAt}
use Rattle.ild_splice.specs.declared.error.SpliceErr.{SpliceErr}
use Rattle.ild_splice.specs.declared.error.SpliceErr.TheVariants.{Memory, Size}
use Rattle.ild_typed.specs.At.{InSlot, at}
use Rattle.ild_typed.specs.Hamt.{alone}
use Rattle.ild_typed.specs.Represented.{represented}
use Rattle.ild_path_apply.specs.Applies.{is_whole}
use Rattle.ild_path_block.specs.Changes.{IsReady}
use Rattle.ild_path_changes.specs.Lift.{lift_within}
use Rattle.ild_path_last.specs.Change.{NewIs, located}
use Rattle.ild_path_last.specs.declared.change.LastChange.{LastChange}
use Rattle.ild_path_replaced.specs.Seen.{all_steps}
use Rattle.ild_path_steps.specs.declared.steps.PartSteps.{PartSteps}

-- The holder to which so many segments of the path lead: what the edit at the others makes of it has data, the edit's one change in the
-- block's data t is that its item is replaced by them, and so t become u.
pub record IsReplaced (rows : List Row) (is_key : ℕ → List ℕ → Bool) (edit : PartEdit) (w : Value) (p : InSlot) (path : List (List ℕ)) (t u : Data) (r : Replaced) : Type 0 where
  pub holder : InSlot
  pub before : r.holder < length path
  pub leads : at rows p (take r.holder path) ≡ Some holder
  pub value : Value
  pub makes : EditMakes rows is_key edit w holder (drop r.holder path) value
  pub new : Data
  pub new_is : represented alone rows holder.0 value ≡ Some new
  pub place : List TreeStep
  pub old : Data
  pub item : IsAt r.item t place old
  pub seen : edit_seen alone rows p (edit_of edit w path) ≡ one place (replace new)
  pub is : u ≡ changed place (replace new) t

-- the block is these bytes, which are refused exactly where they are too many
abbrev pub AnswersBlock : List ℕ → Result (Option Spliced) SpliceErr → Type 0
AnswersBlock bytes (Ok None) = ⊥
AnswersBlock bytes (Ok (Some (S.Block b))) = MakesBlock bytes (Ok b)
AnswersBlock bytes (Ok (Some (S.Holder r))) = ⊥
AnswersBlock bytes (Err Size) = MakesBlock bytes (Err Size)
AnswersBlock bytes (Err Memory) = Unit {0}

-- it is that of u, or a holder's item is replaced
abbrev pub SplicedAs : List Row → (ℕ → List ℕ → Bool) → PartEdit → Value → InSlot → List (List ℕ) → Data → Data → Result (Option Spliced) SpliceErr → Type 0
SplicedAs rows is_key edit w p path t u (Ok None) = ⊥
SplicedAs rows is_key edit w p path t u (Ok (Some (S.Block b))) = MakesBlock (spell u) (Ok b)
SplicedAs rows is_key edit w p path t u (Ok (Some (S.Holder r))) = IsReplaced rows is_key edit w p path t u r
SplicedAs rows is_key edit w p path t u (Err Size) = MakesBlock (spell u) (Err Size)
SplicedAs rows is_key edit w p path t u (Err Memory) = Unit {0}

-- a holder is replaced only on a path with segments
abbrev pub IsBeneath : List (List ℕ) → Result (Option Spliced) SpliceErr → Type 0
IsBeneath path (Ok None) = Unit {0}
IsBeneath path (Ok (Some (S.Block b))) = Unit {0}
IsBeneath path (Ok (Some (S.Holder r))) = 0 < length path
IsBeneath path (Err e) = Unit {0}

-- the holder with this number, whose item has the data d, at a place
abbrev pub IsHolderAt : Data → List TreeStep → Data → ℕ → Option Spliced → Type 0
IsHolderAt t place d n None = ⊥
IsHolderAt t place d n (Some (S.Block b)) = ⊥
IsHolderAt t place d n (Some (S.Holder r)) = (r.holder ≡ n) × IsAt r.item t place d

-- ---- by the steps to the last holder and the change there

-- where that is seen in the holder's item, the block with it
abbrev pub AnswersWithin : Node → List PartSteps → LastChange → Option Node → Result (Option Spliced) SpliceErr → Type 0
AnswersWithin root steps change new result =
    (t d : Data) (x u : Option Data) → IsAt root t [] t → part_at (all_steps steps) t ≡ Some d → is_whole change ≡ false → NewIs new x
    → AnswersBlock (spell (tree_with (lift_within (all_steps steps) (located change x u)) t)) result

-- of each edit that is ready, the block of the data that it makes, or the holder whose item it replaces
abbrev pub AnswersReady : Node → List PartSteps → LastChange → Option Node → Result (Option Spliced) SpliceErr → Type 0
AnswersReady root steps change new result =
    (rows : List Row) (is_key : ℕ → List ℕ → Bool) (edit : PartEdit) (w : Value) (p : InSlot) (path : List (List ℕ)) (t u : Data) → IsAt root t [] t
    → IsReady rows is_key edit w p path steps change new t u → SplicedAs rows is_key edit w p path t u result

-- with the spelling of what a holder becomes, the block of the data that the edit makes
abbrev pub MakesWith : Replaced → List ℕ → Result (List ℕ) SpliceErr → Type 0
MakesWith r new result =
    (rows : List Row) (is_key : ℕ → List ℕ → Bool) (edit : PartEdit) (w : Value) (p : InSlot) (path : List (List ℕ)) (t u : Data) (held : IsReplaced rows is_key edit w p path t u r)
    → new ≡ spell held.new → MakesBlock (spell u) result
