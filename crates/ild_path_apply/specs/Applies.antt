-- What an edit changes in the item of a last holder, made on the block in which the item stands.
use Rattle.std.specs.Prelude.{◌≡◌, ℕ, Bool, true, false, List, Option, Some, None, Result}
use Rattle.ild_cbor.specs.declared.node.Node.{Node}
use Rattle.ild_splice_changes.specs.TreeChange.{TreeStep, Located, applied}
use Rattle.ild_data.specs.Data.{Data}
use Rattle.ild_data.specs.Spell.{spell}
use Rattle.ild_path_last.specs.Change.{NewIs}
use Rattle.ild_path_last.specs.declared.change.LastChange.{LastChange}
use Rattle.ild_path_last.specs.declared.change.LastChange.TheVariants as C
use Rattle.ild_path_changes.specs.Lift.{lift_within}
use Rattle.ild_splice.specs.Made.{MakesBytes}
use Rattle.ild_splice.specs.Splices.{IsAt}
use Rattle.ild_splice.specs.declared.error.SpliceErr.{SpliceErr}
use Rattle.ild_path_steps.specs.declared.steps.PartSteps.{PartSteps}
use Rattle.ild_path_steps.specs.declared.steps.PartSteps.TheVariants as P

-- of whatever tree the node is a part: the answer is the spelling of that tree with this change within that part, or that it is too long
pub record Applies (n : Node) (e : Located) (result : Result (List ℕ) SpliceErr) : Type 0 where
  pub makes : (t d : Data) (q : List TreeStep) → IsAt n t q d → MakesBytes (spell (applied (lift_within q e) t)) result

-- a part without an item that could be replaced alone
abbrev pub has_no_item : PartSteps → Bool
has_no_item P.Whole = true
has_no_item P.Same = false
has_no_item (P.Item i) = false
has_no_item (P.Entry k) = false
has_no_item (P.Pair i) = false
has_no_item (P.Beside k) = true

-- the whole item is replaced by that of what the holder becomes
abbrev pub is_whole : LastChange → Bool
is_whole C.Nothing = false
is_whole C.Whole = true
is_whole (C.Replace steps) = has_no_item steps
is_whole (C.InsertItem i) = false
is_whole (C.InsertPair i k) = false
is_whole (C.InsertEntry k) = false
is_whole (C.RemoveItem i) = false
is_whole (C.RemoveEntry k) = false

-- the items that come: that of the new part, with the data x, and, where the whole is replaced, that of what the holder becomes, with the data u
pub record Come (change : LastChange) (new whole : Option Node) (x u : Option Data) : Type 0 where
  pub part : NewIs new x
  pub holder : is_whole change ≡ true → NewIs whole u
