-- A value in which the part at the end of a path is another, and an edit of a part as one of the whole.
use Rattle.std.specs.Prelude.{ℕ, List, [], ◌∷◌, Result, Ok, Err}
use Rattle.std.specs.Option.{option_map_or}
use Rattle.ild_schema.specs.declared.row.Row.{Row}
use Rattle.ild_schema.specs.Value.{Value}
use Rattle.ild_script.specs.declared.reply.No.{No}
use Rattle.ild_typed.specs.At.{InSlot, seen}
use Rattle.ild_typed.specs.Holder.{value_of}
use Rattle.ild_typed.specs.Segment.{part, set_part}
use Rattle.ild_path_edits.specs.Edit.{Edit, set_at, ins_at, del_at}

-- m in the place of the part to which a path leads, and all else as it was
abbrev pub with_part : List Row → InSlot → List (List ℕ) → Value → Value
with_part rows p [] m = m
with_part rows p (s ∷ ss) m = option_map_or (λ q. value_of (set_part (seen rows p) s (with_part rows q ss m))) (part (seen rows p) s) p.1

-- the whole with what becomes of the part there, or why that is refused
abbrev pub with_result : List Row → InSlot → List (List ℕ) → Result Value No → Result Value No
with_result rows p path (Ok m) = Ok (with_part rows p path m)
with_result rows p path (Err refusal) = Err refusal

-- the same edit at another path
abbrev pub moved : {X : Type 0} → List (List ℕ) → Edit X → Edit X
moved path (set_at old x) = set_at path x
moved path (ins_at old x) = ins_at path x
moved path (del_at old) = del_at path
