-- The lines of a script on typed values: what each is due, as the meaning that a session gives to lines.
use Rattle.std.specs.Prelude.{ℕ, ◌+◌, List, [], length, nat_le, is_some, Option, Some, None, Result, Ok, Err, option_map, option_and_then}
use Rattle.std.specs.List.{filter}
use Rattle.std.specs.Option.{option_map_or}
use Rattle.std.specs.Result.{result_ok}
use Rattle.ild_data.specs.Data as D
use Rattle.ild_data.specs.Data.{Data}
use Rattle.ild_data.specs.Limits.{longest_block}
use Rattle.ild_json.specs.Printing.{json_text}
use Rattle.ild_json.specs.Reading.{json_read}
use Rattle.ild_schema.specs.declared.number.TypeNo.{TypeNo}
use Rattle.ild_schema.specs.declared.row.Row.{Row}
use Rattle.ild_schema.specs.Slots.{plainly}
use Rattle.ild_schema.specs.Value.{Value}
use Rattle.ild_script.specs.Line.{reads}
use Rattle.ild_script.specs.declared.reply.No.{No}
use Rattle.ild_script.specs.declared.reply.No.TheVariants as N
use Rattle.ild_script.specs.declared.reply.Reply.{Reply}
use Rattle.ild_script.specs.declared.reply.Reply.TheVariants as R
use Rattle.ild_typed.specs.At.{InSlot, seen, at}
use Rattle.ild_typed.specs.Blocks.{nodes}
use Rattle.ild_typed.specs.Hamt.{whole}
use Rattle.ild_typed.specs.Represented.{represented}
use Rattle.ild_typed.specs.Shown.{shown}
use Rattle.ild_typed.specs.Stands.{Frame, blocks_of, root_id}
use Rattle.ild_typed_places.specs.Places.{children_in, children_of, places_of}
use Rattle.ild_path_edits.specs.Edit.{Edit, path_of, line_change}
use Rattle.ild_path_edits.specs.Judged.{Tests, edited}
use Rattle.ild_script_session.specs.Session.{State, idle, Due, Meaning}
use Rattle.ild_script_meaning.specs.Ask.{Tell, shown_form, representation, presence, count, list_of_parts, Ask, nothing, to_tell, to_edit, to_tell_root, to_begin, to_commit, to_abort, unknown, asked}
use Rattle.ild_script_meaning.specs.Costs.{blocks_met, nodes_in, brought, changed_met, judged_puts, different, tell_gets}
use Rattle.ild_script_meaning.specs.Reads.{counted, walked}
pub use Rattle.ild_script_meaning.specs.PlainLines.{printed_or}

-- What lines are about: the frame of a root, the hash of keys, a table with its tests, and the type of the value.
pub record Setting : Type 0 where
  pub frame : Frame
  pub hash : List ℕ → List ℕ
  pub rows : List Row
  pub tests : Tests
  pub ty : TypeNo

-- for each place at which a block stands in a value, the ids of its children there
abbrev pub value_children : Setting → Value → List ℕ → List (List (List ℕ))
value_children w v b = children_in w.frame w.hash w.rows w.ty v b

-- in a part, beneath the block in which that stands
abbrev pub part_children : Setting → InSlot → List ℕ → List (List (List ℕ))
part_children w p b = children_of w.hash w.rows p b

-- for each place of a value's blocks, the block and all from there on down
abbrev pub places_in : Setting → Value → List (List ℕ × List (List ℕ))
places_in w v = places_of w.frame w.hash w.rows w.ty v

-- ---- blocks

abbrev pub tree_in : Setting → InSlot → Option Data
tree_in w p = represented (whole w.hash) w.rows p.0 p.1

abbrev pub in_slot : Setting → Value → InSlot
in_slot w v = (plainly w.ty, v)

-- the blocks of a value, the root block first; a value without a representation has none
abbrev pub value_blocks : Setting → Value → List (List ℕ)
value_blocks w v = option_map_or (λ d. blocks_of w.frame w.hash w.rows w.ty v d) (tree_in w (in_slot w v)) []

abbrev pub root_reply : Setting → Value → Reply
root_reply w v = R.Root (record { 0 = option_map_or (root_id w.frame) (tree_in w (in_slot w v)) [] })

-- ---- reads

abbrev pub printed : Data → Reply
printed d = printed_or (json_text d)

-- nothing is told where a path does not lead, or of what has no such parts
abbrev pub told : Option Data → Reply
told None = R.No N.Path
told (Some d) = printed d

abbrev pub show : Setting → InSlot → Data
show w p = shown w.rows p.0 p.1

abbrev pub told_of : Setting → Tell → Option InSlot → Option Data
told_of w presence p = Some (D.boolean (is_some p))
told_of w shown_form p = option_map (show w) p
told_of w representation p = option_and_then (tree_in w) p
told_of w count p = option_and_then (λ q. counted (seen w.rows q)) p
told_of w list_of_parts p = option_and_then (λ q. walked (show w) (seen w.rows q)) p

abbrev pub read_reply : Setting → Tell → List (List ℕ) → Value → Reply
read_reply w t path v = told (told_of w t (at w.rows (in_slot w v) path))

-- ---- what a line is due

-- a block of which there are none
abbrev pub no_places : List ℕ → List (List (List ℕ))
no_places b = []

-- a reply that leaves the value and the store
abbrev pub quiet : ℕ → Option Reply → State Value → Due Value
quiet gets reply s = record { reply = reply; next = s; adds = []; children = no_places; gets = gets; puts = 0; owes = 0 }

-- one that leaves the store, and from which the next state begins
abbrev pub turned : Reply → State Value → Due Value
turned reply next = quiet 0 (Some reply) next

-- ---- edits

abbrev pub read_json : List ℕ → Option Data
read_json json = result_ok (json_read json)

-- the changed value of an edit, or its first refusal
abbrev pub changed : Setting → Value → Edit (List ℕ) → Result Value No
changed w v e = edited w.frame w.hash w.rows w.tests read_json w.ty v e

-- the changed value, before it is judged
abbrev pub line_changed : Setting → Value → Edit (List ℕ) → Result Value No
line_changed w v e = line_change w.rows w.tests.is_key read_json (in_slot w v) e

-- the part that an edit brings, and the number of its nodes
abbrev pub part_of : Setting → Value → Edit (List ℕ) → Option InSlot
part_of w v e = brought w.rows w.tests.is_key read_json (in_slot w v) e

abbrev pub new_nodes : Setting → Value → Edit (List ℕ) → ℕ
new_nodes w v e = nodes_in w.hash w.rows (part_of w v e)

-- those along the way in the changed value, and of the part
abbrev pub all_met : Setting → Value → Edit (List ℕ) → ℕ
all_met w v e = changed_met w.hash w.rows (plainly w.ty) (path_of e) (new_nodes w v e) (line_changed w v e)

-- The most gets of an edit, and the most puts, for which one inside a batch is owing.
abbrev pub edit_gets : Setting → Value → Edit (List ℕ) → Option Value → ℕ
edit_gets w v e None = blocks_met w.hash w.rows (in_slot w v) (path_of e)
edit_gets w v e (Some begun) = blocks_met w.hash w.rows (in_slot w v) (path_of e) + all_met w v e

abbrev pub edit_owes : Setting → Value → Edit (List ℕ) → Result Value No → ℕ
edit_owes w v e r = judged_puts (all_met w v e) (new_nodes w v e) r

abbrev pub edit_puts : ℕ → Option Value → ℕ
edit_puts owes None = owes
edit_puts owes (Some begun) = 0

-- The blocks that may come: those of the changed value, or those that aren't too long; or, where there is no trie, the nodes of the part.
abbrev pub short : List (List ℕ) → List (List ℕ)
short bs = filter (λ b. nat_le (length b) longest_block) bs

abbrev pub edit_blocks : Setting → Value → Edit (List ℕ) → Result Value No → List (List ℕ)
edit_blocks w v e (Ok c) = value_blocks w c
edit_blocks w v e (Err N.Size) = short (option_map_or (value_blocks w) (result_ok (line_changed w v e)) [])
edit_blocks w v e (Err N.Exhausted) = option_map_or (λ q. nodes w.hash w.rows q.0 q.1) (part_of w v e) []
edit_blocks w v e (Err refusal) = []

abbrev pub edit_children : Setting → Value → Edit (List ℕ) → Result Value No → List ℕ → List (List (List ℕ))
edit_children w v e (Ok c) = value_children w c
edit_children w v e (Err N.Size) = option_map_or (value_children w) (result_ok (line_changed w v e)) no_places
edit_children w v e (Err N.Exhausted) = option_map_or (part_children w) (part_of w v e) no_places
edit_children w v e (Err refusal) = no_places

-- outside a batch an edit replies the new root, inside one null
abbrev pub root_or_null : Setting → Value → Option Value → Reply
root_or_null w c None = root_reply w c
root_or_null w c (Some begun) = printed D.null

abbrev pub edit_reply : Setting → Result Value No → Option Value → Reply
edit_reply w (Ok c) begun = root_or_null w c begun
edit_reply w (Err refusal) begun = R.No refusal

abbrev pub edit_next : State Value → Result Value No → State Value
edit_next s (Ok c) = record s { value = c }
edit_next s (Err refusal) = s

abbrev pub edit_due : Setting → State Value → Edit (List ℕ) → Result Value No → Due Value
edit_due w s e r = record {
  reply = Some (edit_reply w r s.begun);
  next = edit_next s r;
  adds = edit_blocks w s.value e r;
  children = edit_children w s.value e r;
  gets = edit_gets w s.value e s.begun;
  puts = edit_puts (edit_owes w s.value e r) s.begun;
  owes = edit_owes w s.value e r;
}

-- the root is told outside a batch
abbrev pub root_due : Setting → State Value → Option Value → Due Value
root_due w s None = quiet 0 (Some (root_reply w s.value)) s
root_due w s (Some v) = quiet 0 (Some (R.No N.Batch)) s

-- A batch is begun outside one, and ends with its value kept or with the value at its begin.
abbrev pub begin_due : State Value → Option Value → Due Value
begin_due s None = turned (printed D.null) (record s { begun = Some s.value })
begin_due s (Some v) = quiet 0 (Some (R.No N.Batch)) s

-- what is kept is put, each of its blocks once at most
abbrev pub kept_due : Setting → State Value → List (List ℕ) → Due Value
kept_due w s blocks = record {
  reply = Some (root_reply w s.value);
  next = idle s.value;
  adds = blocks;
  children = value_children w s.value;
  gets = 0;
  puts = length (different blocks);
  owes = 0;
}

abbrev pub commit_due : Setting → State Value → Option Value → Due Value
commit_due w s None = quiet 0 (Some (R.No N.Batch)) s
commit_due w s (Some v) = kept_due w s (value_blocks w s.value)

abbrev pub abort_due : State Value → Option Value → Due Value
abort_due s None = quiet 0 (Some (R.No N.Batch)) s
abort_due s (Some v) = turned (printed D.null) (idle v)

abbrev pub due : Setting → Ask → State Value → Due Value
due w nothing s = quiet 0 None s
due w (to_tell t path) s = quiet (tell_gets w.hash w.rows t (in_slot w s.value) path) (Some (read_reply w t path s.value)) s
due w (to_edit e) s = edit_due w s e (changed w s.value e)
due w to_tell_root s = root_due w s s.begun
due w to_begin s = begin_due s s.begun
due w to_commit s = commit_due w s s.begun
due w to_abort s = abort_due s s.begun
due w unknown s = quiet 0 (Some (R.No N.Line)) s

-- what a line is due; it doesn't matter what is held
abbrev pub line_due : Setting → State Value → List ℕ → Due Value
line_due w s line = due w (asked (reads line)) s

-- the meaning of every line
abbrev pub typed_lines : Setting → Meaning Value
typed_lines w = record { due = λ held s line. line_due w s line; blocks = value_blocks w; places = places_in w }
