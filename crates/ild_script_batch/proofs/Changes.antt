-- What an edit owes: no more than the blocks along its way in the changed value, and the nodes of the part that it brings.
use Rattle.std.proofs.Common.{◌≡◌, ◌≢◌, ℕ, ◌≤◌, List, [], ◌∷◌, Bool, true, false, cond, Option, Some, None, Result, Ok, Err, refl, arith}
use Rattle.std.specs.Prelude.{slice_get, option_and_then}
use Rattle.ild_data.specs.Data.{Data}
use Rattle.ild_data.specs.Key.{same_text, value_at}
use Rattle.ild_schema.specs.declared.def.Field.{Field}
use Rattle.ild_schema.specs.declared.number.Slot.{Slot}
use Rattle.ild_schema.specs.declared.row.Row.{Row}
use Rattle.ild_schema.specs.Slots.{plainly}
use Rattle.ild_schema.specs.Value.{Value}
use Rattle.ild_script.specs.declared.reply.No.{No}
use Rattle.ild_script.specs.declared.reply.No.TheVariants as N
use Rattle.ild_typed.specs.At.{InSlot, last_holder, changed_in}
use Rattle.ild_typed.specs.Holder.{Holder, fields, member, entries, elements, any_entries, any_elements, nothing}
use Rattle.ild_typed.specs.Segment.{set_part, held_as, index_of}
use Rattle.ild_path_edits.specs.Edit.{Edit, set_at, ins_at, del_at, path_of, placed, set_in, ins_in, unless_kept, del_in, change, meant_or, read_or, new_part, new_slot, with_part, changed_by, line_change}
use Rattle.ild_path_edits.specs.Judged.{judged, unless_judged, judged_result}
use Rattle.ild_path_edits.specs.Table.{slot_to_set, slot_to_insert, key_fits, insert_part, delete_part, refusal_to_delete, field_kept, if_present, unless_there, never}
use Rattle.ild_value_meaning.specs.MeantRead.{meant}
use Rattle.ild_script_meaning.specs.Costs.{judged_puts, changed_met}
use Rattle.ild_script_meaning.specs.Lines.{Setting, read_json, in_slot, changed, line_changed, new_nodes, all_met, edit_owes}

-- ---- a value is changed, or there is no such place, or it doesn't fit: it isn't exhausted yet

abbrev NeverFull : {X : Type 0} → Result X No → Type 0
NeverFull (Ok x) = Unit {0}
NeverFull (Err refusal) = refusal ≢ N.Exhausted

abbrev NotFull : Option No → Type 0
NotFull None = Unit {0}
NotFull (Some refusal) = refusal ≢ N.Exhausted

placed_is : (fits : Bool) (c : Value) (o : Option Slot) → NeverFull (placed fits c o)
placed_is fits c None = λ e. absurd cc
placed_is true c (Some slot) = tt
placed_is false c (Some slot) = λ e. absurd cc

set_is : (is_key : ℕ → List ℕ → Bool) (c : Value) (o : Option (Holder × List ℕ)) → NeverFull (set_in is_key c o)
set_is is_key c None = λ e. absurd cc
set_is is_key c (Some l) = placed_is (key_fits is_key l.0 l.1) c (slot_to_set l.0 l.1)

ins_is : (is_key : ℕ → List ℕ → Bool) (c : Value) (o : Option (Holder × List ℕ)) → NeverFull (ins_in is_key c o)
ins_is is_key c None = λ e. absurd cc
ins_is is_key c (Some l) = placed_is (key_fits is_key l.0 l.1) c (slot_to_insert l.0 l.1)

present_is : (b : Bool) (o : Option Value) → NotFull (if_present b o)
present_is true None = λ e. absurd cc
present_is false None = λ e. absurd cc
present_is true (Some v) = tt
present_is false (Some v) = λ e. absurd cc

field_by : (t b : Bool) (o : Option Value) (rest : Option No) → NotFull rest → NotFull (cond t (if_present b o) rest)
field_by true b o rest all = present_is b o
field_by false b o rest all = all

field_is : (name : List ℕ) (fs : List Field) (os : List (Option Value)) → NotFull (field_kept name fs os)
field_is name [] os = λ e. absurd cc
field_is name (f ∷ fs) [] = λ e. absurd cc
field_is name (f ∷ fs) (o ∷ os) = field_by (same_text name f.name) f.optional o (field_kept name fs os) (field_is name fs os)

there_is : {X : Type 0} (o : Option X) → NotFull (unless_there o)
there_is None = λ e. absurd cc
there_is (Some x) = tt

never_is : {X : Type 0} (o : Option X) → NotFull (never o)
never_is None = λ e. absurd cc
never_is (Some x) = λ e. absurd cc

delete_is : (h : Holder) (s : List ℕ) → NotFull (refusal_to_delete h s)
delete_is (fields fs os) s = field_is s fs os
delete_is (member ms n v) s = never_is (held_as s v (slice_get ms n))
delete_is (entries key slot paired ps) s = there_is (value_at s ps)
delete_is (elements slot vs) s = there_is (option_and_then (λ i. slice_get vs i) (index_of s))
delete_is (any_entries ms) s = there_is (value_at s ms)
delete_is (any_elements ds) s = there_is (option_and_then (λ i. slice_get ds i) (index_of s))
delete_is (nothing v) s = λ e. absurd cc

kept_is : (c : Value) (o : Option No) → NotFull o → NeverFull (unless_kept c o)
kept_is c None all = tt
kept_is c (Some refusal) all = all

del_is : (c : Value) (o : Option (Holder × List ℕ)) → NeverFull (del_in c o)
del_is c None = λ e. absurd cc
del_is c (Some l) = kept_is c (refusal_to_delete l.0 l.1) (delete_is l.0 l.1)

change_is : (rows : List Row) (is_key : ℕ → List ℕ → Bool) (p : InSlot) (e : Edit Value) → NeverFull (change rows is_key p e)
change_is rows is_key p (set_at [] w) = tt
change_is rows is_key p (set_at (s ∷ ss) w) = set_is is_key (changed_in rows (λ h t. set_part h t w) p s ss) (last_holder rows p s ss)
change_is rows is_key p (ins_at [] w) = λ e. absurd cc
change_is rows is_key p (ins_at (s ∷ ss) w) = ins_is is_key (changed_in rows (λ h t. insert_part h t w) p s ss) (last_holder rows p s ss)
change_is rows is_key p (del_at []) = λ e. absurd cc
change_is rows is_key p (del_at (s ∷ ss)) = del_is (changed_in rows delete_part p s ss) (last_holder rows p s ss)

meant_is : (o : Option Value) → NeverFull (meant_or o)
meant_is None = λ e. absurd cc
meant_is (Some w) = tt

read_is : (by : Data → Option Value) (o : Option Data) → NeverFull (read_or by o)
read_is by None = λ e. absurd cc
read_is by (Some d) = meant_is (by d)

part_is : (rows : List Row) (is_key : ℕ → List ℕ → Bool) (read : List ℕ → Option Data) (o : Option Slot) (json : List ℕ) → NeverFull (new_part rows is_key read o json)
part_is rows is_key read None json = λ e. absurd cc
part_is rows is_key read (Some slot) json = read_is (meant rows is_key slot) (read json)

by_part : (rows : List Row) (is_key : ℕ → List ℕ → Bool) (p : InSlot) (of : Value → Edit Value) (r : Result Value No) → NeverFull r → NeverFull (changed_by rows is_key p (with_part of r))
by_part rows is_key p of (Ok w) all = change_is rows is_key p (of w)
by_part rows is_key p of (Err refusal) all = all

line_is : (rows : List Row) (is_key : ℕ → List ℕ → Bool) (read : List ℕ → Option Data) (p : InSlot) (e : Edit (List ℕ)) → NeverFull (line_change rows is_key read p e)
line_is rows is_key read p (set_at path json) = by_part rows is_key p (set_at path) (new_part rows is_key read (new_slot rows p (set_at path json)) json) (part_is rows is_key read (new_slot rows p (set_at path json)) json)
line_is rows is_key read p (ins_at path json) = by_part rows is_key p (ins_at path) (new_part rows is_key read (new_slot rows p (ins_at path json)) json) (part_is rows is_key read (new_slot rows p (ins_at path json)) json)
line_is rows is_key read p (del_at path) = change_is rows is_key p (del_at path)

-- ---- what is owed

puts_within : (all new : ℕ) (refusal : No) → (refusal ≡ N.Exhausted → new ≤ all) → judged_puts all new (Err refusal) ≤ all
puts_within all new N.Size le = omega arith
puts_within all new N.Exhausted le = le refl
puts_within all new N.Line le = omega arith
puts_within all new N.Path le = omega arith
puts_within all new N.Json le = omega arith
puts_within all new N.Mismatch le = omega arith
puts_within all new N.Delimiter le = omega arith
puts_within all new N.Hole le = omega arith
puts_within all new N.Depth le = omega arith
puts_within all new N.Reserved le = omega arith
puts_within all new N.Block le = omega arith
puts_within all new N.Store le = omega arith
puts_within all new N.Clash le = omega arith
puts_within all new N.Memory le = omega arith
puts_within all new N.Batch le = omega arith

judged_within : (all new : ℕ) (c : Value) (o : Option No) → new ≤ all → judged_puts all new (unless_judged c o) ≤ all
judged_within all new c None le = omega arith
judged_within all new c (Some refusal) le = puts_within all new refusal (λ e. le)

owes_by : (w : Setting) (v : Value) (e : Edit (List ℕ)) (new : ℕ) (r : Result Value No) → NeverFull r
    → judged_puts (changed_met w.hash w.rows (plainly w.ty) (path_of e) new r) new (judged_result w.frame w.hash w.rows w.tests w.ty r) ≤ changed_met w.hash w.rows (plainly w.ty) (path_of e) new r
owes_by w v e new (Ok c) all = judged_within (changed_met w.hash w.rows (plainly w.ty) (path_of e) new (Ok c)) new c (judged w.frame w.hash w.rows w.tests w.ty c) (omega arith)
owes_by w v e new (Err refusal) all = puts_within 0 new refusal (λ full. absurd (all full))

pub owes_within : (w : Setting) (v : Value) (e : Edit (List ℕ)) → edit_owes w v e (changed w v e) ≤ all_met w v e
owes_within w v e = owes_by w v e (new_nodes w v e) (line_changed w v e) (line_is w.rows w.tests.is_key read_json (in_slot w v) e)
