-- Refused lines leave the state, and edits inside a batch are owed.
use Rattle.std.proofs.Common.{◌≡◌, ◌≢◌, ℕ, List, [], Option, Some, None, Ok, Err, Result, refl, ◌∙◌, sym}
use Rattle.std.proofs.lemmas.Option.{same_Some}
use Rattle.ild_data.specs.Data as D
use Rattle.ild_json.specs.Printing.{json_text}
use Rattle.ild_schema.specs.Value.{Value}
use Rattle.ild_script.specs.declared.reply.No.{No}
use Rattle.ild_script.specs.declared.reply.No.TheVariants as N
use Rattle.ild_script.specs.declared.reply.Reply.{Reply}
use Rattle.ild_script.specs.declared.reply.Reply.TheVariants as R
use Rattle.ild_script_session.specs.Session.{State, Due}
use Rattle.ild_path_edits.specs.Edit.{Edit}
use Rattle.ild_script_meaning.specs.Ask.{Ask, nothing, to_tell, to_edit, to_tell_root, to_begin, to_commit, to_abort, unknown}
use Rattle.ild_script_meaning.specs.Lines.{Setting, due, quiet, printed, edit_due, edit_blocks, edit_owes, edit_puts, root_due, begin_due, commit_due, abort_due, changed, root_or_null, root_reply}
use Rattle.ild_script_meaning.specs.LinesLaws.{LeavesAll, RefusedLeave, BatchesOwe}

abbrev Leaves : Due Value → State Value → Type 0
Leaves d s = (refusal : No) → d.reply ≡ Some (R.No refusal) → LeavesAll d s refusal

null_is_printed : (refusal : No) → printed D.null ≡ R.No refusal → ⊥
unfolding json_text
null_is_printed refusal e = absurd cc

root_is_told : (w : Setting) (v : Value) (refusal : No) → root_reply w v ≡ R.No refusal → ⊥
root_is_told w v refusal e = absurd cc

edit_replies : (w : Setting) (c : Value) (o : Option Value) (refusal : No) → root_or_null w c o ≡ R.No refusal → ⊥
edit_replies w c None refusal e = root_is_told w c refusal e
edit_replies w c (Some v) refusal e = null_is_printed refusal e

-- an edit that is refused before it is found exhausted comes to nothing
abbrev pub Nothing : Setting → State Value → Edit (List ℕ) → No → Type 0
Nothing w s e refusal = (edit_blocks w s.value e (Err refusal) ≡ []) × (edit_owes w s.value e (Err refusal) ≡ 0)

pub comes_to_nothing : (w : Setting) (s : State Value) (e : Edit (List ℕ)) (refusal : No) → refusal ≢ N.Exhausted → refusal ≢ N.Size → Nothing w s e refusal
comes_to_nothing w s e N.Exhausted full size = absurd (full refl)
comes_to_nothing w s e N.Size full size = absurd (size refl)
comes_to_nothing w s e N.Line full size = (refl, refl)
comes_to_nothing w s e N.Path full size = (refl, refl)
comes_to_nothing w s e N.Json full size = (refl, refl)
comes_to_nothing w s e N.Mismatch full size = (refl, refl)
comes_to_nothing w s e N.Delimiter full size = (refl, refl)
comes_to_nothing w s e N.Hole full size = (refl, refl)
comes_to_nothing w s e N.Depth full size = (refl, refl)
comes_to_nothing w s e N.Reserved full size = (refl, refl)
comes_to_nothing w s e N.Block full size = (refl, refl)
comes_to_nothing w s e N.Store full size = (refl, refl)
comes_to_nothing w s e N.Clash full size = (refl, refl)
comes_to_nothing w s e N.Memory full size = (refl, refl)
comes_to_nothing w s e N.Batch full size = (refl, refl)

no_puts : (owes : ℕ) (o : Option Value) → owes ≡ 0 → edit_puts owes o ≡ 0
no_puts owes None e = e
no_puts owes (Some v) e = refl

same_no : (a b : No) → R.No a ≡ R.No b → a ≡ b
same_no a b e = cc

edit_leaves : (w : Setting) (s : State Value) (e : Edit (List ℕ)) (r : Result Value No) → Leaves (edit_due w s e r) s
edit_leaves w s e (Ok c) = λ refusal is. absurd (edit_replies w c s.begun refusal (same_Some (root_or_null w c s.begun) (R.No refusal) is))
edit_leaves w s e (Err refusal) = λ other is.
    let one : refusal ≡ other = same_no refusal other (same_Some (R.No refusal) (R.No other) is) in
    let nothing : other ≢ N.Exhausted → other ≢ N.Size → Nothing w s e refusal =
    λ full size. comes_to_nothing w s e refusal (λ is. full (sym one ∙ is)) (λ is. size (sym one ∙ is)) in
    record {
      state = refl;
      adds = λ full size. (nothing full size).0;
      puts = λ full size. no_puts (edit_owes w s.value e (Err refusal)) s.begun (nothing full size).1;
    }

quiet_leaves : (gets : ℕ) (reply : Option Reply) (s : State Value) → Leaves (quiet gets reply s) s
quiet_leaves gets reply s = λ refusal e. record { state = refl; adds = λ full size. refl; puts = λ full size. refl }

root_leaves : (w : Setting) (s : State Value) (o : Option Value) → Leaves (root_due w s o) s
root_leaves w s None = quiet_leaves 0 (Some (root_reply w s.value)) s
root_leaves w s (Some v) = quiet_leaves 0 (Some (R.No N.Batch)) s

begin_leaves : (s : State Value) (o : Option Value) → Leaves (begin_due s o) s
begin_leaves s None = λ refusal e. absurd (null_is_printed refusal (same_Some (printed D.null) (R.No refusal) e))
begin_leaves s (Some v) = quiet_leaves 0 (Some (R.No N.Batch)) s

commit_leaves : (w : Setting) (s : State Value) (o : Option Value) → Leaves (commit_due w s o) s
commit_leaves w s None = quiet_leaves 0 (Some (R.No N.Batch)) s
commit_leaves w s (Some v) = λ refusal e. absurd (root_is_told w s.value refusal (same_Some (root_reply w s.value) (R.No refusal) e))

abort_leaves : (s : State Value) (o : Option Value) → Leaves (abort_due s o) s
abort_leaves s None = quiet_leaves 0 (Some (R.No N.Batch)) s
abort_leaves s (Some v) = λ refusal e. absurd (null_is_printed refusal (same_Some (printed D.null) (R.No refusal) e))

leaves : (w : Setting) (a : Ask) (s : State Value) → Leaves (due w a s) s
leaves w nothing s = λ refusal e. record { state = refl; adds = λ full size. refl; puts = λ full size. refl }
leaves w (to_tell t path) s = λ refusal e. record { state = refl; adds = λ full size. refl; puts = λ full size. refl }
leaves w (to_edit e) s = edit_leaves w s e (changed w s.value e)
leaves w to_tell_root s = root_leaves w s s.begun
leaves w to_begin s = begin_leaves s s.begun
leaves w to_commit s = commit_leaves w s s.begun
leaves w to_abort s = abort_leaves s s.begun
leaves w unknown s = λ refusal e. record { state = refl; adds = λ full size. refl; puts = λ full size. refl }

pub refused_leave : RefusedLeave
refused_leave w a s refusal e = leaves w a s refusal e

pub batches_owe : BatchesOwe
batches_owe w e v begun = (refl, refl)
