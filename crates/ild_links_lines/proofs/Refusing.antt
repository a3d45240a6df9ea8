-- A line that is refused leaves the state, whatever its walk is.
use Rattle.std.proofs.Common.{◌≡◌, ℕ, Bool, true, false, List, [], ◌∷◌, Some, Result, Ok, Err, refl}
use Rattle.ild_links.specs.Walk.{Entered, Ending, ended, not_held, too_deep}
use Rattle.ild_links_lines.specs.Laws.{RefusedLeaveState}
use Rattle.ild_links_lines.specs.Lines.{due_by, due_in, due_across, edit_at, edit_across, judged_across, last_tree, rest_in, setting_in}
use Rattle.ild_path_edits.specs.Edit.{Edit}
use Rattle.ild_schema.specs.Value.{Value}
use Rattle.ild_script.specs.declared.reply.No.{No}
use Rattle.ild_script.specs.declared.reply.Reply.TheVariants as R
use Rattle.ild_script_meaning.proofs.Leaving.{refused_leave}
use Rattle.ild_script_meaning.specs.Ask.{Ask, nothing, to_tell, to_edit, to_tell_root, to_begin, to_commit, to_abort, unknown}
use Rattle.ild_script_meaning.specs.Lines.{Setting, changed, due}
use Rattle.ild_script_session.specs.Session.{Due, State}

abbrev Leaves : Due Value → State Value → Type 0
Leaves d s = (refusal : No) → d.reply ≡ Some (R.No refusal) → d.next ≡ s

module _ (w : Setting) (s : State Value) where
  in_first : (a : Ask) → Leaves (due w a s) s
  in_first a refusal is = (refused_leave w a s refusal is).state

  judged : (path : List (List ℕ)) (es : List (Entered Value)) (last : Entered Value) (e : Edit (List ℕ)) (r : Result Value No) → Leaves (judged_across w s path es last e r) s
  judged path es last e (Err other) refusal is = refl
  judged path es last e (Ok c) refusal is = absurd cc

  edited : (inside : Bool) (path : List (List ℕ)) (es : List (Entered Value)) (last : Entered Value) (e : Edit (List ℕ)) → Leaves (edit_across w s path es last inside e) s
  edited true path es last e refusal is = refl
  edited false path es last e refusal is = judged path es last e (changed (setting_in w last) last.value e) refusal is

  across : (inside : Bool) (a : Ask) (path : List (List ℕ)) (es : List (Entered Value)) (last : Entered Value) → Leaves (due_across w inside s a path es last) s
  across inside (to_tell t old) path es last refusal is = refl
  across inside (to_edit e) path es last refusal is = edited inside path es last (edit_at (rest_in w last path) e) refusal is
  across inside nothing path es last refusal is = in_first nothing refusal is
  across inside to_tell_root path es last refusal is = in_first to_tell_root refusal is
  across inside to_begin path es last refusal is = in_first to_begin refusal is
  across inside to_commit path es last refusal is = in_first to_commit refusal is
  across inside to_abort path es last refusal is = in_first to_abort refusal is
  across inside unknown path es last refusal is = in_first unknown refusal is

  trees : (inside : Bool) (a : Ask) (path : List (List ℕ)) (es : List (Entered Value)) → Leaves (due_in w inside s a path es) s
  trees inside a path [] refusal is = in_first a refusal is
  trees inside a path (e ∷ []) refusal is = in_first a refusal is
  trees inside a path (e ∷ f ∷ es) refusal is = across inside a path (e ∷ f ∷ es) (last_tree f es) refusal is

  by_ending : (inside : Bool) (a : Ask) (path : List (List ℕ)) (any : ℕ) (es : List (Entered Value)) (end : Ending) → Leaves (due_by w inside s a path any es end) s
  by_ending inside a path any es ended refusal is = trees inside a path es refusal is
  by_ending inside a path any es too_deep refusal is = refl
  by_ending inside a path any es (not_held j) refusal is = refl

pub refused_leave_state : RefusedLeaveState
refused_leave_state w inside s a path any walked refusal is = by_ending w s inside a path any walked.trees walked.ending refusal is
