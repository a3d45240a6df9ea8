-- A reply of the first tree that may come of a path that goes on behind a link is a line's that leaves everything there.
use Rattle.std.proofs.Common.{◌≡◌, inl, inr, ℕ, List, Bool, true, false, ◌&&◌, Option, Some, None, Result, Ok, Err, refl, sym, ap, ◌∙◌}
use Rattle.std.proofs.lemmas.Option.{same_Some}
use Rattle.ild_data.specs.Data as D
use Rattle.ild_edges.specs.Store.{Moment}
use Rattle.ild_json.specs.Printing.{json_text}
use Rattle.ild_links_lines.specs.Lines.{path_in}
use Rattle.ild_links_session.proofs.Twice.{LeavesAsIs}
use Rattle.ild_links_session.specs.Looks.{is_along, looks_on, may_lead}
use Rattle.ild_path_edits.specs.Edit.{Edit, path_of}
use Rattle.ild_schema.specs.Value.{Value}
use Rattle.ild_script.specs.declared.reply.No.{No}
use Rattle.ild_script.specs.declared.reply.No.TheVariants as N
use Rattle.ild_script.specs.declared.reply.Reply.{Reply}
use Rattle.ild_script.specs.declared.reply.Reply.TheVariants as R
use Rattle.ild_script_meaning.proofs.Leaving.{comes_to_nothing}
use Rattle.ild_script_meaning.specs.Ask.{Ask, nothing, to_tell, to_edit, to_tell_root, to_begin, to_commit, to_abort, unknown}
use Rattle.ild_script_meaning.specs.Lines.{Setting, changed, due, edit_due, edit_owes, edit_puts, edit_reply, printed, root_or_null}
use Rattle.ild_script_session.specs.Session.{State}
use Rattle.ild_script_session.specs.Step.{HasCause, IsExcused}

pub no_false : false ≡ true → ⊥
no_false e = absurd cc

-- no edit that is done is told so
null_ends : (e : Edit (List ℕ)) → looks_on (to_edit e) (printed D.null) ≡ false
unfolding json_text
null_ends e = refl

pub done_ends : (w : Setting) (c : Value) (o : Option Value) (e : Edit (List ℕ)) → looks_on (to_edit e) (root_or_null w c o) ≡ false
done_ends w c None e = refl
done_ends w c (Some begun) e = null_ends e

not_full : (refusal : No) → may_lead refusal ≡ true → refusal ≡ N.Exhausted → ⊥
not_full refusal leads is = no_false (sym (ap may_lead is) ∙ leads)

not_sized : (refusal : No) → may_lead refusal ≡ true → refusal ≡ N.Size → ⊥
not_sized refusal leads is = no_false (sym (ap may_lead is) ∙ leads)

no_puts : (owes : ℕ) (o : Option Value) → owes ≡ 0 → edit_puts owes o ≡ 0
no_puts owes None e = e
no_puts owes (Some v) e = refl

pub edit_leaves : (w : Setting) (s : State Value) (e : Edit (List ℕ)) (r : Result Value No) → looks_on (to_edit e) (edit_reply w r s.begun) ≡ true → LeavesAsIs (edit_due w s e r) s
edit_leaves w s e (Ok c) looks = absurd (no_false (sym (done_ends w c s.begun e) ∙ looks))
edit_leaves w s e (Err refusal) looks =
    let none = comes_to_nothing w s e refusal (not_full refusal looks) (not_sized refusal looks) in
    record { next = refl; adds = none.0; puts = no_puts (edit_owes w s.value e (Err refusal)) s.begun none.1; owes = none.1 }

pub along_not : (a : Ask) (r : Reply) → is_along a ≡ false → looks_on a r ≡ true → ⊥
along_not nothing (R.No refusal) not looks = no_false looks
along_not nothing (R.Ok text) not looks = no_false looks
along_not nothing (R.Root id) not looks = no_false looks
along_not to_tell_root (R.No refusal) not looks = no_false looks
along_not to_tell_root (R.Ok text) not looks = no_false looks
along_not to_tell_root (R.Root id) not looks = no_false looks
along_not to_begin (R.No refusal) not looks = no_false looks
along_not to_begin (R.Ok text) not looks = no_false looks
along_not to_begin (R.Root id) not looks = no_false looks
along_not to_commit (R.No refusal) not looks = no_false looks
along_not to_commit (R.Ok text) not looks = no_false looks
along_not to_commit (R.Root id) not looks = no_false looks
along_not to_abort (R.No refusal) not looks = no_false looks
along_not to_abort (R.Ok text) not looks = no_false looks
along_not to_abort (R.Root id) not looks = no_false looks
along_not unknown (R.No refusal) not looks = no_false looks
along_not unknown (R.Ok text) not looks = no_false looks
along_not unknown (R.Root id) not looks = no_false looks
along_not (to_tell t path) r not looks = absurd (no_false (sym not))
along_not (to_edit e) r not looks = absurd (no_false (sym not))

pub along_path : (a : Ask) (r : Reply) → looks_on a r ≡ true → (path : List (List ℕ)) × (path_in a ≡ Some path)
along_path (to_tell t path) r looks = (path, refl)
along_path (to_edit e) r looks = (path_of e, refl)
along_path nothing r looks = absurd (along_not nothing r refl looks)
along_path to_tell_root r looks = absurd (along_not to_tell_root r refl looks)
along_path to_begin r looks = absurd (along_not to_begin r refl looks)
along_path to_commit r looks = absurd (along_not to_commit r refl looks)
along_path to_abort r looks = absurd (along_not to_abort r refl looks)
along_path unknown r looks = absurd (along_not unknown r refl looks)

pub leaves_as_is : (w : Setting) (a : Ask) (s : State Value) (r : Reply) → (due w a s).reply ≡ Some r → looks_on a r ≡ true → LeavesAsIs (due w a s) s
leaves_as_is w (to_tell t path) s r is looks = record { next = refl; adds = refl; puts = refl; owes = refl }
leaves_as_is w (to_edit e) s r is looks =
    edit_leaves w s e (changed w s.value e) (ap (looks_on (to_edit e)) (same_Some (edit_reply w (changed w s.value e) s.begun) r is) ∙ looks)
leaves_as_is w nothing s r is looks = absurd (along_not nothing r refl looks)
leaves_as_is w to_tell_root s r is looks = absurd (along_not to_tell_root r refl looks)
leaves_as_is w to_begin s r is looks = absurd (along_not to_begin r refl looks)
leaves_as_is w to_commit s r is looks = absurd (along_not to_commit r refl looks)
leaves_as_is w to_abort s r is looks = absurd (along_not to_abort r refl looks)
leaves_as_is w unknown s r is looks = absurd (along_not unknown r refl looks)

-- ---- such a reply needs no excuse

cause_not : (m n : Moment) (adds : List (List ℕ)) (refusal : No) → may_lead refusal ≡ true → HasCause m adds refusal n → ⊥
cause_not m n adds N.Block leads c = no_false leads
cause_not m n adds N.Store leads c = no_false leads
cause_not m n adds N.Clash leads c = no_false leads
cause_not m n adds N.Memory leads c = no_false leads
cause_not m n adds N.Line leads c = c
cause_not m n adds N.Path leads c = c
cause_not m n adds N.Json leads c = c
cause_not m n adds N.Mismatch leads c = c
cause_not m n adds N.Delimiter leads c = c
cause_not m n adds N.Hole leads c = c
cause_not m n adds N.Depth leads c = c
cause_not m n adds N.Exhausted leads c = c
cause_not m n adds N.Size leads c = c
cause_not m n adds N.Reserved leads c = c
cause_not m n adds N.Batch leads c = c

second_true : (a b : Bool) → a && b ≡ true → b ≡ true
second_true true b e = e
second_true false b e = absurd (no_false e)

pub excused_not : (m n both : Moment) (adds : List (List ℕ)) (a : Ask) (r : Reply) → looks_on a r ≡ true → IsExcused m adds (Some r) n both → ⊥
excused_not m n both adds a (R.No refusal) looks (inl c) = cause_not m n adds refusal (second_true (is_along a) (may_lead refusal) looks) c
excused_not m n both adds a (R.No refusal) looks (inr c) = cause_not m both adds refusal (second_true (is_along a) (may_lead refusal) looks) c
excused_not m n both adds a (R.Ok text) looks e = e
excused_not m n both adds a (R.Root id) looks e = e
