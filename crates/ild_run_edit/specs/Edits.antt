-- What one edit of a document answers.
use Rattle.std.specs.Prelude.{ℕ, List, Some, Result, Ok, Err}
use Rattle.ild_data.specs.Spell.{id_of}
use Rattle.ild_edges.specs.Store.{Moment}
use Rattle.ild_script.specs.declared.reply.No.{No}
use Rattle.ild_script.specs.declared.reply.No.TheVariants as N
use Rattle.ild_script.specs.declared.reply.Reply.{Reply}
use Rattle.ild_script.specs.declared.reply.Reply.TheVariants as R
use Rattle.ild_path_edits.specs.Edit.{Edit, set_at, ins_at, del_at}
use Rattle.ild_script_meaning.specs.Ask.{to_edit}
use Rattle.ild_view_doc.specs.Docs.{block_in}
use Rattle.ild_view_doc.specs.declared.doc.Doc.{Doc}
use Rattle.ild_run_standing.specs.Answers.{AnswersAs}
use Rattle.ild_path_place.specs.declared.verb.Verb.{Verb}
use Rattle.ild_path_place.specs.declared.verb.Verb.TheVariants as V

-- the edit of a line with this word, path and json
abbrev pub edit_of : Verb → List (List ℕ) → List ℕ → Edit (List ℕ)
edit_of V.Set path json = set_at path json
edit_of V.Ins path json = ins_at path json
edit_of V.Del path json = del_at path

-- the reply that an edit's answer is, of the document behind it: the new root, or the refusal
abbrev pub reply_of : Result (Unit {0}) No → Doc → Reply
reply_of (Ok done) d = R.Root (record { 0 = id_of (block_in d) })
reply_of (Err refusal) d = R.No refusal

-- an edit is refused for none of these: the line was read, nothing is printed, and there is no batch here
abbrev pub IsOfEdit : Result (Unit {0}) No → Type 0
IsOfEdit (Err N.Line) = ⊥
IsOfEdit (Err N.Reserved) = ⊥
IsOfEdit (Err N.Batch) = ⊥
IsOfEdit result = Unit {0}

-- The answer, as the reply to the line that asks for the edit.
pub record Edits (h : List ℕ → List ℕ) (old new : Doc) (verb : Verb) (path : List (List ℕ)) (json : List ℕ) (m : Moment) (result : Result (Unit {0}) No) (n : Moment) : Type 0 where
  pub answers : AnswersAs h old new (to_edit (edit_of verb path json)) m (Some (reply_of result new)) n
  pub own : IsOfEdit result
