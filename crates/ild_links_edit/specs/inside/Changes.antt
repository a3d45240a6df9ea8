-- What an edit in the last of the trees of a walk answers, carried up to the first.
use Rattle.std.specs.Prelude.{◌≡◌, ℕ, ◌+◌, ◌*◌, List, ◌∷◌, drop, length, None, Some, IfOk, Result, Ok, Err}
use Rattle.ild_data.specs.Spell.{id_of}
use Rattle.ild_edges.specs.Count.{Rose}
use Rattle.ild_edges.specs.Store.{Moment, Later}
use Rattle.ild_links.specs.Carries.{IsWalked}
use Rattle.ild_links.specs.Follows.{hops_of}
use Rattle.ild_links.specs.Walk.{Entered}
use Rattle.ild_links.specs.declared.hop.Hop.{Hop}
use Rattle.ild_links_lines.specs.Lines.{carry_ways, judged_across, last_tree, setting_in, trees_from}
use Rattle.ild_path_edits.specs.Edit.{Edit}
use Rattle.ild_path_edits.specs.Judged.{AreTests, Tests}
use Rattle.ild_path_place.specs.declared.verb.Verb.{Verb}
use Rattle.ild_run_edit.specs.Edits.{edit_of}
use Rattle.ild_run_links.specs.Trees.{Storable, trees}
use Rattle.ild_run_standing.specs.Standing.{IsHeldAt, setting_of}
use Rattle.ild_schema.specs.Value.{Value}
use Rattle.ild_script.specs.declared.reply.No.{No}
use Rattle.ild_script.specs.declared.reply.No.TheVariants as N
use Rattle.ild_script.specs.declared.reply.Reply.{Reply}
use Rattle.ild_script.specs.declared.reply.Reply.TheVariants as R
use Rattle.ild_script_meaning.specs.Lines.{Setting, changed, edit_gets, typed_lines, value_blocks}
use Rattle.ild_script_session.specs.Session.{Due, idle, resting}
use Rattle.ild_script_session.specs.Step.{Replies}
use Rattle.ild_view_doc.specs.Docs.{block_in, table_in, type_in}
use Rattle.ild_view_doc.specs.declared.doc.Doc.{Doc}

-- the document behind the answer, and the answer as a reply
abbrev pub doc_after : Doc → Result Doc No → Doc
doc_after old (Ok d) = d
doc_after old (Err refusal) = old

abbrev pub reply_after : Result Doc No → Reply
reply_after (Ok d) = R.Root (record { 0 = id_of (block_in d) })
reply_after (Err refusal) = R.No refusal

module _ (w : Setting) (v : Value) (path : List (List ℕ)) (es : List (Entered Value)) (last : Entered Value) (e : Edit (List ℕ)) where
  -- how many gets it takes at most behind the walk
  abbrev pub gets_behind : ℕ
  gets_behind = length (value_blocks (setting_in w last) last.value) + edit_gets (setting_in w last) last.value e None + 2 * carry_ways w v path es + 1

  -- what a line with the edit is due behind the walk, where the edit makes this of the last tree's value
  abbrev pub due_behind : Result Value No → Due Value
  due_behind r = record (judged_across w (idle v) path es last e r) { gets = gets_behind }

-- the reply that is due, and the document stands at the next value, which the store holds
pub record LeavesBehind (old : Doc) (tests : Tests) (v : Value) (path : List (List ℕ)) (es : List (Entered Value)) (last : Entered Value) (e : Edit (List ℕ)) (m : Moment)
    (result : Result Doc No) (n : Moment) : Type 0 where
  pub next : Value
  pub at : IsHeldAt id_of (doc_after old result) tests n next
  pub replies : Replies (typed_lines (setting_of id_of old tests)) m (resting v)
      (due_behind (setting_of id_of old tests) v path es last e (changed (setting_in (setting_of id_of old tests) last) last.value e)) (Some (reply_after result)) n (resting next)

-- these trees, more than one, are those of a walk with these hops, from the value at which the document stands
pub record AreCrossed (old : Doc) (tests : Tests) (held : List (List ℕ)) (v : Value) (path : List (List ℕ)) (hops : List Hop) (top next : Entered Value) (more : List (Entered Value)) : Type 0 where
  pub walked : IsWalked (Storable (trees_from (setting_of id_of old tests) v)) (trees (trees_from (setting_of id_of old tests) v)) held path (top ∷ next ∷ more)
  pub hops_are : hops ≡ hops_of (top ∷ next ∷ more)

pub record Changes (old : Doc) (verb : Verb) (path : List (List ℕ)) (json : List ℕ) (hops : List Hop) (m : Moment) (result : Result Doc No) (n : Moment) : Type 0 where
  pub later : Later m n
  pub same : IfOk result (λ d. (table_in d ≡ table_in old) × (type_in d ≡ type_in old))
  pub failed : result ≡ Err N.Store → Rose m.faults n.faults
  pub leads : (tests : Tests) (held : List (List ℕ)) (v : Value) (top next : Entered Value) (more : List (Entered Value)) → AreTests (table_in old) tests → m.blocks ≡ Some held
      → IsHeldAt id_of old tests m v → AreCrossed old tests held v path hops top next more
      → LeavesBehind old tests v path (top ∷ next ∷ more) (last_tree next more) (edit_of verb (drop (last_tree next more).hop.from path) json) m result n
