-- What looking behind links makes of a session.
use Rattle.std.specs.Prelude.{◌≡◌, ◌⊎◌, ℕ, List, Bool, true, is_some, false, Option, Some, None, unwrap_or}
use Rattle.ild_data.specs.Spell.{id_of}
use Rattle.ild_data.specs.declared.id.BlockId.{BlockId}
use Rattle.ild_dirty.specs.Batch.{batch_moment}
use Rattle.ild_edges.specs.Count.{Rose}
use Rattle.ild_edges.specs.Gained.{Collides}
use Rattle.ild_edges.specs.Store.{Later, Moment}
use Rattle.ild_links.specs.Walk.{Walked}
use Rattle.ild_links_lines.specs.Lines.{WalksFrom, path_in, walk_due}
use Rattle.ild_links_lines.specs.Steps.{RepliesTo}
use Rattle.ild_links_lines.specs.Walks.{Crosses}
use Rattle.ild_links_session.specs.Looks.{is_along, looks_on}
use Rattle.ild_path_edits.specs.Judged.{AreTests, Tests}
use Rattle.ild_run_document.specs.Document.{begun_in, doc_in, own_in}
use Rattle.ild_run_document.specs.Passes.{IsUnmoved}
use Rattle.ild_run_document.specs.declared.document.Document.{Document}
use Rattle.ild_run_standing.specs.Blame.{HasClash, IsBroken}
use Rattle.ild_run_standing.specs.Standing.{StandsSo, setting_of}
use Rattle.ild_schema.specs.Value.{Value}
use Rattle.ild_script.specs.declared.reply.No.{No}
use Rattle.ild_script.specs.declared.reply.No.TheVariants as N
use Rattle.ild_script.specs.declared.reply.Reply.{Reply}
use Rattle.ild_script.specs.declared.reply.Reply.TheVariants as R
use Rattle.ild_script_meaning.specs.Ask.{Ask, Tell, to_tell}
use Rattle.ild_script_meaning.specs.Lines.{Setting, due, typed_lines}
use Rattle.ild_script_session.specs.Batch.{beside, together}
use Rattle.ild_script_session.specs.Session.{Stage}
use Rattle.ild_script_session.specs.Step.{Replies}
use Rattle.ild_view_doc.specs.Docs.{block_in, table_in, type_in}
use Rattle.ild_view_doc.specs.declared.doc.Doc.{Doc}

-- ---- a document

-- the document then: another one, where there is one
abbrev pub doc_then : Doc → Option Doc → Doc
doc_then d other = unwrap_or other d

-- a line along a path, as the crossing calls answer it
abbrev pub CrossesFrom : Doc → Bool → Ask → Moment → Option Reply → Option Doc → Moment → Type 0
CrossesFrom d inside a m found other n = (path : List (List ℕ)) → path_in a ≡ Some path → Crosses id_of inside d (doc_then d other) a path m found n

-- over a batch with these blocks of its own, of a store, and what both are then
pub record CrossesOver (d : Doc) (a : Ask) (path : List (List ℕ)) (m : Moment) (was : List (List ℕ)) (found : Option Reply) (n : Moment) (now : List (List ℕ)) : Type 0 where
  pub other : Doc
  pub gets : ℕ
  pub puts : ℕ
  pub names : (ℕ × ℕ) × (ℕ × ℕ)
  pub crosses : Crosses id_of true d other a path (batch_moment m was 0 0 names.0) found (batch_moment n now gets puts names.1)

abbrev pub CrossesOverAlong : Doc → Ask → Moment → List (List ℕ) → Option Reply → Moment → List (List ℕ) → Type 0
CrossesOverAlong d a m was found n now = (path : List (List ℕ)) → path_in a ≡ Some path → CrossesOver d a path m was found n now

-- ---- a session

-- along each walk of the path, the reply that is due by it
abbrev pub DueAlong : Setting → Ask → List (List ℕ) → Moment → Stage Value → Option Reply → Moment → Stage Value → Type 0
DueAlong w a path m s reply n t =
    (held : List (List ℕ)) (walked : Walked Value) → (together m s).blocks ≡ Some held → WalksFrom w held s.state.value path walked
    → (any : ℕ) × Replies (typed_lines w) m s (walk_due w (is_some s.state.begun) s.state a path any walked) reply n t

pub record LooksTo (w : Setting) (new : Document) (tests : Tests) (a : Ask) (path : List (List ℕ)) (m : Moment) (s : Stage Value) (reply : Option Reply) (n : Moment) : Type 0 where
  pub stage : Stage Value
  pub along : DueAlong w a path m s reply n stage
  pub stands : StandsSo id_of (doc_in new) (begun_in new) (own_in new) tests n stage

-- behind links there was an answer, or none: then the first tree's stays
pub record LooksBehind (old new : Document) (a : Ask) (path : List (List ℕ)) (m : Moment) (found : Option Reply) (n : Moment) : Type 0 where
  pub later : Later m n
  pub table : table_in (doc_in new) ≡ table_in (doc_in old)
  pub type : type_in (doc_in new) ≡ type_in (doc_in old)
  pub begun : begun_in new ≡ begun_in old
  pub none : found ≡ None → block_in (doc_in new) ≡ block_in (doc_in old)
  pub kept : (refusal : No) → found ≡ Some (R.No refusal) → block_in (doc_in new) ≡ block_in (doc_in old)
  pub told : (t : Tell) (old_path : List (List ℕ)) → a ≡ to_tell t old_path → block_in (doc_in new) ≡ block_in (doc_in old)
  pub rooted : (id : BlockId) → found ≡ Some (R.Root id) → id.0 ≡ id_of (block_in (doc_in new))
  pub failed : found ≡ Some (R.No N.Store) → Rose m.faults n.faults
  pub leads : (tests : Tests) (s : Stage Value) (first : Reply) → AreTests (table_in (doc_in old)) tests → StandsSo id_of (doc_in old) (begun_in old) (own_in old) tests m s
      → (due (setting_of id_of (doc_in old) tests) a s.state).reply ≡ Some first → looks_on a first ≡ true
      → LooksTo (setting_of id_of (doc_in old) tests) new tests a path m s (Some (unwrap_or found first)) n

abbrev pub LooksAlong : Document → Document → Ask → Moment → Option Reply → Moment → Type 0
LooksAlong old new a m found n = (path : List (List ℕ)) → path_in a ≡ Some path → LooksBehind old new a path m found n

-- ---- a line that was read

pub record TurnsLinkedTo (w : Setting) (new : Document) (tests : Tests) (a : Ask) (m : Moment) (s : Stage Value) (reply : Option Reply) (n : Moment) : Type 0 where
  pub stage : Stage Value
  pub replies : RepliesTo w m s a reply n stage (path_in a)
  pub stands : StandsSo id_of (doc_in new) (begun_in new) (own_in new) tests n stage

pub record TurnsLinked (old new : Document) (a : Ask) (m : Moment) (reply : Option Reply) (n : Moment) : Type 0 where
  pub later : Later m n
  pub table : table_in (doc_in new) ≡ table_in (doc_in old)
  pub type : type_in (doc_in new) ≡ type_in (doc_in old)
  pub kept : (refusal : No) → reply ≡ Some (R.No refusal) → IsUnmoved old new
  pub told : (t : Tell) (path : List (List ℕ)) → a ≡ to_tell t path → IsUnmoved old new
  pub rooted : (id : BlockId) → reply ≡ Some (R.Root id) → id.0 ≡ id_of (block_in (doc_in new))
  pub failed : reply ≡ Some (R.No N.Store) → Rose m.faults n.faults
  pub blamed : is_along a ≡ false → reply ≡ Some (R.No N.Block) → IsBroken id_of (doc_in old) (beside (begun_in old) (own_in old) m).blocks m.lacks n.lacks
  pub clashed : is_along a ≡ false → reply ≡ Some (R.No N.Clash) → Collides n (own_in old) ⊎ HasClash (beside (begun_in new) (own_in new) n)
  pub leads : (tests : Tests) (s : Stage Value) → AreTests (table_in (doc_in old)) tests → StandsSo id_of (doc_in old) (begun_in old) (own_in old) tests m s
      → TurnsLinkedTo (setting_of id_of (doc_in old) tests) new tests a m s reply n
