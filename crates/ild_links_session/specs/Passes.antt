-- What a line leaves of a session that looks across links, by its reply, over every store; and what it leads to from where the session stands.
use Rattle.std.specs.Prelude.{◌≡◌, ◌⊎◌, ℕ, List, false, Option, Some}
use Rattle.ild_data.specs.Spell.{id_of}
use Rattle.ild_data.specs.declared.id.BlockId.{BlockId}
use Rattle.ild_edges.specs.Gained.{Collides}
use Rattle.ild_edges.specs.Store.{Moment}
use Rattle.ild_links_lines.specs.Steps.{StepAcross}
use Rattle.ild_links_session.specs.Looks.{is_along}
use Rattle.ild_path_edits.specs.Judged.{AreTests, Tests}
use Rattle.ild_run_document.specs.Document.{begun_in, doc_in, own_in}
use Rattle.ild_run_document.specs.Passes.{IsUnmoved}
use Rattle.ild_run_document.specs.declared.document.Document.{Document}
use Rattle.ild_run_standing.specs.Blame.{HasClash, IsBroken}
use Rattle.ild_run_standing.specs.Standing.{StandsSo, setting_of}
use Rattle.ild_schema.specs.Value.{Value}
use Rattle.ild_script.specs.Line.{reads}
use Rattle.ild_script.specs.declared.reply.No.{No}
use Rattle.ild_script.specs.declared.reply.No.TheVariants as N
use Rattle.ild_script.specs.declared.reply.Reply.{Reply}
use Rattle.ild_script.specs.declared.reply.Reply.TheVariants as R
use Rattle.ild_script_meaning.specs.Ask.{Tell, asked, to_tell}
use Rattle.ild_script_session.specs.Batch.{beside}
use Rattle.ild_script_session.specs.Session.{Stage}
use Rattle.ild_view_doc.specs.Docs.{block_in, table_in, type_in}

-- The line leads to a stage at which the session stands then: it is answered along the walk of its path.
pub record LeadsLinked (old new : Document) (tests : Tests) (m : Moment) (s : Stage Value) (line : List ℕ) (reply : Option Reply) (n : Moment) : Type 0 where
  pub stage : Stage Value
  pub step : StepAcross (setting_of id_of (doc_in old) tests) m s line reply n stage
  pub stands : StandsSo id_of (doc_in new) (begun_in new) (own_in new) tests n stage

-- A refusal and a read leave the block and the batch, and a root that is told is the block's. Of a line along no path: a block is blamed only where
-- one is broken, of what the store and the batch hold together, and a clash is told only where a block of the batch's own collides with one that the
-- store holds, or another one with one that both hold together.
pub record PassesLinked (old : Document) (m : Moment) (line : List ℕ) (reply : Option Reply) (n : Moment) (new : Document) : Type 0 where
  pub table : table_in (doc_in new) ≡ table_in (doc_in old)
  pub type : type_in (doc_in new) ≡ type_in (doc_in old)
  pub kept : (refusal : No) → reply ≡ Some (R.No refusal) → IsUnmoved old new
  pub told : (t : Tell) (path : List (List ℕ)) → asked (reads line) ≡ to_tell t path → IsUnmoved old new
  pub rooted : (id : BlockId) → reply ≡ Some (R.Root id) → id.0 ≡ id_of (block_in (doc_in new))
  pub blamed : is_along (asked (reads line)) ≡ false → reply ≡ Some (R.No N.Block) → IsBroken id_of (doc_in old) (beside (begun_in old) (own_in old) m).blocks m.lacks n.lacks
  pub clashed : is_along (asked (reads line)) ≡ false → reply ≡ Some (R.No N.Clash) → Collides n (own_in old) ⊎ HasClash (beside (begun_in new) (own_in new) n)
  pub leads : (tests : Tests) (s : Stage Value) → AreTests (table_in (doc_in old)) tests → StandsSo id_of (doc_in old) (begun_in old) (own_in old) tests m s → LeadsLinked old new tests m s line reply n
