-- Over which stores a session answers lines: one that tells what it holds holds the value at which the session stands.
use Rattle.std.specs.Prelude.{◌≢◌, None}
use Rattle.ild_data.specs.Spell.{id_of}
use Rattle.ild_edges.specs.Store.{Moment}
use Rattle.ild_path_edits.specs.Judged.{AreTests, Tests}
use Rattle.ild_run_document.specs.Document.{begun_in, doc_in, own_in}
use Rattle.ild_run_document.specs.declared.document.Document.{Document}
use Rattle.ild_run_standing.specs.Standing.{StandsSo}
use Rattle.ild_schema.specs.Value.{Value}
use Rattle.ild_script_session.specs.Session.{Stage}
use Rattle.ild_view_doc.specs.Docs.{table_in}

-- a stage at which the session stands
pub record HasStage (d : Document) (m : Moment) : Type 0 where
  pub tests : Tests
  pub are : AreTests (table_in (doc_in d)) tests
  pub stage : Stage Value
  pub stands : StandsSo id_of (doc_in d) (begun_in d) (own_in d) tests m stage

abbrev pub IsReady : Document → Moment → Type 0
IsReady d m = m.blocks ≢ None → ∥ HasStage d m ∥₁
