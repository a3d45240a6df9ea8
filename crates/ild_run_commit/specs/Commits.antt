-- What the commit of a batch leaves: the line's reply, from where the batch is carried.
use Rattle.std.specs.Prelude.{◌≡◌, ℕ, ◌≤◌, List, length, Some, Result, Err}
use Rattle.ild_dirty.specs.Flush.{ClashAnswer}
use Rattle.ild_dirty.specs.declared.fault.FlushFault.{FlushFault}
use Rattle.ild_dirty.specs.declared.fault.FlushFault.TheVariants as F
use Rattle.ild_edges.specs.Count.{Rose}
use Rattle.ild_edges.specs.Store.{Moment, Later}
use Rattle.ild_schema.specs.Value.{Value}
use Rattle.ild_script_batch.specs.Commits.{commit_reply, commit_stage}
use Rattle.ild_script_batch.specs.Inside.{batching, begun_at}
use Rattle.ild_script_meaning.specs.Lines.{commit_due, typed_lines}
use Rattle.ild_script_session.specs.Step.{Carries, Replies}
use Rattle.ild_path_edits.specs.Judged.{Tests, AreTests}
use Rattle.ild_view_doc.specs.Docs.{table_in}
use Rattle.ild_view_doc.specs.declared.doc.Doc.{Doc}
use Rattle.ild_run_standing.specs.Standing.{DocIsAt, setting_of}

pub record Commits (h : List ℕ → List ℕ) (d : Doc) (own : List (List ℕ)) (m : Moment) (result : Result (Unit {0}) FlushFault) (n : Moment) : Type 0 where
  pub later : Later m n
  pub failed : result ≡ Err F.Store → Rose m.faults n.faults
  pub clashed : ClashAnswer own result n
  pub replies : (tests : Tests) (v kept : Value) (owed : ℕ) → AreTests (table_in d) tests → DocIsAt h d m v → length own ≤ owed → Carries (typed_lines (setting_of h d tests)) m (batching v kept owed own)
      → Replies (typed_lines (setting_of h d tests)) m (batching v kept owed own)
      (commit_due (setting_of h d tests) (begun_at v kept) (Some kept))
      (Some (commit_reply (setting_of h d tests) v result)) n (commit_stage v kept owed own result)
