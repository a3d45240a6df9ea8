use Rattle.std.proofs.Common.{◌≡◌, ◌≤◌, ◌+◌, ◌-◌, []}
use Rattle.ild_data.specs.Spell.{id_of}
use Rattle.ild_edges.specs.Store.{Later}
use Rattle.ild_generator.specs.Generated.{generated}
use Rattle.ild_generator.specs.Schema.{generator_rows}
use Rattle.ild_path_edits.specs.Judged.{Tests, AreTests}
use Rattle.ild_run_generate.specs.Runs.{IsThrough}
use Rattle.ild_run_generate.specs.Steps.{IsOfGenerator}
use Rattle.ild_run_standing.specs.Standing.{IsHeldAt}
use Rattle.ild_script_meaning.specs.PlainMap.{as_value}
use Rattle.ild_view_doc.specs.Docs.{table_in, type_in}
use Rattle.ild_run_generate.proofs.running.take_steps.Given as goal

abbrev pub invariant-loop-i : goal.invariant-loop-i
invariant-loop-i g l = record {
  later : Later (g.K.Store.moment l.initial.store) (g.K.Store.moment l.store);
  table : table_in l.doc ≡ table_in l.initial.doc;
  type : type_in l.doc ≡ type_in l.initial.doc;
  number : l.x ≡ (generated l.seed l.i).number;
  some : l.i ≤ l.count;
  few : l.counts.sets + l.counts.dels + l.counts.absent ≤ l.i;
  told : (tests : Tests) → AreTests generator_rows tests → IsOfGenerator l.initial.doc → IsHeldAt id_of l.initial.doc tests (g.K.Store.moment l.initial.store) (as_value [])
      → IsThrough tests l.seed l.i (g.K.Store.moment l.initial.store) l.doc l.counts (g.K.Store.moment l.store);
}

abbrev pub decreases-loop-i : goal.decreases-loop-i
decreases-loop-i g l = l.count - l.i
