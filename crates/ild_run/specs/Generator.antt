-- How a call ends that runs the generator.
use Rattle.std.specs.Prelude.{◌≡◌, ◌⊎◌, ◌≤◌, ℕ, List, Option, Some, None, Result, Ok, Err, Contains}
use Rattle.ild_edges.specs.Count.{Rose}
use Rattle.ild_edges.specs.Sink.{Output, Appends, AppendsFront}
use Rattle.ild_edges.specs.Store.{Moment}
use Rattle.ild_generator.specs.Generated.{generated, blocks_through}
use Rattle.ild_generator.specs.Schema.{generator_rows}
use Rattle.ild_path_edits.specs.Judged.{Tests, AreTests}
use Rattle.ild_run_generate.specs.Generates.{Generates}
use Rattle.ild_run_generate.specs.Runs.{summary_of}
use Rattle.ild_run_generate.specs.Text.{summary_text}
use Rattle.ild_run_generate.specs.declared.fault.GenerateFault.{GenerateFault}
use Rattle.ild_run_generate.specs.declared.fault.GenerateFault.TheVariants as G
use Rattle.ild_run_generate.specs.declared.summary.Summary.{Summary}
use Rattle.ild_script_session.specs.Plain.{AreApart}
use Rattle.ild_run.specs.Cut.{CutAs, ToldAs}
use Rattle.ild_run.specs.Ended.{Call}
use Rattle.ild_run.specs.declared.fault.Fault.{Fault}
use Rattle.ild_run.specs.declared.fault.Fault.TheVariants as F
use Rattle.ild_run.specs.declared.status.Status.{Status}
use Rattle.ild_run.specs.declared.status.Status.TheVariants as S

-- a block that is lacking is one beneath the root of the map so far
abbrev pub generate_fault : GenerateFault → Fault
generate_fault (G.Block id why) = F.Root id why
generate_fault G.Store = F.Store
generate_fault (G.Clash id) = F.Clash id
generate_fault G.Memory = F.Memory

-- the lines of the summary were written, or cut off; or a fault was told
abbrev pub GenerationTold : Output → Result Summary GenerateFault → Status → Output → Type 0
GenerationTold m (Ok s) status n = ((status ≡ S.Done) × Appends m.written n.written (summary_text s)) ⊎ (CutAs m status n × AppendsFront m.written n.written (summary_text s))
GenerationTold m (Err f) status n = ToldAs (generate_fault f) m status n

-- the generator was run, and its summary written
pub record RunsGenerator (seed count : ℕ) (m : Moment) (was : Output) (status : Status) (k : Moment) (now : Output) : Type 0 where
  pub result : Result Summary GenerateFault
  pub generates : Generates seed count m result k
  pub told : GenerationTold was result status now
  pub faults : was.faults ≤ now.faults

-- and no input was taken
pub record EndsGeneration (seed count : ℕ) (c : Call) (status : Status) : Type 0 where
  pub runs : RunsGenerator seed count c.before.moment c.before.output status c.after.moment c.after.output
  pub same : c.after.supply ≡ c.before.supply

-- ---- where nothing stands in the way

-- no count of faults rose, and no block of a map of the steps collides with one that the store holds
pub record LetsGenerate (seed count : ℕ) (c : Call) : Type 0 where
  pub store : Rose c.before.moment.faults c.after.moment.faults → ⊥
  pub sink : Rose c.before.output.faults c.after.output.faults → ⊥
  pub apart : AreApart c.after.moment (Contains (blocks_through seed count))

-- the summary of the fold was written
pub record GeneratesPlainly (seed count : ℕ) (c : Call) (status : Status) : Type 0 where
  pub status_is : status ≡ S.Done
  pub written : Appends c.before.output.written c.after.output.written (summary_text (summary_of (generated seed count)))

-- over a store that tells what it holds, all is done, unless memory is wanting
abbrev pub IsCompleteBy : Option (ℕ × ℕ) → Call → Status → Type 0
IsCompleteBy None c status = Unit {0}
IsCompleteBy (Some g) c status =
    (held : List (List ℕ)) (tests : Tests) → c.before.moment.blocks ≡ Some held → AreTests generator_rows tests → LetsGenerate g.1 g.0 c → (status ≡ S.Memory) ⊎ GeneratesPlainly g.1 g.0 c status
