-- What a run of the generator answers, and what it leaves of the store.
use Rattle.std.specs.Prelude.{◌≡◌, ℕ, List, Some, Result, Ok, Err}
use Rattle.ild_cbor.specs.declared.why.BlockWhy.{BlockWhy}
use Rattle.ild_data.specs.Spell.{id_of}
use Rattle.ild_data.specs.declared.id.BlockId.{BlockId}
use Rattle.ild_edges.specs.Count.{Rose}
use Rattle.ild_edges.specs.Store.{Moment, Later, block_at}
use Rattle.ild_edges.specs.Told.{IfTold}
use Rattle.ild_generator.specs.Generated.{generated, blocks_through}
use Rattle.ild_generator.specs.Schema.{generator_rows, generator_type}
use Rattle.ild_path_edits.specs.Judged.{Tests, AreTests}
use Rattle.ild_run_edit.specs.Naming.{IsTaken}
use Rattle.ild_run_generate.specs.Runs.{summary_of}
use Rattle.ild_run_generate.specs.Steps.{TellsBlock, Causes}
use Rattle.ild_run_generate.specs.declared.fault.GenerateFault.{GenerateFault}
use Rattle.ild_run_generate.specs.declared.fault.GenerateFault.TheVariants as F
use Rattle.ild_run_generate.specs.declared.summary.Summary.{Summary}
use Rattle.ild_script_meaning.specs.PlainMap.{as_value}
use Rattle.ild_script_session.specs.Step.{AddsOnly}
use Rattle.ild_typed.specs.Stands.{Stands, bare}

module _ (seed count : ℕ) where
  -- the summary is that of the fold, whose map stands in the store
  pub record HasGenerated (s : Summary) (n : Moment) : Type 0 where
    pub summary : s ≡ summary_of (generated seed count)
    pub stands : IfTold n.blocks (λ held. Stands bare (block_at held) id_of generator_rows generator_type s.root.0 (as_value (generated seed count).entries))

  abbrev pub TheAnswer : Result Summary GenerateFault → Moment → Type 0
  TheAnswer (Ok s) n = HasGenerated s n
  TheAnswer (Err f) n = Causes (blocks_through seed count) f n

  -- where the store tells what it holds: no blocks came but those of the maps of the steps
  pub record GeneratesTold (m : Moment) (result : Result Summary GenerateFault) (n : Moment) : Type 0 where
    pub answer : TheAnswer result n
    pub adds : AddsOnly m n (blocks_through seed count)

  pub record Generates (m : Moment) (result : Result Summary GenerateFault) (n : Moment) : Type 0 where
    pub later : Later m n
    pub failed : result ≡ Err F.Store → Rose m.faults n.faults
    pub clashed : (id : BlockId) → result ≡ Err (F.Clash id) → IsTaken n id.0
    pub blamed : (id : BlockId) (why : BlockWhy) → result ≡ Err (F.Block id why) → TellsBlock generator_rows generator_type m n id.0 why
    pub told : (held : List (List ℕ)) (tests : Tests) → m.blocks ≡ Some held → AreTests generator_rows tests → GeneratesTold m result n
