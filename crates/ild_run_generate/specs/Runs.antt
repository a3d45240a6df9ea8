-- What the steps of the generator answer, one after another.
use Rattle.std.specs.Prelude.{◌≡◌, ℕ, [], length, Result, Ok, Err}
use Rattle.ild_cbor.specs.declared.why.BlockWhy.{BlockWhy}
use Rattle.ild_data.specs.Spell.{id_of}
use Rattle.ild_data.specs.declared.id.BlockId.{BlockId}
use Rattle.ild_edges.specs.Count.{Rose}
use Rattle.ild_edges.specs.Store.{Moment, Later, block_at}
use Rattle.ild_edges.specs.Told.{IfTold}
use Rattle.ild_generator.specs.Generated.{Generated, generated, root_in, blocks_through}
use Rattle.ild_generator.specs.Schema.{generator_rows, generator_type}
use Rattle.ild_path_edits.specs.Judged.{Tests, AreTests}
use Rattle.ild_run_edit.specs.Naming.{IsTaken}
use Rattle.ild_run_generate.specs.Steps.{TellsBlock, IsOfGenerator, Causes, counts_of}
use Rattle.ild_run_generate.specs.declared.fault.GenerateFault.{GenerateFault}
use Rattle.ild_run_generate.specs.declared.fault.GenerateFault.TheVariants as F
use Rattle.ild_run_generate.specs.declared.summary.Counts.{Counts}
use Rattle.ild_run_generate.specs.declared.summary.Summary.{Summary}
use Rattle.ild_run_standing.specs.Standing.{IsHeldAt}
use Rattle.ild_script_meaning.specs.PlainMap.{as_value}
use Rattle.ild_script_session.specs.Step.{AddsOnly}
use Rattle.ild_typed.specs.Stands.{Stands, bare}
use Rattle.ild_view_doc.specs.Docs.{table_in, type_in}
use Rattle.ild_view_doc.specs.declared.doc.Doc.{Doc}

-- so many steps were taken: the counts are those of the fold, at whose map the document stands
pub record IsThrough (tests : Tests) (seed count : ℕ) (m : Moment) (d : Doc) (c : Counts) (n : Moment) : Type 0 where
  pub counts : c ≡ counts_of (generated seed count)
  pub held : IsHeldAt id_of d tests n (as_value (generated seed count).entries)
  pub adds : AddsOnly m n (blocks_through seed count)

-- or not all were taken
pub record IsStopped (seed count : ℕ) (m : Moment) (f : GenerateFault) (n : Moment) : Type 0 where
  pub cause : Causes (blocks_through seed count) f n
  pub adds : AddsOnly m n (blocks_through seed count)

abbrev pub StepsAnswer : Tests → ℕ → ℕ → Moment → Doc → Result Counts GenerateFault → Moment → Type 0
StepsAnswer tests seed count m new (Ok c) n = IsThrough tests seed count m new c n
StepsAnswer tests seed count m new (Err f) n = IsStopped seed count m f n

-- from the empty map on
pub record TakesSteps (old new : Doc) (seed count : ℕ) (m : Moment) (result : Result Counts GenerateFault) (n : Moment) : Type 0 where
  pub later : Later m n
  pub table : table_in new ≡ table_in old
  pub type : type_in new ≡ type_in old
  pub failed : result ≡ Err F.Store → Rose m.faults n.faults
  pub clashed : (id : BlockId) → result ≡ Err (F.Clash id) → IsTaken n id.0
  pub blamed : (id : BlockId) (why : BlockWhy) → result ≡ Err (F.Block id why) → TellsBlock (table_in old) (type_in old) m n id.0 why
  pub told : (tests : Tests) → AreTests generator_rows tests → IsOfGenerator old → IsHeldAt id_of old tests m (as_value []) → StepsAnswer tests seed count m new result n

-- ---- from the empty map's document on

-- the counts of the fold, the number of its entries, and the id of the root block that is built from scratch from them
abbrev pub summary_of : Generated → Summary
summary_of s = record { sets = s.sets; dels = s.dels; absent = s.absent; len = length s.entries; root = record { 0 = root_in s.entries } }

-- the summary is that of the fold, and what was read to count the entries left the blocks
pub record IsSummed (tests : Tests) (seed count : ℕ) (m : Moment) (s : Summary) (n : Moment) : Type 0 where
  pub summary : s ≡ summary_of (generated seed count)
  pub stands : IfTold n.blocks (λ held. Stands bare (block_at held) id_of generator_rows generator_type s.root.0 (as_value (generated seed count).entries))
  pub adds : AddsOnly m n (blocks_through seed count)

abbrev pub RunAnswer : Tests → ℕ → ℕ → Moment → Result Summary GenerateFault → Moment → Type 0
RunAnswer tests seed count m (Ok s) n = IsSummed tests seed count m s n
RunAnswer tests seed count m (Err f) n = IsStopped seed count m f n

pub record RunsFrom (d : Doc) (seed count : ℕ) (m : Moment) (result : Result Summary GenerateFault) (n : Moment) : Type 0 where
  pub later : Later m n
  pub failed : result ≡ Err F.Store → Rose m.faults n.faults
  pub clashed : (id : BlockId) → result ≡ Err (F.Clash id) → IsTaken n id.0
  pub blamed : (id : BlockId) (why : BlockWhy) → result ≡ Err (F.Block id why) → TellsBlock (table_in d) (type_in d) m n id.0 why
  pub told : (tests : Tests) → AreTests generator_rows tests → IsOfGenerator d → IsHeldAt id_of d tests m (as_value []) → RunAnswer tests seed count m result n
