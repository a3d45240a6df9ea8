-- Calls that run the generator, and that they do all that their words ask for.
use Rattle.std.proofs.Common.{◌≡◌, ◌⊎◌, ℕ, List, [], ◌∷◌, Option, Some, None, Result, Ok, Err, inl, inr, refl, sym, ◌∙◌, subst}
use Rattle.std.specs.Prelude.{map, String, string_bytes}
use Rattle.std.specs.declared.alloc.Global.{Global}
use Rattle.ild_edges.specs.Count.{Rose}
use Rattle.ild_edges.specs.Sink.{Output, Appends, AppendsFront}
use Rattle.ild_generator.specs.Schema.{generator_rows}
use Rattle.ild_path_edits.specs.Judged.{Tests, AreTests}
use Rattle.ild_run_generate.specs.Generates.{Generates}
use Rattle.ild_run_generate.specs.Text.{summary_text}
use Rattle.ild_run_generate.specs.Words.{generation_in, generation_of}
use Rattle.ild_run_generate.specs.declared.fault.GenerateFault.{GenerateFault}
use Rattle.ild_run_generate.specs.declared.fault.GenerateFault.TheVariants as G
use Rattle.ild_run_generate.specs.declared.summary.Summary.{Summary}
use Rattle.ild_run.specs.Asked.{EndedBy}
use Rattle.ild_run.specs.Complete.{IsComplete}
use Rattle.ild_run.specs.Cut.{CutAs, ToldAs}
use Rattle.ild_run.specs.Ended.{Call}
use Rattle.ild_run.specs.Fault.{fault_text}
use Rattle.ild_run.specs.Generator.{EndsGeneration, GenerationTold, LetsGenerate, GeneratesPlainly, IsCompleteBy, RunsGenerator, generate_fault}
use Rattle.ild_run.specs.Words.{Job, job_in, job_of}
use Rattle.ild_run.specs.declared.fault.Fault.TheVariants as F
use Rattle.ild_run.specs.declared.status.Status.{Status}
use Rattle.ild_run.specs.declared.status.Status.TheVariants as S

-- ---- the words ask for nothing else

pub no_job : (words : List (List ℕ)) (g : ℕ × ℕ) → generation_in words ≡ Some g → job_in words ≡ None
no_job [] g e = absurd cc
no_job (a ∷ []) g e = absurd cc
no_job (a ∷ b ∷ []) g e = absurd cc
no_job (a ∷ b ∷ c ∷ []) g e = refl
no_job (a ∷ b ∷ c ∷ d ∷ words) g e = absurd cc

pub no_job_of : (words : List (String Global)) (g : ℕ × ℕ) → generation_of words ≡ Some g → job_of words ≡ None
no_job_of words g e = no_job (map string_bytes words) g e

never : (o : Option Job) (job : Job) → o ≡ None → o ≡ Some job → ⊥
never o job none some = let e : None ≡ Some job = sym none ∙ some in cc

pub complete_none : (c : Call) (status : Status) → c.job ≡ None → IsComplete c status
complete_none c status none = record {
  runs = λ tests v script given calm. absurd (never c.job _ none given.job);
  checks = λ rows given calm. absurd (never c.job _ none given.job);
  creates = λ v d given calm. absurd (never c.job _ none given.job);
  shows = λ v given calm. absurd (never c.job _ none given.job);
  compares = λ given calm. absurd (never c.job _ none given.job);
  verifies = λ given calm. absurd (never c.job _ none given.job);
  keeps = λ script given calm. absurd (never c.job _ none given.job);
  proves = λ v given calm. absurd (never c.job _ none given.job);
  migrates = λ v given lets. absurd (never c.job _ none given.job);
}

-- ---- a sink that doesn't fail

pub cut_memory : (m n : Output) (status : Status) → (Rose m.faults n.faults → ⊥) → CutAs m status n → status ≡ S.Memory
cut_memory m n S.SinkFault calm cut = absurd (calm cut)
cut_memory m n S.Memory calm cut = refl
cut_memory m n S.Done calm cut = absurd cut
cut_memory m n S.Refused calm cut = absurd cut
cut_memory m n S.Words calm cut = absurd cut
cut_memory m n S.Schema calm cut = absurd cut
cut_memory m n S.Root calm cut = absurd cut
cut_memory m n S.Input calm cut = absurd cut
cut_memory m n S.StoreFault calm cut = absurd cut
cut_memory m n S.Value calm cut = absurd cut

module _ (seed count : ℕ) (c : Call) (status : Status) (ends : EndsGeneration seed count c status) (held : List (List ℕ)) (tests : Tests) (told : c.before.moment.blocks ≡ Some held)
    (are : AreTests generator_rows tests) (lets : LetsGenerate seed count c) where
  abbrev Plainly : Type 0
  Plainly = (status ≡ S.Memory) ⊎ GeneratesPlainly seed count c status

  abbrev Wrote : List ℕ → Status → Type 0
  Wrote text due = ((status ≡ due) × Appends c.before.output.written c.after.output.written text) ⊎ (CutAs c.before.output status c.after.output × AppendsFront c.before.output.written c.after.output.written text)

  memory_by : Wrote (fault_text F.Memory) S.Memory → Plainly
  memory_by (inl all) = inl all.0
  memory_by (inr cut) = inl (cut_memory c.before.output c.after.output status lets.sink cut.0)

  done_by : (s : Summary) → Generates seed count c.before.moment (Ok s) c.after.moment → Wrote (summary_text s) S.Done → Plainly
  done_by s has (inl all) = inr (record {
    status_is = all.0;
    written = subst (λ (x : Summary). Appends c.before.output.written c.after.output.written (summary_text x)) (has.told held tests told are).answer.summary all.1;
  })
  done_by s has (inr cut) = inl (cut_memory c.before.output c.after.output status lets.sink cut.0)

  fault_by : (f : GenerateFault) → Generates seed count c.before.moment (Err f) c.after.moment → ToldAs (generate_fault f) c.before.output status c.after.output → Plainly
  fault_by (G.Block id why) has line = absurd (has.told held tests told are).answer
  fault_by G.Store has line = absurd (lets.store (has.failed refl))
  fault_by (G.Clash id) has line = let hit = (has.told held tests told are).answer in absurd (lets.apart hit.kept hit.new hit.among hit.held hit.collide)
  fault_by G.Memory has line = memory_by line.told

  plain_by : (result : Result Summary GenerateFault) → Generates seed count c.before.moment result c.after.moment → GenerationTold c.before.output result status c.after.output → Plainly
  plain_by (Ok s) has line = done_by s has line
  plain_by (Err f) has line = fault_by f has line

  pub plain : Plainly
  plain = plain_by ends.runs.result ends.runs.generates ends.runs.told

-- ---- as the words ask

pub something_else : (o : Option (ℕ × ℕ)) (root : Option (List ℕ)) (script : Option (List ℕ × List ℕ)) (c : Call) (status : Status) → o ≡ None → EndedBy None root script c status → EndedBy o root script c status
something_else o root script c status is ended = subst (λ o. EndedBy o root script c status) (sym is) ended

pub nothing_generated : (o : Option (ℕ × ℕ)) (c : Call) (status : Status) → o ≡ None → IsCompleteBy o c status
nothing_generated o c status is = subst (λ o. IsCompleteBy o c status) (sym is) tt

module _ (o : Option (ℕ × ℕ)) (count seed : ℕ) (c : Call) (status : Status) (is : o ≡ Some (count, seed)) (same : c.after.supply ≡ c.before.supply)
    (runs : RunsGenerator seed count c.before.moment c.before.output status c.after.moment c.after.output) where
  ends : EndsGeneration seed count c status
  ends = record { runs = runs; same = same }

  pub generation_ended : (root : Option (List ℕ)) (script : Option (List ℕ × List ℕ)) → EndedBy o root script c status
  generation_ended root script = subst (λ o. EndedBy o root script c status) (sym is) ends

  pub all_generated : IsCompleteBy o c status
  all_generated = subst (λ o. IsCompleteBy o c status) (sym is) (λ held tests told are lets. plain seed count c status ends held tests told are lets)
