-- The steps, one after another.
use Rattle.std.proofs.Common.{◌≡◌, ◌⊎◌, ◌≤◌, ◌<◌, ℕ, zero, suc, ◌+◌, pos, List, ◌++◌, Bool, true, false, Option, Some, None, Ok, Err, inl, inr, refl, ap, subst, arith}
use Rattle.std.specs.Prelude.{Contains, is_some, if◌then◌else◌}
use Rattle.std.proofs.lemmas.List.Elements.{Contains-append_left, Contains-append_right}
use Rattle.ild_data.specs.Key.{put, value_at, without}
use Rattle.ild_edges.specs.Store.{Moment}
use Rattle.ild_generator.specs.Generated.{Generated, generated, advanced, deleted, set_to, with_set, with_deletion, refusal, asked_map, blocks_in, blocks_through}
use Rattle.ild_generator.specs.Numbers.{next, is_deletion, key_of}
use Rattle.ild_path_edits.specs.Judged.{Tests}
use Rattle.ild_run_generate.specs.Runs.{IsThrough, IsStopped}
use Rattle.ild_run_generate.specs.Steps.{Causes, StepTold}
use Rattle.ild_run_generate.specs.declared.fault.GenerateFault.{GenerateFault}
use Rattle.ild_run_generate.specs.declared.fault.GenerateFault.TheVariants as F
use Rattle.ild_run_generate.specs.declared.summary.Counts.{Counts}
use Rattle.ild_run_generate.proofs.Added.{collides_wider}
use Rattle.ild_script_session.proofs.Came.{adds_wider, adds_trans}
use Rattle.ild_script.specs.declared.reply.No.{No}
use Rattle.ild_script_meaning.specs.PlainValue.{Value as Entries}
use Rattle.ild_view_doc.specs.declared.doc.Doc.{Doc}

-- ---- the number stays in a step

set_number : (s : Generated) (es : Entries) (o : Option No) → (with_set s es o).number ≡ s.number
set_number s es None = refl
set_number s es (Some x) = refl

gone_number : (s : Generated) (es : Entries) (o : Option No) → (with_deletion s es o).number ≡ s.number
gone_number s es None = refl
gone_number s es (Some x) = refl

there_number : (s : Generated) (es : Entries) (o : Option No) (there : Bool) → (if there then with_deletion s es o else record s { absent = s.absent + 1 }).number ≡ s.number
there_number s es o true = gone_number s es o
there_number s es o false = refl

number_by : (i : ℕ) (s : Generated) (b : Bool) → (if b then deleted s (key_of s.number) else set_to s (key_of s.number) i).number ≡ s.number
number_by i s true = let es = without (key_of s.number) s.entries in there_number s es (refusal es) (is_some (value_at (key_of s.number) s.entries))
number_by i s false = let es = put (key_of s.number) (pos i) s.entries in set_number s es (refusal es)

pub next_number : (seed i : ℕ) → (generated seed (suc i)).number ≡ next (generated seed i).number
next_number seed i = number_by i (advanced (generated seed i)) (is_deletion (advanced (generated seed i)).number)

-- ---- blocks that may come by fewer steps

first_among : (xs ys : List (List ℕ)) → (b : List ℕ) → Contains xs b → Contains (xs ++ ys) b
first_among xs ys b here = Contains-append_left xs ys b here

split_more : (i j : ℕ) → (i ≤ j) ⊎ (i ≡ suc j) → (suc i ≤ suc j) ⊎ (suc i ≡ suc (suc j))
split_more i j (inl less) = inl (omega (arith, less))
split_more i j (inr is) = inr (ap suc is)

split : (i j : ℕ) → i ≤ suc j → (i ≤ j) ⊎ (i ≡ suc j)
split zero j low = inl (omega arith)
split (suc i) zero low = inr (omega (arith, low))
split (suc i) (suc j) low = split_more i j (split i j (omega (arith, low)))

among_by : (seed i j : ℕ) (b : List ℕ) → (i ≤ j → Contains (blocks_through seed j) b) → Contains (blocks_through seed i) b → (i ≤ j) ⊎ (i ≡ suc j) → Contains (blocks_through seed (suc j)) b
among_by seed i j b fewer here (inl less) = first_among (blocks_through seed j) (blocks_in (asked_map j (advanced (generated seed j)))) b (fewer less)
among_by seed i j b fewer here (inr is) = subst (λ (n : ℕ). Contains (blocks_through seed n) b) is here

pub among_through : (seed i j : ℕ) → i ≤ j → (b : List ℕ) → Contains (blocks_through seed i) b → Contains (blocks_through seed j) b
among_through seed zero zero low b here = here
among_through seed (suc i) zero low b here = absurd (omega (arith, low))
among_through seed i (suc j) low b here = among_by seed i j b (λ less. among_through seed i j less b here) here (split i j low)

pub causes_wider : (few many : List (List ℕ)) (f : GenerateFault) (n : Moment) → ((b : List ℕ) → Contains few b → Contains many b) → Causes few f n → Causes many f n
causes_wider few many (F.Block id why) n among cause = cause
causes_wider few many F.Store n among cause = tt
causes_wider few many (F.Clash id) n among cause = collides_wider n few many among cause
causes_wider few many F.Memory n among cause = tt

module _ (tests : Tests) (seed i : ℕ) (m k n : Moment) (d e : Doc) (c : Counts) (before : IsThrough tests seed i m d c k) where
  abbrev s : Generated
  s = advanced (generated seed i)

  step_among : (b : List ℕ) → Contains (blocks_in (asked_map i s)) b → Contains (blocks_through seed (suc i)) b
  step_among b here = Contains-append_right (blocks_through seed i) (blocks_in (asked_map i s)) b here

  pub through_more : (o : Counts) → StepTold tests i s k e (Ok o) n → IsThrough tests seed (suc i) m e o n
  through_more o step = record {
    counts = step.answer.0;
    held = step.answer.1;
    adds = adds_trans m k n (blocks_through seed (suc i)) (adds_wider m k (blocks_through seed i) (blocks_through seed (suc i)) (first_among (blocks_through seed i) (blocks_in (asked_map i s))) before.adds)
        (adds_wider k n (blocks_in (asked_map i s)) (blocks_through seed (suc i)) step_among step.adds);
  }

  pub stopped_in : (count : ℕ) → i < count → (f : GenerateFault) → StepTold tests i s k e (Err f) n → IsStopped seed count m f n
  stopped_in count less f step =
      let more = among_through seed (suc i) count (omega (arith, less)) in
      let all = blocks_through seed count in record {
        cause = causes_wider (blocks_in (asked_map i s)) all f n (λ b here. more b (step_among b here)) step.answer;
        adds = adds_trans m k n all (adds_wider m k (blocks_through seed i) all (among_through seed i count (omega (arith, less))) before.adds)
            (adds_wider k n (blocks_in (asked_map i s)) all (λ b here. more b (step_among b here)) step.adds);
      }
