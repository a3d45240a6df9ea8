-- The run of the generator, from the empty map's document.
use Rattle.std.proofs.Common.{◌≡◌, inl, ℕ, [], ◌∷◌, List, length, Option, Some, None, Result, Ok, Err, refl, sym, ap, ◌∙◌, subst, arith}
use Rattle.std.specs.Prelude.{Contains}
use Rattle.ild_cbor.specs.declared.why.BlockWhy.{BlockWhy}
use Rattle.ild_data.specs.Spell.{id_of}
use Rattle.ild_data.specs.declared.id.BlockId.{BlockId}
use Rattle.ild_edges.proofs.Among.{IsIn-contains}
use Rattle.ild_edges.proofs.Later.{Later-refl, Later-trans}
use Rattle.ild_edges.specs.Store.{Moment, Later, Keeps, block_at}
use Rattle.ild_edges.specs.Told.{BothTold, IfTold}
use Rattle.ild_generator.specs.Generated.{Generated, generated, root_in, blocks_in, blocks_through}
use Rattle.ild_generator.specs.Schema.{generator_rows, generator_type}
use Rattle.ild_open.specs.Broken.{IsRefused}
use Rattle.ild_path_edits.specs.Judged.{Tests}
use Rattle.ild_run_edit.specs.Naming.{IsTaken}
use Rattle.ild_run_generate.specs.inside.Counting.{CountIs, CountsEntries}
use Rattle.ild_run_generate.specs.Generates.{Generates, GeneratesTold}
use Rattle.ild_run_generate.specs.Runs.{RunAnswer, RunsFrom, TakesSteps}
use Rattle.ild_run_generate.specs.inside.Starting.{start_fault}
use Rattle.ild_run_generate.specs.Steps.{TellsBlock, Causes, IsOfGenerator, counts_of}
use Rattle.ild_run_generate.specs.declared.fault.GenerateFault.{GenerateFault}
use Rattle.ild_run_generate.specs.declared.fault.GenerateFault.TheVariants as F
use Rattle.ild_run_generate.specs.declared.summary.Counts.{Counts}
use Rattle.ild_run_generate.specs.declared.summary.Summary.{Summary}
use Rattle.ild_run_generate.proofs.Added.{collides_wider, rose_later}
use Rattle.ild_script_session.proofs.Came.{adds_none, adds_wider, adds_trans}
use Rattle.ild_run_generate.proofs.Ending.{counted, root_is, stands_then}
use Rattle.ild_run_generate.proofs.Through.{among_through}
use Rattle.ild_run_open.specs.Empty.{IsEmpty, empty_of, empty_blocks}
use Rattle.ild_run_open.specs.Starts.{ClashesEmpty, Starts}
use Rattle.ild_run_open.specs.declared.start.Start.TheVariants as S
use Rattle.ild_run_open.specs.declared.start.StartFault.{StartFault}
use Rattle.ild_run_open.specs.declared.start.StartFault.TheVariants as P
use Rattle.ild_run_standing.specs.Laws.{HeldAreStanding, StandingAreAt}
use Rattle.ild_run_standing.specs.Standing.{IsHeldAt}
use Rattle.ild_schema.specs.Value.{Value}
use Rattle.ild_schema.specs.declared.number.TypeNo.{TypeNo}
use Rattle.ild_schema.specs.declared.row.Row.{Row}
use Rattle.ild_script_meaning.specs.PlainMap.{as_value}
use Rattle.ild_script_session.specs.Step.{AddsOnly}
use Rattle.ild_typed.specs.Stands.{Stands, bare}
use Rattle.ild_view_doc.specs.Docs.{table_in, type_in, block_in}
use Rattle.ild_view_doc.specs.declared.doc.Doc.{Doc}

-- ---- to the end

count_cause : (v : Value) (f : GenerateFault) (bs : List (List ℕ)) (n : Moment) → CountIs v (Err f) → Causes bs f n
count_cause v (F.Block id why) bs n is = is
count_cause v F.Store bs n is = tt
count_cause v (F.Clash id) bs n is = absurd is
count_cause v F.Memory bs n is = tt

abbrev summary_made : Counts → ℕ → List ℕ → Summary
summary_made c len root = record { sets = c.sets; dels = c.dels; absent = c.absent; len = len; root = record { 0 = root } }

-- not all steps were taken
pub run_stopped : (old d : Doc) (seed count : ℕ) (m n : Moment) (f : GenerateFault) → TakesSteps old d seed count m (Err f) n → RunsFrom old seed count m (Err f) n
run_stopped old d seed count m n f steps = record {
  later = steps.later;
  failed = λ e. steps.failed (let g = e in cc);
  clashed = λ id e. steps.clashed id (let g = e in cc);
  blamed = λ id why e. steps.blamed id why (let g = e in cc);
  told = steps.told;
}

module _ (old d : Doc) (seed count : ℕ) (m k n : Moment) (c : Counts) (steps : TakesSteps old d seed count m (Ok c) k) where
  abbrev v : Value
  v = as_value (generated seed count).entries

  pub run_cut : (f : GenerateFault) → CountsEntries d k (Err f) n → RunsFrom old seed count m (Err f) n
  run_cut f read = record {
    later = Later-trans m k n steps.later read.reads.later;
    failed = λ e. rose_later m k n steps.later (read.failed (let g = e in cc));
    clashed = λ id e. absurd (read.unclashed id (let g = e in cc));
    blamed = λ id why e. record {
      doc = d;
      table = steps.table;
      type = steps.type;
      from = k;
      to = n;
      after = steps.later;
      before = Later-refl n;
      cause = inl (subst (λ (r : List Row). IsRefused id_of r k.blocks k.lacks n.lacks (type_in old) (id_of (block_in d)) id.0 why) steps.table
          (subst (λ (t : TypeNo). IsRefused id_of (table_in d) k.blocks k.lacks n.lacks t (id_of (block_in d)) id.0 why) steps.type (read.refused id why (let g = e in cc))));
    };
    told = λ tests are of held.
        let through = steps.told tests are of held in record {
          cause = count_cause v f (blocks_through seed count) n (read.told tests v through.held);
          adds = adds_trans m k n (blocks_through seed count) through.adds (adds_none k n (blocks_through seed count) read.reads.blocks);
        };
  }

  pub run_done : HeldAreStanding → (len : ℕ) (root : BlockId) → CountsEntries d k (Ok len) n → root.0 ≡ id_of (block_in d)
      → RunsFrom old seed count m (Ok (record { sets = c.sets; dels = c.dels; absent = c.absent; len = len; root = root })) n
  run_done back len root read is = record {
    later = Later-trans m k n steps.later read.reads.later;
    failed = λ e. absurd cc;
    clashed = λ id e. absurd cc;
    blamed = λ id why e. absurd cc;
    told = λ tests are of held.
        let through = steps.told tests are of held in
        let now : IsOfGenerator d = record { table = steps.table ∙ of.table; type = steps.type ∙ of.type } in
        let g : Generated = generated seed count in
        let many : len ≡ length g.entries = read.told tests v through.held ∙ counted g.entries in
        let there : root.0 ≡ root_in g.entries = is ∙ root_is d now tests k g.entries through.held in record {
          summary = ap (λ (x : Counts). summary_made x len root.0) through.counts ∙ ap (λ (l : ℕ). summary_made (counts_of g) l root.0) many ∙ ap (λ (id : List ℕ). summary_made (counts_of g) (length g.entries) id) there;
          stands = subst (λ (id : List ℕ). IfTold n.blocks (λ blocks. Stands bare (block_at blocks) id_of generator_rows generator_type id v)) (sym is) (stands_then d now tests k g.entries through.held back n read.reads.blocks);
          adds = adds_trans m k n (blocks_through seed count) through.adds (adds_none k n (blocks_through seed count) read.reads.blocks);
        };
  }

-- ---- from the start

-- a block that is told of a document is told from an earlier moment on, and of this table and type
pub blames_as : (few rows : List Row) (of ty : TypeNo) (m k n : Moment) (id : List ℕ) (why : BlockWhy) → few ≡ rows → of ≡ ty → Later m k → TellsBlock few of k n id why → TellsBlock rows ty m n id why
blames_as few rows of ty m k n id why table type later x =
    subst (λ (r : List Row). TellsBlock r ty m n id why) table
    (subst (λ (t : TypeNo). TellsBlock few t m n id why) type (record { doc = x.doc; table = x.table; type = x.type; from = x.from; to = x.to; after = Later-trans m k x.from later x.after; before = x.before; cause = x.cause }))

told_by : (a b : Option (List (List ℕ))) (held : List (List ℕ)) → a ≡ Some held → BothTold a b Keeps → (now : List (List ℕ)) × (b ≡ Some now)
told_by (Some a) (Some b) held is keeps = (b, refl)
told_by (Some a) None held is keeps = absurd keeps
told_by None b held is keeps = absurd cc

module _ (law : StandingAreAt) (rows : List Row) (table : rows ≡ generator_rows) (seed count : ℕ) (m k : Moment) where
  empty_among : (b : List ℕ) → Contains (blocks_in []) b → Contains (blocks_through seed count) b
  empty_among b here = among_through seed 0 count (omega arith) b here

  start_adds : AddsOnly m k (empty_blocks id_of rows generator_type) → AddsOnly m k (blocks_through seed count)
  start_adds adds = adds_wider m k (blocks_in []) (blocks_through seed count) empty_among (subst (λ (r : List Row). AddsOnly m k (empty_blocks id_of r generator_type)) table adds)

  -- it couldn't start
  pub stopped : (f : StartFault) → Starts id_of rows generator_type S.Empty m (Err f) k → Generates seed count m (Err (start_fault f)) k
  stopped (P.Block id why) starts = absurd starts.answer
  stopped P.Mismatch starts = absurd (let e = sym (ap (λ r. empty_of r generator_type) table) ∙ starts.answer.0 in cc)
  stopped P.Store starts = record { later = starts.asks.later; failed = λ e. starts.answer; clashed = λ id e. absurd cc; blamed = λ id why e. absurd cc; told = λ held tests told are. record { answer = tt; adds = start_adds starts.asks.adds } }
  stopped P.Memory starts = record { later = starts.asks.later; failed = λ e. absurd cc; clashed = λ id e. absurd cc; blamed = λ id why e. absurd cc; told = λ held tests told are. record { answer = tt; adds = start_adds starts.asks.adds } }
  stopped (P.Clash id) starts =
      let clash : ClashesEmpty id_of generator_rows generator_type id.0 k = subst (λ (r : List Row). ClashesEmpty id_of r generator_type id.0 k) table starts.answer in record {
        later = starts.asks.later;
        failed = λ e. absurd cc;
        clashed = λ other e. subst (λ (i : List ℕ). IsTaken k i) (same_clash id other e) (taken id.0 clash);
        blamed = λ other why e. absurd cc;
        told = λ held tests told are. record { answer = collides_wider k (blocks_in []) (blocks_through seed count) empty_among clash.hit; adds = start_adds starts.asks.adds };
      }
    where
      taken : (id : List ℕ) → ClashesEmpty id_of generator_rows generator_type id k → IsTaken k id
      taken id clash =
          let hit = clash.hit in
          record { new = hit.new; named = sym clash.named; hit = record { kept = hit.kept; new = hit.new; held = hit.held; among = IsIn-contains hit.new (hit.new ∷ []) (inl refl); collide = hit.collide } }

      same_clash : (i j : BlockId) → ◌≡◌ {A = Result Summary GenerateFault} (Err (F.Clash i)) (Err (F.Clash j)) → i.0 ≡ j.0
      same_clash i j e = cc

  module _ (d : Doc) (starts : Starts id_of rows generator_type S.Empty m (Ok d) k) where
    of_start : IsOfGenerator d
    of_start = record { table = starts.answer.table ∙ table; type = starts.answer.type }

    held_first : (tests : Tests) (held : List (List ℕ)) → k.blocks ≡ Some held → IsHeldAt id_of d tests k (as_value [])
    held_first tests held told =
        let first = starts.answer.first held told in
        let empty : first.value ≡ as_value [] = (let e = sym (subst (λ (r : List Row). IsEmpty r generator_type first.value) table first.from) in cc) in
        let there = subst (λ (b : List ℕ). block_at held (id_of b) ≡ Some b) (sym first.is.spelled) first.is.stands.all.0 in
        let stands = subst (λ (r : List Row). Stands bare (block_at held) id_of r (type_in d) (id_of (block_in d)) first.value) (sym starts.answer.table)
        (subst (λ (t : TypeNo). Stands bare (block_at held) id_of rows t (id_of (block_in d)) first.value) (sym starts.answer.type) first.is.stands) in
        subst (λ (x : Value). IsHeldAt id_of d tests k x) empty (law id_of d tests k held first.value told there stands)

    told_answer : (n : Moment) (tests : Tests) (r : Result Summary GenerateFault) → RunAnswer tests seed count k r n → GeneratesTold seed count m r n
    told_answer n tests (Ok s) summed = record { answer = record { summary = summed.summary; stands = summed.stands }; adds = adds_trans m k n (blocks_through seed count) (start_adds starts.asks.adds) summed.adds }
    told_answer n tests (Err f) stop = record { answer = stop.cause; adds = adds_trans m k n (blocks_through seed count) (start_adds starts.asks.adds) stop.adds }

    pub ran : (n : Moment) (r : Result Summary GenerateFault) → RunsFrom d seed count k r n → Generates seed count m r n
    ran n r runs = record {
      later = Later-trans m k n starts.asks.later runs.later;
      failed = λ e. rose_later m k n starts.asks.later (runs.failed e);
      clashed = runs.clashed;
      blamed = λ id why e. blames_as (table_in d) generator_rows (type_in d) generator_type m k n id.0 why of_start.table of_start.type starts.asks.later (runs.blamed id why e);
      told = λ held tests told are.
          let now = told_by m.blocks k.blocks held told starts.asks.later.keeps in
          told_answer n tests r (runs.told tests are of_start (held_first tests now.0 now.1));
    }
