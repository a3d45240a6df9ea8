-- Putting the block of an empty value.
use Rattle.std.proofs.Common.{◌≡◌, ℕ, ◌+◌, ◌≤◌, List, [], ◌∷◌, Option, Some, Result, Ok, Err, sym, ap, ◌∙◌, subst, arith}
use Rattle.std.specs.Prelude.{length, Contains}
use Rattle.std.specs.List.{AllByRecursion}
use Rattle.ild_build_blocks.specs.Builds.{BuildAnswer, Builds, IsBuilt}
use Rattle.ild_build_blocks.specs.declared.fault.BuildFault.{BuildFault}
use Rattle.ild_build_blocks.specs.declared.fault.BuildFault.TheVariants as B
use Rattle.ild_data.specs.Limits.{longest_block}
use Rattle.ild_data.specs.Spell.{spell, id_of}
use Rattle.ild_data.specs.declared.id.BlockId.{BlockId}
use Rattle.ild_edges.proofs.Later.{Later-trans}
use Rattle.ild_edges.specs.Gained.{AreHeld}
use Rattle.ild_edges.specs.Store.{Moment, block_at}
use Rattle.ild_edges.specs.Told.{IfTold}
use Rattle.ild_schema.specs.Slots.{plainly}
use Rattle.ild_schema.specs.Value.{Value}
use Rattle.ild_schema.specs.declared.number.TypeNo.{TypeNo}
use Rattle.ild_schema.specs.declared.row.Row.{Row}
use Rattle.ild_script_session.specs.Puts.{PutAnswer, PutsBlock}
use Rattle.ild_script_session.specs.Step.{AddsOnly}
use Rattle.ild_script_session.proofs.Came.{adds_trans, adds_wider}
use Rattle.ild_script_session.specs.declared.putting.PutFault.{PutFault}
use Rattle.ild_script_session.specs.declared.putting.PutFault.TheVariants as P
use Rattle.ild_view_doc.specs.Docs.{IsDoc, block_in}
use Rattle.ild_view_doc.specs.declared.doc.Doc.{Doc}
use Rattle.ild_run_open.specs.Empty.{IsEmpty, empty_blocks}
use Rattle.ild_run_open.specs.Starts.{KeepsEmpty, Starts, EmptyStops}
use Rattle.ild_run_open.specs.inside.Steps.{BuildEmptyAnswer, BuildsEmpty, IsEmptyBlock, PutEmptyAnswer, PutsEmpty, TellsBuilt, put_fault}
use Rattle.ild_run_open.specs.declared.start.Start.TheVariants as S
use Rattle.ild_run_open.specs.declared.start.StartFault.{StartFault}
use Rattle.ild_run_open.specs.declared.start.StartFault.TheVariants as F
use Rattle.ild_run_open.proofs.Empties.{empty_block, fits, is_one, nodes_gone, not_in_none, one_block}

-- ---- the block

module _ (h : List ℕ → List ℕ) (rows : List Row) (ty : TypeNo) (v : Value) (empty : IsEmpty rows ty v) (m n : Moment) where
  its_block : (b : List ℕ) → IsBuilt h rows (plainly ty) v m b n → IsEmptyBlock h rows ty v b
  its_block b x = record {
    tree = x.has.tree;
    storable = record {
      fits = fits rows ty v empty;
      tree = x.has.represented;
      sized = subst (λ (bs : List (List ℕ)). AllByRecursion (λ b. length b ≤ longest_block) bs) (sym (one_block h rows ty v x.has.tree empty)) (x.has.sized.0, tt);
    };
    spelled = x.spelled;
  }

  told : (fault : BuildFault) (f : StartFault) → TellsBuilt fault f → BuildAnswer h rows (plainly ty) v m (Err fault) n → BuildEmptyAnswer h rows ty v m (Err f) n
  told B.Store f tells x = subst (λ (y : StartFault). BuildEmptyAnswer h rows ty v m (Err y) n) (sym tells) x.0
  told B.Memory f tells x = subst (λ (y : StartFault). BuildEmptyAnswer h rows ty v m (Err y) n) (sym tells) tt
  told B.Exhausted f tells x = absurd tells
  told B.Size f tells x = absurd tells
  told (B.Clash id kept new) f tells x = absurd tells

  leaves : (result : Result (List ℕ) BuildFault) (answer : Result (List ℕ) StartFault) → Builds h rows (plainly ty) v m result n → BuildEmptyAnswer h rows ty v m answer n → BuildsEmpty h rows ty v m answer n
  leaves result answer x is =
      let few : n.puts ≤ m.puts + 0 = nodes_gone h rows ty v (λ ns. n.puts ≤ m.puts + length ns) empty x.steps.puts in
      let some : m.puts ≤ n.puts = x.steps.later.puts in
      record { answer = is; later = x.steps.later; adds = nodes_gone h rows ty v (AddsOnly m n) empty x.steps.adds; gets = x.steps.gets; puts = omega (arith, few, some) }

  pub builds : (b : List ℕ) → Builds h rows (plainly ty) v m (Ok b) n → BuildsEmpty h rows ty v m (Ok b) n
  builds b x = leaves (Ok b) (Ok b) x (its_block b x.answer)

  pub stops : (fault : BuildFault) (f : StartFault) → TellsBuilt fault f → Builds h rows (plainly ty) v m (Err fault) n → BuildsEmpty h rows ty v m (Err f) n
  stops fault f tells x = leaves (Err fault) (Err f) x (told fault f tells x.answer)

  unbuilt : (f : StartFault) → BuildEmptyAnswer h rows ty v m (Err f) n → EmptyStops h rows ty m f n
  unbuilt F.Store answer = answer
  unbuilt F.Memory answer = tt
  unbuilt F.Mismatch answer = absurd answer
  unbuilt (F.Block id why) answer = absurd answer
  unbuilt (F.Clash id) answer = absurd answer

  pub not_put : (f : StartFault) → BuildsEmpty h rows ty v m (Err f) n → PutsEmpty h rows ty m (Err f) n
  not_put f x = record {
    answer = unbuilt f x.answer;
    asks = record {
      later = x.later;
      adds = adds_wider m n [] (empty_blocks h rows ty) (λ b none. absurd (not_in_none b none)) x.adds;
      gets = let same = x.gets in omega (arith, same);
      puts = let same = x.puts in omega (arith, same);
    };
  }

-- ---- the put

abbrev pub put_result : List ℕ → Result BlockId PutFault → Result (List ℕ) StartFault
put_result block (Ok id) = Ok block
put_result block (Err f) = Err (put_fault f)

module _ (h : List ℕ → List ℕ) (rows : List Row) (ty : TypeNo) (v : Value) (empty : IsEmpty rows ty v) (m j n : Moment) (block : List ℕ) (built : BuildsEmpty h rows ty v m (Ok block) j) where
  blocks_are : block ∷ [] ≡ empty_blocks h rows ty
  blocks_are = ap (λ b. b ∷ []) built.answer.spelled ∙ sym (empty_block h rows ty v built.answer.tree empty built.answer.storable.tree)

  keeps : (result : Result BlockId PutFault) → PutsBlock j block result n → KeepsEmpty h rows ty m n
  keeps result puts = record {
    later = Later-trans m j n built.later puts.later;
    adds = subst (AddsOnly m n) blocks_are (adds_trans m j n (block ∷ []) (adds_wider m j [] (block ∷ []) (λ b none. absurd (not_in_none b none)) built.adds) puts.adds);
    gets = let same = built.gets in let no = puts.gets in omega (arith, same, no);
    puts = let same = built.puts in let one = puts.puts in omega (arith, same, one);
  }

  put_answer : (result : Result BlockId PutFault) → PutAnswer j block result n → PutEmptyAnswer h rows ty m (put_result block result) n
  put_answer (Ok id) answer = record { value = v; empty = empty; is = built.answer; held = answer.1 }
  put_answer (Err P.Failed) answer = let rose = answer in let before = built.later.faults in omega (arith, rose, before)
  put_answer (Err (P.Clash id)) answer =
      let hit = answer.1 in
      record {
        hit = record { kept = hit.kept; new = hit.new; held = hit.held; among = subst (λ (bs : List (List ℕ)). Contains bs hit.new) blocks_are hit.among; collide = hit.collide };
        named = answer.0 ∙ ap id_of (is_one block hit.new hit.among);
      }
  put_answer (Err P.Memory) answer = tt

  pub puts : (result : Result BlockId PutFault) → PutsBlock j block result n → PutsEmpty h rows ty m (put_result block result) n
  puts result x = record { answer = put_answer result x.answer; asks = keeps result x }

-- ---- its document

told_one : (told : Option (List (List ℕ))) (held : List (List ℕ)) (b : List ℕ) → told ≡ Some held → IfTold told (AreHeld (b ∷ [])) → block_at held (id_of b) ≡ Some b
told_one told held b is holds = (subst (λ o. IfTold o (AreHeld (b ∷ []))) is holds).0

pub starts : (h : List ℕ → List ℕ) (rows : List Row) (ty : TypeNo) (m n : Moment) (block : List ℕ) (d : Doc) → PutsEmpty h rows ty m (Ok block) n → IsDoc rows ty block d → Starts h rows ty S.Empty m (Ok d) n
starts h rows ty m n block d puts doc =
    let has = puts.answer in
    let spelled : block_in d ≡ spell has.is.tree = doc.block ∙ has.is.spelled in
    record {
      asks = puts.asks;
      answer = record {
        table = doc.table;
        type = doc.type;
        block = empty_block h rows ty has.value has.is.tree has.empty has.is.storable.tree ∙ ap (λ b. b ∷ []) (sym spelled);
        first = λ held told. record {
          value = has.value;
          is = record {
            stands = record {
              tree = has.is.tree;
              storable = has.is.storable;
              root = ap id_of spelled;
              all = subst (λ (bs : List (List ℕ)). AreHeld bs held) (sym (one_block h rows ty has.value has.is.tree has.empty))
                  (subst (λ b. block_at held (id_of b) ≡ Some b) has.is.spelled (told_one n.blocks held block told has.held), tt);
            };
            spelled = spelled;
          };
          from = has.empty;
        };
      };
    }
