-- A step, from where the document stands.
use Rattle.std.proofs.Common.{◌≡◌, ◌≢◌, ◌⊎◌, ℕ, ◌<◌, ◌^◌, pos, List, false, Some, Result, Ok, Err, inl, inr, refl, sym, ap, ◌∙◌, subst}
use Rattle.std.specs.Prelude.{Contains}
use Rattle.ild_data.specs.Data.{integer}
use Rattle.ild_data.specs.Spell.{id_of}
use Rattle.ild_edges.specs.Store.{Moment}
use Rattle.ild_generator.specs.Generated.{Generated, obeyed, asked_map, blocks_in}
use Rattle.ild_generator.specs.Laws.{setting_with, step_edit, step_makes, StepsAreEdits, StepsAddBlocks}
use Rattle.ild_generator.specs.Numbers.{is_deletion}
use Rattle.ild_generator.specs.Schema.{generator_rows}
use Rattle.ild_path_edits.specs.Edit.{Edit}
use Rattle.ild_path_edits.specs.Judged.{Tests, AreTests}
use Rattle.ild_run_edit.specs.Edits.{edit_of, reply_of}
use Rattle.ild_run_generate.specs.Steps.{IsAsked, IsOfGenerator, counts_of, one_more, one_absent, outcome_of}
use Rattle.ild_run_generate.specs.declared.asking.Asked.{Asked}
use Rattle.ild_run_generate.specs.declared.stepping.Outcome.TheVariants as O
use Rattle.ild_run_generate.proofs.Added.{collides_wider}
use Rattle.ild_run_generate.proofs.Leading.{LedBy, led, same_setting}
use Rattle.ild_run_generate.proofs.Taking.{ComesTo, asked_is, done, absent, left, why}
use Rattle.ild_run_standing.specs.Answers.{AnswersAs, LeadsOn}
use Rattle.ild_run_standing.specs.Standing.{IsHeldAt}
use Rattle.ild_schema.specs.declared.row.Row.{Row}
use Rattle.ild_script.specs.declared.reply.No.{No}
use Rattle.ild_script.specs.declared.reply.No.TheVariants as N
use Rattle.ild_script_meaning.specs.Ask.{to_edit}
use Rattle.ild_script_meaning.specs.Lines.{Setting, read_json, edit_blocks, typed_lines}
use Rattle.ild_script_meaning.specs.PlainMap.{as_value, IsPlain}
use Rattle.ild_script_session.specs.Session.{resting}
use Rattle.ild_script_session.specs.Step.{AddsOnly, Carries, Collides, HasCause}
use Rattle.ild_script_session.proofs.Came.{adds_wider}
use Rattle.ild_view_doc.specs.declared.doc.Doc.{Doc}

module _ (edits : StepsAreEdits) (blocks : StepsAddBlocks) (old new : Doc) (x i : ℕ) (low : i < 2 ^ 64) (a : Asked) (asked : IsAsked x i a) (m n : Moment) (answer : Result (Unit {0}) No)
    (answers : AnswersAs id_of old new (to_edit (edit_of a.verb a.path a.json)) m (Some (reply_of answer new)) n) (tests : Tests) (s : Generated) (are : AreTests generator_rows tests) (of : IsOfGenerator old)
    (plain : IsPlain s.entries) (same : s.number ≡ x) (held : IsHeldAt id_of old tests m (as_value s.entries)) where
  abbrev e : Edit (List ℕ)
  e = step_edit s.number a.json

  abbrev may_come : List (List ℕ)
  may_come = edit_blocks (setting_with tests) (as_value s.entries) e (step_makes i s)

  of_new : IsOfGenerator new
  of_new = record { table = answers.table ∙ of.table; type = answers.type ∙ of.type }

  json : is_deletion s.number ≡ false → read_json a.json ≡ Some (integer (pos i))
  json = subst (λ (y : ℕ). is_deletion y ≡ false → read_json a.json ≡ Some (integer (pos i))) (sym same) asked.json

  leads : LeadsOn id_of (setting_with tests) new (to_edit e) m (as_value s.entries) (Some (reply_of answer new)) n
  leads =
      subst (λ (d : Edit (List ℕ)). LeadsOn id_of (setting_with tests) new (to_edit d) m (as_value s.entries) (Some (reply_of answer new)) n) (asked_is x i a asked ∙ ap (λ y. step_edit y a.json) (sym same))
      (subst (λ (w : Setting). LeadsOn id_of w new (to_edit (edit_of a.verb a.path a.json)) m (as_value s.entries) (Some (reply_of answer new)) n) (same_setting old of tests)
      (answers.leads tests (as_value s.entries) (subst (λ (rows : List Row). AreTests rows tests) (sym of.table) are) held))

  carried : Carries (typed_lines (setting_with tests)) m (resting (as_value s.entries))
  carried = subst (λ (w : Setting). Carries (typed_lines w) m (resting (as_value s.entries))) (same_setting old of tests) held.carries

  where_led : LedBy tests e (as_value s.entries) m n new (step_makes i s) answer × AddsOnly m n may_come
  where_led = led tests e (as_value s.entries) m n new (step_makes i s) answer (edits tests are s plain i low a.json json) of_new carried leads

  among : (b : List ℕ) → Contains may_come b → Contains (blocks_in (asked_map i s)) b
  among b here = blocks tests are s plain i low a.json json b here

  pub step_adds : AddsOnly m n (blocks_in (asked_map i s))
  step_adds = adds_wider m n may_come (blocks_in (asked_map i s)) among where_led.1

  pub step_done : answer ≡ Ok tt → ComesTo tests s i n new (one_more (is_deletion x) (counts_of s)) (obeyed i s)
  step_done is =
      let l = subst (λ (r : Result (Unit {0}) No). LedBy tests e (as_value s.entries) m n new (step_makes i s) r) is where_led.0 in
      subst (λ (y : ℕ). ComesTo tests s i n new (one_more (is_deletion y) (counts_of s)) (obeyed i s)) same (done tests s i n new (is_deletion s.number) l.0 l.1 l.2)

  module _ (refusal : No) (refused : answer ≡ Err refusal) where
    led_refused : IsHeldAt id_of new tests n (as_value s.entries) × ((step_makes i s ≡ Err refusal) ⊎ HasCause m may_come refusal n)
    led_refused = subst (λ (r : Result (Unit {0}) No). LedBy tests e (as_value s.entries) m n new (step_makes i s) r) refused where_led.0

    -- a refusal that the plain map gives is none of the store's
    plainly : (y : No) → step_makes i s ≡ Err y → (y ≡ N.Path) ⊎ ((y ≡ N.Exhausted) ⊎ (y ≡ N.Size))
    plainly y e = why tests s i n new (is_deletion s.number) y e

    absent_by : (y : No) → outcome_of y ≡ O.Absent → (step_makes i s ≡ Err y) ⊎ HasCause m may_come y n → step_makes i s ≡ Err N.Path
    absent_by N.Path is (inl made) = made
    absent_by N.Path is (inr cause) = absurd cause
    absent_by N.Line is c = absurd cc
    absent_by N.Json is c = absurd cc
    absent_by N.Mismatch is c = absurd cc
    absent_by N.Delimiter is c = absurd cc
    absent_by N.Hole is c = absurd cc
    absent_by N.Depth is c = absurd cc
    absent_by N.Exhausted is c = absurd cc
    absent_by N.Size is c = absurd cc
    absent_by N.Reserved is c = absurd cc
    absent_by N.Block is c = absurd cc
    absent_by N.Store is c = absurd cc
    absent_by N.Clash is c = absurd cc
    absent_by N.Memory is c = absurd cc
    absent_by N.Batch is c = absurd cc

    pub step_absent : outcome_of refusal ≡ O.Absent → ComesTo tests s i n new (one_absent (is_deletion x) (counts_of s)) (obeyed i s)
    step_absent is =
        subst (λ (y : ℕ). ComesTo tests s i n new (one_absent (is_deletion y) (counts_of s)) (obeyed i s)) same
        (absent tests s i n new (is_deletion s.number) (absent_by refusal is led_refused.1) led_refused.0)

    left_by : (y : No) → outcome_of y ≡ O.Left → (step_makes i s ≡ Err y) ⊎ HasCause m may_come y n → (step_makes i s ≡ Err y) × (y ≢ N.Path)
    left_by N.Line is (inl made) = (made, λ e. cc)
    left_by N.Line is (inr cause) = absurd cause
    left_by N.Json is (inl made) = (made, λ e. cc)
    left_by N.Json is (inr cause) = absurd cause
    left_by N.Mismatch is (inl made) = (made, λ e. cc)
    left_by N.Mismatch is (inr cause) = absurd cause
    left_by N.Delimiter is (inl made) = (made, λ e. cc)
    left_by N.Delimiter is (inr cause) = absurd cause
    left_by N.Hole is (inl made) = (made, λ e. cc)
    left_by N.Hole is (inr cause) = absurd cause
    left_by N.Depth is (inl made) = (made, λ e. cc)
    left_by N.Depth is (inr cause) = absurd cause
    left_by N.Exhausted is (inl made) = (made, λ e. cc)
    left_by N.Exhausted is (inr cause) = absurd cause
    left_by N.Size is (inl made) = (made, λ e. cc)
    left_by N.Size is (inr cause) = absurd cause
    left_by N.Reserved is (inl made) = (made, λ e. cc)
    left_by N.Reserved is (inr cause) = absurd cause
    left_by N.Batch is (inl made) = (made, λ e. cc)
    left_by N.Batch is (inr cause) = absurd cause
    left_by N.Path is c = absurd cc
    left_by N.Block is c = absurd cc
    left_by N.Store is c = absurd cc
    left_by N.Clash is c = absurd cc
    left_by N.Memory is c = absurd cc

    pub step_left : outcome_of refusal ≡ O.Left → ComesTo tests s i n new (counts_of s) (obeyed i s)
    step_left is = let l = left_by refusal is led_refused.1 in left tests s i n new (is_deletion s.number) refusal l.1 l.0 led_refused.0

    no_three : (y : No) → (y ≡ N.Path → ⊥) → (y ≡ N.Exhausted → ⊥) → (y ≡ N.Size → ⊥) → step_makes i s ≡ Err y → ⊥
    no_three y p q r made = by (plainly y made)
      where
        by : (y ≡ N.Path) ⊎ ((y ≡ N.Exhausted) ⊎ (y ≡ N.Size)) → ⊥
        by (inl is) = p is
        by (inr (inl is)) = q is
        by (inr (inr is)) = r is

    block_by : (y : No) → outcome_of y ≡ O.Block → y ≡ N.Block
    block_by N.Block is = refl
    block_by N.Path is = absurd cc
    block_by N.Line is = absurd cc
    block_by N.Json is = absurd cc
    block_by N.Mismatch is = absurd cc
    block_by N.Delimiter is = absurd cc
    block_by N.Hole is = absurd cc
    block_by N.Depth is = absurd cc
    block_by N.Exhausted is = absurd cc
    block_by N.Size is = absurd cc
    block_by N.Reserved is = absurd cc
    block_by N.Store is = absurd cc
    block_by N.Clash is = absurd cc
    block_by N.Memory is = absurd cc
    block_by N.Batch is = absurd cc

    no_block_by : (step_makes i s ≡ Err N.Block) ⊎ HasCause m may_come N.Block n → ⊥
    no_block_by (inl made) = no_three N.Block (λ e. cc) (λ e. cc) (λ e. cc) made
    no_block_by (inr cause) = held.at.told cause.untold

    pub no_block : outcome_of refusal ≡ O.Block → ⊥
    no_block is = no_block_by (subst (λ (y : No). (step_makes i s ≡ Err y) ⊎ HasCause m may_come y n) (block_by refusal is) led_refused.1)

    clash_by : (step_makes i s ≡ Err N.Clash) ⊎ HasCause m may_come N.Clash n → Collides n (blocks_in (asked_map i s))
    clash_by (inl made) = absurd (no_three N.Clash (λ e. cc) (λ e. cc) (λ e. cc) made)
    clash_by (inr hit) = collides_wider n may_come (blocks_in (asked_map i s)) among hit

    pub step_clash : refusal ≡ N.Clash → Collides n (blocks_in (asked_map i s))
    step_clash is = clash_by (subst (λ (y : No). (step_makes i s ≡ Err y) ⊎ HasCause m may_come y n) is led_refused.1)
