-- A line that was run is a plain step from the value of its root to that of the root to which it leads.
use Rattle.std.proofs.Common.{◌≡◌, ◌⊎◌, inl, inr, ℕ, List, Some, None, sym, ap, ◌∙◌, subst}
use Rattle.std.specs.Prelude.{is_some, IsTrue}
use Rattle.ild_edges.specs.Store.{Moment}
use Rattle.ild_heads.specs.Work.{IsValue, Stays, Steps}
use Rattle.ild_path_edits.specs.Judged.{Tests, AreTests}
use Rattle.ild_path_edits.specs.JudgedLaws.{SchemasHaveTests}
use Rattle.ild_schema.specs.Value.{Value}
use Rattle.ild_script.specs.Line.{reads}
use Rattle.ild_script.specs.Reply.{reply_text}
use Rattle.ild_script.specs.declared.reply.No.{No}
use Rattle.ild_script.specs.declared.reply.No.TheVariants as N
use Rattle.ild_script.specs.declared.reply.Reply.{Reply}
use Rattle.ild_script.specs.declared.reply.Reply.TheVariants as R
use Rattle.ild_script_meaning.specs.Ask.{asked}
use Rattle.ild_script_session.specs.Session.{Due, idle}
use Rattle.ild_script_session.specs.Step.{HasCause, IsExcused}
use Rattle.ild_typed.specs.Schema.{IsSchema}
use Rattle.ild_run_work.specs.Plain.{IsDue, PlainStep, StaysPlain, StepsBy, due_on}
use Rattle.ild_run_work.specs.Rules.{Rules, StandsAmong, StandsIn, setting_by}
use Rattle.ild_run_work.specs.Runs.{LeadsTo, RunsLine}
use Rattle.ild_run_work.specs.Standing.{later_stays, one_among, some_told}

-- where the store tells what it holds, no block is lacking
by_cause : (m n : Moment) (held : List (List ℕ)) → m.blocks ≡ Some held → (new : List (List ℕ)) (refusal : No) → HasCause m new refusal n → (v next : Value) (text : List ℕ) → text ≡ reply_text (R.No refusal) → next ≡ v → StaysPlain v text next
by_cause m n held told new N.Store c v next text is same = record { refusal = N.Store; outside = tt; text_is = is; next_is = same }
by_cause m n held told new N.Clash c v next text is same = record { refusal = N.Clash; outside = tt; text_is = is; next_is = same }
by_cause m n held told new N.Memory c v next text is same = record { refusal = N.Memory; outside = tt; text_is = is; next_is = same }
by_cause m n held told new N.Block c v next text is same = let bad : Some held ≡ None = sym told ∙ c.untold in absurd cc
by_cause m n held told new N.Line c v next text is same = absurd c
by_cause m n held told new N.Path c v next text is same = absurd c
by_cause m n held told new N.Json c v next text is same = absurd c
by_cause m n held told new N.Mismatch c v next text is same = absurd c
by_cause m n held told new N.Delimiter c v next text is same = absurd c
by_cause m n held told new N.Hole c v next text is same = absurd c
by_cause m n held told new N.Depth c v next text is same = absurd c
by_cause m n held told new N.Exhausted c v next text is same = absurd c
by_cause m n held told new N.Size c v next text is same = absurd c
by_cause m n held told new N.Reserved c v next text is same = absurd c
by_cause m n held told new N.Batch c v next text is same = absurd c

by_either : (m n : Moment) (held : List (List ℕ)) → m.blocks ≡ Some held → (new : List (List ℕ)) (refusal : No) → HasCause m new refusal n ⊎ HasCause m new refusal n → (v next : Value) (text : List ℕ) → text ≡ reply_text (R.No refusal) → next ≡ v → StaysPlain v text next
by_either m n held told new refusal (inl c) v next text is same = by_cause m n held told new refusal c v next text is same
by_either m n held told new refusal (inr c) v next text is same = by_cause m n held told new refusal c v next text is same

by_excuse : (m n : Moment) (held : List (List ℕ)) → m.blocks ≡ Some held → (new : List (List ℕ)) (reply : Reply) → IsExcused m new (Some reply) n n → (v next : Value) (text : List ℕ) → text ≡ reply_text reply → next ≡ v → StaysPlain v text next
by_excuse m n held told new (R.Ok json) e v next text is same = absurd e
by_excuse m n held told new (R.Root id) e v next text is same = absurd e
by_excuse m n held told new (R.No refusal) e v next text is same = by_either m n held told new refusal e v next text is same

steps_by : (m n : Moment) (held : List (List ℕ)) → m.blocks ≡ Some held → (d : Due Value) (reply : Reply) (v next : Value) (text : List ℕ) → text ≡ reply_text reply
    → ((Some reply ≡ d.reply) × (idle next ≡ d.next)) ⊎ (IsExcused m d.adds (Some reply) n n × (idle next ≡ idle v)) → IsDue d text next ⊎ StaysPlain v text next
steps_by m n held told d reply v next text is (inl x) = inl (record { reply = reply; due = sym x.0; text_is = is; next_is = sym x.1 })
steps_by m n held told d reply v next text is (inr x) = inr (by_excuse m n held told d.adds reply x.0 v next text is (ap (λ z. z.value) x.1))

module _ (have : SchemasHaveTests) (rules : Rules) (schema : IsSchema rules.rows) (line : List ℕ) (m n : Moment) (root to text : List ℕ) (run : RunsLine rules line m root to text n) (told : IsTrue (is_some n.blocks)) where
  module _ (was now : List (List ℕ)) (told_was : m.blocks ≡ Some was) (told_now : n.blocks ≡ Some now) (v : Value) (st : StandsAmong rules was root v) where
    leads : (tests : Tests) → AreTests rules.rows tests → LeadsTo rules (setting_by rules tests) (asked (reads line)) m v to run.reply n
    leads tests are = run.runs.leads was tests v told_was are st

    first : LeadsTo rules (setting_by rules (have rules.rows schema).0) (asked (reads line)) m v to run.reply n
    first = leads (have rules.rows schema).0 (have rules.rows schema).1

    -- whichever the tests are, they lead to one value
    same_next : (tests : Tests) (are : AreTests rules.rows tests) → (leads tests are).next ≡ first.next
    same_next tests are = one_among rules now to (leads tests are).next first.next schema ((leads tests are).stands.there now told_now) (first.stands.there now told_now)

    by : (tests : Tests) → AreTests rules.rows tests → StepsBy (setting_by rules tests) v line text first.next
    by tests are = subst (λ (u : Value). StepsBy (setting_by rules tests) v line text u) (same_next tests are)
        (steps_by m n was told_was (due_on (setting_by rules tests) v (asked (reads line))) run.reply v (leads tests are).next text run.text_is (leads tests are).replies.answered)

    steps_there : StandsIn rules n root v → Steps (StandsIn rules n) (PlainStep rules) root line text to
    steps_there starts = record { before = v; after = first.next; starts = starts; plain = record { by = by }; ends = first.stands }

  pub steps : (IsTrue (is_some m.blocks) → IsValue (StandsIn rules m) root) → Steps (StandsIn rules n) (PlainStep rules) root line text to
  steps value =
      let stay : Stays (is_some m.blocks) (StandsIn rules m) (is_some n.blocks) (StandsIn rules n) = later_stays rules m n run.runs.later in
      let told_m : IsTrue (is_some m.blocks) = subst (λ b. IsTrue b) stay.same told in
      let was = some_told m.blocks told_m in
      let now = some_told n.blocks told in
      let x = value told_m in
      steps_there was.0 now.0 was.1 now.1 x.0 (x.1.there was.0 was.1) (stay.stood root x.0 told_m x.1)
