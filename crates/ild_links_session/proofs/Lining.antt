-- The session over lines: what each leaves, and that it stays ready.
use Rattle.std.proofs.Common.{◌≡◌, ◌≢◌, ℕ, zero, suc, ◌-◌, List, [], ◌∷◌, length, take, drop, Option, Some, None, Ok, refl, sym, ap, ◌∙◌, subst, arith}
use Rattle.std.proofs.Math.Logic.{∥∥₁_map}
use Rattle.ild_data.specs.Spell.{id_of}
use Rattle.ild_edges.specs.Store.{Keeps, Moment}
use Rattle.ild_edges.specs.Told.{BothTold}
use Rattle.ild_links_session.specs.Passes.{PassesLinked}
use Rattle.ild_links_session.specs.Ready.{IsReady}
use Rattle.ild_links_session.specs.inside.Looking.{TurnsLinked, TurnsLinkedTo}
use Rattle.ild_links_session.proofs.Turned.{ends_there, memory_ends, plain_turns}
use Rattle.ild_run_document.proofs.Sessions.{alike_of, document_stays, reading_speaks}
use Rattle.ild_run_document.proofs.Settings.{tests_on}
use Rattle.ild_run_document.proofs.Turning.{blank_stays, memory_is_wanting, unknown_stays}
use Rattle.ild_run_document.specs.Document.{begun_in, doc_in, own_in}
use Rattle.ild_run_document.specs.Turns.{AreAlike, Turns, TurnsTo}
use Rattle.ild_run_document.specs.declared.document.Document.{Document}
use Rattle.ild_run_standing.specs.Standing.{IsAtState, StandsAt, setting_of}
use Rattle.ild_schema.specs.Value.{Value}
use Rattle.ild_script.specs.Line.{Command, Reading, blank, command, outside, reads}
use Rattle.ild_script.specs.Reads.{ReadsAs}
use Rattle.ild_script.specs.declared.line.Line.{Line}
use Rattle.ild_script.specs.declared.reply.No.{No}
use Rattle.ild_script.specs.declared.reply.No.TheVariants as N
use Rattle.ild_script.specs.declared.reply.Reply.{Reply}
use Rattle.ild_script.specs.declared.reply.Reply.TheVariants as R
use Rattle.ild_script_batch.specs.Stages.{StagesStay}
use Rattle.ild_script_meaning.specs.Ask.{Ask, asked, asked_by, nothing, unknown}
use Rattle.ild_script_session.specs.Session.{Meaning, Stage, State}

-- ---- it stays ready

told_before : (a b : Option (List (List ℕ))) → BothTold a b Keeps → b ≢ None → a ≢ None
told_before None None keeps told = told
told_before None (Some now) keeps told = absurd keeps
told_before (Some was) b keeps told = λ e. absurd cc

pub ready_then : (old new : Document) (a : Ask) (m : Moment) (reply : Option Reply) (n : Moment)
    → Turns id_of (doc_in old) (doc_in new) (begun_in old) (begun_in new) (own_in old) (own_in new) a m reply n → IsReady old m → IsReady new n
ready_then old new a m reply n t ready told = ∥∥₁_map (ready (told_before m.blocks n.blocks t.later.keeps told)) (λ x.
    let on : TurnsTo id_of (setting_of id_of (doc_in old) x.tests) (doc_in new) (begun_in new) (own_in new) x.tests a m x.stage reply n = t.leads x.tests x.stage x.are x.stands in
    record { tests = x.tests; are = tests_on (doc_in old) (doc_in new) x.tests t.table x.are; stage = on.stage; stands = on.stands })

pub ready_linked : (old new : Document) (a : Ask) (m : Moment) (reply : Option Reply) (n : Moment) → TurnsLinked old new a m reply n → IsReady old m → IsReady new n
ready_linked old new a m reply n t ready told = ∥∥₁_map (ready (told_before m.blocks n.blocks t.later.keeps told)) (λ x.
    let on : TurnsLinkedTo (setting_of id_of (doc_in old) x.tests) new x.tests a m x.stage reply n = t.leads x.tests x.stage x.are x.stands in
    record { tests = x.tests; are = tests_on (doc_in old) (doc_in new) x.tests t.table x.are; stage = on.stage; stands = on.stands })

-- ---- what a line leaves

pub line_passes : (old new : Document) (m : Moment) (line : List ℕ) (reply : Option Reply) (n : Moment) → (reads line ≡ blank → reply ≡ None) → TurnsLinked old new (asked (reads line)) m reply n → PassesLinked old m line reply n new
line_passes old new m line reply n silent t = record {
  table = t.table;
  type = t.type;
  kept = t.kept;
  told = t.told;
  rooted = t.rooted;
  blamed = t.blamed;
  clashed = t.clashed;
  leads = λ tests s are stands.
      let on : TurnsLinkedTo (setting_of id_of (doc_in old) tests) new tests (asked (reads line)) m s reply n = t.leads tests s are stands in
      record {
        stage = on.stage;
        step = record { later = t.later; speaks = λ e. silent (reading_speaks (setting_of id_of (doc_in old) tests) (reads line) s.state e); replies = λ c. on.replies };
        stands = on.stands;
      };
}

-- a line that is refused leaves the state
pub state_stays : (old new : Document) (a : Ask) (m : Moment) (reply : Option Reply) (n : Moment) → TurnsLinked old new a m reply n → (refusal : No) → reply ≡ Some (R.No refusal)
    → (M : Meaning Value) (s : State Value) → IsAtState (doc_in old) (begun_in old) M s → IsAtState (doc_in new) (begun_in new) M s
state_stays old new a m reply n t refusal is =
    let x = t.kept refusal is in document_stays (doc_in old) (doc_in new) (begun_in old) (begun_in new) t.table t.type (x.block, x.begun)

-- ---- lines that leave the session

module _ (stay : StagesStay) (d : Document) (m : Moment) (line : List ℕ) where
  alike : AreAlike (doc_in d) (begun_in d)
  alike = alike_of (doc_in d) (begun_in d) d.alike

  pub blank_line : reads line ≡ blank → PassesLinked d m line None m d
  blank_line is = line_passes d d m line None m (λ b. refl)
      (subst (λ (r : Reading). TurnsLinked d d (asked r) m None m) (sym is) (plain_turns d d nothing m None m (blank_stays stay (doc_in d) (begun_in d) (own_in d) m alike) refl))

  not_blank : reads line ≡ outside → reads line ≡ blank → ⊥
  not_blank is b = let bad : outside ≡ blank = sym is ∙ b in absurd cc

  pub unknown_line : reads line ≡ outside → PassesLinked d m line (Some (R.No N.Line)) m d
  unknown_line is = line_passes d d m line (Some (R.No N.Line)) m (λ b. absurd (not_blank is b))
      (subst (λ (r : Reading). TurnsLinked d d (asked r) m (Some (R.No N.Line)) m) (sym is) (plain_turns d d unknown m (Some (R.No N.Line)) m (unknown_stays stay (doc_in d) (begun_in d) (own_in d) m alike) refl))

  pub memory_line : reads line ≢ blank → PassesLinked d m line (Some (R.No N.Memory)) m d
  memory_line not = line_passes d d m line (Some (R.No N.Memory)) m (λ b. absurd (not b))
      (ends_there d d (asked (reads line)) m (R.No N.Memory) m (memory_is_wanting stay (doc_in d) (begun_in d) (own_in d) (asked (reads line)) m alike) (memory_ends (asked (reads line))))

-- a line that was read
pub command_line : (old new : Document) (m : Moment) (line : List ℕ) (reply : Reply) (n : Moment) (c : Command) → reads line ≡ command c → TurnsLinked old new (asked_by c.verb c.path c.json) m (Some reply) n → PassesLinked old m line (Some reply) n new
command_line old new m line reply n c is t = line_passes old new m line (Some reply) n (λ b. absurd (let bad : command c ≡ blank = sym is ∙ b in cc)) (subst (λ (r : Reading). TurnsLinked old new (asked r) m (Some reply) n) (sym is) t)

-- what is left of a line behind a place, as far as the line goes
take_all : (l : List ℕ) → take (length l) l ≡ l
take_all [] = refl
take_all (x ∷ xs) = ap (λ ys. x ∷ ys) (take_all xs)

take_none : (n : ℕ) → ◌≡◌ {A = List ℕ} (take n []) []
take_none zero = refl
take_none (suc n) = refl

pub take_rest : (k : ℕ) (l : List ℕ) → take (length l - k) (drop k l) ≡ drop k l
take_rest zero l = ap (λ n. take n l) (let e : length l - 0 ≡ length l = omega arith in e) ∙ take_all l
take_rest (suc k) [] = take_none (0 - suc k)
take_rest (suc k) (x ∷ xs) = ap (λ n. take n (drop k xs)) (let e : suc (length xs) - suc k ≡ length xs - k = omega arith in e) ∙ take_rest k xs

pub read_line : (line : List ℕ) (r : Line) → ReadsAs line (Ok (Some r)) → reads line ≡ command (record { verb = r.verb; path = r.path; json = take (length line - r.json_at) (drop r.json_at line) })
read_line line r is = is.1 ∙ ap (λ j. command (record { verb = r.verb; path = r.path; json = j })) (sym (take_rest r.json_at line))

-- a session that stands at a stage is ready
pub ready_at : (d : Document) (m : Moment) (M : Meaning Value) (s : Stage Value) → StandsAt (doc_in d) (begun_in d) (own_in d) m M s → IsReady d m
ready_at d m M s x told = ∣ record { tests = x.tests; are = x.are; stage = s; stands = x.stands } ∣₁
