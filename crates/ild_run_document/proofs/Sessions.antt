-- A document as a session: inside a batch and outside, and a line that is refused leaves it.
use Rattle.std.proofs.Common.{◌≡◌, ℕ, List, Option, Some, None, refl, sym, subst}
use Rattle.std.proofs.Math.Logic.{∥∥₁_elim}
use Rattle.std.proofs.Props.{props}
use Rattle.ild_data.specs.Spell.{id_of}
use Rattle.ild_edges.specs.Store.{Moment}
use Rattle.ild_schema.specs.Value.{Value}
use Rattle.ild_script.specs.Line.{Reading, blank, command, outside, reads}
use Rattle.ild_script.specs.declared.reply.Reply.{Reply}
use Rattle.ild_script.specs.declared.word.Word.{Word}
use Rattle.ild_script.specs.declared.word.Word.TheVariants as W
use Rattle.ild_path_edits.specs.Judged.{Tests, AreTests}
use Rattle.ild_script_session.specs.Session.{State, Stage, Meaning}
use Rattle.ild_script_session.specs.Stands.{Leads}
use Rattle.ild_script_session.specs.Step.{Step}
use Rattle.ild_script_meaning.specs.Ask.{asked, asked_by}
use Rattle.ild_script_meaning.specs.Lines.{Setting, due, root_due, begin_due, commit_due, abort_due, typed_lines}
use Rattle.ild_view_doc.specs.Docs.{block_in, table_in, type_in}
use Rattle.ild_view_doc.specs.declared.doc.Doc.{Doc}
use Rattle.ild_run_standing.specs.Standing.{IsAtState, IsBegun, StandsAt, StandsSo, setting_of}
use Rattle.ild_run_document.specs.Document.{begun_in, doc_in, own_in}
use Rattle.ild_run_document.specs.Passes.{Passes}
use Rattle.ild_run_document.specs.Turns.{AreAlike, Turns, TurnsTo}
use Rattle.ild_run_document.specs.declared.document.Document.{Document}
use Rattle.ild_run_document.proofs.Settings.{begin_on, means_on, of_at, of_same, tests_on}

-- ---- each line but the empty one is due a reply

root_speaks : (w : Setting) (s : State Value) (o : Option Value) → (root_due w s o).reply ≡ None → ⊥
root_speaks w s None e = absurd cc
root_speaks w s (Some v) e = absurd cc

begin_speaks : (s : State Value) (o : Option Value) → (begin_due s o).reply ≡ None → ⊥
begin_speaks s None e = absurd cc
begin_speaks s (Some v) e = absurd cc

commit_speaks : (w : Setting) (s : State Value) (o : Option Value) → (commit_due w s o).reply ≡ None → ⊥
commit_speaks w s None e = absurd cc
commit_speaks w s (Some v) e = absurd cc

abort_speaks : (s : State Value) (o : Option Value) → (abort_due s o).reply ≡ None → ⊥
abort_speaks s None e = absurd cc
abort_speaks s (Some v) e = absurd cc

word_speaks : (w : Setting) (verb : Word) (path : List (List ℕ)) (json : List ℕ) (s : State Value) → (due w (asked_by verb path json) s).reply ≡ None → ⊥
word_speaks w W.Get path json s e = absurd cc
word_speaks w W.Rep path json s e = absurd cc
word_speaks w W.Has path json s e = absurd cc
word_speaks w W.Len path json s e = absurd cc
word_speaks w W.Walk path json s e = absurd cc
word_speaks w W.Set path json s e = absurd cc
word_speaks w W.Ins path json s e = absurd cc
word_speaks w W.Del path json s e = absurd cc
word_speaks w W.Root path json s e = root_speaks w s s.begun e
word_speaks w W.Begin path json s e = begin_speaks s s.begun e
word_speaks w W.Commit path json s e = commit_speaks w s s.begun e
word_speaks w W.Abort path json s e = abort_speaks s s.begun e

pub reading_speaks : (w : Setting) (r : Reading) (s : State Value) → (due w (asked r) s).reply ≡ None → r ≡ blank
reading_speaks w blank s e = refl
reading_speaks w (command c) s e = absurd (word_speaks w c.verb c.path c.json s e)
reading_speaks w outside s e = absurd cc

-- ---- the session

pub document_leads : (old new : Doc) (b c : Option Doc) (was now : List (List ℕ)) (m n : Moment) (line : List ℕ) (reply : Option Reply) → (reads line ≡ blank → reply ≡ None) → Turns id_of old new b c was now (asked (reads line)) m reply n
    → (M : Meaning Value) (s : Stage Value) → StandsAt old b was m M s → Leads M (StandsAt new c now n M) m s line reply n
document_leads old new b c was now m n line reply silent t M s x =
    let w : Setting = setting_of id_of old x.tests in
    let on : TurnsTo id_of w new c now x.tests (asked (reads line)) m s reply n = t.leads x.tests s x.are x.stands in
    let stands : StandsAt new c now n M on.stage = record { tests = x.tests; are = tests_on old new x.tests t.table x.are; means = means_on id_of old new x.tests M t.table t.type x.means; stands = on.stands } in
    from w x.tests on M x.means stands where
      from : (w : Setting) (tests : Tests) (on : TurnsTo id_of w new c now tests (asked (reads line)) m s reply n) (M : Meaning Value) → M ≡ typed_lines w → StandsAt new c now n M on.stage → Leads M (StandsAt new c now n M) m s line reply n
      from w tests on M is stands = record {
        stage = on.stage;
        step = subst (λ (L : Meaning Value). Step L m s line reply n on.stage) (sym is) (record { later = t.later; speaks = λ e. silent (reading_speaks w (reads line) s.state e); replies = λ c. on.replies });
        stands = stands;
      }

begun_on : (old new : Doc) (b : Option Doc) (o : Option Value) → table_in new ≡ table_in old → type_in new ≡ type_in old → IsBegun id_of old b o → IsBegun id_of new b o
begun_on old new None None table type x = tt
begun_on old new None (Some kept) table type x = absurd x
begun_on old new (Some b) None table type x = absurd x
begun_on old new (Some b) (Some kept) table type x = begin_on id_of old new b kept table type x

pub document_stays : (old new : Doc) (b c : Option Doc) → table_in new ≡ table_in old → type_in new ≡ type_in old → (block_in new ≡ block_in old) × (c ≡ b) → (M : Meaning Value) (s : State Value) → IsAtState old b M s → IsAtState new c M s
document_stays old new b c table type kept M s x = record {
  tests = x.tests;
  are = tests_on old new x.tests table x.are;
  means = means_on id_of old new x.tests M table type x.means;
  value = of_same id_of old new s.value table type kept.0 x.value;
  batch = subst (λ (o : Option Doc). IsBegun id_of new o s.begun) (sym kept.1) (begun_on old new b s.begun table type x.batch);
}

stood_so : (d : Doc) (b : Option Doc) (own : List (List ℕ)) (tests : Tests) (are : AreTests (table_in d) tests) (m : Moment) (M : Meaning Value) (s : Stage Value) → M ≡ typed_lines (setting_of id_of d tests) → StandsSo id_of d b own tests m s → IsAtState d b M s.state
stood_so d None own tests are m M s is x =
    subst (λ (z : Stage Value). IsAtState d None M z.state) (sym x.rests) (record { tests = tests; are = are; means = is; value = of_at id_of d m x.value x.held.at; batch = tt })
stood_so d (Some b) own tests are m M s is x =
    subst (λ (z : Stage Value). IsAtState d (Some b) M z.state) (sym x.is) (record { tests = tests; are = are; means = is; value = of_at id_of d m x.value x.at; batch = x.begin })

pub document_stood : (d : Doc) (b : Option Doc) (own : List (List ℕ)) (m : Moment) (M : Meaning Value) (s : Stage Value) → StandsAt d b own m M s → IsAtState d b M s.state
document_stood d b own m M s x = stood_so d b own x.tests x.are m M s x.means x.stands

-- what the line leaves, over every store
pub document_passes : (old new : Document) (m n : Moment) (line : List ℕ) (reply : Option Reply) → Turns id_of (doc_in old) (doc_in new) (begun_in old) (begun_in new) (own_in old) (own_in new) (asked (reads line)) m reply n
    → Passes old m line reply n new
document_passes old new m n line reply t = record {
  table = t.table;
  type = t.type;
  kept = λ refusal is. let x = t.kept refusal is in record { block = x.0; begun = x.1 };
  told = λ tell path is. let x = t.told tell path is in record { block = x.0; begun = x.1 };
  rooted = t.rooted;
  blamed = t.blamed;
  clashed = t.clashed;
}

-- the types are alike, since it is known that they are
pub alike_of : (d : Doc) (b : Option Doc) → ∥ AreAlike d b ∥₁ → AreAlike d b
alike_of d None some = tt
alike_of d (Some b) some = (∥∥₁_elim some (hlevel props) (λ o. o.0), ∥∥₁_elim some (hlevel props) (λ o. o.1))
