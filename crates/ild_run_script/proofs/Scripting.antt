-- Scripts that are answered from an opened document.
use Rattle.std.proofs.Common.{◌≡◌, ℕ, ◌+◌, ◌≤◌, List, [], Bool, Option, None, Some, Result, Ok, Err, refl, sym, ap, ◌∙◌, subst, arith}
use Rattle.std.specs.Prelude.{length, IsErrOf, IfOk, OnErr}
use Rattle.ild_data.specs.Spell.{id_of}
use Rattle.ild_edges.proofs.Later.{Later-trans}
use Rattle.ild_edges.specs.Count.{Rose}
use Rattle.ild_edges.specs.Sink.{Output}
use Rattle.ild_edges.specs.Told.{IfTold}
use Rattle.ild_edges.specs.Store.{Moment, Later, block_at}
use Rattle.ild_path_edits.specs.Judged.{Tests, AreTests}
use Rattle.ild_schema.specs.Value.{Value}
use Rattle.ild_schema.specs.declared.number.TypeNo.{TypeNo}
use Rattle.ild_schema.specs.declared.row.Row.{Row}
use Rattle.ild_script.specs.Line.{lines_of}
use Rattle.ild_script.specs.declared.reply.Reply.{Reply}
use Rattle.ild_script_meaning.specs.Lines.{Setting, typed_lines, value_blocks}
use Rattle.ild_script_session.proofs.Steps.{run_gets, run_puts}
use Rattle.ild_script_session.specs.Lines.{LinesDone, LinesCut}
use Rattle.ild_script_session.specs.Session.{Meaning, Stage, resting, left}
use Rattle.ild_script_session.specs.Stands.{AreAnswered, Ran}
use Rattle.ild_script_session.specs.Step.{Carries, Holds}
use Rattle.ild_script_session.specs.declared.cut.Cut.{Cut}
use Rattle.ild_script_session.specs.declared.cut.Cut.TheVariants as C
use Rattle.ild_typed.specs.Stands.{Stands, bare, blocks_of}
use Rattle.ild_view_doc.specs.Docs.{table_in, type_in, block_in}
use Rattle.ild_view_doc.specs.declared.doc.Doc.{Doc}
use Rattle.ild_run_open.specs.Starts.{HasFirst, HasStarted, Starts, Asks}
use Rattle.ild_run_open.specs.declared.start.Start.{Start}
use Rattle.ild_run_open.specs.declared.start.Start.TheVariants as S
use Rattle.ild_run_open.specs.declared.start.StartFault.{StartFault}
use Rattle.ild_run_document.specs.Document.{begun_in, doc_in, own_in}
use Rattle.ild_run_document.specs.Passes.{Passes}
use Rattle.ild_run_document.specs.declared.document.Document.{Document}
use Rattle.ild_run_standing.specs.Laws.{StandingAreAt, HeldAreStanding}
use Rattle.ild_run_standing.specs.Standing.{IsHeldAt, IsInBatch, StandsAt, StandsSo, setting_of}
use Rattle.ild_run_standing.proofs.Held.{kept_are_standing}
use Rattle.ild_run_script.specs.inside.Lines.{DocDone, DocCut}
use Rattle.ild_run_script.specs.Scripts.{setting, lines_on, StandsThere, start_gets, start_puts, AnswersFrom, Answers, AnswersSome, ScriptAnswer, Scripts}
use Rattle.ild_run_script.specs.declared.fault.ScriptFault.TheVariants as F

-- ---- what opening asked of the store

pub asks_later : (rows : List Row) (ty : TypeNo) (start : Start) (m n : Moment) → Asks id_of rows ty start m n → Later m n
asks_later rows ty (S.Root root) m n asks = asks.only.later
asks_later rows ty S.Empty m n asks = asks.later

asks_puts : (rows : List Row) (ty : TypeNo) (start : Start) (m n : Moment) → Asks id_of rows ty start m n → n.puts ≤ m.puts + start_puts start
asks_puts rows ty (S.Root root) m n asks = let same = asks.only.puts in omega (arith, same)
asks_puts rows ty S.Empty m n asks = asks.puts

asks_gets : (rows : List Row) (ty : TypeNo) (start : Start) (m n : Moment) (block : List ℕ) (held : List (List ℕ)) → Asks id_of rows ty start m n → n.blocks ≡ Some held → (first : HasFirst id_of rows ty start block held)
    → n.gets ≤ m.gets + start_gets start (length (blocks_of bare id_of rows ty first.value first.is.stands.tree))
asks_gets rows ty (S.Root root) m n block held asks told first =
    let st = first.is.stands in
    asks.gets held first.value (sym asks.only.blocks ∙ told) (record { tree = st.tree; storable = st.storable; root = sym first.from ∙ st.root; all = st.all })
asks_gets rows ty S.Empty m n block held asks told first = let few = asks.gets in omega (arith, few)

-- ---- where a document stands

module _ (law : StandingAreAt) (back : HeldAreStanding) (rows : List Row) (ty : TypeNo) (start : Start) (d : Doc) (k : Moment) (started : HasStarted id_of rows ty start d k) (tests : Tests) (are : AreTests rows tests)
    (held : List (List ℕ)) (told : k.blocks ≡ Some held) where
  abbrev first : HasFirst id_of rows ty start (block_in d) held
  first = started.first held told

  there : block_at held (id_of (block_in d)) ≡ Some (block_in d)
  there = let is = first.is in subst (λ (b : List ℕ). block_at held (id_of b) ≡ Some b) (sym is.spelled) is.stands.all.0

  stands : Stands bare (block_at held) id_of (table_in d) (type_in d) (id_of (block_in d)) first.value
  stands =
      subst (λ (r : List Row). Stands bare (block_at held) id_of r (type_in d) (id_of (block_in d)) first.value) (sym started.table)
      (subst (λ (t : TypeNo). Stands bare (block_at held) id_of rows t (id_of (block_in d)) first.value) (sym started.type) first.is.stands)

  same_setting : setting rows ty tests ≡ setting_of id_of d tests
  same_setting = ap (λ r. setting r ty tests) (sym started.table) ∙ ap (λ t. setting (table_in d) t tests) (sym started.type)

  held_at : IsHeldAt id_of d tests k first.value
  held_at = law id_of d tests k held first.value told there stands

  stands_at : StandsAt d None [] k (lines_on rows ty tests) (resting first.value)
  stands_at = record {
    tests = tests;
    are = subst (λ (r : List Row). AreTests r tests) (sym started.table) are;
    means = ap typed_lines same_setting;
    stands = record { value = first.value; held = held_at; rests = refl };
  }

  carried : Carries (lines_on rows ty tests) k (resting first.value)
  carried = subst (λ (w : Setting). Carries (typed_lines w) k (resting first.value)) (sym same_setting) held_at.carries

  -- a value of a document of the same type that stands in a store
  module _ (e : Doc) (table : table_in e ≡ table_in d) (type : type_in e ≡ type_in d) (n : Moment) (now : List (List ℕ)) (is : n.blocks ≡ Some now) where
    of_type : (v : Value) → Stands bare (block_at now) id_of (table_in e) (type_in e) (id_of (block_in e)) v → StandsThere rows ty now v
    of_type v st = record {
      root = id_of (block_in e);
      is = subst (λ (r : List Row). Stands bare (block_at now) id_of r ty (id_of (block_in e)) v) (table ∙ started.table)
          (subst (λ (t : TypeNo). Stands bare (block_at now) id_of (table_in e) t (id_of (block_in e)) v) (type ∙ started.type) st);
    }

  -- inside a batch the store holds the value at its begin
  begun_there : (e b : Doc) → table_in e ≡ table_in d → type_in e ≡ type_in d → (own : List (List ℕ)) (tests : Tests) (n : Moment) (s : Stage Value) (now : List (List ℕ)) → n.blocks ≡ Some now → IsInBatch id_of e b own tests n s → StandsThere rows ty now (left s.state)
  begun_there e b table type own tests n s now is x =
      let to_b : setting_of id_of e tests ≡ setting_of id_of b tests = ap (λ r. setting r (type_in e) tests) (sym x.begin.same.0) ∙ ap (λ t. setting (table_in b) t tests) (sym x.begin.same.1) in
      let kept : Holds n (value_blocks (setting_of id_of b tests) x.kept) = subst (λ (w : Setting). Holds n (value_blocks w x.kept)) to_b x.carries.kept in
      subst (λ (z : Stage Value). StandsThere rows ty now (left z.state)) (sym x.is)
      (of_type b (x.begin.same.0 ∙ table) (x.begin.same.1 ∙ type) n now is x.kept (kept_are_standing id_of b tests n now x.kept is x.begin.of kept))

  stands_there : (e : Doc) (begun : Option Doc) (own : List (List ℕ)) → table_in e ≡ table_in d → type_in e ≡ type_in d → (tests : Tests) (n : Moment) (s : Stage Value) (now : List (List ℕ)) → n.blocks ≡ Some now → StandsSo id_of e begun own tests n s
      → StandsThere rows ty now (left s.state)
  stands_there e None own table type tests n s now is x =
      subst (λ (z : Stage Value). StandsThere rows ty now (left z.state)) (sym x.rests) (of_type e table type n now is x.value (back id_of e tests n now x.value is x.held))
  stands_there e (Some b) own table type tests n s now is x = begun_there e b table type own tests n s now is x

  -- where a document of the same type stands
  left_there : (e : Doc) (begun : Option Doc) (own : List (List ℕ)) → table_in e ≡ table_in d → type_in e ≡ type_in d → (n : Moment) (s : Stage Value) → StandsAt e begun own n (lines_on rows ty tests) s → (o : Option (List (List ℕ))) → n.blocks ≡ o
      → IfTold o (λ now. StandsThere rows ty now (left s.state))
  left_there e begun own table type n s at None is = tt
  left_there e begun own table type n s at (Some now) is = stands_there e begun own table type at.tests n s now is at.stands

  -- lines that were run from there
  answers_from : (e : Doc) (begun : Option Doc) (own : List (List ℕ)) → table_in e ≡ table_in d → type_in e ≡ type_in d → (m n : Moment) (lines : List (List ℕ)) (replies : List Reply) → Asks id_of rows ty start m k
      → Ran (lines_on rows ty tests) (StandsAt e begun own n (lines_on rows ty tests)) k (resting first.value) lines replies n → AnswersFrom rows ty start tests (block_in d) held m k lines replies n
  answers_from e begun own table type m n lines replies asks ran =
      let M = lines_on rows ty tests in
      record {
        first = first;
        carried = carried;
        last = ran.stage;
        run = ran.run;
        stands = left_there e begun own table type n ran.stage ran.stands n.blocks refl;
        gets = let a = asks_gets rows ty start m k (block_in d) held asks told first in let b = run_gets M k (resting first.value) lines replies n ran.stage ran.run carried in omega (arith, a, b);
        puts = let a = asks_puts rows ty start m k asks in let b = run_puts M k (resting first.value) lines replies n ran.stage ran.run carried in omega (arith, a, b);
      }

-- ---- the script

module _ (law : StandingAreAt) (back : HeldAreStanding) (rows : List Row) (ty : TypeNo) (start : Start) (script : List ℕ) (d : Doc) (m k n : Moment) (was now : Output) (starts : Starts id_of rows ty start m (Ok d) k) where
  answers : (lines : List (List ℕ)) (replies : List Reply) (x e : Document) → doc_in x ≡ d → begun_in x ≡ None → table_in (doc_in e) ≡ table_in d → type_in (doc_in e) ≡ type_in d → AreAnswered Passes x k lines replies n e → Later k n
      → ((M : Meaning Value) (s : Stage Value) → StandsAt d None [] k M s → Ran M (StandsAt (doc_in e) (begun_in e) (own_in e) n M) k s lines replies n) → Answers rows ty start m lines replies n
  answers lines replies x e is out table type answered later ran = record {
    opened = k;
    asks = starts.asks;
    block = block_in d;
    first = starts.answer.block;
    session = x;
    starts = record { table = ap table_in is ∙ starts.answer.table; type = ap type_in is ∙ starts.answer.type; block_is = ap block_in is; outside = out };
    after = e;
    answered = answered;
    later = later;
    from = λ held tests told are. answers_from law back rows ty start d k starts.answer tests are held told (doc_in e) (begun_in e) (own_in e) table type m n lines replies starts.asks
        (ran (lines_on rows ty tests) (resting (starts.answer.first held told).value) (stands_at law back rows ty start d k starts.answer tests are held told));
  }

  pub scripts_done : (refused : Bool) → DocDone d k (lines_of script) n was.written now.written refused → was.faults ≤ now.faults → Scripts rows ty start script m was (Ok refused) n now
  scripts_done refused done faults =
      let lines = done.done in
      record {
        answer = record {
          replies = lines.replies;
          answered = answers (lines_of script) lines.replies done.from done.after done.is done.out done.table done.type lines.answered lines.later lines.ran;
          written = lines.written;
          refused_is = lines.refused_is;
        };
        later = Later-trans m k n (asks_later rows ty start m k starts.asks) lines.later;
        faults = faults;
      }

  some : DocCut d k (lines_of script) n was.written now.written → AnswersSome rows ty start script m was n now
  some cut =
      let lines = cut.done in
      record {
        first = lines.first;
        rest = lines.rest;
        lines = lines.split;
        replies = lines.replies;
        answered = answers lines.first lines.replies cut.from cut.after cut.is cut.out cut.table cut.type lines.answered lines.later lines.ran;
        written = lines.written;
      }

  cut_answer : (cut : Cut) → DocCut d k (lines_of script) n was.written now.written → (IsErrOf {T = Bool} (Err cut) C.Sink → Rose was.faults now.faults) → ScriptAnswer rows ty start script m was (Err (F.Cut cut)) n now
  cut_answer C.Sink part rose = (rose refl, some part)
  cut_answer C.Memory part rose = some part

  pub scripts_cut : (cut : Cut) → DocCut d k (lines_of script) n was.written now.written → (IsErrOf {T = Bool} (Err cut) C.Sink → Rose was.faults now.faults) → was.faults ≤ now.faults → Scripts rows ty start script m was (Err (F.Cut cut)) n now
  scripts_cut cut part rose faults = record {
    answer = cut_answer cut part rose;
    later = Later-trans m k n (asks_later rows ty start m k starts.asks) part.done.later;
    faults = faults;
  }

-- a script that couldn't start
pub scripts_stopped : (rows : List Row) (ty : TypeNo) (start : Start) (script : List ℕ) (f : StartFault) (m n : Moment) (was : Output) → Starts id_of rows ty start m (Err f) n → Scripts rows ty start script m was (Err (F.Start f)) n was
scripts_stopped rows ty start script f m n was starts = record {
  answer = (starts.answer, starts.asks, refl);
  later = asks_later rows ty start m n starts.asks;
  faults = omega arith;
}

-- ---- the lines of a session

module _ (x e : Document) (d : Doc) (same : doc_in x ≡ d) (out : begun_in x ≡ None) (none : own_in x ≡ []) (kept : ◌≡◌ {A = List Row × TypeNo} (table_in (doc_in e), type_in (doc_in e)) (table_in (doc_in x), type_in (doc_in x)))
    (m : Moment) (lines : List (List ℕ)) (n : Moment) (was now : Option (List ℕ)) where
  table : table_in (doc_in e) ≡ table_in d
  table = ap (λ p. p.0) kept ∙ ap table_in same

  type : type_in (doc_in e) ≡ type_in d
  type = ap (λ p. p.1) kept ∙ ap type_in same

  -- from the document itself, outside any batch
  from : (P : (Meaning Value → Stage Value → Type 0) → Type 0) → P (StandsAt (doc_in x) (begun_in x) (own_in x) m) → P (StandsAt d None [] m)
  from P p = subst (λ z. P (StandsAt d None z m)) none (subst (λ z. P (StandsAt d z (own_in x) m)) out (subst (λ z. P (StandsAt z (begun_in x) (own_in x) m)) same p))

  -- where the session stands then
  abbrev Then : Meaning Value → Stage Value → Type 0
  Then = StandsAt (doc_in e) (begun_in e) (own_in e) n

  pub lines_done : (r : Result Bool Cut) → IfOk r (λ refused. LinesDone (StandsAt (doc_in x) (begun_in x) (own_in x) m) Then Passes x e m lines n was now refused) → IfOk r (λ refused. DocDone d m lines n was now refused)
  lines_done (Ok refused) done = record { from = x; is = same; out = out; after = e; table = table; type = type; done = from (λ S. LinesDone S Then Passes x e m lines n was now refused) done }
  lines_done (Err cut) done = tt

  pub lines_cut : (r : Result Bool Cut) → OnErr r (LinesCut (StandsAt (doc_in x) (begun_in x) (own_in x) m) Then Passes x e m lines n was now) → OnErr r (DocCut d m lines n was now)
  lines_cut (Ok refused) part = tt
  lines_cut (Err cut) part = record { from = x; is = same; out = out; after = e; table = table; type = type; done = from (λ S. LinesCut S Then Passes x e m lines n was now) part }
