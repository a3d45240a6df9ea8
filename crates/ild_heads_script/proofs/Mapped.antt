-- A script over one kind of work, as one over what is seen of it.
use Rattle.std.specs.Prelude.{◌≡◌, ◌⊎◌, ℕ, List, [], ◌∷◌, Bool, IsTrue, Option, Some, None, MatchOption, refl}
use Rattle.std.proofs.Common.{sym, ap, subst, inl, inr}
use Rattle.ild_data.specs.declared.id.BlockId.{BlockId}
use Rattle.ild_script.specs.declared.reply.No.{No}
use Rattle.ild_heads.specs.declared.events.Event.{Event}
use Rattle.ild_heads.specs.declared.events.Event.TheVariants as E
use Rattle.ild_heads.specs.declared.working.Done.{Done}
use Rattle.ild_heads.specs.Run.{AreRan, runs}
use Rattle.ild_heads.specs.State.{State}
use Rattle.ild_heads.specs.Work.{Stays}
use Rattle.ild_heads_lines.specs.Asks.{Reading, blank, asks, outside, asks_of}
use Rattle.ild_heads_lines.specs.declared.asking.Asked.{Asked}
use Rattle.ild_heads_lines.specs.declared.asking.Asked.TheVariants as A
use Rattle.ild_heads_script.specs.Answer.{RefusesEvent, Tells, TakesEvent, IsRefused, HeadTurn, EmptyTurn, EventTurn, AskedTurn, ReadingTurn, SomeTurn, LineTurn}
use Rattle.ild_heads_script.specs.Script.{Answers, AnswersOne, Spells}

-- the calls of lines
module _ {W M : Type 0} (f : W → M) (I : W → Type 0) (Ran : W → List ℕ → List ℕ → List ℕ → List ℕ → W → Type 0) (Ran' : M → List ℕ → List ℕ → List ℕ → List ℕ → M → Type 0)
    (ran_to : (w : W) (root line reply to : List ℕ) (x : W) → I w → Ran w root line reply to x → I x × Ran' (f w) root line reply to (f x)) where
  are_ran_to : (w : W) (root : List ℕ) (ls : List (List ℕ)) (done : List Done) (x : W) → I w → AreRan Ran w root ls done x → AreRan Ran' (f w) root ls done (f x)
  are_ran_to w root [] done x i a = (a.0, ap f a.1)
  are_ran_to w root (l ∷ ls) done x i a =
      let one = ran_to w root l a.0.reply a.0.root.0 a.2 i a.4 in
      (a.0, a.1, f a.2, a.3, one.1, are_ran_to a.2 a.0.root.0 ls a.1 x one.0 a.5)

  ran_for_to : (w x : W) (o : Option (BlockId × List (List ℕ))) (done : List Done) → I w → MatchOption o (x ≡ w) (λ r. AreRan Ran w r.0.0 r.1 done x) → MatchOption o (f x ≡ f w) (λ r. AreRan Ran' (f w) r.0.0 r.1 done (f x))
  ran_for_to w x None done i a = ap f a
  ran_for_to w x (Some r) done i a = are_ran_to w r.0.0 r.1 done x i a

  -- one line
  module _ {V : Type 0} (told : Bool) (Stands : List ℕ → V → Type 0) (Plain : V → List ℕ → List ℕ → V → Type 0) (w x : W) (i : I w) (j : I x) (Empty : W → List ℕ → Type 0) (Empty' : M → List ℕ → Type 0)
      (Cause : W → Option BlockId → No → W → Type 0) (Cause' : M → Option BlockId → No → M → Type 0)
      (empty_to : (root : List ℕ) → Empty x root → Empty' (f x) root) (cause_to : (root : Option BlockId) (refusal : No) → Cause w root refusal x → Cause' (f w) root refusal (f x)) (s : State) (text : List ℕ) (t : State) where
    tells_to : (u : W) → I u → (event : Event) → Tells told Stands Plain Ran u x s event text t → Tells told Stands Plain Ran' (f u) (f x) s event text t
    tells_to u k event o = record {
      outcome = o.outcome;
      turn = record { done = o.turn.done; given = o.turn.given; ran = ran_for_to u x (runs s event) o.turn.done k o.turn.ran; turned = o.turn.turned };
      text_is = o.text_is;
    }

    takes_to : (u : W) → I u → (event : Event) → TakesEvent told Stands Plain Ran u x s event text t → TakesEvent told Stands Plain Ran' (f u) (f x) s event text t
    takes_to u k event (inl r) = inl r
    takes_to u k event (inr o) = inr (tells_to u k event o)

    head_to : (name : List ℕ) (root : BlockId) → HeadTurn told Stands Plain Ran w x Empty Cause s name root text t → HeadTurn told Stands Plain Ran' (f w) (f x) Empty' Cause' s name root text t
    head_to name root (inl r) = inl (r.0, cause_to (Some root) r.0 r.1, r.2)
    head_to name root (inr o) = inr (o.0, takes_to x j (E.Head name root) o.1)

    empty_turn_to : (name : List ℕ) → EmptyTurn told Stands Plain Ran w x Empty Cause s name text t → EmptyTurn told Stands Plain Ran' (f w) (f x) Empty' Cause' s name text t
    empty_turn_to name (inl r) = inl (r.0, cause_to None r.0 r.1, r.2)
    empty_turn_to name (inr o) = inr (o.0, o.1, empty_to o.0.0 o.2, takes_to x j (E.Head name o.0) o.3)

    event_to : (event : Event) → EventTurn told Stands Plain Ran w x Empty Cause s event text t → EventTurn told Stands Plain Ran' (f w) (f x) Empty' Cause' s event text t
    event_to (E.Head name root) o = head_to name root o
    event_to (E.Begin n name) o = takes_to w i (E.Begin n name) o
    event_to (E.Line n line) o = takes_to w i (E.Line n line) o
    event_to (E.Commit n) o = takes_to w i (E.Commit n) o
    event_to (E.Replay n) o = takes_to w i (E.Replay n) o
    event_to (E.Abort n) o = takes_to w i (E.Abort n) o

    asked_to : (asked : Asked) → AskedTurn told Stands Plain Ran w x Empty Cause s asked text t → AskedTurn told Stands Plain Ran' (f w) (f x) Empty' Cause' s asked text t
    asked_to (A.Empty name) o = empty_turn_to name o
    asked_to (A.Event event) o = event_to event o

    reading_to : (reading : Reading) → ReadingTurn told Stands Plain Ran w x Empty Cause s reading text t → ReadingTurn told Stands Plain Ran' (f w) (f x) Empty' Cause' s reading text t
    reading_to blank o = o
    reading_to (asks asked) o = asked_to asked o
    reading_to outside o = o

    some_to : (line : List ℕ) → SomeTurn told Stands Plain Ran w x Empty Cause s line text t → SomeTurn told Stands Plain Ran' (f w) (f x) Empty' Cause' s line text t
    some_to line (inl r) = inl r
    some_to line (inr o) = inr (reading_to (asks_of line) o)

    line_to : (line : List ℕ) → LineTurn told Stands Plain Ran w x Empty Cause s line text t → LineTurn told Stands Plain Ran' (f w) (f x) Empty' Cause' s line text t
    line_to [] o = o
    line_to (b ∷ bs) o = some_to (b ∷ bs) o

  -- a script, where the work stays one of which I holds
  module _ {V : Type 0} (told' : M → Bool) (Stands : W → List ℕ → V → Type 0) (Stands' : M → List ℕ → V → Type 0) (Plain : V → List ℕ → List ℕ → V → Type 0)
      (Later : W → W → Type 0) (Later' : M → M → Type 0) (Empty : W → List ℕ → Type 0) (Empty' : M → List ℕ → Type 0) (Cause : W → Option BlockId → No → W → Type 0) (Cause' : M → Option BlockId → No → M → Type 0)
      (stands_is : (w : W) → I w → Stands w ≡ Stands' (f w)) (later_to : (w x : W) → I w → Later w x → I x × Later' (f w) (f x)) (empty_to : (x : W) (root : List ℕ) → I x → Empty x root → Empty' (f x) root)
      (cause_to : (w : W) (root : Option BlockId) (refusal : No) (x : W) → I w → Cause w root refusal x → Cause' (f w) root refusal (f x)) where
    one_to : (w : W) (s : State) (line text : List ℕ) (x : W) (t : State) → I w → I x → Later' (f w) (f x) → AnswersOne (λ u. told' (f u)) Stands Plain Ran Later Empty Cause w s line text x t
        → AnswersOne told' Stands' Plain Ran' Later' Empty' Cause' (f w) s line text (f x) t
    one_to w s line text x t i j later a = record {
      turn = line_to (told' (f x)) (Stands' (f x)) Plain w x i j Empty Empty' Cause Cause' (λ root e. empty_to x root j e) (λ root refusal c. cause_to w root refusal x i c) s text t line
          (subst (λ S. LineTurn (told' (f x)) S Plain Ran w x Empty Cause s line text t) (stands_is x j) a.turn);
      later = later;
      stays = subst (λ S. Stays (told' (f w)) S (told' (f x)) (Stands' (f x))) (stands_is w i) (subst (λ S. Stays (told' (f w)) (Stands w) (told' (f x)) S) (stands_is x j) a.stays);
    }

    -- it stays so to the end
    pub keeps_to : (w : W) (s : State) (ls texts : List (List ℕ)) (x : W) (t : State) → I w → Answers (λ u. told' (f u)) Stands Plain Ran Later Empty Cause w s ls texts x t → I x
    keeps_to w s [] texts x t i a = subst I (sym a.2) i
    keeps_to w s (l ∷ ls) texts x t i a = keeps_to a.0 a.1 ls a.3 x t (later_to w a.0 i a.4.later).0 a.6

    pub answers_to : (w : W) (s : State) (ls texts : List (List ℕ)) (x : W) (t : State) → I w → Answers (λ u. told' (f u)) Stands Plain Ran Later Empty Cause w s ls texts x t
        → Answers told' Stands' Plain Ran' Later' Empty' Cause' (f w) s ls texts (f x) t
    answers_to w s [] texts x t i a = (a.0, a.1, ap f a.2)
    answers_to w s (l ∷ ls) texts x t i a =
        let on = later_to w a.0 i a.4.later in
        (f a.0, a.1, a.2, a.3, one_to w s l a.2 a.0 a.1 i on.0 on.1 a.4, a.5, answers_to a.0 a.1 ls a.3 x t on.0 a.6)
