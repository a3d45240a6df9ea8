-- The lines of a script spell a list of events.
use Rattle.std.specs.Prelude.{◌≡◌, ◌⊎◌, ℕ, List, [], ◌∷◌, ◌++◌, Bool, true, IsTrue, Option, refl}
use Rattle.std.proofs.Common.{sym, ap, subst, ◌∙◌, inl, inr}
use Rattle.ild_data.specs.declared.id.BlockId.{BlockId}
use Rattle.ild_script.specs.declared.reply.No.{No}
use Rattle.ild_script.specs.declared.reply.No.TheVariants as N
use Rattle.ild_heads.specs.declared.events.Event.{Event}
use Rattle.ild_heads.specs.declared.events.Event.TheVariants as E
use Rattle.ild_heads.specs.Change.{session_of}
use Rattle.ild_heads.specs.declared.working.Done.{Done}
use Rattle.ild_heads.specs.Run.{Given, runs, after, IsAllowed, AreGiven, IsRun}
use Rattle.ild_heads.specs.State.{State}
use Rattle.ild_heads.specs.Work.{Stays}
use Rattle.ild_heads.proofs.Stepped.{allowed_stays, given_stays}
use Rattle.ild_heads.proofs.Kept.{was_told, stays_then}
use Rattle.ild_heads_lines.specs.Told.{told_text}
use Rattle.ild_heads_lines.specs.Asks.{Reading, blank, asks, outside, asks_of}
use Rattle.ild_heads_lines.specs.declared.asking.Asked.{Asked}
use Rattle.ild_heads_lines.specs.declared.asking.Asked.TheVariants as A
use Rattle.ild_heads_script.specs.Answer.{RefusesEvent, Tells, TakesEvent, HeadTurn, EmptyTurn, EventTurn, AskedTurn, ReadingTurn, LineTurn}
use Rattle.ild_heads_script.specs.Script.{Deed, quiet, refused, took, deed_text, deed_next, texts, event_of, events, IsOfReading, IsOfLine, AnswersOne, Answers, Spells}

-- an event that is given is allowed, and its lines are answered as work may
abbrev IsGivenDeed : {V : Type 0} → Bool → (List ℕ → V → Type 0) → (V → List ℕ → List ℕ → V → Type 0) → State → Deed → Type 0
IsGivenDeed told Stands Plain s quiet = Unit {0}
IsGivenDeed told Stands Plain s (refused refusal) = Unit {0}
IsGivenDeed told Stands Plain s (took g) = IsTrue told → IsAllowed Stands g.event × AreGiven true Stands Plain s g.event g.done

-- what one line gives
pub record GivesOne {V : Type 0} (told : Bool) (Stands : List ℕ → V → Type 0) (Plain : V → List ℕ → List ℕ → V → Type 0) (Of : Deed → Type 0) (s : State) (text : List ℕ) (t : State) : Type 0 where
  deed : Deed
  of : Of deed
  text_is : text ≡ deed_text s deed
  next_is : t ≡ deed_next s deed
  given : IsGivenDeed told Stands Plain s deed

-- by its reading, or want of memory
abbrev IsOf : Reading → Deed → Type 0
IsOf r d = (d ≡ refused N.Memory) ⊎ IsOfReading r d

module _ {W V : Type 0} (told : Bool) (Stands : List ℕ → V → Type 0) (Plain : V → List ℕ → List ℕ → V → Type 0) (Ran : W → List ℕ → List ℕ → List ℕ → List ℕ → W → Type 0) (w x : W) (Empty : W → List ℕ → Type 0) (Cause : W → Option BlockId → No → W → Type 0) (s : State) (text : List ℕ) (t : State) where
  of_quiet : (Of : Deed → Type 0) → Of quiet → (text ≡ []) × (t ≡ s) → GivesOne told Stands Plain Of s text t
  of_quiet Of is q = record { deed = quiet; of = is; text_is = q.0; next_is = q.1; given = tt }

  of_refused : (Of : Deed → Type 0) (refusal : No) → Of (refused refusal) → RefusesEvent refusal s text t → GivesOne told Stands Plain Of s text t
  of_refused Of refusal is r = record { deed = refused refusal; of = is; text_is = r.text_is; next_is = r.stays; given = tt }

  of_tells : (u : W) (r : Reading) (event : Event) → ((done : List Done) → IsOfReading r (took (record { event = event; done = done }))) → (IsTrue told → IsAllowed Stands event) → Tells told Stands Plain Ran u x s event text t → GivesOne told Stands Plain (IsOf r) s text t
  of_tells u r event is allowed o = record {
    deed = took (record { event = event; done = o.turn.done });
    of = inr (is o.turn.done);
    text_is = o.text_is ∙ ap (told_text (session_of event)) (sym (ap (λ z. z.outcome) o.turn.turned));
    next_is = sym (ap (λ z. z.next) o.turn.turned);
    given = λ y. (allowed y, subst (λ b. AreGiven b Stands Plain s event o.turn.done) y o.turn.given);
  }

  of_takes : (u : W) (r : Reading) (event : Event) → ((done : List Done) → IsOfReading r (took (record { event = event; done = done }))) → (IsTrue told → IsAllowed Stands event) → TakesEvent told Stands Plain Ran u x s event text t → GivesOne told Stands Plain (IsOf r) s text t
  of_takes u r event is allowed (inl z) = of_refused (IsOf r) N.Memory (inl refl) z
  of_takes u r event is allowed (inr o) = of_tells u r event is allowed o

  of_head : (name : List ℕ) (root : BlockId) → HeadTurn told Stands Plain Ran w x Empty Cause s name root text t → GivesOne told Stands Plain (IsOf (asks (A.Event (E.Head name root)))) s text t
  of_head name root (inl r) = of_refused (IsOf (asks (A.Event (E.Head name root)))) r.0 (inr refl) r.2
  of_head name root (inr o) = of_takes x (asks (A.Event (E.Head name root))) (E.Head name root) (λ done. refl) o.0 o.1

  of_empty : (name : List ℕ) → EmptyTurn told Stands Plain Ran w x Empty Cause s name text t → GivesOne told Stands Plain (IsOf (asks (A.Empty name))) s text t
  of_empty name (inl r) = of_refused (IsOf (asks (A.Empty name))) r.0 (inr tt) r.2
  of_empty name (inr o) = of_takes x (asks (A.Empty name)) (E.Head name o.0) (λ done. (o.0, refl)) o.1 o.3

  of_event : (event : Event) → EventTurn told Stands Plain Ran w x Empty Cause s event text t → GivesOne told Stands Plain (IsOf (asks (A.Event event))) s text t
  of_event (E.Head name root) o = of_head name root o
  of_event (E.Begin n name) o = of_takes w (asks (A.Event (E.Begin n name))) (E.Begin n name) (λ done. refl) (λ y. tt) o
  of_event (E.Line n line) o = of_takes w (asks (A.Event (E.Line n line))) (E.Line n line) (λ done. refl) (λ y. tt) o
  of_event (E.Commit n) o = of_takes w (asks (A.Event (E.Commit n))) (E.Commit n) (λ done. refl) (λ y. tt) o
  of_event (E.Replay n) o = of_takes w (asks (A.Event (E.Replay n))) (E.Replay n) (λ done. refl) (λ y. tt) o
  of_event (E.Abort n) o = of_takes w (asks (A.Event (E.Abort n))) (E.Abort n) (λ done. refl) (λ y. tt) o

  of_asked : (asked : Asked) → AskedTurn told Stands Plain Ran w x Empty Cause s asked text t → GivesOne told Stands Plain (IsOf (asks asked)) s text t
  of_asked (A.Empty name) o = of_empty name o
  of_asked (A.Event event) o = of_event event o

  of_reading : (reading : Reading) → ReadingTurn told Stands Plain Ran w x Empty Cause s reading text t → GivesOne told Stands Plain (IsOf reading) s text t
  of_reading blank o = of_quiet (IsOf blank) (inr refl) o
  of_reading (asks asked) o = of_asked asked o
  of_reading outside o = of_refused (IsOf outside) N.Line (inr refl) o

  of_either : (reading : Reading) → (RefusesEvent N.Memory s text t ⊎ ReadingTurn told Stands Plain Ran w x Empty Cause s reading text t) → GivesOne told Stands Plain (IsOf reading) s text t
  of_either reading (inl r) = of_refused (IsOf reading) N.Memory (inl refl) r
  of_either reading (inr o) = of_reading reading o

  pub line_gives : (line : List ℕ) → LineTurn told Stands Plain Ran w x Empty Cause s line text t → GivesOne told Stands Plain (IsOfLine line) s text t
  line_gives [] o = of_quiet (IsOfLine []) refl o
  line_gives (b ∷ bs) o = of_either (asks_of (b ∷ bs)) o

-- what was given is given still while what stood stands
deed_stays : {V : Type 0} (told : Bool) (Stands : List ℕ → V → Type 0) (told' : Bool) (Stands' : List ℕ → V → Type 0) → Stays told Stands told' Stands' → (Plain : V → List ℕ → List ℕ → V → Type 0) (s : State) (d : Deed)
    → IsGivenDeed told Stands Plain s d → IsGivenDeed told' Stands' Plain s d
deed_stays told S told' S' stays Plain s quiet p = tt
deed_stays told S told' S' stays Plain s (refused refusal) p = tt
deed_stays told S told' S' stays Plain s (took g) p = λ y.
    let was = was_told told S told' S' stays Plain y in
    let kept : Stays true S true S' = record { same = refl; stood = λ root v z h. stays.stood root v was h } in
    (allowed_stays told S told' S' stays g.event was (p was).0, given_stays true S true S' kept Plain (runs s g.event) g.done (p was).1)

deed_run : {V : Type 0} (told : Bool) (Stands : List ℕ → V → Type 0) (Plain : V → List ℕ → List ℕ → V → Type 0) (s : State) (d : Deed) (gs : List Given) → IsTrue told
    → IsGivenDeed told Stands Plain s d → IsRun Stands Plain (deed_next s d) gs → IsRun Stands Plain s (event_of d gs)
deed_run told S Plain s quiet gs y p r = r
deed_run told S Plain s (refused refusal) gs y p r = r
deed_run told S Plain s (took g) gs y p r = ((p y).0, (p y).1, r)

deed_after : (s : State) (d : Deed) (gs : List Given) → after (deed_next s d) gs ≡ after s (event_of d gs)
deed_after s quiet gs = refl
deed_after s (refused refusal) gs = refl
deed_after s (took g) gs = refl

-- one line before others
spells_more : {V : Type 0} (told : Bool) (Stands : List ℕ → V → Type 0) (Plain : V → List ℕ → List ℕ → V → Type 0) (s : State) (line first : List ℕ) (k : State) (lines rest : List (List ℕ)) (t : State) (all : List (List ℕ))
    → (d : Deed) → IsOfLine line d → first ≡ deed_text s d → k ≡ deed_next s d → IsGivenDeed told Stands Plain s d → Spells told Stands Plain k lines rest t → all ≡ first ∷ rest → Spells told Stands Plain s (line ∷ lines) all t
spells_more told S Plain s line first k lines rest t all d of f n given sp e = record {
  deeds = d ∷ sp.deeds;
  given = (of, sp.given);
  texts_are = e ∙ ap (λ z. z ∷ rest) f ∙ ap (λ z. deed_text s d ∷ z) (sp.texts_are ∙ ap (λ q. texts q sp.deeds) n);
  state_is = sp.state_is ∙ ap (λ q. after q (events sp.deeds)) n ∙ deed_after s d (events sp.deeds);
  run = λ y. deed_run told S Plain s d (events sp.deeds) y given (subst (λ q. IsRun S Plain q (events sp.deeds)) n (sp.run y));
}

module _ {W V : Type 0} (told : W → Bool) (Stands : W → List ℕ → V → Type 0) (Plain : V → List ℕ → List ℕ → V → Type 0)
    (Ran : W → List ℕ → List ℕ → List ℕ → List ℕ → W → Type 0) (Later : W → W → Type 0) (Empty : W → List ℕ → Type 0) (Cause : W → Option BlockId → No → W → Type 0) where
  -- work only goes on
  pub answers_stay : (w : W) (s : State) (ls texts' : List (List ℕ)) (x : W) (t : State) → Answers told Stands Plain Ran Later Empty Cause w s ls texts' x t → Stays (told w) (Stands w) (told x) (Stands x)
  answers_stay w s [] texts' x t a = subst (λ z. Stays (told w) (Stands w) (told z) (Stands z)) (sym a.2) (record { same = refl; stood = λ root v y h. h })
  answers_stay w s (l ∷ ls) texts' x t a = stays_then _ _ _ _ _ _ a.4.stays (answers_stay a.0 a.1 ls a.3 x t a.6)

  pub spelled : (w : W) (s : State) (ls texts' : List (List ℕ)) (x : W) (t : State) → Answers told Stands Plain Ran Later Empty Cause w s ls texts' x t → Spells (told x) (Stands x) Plain s ls texts' t
  spelled w s [] texts' x t a = record { deeds = []; given = refl; texts_are = a.0; state_is = a.1; run = λ y. tt }
  spelled w s (l ∷ ls) texts' x t a =
      let one = line_gives (told a.0) (Stands a.0) Plain Ran w a.0 Empty Cause s a.2 a.1 l a.4.turn in
      spells_more (told x) (Stands x) Plain s l a.2 a.1 ls a.3 t texts' one.deed one.of one.text_is one.next_is
      (deed_stays (told a.0) (Stands a.0) (told x) (Stands x) (answers_stay a.0 a.1 ls a.3 x t a.6) Plain s one.deed one.given) (spelled a.0 a.1 ls a.3 x t a.6) a.5

  -- one line more
  pub answers_more : (w : W) (s : State) (ls texts' : List (List ℕ)) (x : W) (t : State) (l text : List ℕ) (y : W) (u : State) → Answers told Stands Plain Ran Later Empty Cause w s ls texts' x t → AnswersOne told Stands Plain Ran Later Empty Cause x t l text y u
      → Answers told Stands Plain Ran Later Empty Cause w s (ls ++ l ∷ []) (texts' ++ text ∷ []) y u
  answers_more w s [] texts' x t l text y u a one =
      let here : AnswersOne told Stands Plain Ran Later Empty Cause w s l text y u =
      subst (λ z. AnswersOne told Stands Plain Ran Later Empty Cause w z l text y u) a.1 (subst (λ z. AnswersOne told Stands Plain Ran Later Empty Cause z t l text y u) a.2 one) in
      (y, u, text, [], here, ap (λ z. z ++ text ∷ []) a.0, (refl, refl, refl))
  answers_more w s (k ∷ ls) texts' x t l text y u a one =
      (a.0, a.1, a.2, a.3 ++ text ∷ [], a.4, ap (λ z. z ++ text ∷ []) a.5, answers_more a.0 a.1 ls a.3 x t l text y u a.6 one)
