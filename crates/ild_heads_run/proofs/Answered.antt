-- One line more of a script over named heads.
use Rattle.std.proofs.Common.{◌≡◌, ℕ, List, [], ◌∷◌, ◌++◌, Bool, true, false, Option, refl, sym, ap, ◌∙◌, subst, append_assoc, append-nil}
use Rattle.std.specs.Prelude.{◌||◌, IsTrue}
use Rattle.std.specs.List.{list_any}
use Rattle.std.proofs.lemmas.Grind.{flat_map-append}
use Rattle.std.proofs.lemmas.List.Folds.{list_any-append}
use Rattle.ild_data.specs.declared.id.BlockId.{BlockId}
use Rattle.ild_edges.specs.Sink.{Appends, AppendsFront}
use Rattle.ild_edges.proofs.Written.{appends_none, appends_then, front_more, front_then}
use Rattle.ild_heads.specs.Legal.{AreLegal}
use Rattle.ild_heads.specs.State.{State, nothing}
use Rattle.ild_heads.proofs.Legality.{nothing_legal}
use Rattle.ild_script.specs.declared.reply.No.{No}
use Rattle.ild_heads_script.proofs.Spelled.{answers_more, spelled}
use Rattle.ild_heads_script.specs.Script.{Answers}
use Rattle.ild_heads_run.specs.Ends.{ends}
use Rattle.ild_heads_run.specs.inside.Lines.{LineCut, LineDone, LinesCut, LinesDone}
use Rattle.ild_heads_run.specs.Runs.{RanScript, ScriptCut, ScriptDone, ends_behind, joined}
use Rattle.ild_heads_run.specs.Says.{says_no}

joined_more : (texts : List (List ℕ)) (text : List ℕ) → joined (texts ++ text ∷ []) ≡ joined texts ++ text
joined_more texts text = flat_map-append (λ (t : List ℕ). t) texts (text ∷ []) ∙ ap (λ z. joined texts ++ z) (append-nil text)

module _ {W V : Type 0} (told : W → Bool) (Stands : W → List ℕ → V → Type 0) (Plain : V → List ℕ → List ℕ → V → Type 0)
    (Ran : W → List ℕ → List ℕ → List ℕ → List ℕ → W → Type 0) (Later : W → W → Type 0) (Empty : W → List ℕ → Type 0) (Cause : W → Option BlockId → No → W → Type 0) where
  abbrev Done : W → State → List (List ℕ) → W → State → Option (List ℕ) → Option (List ℕ) → Bool → Type 0
  Done w s lines x t was now refused = LinesDone told Stands Plain Ran Later Empty Cause w s lines x t was now refused

  abbrev One : W → State → List ℕ → W → State → Option (List ℕ) → Option (List ℕ) → Bool → Type 0
  One w s line x t was now refused = LineDone told Stands Plain Ran Later Empty Cause w s line x t was now refused

  abbrev Part : W → State → List ℕ → W → State → Option (List ℕ) → Option (List ℕ) → Type 0
  Part w s line x t was now = LineCut told Stands Plain Ran Later Empty Cause w s line x t was now

  -- the lines answered so far, and those that are left
  pub record SoFar (lines left : List (List ℕ)) (w : W) (s : State) (x : W) (t : State) (was now : Option (List ℕ)) (refused : Bool) : Type 0 where
    pub first : List (List ℕ)
    pub split : lines ≡ first ++ left
    pub done : LinesDone told Stands Plain Ran Later Empty Cause w s first x t was now refused

  pub so_far_none : (lines : List (List ℕ)) (w : W) (s : State) (was : Option (List ℕ)) → SoFar lines lines w s w s was was false
  so_far_none lines w s was = record { first = []; split = refl; done = record { texts = []; answers = (refl, refl, refl); written = appends_none was; refused_is = refl } }

  pub so_far_more : (lines : List (List ℕ)) (l : List ℕ) (left both : List (List ℕ)) (w : W) (s : State) (x : W) (t : State) (y : W) (u : State) (a b c : Option (List ℕ)) (p q : Bool)
      → SoFar lines both w s x t a b p → both ≡ l ∷ left → One x t l y u b c q → SoFar lines left w s y u a c (p || q)
  so_far_more lines l left both w s x t y u a b c p q so cut one = record {
    first = so.first ++ l ∷ [];
    split = so.split ∙ ap (λ ls. so.first ++ ls) cut ∙ sym (append_assoc so.first (l ∷ []) left);
    done = record {
      texts = so.done.texts ++ one.text ∷ [];
      answers = answers_more told Stands Plain Ran Later Empty Cause w s so.first so.done.texts x t l one.text y u so.done.answers one.answers;
      written = subst (Appends a c) (sym (joined_more so.done.texts one.text)) (appends_then a b c (joined so.done.texts) one.text so.done.written one.written);
      refused_is = ap (λ z. z || q) so.done.refused_is ∙ ap (λ z. list_any says_no so.done.texts || z) (one.refused_is ∙ or_false (says_no one.text)) ∙ sym (list_any-append says_no so.done.texts (one.text ∷ []));
    };
  } where
    or_false : (b : Bool) → b ≡ b || false
    or_false true = refl
    or_false false = refl

  pub so_far_cut : (lines : List (List ℕ)) (l : List ℕ) (left both : List (List ℕ)) (w : W) (s : State) (x : W) (t : State) (y : W) (u : State) (a b c : Option (List ℕ)) (p : Bool)
      → SoFar lines both w s x t a b p → both ≡ l ∷ left → Part x t l y u b c → LinesCut told Stands Plain Ran Later Empty Cause w s lines y u a c
  so_far_cut lines l left both w s x t y u a b c p so cut one = record {
    first = so.first ++ l ∷ [];
    rest = left;
    split = so.split ∙ ap (λ ls. so.first ++ ls) cut ∙ sym (append_assoc so.first (l ∷ []) left);
    texts = so.done.texts ++ one.text ∷ [];
    answers = answers_more told Stands Plain Ran Later Empty Cause w s so.first so.done.texts x t l one.text y u so.done.answers one.answers;
    written = subst (AppendsFront a c) (sym (joined_more so.done.texts one.text)) (front_then a b c (joined so.done.texts) one.text so.done.written one.written);
  }

  pub so_far_all : (lines : List (List ℕ)) (w : W) (s : State) (x : W) (t : State) (a b : Option (List ℕ)) (p : Bool) → SoFar lines [] w s x t a b p → Done w s lines x t a b p
  so_far_all lines w s x t a b p so = subst (λ (ls : List (List ℕ)). Done w s ls x t a b p) (sym (so.split ∙ append-nil so.first)) so.done

  -- ---- the whole script

  module _ (same : (w : W) → Later w w) (then : (u v w : W) → Later u v → Later v w → Later u w) where
    answers_later : (w : W) (s : State) (ls texts : List (List ℕ)) (x : W) (t : State) → Answers told Stands Plain Ran Later Empty Cause w s ls texts x t → Later w x
    answers_later w s [] texts x t a = subst (Later w) (sym a.2) (same w)
    answers_later w s (l ∷ ls) texts x t a = then w a.0 x a.4.later (answers_later a.0 a.1 ls a.3 x t a.6)

    ran_script : (w : W) (ls texts : List (List ℕ)) (x : W) (t : State) → (IsTrue (told x) → AreLegal (Stands x) Plain t) → Answers told Stands Plain Ran Later Empty Cause w nothing ls texts x t
        → RanScript told Stands Plain Ran Later Empty Cause w ls texts x t
    ran_script w ls texts x t legal a = record { answers = a; spells = spelled told Stands Plain Ran Later Empty Cause w nothing ls texts x t a; legal = legal; later = answers_later w nothing ls texts x t a }

    pub script_done : (w : W) (lines : List (List ℕ)) (x : W) (t : State) (a b c : Option (List ℕ)) (refused : Bool) → (IsTrue (told x) → AreLegal (Stands x) Plain t) → Done w nothing lines x t a b refused → Appends b c (ends t)
        → ScriptDone told Stands Plain Ran Later Empty Cause w lines x a c refused
    script_done w lines x t a b c refused legal d end = record {
      texts = d.texts;
      state = t;
      ran = ran_script w lines d.texts x t legal d.answers;
      written = appends_then a b c (joined d.texts) (ends t) d.written end;
      refused_is = d.refused_is;
    }

    -- cut off among the heads
    pub ends_cut : (w : W) (lines : List (List ℕ)) (x : W) (t : State) (a b c : Option (List ℕ)) (refused : Bool) → (IsTrue (told x) → AreLegal (Stands x) Plain t) → Done w nothing lines x t a b refused → AppendsFront b c (ends t)
        → ScriptCut told Stands Plain Ran Later Empty Cause w lines x a c
    ends_cut w lines x t a b c refused legal d end = record {
      first = lines;
      rest = [];
      split = sym (append-nil lines);
      texts = d.texts;
      state = t;
      ran = ran_script w lines d.texts x t legal d.answers;
      written = front_then a b c (joined d.texts) (ends t) d.written end;
    }

    -- cut off among the lines
    pub lines_cut : (w : W) (lines : List (List ℕ)) (x : W) (t : State) (a b : Option (List ℕ)) → (IsTrue (told x) → AreLegal (Stands x) Plain t) → LinesCut told Stands Plain Ran Later Empty Cause w nothing lines x t a b
        → ScriptCut told Stands Plain Ran Later Empty Cause w lines x a b
    lines_cut w lines x t a b legal d = record {
      first = d.first;
      rest = d.rest;
      split = d.split;
      texts = d.texts;
      state = t;
      ran = ran_script w d.first d.texts x t legal d.answers;
      written = front_more a b (joined d.texts) (ends_behind d.rest t) d.written;
    }

-- where there are no heads and no sessions, all is legal
pub first_legal : {V : Type 0} (Stands : List ℕ → V → Type 0) (Plain : V → List ℕ → List ℕ → V → Type 0) (s : State) → s ≡ nothing → AreLegal Stands Plain s
first_legal Stands Plain s is = subst (AreLegal Stands Plain) (sym is) (nothing_legal Stands Plain)

-- ---- by rules that stay

module _ {W V : Type 0} (told : W → Bool) (Stands : W → List ℕ → V → Type 0) (Ran : W → List ℕ → List ℕ → List ℕ → List ℕ → W → Type 0) (Later : W → W → Type 0) (Empty : W → List ℕ → Type 0) (Cause : W → Option BlockId → No → W → Type 0)
    {R : Type 0} (plain : R → V → List ℕ → List ℕ → V → Type 0) where
  pub done_by : (a b : R) → b ≡ a → (w : W) (s : State) (line : List ℕ) (x : W) (t : State) (was now : Option (List ℕ)) (refused : Bool)
      → LineDone told Stands (plain b) Ran Later Empty Cause w s line x t was now refused → LineDone told Stands (plain a) Ran Later Empty Cause w s line x t was now refused
  done_by a b same w s line x t was now refused d = subst (λ z. LineDone told Stands (plain z) Ran Later Empty Cause w s line x t was now refused) same d

  pub cut_by : (a b : R) → b ≡ a → (w : W) (s : State) (line : List ℕ) (x : W) (t : State) (was now : Option (List ℕ))
      → LineCut told Stands (plain b) Ran Later Empty Cause w s line x t was now → LineCut told Stands (plain a) Ran Later Empty Cause w s line x t was now
  cut_by a b same w s line x t was now d = subst (λ z. LineCut told Stands (plain z) Ran Later Empty Cause w s line x t was now) same d

  pub legal_by : (a b : R) → b ≡ a → (x : W) (t : State) → (IsTrue (told x) → AreLegal (Stands x) (plain b) t) → IsTrue (told x) → AreLegal (Stands x) (plain a) t
  legal_by a b same x t legal y = subst (λ z. AreLegal (Stands x) (plain z) t) same (legal y)
