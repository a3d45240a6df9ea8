-- One line more of a run.
use Rattle.std.proofs.Common.{◌≡◌, ℕ, List, [], ◌∷◌, ◌++◌, Bool, false, Option, Some, None, refl, sym, ap, ◌∙◌, subst, append_assoc, append-nil}
use Rattle.std.specs.Prelude.{◌||◌}
use Rattle.std.specs.List.{list_any, cons_option}
use Rattle.std.proofs.lemmas.Grind.{flat_map-append}
use Rattle.std.proofs.lemmas.List.Folds.{list_any-append}
use Rattle.ild_edges.specs.Sink.{Appends, AppendsFront}
use Rattle.ild_edges.specs.Store.{Moment}
use Rattle.ild_edges.proofs.Later.{Later-refl, Later-trans}
use Rattle.ild_edges.proofs.Written.{appends_none, appends_then, front_then}
use Rattle.ild_script.specs.declared.reply.Reply.{Reply}
use Rattle.ild_script.specs.Reply.{reply_text, is_no}
use Rattle.ild_script_session.specs.Session.{Stage, Meaning}
use Rattle.ild_script_session.specs.Step.{Step}
use Rattle.ild_script_session.specs.Run.{Run, texts}
use Rattle.ild_script_session.specs.Stands.{IsAnswered, AreAnswered, Leads, Ran}
use Rattle.ild_script_session.specs.Lines.{LineDone, LineCut, LinesDone, LinesCut}

cons_option-append : (r : Option Reply) (xs ys : List Reply) → cons_option r xs ++ ys ≡ cons_option r (xs ++ ys)
cons_option-append None xs ys = refl
cons_option-append (Some r) xs ys = refl

-- a line more, answered from where the run ended
pub Run-push : {V : Type 0} (M : Meaning V) (m : Moment) (s : Stage V) (ls : List (List ℕ)) (rs : List Reply) (n : Moment) (t : Stage V) (l : List ℕ) (r : Option Reply) (o : Moment) (u : Stage V)
    → Run M m s ls rs n t → Step M n t l r o u → Run M m s (ls ++ l ∷ []) (rs ++ cons_option r []) o u
Run-push {V} M m s [] rs n t l r o u run step =
    let here : Step M m s l r o u = subst (λ (x : Stage V). Step M m x l r o u) run.1 (subst (λ (k : Moment). Step M k t l r o u) run.2 step) in
    (r, u, o, [], here, ap (λ xs. xs ++ cons_option r []) run.0, (refl, refl, refl))
Run-push M m s (k ∷ ls) rs n t l r o u run step =
    (run.0, run.1, run.2, run.3 ++ cons_option r [], run.4, ap (λ xs. xs ++ cons_option r []) run.5 ∙ cons_option-append run.0 run.3 (cons_option r []), Run-push M run.2 run.1 ls run.3 n t l r o u run.6 step)

-- and over each store
AreAnswered-push : {S : Type 0} (Passes : S → Moment → List ℕ → Option Reply → Moment → S → Type 0) (a : S) (m : Moment) (ls : List (List ℕ)) (rs : List Reply) (n : Moment) (b : S) (l : List ℕ) (r : Option Reply) (o : Moment) (c : S)
    → AreAnswered Passes a m ls rs n b → IsAnswered n l r o → Passes b n l r o c → AreAnswered Passes a m (ls ++ l ∷ []) (rs ++ cons_option r []) o c
AreAnswered-push Passes a m [] rs n b l r o c are one passed =
    let here : IsAnswered m l r o = subst (λ (k : Moment). IsAnswered k l r o) are.1 one in
    let there : Passes a m l r o c = subst (λ k. Passes k m l r o c) are.2 (subst (λ (k : Moment). Passes b k l r o c) are.1 passed) in
    (r, c, o, [], here, there, ap (λ xs. xs ++ cons_option r []) are.0, (refl, refl, refl))
AreAnswered-push Passes a m (k ∷ ls) rs n b l r o c are one passed = (
  are.0,
  are.1,
  are.2,
  are.3 ++ cons_option r [],
  are.4,
  are.5,
  ap (λ xs. xs ++ cons_option r []) are.6 ∙ cons_option-append are.0 are.3 (cons_option r []),
  AreAnswered-push Passes are.1 are.2 ls are.3 n b l r o c are.7 one passed,
)

module _ {V S : Type 0} (Stood : Meaning V → Stage V → Type 0) (Passes : S → Moment → List ℕ → Option Reply → Moment → S → Type 0) (at : S) where
  -- one line more from each stage at which the session stood
  ran_more : (M : Meaning V) (Stands Then : Stage V → Type 0) (m : Moment) (s : Stage V) (ls : List (List ℕ)) (rs : List Reply) (n : Moment) (l : List ℕ) (r : Option Reply) (o : Moment)
      → Ran M Stands m s ls rs n → ((t : Stage V) → Stands t → Leads M Then n t l r o) → Ran M Then m s (ls ++ l ∷ []) (rs ++ cons_option r []) o
  ran_more M Stands Then m s ls rs n l r o ran one = let next = one ran.stage ran.stands in record {
    stage = next.stage;
    run = Run-push M m s ls rs n ran.stage l r o next.stage ran.run next.step;
    carries = λ h. let x = ran.carries h in (next.step.replies x).carries x;
    stands = next.stands;
  }

  -- the lines answered so far, and those that are left
  pub record SoFar (Stands : Meaning V → Stage V → Type 0) (to : S) (lines left : List (List ℕ)) (m n : Moment) (was now : Option (List ℕ)) (refused : Bool) : Type 0 where
    pub first : List (List ℕ)
    pub split : lines ≡ first ++ left
    pub done : LinesDone Stood Stands Passes at to m first n was now refused

  pub so_far_none : (lines : List (List ℕ)) (m : Moment) (was : Option (List ℕ)) → SoFar Stood at lines lines m m was was false
  so_far_none lines m was = record {
    first = [];
    split = refl;
    done = record {
      replies = [];
      answered = (refl, refl, refl);
      ran = λ M s x. record { stage = s; run = (refl, refl, refl); carries = λ h. h; stands = x };
      later = Later-refl m;
      written = appends_none was;
      refused_is = refl;
    };
  }

  pub so_far_more : (Stands Then : Meaning V → Stage V → Type 0) (to then : S) (lines : List (List ℕ)) (l : List ℕ) (left both : List (List ℕ)) (m n o : Moment) (a b c : Option (List ℕ)) (p q : Bool)
      → SoFar Stands to lines both m n a b p → both ≡ l ∷ left → LineDone Stands Then Passes to then n l o b c q → SoFar Then then lines left m o a c (p || q)
  so_far_more Stands Then to then lines l left both m n o a b c p q so cut one = record {
    first = so.first ++ l ∷ [];
    split = so.split ∙ ap (λ ls. so.first ++ ls) cut ∙ sym (append_assoc so.first (l ∷ []) left);
    done = record {
      replies = so.done.replies ++ cons_option one.reply [];
      answered = AreAnswered-push Passes at m so.first so.done.replies n to l one.reply o then so.done.answered one.answered one.passed;
      ran = λ M s x. ran_more M (Stands M) (Then M) m s so.first so.done.replies n l one.reply o (so.done.ran M s x) (one.leads M);
      later = Later-trans m n o so.done.later one.answered.later;
      written = subst (Appends a c) (sym (flat_map-append reply_text so.done.replies (cons_option one.reply []))) (appends_then a b c _ _ so.done.written one.written);
      refused_is = ap (λ x. x || q) so.done.refused_is ∙ ap (λ x. list_any is_no so.done.replies || x) one.refused_is ∙ sym (list_any-append is_no so.done.replies (cons_option one.reply []));
    };
  }

  -- a line that was answered, and not wholly written
  pub so_far_cut : (Stands Then : Meaning V → Stage V → Type 0) (to then : S) (lines : List (List ℕ)) (l : List ℕ) (left both : List (List ℕ)) (m n o : Moment) (a b c : Option (List ℕ)) (p : Bool)
      → SoFar Stands to lines both m n a b p → both ≡ l ∷ left → LineCut Stands Then Passes to then n l o b c → LinesCut Stood Then Passes at then m lines o a c
  so_far_cut Stands Then to then lines l left both m n o a b c p so cut one = record {
    first = so.first ++ l ∷ [];
    rest = left;
    split = so.split ∙ ap (λ ls. so.first ++ ls) cut ∙ sym (append_assoc so.first (l ∷ []) left);
    replies = so.done.replies ++ one.reply ∷ [];
    answered = AreAnswered-push Passes at m so.first so.done.replies n to l (Some one.reply) o then so.done.answered one.answered one.passed;
    ran = λ M s x. ran_more M (Stands M) (Then M) m s so.first so.done.replies n l (Some one.reply) o (so.done.ran M s x) (one.leads M);
    later = Later-trans m n o so.done.later one.answered.later;
    written = subst (AppendsFront a c) (sym (flat_map-append reply_text so.done.replies (one.reply ∷ []) ∙ ap (λ xs. texts so.done.replies ++ xs) (append-nil (reply_text one.reply)))) (front_then a b c _ _ so.done.written one.written);
  }

  -- all lines
  pub so_far_all : (Stands : Meaning V → Stage V → Type 0) (to : S) (lines : List (List ℕ)) (m n : Moment) (a b : Option (List ℕ)) (p : Bool) → SoFar Stands to lines [] m n a b p → LinesDone Stood Stands Passes at to m lines n a b p
  so_far_all Stands to lines m n a b p so = subst (λ (ls : List (List ℕ)). LinesDone Stood Stands Passes at to m ls n a b p) (sym (so.split ∙ append-nil so.first)) so.done
