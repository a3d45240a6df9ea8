-- Counting the parts of a cut, from one occurrence of the delimiter to the next.
use Rattle.std.proofs.Common.{◌≡◌, ◌⊎◌, inl, inr, ℕ, zero, suc, ◌+◌, ◌-◌, ◌<◌, ◌≤◌, true, false, List, [], ◌∷◌, length, take, drop, get_or, refl, ap, sym, ◌∙◌, subst, arith}
use Rattle.std.proofs.lemmas.Bool.{cond-true, cond-false}
use Rattle.std.proofs.lemmas.List.{drop-drop, drop_all, at_drop_more}
use Rattle.ild_schema.specs.Joins.{Occurs, Overlap, IsJoin}
use Rattle.ild_text.specs.Cut.{begins, onto, cut_behind, cut}
use Rattle.ild_text.specs.inside.Find.{NoneWithin, IsNext}
use Rattle.ild_text.proofs.Begins.{begins_true, begins_false, occurs_inside}
use Rattle.ild_text.proofs.Cuts.{clear, length-onto, cut_joins}

-- a value of a text that passes over bytes at which no delimiter begins
record PassesOver {X : Type 0} (d : List ℕ) (F : ℕ → List ℕ → X) : Type 0 where
  empty : (k l : ℕ) → F k [] ≡ F l []
  wait : (k b : ℕ) (bs : List ℕ) → begins d (b ∷ bs) ≡ false → F (suc k) (b ∷ bs) ≡ F k bs
  pass : (b : ℕ) (bs : List ℕ) → begins d (b ∷ bs) ≡ false → F 0 (b ∷ bs) ≡ F 0 bs

passed : {X : Type 0} (d : List ℕ) (F : ℕ → List ℕ → X) → PassesOver d F → (bs : List ℕ) (k i : ℕ) → ((j : ℕ) → j < i → Occurs d bs j → ⊥) → F k bs ≡ F (k - i) (drop i bs)
passed d F f bs k zero none = ap (λ n. F n bs) (omega arith)
passed d F f [] k (suc i) none = f.empty k (k - suc i)
passed d F f (b ∷ bs) zero (suc i) none =
    f.pass b bs (begins_false d (b ∷ bs) (none 0 (omega arith)))
    ∙ passed d F f bs 0 i (λ j lt o. none (suc j) (omega arith) o)
    ∙ ap (λ n. F n (drop i bs)) (omega arith)
passed d F f (b ∷ bs) (suc k) (suc i) none =
    f.wait k b bs (begins_false d (b ∷ bs) (none 0 (omega arith)))
    ∙ passed d F f bs k i (λ j lt o. none (suc j) (omega arith) o)
    ∙ ap (λ n. F n (drop i bs)) (omega arith)

clear_passes : (d : List ℕ) → PassesOver d (clear d)
clear_passes d = record {
  empty = λ k l. refl;
  wait = λ k b bs e. cond-false (begins d (b ∷ bs)) false (clear d k bs) e;
  pass = λ b bs e. cond-false (begins d (b ∷ bs)) (clear d (length d - 1) bs) (clear d 0 bs) e;
}

count_passes : (d : List ℕ) → PassesOver d (λ k bs. length (cut_behind d k bs))
count_passes d = record {
  empty = λ k l. refl;
  wait = λ k b bs e. refl;
  pass = λ b bs e. ap length (cond-false (begins d (b ∷ bs)) ([] ∷ cut_behind d (length d - 1) bs) (onto b (cut d bs)) e) ∙ length-onto b (cut d bs);
}

occurs_behind : (d t : List ℕ) (n j : ℕ) → Occurs d (drop n t) j → Occurs d t (n + j)
occurs_behind d t n j o = subst (λ bs. take (length d) bs ≡ d) (drop-drop j n t) o

-- from one place of a text to the next occurrence, or to its end
passed_to : {X : Type 0} (d : List ℕ) (F : ℕ → List ℕ → X) → PassesOver d F → (t : List ℕ) (from to k : ℕ) → from ≤ to → NoneWithin d t from to → F k (drop from t) ≡ F (k - (to - from)) (drop to t)
passed_to d F f t from to k le none =
    passed d F f (drop from t) k (to - from) (λ j lt o. none (from + j) (omega arith) (omega arith) (occurs_behind d t from j o))
    ∙ ap (F (k - (to - from))) (drop-drop (to - from) from t ∙ ap (λ n. drop n t) (omega arith))

-- how far the count of the parts of a text has come: where the search goes on, where the last delimiter ended, and how
-- many parts began so far
pub record Counting (d t : List ℕ) (from free count : ℕ) : Type 0 where
  pub within : from ≤ length t
  pub started : from ≤ free
  pub room : free ≤ length t
  pub few : count ≤ from + 1
  pub last : (free ≡ 0) ⊎ ((p : ℕ) × Occurs d t p × (p < from) × (free ≡ p + length d))
  pub apart : clear d (free - from) (drop from t) ≡ clear d 0 t
  pub counted : count + length (cut_behind d (free - from) (drop from t)) ≡ length (cut d t) + 1

pub counting_starts : (d t : List ℕ) → Counting d t 0 0 1
counting_starts d t = record {
  within = omega arith;
  started = omega arith;
  room = omega arith;
  few = omega arith;
  last = inl refl;
  apart = refl;
  counted = omega arith;
}

pub counting_overlaps : (d t : List ℕ) (from free count at : ℕ) → Counting d t from free count → IsNext d t from at → at < free → Overlap d t
counting_overlaps d t from free count at c n lt = by_last c.last
  where
    by_last : (free ≡ 0) ⊎ ((p : ℕ) × Occurs d t p × (p < from) × (free ≡ p + length d)) → Overlap d t
    by_last (inl z) = absurd (omega arith)
    by_last (inr p) = record { earlier = p.0; later = at; behind = omega (arith, n.behind); inside = omega arith; here = p.1; there = n.here }

-- the bytes from an occurrence on
at_here : {X : Type 0} (F : ℕ → List ℕ → X) (G : List ℕ → X) (t : List ℕ) (at k : ℕ) → at < length t → k ≡ 0 → ((b : ℕ) (bs : List ℕ) → drop at t ≡ b ∷ bs → F 0 (b ∷ bs) ≡ G bs) → F k (drop at t) ≡ G (drop (at + 1) t)
at_here F G t at k lt z step =
    ap (λ n. F n (drop at t)) z
    ∙ at_drop_more (F 0) t at 0 lt
    ∙ step (get_or t at 0) (drop (at + 1) t) (at_drop_more (λ bs. bs) t at 0 lt)

pub counting_goes : (d t : List ℕ) (from free count at : ℕ) → 0 < length d → Counting d t from free count → IsNext d t from at → free ≤ at → Counting d t (at + 1) (at + length d) (count + 1)
counting_goes d t from free count at some c n le =
    let inside = occurs_inside d t at some n.here in
    record {
      within = omega arith;
      started = omega arith;
      room = inside;
      few = omega (arith, c.few, n.behind);
      last = inr (at, n.here, omega arith, refl);
      apart = sym (sym c.apart ∙ passed_to d (clear d) (clear_passes d) t from at (free - from) n.behind n.first ∙ clear_here inside);
      counted = omega (arith, c.counted, passed_to d (λ k bs. length (cut_behind d k bs)) (count_passes d) t from at (free - from) n.behind n.first, count_here inside);
    }
  where
    begun : (b : ℕ) (bs : List ℕ) → drop at t ≡ b ∷ bs → begins d (b ∷ bs) ≡ true
    begun b bs e = begins_true d (b ∷ bs) (subst (λ xs. take (length d) xs ≡ d) e n.here)

    left : (m : ℕ) → m ≡ length d → m - 1 ≡ (at + m) - (at + 1)
    left m e = omega arith

    clear_here : at + length d ≤ length t → clear d ((free - from) - (at - from)) (drop at t) ≡ clear d ((at + length d) - (at + 1)) (drop (at + 1) t)
    clear_here inside =
        at_here (clear d) (clear d (length d - 1)) t at ((free - from) - (at - from)) (omega arith) (omega arith)
        (λ b bs e. cond-true (begins d (b ∷ bs)) (clear d (length d - 1) bs) (clear d 0 bs) (begun b bs e))
        ∙ ap (λ m. clear d m (drop (at + 1) t)) (left (length d) refl)

    count_here : at + length d ≤ length t → length (cut_behind d ((free - from) - (at - from)) (drop at t)) ≡ suc (length (cut_behind d ((at + length d) - (at + 1)) (drop (at + 1) t)))
    count_here inside =
        at_here (λ k bs. length (cut_behind d k bs)) (λ bs. suc (length (cut_behind d (length d - 1) bs))) t at ((free - from) - (at - from)) (omega arith) (omega arith)
        (λ b bs e. ap length (cond-true (begins d (b ∷ bs)) ([] ∷ cut_behind d (length d - 1) bs) (onto b (cut d bs)) (begun b bs e)))
        ∙ ap (λ m. suc (length (cut_behind d m (drop (at + 1) t)))) (left (length d) refl)

-- where no occurrence is left, the parts are those counted, and they make a join
pub counting_ends : (d t : List ℕ) (from free count : ℕ) → 0 < length d → Counting d t from free count → ((at : ℕ) → from ≤ at → Occurs d t at → ⊥) → IsJoin d (cut d t) t × (length (cut d t) ≡ count)
counting_ends d t from free count some c none =
    let rest = λ (at : ℕ). λ (a : from ≤ at). λ (b : at < length t). λ (o : Occurs d t at). none at a o in (
      cut_joins d t some (sym c.apart ∙ passed_to d (clear d) (clear_passes d) t from (length t) (free - from) c.within rest ∙ ap (clear d ((free - from) - (length t - from))) (drop_all (length t) t (omega arith))),
      omega (arith, c.counted, passed_to d (λ k bs. length (cut_behind d k bs)) (count_passes d) t from (length t) (free - from) c.within rest, ap (λ bs. length (cut_behind d ((free - from) - (length t - from)) bs)) (drop_all (length t) t (omega arith))),
    )
