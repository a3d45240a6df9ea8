-- A text is cut into its parts, and these are joined to it again.
use Rattle.std.proofs.Common.{◌≡◌, inr, ℕ, zero, suc, ◌+◌, ◌-◌, ◌<◌, ◌≤◌, Bool, true, false, cond, List, [], ◌∷◌, ◌++◌, Some, length, take, drop, refl, ap, sym, ◌∙◌, subst, arith}
use Rattle.std.proofs.lemmas.List.{drop_at, drop-drop}
use Rattle.ild_text.proofs.ByCount.{behind_both}
use Rattle.ild_schema.specs.Joins.{Occurs, joined, IsJoin, IsPair, pair_text}
use Rattle.ild_text.specs.Cut.{begins, onto, cut_behind, cut, halves}
use Rattle.ild_text.proofs.Apart.{joint_behind, further_on, occurs_behind}
use Rattle.ild_text.proofs.Begins.{begins_here, occurs_split}
use Rattle.ild_text.proofs.Cuts.{cut_some, length-onto, joined_more, joined_onto}
use Rattle.ild_text.proofs.Firsts.{first_part, only_part}
use Rattle.ild_text.proofs.Steps.{halves_first, halves_none}

-- ---- the parts of a cut

one_less : (d : List ℕ) → 0 < length d → suc (length d - 1) ≡ 0 + length d
one_less d some = omega (arith, some)

whole_chosen : (d : List ℕ) (b : ℕ) (bs : List ℕ) (ps qs : List (List ℕ)) (v : Bool) → begins d (b ∷ bs) ≡ v → 0 < length d → 1 ≤ length ps → 1 ≤ length qs → joined d ps ≡ drop (length d - 1) bs → joined d qs ≡ bs
    → joined d (cond v ([] ∷ ps) (onto b qs)) ≡ b ∷ bs
whole_chosen d b bs ps qs true is some one other here pass =
    joined_more d [] ps one ∙ ap (λ xs. d ++ xs) (here ∙ ap (λ n. drop n (b ∷ bs)) (one_less d some)) ∙ sym (occurs_split d (b ∷ bs) 0 (begins_here d (b ∷ bs) is))
whole_chosen d b bs ps qs false is some one other here pass = joined_onto d b qs other ∙ ap (λ xs. b ∷ xs) pass

cut_drops : (d bs : List ℕ) (k : ℕ) → 0 < length d → joined d (cut_behind d k bs) ≡ drop k bs
cut_drops d [] zero some = refl
cut_drops d [] (suc k) some = refl
cut_drops d (b ∷ bs) (suc k) some = cut_drops d bs k some
cut_drops d (b ∷ bs) zero some =
    whole_chosen d b bs (cut_behind d (length d - 1) bs) (cut_behind d 0 bs) (begins d (b ∷ bs)) refl some (cut_some d bs (length d - 1)) (cut_some d bs 0) (cut_drops d bs (length d - 1) some) (cut_drops d bs 0 some)

pub cut_whole : (d t : List ℕ) → 0 < length d → joined d (cut d t) ≡ t
cut_whole d t some = cut_drops d t 0 some

few_chosen : (v : Bool) (b n : ℕ) (ps qs : List (List ℕ)) → length ps ≤ n + 1 → length qs ≤ n + 1 → length (cond v ([] ∷ ps) (onto b qs)) ≤ suc n + 1
few_chosen true b n ps qs p q = omega (arith, p)
few_chosen false b n ps qs p q = omega (arith, q, length-onto b qs)

-- no more parts than bytes, and one
pub cut_few : (d bs : List ℕ) (k : ℕ) → length (cut_behind d k bs) ≤ length bs + 1
cut_few d [] k = omega arith
cut_few d (b ∷ bs) (suc k) = let h = cut_few d bs k in omega (arith, h)
cut_few d (b ∷ bs) zero = few_chosen (begins d (b ∷ bs)) b (length bs) (cut_behind d (length d - 1) bs) (cut_behind d 0 bs) (cut_few d bs (length d - 1)) (cut_few d bs 0)

-- ---- the parts of a join

behind_one : (d p r : List ℕ) → drop (length p + length d) (p ++ (d ++ r)) ≡ r
behind_one d p r = sym (drop-drop (length d) (length p) (p ++ (d ++ r))) ∙ ap (drop (length d)) (drop_at p (d ++ r) (length p) refl) ∙ drop_at d r (length d) refl

-- where the delimiter stands nowhere before the end of the first part, the text is cut there
pub halves_there : (d p r : List ℕ) → 0 < length d → ((i : ℕ) → Occurs d (p ++ (d ++ r)) i → length p ≤ i) → halves d (p ++ (d ++ r)) ≡ Some (p, r)
halves_there d p r some before =
    halves_first d (p ++ (d ++ r)) (length p) some (occurs_behind d p r) (λ i lt o. absurd (omega (arith, lt, before i o)))
    ∙ (λ k. Some (taken k, behind_one d p r k))
  where
    taken : take (length p) (p ++ (d ++ r)) ≡ p
    taken = front p (d ++ r)
      where
        front : (xs ys : List ℕ) → take (length xs) (xs ++ ys) ≡ xs
        front [] ys = refl
        front (x ∷ xs) ys = ap (λ zs. x ∷ zs) (front xs ys)

behind_join : (d p q : List ℕ) (ps : List (List ℕ)) → 0 < length d → IsJoin d (p ∷ q ∷ ps) (joined d (p ∷ q ∷ ps)) → IsJoin d (q ∷ ps) (joined d (q ∷ ps))
behind_join d p q ps some j = record {
  some = omega arith;
  whole = refl;
  joints = λ i. (
    λ o. further_on d p q ps (length p) i some refl ((j.joints (length p + length d + i)).0 (ap (take (length d)) (behind_both d p (joined d (q ∷ ps)) i) ∙ o)),
    λ at. sym (ap (take (length d)) (behind_both d p (joined d (q ∷ ps)) i)) ∙ (j.joints (length p + length d + i)).1 (inr (i, at, refl)),
  );
}

cut_of : (d : List ℕ) (ps : List (List ℕ)) → 0 < length d → IsJoin d ps (joined d ps) → cut d (joined d ps) ≡ ps
cut_of d [] some j = absurd (omega (arith, j.some))
cut_of d (p ∷ []) some j = only_part d p some (sym (halves_none d p (λ i o. (j.joints i).0 o)))
cut_of d (p ∷ q ∷ ps) some j =
    first_part d (joined d (p ∷ q ∷ ps)) p (joined d (q ∷ ps)) some (sym (halves_there d p (joined d (q ∷ ps)) some (λ i o. joint_behind d p (q ∷ ps) i ((j.joints i).0 o))))
    ∙ ap (λ xs. p ∷ xs) (cut_of d (q ∷ ps) some (behind_join d p q ps some j))

pub cut_is : (d : List ℕ) (ps : List (List ℕ)) (t : List ℕ) → 0 < length d → IsJoin d ps t → cut d t ≡ ps
cut_is d ps t some j = ap (cut d) (sym j.whole) ∙ cut_of d ps some (subst (IsJoin d ps) (sym j.whole) j)

-- the key of a pair is what stands before the first delimiter
pub halves_pair : (d : List ℕ) (p : List ℕ × List ℕ) → 0 < length d → IsPair d p → halves d (pair_text d p) ≡ Some (p.0, p.1)
halves_pair d p some is = halves_there d p.0 p.1 some is
