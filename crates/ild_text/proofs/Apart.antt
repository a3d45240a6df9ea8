-- A text has one list of parts, and one list of pairs.
use Rattle.std.specs.List.{AllByRecursion}
use Rattle.std.proofs.Common.{◌≡◌, inl, inr, ℕ, ◌+◌, ◌<◌, ◌≤◌, List, [], ◌∷◌, ◌++◌, length, take, map, refl, ap, sym, ◌∙◌, subst, arith}
use Rattle.std.proofs.lemmas.List.{append_cancel_left, take_at, drop_at, length-append}
use Rattle.ild_data.proofs.Heads.{same_string}
use Rattle.ild_schema.specs.Joins.{Occurs, joined, IsJoint, pair_text, IsPair, IsPairs, OneJoin, OnePairs, JoinsAreApart}

-- no joint stands before the end of the first part
pub joint_behind : (d p : List ℕ) (ps : List (List ℕ)) (i : ℕ) → IsJoint d (p ∷ ps) i → length p ≤ i
joint_behind d p [] i j = absurd j
joint_behind d p (q ∷ ps) i (inl e) = omega arith
joint_behind d p (q ∷ ps) i (inr j) = omega arith

-- joints of the same places
abbrev Same : List ℕ → List (List ℕ) → List (List ℕ) → Type 0
Same d ps qs = (i : ℕ) → (IsJoint d ps i → IsJoint d qs i) × (IsJoint d qs i → IsJoint d ps i)

-- a joint behind the first delimiter is one of the parts behind it
pub further_on : (d p : List ℕ) (q : List ℕ) (ps : List (List ℕ)) (n i : ℕ) → 0 < length d → n ≡ length p → IsJoint d (p ∷ q ∷ ps) (n + length d + i) → IsJoint d (q ∷ ps) i
further_on d p q ps n i some same (inl e) = absurd (omega arith)
further_on d p q ps n i some same (inr j) = subst (IsJoint d (q ∷ ps)) (omega arith) j.1

later_same : (d p q : List ℕ) (r s : List ℕ) (ps qs : List (List ℕ)) → 0 < length d → length p ≡ length q → Same d (p ∷ r ∷ ps) (q ∷ s ∷ qs) → Same d (r ∷ ps) (s ∷ qs)
later_same d p q r s ps qs some same all i = (
  λ j. further_on d q s qs (length p) i some same ((all (length p + length d + i)).0 (inr (i, j, refl))),
  λ j. further_on d p r ps (length q) i some (sym same) ((all (length q + length d + i)).1 (inr (i, j, refl))),
)

same_parts : (d : List ℕ) (ps qs : List (List ℕ)) → 0 < length d → 1 ≤ length ps → 1 ≤ length qs → joined d ps ≡ joined d qs → Same d ps qs → ps ≡ qs
same_parts d [] qs some one other text all = absurd (omega arith)
same_parts d (p ∷ ps) [] some one other text all = absurd (omega arith)
same_parts d (p ∷ []) (q ∷ []) some one other text all = ap (λ x. x ∷ []) text
same_parts d (p ∷ []) (q ∷ s ∷ qs) some one other text all = absurd ((all (length q)).1 (inl refl))
same_parts d (p ∷ r ∷ ps) (q ∷ []) some one other text all = absurd ((all (length p)).0 (inl refl))
same_parts d (p ∷ r ∷ ps) (q ∷ s ∷ qs) some one other text all =
    let low : length q ≤ length p = joint_behind d q (s ∷ qs) (length p) ((all (length p)).0 (inl refl)) in
    let high : length p ≤ length q = joint_behind d p (r ∷ ps) (length q) ((all (length q)).1 (inl refl)) in
    let same : length p ≡ length q = omega arith in
    let parts = same_string p q (d ++ joined d (r ∷ ps)) (d ++ joined d (s ∷ qs)) same text in
    let rest = append_cancel_left d (joined d (r ∷ ps)) (joined d (s ∷ qs)) parts.1 in
    let more = same_parts d (r ∷ ps) (s ∷ qs) some (omega arith) (omega arith) rest (later_same d p q r s ps qs some same all) in
    λ i. parts.0 i ∷ more i

pub one_join_lem : OneJoin
one_join_lem d t ps qs some a b =
    same_parts d ps qs some a.some b.some (a.whole ∙ sym b.whole) (λ i. (λ j. (b.joints i).0 ((a.joints i).1 j), λ j. (a.joints i).0 ((b.joints i).1 j)))

-- between two joints there is room for a delimiter
joints_apart : (d : List ℕ) (ps : List (List ℕ)) (i j : ℕ) → IsJoint d ps i → IsJoint d ps j → i < j → i + length d ≤ j
joints_apart d [] i j a b lt = absurd a
joints_apart d (p ∷ []) i j a b lt = absurd a
joints_apart d (p ∷ q ∷ ps) i j (inl e) (inl f) lt = absurd (omega arith)
joints_apart d (p ∷ q ∷ ps) i j (inl e) (inr b) lt = omega arith
joints_apart d (p ∷ q ∷ ps) i j (inr a) (inl f) lt = absurd (omega arith)
joints_apart d (p ∷ q ∷ ps) i j (inr a) (inr b) lt = omega (arith, joints_apart d (q ∷ ps) a.0 b.0 a.1 b.1 (omega arith))

pub joins_apart : JoinsAreApart
joins_apart d t ps join over =
    absurd (omega (arith, joints_apart d ps over.earlier over.later ((join.joints over.earlier).0 over.here) ((join.joints over.later).0 over.there) over.behind, over.inside))

-- the inner delimiter occurs behind the key
pub occurs_behind : (d p r : List ℕ) → Occurs d (p ++ (d ++ r)) (length p)
occurs_behind d p r = ap (take (length d)) (drop_at p (d ++ r) (length p) refl) ∙ take_at d r (length d) refl

same_pair : (d : List ℕ) (p q : List ℕ × List ℕ) → IsPair d p → IsPair d q → pair_text d p ≡ pair_text d q → p ≡ q
same_pair d p q a b e =
    let low : length q.0 ≤ length p.0 = b (length p.0) (subst (λ t. Occurs d t (length p.0)) e (occurs_behind d p.0 p.1)) in
    let high : length p.0 ≤ length q.0 = a (length q.0) (subst (λ t. Occurs d t (length q.0)) (sym e) (occurs_behind d q.0 q.1)) in
    let same : length p.0 ≡ length q.0 = omega arith in
    let parts = same_string p.0 q.0 (d ++ p.1) (d ++ q.1) same e in
    let values = append_cancel_left d p.1 q.1 parts.1 in
    λ i. (parts.0 i, values i)

same_pairs : (d : List ℕ) (ps qs : List (List ℕ × List ℕ)) → AllByRecursion (IsPair d) ps → AllByRecursion (IsPair d) qs → map (pair_text d) ps ≡ map (pair_text d) qs → ps ≡ qs
same_pairs d [] [] a b e = refl
same_pairs d [] (q ∷ qs) a b e = absurd cc
same_pairs d (p ∷ ps) [] a b e = absurd cc
same_pairs d (p ∷ ps) (q ∷ qs) a b e =
    let head : pair_text d p ≡ pair_text d q = cc in
    let tail : map (pair_text d) ps ≡ map (pair_text d) qs = cc in
    let one = same_pair d p q a.0 b.0 head in
    let more = same_pairs d ps qs a.1 b.1 tail in
    λ i. one i ∷ more i

-- a text of parts is no shorter than the first of them
first_within : (d p : List ℕ) (ps : List (List ℕ)) → length p ≤ length (joined d (p ∷ ps))
first_within d p [] = omega arith
first_within d p (q ∷ ps) = omega (arith, length-append p (d ++ joined d (q ∷ ps)))

-- the text of pairs isn't empty
pairs_some : (d e t : List ℕ) (p : List ℕ × List ℕ) (ps : List (List ℕ × List ℕ)) → 0 < length d → IsPairs d e (p ∷ ps) t → t ≡ [] → ⊥
pairs_some d e t p ps some is none =
    absurd (omega (arith, first_within e (pair_text d p) (map (pair_text d) ps), length-append p.0 (d ++ p.1), length-append d p.1, ap length (is.0.whole ∙ none)))

pub one_pairs_lem : OnePairs
one_pairs_lem d e t [] [] in_some en_some a b = refl
one_pairs_lem d e t [] (q ∷ qs) in_some en_some a b = absurd (pairs_some d e t q qs in_some b a)
one_pairs_lem d e t (p ∷ ps) [] in_some en_some a b = absurd (pairs_some d e t p ps in_some a b)
one_pairs_lem d e t (p ∷ ps) (q ∷ qs) in_some en_some a b =
    same_pairs d (p ∷ ps) (q ∷ qs) a.1 b.1 (one_join_lem e t (map (pair_text d) (p ∷ ps)) (map (pair_text d) (q ∷ qs)) en_some a.0 b.0)
