-- A text tells its parts, where all the places of the delimiter are the joints.
use Rattle.std.proofs.Common.{◌≡◌, ℕ, ◌+◌, List, [], ◌∷◌, ◌++◌, length, map, Bool, true, false, Some, refl, sym, ◌∙◌, ap, arith}
use Rattle.std.specs.Cmp.Lexicographic.{same_text as text_same}
use Rattle.std.specs.Prelude.{nat_eq}
use Rattle.std.proofs.lemmas.Bool.{eqb-true, and_parts}
use Rattle.std.specs.List.{list_all}
use Rattle.ild_typed.specs.Texts.{places, joints, same_places, join, is_first, is_parted}
use Rattle.ild_schema.specs.Joins.{joined, pair_text}
use Rattle.ild_typed.proofs.Basics.{true_from, fronts_same, behind_front}

-- no parts, or some
abbrev pub is_nil : {A : Type 0} → List A → Bool
is_nil [] = true
is_nil (a ∷ xs) = false

abbrev first_of_places : List ℕ → ℕ
first_of_places [] = 0
first_of_places (n ∷ ns) = n

abbrev other_places : List ℕ → List ℕ
other_places [] = []
other_places (n ∷ ns) = ns

pub joints_tell : (at : ℕ) (delim : List ℕ) (ps qs : List (List ℕ)) → is_nil ps ≡ is_nil qs → joints at delim ps ≡ joints at delim qs
    → joined delim ps ≡ joined delim qs → ps ≡ qs
joints_tell at delim [] [] n j e = refl
joints_tell at delim [] (q ∷ qs) n j e = absurd cc
joints_tell at delim (p ∷ ps) [] n j e = absurd cc
joints_tell at delim (p ∷ []) (q ∷ []) n j e = ap (λ s. s ∷ []) e
joints_tell at delim (p ∷ []) (q ∷ r ∷ qs) n j e = absurd cc
joints_tell at delim (p ∷ r ∷ ps) (q ∷ []) n j e = absurd cc
joints_tell at delim (p ∷ r ∷ ps) (q ∷ s ∷ qs) n j e =
    let here : at + length p ≡ at + length q = ap first_of_places j in
    let front = fronts_same p q (delim ++ joined delim (r ∷ ps)) (delim ++ joined delim (s ∷ qs)) (omega (arith, here)) e in
    let next : at + length p + length delim ≡ at + length q + length delim = ap (λ k. k + length delim) here in
    let later : joints (at + length p + length delim) delim (r ∷ ps) ≡ joints (at + length p + length delim) delim (s ∷ qs)
    = ap other_places j ∙ ap (λ k. joints k delim (s ∷ qs)) (sym next) in
    let rest = joints_tell (at + length p + length delim) delim (r ∷ ps) (s ∷ qs) refl later (behind_front delim (joined delim (r ∷ ps)) (joined delim (s ∷ qs)) front.1) in
    λ i. front.0 i ∷ rest i

-- what a join says
pub join_says : (delim : List ℕ) (ps : List (List ℕ)) (t : List ℕ) → join delim ps ≡ Some t
    → (joined delim ps ≡ t) × (places 0 delim t ≡ joints 0 delim ps)
join_says delim ps t e =
    let x = true_from (same_places (places 0 delim (joined delim ps)) (joints 0 delim ps)) (joined delim ps) t e in
    (x.1, ap (places 0 delim) (sym x.1) ∙ text_same (places 0 delim (joined delim ps)) (joints 0 delim ps) (sym x.0))

-- a joined text tells its parts
pub join_tells : (delim : List ℕ) (ps qs : List (List ℕ)) (t : List ℕ) → is_nil ps ≡ is_nil qs → join delim ps ≡ Some t → join delim qs ≡ Some t → ps ≡ qs
join_tells delim ps qs t n e k =
    let x = join_says delim ps t e in
    let y = join_says delim qs t k in
    joints_tell 0 delim ps qs n (sym x.1 ∙ y.1) (x.0 ∙ sym y.0)

nat_same : (m n : ℕ) → nat_eq m n ≡ true → m ≡ n
nat_same m n e = eqb-true m n e

pub first_same : (m n : ℕ) (ns : List ℕ) → is_first m ns ≡ true → is_first n ns ≡ true → m ≡ n
first_same m n [] e k = absurd cc
first_same m n (p ∷ ps) e k = nat_same m p e ∙ sym (nat_same n p k)

-- a pair's text tells the key and the value
pub pair_tells : (inner : List ℕ) (p q : List ℕ × List ℕ) → is_parted inner p ≡ true → is_parted inner q ≡ true
    → pair_text inner p ≡ pair_text inner q → p ≡ q
pair_tells inner p q e k same =
    let key = first_same (length p.0) (length q.0) (places 0 inner (pair_text inner p)) e (ap (λ t. is_first (length q.0) (places 0 inner t)) same ∙ k) in
    let front = fronts_same p.0 q.0 (inner ++ p.1) (inner ++ q.1) key same in
    let rest = behind_front inner p.1 q.1 front.1 in
    λ i. (front.0 i, rest i)

pub pairs_tell : (inner : List ℕ) (ps qs : List (List ℕ × List ℕ)) → list_all (is_parted inner) ps ≡ true → list_all (is_parted inner) qs ≡ true
    → map (pair_text inner) ps ≡ map (pair_text inner) qs → ps ≡ qs
pairs_tell inner [] [] e k same = refl
pairs_tell inner [] (q ∷ qs) e k same = absurd cc
pairs_tell inner (p ∷ ps) [] e k same = absurd cc
pairs_tell inner (p ∷ ps) (q ∷ qs) e k same =
    let a = and_parts (is_parted inner p) (list_all (is_parted inner) ps) e in
    let b = and_parts (is_parted inner q) (list_all (is_parted inner) qs) k in
    let first = pair_tells inner p q a.0 b.0 (ap head_text same) in
    let rest = pairs_tell inner ps qs a.1 b.1 (ap tail_texts same) in
    λ i. first i ∷ rest i
  where
    head_text : List (List ℕ) → List ℕ
    head_text [] = []
    head_text (t ∷ ts) = t

    tail_texts : List (List ℕ) → List (List ℕ)
    tail_texts [] = []
    tail_texts (t ∷ ts) = ts
