-- The places of a delimiter as a list, and as a relation.
use Rattle.std.proofs.Common.{◌≡◌, ℕ, zero, suc, ◌+◌, ◌-◌, ◌<◌, ◌≤◌, Bool, true, false, cond, ◌&&◌, List, [], ◌∷◌, ◌++◌, length, map, take, drop, Some, None, refl, sym, ap, ◌∙◌, subst, arith, inl, inr, ◌⊎◌, eqb-true}
use Rattle.std.specs.Prelude.{nat_eq}
use Rattle.std.specs.List.{AllByRecursion, list_all}
use Rattle.std.specs.Cmp.Lexicographic.{same_text as text_same}
use Rattle.std.proofs.lemmas.List.{length-take, length-drop, take_at, drop_at}
use Rattle.std.proofs.lemmas.Bool.{eq-eqb, and_parts}
use Rattle.std.proofs.lemmas.Option.{same_Some}
use Rattle.ild_schema.specs.Joins.{Occurs, joined, IsJoint, IsJoin, pair_text, IsPair}
use Rattle.ild_schema.specs.Prefixes.{begins}
use Rattle.ild_typed.specs.Texts.{places, joints, same_places, join, is_first, is_parted}
use Rattle.ild_typed.specs.JoinLaws.{JoinsAreJoins, PairsArePairs}
use Rattle.ild_typed.proofs.Basics.{true_from, if_from}
use Rattle.ild_typed.proofs.Index.{own_text}

-- ---- rising lists

abbrev IsIn : ℕ → List ℕ → Type 0
IsIn x [] = ⊥
IsIn x (y ∷ ys) = (x ≡ y) ⊎ IsIn x ys

-- a list that rises, from a number on
abbrev Rising : ℕ → List ℕ → Type 0
Rising m [] = Unit {0}
Rising m (x ∷ xs) = (m ≤ x) × Rising (x + 1) xs

rising_less : (m n : ℕ) (xs : List ℕ) → m ≤ n → Rising n xs → Rising m xs
rising_less m n [] le r = tt
rising_less m n (x ∷ xs) le r = (omega (arith, le, r.0), r.1)

in_above : (m x : ℕ) (xs : List ℕ) → Rising m xs → IsIn x xs → m ≤ x
in_above m x [] r i = absurd i
in_above m x (y ∷ ys) r (inl e) = omega (arith, e, r.0)
in_above m x (y ∷ ys) r (inr i) = let h = in_above (y + 1) x ys r.1 i in omega (arith, h, r.0)

abbrev SameIn : List ℕ → List ℕ → Type 0
SameIn xs ys = (x : ℕ) → (IsIn x xs → IsIn x ys) × (IsIn x ys → IsIn x xs)

heads_same : (x y : ℕ) (xs ys : List ℕ) → Rising (x + 1) xs → Rising (y + 1) ys → SameIn (x ∷ xs) (y ∷ ys) → x ≡ y
heads_same x y xs ys a b same = by ((same x).0 (inl refl)) ((same y).1 (inl refl)) where
  by : (x ≡ y) ⊎ IsIn x ys → (y ≡ x) ⊎ IsIn y xs → x ≡ y
  by (inl e) other = e
  by (inr i) (inl e) = sym e
  by (inr i) (inr j) = let h = in_above (y + 1) x ys b i in let k = in_above (x + 1) y xs a j in absurd (omega (arith, h, k))

tail_in : (x z : ℕ) (xs ys : List ℕ) → Rising (x + 1) xs → IsIn z xs → (z ≡ x) ⊎ IsIn z ys → IsIn z ys
tail_in x z xs ys a i (inl e) = let h = in_above (x + 1) z xs a i in absurd (omega (arith, h, e))
tail_in x z xs ys a i (inr j) = j

same_rising : (m n : ℕ) (xs ys : List ℕ) → Rising m xs → Rising n ys → SameIn xs ys → xs ≡ ys
same_rising m n [] [] a b same = refl
same_rising m n [] (y ∷ ys) a b same = absurd ((same y).1 (inl refl))
same_rising m n (x ∷ xs) [] a b same = absurd ((same x).0 (inl refl))
same_rising m n (x ∷ xs) (y ∷ ys) a b same =
    let e = heads_same x y xs ys a.1 b.1 same in
    let rest : xs ≡ ys = same_rising (x + 1) (y + 1) xs ys a.1 b.1 (λ z. (
      λ i. tail_in x z xs ys a.1 i (subst (λ (w : ℕ). (z ≡ w) ⊎ IsIn z ys) (sym e) ((same z).0 (inr i))),
      λ i. tail_in y z ys xs b.1 i (subst (λ (w : ℕ). (z ≡ w) ⊎ IsIn z xs) e ((same z).1 (inr i))),
    )) in
    λ k. e k ∷ rest k

-- a list that tells, counted from a number on, where something holds
abbrev Tells : ℕ → List ℕ → (ℕ → Type 0) → Type 0
Tells n xs P = (k : ℕ) → (P k → IsIn (n + k) xs) × (IsIn (n + k) xs → P k)

-- ---- where a delimiter occurs

occurs_within : (d s : List ℕ) (k : ℕ) → 0 < length d → Occurs d s k → k < length s
occurs_within d s k some o = omega (arith, some, ap length o, length-take (length d) (drop k s), length-drop k s)

first_of : List ℕ → ℕ
first_of [] = 0
first_of (x ∷ xs) = x

behind_first : List ℕ → List ℕ
behind_first [] = []
behind_first (x ∷ xs) = xs

pub begins_take : (d s : List ℕ) → begins d s ≡ true → take (length d) s ≡ d
begins_take [] s e = refl
begins_take (c ∷ d) [] e = absurd cc
begins_take (c ∷ d) (b ∷ s) e =
    let h = and_parts (nat_eq c b) (begins d s) e in
    ap (λ (x : ℕ). x ∷ take (length d) s) (sym (eqb-true c b h.0)) ∙ ap (λ (xs : List ℕ). c ∷ xs) (begins_take d s h.1)

pub take_begins : (d s : List ℕ) → take (length d) s ≡ d → begins d s ≡ true
unfolding first_of behind_first
take_begins [] s e = refl
take_begins (c ∷ d) [] e = absurd cc
take_begins (c ∷ d) (b ∷ s) e =
    ap (λ (x : Bool). x && begins d s) (eq-eqb c b (sym (ap first_of e))) ∙ take_begins d s (ap behind_first e)

places_rising : (n : ℕ) (d s : List ℕ) → Rising n (places n d s)
places_rising n d [] = tt
places_rising n d (c ∷ s) = by (begins d (c ∷ s)) (places_rising (n + 1) d s) where
  by : (b : Bool) → Rising (n + 1) (places (n + 1) d s) → Rising n (cond b (n ∷ places (n + 1) d s) (places (n + 1) d s))
  by true r = (omega arith, r)
  by false r = rising_less n (n + 1) (places (n + 1) d s) (omega arith) r

places_tell : (n : ℕ) (d s : List ℕ) → 0 < length d → Tells n (places n d s) (Occurs d s)
places_tell n d [] some k = (λ o. let h = occurs_within d [] k some o in absurd (omega (arith, h)), λ i. absurd i)
places_tell n d (c ∷ s) some k = by (begins d (c ∷ s)) refl k (places_tell (n + 1) d s some) where
  P : List ℕ
  P = places (n + 1) d s

  later : (j : ℕ) → (n + 1) + j ≡ n + suc j
  later j = omega arith

  other : (j : ℕ) → (n + suc j ≡ n) ⊎ IsIn (n + suc j) (places (n + 1) d s) → IsIn (n + suc j) (places (n + 1) d s)
  other j (inl e) = absurd (omega (arith, e))
  other j (inr i) = i

  by : (b : Bool) → begins d (c ∷ s) ≡ b → (k : ℕ) → Tells (n + 1) (places (n + 1) d s) (Occurs d s)
      → (Occurs d (c ∷ s) k → IsIn (n + k) (cond b (n ∷ places (n + 1) d s) (places (n + 1) d s))) × (IsIn (n + k) (cond b (n ∷ places (n + 1) d s) (places (n + 1) d s)) → Occurs d (c ∷ s) k)
  by true is zero ih = (λ o. inl (omega arith), λ i. begins_take d (c ∷ s) is)
  by false is zero ih = (
    λ o. let h : true ≡ false = sym (take_begins d (c ∷ s) o) ∙ is in absurd cc,
    λ i. let h = in_above (n + 1) (n + 0) (places (n + 1) d s) (places_rising (n + 1) d s) i in absurd (omega (arith, h)),
  )
  by true is (suc j) ih = (
    λ o. inr (subst (λ (m : ℕ). IsIn m (places (n + 1) d s)) (later j) ((ih j).0 o)),
    λ i. (ih j).1 (subst (λ (m : ℕ). IsIn m (places (n + 1) d s)) (sym (later j)) (other j i)),
  )
  by false is (suc j) ih = (
    λ o. subst (λ (m : ℕ). IsIn m (places (n + 1) d s)) (later j) ((ih j).0 o),
    λ i. (ih j).1 (subst (λ (m : ℕ). IsIn m (places (n + 1) d s)) (sym (later j)) i),
  )

-- ---- where parts meet

joints_rising : (n : ℕ) (d : List ℕ) (ps : List (List ℕ)) → 0 < length d → Rising n (joints n d ps)
joints_rising n d [] some = tt
joints_rising n d (p ∷ []) some = tt
joints_rising n d (p ∷ q ∷ ps) some = (
  omega arith,
  rising_less (n + length p + 1) (n + length p + length d) (joints (n + length p + length d) d (q ∷ ps)) (omega (arith, some)) (joints_rising (n + length p + length d) d (q ∷ ps) some),
)

joints_tell : (n : ℕ) (d : List ℕ) (ps : List (List ℕ)) → 0 < length d → Tells n (joints n d ps) (IsJoint d ps)
joints_tell n d [] some k = (λ j. absurd j, λ i. absurd i)
joints_tell n d (p ∷ []) some k = (λ j. absurd j, λ i. absurd i)
joints_tell n d (p ∷ q ∷ ps) some k = (there (joints_tell (n + length p + length d) d (q ∷ ps) some), back (joints_tell (n + length p + length d) d (q ∷ ps) some)) where
  there : Tells (n + length p + length d) (joints (n + length p + length d) d (q ∷ ps)) (IsJoint d (q ∷ ps))
      → (k ≡ length p) ⊎ ((further : ℕ) × IsJoint d (q ∷ ps) further × (k ≡ length p + length d + further))
      → (n + k ≡ n + length p) ⊎ IsIn (n + k) (joints (n + length p + length d) d (q ∷ ps))
  there ih (inl e) = inl (omega (arith, e))
  there ih (inr x) =
      let e : k ≡ length p + length d + x.0 = x.2 in
      let same : n + length p + length d + x.0 ≡ n + k = omega (arith, e) in
      inr (subst (λ (m : ℕ). IsIn m (joints (n + length p + length d) d (q ∷ ps))) same ((ih x.0).0 x.1))

  back : Tells (n + length p + length d) (joints (n + length p + length d) d (q ∷ ps)) (IsJoint d (q ∷ ps))
      → (n + k ≡ n + length p) ⊎ IsIn (n + k) (joints (n + length p + length d) d (q ∷ ps))
      → (k ≡ length p) ⊎ ((further : ℕ) × IsJoint d (q ∷ ps) further × (k ≡ length p + length d + further))
  back ih (inl e) = inl (omega (arith, e))
  back ih (inr i) =
      let above = in_above (n + length p + length d) (n + k) (joints (n + length p + length d) d (q ∷ ps)) (joints_rising (n + length p + length d) d (q ∷ ps) some) i in
      let f : ℕ = k - (length p + length d) in
      let same : n + k ≡ n + length p + length d + (k - (length p + length d)) = omega (arith, above) in
      inr (f, (ih f).1 (subst (λ (m : ℕ). IsIn m (joints (n + length p + length d) d (q ∷ ps))) same i), omega (arith, above))

-- ---- joined texts

module _ (d : List ℕ) (ps : List (List ℕ)) (t : List ℕ) (some : 0 < length d) (one : 1 ≤ length ps) where
  P : List ℕ
  P = places 0 d (joined d ps)

  zero_more : (x : ℕ) → 0 + x ≡ x
  zero_more x = omega arith

  made : joined d ps ≡ t → places 0 d (joined d ps) ≡ joints 0 d ps → IsJoin d ps t
  made whole same = subst (IsJoin d ps) whole (record {
    some = one;
    whole = refl;
    joints = λ at. (
      λ o. (joints_tell 0 d ps some at).1 (subst (IsIn (0 + at)) same ((places_tell 0 d (joined d ps) some at).0 o)),
      λ j. (places_tell 0 d (joined d ps) some at).1 (subst (IsIn (0 + at)) (sym same) ((joints_tell 0 d ps some at).0 j)),
    );
  })

  meets : IsJoin d ps (joined d ps) → places 0 d (joined d ps) ≡ joints 0 d ps
  meets j = same_rising 0 0 (places 0 d (joined d ps)) (joints 0 d ps) (places_rising 0 d (joined d ps)) (joints_rising 0 d ps some) (λ x. (
    λ i.
        let o = (places_tell 0 d (joined d ps) some x).1 (subst (λ (m : ℕ). IsIn m (places 0 d (joined d ps))) (sym (zero_more x)) i) in
        subst (λ (m : ℕ). IsIn m (joints 0 d ps)) (zero_more x) ((joints_tell 0 d ps some x).0 ((j.joints x).0 o)),
    λ i.
        let o = (joints_tell 0 d ps some x).1 (subst (λ (m : ℕ). IsIn m (joints 0 d ps)) (sym (zero_more x)) i) in
        subst (λ (m : ℕ). IsIn m (places 0 d (joined d ps))) (zero_more x) ((places_tell 0 d (joined d ps) some x).0 ((j.joints x).1 o)),
  ))

  made_from : join d ps ≡ Some t → IsJoin d ps t
  made_from e =
      let x = true_from (same_places (places 0 d (joined d ps)) (joints 0 d ps)) (joined d ps) t e in
      made x.1 (text_same (places 0 d (joined d ps)) (joints 0 d ps) (sym x.0))

  joined_to : IsJoin d ps t → join d ps ≡ Some t
  joined_to j =
      let same = meets (subst (IsJoin d ps) (sym j.whole) j) in
      ap (λ (b : Bool). cond b (Some (joined d ps)) None) (ap (λ (xs : List ℕ). same_places xs (joints 0 d ps)) same ∙ own_text (joints 0 d ps)) ∙ ap Some j.whole

pub joins_are_joins : JoinsAreJoins
joins_are_joins d ps t some one = (made_from d ps t some one, joined_to d ps t some one)

-- ---- pairs

first_is : (n : ℕ) (xs : List ℕ) → is_first n xs ≡ true → Rising 0 xs → (x : ℕ) → IsIn x xs → n ≤ x
first_is n [] e r x i = absurd i
first_is n (y ∷ ys) e r x (inl same) = let h = eqb-true n y e in omega (arith, h, same)
first_is n (y ∷ ys) e r x (inr i) = let h = eqb-true n y e in let k = in_above (y + 1) x ys r.1 i in omega (arith, h, k)

first_made : (n : ℕ) (xs : List ℕ) → Rising 0 xs → IsIn n xs → ((x : ℕ) → IsIn x xs → n ≤ x) → is_first n xs ≡ true
first_made n [] r i least = absurd i
first_made n (y ∷ ys) r (inl e) least = eq-eqb n y e
first_made n (y ∷ ys) r (inr i) least = let h = in_above (y + 1) n ys r.1 i in let k = least y (inl refl) in absurd (omega (arith, h, k))

module _ (i : List ℕ) (some : 0 < length i) where
  own_place : (p : List ℕ × List ℕ) → Occurs i (pair_text i p) (length p.0)
  own_place p = ap (take (length i)) (drop_at p.0 (i ++ p.1) (length p.0) refl) ∙ take_at i p.1 (length i) refl

  pair_from : (p : List ℕ × List ℕ) → is_parted i p ≡ true → IsPair i p
  pair_from p e at o =
      let h = first_is (length p.0) (places 0 i (pair_text i p)) e (places_rising 0 i (pair_text i p)) (0 + at) ((places_tell 0 i (pair_text i p) some at).0 o) in
      omega (arith, h)

  parted_from : (p : List ℕ × List ℕ) → IsPair i p → is_parted i p ≡ true
  parted_from p f =
      let own : IsIn (0 + length p.0) (places 0 i (pair_text i p)) = (places_tell 0 i (pair_text i p) some (length p.0)).0 (own_place p) in
      let zero_more : (x : ℕ) → 0 + x ≡ x = λ x. omega arith in
      first_made (length p.0) (places 0 i (pair_text i p)) (places_rising 0 i (pair_text i p))
      (subst (λ (m : ℕ). IsIn m (places 0 i (pair_text i p))) (zero_more (length p.0)) own)
      (λ x there. f x ((places_tell 0 i (pair_text i p) some x).1 (subst (λ (m : ℕ). IsIn m (places 0 i (pair_text i p))) (sym (zero_more x)) there)))

  all_from : (ps : List (List ℕ × List ℕ)) → list_all (is_parted i) ps ≡ true → AllByRecursion (IsPair i) ps
  all_from [] e = tt
  all_from (p ∷ ps) e = let h = and_parts (is_parted i p) (list_all (is_parted i) ps) e in (pair_from p h.0, all_from ps h.1)

  all_to : (ps : List (List ℕ × List ℕ)) → AllByRecursion (IsPair i) ps → list_all (is_parted i) ps ≡ true
  all_to [] all = refl
  all_to (p ∷ ps) all = ap (λ (b : Bool). b && list_all (is_parted i) ps) (parted_from p all.0) ∙ all_to ps all.1

one_more : (X : Type 0) (n : ℕ) → 1 ≤ suc n
one_more X n = omega arith

pub pairs_are_pairs : PairsArePairs
pairs_are_pairs i e [] t si se = (λ h. sym (same_Some [] t h), λ h. ap Some (sym h))
pairs_are_pairs i e (p ∷ ps) t si se =
    let texts = map (pair_text i) (p ∷ ps) in
    let law = joins_are_joins e texts t se (one_more ℕ (length (map (pair_text i) ps))) in (
      λ h. let x = if_from (list_all (is_parted i) (p ∷ ps)) (join e texts) t h in (law.0 x.1, all_from i si (p ∷ ps) x.0),
      λ j. ap (λ (b : Bool). cond b (join e texts) None) (all_to i si (p ∷ ps) j.1) ∙ law.1 j.0,
    )
