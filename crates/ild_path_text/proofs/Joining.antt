-- What splits and searches say of joined texts.
use Rattle.std.proofs.Common.{◌≡◌, ℕ, zero, suc, ◌+◌, ◌<◌, ◌≤◌, List, [], ◌∷◌, length, take, drop, Bool, true, false, cond, nat_eq, Option, Some, None, refl, sym, ◌∙◌, ap, subst, arith, zero-add, add-zero}
use Rattle.std.proofs.lemmas.Bool.Decides.{nat_tests}
use Rattle.ild_typed.proofs.JoinLaws.{begins_take, take_begins}
use Rattle.ild_schema.specs.Joins.{Occurs, joined, pair_text, IsJoin, JoinsByCount}
use Rattle.ild_schema.specs.Prefixes.{begins}
use Rattle.ild_typed.specs.JoinLaws.{JoinsAreJoins}
use Rattle.ild_typed.specs.Texts.{places, is_first, is_parted, join}
use Rattle.ild_typed.proofs.Joints.{join_says, first_same}
use Rattle.ild_text.specs.inside.Find.{IsNext}

false_true : false ≡ true → ⊥
false_true e = absurd cc

-- ---- parts

pub joined_there : JoinsAreJoins → JoinsByCount → (delim text : List ℕ) (ps others : List (List ℕ)) (n : ℕ) → 0 < length delim → joined delim ps ≡ text → length ps ≡ n → IsJoin delim others text → length others ≡ n
    → join delim ps ≡ Some text
joined_there joins by_count delim text ps others n some whole count is more =
    let same : ps ≡ others = by_count delim ps others some (subst (IsJoin delim others) (sym whole) is) (count ∙ sym more) in
    let own : IsJoin delim ps text = subst (λ qs. IsJoin delim qs text) (sym same) is in
    (joins delim ps text some own.some).1 own

pub joined_not : JoinsAreJoins → (delim text : List ℕ) (ps : List (List ℕ)) (n : ℕ) → 0 < length delim → joined delim ps ≡ text → length ps ≡ n → (n ≡ 0 → ⊥)
    → ((qs : List (List ℕ)) → IsJoin delim qs text → length qs ≡ n → false ≡ true) → join delim ps ≡ None
joined_not joins delim text ps n some whole count given none = by (join delim ps) refl
  where
    positive : (m k : ℕ) → m ≡ k → (k ≡ 0 → ⊥) → 1 ≤ m
    positive zero k e h = absurd (h (sym e))
    positive (suc m) k e h = omega arith

    by : (o : Option (List ℕ)) → join delim ps ≡ o → o ≡ None
    by None is = refl
    by (Some t) is =
        let same : t ≡ text = sym (join_says delim ps t is).0 ∙ whole in
        absurd (false_true (none ps ((joins delim ps text some (positive (length ps) n count given)).0 (is ∙ ap Some same)) count))

pub joined_empty : (delim text : List ℕ) (ps : List (List ℕ)) (n : ℕ) → joined delim ps ≡ text → length ps ≡ n → n ≡ 0 → join delim ps ≡ Some text
joined_empty delim text [] n whole count none = ap Some whole
joined_empty delim text (p ∷ ps) n whole count none = absurd (omega (arith, count, none))

-- ---- the first place

abbrev head_of : List ℕ → ℕ
head_of [] = 0
head_of (x ∷ xs) = x

abbrev tail_of : List ℕ → List ℕ
tail_of [] = []
tail_of (x ∷ xs) = xs

not_begins : (d s : List ℕ) → (take (length d) s ≡ d → ⊥) → begins d s ≡ false
not_begins d s never = by (begins d s) refl
  where
    by : (b : Bool) → begins d s ≡ b → b ≡ false
    by true is = absurd (never (begins_take d s is))
    by false is = refl

never_empty : (d : List ℕ) → 0 < length d → begins d [] ≡ true → ⊥
never_empty [] some e = omega (arith, some)
never_empty (c ∷ cs) some e = absurd cc

first_place : (d : List ℕ) (m n : ℕ) (s : List ℕ) → 0 < length d → begins d (drop n s) ≡ true → ((k : ℕ) → k < n → begins d (drop k s) ≡ false) → is_first (m + n) (places m d s) ≡ true
first_place d m zero [] some here before = absurd (never_empty d some here)
first_place d m (suc n) [] some here before = absurd (never_empty d some here)
first_place d m zero (c ∷ s) some here before = ap (λ b. is_first (m + zero) (cond b (m ∷ places (m + 1) d s) (places (m + 1) d s))) here ∙ self (m + zero) m (add-zero m)
  where
    self : (a b : ℕ) → a ≡ b → nat_eq a b ≡ true
    self a b h = grind (arith, nat_tests, h)
first_place d m (suc n) (c ∷ s) some here before =
    ap (λ b. is_first (m + suc n) (cond b (m ∷ places (m + 1) d s) (places (m + 1) d s))) (before 0 (omega arith)) ∙ ap (λ k. is_first k (places (m + 1) d s)) (next m n)
    ∙ first_place d (m + 1) n s some here (λ k h. before (suc k) (omega (arith, h)))
  where
    next : (a b : ℕ) → a + suc b ≡ a + 1 + b
    next a b = omega arith

no_place : (d : List ℕ) (m : ℕ) (s : List ℕ) → ((k : ℕ) → begins d (drop k s) ≡ false) → places m d s ≡ []
no_place d m [] none = refl
no_place d m (c ∷ s) none = ap (λ b. cond b (m ∷ places (m + 1) d s) (places (m + 1) d s)) (none 0) ∙ no_place d (m + 1) s (λ k. none (suc k))

-- what a search finds
pub parted_found : (d t : List ℕ) (at : ℕ) → 0 < length d → IsNext d t 0 (0 + at) → (p : List ℕ × List ℕ) (n : ℕ) → pair_text d p ≡ t → length p.0 ≡ n → nat_eq at n ≡ is_parted d p
parted_found d t at some next p n whole len = by (nat_eq at n) refl
  where
    first : is_first at (places 0 d (pair_text d p)) ≡ true
    first =
        ap (λ s. is_first at (places 0 d s)) whole ∙ ap (λ k. is_first k (places 0 d t)) (sym (zero-add at))
        ∙ first_place d 0 at t some (take_begins d (drop at t) (ap (λ k. take (length d) (drop k t)) (sym (zero-add at)) ∙ next.here))
        (λ k h. not_begins d (drop k t) (next.first k (omega arith) (omega (arith, h))))

    by : (b : Bool) → nat_eq at n ≡ b → b ≡ is_parted d p
    by true is =
        let same : at ≡ length p.0 = grind (arith, nat_tests, is, len) in
        sym (ap (λ k. is_first k (places 0 d (pair_text d p))) (sym same) ∙ first)
    by false is = other (is_parted d p) refl
      where
        apart : at ≡ n → nat_eq at n ≡ false → ⊥
        apart e h = grind (arith, nat_tests, e, h)

        other : (c : Bool) → is_parted d p ≡ c → false ≡ c
        other true told = absurd (apart (first_same at (length p.0) (places 0 d (pair_text d p)) first told ∙ len) is)
        other false told = refl

pub parted_none : (d t : List ℕ) → ((at : ℕ) → 0 ≤ at → Occurs d t at → ⊥) → (p : List ℕ × List ℕ) → pair_text d p ≡ t → false ≡ is_parted d p
parted_none d t none p whole =
    sym (ap (λ s. is_first (length p.0) (places 0 d s)) whole ∙ ap (is_first (length p.0)) (no_place d 0 t (λ k. not_begins d (drop k t) (none k (omega arith)))))
