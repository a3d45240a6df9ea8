-- A text that was joined is cut into its parts again.
use Rattle.std.proofs.Common.{◌≡◌, ℕ, zero, suc, ◌+◌, ◌-◌, ◌≤◌, List, [], ◌∷◌, ◌++◌, length, map, drop, Bool, true, false, cond, ◌&&◌, Option, Some, None, refl, sym, ◌∙◌, ap, subst, arith}
use Rattle.std.specs.List.{list_all, AllByRecursion}
use Rattle.std.specs.Cmp.Lexicographic.{same_text as text_same}
use Rattle.std.proofs.lemmas.Option.{same_Some, none-some}
use Rattle.std.proofs.lemmas.Bool.{eq-eqb, eqb-true, and_parts}
use Rattle.ild_schema.specs.Prefixes.{begins}
use Rattle.ild_typed.specs.Texts.{places, joints, join, is_first, is_parted, join_pairs}
use Rattle.ild_schema.specs.Joins.{joined, pair_text}
use Rattle.ild_schema.specs.Clear.{IsGiven}
use Rattle.ild_typed.specs.Cuts.{begin_first, cut, parted, before, pair_in, pairs_in, gives}
use Rattle.ild_typed.proofs.Basics.{if_from}
use Rattle.ild_typed.proofs.Entries.{same_text_self}
use Rattle.ild_typed.proofs.Joints.{join_says}

pub begins_itself : (delim s : List ℕ) → begins delim (delim ++ s) ≡ true
begins_itself [] s = refl
begins_itself (c ∷ delim) s = ap (λ b. b && begins delim (delim ++ s)) (eq-eqb c c refl) ∙ begins_itself delim s

cut_past : (delim front s : List ℕ) → cut (length front) delim (front ++ s) ≡ cut 0 delim s
cut_past delim [] s = refl
cut_past delim (c ∷ front) s = cut_past delim front s

-- ---- the places of the delimiter

abbrev first_of : List ℕ → ℕ
first_of [] = 0
first_of (n ∷ ns) = n

abbrev others_of : List ℕ → List ℕ
others_of [] = []
others_of (n ∷ ns) = ns

abbrev is_none_left : List ℕ → Bool
is_none_left [] = true
is_none_left (n ∷ ns) = false

abbrev From : ℕ → List ℕ → Type 0
From n ns = AllByRecursion (λ m. n ≤ m) ns

from_more : (n m : ℕ) (ns : List ℕ) → n ≤ m → From m ns → From n ns
from_more n m [] e all = tt
from_more n m (k ∷ ns) e all = (omega (arith, e, all.0), from_more n m ns e all.1)

joints_from : (at : ℕ) (delim p : List ℕ) (ps : List (List ℕ)) → From at (joints at delim (p ∷ ps))
joints_from at delim p [] = tt
joints_from at delim p (q ∷ ps) =
    (omega arith, from_more at (at + length p + length delim) (joints (at + length p + length delim) delim (q ∷ ps)) (omega arith) (joints_from (at + length p + length delim) delim q ps))

-- where no place stands in a front, the places behind it are all
skip : (n : ℕ) (delim front s ns : List ℕ) → From (n + length front) ns → places n delim (front ++ s) ≡ ns → places (n + length front) delim s ≡ ns
skip n delim [] s ns far e = ap (λ k. places k delim s) (omega arith) ∙ e
skip n delim (c ∷ front) s ns far e = by (begins delim (c ∷ (front ++ s))) ns (skip (n + 1) delim front s ns) far e where
  by : (b : Bool) (ks : List ℕ) → (From (n + 1 + length front) ks → places (n + 1) delim (front ++ s) ≡ ks → places (n + 1 + length front) delim s ≡ ks) → From (n + suc (length front)) ks
      → cond b (n ∷ places (n + 1) delim (front ++ s)) (places (n + 1) delim (front ++ s)) ≡ ks → places (n + suc (length front)) delim s ≡ ks
  by true [] more all h = let bad : false ≡ true = ap is_none_left h in absurd cc
  by true (k ∷ ks) more all h = let same : n ≡ k = ap first_of h in absurd (omega (arith, all.0, same))
  by false ks more all h =
      let move : n + 1 + length front ≡ n + suc (length front) = omega arith in
      ap (λ k. places k delim s) (sym move) ∙ more (subst (λ k. From k ks) (sym move) all) h

-- ---- parts

module _ (e : ℕ) (tail : List ℕ) where
  abbrev Delim : List ℕ
  Delim = e ∷ tail

  last_part : (at : ℕ) (p : List ℕ) → places at Delim p ≡ [] → cut 0 Delim p ≡ p ∷ []
  last_part at [] h = refl
  last_part at (c ∷ p) h = by (begins Delim (c ∷ p)) h (last_part (at + 1) p) where
    by : (b : Bool) → cond b (at ∷ places (at + 1) Delim p) (places (at + 1) Delim p) ≡ [] → (places (at + 1) Delim p ≡ [] → cut 0 Delim p ≡ p ∷ [])
        → cond b ([] ∷ cut (length Delim - 1) Delim p) (begin_first c (cut 0 Delim p)) ≡ (c ∷ p) ∷ []
    by true k more = let bad : false ≡ true = ap is_none_left k in absurd cc
    by false k more = ap (begin_first c) (more k)

  -- a part, with the delimiter and more behind it
  next_part : (at : ℕ) (p q : List ℕ) (qs : List (List ℕ)) → places at Delim (joined Delim (p ∷ q ∷ qs)) ≡ joints at Delim (p ∷ q ∷ qs)
      → (places (at + length p + length Delim) Delim (joined Delim (q ∷ qs)) ≡ joints (at + length p + length Delim) Delim (q ∷ qs) → cut 0 Delim (joined Delim (q ∷ qs)) ≡ q ∷ qs)
      → cut 0 Delim (joined Delim (p ∷ q ∷ qs)) ≡ p ∷ q ∷ qs
  next_part at [] q qs h rest = by (begins Delim (Delim ++ joined Delim (q ∷ qs))) (begins_itself Delim (joined Delim (q ∷ qs))) h where
    by : (b : Bool) → b ≡ true
        → cond b (at ∷ places (at + 1) Delim (tail ++ joined Delim (q ∷ qs))) (places (at + 1) Delim (tail ++ joined Delim (q ∷ qs))) ≡ joints at Delim ([] ∷ q ∷ qs)
        → cond b ([] ∷ cut (length Delim - 1) Delim (tail ++ joined Delim (q ∷ qs))) (begin_first e (cut 0 Delim (tail ++ joined Delim (q ∷ qs)))) ≡ [] ∷ q ∷ qs
    by false is k = absurd cc
    by true is k =
        let base : at + 1 + length tail ≡ at + zero + length Delim = omega arith in
        let later : places (at + 1) Delim (tail ++ joined Delim (q ∷ qs)) ≡ joints (at + zero + length Delim) Delim (q ∷ qs) = ap others_of k in
        let far : From (at + 1 + length tail) (joints (at + zero + length Delim) Delim (q ∷ qs))
        = subst (λ n. From n (joints (at + zero + length Delim) Delim (q ∷ qs))) (sym base) (joints_from (at + zero + length Delim) Delim q qs) in
        let there = skip (at + 1) Delim tail (joined Delim (q ∷ qs)) (joints (at + zero + length Delim) Delim (q ∷ qs)) far later in
        let less : length Delim - 1 ≡ length tail = omega arith in
        ap (λ ps. [] ∷ ps)
        (ap (λ n. cut n Delim (tail ++ joined Delim (q ∷ qs))) less ∙ cut_past Delim tail (joined Delim (q ∷ qs))
        ∙ rest (ap (λ n. places n Delim (joined Delim (q ∷ qs))) (sym base) ∙ there))
  next_part at (c ∷ p) q qs h rest =
      by (begins Delim (c ∷ joined Delim (p ∷ q ∷ qs))) h
      (λ k. next_part (at + 1) p q qs k (λ j. rest (ap (λ n. places n Delim (joined Delim (q ∷ qs))) move ∙ j ∙ ap (λ n. joints n Delim (q ∷ qs)) (sym move))))
    where
      move : at + suc (length p) + length Delim ≡ at + 1 + length p + length Delim
      move = omega arith

      by : (b : Bool)
          → cond b (at ∷ places (at + 1) Delim (joined Delim (p ∷ q ∷ qs))) (places (at + 1) Delim (joined Delim (p ∷ q ∷ qs))) ≡ joints at Delim ((c ∷ p) ∷ q ∷ qs)
          → (places (at + 1) Delim (joined Delim (p ∷ q ∷ qs)) ≡ joints (at + 1) Delim (p ∷ q ∷ qs) → cut 0 Delim (joined Delim (p ∷ q ∷ qs)) ≡ p ∷ q ∷ qs)
          → cond b ([] ∷ cut (length Delim - 1) Delim (joined Delim (p ∷ q ∷ qs))) (begin_first c (cut 0 Delim (joined Delim (p ∷ q ∷ qs)))) ≡ (c ∷ p) ∷ q ∷ qs
      by true k more = let same : at ≡ at + suc (length p) = ap first_of k in absurd (omega (arith, same))
      by false k more =
          let first : at + suc (length p) ≡ at + 1 + length p = omega arith in
          let same : joints at Delim ((c ∷ p) ∷ q ∷ qs) ≡ joints (at + 1) Delim (p ∷ q ∷ qs)
          = λ i. first i ∷ joints (move i) Delim (q ∷ qs) in
          ap (begin_first c) (more (k ∙ same))

  cut_parts : (at : ℕ) (p : List ℕ) (ps : List (List ℕ)) → places at Delim (joined Delim (p ∷ ps)) ≡ joints at Delim (p ∷ ps) → cut 0 Delim (joined Delim (p ∷ ps)) ≡ p ∷ ps
  cut_parts at p [] h = last_part at p h
  cut_parts at p (q ∷ ps) h = next_part at p q ps h (cut_parts (at + length p + length Delim) q ps)

-- a joined text is cut into its parts
pub parted_join : (delim : List ℕ) → IsGiven delim → (p : List ℕ) (ps : List (List ℕ)) (t : List ℕ) → join delim (p ∷ ps) ≡ Some t → parted delim t ≡ p ∷ ps
parted_join [] given p ps t h = absurd given
parted_join (e ∷ tail) given p ps t h =
    let x = join_says (e ∷ tail) (p ∷ ps) t h in
    ap (cut 0 (e ∷ tail)) (sym x.0) ∙ cut_parts e tail 0 p ps (ap (places 0 (e ∷ tail)) x.0 ∙ x.1)

pub gives_it : (t : List ℕ) (o : Option (List ℕ)) → o ≡ Some t → gives t o ≡ true
gives_it t None e = absurd (none-some t e)
gives_it t (Some s) e = ap (same_text_of t) (same_Some s t e) ∙ same_text_self t where
  same_text_of : List ℕ → List ℕ → Bool
  same_text_of a b = gives a (Some b)

pub given_by : (t : List ℕ) (o : Option (List ℕ)) → gives t o ≡ true → o ≡ Some t
given_by t None e = absurd cc
given_by t (Some s) e = ap Some (sym (text_same t s (sym e)))

-- ---- pairs

before_first : (at e : ℕ) (tail v k : List ℕ) → is_first (at + length k) (places at (e ∷ tail) (k ++ ((e ∷ tail) ++ v))) ≡ true → before (e ∷ tail) (k ++ ((e ∷ tail) ++ v)) ≡ k
before_first at e tail v [] h = by (begins (e ∷ tail) ((e ∷ tail) ++ v)) (begins_itself (e ∷ tail) v) where
  by : (b : Bool) → b ≡ true → cond b [] (e ∷ before (e ∷ tail) (tail ++ v)) ≡ []
  by true is = refl
  by false is = absurd cc
before_first at e tail v (c ∷ k) h = by (begins (e ∷ tail) (c ∷ (k ++ ((e ∷ tail) ++ v)))) h (before_first (at + 1) e tail v k) where
  by : (b : Bool)
      → is_first (at + suc (length k)) (cond b (at ∷ places (at + 1) (e ∷ tail) (k ++ ((e ∷ tail) ++ v))) (places (at + 1) (e ∷ tail) (k ++ ((e ∷ tail) ++ v)))) ≡ true
      → (is_first (at + 1 + length k) (places (at + 1) (e ∷ tail) (k ++ ((e ∷ tail) ++ v))) ≡ true → before (e ∷ tail) (k ++ ((e ∷ tail) ++ v)) ≡ k)
      → cond b [] (c ∷ before (e ∷ tail) (k ++ ((e ∷ tail) ++ v))) ≡ c ∷ k
  by true j more = absurd (omega (arith, eqb-true (at + suc (length k)) at j))
  by false j more =
      let move : at + suc (length k) ≡ at + 1 + length k = omega arith in
      ap (λ s. c ∷ s) (more (ap (λ n. is_first n (places (at + 1) (e ∷ tail) (k ++ ((e ∷ tail) ++ v)))) (sym move) ∙ j))

drop_front : (a s : List ℕ) → drop (length a) (a ++ s) ≡ s
drop_front [] s = refl
drop_front (c ∷ a) s = drop_front a s

drop_two : (a b s : List ℕ) → drop (length a + length b) (a ++ (b ++ s)) ≡ s
drop_two [] b s = let same : zero + length b ≡ length b = omega arith in ap (λ n. drop n (b ++ s)) same ∙ drop_front b s
drop_two (c ∷ a) b s =
    let same : suc (length a) + length b ≡ suc (length a + length b) = omega arith in
    ap (λ n. drop n (c ∷ (a ++ (b ++ s)))) same ∙ drop_two a b s

pair_again : (inner : List ℕ) → IsGiven inner → (p : List ℕ × List ℕ) → is_parted inner p ≡ true → pair_in inner (pair_text inner p) ≡ p
pair_again [] given p h = absurd given
pair_again (e ∷ tail) given p h =
    let none : zero + length p.0 ≡ length p.0 = omega arith in
    let key : before (e ∷ tail) (pair_text (e ∷ tail) p) ≡ p.0
    = before_first 0 e tail p.1 p.0 (ap (λ n. is_first n (places 0 (e ∷ tail) (pair_text (e ∷ tail) p))) none ∙ h) in
    let value : drop (length (before (e ∷ tail) (pair_text (e ∷ tail) p)) + length (e ∷ tail)) (pair_text (e ∷ tail) p) ≡ p.1
    = ap (λ k. drop (length k + length (e ∷ tail)) (pair_text (e ∷ tail) p)) key ∙ drop_two p.0 (e ∷ tail) p.1 in
    λ i. (key i, value i)

pairs_again : (inner : List ℕ) → IsGiven inner → (ps : List (List ℕ × List ℕ)) → list_all (is_parted inner) ps ≡ true → map (pair_in inner) (map (pair_text inner) ps) ≡ ps
pairs_again inner given [] h = refl
pairs_again inner given (p ∷ ps) h =
    let x = and_parts (is_parted inner p) (list_all (is_parted inner) ps) h in
    let first = pair_again inner given p x.0 in
    let rest = pairs_again inner given ps x.1 in
    λ i. first i ∷ rest i

pub pairs_join : (inner entry : List ℕ) → IsGiven inner → IsGiven entry → (ps : List (List ℕ × List ℕ)) (t : List ℕ) → join_pairs inner entry ps ≡ Some t → pairs_in inner entry t ≡ ps
pairs_join inner entry given more [] t h = ap (pairs_in inner entry) (sym (same_Some [] t h))
pairs_join inner entry given more (p ∷ ps) t h =
    let x = if_from (list_all (is_parted inner) (p ∷ ps)) (join entry (map (pair_text inner) (p ∷ ps))) t h in
    let cuts = parted_join entry more (pair_text inner p) (map (pair_text inner) ps) t x.1 in
    by t (join_says entry (pair_text inner p ∷ map (pair_text inner) ps) t x.1).0 cuts ∙ pairs_again inner given (p ∷ ps) x.0
  where
    no_end : (a b : List ℕ) → IsGiven b → a ++ b ≡ [] → ⊥
    no_end [] [] g e = g
    no_end [] (c ∷ b) g e = absurd cc
    no_end (c ∷ a) b g e = absurd cc

    more_given : (a b : List ℕ) → IsGiven a → IsGiven (a ++ b)
    more_given [] b g = absurd g
    more_given (c ∷ a) b g = tt

    first_given : (qs : List (List ℕ)) → joined entry (pair_text inner p ∷ qs) ≡ [] → ⊥
    first_given [] e = no_end p.0 (inner ++ p.1) (more_given inner p.1 given) e
    first_given (q ∷ qs) e = no_end (pair_text inner p) (entry ++ joined entry (q ∷ qs)) (more_given entry (joined entry (q ∷ qs)) more) e

    by : (s : List ℕ) → joined entry (pair_text inner p ∷ map (pair_text inner) ps) ≡ s → parted entry s ≡ map (pair_text inner) (p ∷ ps)
        → pairs_in inner entry s ≡ map (pair_in inner) (map (pair_text inner) (p ∷ ps))
    by [] e k = absurd (first_given (map (pair_text inner) ps) e)
    by (c ∷ s) e k = ap (map (pair_in inner)) k
