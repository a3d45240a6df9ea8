-- Keys that were met, and those that stand twice.
use Rattle.std.proofs.Common.{◌≡◌, ℕ, List, [], ◌∷◌, map, Bool, true, false, not, ◌||◌, refl, sym, ◌∙◌, ap}
use Rattle.std.specs.Borrow.{Bor}
use Rattle.std.specs.BTreeSet.{BTreeSet}
use Rattle.std.specs.List.{list_any}
use Rattle.ild_layer_fields.proofs.Noting.{turn}
use Rattle.ild_data.specs.Key.{same_text}
use Rattle.ild_typed.specs.Named.{has_twice, is_among}
use Rattle.ild_typed.proofs.Entries.{same_text_self}
use Rattle.std.specs.Cmp.Lexicographic.{same_text as text_same}
use Rattle.ild_layer_pairs.specs.inside.Keys.{texts}

pub same_swap : (a b : List ℕ) → same_text a b ≡ same_text b a
same_swap a b = by (same_text a b) (same_text b a) refl refl where
  by : (x y : Bool) → same_text a b ≡ x → same_text b a ≡ y → x ≡ y
  by true true e k = refl
  by false false e k = refl
  by true false e k = sym (same_text_self a) ∙ ap (λ c. same_text c a) (text_same a b (sym e)) ∙ k
  by false true e k = sym e ∙ ap (λ c. same_text a c) (text_same b a (sym k)) ∙ same_text_self a

abbrev meets : List (List ℕ) → List (List ℕ) → Bool
meets done rest = list_any (λ k. is_among k done) rest

meets_none : (rest : List (List ℕ)) → list_any (λ k. is_among k []) rest ≡ false
meets_none [] = refl
meets_none (k ∷ rest) = meets_none rest

or_turn : (a b c : Bool) → (a || (b || c)) ≡ ((b || a) || c)
or_turn true true c = refl
or_turn true false c = refl
or_turn false true c = refl
or_turn false false c = refl

-- one more that was met
meets_more : (k : List ℕ) (done rest : List (List ℕ)) → list_any (λ x. is_among x (k ∷ done)) rest ≡ (is_among k rest || list_any (λ x. is_among x done) rest)
meets_more k done [] = refl
meets_more k done (x ∷ rest) =
    ap (λ b. (b || is_among x done) || list_any (λ y. is_among y (k ∷ done)) rest) (same_swap x k)
    ∙ ap (λ b. (same_text k x || is_among x done) || b) (meets_more k done rest)
    ∙ turn (same_text k x) (is_among x done) (is_among k rest) (list_any (λ y. is_among y done) rest)

pub record Meeting (all rest : List (List ℕ)) (seen : BTreeSet (Bor (List ℕ))) : Type 0 where
  pub done : List (List ℕ)
  pub same : has_twice all ≡ (list_any (λ k. is_among k done) rest || has_twice rest)
  pub knows : (q : List ℕ) → is_among q (texts seen) ≡ is_among q done

pub meeting_begins : (all : List (List ℕ)) (seen : BTreeSet (Bor (List ℕ))) → seen.keys ≡ [] → Meeting all all seen
meeting_begins all seen empty = record {
  done = [];
  same = ap (λ b. b || has_twice all) (sym (meets_none all));
  knows = λ q. ap (λ ks. list_any (same_text q) (map (λ (k : Bor (List ℕ)). k.now) ks)) empty;
}

module _ (all rest behind : List (List ℕ)) (k : List ℕ) (seen : BTreeSet (Bor (List ℕ))) (h : Meeting all rest seen) (is : rest ≡ k ∷ behind) where
  here : has_twice all ≡ ((is_among k h.done || list_any (λ x. is_among x h.done) behind) || (is_among k behind || has_twice behind))
  here = h.same ∙ ap (λ r. list_any (λ x. is_among x h.done) r || has_twice r) is

  pub meeting_on : (after : BTreeSet (Bor (List ℕ))) → is_among k (texts seen) ≡ false
      → ((q : List ℕ) → is_among q (texts after) ≡ (same_text q k || is_among q (texts seen))) → Meeting all behind after
  meeting_on after fresh more = record {
    done = k ∷ h.done;
    same =
        here ∙ ap (λ b. (b || list_any (λ x. is_among x h.done) behind) || (is_among k behind || has_twice behind)) (sym (h.knows k) ∙ fresh)
        ∙ or_turn (list_any (λ x. is_among x h.done) behind) (is_among k behind) (has_twice behind)
        ∙ ap (λ b. b || has_twice behind) (sym (meets_more k h.done behind));
    knows = λ q. more q ∙ ap (λ b. same_text q k || b) (h.knows q);
  }

  pub meeting_twice : is_among k (texts seen) ≡ true → true ≡ has_twice all
  meeting_twice met =
      sym (here ∙ ap (λ b. (b || list_any (λ x. is_among x h.done) behind) || (is_among k behind || has_twice behind)) (sym (h.knows k) ∙ met))

pub meeting_ends : (all rest : List (List ℕ)) (seen : BTreeSet (Bor (List ℕ))) → Meeting all rest seen → rest ≡ [] → false ≡ has_twice all
meeting_ends all rest seen h none = sym (h.same ∙ ap (λ r. list_any (λ x. is_among x h.done) r || has_twice r) none)

pub not_true : (b : Bool) → true ≡ not b → b ≡ false
not_true true e = absurd cc
not_true false e = refl

pub not_false : (b : Bool) → false ≡ not b → b ≡ true
not_false true e = refl
not_false false e = absurd cc

pub turned : (a b : Bool) → a ≡ not b → not a ≡ b
turned a true e = ap not e
turned a false e = ap not e
