-- Entries with an inner delimiter, and the pairs that they are.
use Rattle.std.proofs.Common.{◌≡◌, ℕ, zero, suc, ◌<◌, Bool, true, false, ◌&&◌, List, [], ◌∷◌, ◌++◌, Option, Some, None, length, map, is_some, refl, ap, sym, ◌∙◌, subst, arith}
use Rattle.std.specs.Prelude.{unwrap_or, nat_eq, slice_get, option_map}
use Rattle.std.proofs.lemmas.Bool.Decides.{nat_tests}
use Rattle.std.specs.List.{AllByRecursion}
use Rattle.std.proofs.lemmas.List.{length-append}
use Rattle.std.proofs.lemmas.Option.{slice_get-map}
use Rattle.std.proofs.lemmas.Bool.{and_parts}
use Rattle.ild_schema.specs.Joins.{Occurs, Overlap, IsJoin, pair_text, IsPair, IsPairs}
use Rattle.ild_text.specs.Cut.{cut, halves}
use Rattle.ild_text.specs.Pairs.{entries, are_keyed, pair_of, pairs_of}
use Rattle.ild_text.proofs.Begins.{occurs_inside}
use Rattle.ild_text.proofs.Steps.{Parted, Halved, Whole, parted}
use Rattle.ild_text.proofs.Apart.{occurs_behind, one_join_lem, joins_apart}

-- from one entry to the next
keyed_more : (i e rest front back : List ℕ) → 0 < length e → Some (front, back) ≡ halves e rest → are_keyed i (cut e rest) ≡ (is_some (halves i front) && are_keyed i (cut e back))
keyed_more i e rest front back some is =
    let p : Halved e rest (front, back) = subst (Parted e rest) (sym is) (parted e rest some) in
    ap (are_keyed i) p.parts

pub keyed_goes : (i e rest front back : List ℕ) (all : Bool) → 0 < length e → Some (front, back) ≡ halves e rest → is_some (halves i front) ≡ true → are_keyed i (cut e rest) ≡ all → are_keyed i (cut e back) ≡ all
keyed_goes i e rest front back all some is key so_far = ap (λ b. b && are_keyed i (cut e back)) (sym key) ∙ sym (keyed_more i e rest front back some is) ∙ so_far

pub keyed_fails : (i e rest front back : List ℕ) (all : Bool) → 0 < length e → Some (front, back) ≡ halves e rest → is_some (halves i front) ≡ false → are_keyed i (cut e rest) ≡ all → false ≡ all
keyed_fails i e rest front back all some is key so_far = ap (λ b. b && are_keyed i (cut e back)) (sym key) ∙ sym (keyed_more i e rest front back some is) ∙ so_far

and_true : (b : Bool) → b ≡ (b && true)
and_true true = refl
and_true false = refl

pub keyed_ends : (i e rest : List ℕ) (all : Bool) → 0 < length e → None ≡ halves e rest → are_keyed i (cut e rest) ≡ all → is_some (halves i rest) ≡ all
keyed_ends i e rest all some is so_far =
    let p : Whole e rest = subst (Parted e rest) (sym is) (parted e rest some) in
    and_true (is_some (halves i rest)) ∙ ap (are_keyed i) (sym p.part) ∙ so_far

pub back_shorter : (e rest front back : List ℕ) → 0 < length e → Some (front, back) ≡ halves e rest → length back < length rest
back_shorter e rest front back some is =
    let p : Halved e rest (front, back) = subst (Parted e rest) (sym is) (parted e rest some) in
    omega (arith, ap length p.whole, length-append front (e ++ back), length-append e back)

keyed_one : (i e : List ℕ) (o : Option (List ℕ × List ℕ)) → Parted i e o → is_some o ≡ true → (pair_text i (unwrap_or o (e, [])) ≡ e) × IsPair i (unwrap_or o (e, []))
keyed_one i e None p key = absurd cc
keyed_one i e (Some h) p key = (sym p.whole, λ at o. p.first at (subst (λ t. Occurs i t at) (sym p.whole) o))

keyed_pairs : (i : List ℕ) (es : List (List ℕ)) → 0 < length i → are_keyed i es ≡ true → (map (pair_text i) (map (pair_of i) es) ≡ es) × AllByRecursion (IsPair i) (map (pair_of i) es)
keyed_pairs i [] some all = (refl, tt)
keyed_pairs i (e ∷ es) some all =
    let both = and_parts (is_some (halves i e)) (are_keyed i es) all in
    let one = keyed_one i e (halves i e) (parted i e some) both.0 in
    let more = keyed_pairs i es some both.1 in
    (λ k. one.0 k ∷ more.0 k, (one.1, more.1))

made_of : (i e t : List ℕ) (es : List (List ℕ)) → 0 < length i → IsJoin e es t → are_keyed i es ≡ true → IsPairs i e (map (pair_of i) es) t
made_of i e t [] some join all = absurd (omega (arith, join.some))
made_of i e t (x ∷ es) some join all =
    let pairs = keyed_pairs i (x ∷ es) some all in
    (subst (λ ps. IsJoin e ps t) (sym pairs.0) join, pairs.1)

some_entries : (e t : List ℕ) → 0 < length t → entries e t ≡ cut e t
some_entries e [] some = absurd (omega arith)
some_entries e (b ∷ bs) some = refl

-- what holds of the entries of a text that isn't empty
pub record Paired (i e t : List ℕ) : Type 0 where
  pub keyed : are_keyed i (entries e t) ≡ true
  pub pairs : IsPairs i e (pairs_of i e t) t

pub none_paired : (i e t : List ℕ) → length t ≡ 0 → (0 ≡ length (entries e t)) × Paired i e t
none_paired i e [] none = (refl, record { keyed = refl; pairs = refl })
none_paired i e (b ∷ bs) none = absurd (omega arith)

pub none_overlap : (e t : List ℕ) → 0 < length e → length t ≡ 0 → Overlap e t → ⊥
none_overlap e t some none o = absurd (omega (arith, occurs_inside e t o.earlier some o.here))

pub paired : (i e t : List ℕ) (n : ℕ) → 0 < length i → 0 < length t → IsJoin e (cut e t) t → length (cut e t) ≡ n → are_keyed i (cut e t) ≡ true → (n ≡ length (entries e t)) × Paired i e t
paired i e t n some one join count all =
    let same = some_entries e t one in (
      sym count ∙ ap length (sym same),
      record {
        keyed = ap (are_keyed i) same ∙ all;
        pairs = subst (λ es. IsPairs i e (map (pair_of i) es) t) (sym same) (made_of i e t (cut e t) some join all);
      },
    )

-- the texts of pairs have keys
texts_keyed : (i : List ℕ) (ps : List (List ℕ × List ℕ)) → 0 < length i → are_keyed i (map (pair_text i) ps) ≡ true
texts_keyed i [] some = refl
texts_keyed i (p ∷ ps) some = (λ k. one (halves i (pair_text i p)) (parted i (pair_text i p) some) k && texts_keyed i ps some k)
  where
    one : (o : Option (List ℕ × List ℕ)) → Parted i (pair_text i p) o → is_some o ≡ true
    one None w = absurd (w.none (length p.0) (occurs_behind i p.0 p.1))
    one (Some h) w = refl

pub pairs_keyed : (i e t : List ℕ) (ps : List (List ℕ × List ℕ)) → 0 < length i → 0 < length e → 0 < length t → IsJoin e (cut e t) t → IsPairs i e ps t → are_keyed i (cut e t) ≡ true
pairs_keyed i e t [] some parting one join is = absurd (omega (arith, ap length is))
pairs_keyed i e t (p ∷ ps) some parting one join is =
    ap (are_keyed i) (one_join_lem e t (cut e t) (map (pair_text i) (p ∷ ps)) parting join is.0) ∙ texts_keyed i (p ∷ ps) some

pub pairs_apart : (i e t : List ℕ) (ps : List (List ℕ × List ℕ)) → 0 < length t → IsPairs i e ps t → Overlap e t → ⊥
pairs_apart i e t [] one is o = absurd (omega (arith, ap length is))
pairs_apart i e t (p ∷ ps) one is o = joins_apart e t (map (pair_text i) (p ∷ ps)) is.0 o

pub some_from_test : (n : ℕ) (b : Bool) → b ≡ nat_eq n 0 → b ≡ false → 0 < n
some_from_test n b e f = grind (arith, nat_tests)

-- the pair at a place
slice_get_pair : (i : List ℕ) (es : List (List ℕ)) (k : ℕ) (e : List ℕ) → 0 < length i → are_keyed i es ≡ true → Some e ≡ slice_get es k → halves i e ≡ slice_get (map (pair_of i) es) k
slice_get_pair i [] k e some all at = absurd cc
slice_get_pair i (x ∷ es) zero e some all at =
    let same : e ≡ x = cc in
    one e (halves i e) refl (ap (λ y. is_some (halves i y)) same ∙ (and_parts (is_some (halves i x)) (are_keyed i es) all).0) ∙ ap (λ y. Some (pair_of i y)) same
  where
    one : (y : List ℕ) (o : Option (List ℕ × List ℕ)) → halves i y ≡ o → is_some o ≡ true → o ≡ Some (unwrap_or o (y, []))
    one y None e key = absurd cc
    one y (Some h) e key = refl
slice_get_pair i (x ∷ es) (suc k) e some all at = slice_get_pair i es k e some (and_parts (is_some (halves i x)) (are_keyed i es) all).1 at

pub pair_there : (i e t x : List ℕ) (k : ℕ) → 0 < length i → are_keyed i (entries e t) ≡ true → Some x ≡ slice_get (cut e t) k → halves i x ≡ slice_get (pairs_of i e t) k
pair_there i e [] x zero some all at = ap (λ (o : Option (List ℕ)). halves i (unwrap_or o [])) at
pair_there i e [] x (suc k) some all at = absurd cc
pair_there i e (b ∷ bs) x k some all at = slice_get_pair i (cut e (b ∷ bs)) k x some all at

pub no_pair_there : (i e t : List ℕ) (k : ℕ) → None ≡ slice_get (cut e t) k → None ≡ slice_get (pairs_of i e t) k
no_pair_there i e [] k at = refl
no_pair_there i e (b ∷ bs) k at = ap (option_map (pair_of i)) at ∙ sym (slice_get-map (pair_of i) (cut e (b ∷ bs)) k)
