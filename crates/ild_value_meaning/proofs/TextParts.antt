-- The parts of a text with delimiters are shorter than it.
use Rattle.std.proofs.Common.{◌≡◌, ◌⊎◌, inl, inr, ℕ, ◌+◌, ◌<◌, ◌≤◌, List, [], ◌∷◌, ◌++◌, length, map, Some, refl, sym, subst, arith, length-append}
use Rattle.std.specs.Prelude.{option_map}
use Rattle.std.specs.List.{AllByRecursion, list_all}
use Rattle.std.proofs.lemmas.Option.{same_Some}
use Rattle.ild_data.specs.Data as T
use Rattle.ild_data.specs.Data.{Data}
use Rattle.ild_schema.specs.Clear.{IsGiven}
use Rattle.ild_schema.specs.Joins.{joined, pair_text}
use Rattle.ild_typed.specs.Strings.{text_in, texts_in, text_pairs}
use Rattle.ild_typed.specs.Texts.{join, join_pairs, is_parted, same_places, places, joints}
use Rattle.ild_typed.proofs.Basics.{true_from, if_from, map_from}
use Rattle.ild_typed.proofs.Entries.{both_from, only_text_data}
use Rattle.ild_typed.proofs.Rooms.{all_more}

given_long : (d : List ℕ) → IsGiven d → 0 < length d
given_long [] h = absurd h
given_long (c ∷ d) h = omega arith

joint_long : (p delim rest : List ℕ) → length (p ++ (delim ++ rest)) ≡ length p + (length delim + length rest)
joint_long p delim rest = let a = length-append p (delim ++ rest) in let b = length-append delim rest in omega (arith, a, b)

parts_within : (delim : List ℕ) (ps : List (List ℕ)) → AllByRecursion (λ p. length p ≤ length (joined delim ps)) ps
parts_within delim [] = tt
parts_within delim (p ∷ []) = (omega arith, tt)
parts_within delim (p ∷ q ∷ ps) =
    let n = joint_long p delim (joined delim (q ∷ ps)) in
    let more : (t : List ℕ) → length t ≤ length (joined delim (q ∷ ps)) → length t ≤ length (joined delim (p ∷ q ∷ ps)) = λ t h. omega (arith, n, h) in
    (omega (arith, n), all_more (λ t. length t ≤ length (joined delim (q ∷ ps))) (λ t. length t ≤ length (joined delim (p ∷ q ∷ ps))) more (q ∷ ps) (parts_within delim (q ∷ ps)))

-- a part of a joined text is shorter than it, or the one part that there is
abbrev pub IsWithin : List ℕ → List ℕ → Type 0
IsWithin k t = (length t < length k) ⊎ (t ≡ k)

parts_shorter : (delim : List ℕ) → IsGiven delim → (ps : List (List ℕ)) → AllByRecursion (IsWithin (joined delim ps)) ps
parts_shorter delim given [] = tt
parts_shorter delim given (p ∷ []) = (inr refl, tt)
parts_shorter delim given (p ∷ q ∷ ps) =
    let n = joint_long p delim (joined delim (q ∷ ps)) in
    let l = given_long delim given in
    let more : (t : List ℕ) → length t ≤ length (joined delim (q ∷ ps)) → IsWithin (joined delim (p ∷ q ∷ ps)) t = λ t h. inl (omega (arith, n, l, h)) in
    (inl (omega (arith, n, l)), all_more (λ t. length t ≤ length (joined delim (q ∷ ps))) (IsWithin (joined delim (p ∷ q ∷ ps))) more (q ∷ ps) (parts_within delim (q ∷ ps)))

pub join_within : (delim : List ℕ) → IsGiven delim → (ps : List (List ℕ)) (k : List ℕ) → join delim ps ≡ Some k → AllByRecursion (IsWithin k) ps
join_within delim given ps k e =
    let x = true_from (same_places (places 0 delim (joined delim ps)) (joints 0 delim ps)) (joined delim ps) k e in
    subst (λ t. AllByRecursion (IsWithin t) ps) x.1 (parts_shorter delim given ps)

-- keys and values are shorter than the text of their pairs
abbrev pub IsPairWithin : List ℕ → List ℕ × List ℕ → Type 0
IsPairWithin k p = (length p.0 < length k) × (length p.1 < length k)

pairs_of_parts : (inner : List ℕ) → IsGiven inner → (k : List ℕ) (ps : List (List ℕ × List ℕ)) → AllByRecursion (λ t. length t ≤ length k) (map (pair_text inner) ps) → AllByRecursion (IsPairWithin k) ps
pairs_of_parts inner given k [] h = tt
pairs_of_parts inner given k (p ∷ ps) h =
    let n = joint_long p.0 inner p.1 in
    let l = given_long inner given in
    let f = h.0 in
    ((omega (arith, n, l, f), omega (arith, n, l, f)), pairs_of_parts inner given k ps h.1)

pub pairs_within : (inner entry : List ℕ) → IsGiven inner → (ps : List (List ℕ × List ℕ)) (k : List ℕ) → join_pairs inner entry ps ≡ Some k → AllByRecursion (IsPairWithin k) ps
pairs_within inner entry given ps k e =
    let x = if_from (list_all (is_parted inner) ps) (join entry (map (pair_text inner) ps)) k e in
    let y = true_from (same_places (places 0 entry (joined entry (map (pair_text inner) ps))) (joints 0 entry (map (pair_text inner) ps))) (joined entry (map (pair_text inner) ps)) k x.1 in
    pairs_of_parts inner given k ps (subst (λ t. AllByRecursion (λ s. length s ≤ length t) (map (pair_text inner) ps)) y.1 (parts_within entry (map (pair_text inner) ps)))

abbrev pub IsDataWithin : List ℕ → Data → Type 0
IsDataWithin k d = (t : List ℕ) × (d ≡ T.text t) × IsWithin k t

pub datas_within : (k : List ℕ) (ds : List Data) (ts : List (List ℕ)) → texts_in ds ≡ Some ts → AllByRecursion (IsWithin k) ts → AllByRecursion (IsDataWithin k) ds
datas_within k [] ts e all = tt
datas_within k (d ∷ ds) ts e all =
    let b = both_from (text_in d) (texts_in ds) ts e in
    let h = subst (AllByRecursion (IsWithin k)) (sym b.all) all in
    ((b.item, only_text_data d b.item b.first, h.0), datas_within k ds b.items b.rest h.1)

abbrev pub IsEntryWithin : List ℕ → List ℕ × Data → Type 0
IsEntryWithin k e = (length e.0 < length k) × ((t : List ℕ) × (e.1 ≡ T.text t) × (length t < length k))

pub entries_within : (k : List ℕ) (es : List (List ℕ × Data)) (ps : List (List ℕ × List ℕ)) → text_pairs es ≡ Some ps → AllByRecursion (IsPairWithin k) ps → AllByRecursion (IsEntryWithin k) es
entries_within k [] ps e all = tt
entries_within k (d ∷ es) ps e all =
    let b = both_from (option_map {U = List ℕ × List ℕ} (λ s. (d.0, s)) (text_in d.1)) (text_pairs es) ps e in
    let x = map_from {B = List ℕ × List ℕ} (λ s. (d.0, s)) (text_in d.1) b.item b.first in
    let h = subst (AllByRecursion (IsPairWithin k)) (sym b.all) all in
    let f : IsPairWithin k (d.0, x.item) = subst (IsPairWithin k) (sym (same_Some (d.0, x.item) b.item x.made)) h.0 in
    ((f.0, (x.item, only_text_data d.1 x.item x.there, f.1)), entries_within k es b.items b.rest h.1)
