-- What stands before and behind a delimiter of a text is a text.
use Rattle.std.proofs.Common.{◌≡◌, ℕ, List, [], ◌∷◌, ◌++◌, length, map, IsUtf8, Some, refl, sym, subst, arith, slice_index}
use Rattle.std.specs.Str.{IsCharBoundary}
use Rattle.std.specs.List.{AllByRecursion, list_all}
use Rattle.std.proofs.lemmas.List.{take_at, drop_at, length-append}
use Rattle.std.proofs.lemmas.Str.{IsCharBoundary-start, IsCharBoundary-from_take, IsUtf8-take, IsUtf8-drop}
use Rattle.ild_schema.specs.Clear.{IsGiven}
use Rattle.ild_schema.specs.Joins.{joined, pair_text}
use Rattle.ild_typed.specs.Texts.{join, join_pairs, is_parted, same_places, places, joints}
use Rattle.ild_typed.proofs.Basics.{true_from, if_from}
use Rattle.ild_typed.proofs.Utf8Texts.{ArePairs}

-- the byte behind a front
byte_behind : (x d : List ℕ) (c : ℕ) → slice_index (x ++ (c ∷ d)) (length x) ≡ c
byte_behind [] d c = refl
byte_behind (b ∷ x) d c = byte_behind x d c

-- what stands before a text in a text
before_text : (x d z : List ℕ) → IsGiven d → IsUtf8 d → IsUtf8 (x ++ (d ++ z)) → IsUtf8 x
before_text x [] z given u whole = absurd given
before_text x (c ∷ d) z given u whole =
    let start = IsCharBoundary-start (c ∷ d) u in
    let n = length-append x (c ∷ (d ++ z)) in
    let is = byte_behind x (d ++ z) c in
    let here : IsCharBoundary (x ++ (c ∷ (d ++ z))) (length x)
    = (omega (arith, n), λ h l. let k = start.1 (omega arith) (omega (arith, is, l)) in omega (arith, is, k)) in
    subst IsUtf8 (take_at x (c ∷ (d ++ z)) (length x) refl) (IsUtf8-take (x ++ (c ∷ (d ++ z))) (length x) whole here)

-- and behind one
pub behind_text : (x y : List ℕ) → IsUtf8 x → IsUtf8 (x ++ y) → IsUtf8 y
behind_text x y u whole =
    let n = length-append x y in
    let seam = IsCharBoundary-from_take (x ++ y) (length x) whole (omega (arith, n)) (subst IsUtf8 (sym (take_at x y (length x) refl)) u) in
    subst IsUtf8 (drop_at x y (length x) refl) (IsUtf8-drop (x ++ y) (length x) whole seam)

parts_text : (delim : List ℕ) → IsGiven delim → IsUtf8 delim → (ps : List (List ℕ)) → IsUtf8 (joined delim ps) → AllByRecursion IsUtf8 ps
parts_text delim given u [] whole = tt
parts_text delim given u (p ∷ []) whole = (whole, tt)
parts_text delim given u (p ∷ q ∷ ps) whole =
    let first = before_text p delim (joined delim (q ∷ ps)) given u whole in
    let rest = behind_text delim (joined delim (q ∷ ps)) u (behind_text p (delim ++ joined delim (q ∷ ps)) first whole) in
    (first, parts_text delim given u (q ∷ ps) rest)

pub join_parts_text : (delim : List ℕ) (ps : List (List ℕ)) (s : List ℕ) → IsGiven delim → IsUtf8 delim → join delim ps ≡ Some s → IsUtf8 s → AllByRecursion IsUtf8 ps
join_parts_text delim ps s given u e whole =
    let x = true_from (same_places (places 0 delim (joined delim ps)) (joints 0 delim ps)) (joined delim ps) s e in
    parts_text delim given u ps (subst IsUtf8 (sym x.1) whole)

pairs_text : (inner : List ℕ) → IsGiven inner → IsUtf8 inner → (ps : List (List ℕ × List ℕ)) → AllByRecursion IsUtf8 (map (pair_text inner) ps) → ArePairs ps
pairs_text inner given u [] all = tt
pairs_text inner given u (p ∷ ps) all =
    let first = before_text p.0 inner p.1 given u all.0 in
    ((first, behind_text inner p.1 u (behind_text p.0 (inner ++ p.1) first all.0)), pairs_text inner given u ps all.1)

pub join_pairs_text : (inner entry : List ℕ) (ps : List (List ℕ × List ℕ)) (s : List ℕ) → IsGiven inner → IsGiven entry → IsUtf8 inner → IsUtf8 entry
    → join_pairs inner entry ps ≡ Some s → IsUtf8 s → ArePairs ps
join_pairs_text inner entry ps s given more i u e whole =
    let x = if_from (list_all (is_parted inner) ps) (join entry (map (pair_text inner) ps)) s e in
    pairs_text inner given i ps (join_parts_text entry (map (pair_text inner) ps) s more u x.1 whole)
