-- The first line of a script, and what is left.
use Rattle.std.proofs.Common.{◌≡◌, ℕ, ◌+◌, ◌-◌, ◌<◌, ◌≤◌, List, [], ◌∷◌, length, get_or, length-drop, take, drop, Bool, true, false, cond, not, Some, None, ltb, refl, arith}
use Rattle.std.specs.List.{position, position_or_len}
use Rattle.std.proofs.lemmas.List.Splits.{slice_split_first, slice_split_none}
use Rattle.std.proofs.lemmas.List.{take_all}
use Rattle.std.proofs.lemmas.List.Sums.{prefix_len_passes}
use Rattle.std.proofs.lemmas.Bool.Decides.{nat_tests}
use Rattle.ild_script.specs.Line.{lines_of, is_feed}

at_some : (n m i : ℕ) → Some i ≡ cond (ltb n m) (Some n) None → (n < m) × (i ≡ n)
at_some n m i e = grind (arith, nat_tests)

at_none : (n m : ℕ) → None ≡ cond (ltb n m) (Some n) None → m ≤ n
at_none n m e = grind (arith, nat_tests)

pub cut_some : (bs : List ℕ) (i : ℕ) → Some i ≡ position is_feed bs → lines_of bs ≡ take i bs ∷ lines_of (take (length bs - (i + 1)) (drop (i + 1) bs))
cut_some bs i e =
    let at = at_some (position_or_len is_feed bs) (length bs) i e in
    let rest : take (length bs - (i + 1)) (drop (i + 1) bs) ≡ drop (i + 1) bs = take_all (length bs - (i + 1)) (drop (i + 1) bs) (omega (arith, length-drop (i + 1) bs)) in
    rw (rest, at.1) (slice_split_first is_feed bs 0 at.0)

not_true : (b : Bool) → not b ≡ true → b ≡ false
not_true true e = absurd cc
not_true false e = refl

pub cut_none : (bs : List ℕ) → None ≡ position is_feed bs → lines_of bs ≡ bs ∷ []
cut_none bs e =
    let past : length bs ≤ position_or_len is_feed bs = at_none (position_or_len is_feed bs) (length bs) e in
    slice_split_none is_feed bs (λ k d lt. not_true (is_feed (get_or bs k d)) (prefix_len_passes (λ x. not (is_feed x)) bs k d (omega arith)))
