-- What is cut from the left and joined again is the text of its parts.
use Rattle.std.proofs.Common.{◌≡◌, ℕ, zero, suc, ◌-◌, ◌≤◌, List, [], ◌∷◌, length, Bool, true, false, cond, Some, ap, ◌∙◌, arith}
use Rattle.ild_schema.specs.Clear.{IsGiven}
use Rattle.ild_schema.specs.Prefixes.{begins}
use Rattle.ild_typed.specs.Cuts.{begin_first, cut, pairs_in, parted}
use Rattle.ild_typed.specs.Texts.{join, join_pairs}
use Rattle.ild_typed.proofs.CleanTexts.{given_by, gives_it, pairs_join, parted_join}
use Rattle.ild_typed_splits.specs.Splits.{CutsAreSplits, CutsArePairs}

begun : (c : ℕ) (ps : List (List ℕ)) → 1 ≤ length (begin_first c ps)
begun c [] = omega arith
begun c (p ∷ ps) = omega arith

either : (b : Bool) (xs ys : List (List ℕ)) → 1 ≤ length xs → 1 ≤ length ys → 1 ≤ length (cond b xs ys)
either true xs ys a b = a
either false xs ys a b = b

some_cut : (past : ℕ) (delim text : List ℕ) → 1 ≤ length (cut past delim text)
some_cut zero delim [] = omega arith
some_cut (suc past) delim [] = omega arith
some_cut (suc past) delim (c ∷ s) = some_cut past delim s
some_cut zero delim (c ∷ s) =
    either (begins delim (c ∷ s)) ([] ∷ cut (length delim - 1) delim s) (begin_first c (cut 0 delim s)) (omega arith) (begun c (cut 0 delim s))

joined_again : (delim text : List ℕ) → IsGiven delim → (parts : List (List ℕ)) → 1 ≤ length parts → join delim parts ≡ Some text → join delim (parted delim text) ≡ Some text
joined_again delim text given [] some is = absurd (omega (arith, some))
joined_again delim text given (p ∷ ps) some is = ap (join delim) (parted_join delim given p ps text is) ∙ is

pub cuts_are_splits : CutsAreSplits
cuts_are_splits delim text given = (
  λ is. record { parts = parted delim text; some = some_cut 0 delim text; joined = given_by text (join delim (parted delim text)) is },
  λ has. gives_it text (join delim (parted delim text)) (joined_again delim text given has.parts has.some has.joined),
)

pub cuts_are_pairs : CutsArePairs
cuts_are_pairs inner entry text one two = (
  λ is. record { pairs = pairs_in inner entry text; joined = given_by text (join_pairs inner entry (pairs_in inner entry text)) is },
  λ has. gives_it text (join_pairs inner entry (pairs_in inner entry text)) (ap (join_pairs inner entry) (pairs_join inner entry one two has.pairs text has.joined) ∙ has.joined),
)
