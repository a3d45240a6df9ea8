-- The segments of a path, and the parts of a line, one after another.
use Rattle.std.proofs.Common.{◌≡◌, ℕ, ◌<◌, List, [], ◌∷◌, ◌++◌, length, get_or, Bool, true, false, not, Option, Some, None, option_map, Err, map, refl, sym, ap, ◌∙◌, append_assoc, arith}
use Rattle.std.specs.List.{slice_split, before_first, after_first, position_or_len}
use Rattle.std.proofs.lemmas.List.Splits.{slice_split_first, slice_split_none}
use Rattle.std.proofs.lemmas.List.Sums.{prefix_len_passes}
use Rattle.ild_script.specs.declared.error.LineErr.{LineErr}
use Rattle.ild_script.specs.declared.error.LineErr.TheVariants as E
use Rattle.ild_script.specs.Reads.{ReadsSo}
use Rattle.ild_script.specs.Escape.{unescaped}
use Rattle.ild_script.specs.Path.{is_slash, all_some, segments_of}

not_true : (b : Bool) → not b ≡ true → b ≡ false
not_true true e = absurd cc
not_true false e = refl

-- a list with no element that passes is one part
pub one_part : {X : Type 0} (p : X → Bool) (xs : List X) → position_or_len p xs ≡ length xs → slice_split p xs ≡ xs ∷ []
one_part p xs is = slice_split_none p xs (λ k d lt. not_true (p (get_or xs k d)) (prefix_len_passes (λ x. not (p x)) xs k d (omega arith)))

onto_none : (r : Option (List (List ℕ))) → r ≡ option_map (λ xs. [] ++ xs) r
onto_none None = refl
onto_none (Some xs) = refl

onto_one : (xs : List (List ℕ)) (s : List ℕ) (r : Option (List (List ℕ))) → option_map (λ ys. xs ++ ys) (option_map (λ ys. s ∷ ys) r) ≡ option_map (λ ys. (xs ++ s ∷ []) ++ ys) r
onto_one xs s None = refl
onto_one xs s (Some ys) = ap Some (sym (append_assoc xs (s ∷ []) ys))

-- the segments so far, and what is still to read of a path
abbrev pub SoFar : List ℕ → List (List ℕ) → List ℕ → Type 0
SoFar text path rest = segments_of text ≡ option_map (λ ys. path ++ ys) (segments_of rest)

pub so_far_start : (text : List ℕ) → SoFar text [] text
so_far_start text = onto_none (segments_of text)

cut : (rest segment after : List ℕ) → position_or_len is_slash rest < length rest → segment ≡ before_first is_slash rest → after ≡ after_first is_slash rest
    → segments_of rest ≡ all_some (unescaped segment ∷ map unescaped (slice_split is_slash after))
cut rest segment after lt front back = rw (front, back) (ap (λ ps. all_some (map unescaped ps)) (slice_split_first is_slash rest 0 lt))

pub so_far_more : (text : List ℕ) (path : List (List ℕ)) (rest segment after s : List ℕ) → SoFar text path rest → position_or_len is_slash rest < length rest
    → segment ≡ before_first is_slash rest → after ≡ after_first is_slash rest → unescaped segment ≡ Some s → SoFar text (path ++ s ∷ []) after
so_far_more text path rest segment after s so lt front back read =
    so ∙ ap (option_map (λ ys. path ++ ys)) (cut rest segment after lt front back ∙ ap (λ o. all_some (o ∷ map unescaped (slice_split is_slash after))) read) ∙ onto_one path s (segments_of after)

pub so_far_stop : (text : List ℕ) (path : List (List ℕ)) (rest segment after : List ℕ) → SoFar text path rest → position_or_len is_slash rest < length rest
    → segment ≡ before_first is_slash rest → after ≡ after_first is_slash rest → unescaped segment ≡ None → segments_of text ≡ None
so_far_stop text path rest segment after so lt front back read =
    so ∙ ap (option_map (λ ys. path ++ ys)) (cut rest segment after lt front back ∙ ap (λ o. all_some (o ∷ map unescaped (slice_split is_slash after))) read)

pub so_far_last : (text : List ℕ) (path : List (List ℕ)) (rest : List ℕ) (r : Option (List ℕ)) → SoFar text path rest → position_or_len is_slash rest ≡ length rest → unescaped rest ≡ r
    → segments_of text ≡ option_map (λ ys. path ++ ys) (all_some (r ∷ []))
so_far_last text path rest r so is read =
    so ∙ ap (option_map (λ ys. path ++ ys)) (ap (λ ps. all_some (map unescaped ps)) (one_part is_slash rest is) ∙ ap (λ o. all_some (o ∷ [])) read)

-- where a segment is refused, so is the path
pub refused : {A : Type 0} (e : LineErr) (r : Option A) (s : Option (List (List ℕ))) → ReadsSo {A = A} {B = A} (λ t. t) (Err e) r → (r ≡ None → s ≡ None) → ReadsSo {A = List (List ℕ)} {B = List (List ℕ)} (λ p. p) (Err e) s
refused E.Line r s found stop = stop found
refused E.Memory r s found stop = tt
