-- The first part and the first entry of a text, and what is left behind them.
use Rattle.std.proofs.Common.{◌≡◌, ℕ, ◌<◌, true, List, [], ◌∷◌, Some, None, length, is_some, refl, ap, sym, ◌∙◌, subst, arith}
use Rattle.std.proofs.lemmas.Bool.{and_parts}
use Rattle.ild_text.specs.Cut.{cut, halves}
use Rattle.ild_text.specs.Pairs.{entries, are_keyed}
use Rattle.ild_text.proofs.Steps.{Parted, Halved, Whole, parted}

pub first_part : (d t front back : List ℕ) → 0 < length d → Some (front, back) ≡ halves d t → cut d t ≡ front ∷ cut d back
first_part d t front back some is = let p : Halved d t (front, back) = subst (Parted d t) (sym is) (parted d t some) in p.parts

pub only_part : (d t : List ℕ) → 0 < length d → None ≡ halves d t → cut d t ≡ t ∷ []
only_part d t some is = let p : Whole d t = subst (Parted d t) (sym is) (parted d t some) in p.part

entries_cut : (e t : List ℕ) → 0 < length t → entries e t ≡ cut e t
entries_cut e [] some = absurd (omega (arith, some))
entries_cut e (b ∷ bs) some = refl

-- what stands behind a delimiter is no empty entry, since that would have no key
behind_keyed : (i e back : List ℕ) → are_keyed i (cut e back) ≡ true → cut e back ≡ entries e back
behind_keyed i e [] keyed = let h = (and_parts (is_some (halves i [])) true keyed).0 in absurd cc
behind_keyed i e (b ∷ bs) keyed = refl

pub first_of_entries : (i e t front back : List ℕ) → 0 < length e → Some (front, back) ≡ halves e t → 0 < length t → are_keyed i (entries e t) ≡ true → entries e t ≡ front ∷ entries e back
first_of_entries i e t front back some is there keyed =
    let p = first_part e t front back some is in
    let all = sym (ap (are_keyed i) (entries_cut e t there ∙ p)) ∙ keyed in
    entries_cut e t there ∙ p ∙ ap (λ (es : List (List ℕ)). front ∷ es) (behind_keyed i e back (and_parts (is_some (halves i front)) (are_keyed i (cut e back)) all).1)

pub only_entry : (e t : List ℕ) → 0 < length e → None ≡ halves e t → 0 < length t → entries e t ≡ t ∷ []
only_entry e t some is there = entries_cut e t there ∙ only_part e t some is
