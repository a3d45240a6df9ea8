-- Parts that are read one after the other: all, where each can be read.
use Rattle.std.proofs.Common.{◌≡◌, ℕ, ◌+◌, ◌<◌, ◌≤◌, List, [], ◌∷◌, ◌++◌, length, take, get_or, Option, Some, sym, ap, ◌∙◌, add-one}
use Rattle.std.specs.Prelude.{option_map}
use Rattle.std.proofs.Math.Seq.{take-suc}
use Rattle.std.proofs.lemmas.List.{take_all}
use Rattle.std.proofs.lemmas.Option.{same_Some}
use Rattle.ild_typed.specs.Strings.{cons_both}
use Rattle.ild_typed.proofs.Entries.{both_from}

abbrev pub all_of : {A B : Type 0} → (A → Option B) → List A → Option (List B)
all_of f [] = Some []
all_of f (x ∷ xs) = cons_both (f x) (all_of f xs)

all_more : {A B : Type 0} (f : A → Option B) (xs : List A) (ys : List B) (x : A) (y : B) → all_of f xs ≡ Some ys → f x ≡ Some y → all_of f (xs ++ x ∷ []) ≡ Some (ys ++ y ∷ [])
all_more {A} {B} f [] ys x y h e = ap (λ o. cons_both o (Some [])) e ∙ ap (λ (zs : List B). Some (zs ++ y ∷ [])) (same_Some [] ys h)
all_more {A} {B} f (z ∷ xs) ys x y h e =
    let b = both_from (f z) (all_of f xs) ys h in
    ap (λ o. cons_both o (all_of f (xs ++ x ∷ []))) b.first ∙ ap (option_map (λ zs. b.item ∷ zs)) (all_more f xs b.items x y b.rest e) ∙ ap (λ (zs : List B). Some (zs ++ y ∷ [])) b.all

-- one part more
pub all_next : {A B : Type 0} (f : A → Option B) (xs : List A) (x : A) (y : B) (ys zs : List B) → all_of f xs ≡ Some ys → f x ≡ Some y → zs ≡ ys ++ y ∷ [] → all_of f (xs ++ x ∷ []) ≡ Some zs
all_next f xs x y ys zs h e more = all_more f xs ys x y h e ∙ ap Some (sym more)

-- the same of a slice
pub all_step : {A B : Type 0} (f : A → Option B) (xs : List A) (i : ℕ) (x : A) (y : B) (ys zs : List B) → i < length xs → x ≡ get_or xs i x → all_of f (take i xs) ≡ Some ys → f x ≡ Some y → zs ≡ ys ++ y ∷ []
    → all_of f (take (i + 1) xs) ≡ Some zs
all_step f xs i x y ys zs low is h e more =
    rw add-one (ap (all_of f) (take-suc xs i x low) ∙ ap (λ w. all_of f (take i xs ++ w ∷ [])) (sym is) ∙ all_more f (take i xs) ys x y h e ∙ ap Some (sym more))

pub all_whole : {A B : Type 0} (f : A → Option B) (xs : List A) (i : ℕ) (ys : List B) → length xs ≤ i → all_of f (take i xs) ≡ Some ys → all_of f xs ≡ Some ys
all_whole f xs i ys past h = ap (all_of f) (sym (take_all i xs past)) ∙ h
