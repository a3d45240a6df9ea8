-- A list that is made anew, part by part, is a front of the list that it is made from.
use Rattle.std.proofs.Common.{◌≡◌, ℕ, zero, suc, ◌+◌, ◌<◌, List, [], ◌∷◌, ◌++◌, length, take, Some, None, refl, sym, ap, ◌∙◌, arith, add-one, length-append}
use Rattle.std.specs.Prelude.{slice_get}
use Rattle.std.proofs.lemmas.Option.{same_Some, none-some}
use Rattle.ild_data.proofs.Gets.{got_below}
use Rattle.ild_schema.specs.Value.{values_of, values_list, pairs_of, pairs_list, optionals_of, optionals_list, Values, no_values, value, Pairs, no_pairs, pair, Optionals, no_optionals, absent, present}

pub take_next : {A : Type 0} (xs : List A) (n : ℕ) (x : A) → slice_get xs n ≡ Some x → take (suc n) xs ≡ take n xs ++ x ∷ []
take_next [] n x e = absurd (none-some x e)
take_next (y ∷ xs) zero x e = ap (λ z. z ∷ []) (same_Some y x e)
take_next (y ∷ xs) (suc n) x e = ap (λ zs. y ∷ zs) (take_next xs n x e)

pub take_past : {A : Type 0} (xs : List A) (n : ℕ) → slice_get xs n ≡ None → take n xs ≡ xs
take_past [] zero e = refl
take_past [] (suc n) e = refl
take_past (y ∷ xs) zero e = absurd (none-some y (sym e))
take_past (y ∷ xs) (suc n) e = ap (λ zs. y ∷ zs) (take_past xs n e)

pub front_more : {A : Type 0} (xs ys zs : List A) (n : ℕ) (x y : A) → ys ≡ take (length ys) xs → n ≡ length ys → Some x ≡ slice_get xs n → y ≡ x → zs ≡ ys ++ y ∷ [] → zs ≡ take (length zs) xs
front_more xs ys zs n x y front at there same more =
    let count : length zs ≡ length ys + 1 = ap length more ∙ length-append ys (y ∷ []) in
    let next = take_next xs (length ys) x (ap (slice_get xs) (sym at) ∙ sym there) in
    more ∙ ap (λ z. ys ++ z ∷ []) same ∙ ap (λ ws. ws ++ x ∷ []) front ∙ sym next ∙ ap (λ m. take m xs) (sym (count ∙ add-one (length ys)))

pub front_all : {A : Type 0} (xs ys : List A) (n : ℕ) → ys ≡ take (length ys) xs → n ≡ length ys → None ≡ slice_get xs n → ys ≡ xs
front_all xs ys n front at past = front ∙ take_past xs (length ys) (ap (slice_get xs) (sym at) ∙ sym past)

pub front_less : {A B : Type 0} (xs : List A) (ys zs : List B) (n : ℕ) (x : A) (y : B) → n ≡ length ys → Some x ≡ slice_get xs n → zs ≡ ys ++ y ∷ [] → length ys < length xs × (length zs ≡ length ys + 1)
front_less xs ys zs n x y at there more =
    let h = got_below xs n x (sym there) in
    let count : length zs ≡ length ys + 1 = ap length more ∙ length-append ys (y ∷ []) in
    (omega arith, count)

pub values_of-values_list : (vs : Values) → values_of (values_list vs) ≡ vs
values_of-values_list no_values = refl
values_of-values_list (value v vs) = ap (value v) (values_of-values_list vs)

pub pairs_of-pairs_list : (ps : Pairs) → pairs_of (pairs_list ps) ≡ ps
pairs_of-pairs_list no_pairs = refl
pairs_of-pairs_list (pair k v ps) = ap (pair k v) (pairs_of-pairs_list ps)

pub optionals_of-optionals_list : (os : Optionals) → optionals_of (optionals_list os) ≡ os
optionals_of-optionals_list no_optionals = refl
optionals_of-optionals_list (absent os) = ap absent (optionals_of-optionals_list os)
optionals_of-optionals_list (present v os) = ap (present v) (optionals_of-optionals_list os)

pub same_values : (vs ws : Values) → values_list vs ≡ values_list ws → vs ≡ ws
same_values vs ws e = sym (values_of-values_list vs) ∙ ap values_of e ∙ values_of-values_list ws

pub same_pairs : (ps qs : Pairs) → pairs_list ps ≡ pairs_list qs → ps ≡ qs
same_pairs ps qs e = sym (pairs_of-pairs_list ps) ∙ ap pairs_of e ∙ pairs_of-pairs_list qs

pub same_optionals : (os ps : Optionals) → optionals_list os ≡ optionals_list ps → os ≡ ps
same_optionals os ps e = sym (optionals_of-optionals_list os) ∙ ap optionals_of e ∙ optionals_of-optionals_list ps
