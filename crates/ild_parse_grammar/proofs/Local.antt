-- Reading looks at no token behind the one that it stops at: with other tokens behind it, it stops there too.
use Rattle.std.proofs.Common.{◌≡◌, ℕ, List, [], ◌∷◌, ◌++◌, Result, Ok, Err, Option, Some, None, refl, sym, ap, subst, ◌∙◌, append_assoc}
use Rattle.ild_parse_grammar.specs.Sign.{Sign, place_of}
use Rattle.ild_parse_grammar.proofs.Stream.{Stream}
use Rattle.ild_parse_grammar.proofs.Complete.{reading}

-- none is left, or the same token comes next
abbrev pub Same : List Sign → List Sign → Type 0
Same [] [] = Unit {0}
Same [] (u ∷ us) = ⊥
Same (t ∷ ts) [] = ⊥
Same (t ∷ ts) (u ∷ us) = t ≡ u

-- it reads a part up to the tokens ys, or stops where the tokens `rest` are left
pub record Found {A : Type 0} (F : Stream → Result (A × Stream) ℕ) (end : ℕ) (xs : List Sign) : Type 0 where
  pub part : A
  pub front : List Sign
  pub rest : List Sign
  pub are : xs ≡ front ++ rest
  pub read : (zs : List Sign) → Same rest zs → F (reading end (front ++ zs)) ≡ Ok (part, reading end zs)

pub record Stops {A : Type 0} (F : Stream → Result (A × Stream) ℕ) (end : ℕ) (xs : List Sign) : Type 0 where
  pub front : List Sign
  pub rest : List Sign
  pub are : xs ≡ front ++ rest
  pub fails : (zs : List Sign) → Same rest zs → F (reading end (front ++ zs)) ≡ Err (place_of end rest)

-- ---- what is the same for the same next token

pub same_self : (xs : List Sign) → Same xs xs
same_self [] = tt
same_self (t ∷ xs) = refl

pub same_behind : (xs front ys zs : List Sign) → xs ≡ front ++ ys → Same ys zs → Same xs (front ++ zs)
same_behind xs [] ys zs e same = subst (λ (us : List Sign). Same us zs) (sym e) same
same_behind xs (t ∷ front) ys zs e same = subst (λ (us : List Sign). Same us (t ∷ (front ++ zs))) (sym e) refl

-- a value that the next token gives
abbrev pub IsNext : {V : Type 0} → (List Sign → V) → Type 0
IsNext see = (t : Sign) (us zs : List Sign) → see (t ∷ us) ≡ see (t ∷ zs)

pub see_same : {V : Type 0} (see : List Sign → V) → IsNext see → (xs zs : List Sign) → Same xs zs → see zs ≡ see xs
see_same see next [] [] same = refl
see_same see next [] (u ∷ us) same = absurd same
see_same see next (t ∷ ts) [] same = absurd same
see_same see next (t ∷ ts) (u ∷ us) same = subst (λ (v : Sign). see (v ∷ us) ≡ see (t ∷ ts)) same (next t us ts)

pub see_behind : {V : Type 0} (see : List Sign → V) → IsNext see → (xs front ys zs : List Sign) → xs ≡ front ++ ys → Same ys zs → see (front ++ zs) ≡ see xs
see_behind see next xs front ys zs e same = see_same see next xs (front ++ zs) (same_behind xs front ys zs e same)

pub joined : (xs front ys more us : List Sign) → xs ≡ front ++ ys → ys ≡ more ++ us → xs ≡ (front ++ more) ++ us
joined xs front ys more us e f = e ∙ ap (λ (v : List Sign). front ++ v) f ∙ sym (append_assoc front more us)

-- a token is read, or reading stops at it
abbrev pub token_read : {A : Type 0} → ℕ → Sign → List Sign → Option A → Result (A × Stream) ℕ
token_read end t us None = Err t.at
token_read end t us (Some a) = Ok (a, reading end us)
