-- Two lists of blocks in which each block stands as often have the same blocks.
use Rattle.std.proofs.Common.{◌≡◌, inl, inr, ℕ, suc, ◌≤◌, ◌<◌, Bool, true, false, cond, nat_lt, List, [], ◌∷◌, length, map, refl, sym, ap, ◌∙◌, subst, arith}
use Rattle.std.specs.Prelude.{Contains}
use Rattle.std.specs.List.{AllByRecursion, sum_by}
use Rattle.std.proofs.lemmas.List.Sums.{sum_by-cons}
use Rattle.std.specs.Cmp.Lexicographic.{same_text as text_same, nat_list_eq_equiv}
use Rattle.ild_data.specs.Key.{same_text}
use Rattle.ild_data.specs.Limits.{longest_block}
use Rattle.ild_edges.specs.Among.{IsIn}
use Rattle.ild_build_blocks.specs.inside.Planned.{AreAlike}
use Rattle.ild_build_entries.specs.Entries.{over}
use Rattle.ild_build_pass.proofs.Flow.{over_long, short_of}

-- ---- members

pub all_among : (P : List ℕ → Type 0) (xs : List (List ℕ)) → ((b : List ℕ) → IsIn b xs → P b) → AllByRecursion P xs
all_among P [] each = tt
all_among P (x ∷ xs) each = (each x (inl refl), all_among P xs (λ b is. each b (inr is)))

abbrev is_block : List ℕ → List ℕ → ℕ
is_block b x = cond (same_text b x) 1 0

counted : (b : List ℕ) (xs : List (List ℕ)) → IsIn b xs → 1 ≤ sum_by (is_block b) xs
counted b [] is = absurd is
counted b (x ∷ xs) (inl e) =
    let one : is_block b x ≡ 1 = ap (λ y. is_block b y) (sym e) ∙ ap (λ c. cond c 1 0) (nat_list_eq_equiv.refl b) in
    omega (arith, one, sum_by-cons {X = List ℕ} (is_block b) x xs)
counted b (x ∷ xs) (inr is) = let more = counted b xs is in omega (arith, more, sum_by-cons {X = List ℕ} (is_block b) x xs)

found : (b : List ℕ) (xs : List (List ℕ)) → 1 ≤ sum_by (is_block b) xs → IsIn b xs
found b [] h = absurd (omega (arith, h))
found b (x ∷ xs) h = by (λ k. found b xs k) (same_text b x) refl
  where
    by : (1 ≤ sum_by (is_block b) xs → IsIn b xs) → (c : Bool) → same_text b x ≡ c → IsIn b (x ∷ xs)
    by more true e = inl (text_same b x (sym e))
    by more false e = let none : is_block b x ≡ 0 = ap (λ c. cond c 1 0) e in inr (more (omega (arith, h, none, sum_by-cons {X = List ℕ} (is_block b) x xs)))

pub among_alike : (xs ys : List (List ℕ)) → AreAlike xs ys → (b : List ℕ) → IsIn b xs → IsIn b ys
among_alike xs ys same b is = let one = counted b xs is in let e = same (is_block b) in found b ys (omega (arith, one, e))

-- the image of a member is a member of the image, and each member of the image is one
image_of : (f : List ℕ → List ℕ) (b : List ℕ) (xs : List (List ℕ)) → IsIn b xs → IsIn (f b) (map f xs)
image_of f b [] is = absurd is
image_of f b (x ∷ xs) (inl e) = inl (ap f e)
image_of f b (x ∷ xs) (inr is) = inr (image_of f b xs is)

of_image : (f : List ℕ → List ℕ) (j : List ℕ) (xs : List (List ℕ)) → IsIn j (map f xs) → (b : List ℕ) × (j ≡ f b) × IsIn b xs
of_image f j [] is = absurd is
of_image f j (x ∷ xs) (inl e) = (x, e, inl refl)
of_image f j (x ∷ xs) (inr is) = let m = of_image f j xs is in (m.0, m.1, inr m.2)

pub images_alike : (f : List ℕ → List ℕ) (xs ys : List (List ℕ)) → AreAlike xs ys → (j : List ℕ) → IsIn j (map f xs) → IsIn j (map f ys)
images_alike f xs ys same j is =
    let m = of_image f j xs is in
    subst (λ i. IsIn i (map f ys)) (sym m.1) (image_of f m.0 ys (among_alike xs ys same m.0 m.2))

pub many_alike : (xs ys : List (List ℕ)) → AreAlike xs ys → length xs ≡ length ys
many_alike xs ys same = ones xs ∙ same (λ x. 1) ∙ sym (ones ys)
  where
    ones : (zs : List (List ℕ)) → length zs ≡ sum_by (λ x. 1) zs
    ones [] = refl
    ones (z ∷ zs) = let more = ones zs in omega (arith, more, sum_by-cons {X = List ℕ} (λ x. 1) z zs)

-- ---- blocks that are too long

pub record HasLong (xs : List (List ℕ)) : Type 0 where
  pub block : List ℕ
  pub among : IsIn block xs
  pub long : longest_block < length block

pub some_long : (xs : List (List ℕ)) → 1 ≤ sum_by over xs → HasLong xs
some_long [] h = absurd (omega (arith, h))
some_long (x ∷ xs) h = by (λ k. some_long xs k) (nat_lt longest_block (length x)) refl
  where
    by : (1 ≤ sum_by over xs → HasLong xs) → (c : Bool) → nat_lt longest_block (length x) ≡ c → HasLong (x ∷ xs)
    by rest true e = record { block = x; among = inl refl; long = over_long x e }
    by rest false e =
        let none : over x ≡ 0 = ap (λ c. cond c 1 0) e in
        let more = rest (omega (arith, h, none, sum_by-cons {X = List ℕ} over x xs)) in
        record { block = more.block; among = inr more.among; long = more.long }

pub all_short : (xs : List (List ℕ)) → sum_by over xs ≡ 0 → AllByRecursion (λ b. length b ≤ longest_block) xs
all_short [] h = tt
all_short (x ∷ xs) h = (short_of x (omega (arith, h, sum_by-cons {X = List ℕ} over x xs)), all_short xs (omega (arith, h, sum_by-cons {X = List ℕ} over x xs)))
