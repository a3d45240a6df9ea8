-- How many blocks stand in an order.
use Rattle.std.proofs.Common.{◌≡◌, ◌≢◌, inl, inr, ⊎_elim, ℕ, suc, ◌≤◌, List, [], ◌∷◌, ◌++◌, length, true, false, nat_eq, refl, sym, ap, ◌∙◌, arith}
use Rattle.std.proofs.lemmas.Bool.{eq-eqb, or_parts}
use Rattle.std.proofs.lemmas.Option.{same_Some}
use Rattle.ild_data.specs.Spell.{id_of}
use Rattle.ild_edges.specs.Among.{IsIn}
use Rattle.ild_dirty.specs.Own.{index_at}
use Rattle.ild_dirty.specs.inside.Walk.{IsOwn, AreInside, own_block, is_in, Follows}
use Rattle.ild_dirty.proofs.Ordering.{is_in-more}

-- these items but one
pub record Without (b : List ℕ) (blocks : List (List ℕ)) : Type 0 where
  pub rest : List (List ℕ)
  pub one_less : length blocks ≡ suc (length rest)
  pub others : (c : List ℕ) → IsIn c blocks → c ≢ b → IsIn c rest

without : (b : List ℕ) (blocks : List (List ℕ)) → IsIn b blocks → Without b blocks
without b [] is = absurd is
without b (c ∷ blocks) (inl same) = record { rest = blocks; one_less = refl; others = λ d is apart. ⊎_elim (λ e. absurd (apart (e ∙ sym same))) (λ more. more) is }
without b (c ∷ blocks) (inr more) =
    let w : Without b blocks = without b blocks more in
    record { rest = c ∷ w.rest; one_less = ap suc w.one_less; others = λ d is apart. ⊎_elim (λ e. inl e) (λ there. inr (w.others d there apart)) is }

-- blocks of the batch's own with one text have one number
same_number : (own : List (List ℕ)) (i j : ℕ) → IsOwn own i → IsOwn own j → own_block own i ≡ own_block own j → i ≡ j
same_number own i j first last same = same_Some i j (sym first.found ∙ ap (λ (b : List ℕ). index_at own (id_of b)) same ∙ last.found)

-- an order in which each block stands once is no longer than a list that has its blocks
pub fits_in : (own : List (List ℕ)) (children : ℕ → List ℕ → List (List ℕ × ℕ)) (spots : List (ℕ × ℕ)) (before order : List ℕ) (blocks : List (List ℕ)) → AreInside own spots → Follows own children spots before order
    → ((j k : ℕ) → IsIn (j, k) spots → is_in j before ≡ false → IsIn (own_block own j) blocks) → length order ≤ length blocks
fits_in own children spots before [] blocks inside follows each = omega arith
fits_in own children spots before (i ∷ order) blocks inside follows each =
    let w : Without (own_block own i) blocks = without (own_block own i) blocks (each i follows.1.kind follows.1.reached follows.0) in
    let more : length order ≤ length w.rest = fits_in own children spots (before ++ i ∷ []) order w.rest inside follows.2 (λ j k reached free.
    let both : (is_in j before ≡ false) × (nat_eq i j ≡ false) = or_parts (is_in j before) (nat_eq i j) (sym (is_in-more j before i) ∙ free) in
    w.others (own_block own j) (each j k reached both.0) (λ same.
    let one : i ≡ j = same_number own i j (inside (i, follows.1.kind) follows.1.reached) (inside (j, k) reached) (sym same) in
    absurd (let bad : true ≡ false = sym (eq-eqb i j one) ∙ both.1 in cc))) in
    omega (arith, w.one_less, more)
