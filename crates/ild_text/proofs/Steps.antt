-- The first part of a cut, and what is left behind it.
use Rattle.std.proofs.Common.{◌≡◌, ℕ, zero, suc, ◌+◌, ◌-◌, ◌<◌, ◌≤◌, Bool, true, false, cond, List, [], ◌∷◌, ◌++◌, length, take, drop, refl, ap, sym, ◌∙◌, arith}
use denote.Ref.{Bor}
use Rattle.std.specs.Str.Pattern.{FindsText}
use Rattle.std.specs.Prelude.{MatchOption, option_map, Option, Some, None}
use Rattle.std.proofs.lemmas.List.{take-append-drop, take_at}
use Rattle.std.proofs.lemmas.Bool.{cond-true, cond-false}
use Rattle.ild_schema.specs.Joins.{Occurs, pair_text}
use Rattle.ild_text.specs.Cut.{begins, onto, cut_behind, cut, halves}
use Rattle.ild_text.proofs.Begins.{begins_here, begins_true, begins_false, begins_not, occurs_inside, occurs_split}

cut_here : (d : List ℕ) (b : ℕ) (bs : List ℕ) → Occurs d (b ∷ bs) 0 → cut d (b ∷ bs) ≡ [] ∷ cut_behind d (length d - 1) bs
cut_here d b bs h = cond-true (begins d (b ∷ bs)) ([] ∷ cut_behind d (length d - 1) bs) (onto b (cut d bs)) (begins_true d (b ∷ bs) h)

cut_pass : (d : List ℕ) (b : ℕ) (bs : List ℕ) → (Occurs d (b ∷ bs) 0 → ⊥) → cut d (b ∷ bs) ≡ onto b (cut d bs)
cut_pass d b bs h = cond-false (begins d (b ∷ bs)) ([] ∷ cut_behind d (length d - 1) bs) (onto b (cut d bs)) (begins_false d (b ∷ bs) h)

cut_skips : (d bs : List ℕ) (k : ℕ) → cut_behind d k bs ≡ cut d (drop k bs)
cut_skips d [] zero = refl
cut_skips d [] (suc k) = refl
cut_skips d (b ∷ bs) zero = refl
cut_skips d (b ∷ bs) (suc k) = cut_skips d bs k

-- where a text is cut in two, the first part of a cut ends
halves_here : (d : List ℕ) (b : ℕ) (bs : List ℕ) → Occurs d (b ∷ bs) 0 → halves d (b ∷ bs) ≡ Some ([], drop (length d) (b ∷ bs))
halves_here d b bs h = cond-true (begins d (b ∷ bs)) (Some ([], drop (length d) (b ∷ bs))) (option_map (λ (h : List ℕ × List ℕ). (b ∷ h.0, h.1)) (halves d bs)) (begins_true d (b ∷ bs) h)

halves_pass : (d : List ℕ) (b : ℕ) (bs : List ℕ) → (Occurs d (b ∷ bs) 0 → ⊥) → halves d (b ∷ bs) ≡ option_map (λ (h : List ℕ × List ℕ). (b ∷ h.0, h.1)) (halves d bs)
halves_pass d b bs h = cond-false (begins d (b ∷ bs)) (Some ([], drop (length d) (b ∷ bs))) (option_map (λ (h : List ℕ × List ℕ). (b ∷ h.0, h.1)) (halves d bs)) (begins_false d (b ∷ bs) h)

more : (d : List ℕ) → 0 < length d → suc (length d - 1) ≡ length d
more d one = omega arith

-- what a cut in two says of a text: the delimiter doesn't occur, or it occurs first behind the first half
pub record Halved (d bs : List ℕ) (h : List ℕ × List ℕ) : Type 0 where
  pub whole : bs ≡ pair_text d h
  pub first : (at : ℕ) → Occurs d bs at → length h.0 ≤ at
  pub parts : cut d bs ≡ h.0 ∷ cut d h.1

pub record Whole (d bs : List ℕ) : Type 0 where
  pub none : (at : ℕ) → Occurs d bs at → ⊥
  pub part : cut d bs ≡ bs ∷ []

abbrev pub Parted : List ℕ → List ℕ → Option (List ℕ × List ℕ) → Type 0
Parted d bs o = MatchOption o (Whole d bs) (Halved d bs)

parted_here : (d : List ℕ) (b : ℕ) (bs : List ℕ) → 0 < length d → Occurs d (b ∷ bs) 0 → Halved d (b ∷ bs) ([], drop (length d) (b ∷ bs))
parted_here d b bs some o = record {
  whole = sym (take-append-drop (length d) (b ∷ bs)) ∙ ap (λ xs. xs ++ drop (length d) (b ∷ bs)) o;
  first = λ at h. omega arith;
  parts = cut_here d b bs o ∙ ap (λ ps. [] ∷ ps) (cut_skips d bs (length d - 1) ∙ ap (λ n. cut d (drop n (b ∷ bs))) (more d some));
}

parted_pass : (d : List ℕ) (b : ℕ) (bs : List ℕ) → (Occurs d (b ∷ bs) 0 → ⊥) → (o : Option (List ℕ × List ℕ)) → Parted d bs o → Parted d (b ∷ bs) (option_map (λ (h : List ℕ × List ℕ). (b ∷ h.0, h.1)) o)
parted_pass d b bs unlike None p = record {
  none = none;
  part = cut_pass d b bs unlike ∙ ap (onto b) p.part;
} where
  none : (at : ℕ) → Occurs d (b ∷ bs) at → ⊥
  none zero h = unlike h
  none (suc at) h = p.none at h
parted_pass d b bs unlike (Some h) p = record {
  whole = ap (λ xs. b ∷ xs) p.whole;
  first = first;
  parts = cut_pass d b bs unlike ∙ ap (onto b) p.parts;
} where
  first : (at : ℕ) → Occurs d (b ∷ bs) at → length (b ∷ h.0) ≤ at
  first zero o = absurd (unlike o)
  first (suc at) o = omega (arith, p.first at o)

parted_by : (d : List ℕ) (b : ℕ) (bs : List ℕ) (v : Bool) → begins d (b ∷ bs) ≡ v → 0 < length d → Parted d bs (halves d bs) → Parted d (b ∷ bs) (cond v (Some ([], drop (length d) (b ∷ bs))) (option_map (λ (h : List ℕ × List ℕ). (b ∷ h.0, h.1)) (halves d bs)))
parted_by d b bs true is some p = parted_here d b bs some (begins_here d (b ∷ bs) is)
parted_by d b bs false is some p = parted_pass d b bs (begins_not d (b ∷ bs) is) (halves d bs) p

pub parted : (d bs : List ℕ) → 0 < length d → Parted d bs (halves d bs)
parted d [] some = record {
  none = λ at o. absurd (omega (arith, occurs_inside d [] at some o));
  part = refl;
}
parted d (b ∷ bs) some = parted_by d b bs (begins d (b ∷ bs)) refl some (parted d bs some)

-- the first occurrence is where a text is cut in two
pub halves_first : (d bs : List ℕ) (i : ℕ) → 0 < length d → Occurs d bs i → ((j : ℕ) → j < i → Occurs d bs j → ⊥) → halves d bs ≡ Some (take i bs, drop (i + length d) bs)
halves_first d [] i some h before = absurd (omega (arith, occurs_inside d [] i some h))
halves_first d (b ∷ bs) zero some h before = halves_here d b bs h ∙ ap (λ n. Some ([], drop n (b ∷ bs))) (omega arith)
halves_first d (b ∷ bs) (suc i) some h before =
    halves_pass d b bs (before 0 (omega arith))
    ∙ ap (option_map (λ (h : List ℕ × List ℕ). (b ∷ h.0, h.1))) (halves_first d bs i some h (λ j lt o. before (suc j) (omega arith) o))
    ∙ ap (λ n. Some (b ∷ take i bs, drop n (b ∷ bs))) (next i (length d))
  where
    next : (m n : ℕ) → suc (m + n) ≡ suc m + n
    next m n = omega arith

pub halves_none : (d bs : List ℕ) → ((j : ℕ) → Occurs d bs j → ⊥) → halves d bs ≡ None
halves_none d [] none = refl
halves_none d (b ∷ bs) none = halves_pass d b bs (none 0) ∙ ap (option_map (λ (h : List ℕ × List ℕ). (b ∷ h.0, h.1))) (halves_none d bs (λ j o. none (suc j) o))

-- what `split_once` says of the halves
abbrev pub IsSplit : List ℕ → List ℕ → Option (Bor (List ℕ) × Bor (List ℕ)) → Type 0
IsSplit d bs r = MatchOption r (FindsText d bs None) (λ x. (i : ℕ) × (j : ℕ) × FindsText d bs (Some (i, j)) × (x.0.now ≡ take i bs) × (x.1.now ≡ drop j bs) × (i ≤ j) × (length x.0.now ≡ i) × (length x.1.now + j ≡ length bs))

pub halves_from : (d bs : List ℕ) (r : Option (Bor (List ℕ) × Bor (List ℕ))) → 0 < length d → IsSplit d bs r → option_map (λ (h : Bor (List ℕ) × Bor (List ℕ)). (h.0.now, h.1.now)) r ≡ halves d bs
halves_from d bs None some h = sym (halves_none d bs (λ j o. h j (omega (arith, occurs_inside d bs j some o)) (drop (j + length d) bs) (occurs_split d bs j o)))
halves_from d bs (Some x) some h =
    let before = λ (k : ℕ). λ (lt : k < h.0). λ (o : Occurs d bs k). h.2.0 k lt (drop (k + length d) bs) (occurs_split d bs k o) in
    let here : Occurs d bs h.0 = ap (take (length d)) h.2.1.split ∙ take_at d (drop h.1 bs) (length d) refl in
    ap Some (λ k. (h.3 k, h.4 k)) ∙ ap (λ n. Some (take h.0 bs, drop n bs)) h.2.1.ends ∙ sym (halves_first d bs h.0 some here before)
