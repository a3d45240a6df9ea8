-- A bit for each field.
use Rattle.std.proofs.Common.{◌≡◌, ℕ, ◌*◌, ◌/◌, ◌%◌, ◌^◌, ◌<◌, List, Bool, true, false, ◌||◌, refl, sym, ◌∙◌, ap, arith, length, replicate, get_or, set, get_or-set_same, get_or-set_other, w64}
use Rattle.std.specs.Prelude.{nat_eq, bit_or}
use Rattle.std.specs.Int.{bit_at}
use Rattle.std.proofs.lemmas.Bool.{eq-eqb, eqb-true}
use Rattle.std.proofs.lemmas.List.{get_or-replicate}
use Rattle.std.proofs.lemmas.Nat.Bits.{bit_at_set_same, bit_at_set_other, bit_at-zero}
use Rattle.ild_layer_fields.specs.Notes.{is_marked}
use Rattle.ild_layer_fields.proofs.Noting.{or_none, or_right}

-- words of which no bit is set
pub none_marked : (n i : ℕ) → i / 64 < n → is_marked (replicate n 0) i ≡ false
none_marked n i within = ap (λ x. nat_eq (bit_at x (i % 64)) 1) (get_or-replicate n (i / 64) 0 0 within) ∙ ap (λ x. nat_eq x 1) (bit_at-zero (i % 64))

-- words of which one more bit is set
pub marked_more : (words : List ℕ) (p : ℕ) → p / 64 < length words
    → (i : ℕ) → is_marked (set words (p / 64) (bit_or (get_or words (p / 64) 0) (1 * 2 ^ (p % 64) % 2 ^ 64))) i ≡ (is_marked words i || nat_eq i p)
marked_more words p within i = by (nat_eq i p) refl where
  more : ℕ
  more = bit_or (get_or words (p / 64) 0) (1 * 2 ^ (p % 64) % 2 ^ 64)

  bit : p % 64 < 64
  bit = omega arith

  other : nat_eq i p ≡ false → (b : Bool) → nat_eq (i / 64) (p / 64) ≡ b → is_marked (set words (p / 64) more) i ≡ is_marked words i
  other e true same =
      let at : i / 64 ≡ p / 64 = eqb-true (i / 64) (p / 64) same in
      let apart : i % 64 ≡ p % 64 → ⊥ = λ so. absurd (let bad : true ≡ false = sym (eq-eqb i p (omega (arith, at, so))) ∙ e in cc) in
      ap (λ k. nat_eq (bit_at (get_or (set words (p / 64) more) k 0) (i % 64)) 1) at
      ∙ ap (λ x. nat_eq (bit_at x (i % 64)) 1) (get_or-set_same words (p / 64) more 0 within)
      ∙ ap (λ b. nat_eq b 1) (bit_at_set_other w64 (get_or words (p / 64) 0) (p % 64) bit (i % 64) apart)
      ∙ ap (λ k. nat_eq (bit_at (get_or words k 0) (i % 64)) 1) (sym at)
  other e false apart =
      ap (λ x. nat_eq (bit_at x (i % 64)) 1)
      (get_or-set_other words (p / 64) (i / 64) more 0 (λ same. absurd (let bad : true ≡ false = sym (eq-eqb (i / 64) (p / 64) same) ∙ apart in cc)))

  by : (b : Bool) → nat_eq i p ≡ b → is_marked (set words (p / 64) more) i ≡ (is_marked words i || nat_eq i p)
  by true e =
      ap (λ j. is_marked (set words (p / 64) more) j) (eqb-true i p e)
      ∙ ap (λ x. nat_eq (bit_at x (p % 64)) 1) (get_or-set_same words (p / 64) more 0 within)
      ∙ ap (λ b. nat_eq b 1) (bit_at_set_same w64 (get_or words (p / 64) 0) (p % 64) bit)
      ∙ sym (ap (λ c. is_marked words i || c) e ∙ or_right (is_marked words i))
  by false e = other e (nat_eq (i / 64) (p / 64)) refl ∙ sym (ap (λ c. is_marked words i || c) e ∙ or_none (is_marked words i))
