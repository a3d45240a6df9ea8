-- Segments that are indices.
use Rattle.std.proofs.Common.{◌≡◌, ◌≤◌, ◌+◌, ◌*◌, ◌-◌, ◌^◌, ℕ, List, [], ◌∷◌, Bool, true, false, cond, length, get_or, Some, None, sym, ◌∙◌, ap, arith}
use Rattle.std.specs.Prelude.{decimal}
use Rattle.std.proofs.lemmas.Option.{same_Some, none-some}
use Rattle.ild_data.specs.Key.{same_text}
use Rattle.ild_data.specs.Decimal.{digits_value}
use Rattle.ild_typed.specs.Segment.{index_of}

pub index_found : (s : List ℕ) (n : ℕ) → n ≡ digits_value 0 s → same_text s (decimal n) ≡ true → index_of s ≡ Some n
unfolding index_of
index_found s n e same = ap (λ (k : ℕ). cond (same_text s (decimal k)) (Some k) None) (sym e) ∙ ap (λ b. cond b (Some n) None) same

pub index_other : (s : List ℕ) (n : ℕ) → n ≡ digits_value 0 s → same_text s (decimal n) ≡ false → (i : ℕ) → index_of s ≡ Some i → 2 ^ 64 ≤ i
unfolding index_of
index_other s n e other i h =
    let none : index_of s ≡ None = ap (λ (k : ℕ). cond (same_text s (decimal k)) (Some k) None) (sym e) ∙ ap (λ b. cond b (Some n) None) other in
    absurd (none-some i (sym none ∙ h))

pub index_large : (s : List ℕ) → 2 ^ 64 ≤ digits_value 0 s → (i : ℕ) → index_of s ≡ Some i → 2 ^ 64 ≤ i
unfolding index_of
index_large s large i h = by (same_text s (decimal (digits_value 0 s))) h where
  by : (b : Bool) → cond b (Some (digits_value 0 s)) None ≡ Some i → 2 ^ 64 ≤ i
  by true e = let same : digits_value 0 s ≡ i = same_Some (digits_value 0 s) i e in omega (arith, large, same)
  by false e = absurd (none-some i e)

-- the segment at a place of a path
pub segment_at : (all path : List (List ℕ)) (k : ℕ) (x y : List ℕ) → x ≡ y → y ≡ get_or all k y → all ≡ path → x ≡ get_or path k x
segment_at all path k x y same is whole = same ∙ is ∙ ap (λ (zs : List (List ℕ)). get_or zs k y) whole ∙ ap (get_or path k) (sym same)
