-- An index is the decimal of a number, and each number of 64 bits is one.
use Rattle.std.proofs.Common.{◌≡◌, ℕ, ◌^◌, ◌<◌, Bool, true, false, List, Some, None, cond, ap, refl, ◌∙◌, rules}
use Rattle.std.specs.Prelude.{decimal}
use Rattle.std.specs.Str.{all_ascii_digits}
use Rattle.std.proofs.lemmas.Str.Parse.{IsNumeralModel, numerals_by_fold}
use Rattle.std.proofs.lemmas.Fmt.{digits_value-decimal}
use Rattle.ild_data.specs.Key.{same_text}
use Rattle.ild_data.proofs.Rising.{agrees, key_equal}
use Rattle.std.specs.Cmp.Lexicographic.{same_text as text_same}
use Rattle.std.proofs.lemmas.Option.{same_Some, none-some}
use Rattle.ild_typed.specs.AtLaws.{IndicesAreDecimals}
use Rattle.ild_data.specs.Decimal.{digits_value}
use Rattle.ild_typed.specs.Segment.{index_of}

pub own_text : (k : List ℕ) → same_text k k ≡ true
own_text k = agrees k k (same_text k k) refl (key_equal k)

-- a segment that is an index is its decimal
index_is_by : (s : List ℕ) (n i : ℕ) (b : Bool) → b ≡ same_text s (decimal n) → cond b (Some n) None ≡ Some i → s ≡ decimal i
index_is_by s n i true e h = text_same s (decimal n) e ∙ ap decimal (same_Some n i h)
index_is_by s n i false e h = absurd (none-some i h)

pub index-is : (s : List ℕ) (i : ℕ) → index_of s ≡ Some i → s ≡ decimal i
unfolding index_of
index-is s i h = index_is_by s (digits_value 0 s) i (same_text s (decimal (digits_value 0 s))) refl h

own : IsNumeralModel (λ ds. all_ascii_digits ds ≡ true) (digits_value 0)
own = numerals_by_fold _ (search rules) digits_value (search rules)

decimal_is : (i : ℕ) → i < 2 ^ 64 → index_of (decimal i) ≡ Some i
unfolding index_of
decimal_is i small =
    let e : digits_value 0 (decimal i) ≡ i = digits_value-decimal own i small in
    ap (λ (n : ℕ). cond (same_text (decimal i) (decimal n)) (Some n) None) e ∙ ap (λ b. cond b (Some i) None) (own_text (decimal i))

pub decimals : IndicesAreDecimals
decimals s i = (λ h. index-is s i h, λ small h. ap index_of h ∙ decimal_is i small)
