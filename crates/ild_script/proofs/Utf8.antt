-- What is cut from a text of a line is a text.
use Rattle.std.proofs.Common.{◌≡◌, ℕ, zero, suc, ◌+◌, ◌<◌, ◌≤◌, List, [], ◌∷◌, ◌++◌, length, take, Bool, true, false, cond, not, eqb, Option, Some, None, option_map, refl, sym, ap, ◌∙◌, subst, arith, length-drop}
use Rattle.std.specs.Prelude.{IsUtf8}
use Rattle.std.specs.Str.{is_utf8}
use Rattle.std.specs.Str.Lossy.{valid_len_up_to, utf8_valid_len}
use Rattle.std.specs.List.{AllByRecursion, slice_split, before_first, after_first, position_or_len}
use Rattle.std.proofs.lemmas.Bool.Decides.{nat_tests}
use Rattle.std.proofs.lemmas.List.{take_all}
use Rattle.std.proofs.lemmas.List.Splits.{slice_split_first}
use Rattle.std.proofs.lemmas.List.Sums.{passes_at_first, prefix_len-le-length}
use Rattle.std.proofs.lemmas.Option.{same_Some}
use Rattle.std.proofs.lemmas.Str.{IsUtf8-take, IsUtf8-drop, IsUtf8-append, IsUtf8-from_ascii, IsUtf8-from_is_utf8, IsCharBoundary-before_ascii, IsCharBoundary-after_ascii}
use Rattle.std.proofs.lemmas.Str.Ascii.{IsAscii-cons, IsAscii-nil}
use Rattle.ild_script.specs.Escape.{escaped_byte, before, unescaped}
use Rattle.ild_script.proofs.Escapes.{is_tilde, no_tilde, cut_tilde, escaped_ascii}
use Rattle.ild_script.proofs.Segments.{one_part}

-- ---- a line that is valid to its end

valid_at_most : (bs : List ℕ) (n : ℕ) → valid_len_up_to bs n ≤ n
valid_at_most bs zero = omega arith
valid_at_most bs (suc n) = by (is_utf8 (take (suc n) bs)) (valid_at_most bs n)
  where
    by : (b : Bool) → valid_len_up_to bs n ≤ n → cond b (suc n) (valid_len_up_to bs n) ≤ suc n
    by true le = omega arith
    by false le = omega (arith, le)

valid_by : (bs : List ℕ) (n : ℕ) (b : Bool) → cond b (suc n) (valid_len_up_to bs n) ≡ suc n → b ≡ true
valid_by bs n true e = refl
valid_by bs n false e = absurd (let le = valid_at_most bs n in omega (arith, le, e))

pub valid_is_utf8 : (b : ℕ) (bs : List ℕ) → utf8_valid_len (b ∷ bs) ≡ length (b ∷ bs) → IsUtf8 (b ∷ bs)
unfolding utf8_valid_len
valid_is_utf8 b bs e =
    let whole : take (suc (length bs)) (b ∷ bs) ≡ b ∷ bs = take_all (suc (length bs)) (b ∷ bs) (omega arith) in
    IsUtf8-from_is_utf8 (b ∷ bs) (ap is_utf8 (sym whole) ∙ valid_by (b ∷ bs) (length bs) (is_utf8 (take (suc (length bs)) (b ∷ bs))) e)

-- ---- cut at a byte of ASCII

same_number : (a b : ℕ) → true ≡ eqb a b → a ≡ b
same_number a b e = grind (arith, nat_tests)

less_number : (a b : ℕ) → a ≤ b → false ≡ eqb a b → a < b
less_number a b le e = grind (arith, nat_tests)

module _ (p : ℕ → Bool) (low : (b : ℕ) → p b ≡ true → b < 128) where
  pub front_utf8 : (bs : List ℕ) → IsUtf8 bs → position_or_len p bs < length bs → IsUtf8 (before_first p bs)
  front_utf8 bs utf8 lt = IsUtf8-take bs (position_or_len p bs) utf8 (IsCharBoundary-before_ascii bs (position_or_len p bs) lt (low _ (passes_at_first p bs 0 lt)))

  pub back_utf8 : (bs : List ℕ) → IsUtf8 bs → position_or_len p bs < length bs → IsUtf8 (after_first p bs)
  back_utf8 bs utf8 lt = IsUtf8-drop bs (position_or_len p bs + 1) utf8 (IsCharBoundary-after_ascii bs (position_or_len p bs) utf8 lt (low _ (passes_at_first p bs 0 lt)))

  abbrev Splits : List ℕ → Type 0
  Splits bs = IsUtf8 bs → AllByRecursion IsUtf8 (slice_split p bs)

  split_by : (bs : List ℕ) (t : Bool) → t ≡ eqb (position_or_len p bs) (length bs) → ((rest : List ℕ) → length rest < length bs → Splits rest) → Splits bs
  split_by bs true e shorter utf8 = subst (λ (parts : List (List ℕ)). AllByRecursion IsUtf8 parts) (sym (one_part p bs (same_number (position_or_len p bs) (length bs) e))) (utf8, tt)
  split_by bs false e shorter utf8 =
      let lt : position_or_len p bs < length bs = less_number (position_or_len p bs) (length bs) (prefix_len-le-length (λ x. not (p x)) bs) e in
      let less : length (after_first p bs) < length bs = omega (arith, length-drop (position_or_len p bs + 1) bs, lt) in
      subst (λ (parts : List (List ℕ)). AllByRecursion IsUtf8 parts) (sym (slice_split_first p bs 0 lt)) (front_utf8 bs utf8 lt, shorter (after_first p bs) less (back_utf8 bs utf8 lt))

  split_at : (fuel : ℕ) (bs : List ℕ) → length bs < fuel → Splits bs
  split_at zero bs less utf8 = absurd (omega arith)
  split_at (suc fuel) bs less utf8 = split_by bs (eqb (position_or_len p bs) (length bs)) refl (λ rest shorter. split_at fuel rest (omega (arith, less, shorter))) utf8

  -- the parts of a text are texts
  pub split_utf8 : (bs : List ℕ) → IsUtf8 bs → AllByRecursion IsUtf8 (slice_split p bs)
  split_utf8 bs utf8 = split_at (suc (length bs)) bs (omega arith) utf8

-- ---- what a segment writes

tilde_ascii : (b : ℕ) → is_tilde b ≡ true → b < 128
tilde_ascii b e = grind (arith, nat_tests)

one_utf8 : (b : ℕ) → b < 128 → IsUtf8 (b ∷ [])
one_utf8 b low = IsUtf8-from_ascii (b ∷ []) (IsAscii-cons b [] low IsAscii-nil)

escaped_low : (c b : ℕ) → escaped_byte c ≡ Some b → c < 128
escaped_low c b e = by (eqb c 48) (eqb c 49) (eqb c 50) (eqb c 51) refl refl refl refl e
  where
    by : (p q r s : Bool) → p ≡ eqb c 48 → q ≡ eqb c 49 → r ≡ eqb c 50 → s ≡ eqb c 51 → cond p (Some 126) (cond q (Some 47) (cond r (Some 32) (cond s (Some 10) None))) ≡ Some b → c < 128
    by true q r s e f g h is = grind (arith, nat_tests)
    by false true r s e f g h is = grind (arith, nat_tests)
    by false false true s e f g h is = grind (arith, nat_tests)
    by false false false true e f g h is = grind (arith, nat_tests)
    by false false false false e f g h is = absurd cc

pub tail_utf8 : (c : ℕ) (bs : List ℕ) → c < 128 → IsUtf8 (c ∷ bs) → IsUtf8 bs
tail_utf8 c bs low utf8 = IsUtf8-drop (c ∷ bs) 1 utf8 (IsCharBoundary-after_ascii (c ∷ bs) 0 utf8 (omega arith) low)

-- a text, where it is one
abbrev Writes : Option (List ℕ) → Type 0
Writes o = (t : List ℕ) → o ≡ Some t → IsUtf8 t

writes_behind : (front : List ℕ) → IsUtf8 front → (o : Option (List ℕ)) → Writes o → Writes (option_map (λ xs. front ++ xs) o)
writes_behind front utf8 None writes t e = absurd cc
writes_behind front utf8 (Some xs) writes t e = subst IsUtf8 (same_Some (front ++ xs) t e) (IsUtf8-append front xs utf8 (writes xs refl))

writes_byte : (c : ℕ) (e : Option ℕ) → ((b : ℕ) → e ≡ Some b → b < 128) → (o : Option (List ℕ)) → (((b : ℕ) → e ≡ Some b → Writes o)) → Writes (before e o)
writes_byte c None low o writes t is = absurd cc
writes_byte c (Some b) low None writes t is = absurd cc
writes_byte c (Some b) low (Some xs) writes t is = subst IsUtf8 (same_Some (b ∷ xs) t is) (IsUtf8-append (b ∷ []) xs (one_utf8 b (low b refl)) (writes b refl xs refl))

behind_tilde : (bs rest : List ℕ) → length rest < length bs → IsUtf8 rest → ((rest : List ℕ) → length rest < length bs → IsUtf8 rest → Writes (unescaped rest)) → Writes (unescaped (126 ∷ rest))
behind_tilde bs [] less utf8 shorter = λ t e. absurd cc
behind_tilde bs (c ∷ rest) less utf8 shorter = writes_byte c (escaped_byte c) (escaped_ascii c) (unescaped rest) (λ b e. shorter rest (omega (arith, less)) (tail_utf8 c rest (escaped_low c b e) utf8))

segment_by : (bs : List ℕ) (t : Bool) → t ≡ eqb (position_or_len is_tilde bs) (length bs) → ((rest : List ℕ) → length rest < length bs → IsUtf8 rest → Writes (unescaped rest)) → IsUtf8 bs → Writes (unescaped bs)
segment_by bs true e shorter utf8 = λ t is. subst IsUtf8 (same_Some bs t (sym (no_tilde bs (same_number (position_or_len is_tilde bs) (length bs) e)) ∙ is)) utf8
segment_by bs false e shorter utf8 =
    let lt : position_or_len is_tilde bs < length bs = less_number (position_or_len is_tilde bs) (length bs) (prefix_len-le-length (λ x. not (is_tilde x)) bs) e in
    let less : length (after_first is_tilde bs) < length bs = omega (arith, length-drop (position_or_len is_tilde bs + 1) bs, lt) in
    subst Writes (sym (cut_tilde bs lt))
    (writes_behind (before_first is_tilde bs) (front_utf8 is_tilde tilde_ascii bs utf8 lt) (unescaped (126 ∷ after_first is_tilde bs))
    (behind_tilde bs (after_first is_tilde bs) less (back_utf8 is_tilde tilde_ascii bs utf8 lt) shorter))

segment_at : (fuel : ℕ) (bs : List ℕ) → length bs < fuel → IsUtf8 bs → Writes (unescaped bs)
segment_at zero bs less utf8 = absurd (omega arith)
segment_at (suc fuel) bs less utf8 = segment_by bs (eqb (position_or_len is_tilde bs) (length bs)) refl (λ rest shorter. segment_at fuel rest (omega (arith, less, shorter))) utf8

-- a segment that is a text writes a text
pub segment_utf8 : (bs : List ℕ) → IsUtf8 bs → Writes (unescaped bs)
segment_utf8 bs utf8 = segment_at (suc (length bs)) bs (omega arith) utf8
