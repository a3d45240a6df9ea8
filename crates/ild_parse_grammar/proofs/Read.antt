-- Reading from left to right: a part and what is left, or the place of the token with which nothing goes on.
use lib.Chars.{codes}
use Rattle.std.specs.Prelude.{ℕ, ℤ, zero, suc, Bool, List, [], ◌∷◌, Option, Some, None, Result, Ok, Err, if◌then◌else◌}
use Rattle.ild_parse_grammar.specs.declared.ast.TypeName.{TypeName}
use Rattle.ild_parse_grammar.specs.declared.ast.Name.{Name}
use Rattle.ild_parse_grammar.specs.declared.ast.Text.{Text}
use Rattle.ild_parse_grammar.specs.declared.ast.Number.{Number}
use Rattle.ild_parse_grammar.proofs.Stream.{Stream, place, text_of, next_is, rest_of}
use Rattle.ild_parse_grammar.specs.Sign.{is_type, is_name, is_text, is_number}
use Rattle.ild_data.specs.Decimal.{decimal_of}
use Rattle.ild_parse_grammar.specs.Value.{meaning}

infixl 10 ◌>>=◌
abbrev pub ◌>>=◌ : {A B : Type 0} → Result A ℕ → (A → Result B ℕ) → Result B ℕ
(Ok x) >>= f = f x
(Err e) >>= f = Err e

-- ---- words, marks, names, texts and numbers

-- this word or mark
unfoldable pub literal_at : List ℕ → Stream → Result Stream ℕ
literal_at word s = if next_is word s then Ok (rest_of s) else Err (place s)

unfoldable pub type_name_at : Stream → Result (TypeName × Stream) ℕ
type_name_at s = if is_type s.signs then Ok (record { at = place s; name = text_of s.signs }, rest_of s) else Err (place s)

unfoldable pub name_at : Stream → Result (Name × Stream) ℕ
name_at s = if is_name s.signs then Ok (record { at = place s; name = text_of s.signs }, rest_of s) else Err (place s)

unfoldable pub text_at : Stream → Result (Text × Stream) ℕ
text_at s = if is_text s.signs then Ok (record { at = place s; text = meaning (text_of s.signs) }, rest_of s) else Err (place s)

abbrev pub value_here : Stream → Option ℤ → Result (Number × Stream) ℕ
value_here s None = Err (place s)
value_here s (Some n) = Ok (record { at = place s; value = n }, rest_of s)

unfoldable pub number_at : Stream → Result (Number × Stream) ℕ
number_at s = if is_number s.signs then value_here s (decimal_of (text_of s.signs)) else Err (place s)

-- ---- settings in braces, in any order, each once

unfoldable pub setting_at : List ℕ → Stream → Result (Text × Stream) ℕ
setting_at key s = do
  t ← literal_at key s
  text_at t

unfoldable pub one_setting_at : List ℕ → Stream → Result (Text × Stream) ℕ
one_setting_at key s = do
  t ← literal_at (codes "{") s
  x ← setting_at key t
  u ← literal_at (codes "}") x.1
  Ok (x.0, u)

-- the first key's text, and the second one's
unfoldable pub both_settings_at : List ℕ → List ℕ → Stream → Result ((Text × Text) × Stream) ℕ
both_settings_at a b s =
    if next_is a s
    then (setting_at a s >>= λ x. setting_at b x.1 >>= λ y. Ok ((x.0, y.0), y.1))
    else (setting_at b s >>= λ y. setting_at a y.1 >>= λ x. Ok ((x.0, y.0), x.1))

unfoldable pub two_settings_at : List ℕ → List ℕ → Stream → Result ((Text × Text) × Stream) ℕ
two_settings_at a b s = do
  t ← literal_at (codes "{") s
  x ← both_settings_at a b t
  u ← literal_at (codes "}") x.1
  Ok (x.0, u)

-- ---- parts that repeat, up to a token that ends them; more than so many aren't there

unfoldable pub many_at : {A : Type 0} → (Stream → Result (A × Stream) ℕ) → (Stream → Bool) → ℕ → Stream → Result (List A × Stream) ℕ
many_at one ends zero s = Err (place s)
many_at one ends (suc n) s = if ends s then Ok ([], s) else (one s >>= λ x. many_at one ends n x.1 >>= λ xs. Ok (x.0 ∷ xs.0, xs.1))
