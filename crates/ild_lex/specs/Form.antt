-- What a token is by its form, and that it is the longest at its place.
use Rattle.std.specs.Prelude.{◌≡◌, ℕ, Bool, true, false, ◌&&◌, ◌==◌, IsTrue, List, [], ◌∷◌, ◌++◌, if◌then◌else◌}
use Rattle.std.specs.List.{list_all}
use Rattle.ild_lex.specs.declared.token.TokenKind.{TokenKind}
use Rattle.ild_lex.specs.declared.token.TokenKind.TheVariants.{Word, Number, Text, Mark}
use Rattle.ild_lex.specs.Bytes.{is_letter, is_digit, is_word_byte, is_mark, quote, backslash, minus, is_plain, is_escape}

-- [A-Za-z_][A-Za-z0-9_]*
abbrev pub is_word : List ℕ → Bool
is_word [] = false
is_word (b ∷ bs) = is_letter b && list_all is_word_byte bs

-- one digit or more
abbrev pub are_digits : List ℕ → Bool
are_digits [] = false
are_digits (b ∷ bs) = is_digit b && list_all is_digit bs

-- -?[0-9]+
abbrev pub is_number : List ℕ → Bool
is_number [] = false
is_number (b ∷ bs) = if b == minus then are_digits bs else are_digits (b ∷ bs)

-- What stands between two quotes: on one line, with each quote and each backslash behind a backslash.
abbrev pub is_inside : List ℕ → Bool
is_inside [] = true
is_inside (b ∷ []) = is_plain b
is_inside (b ∷ c ∷ bs) = if is_plain b then is_inside (c ∷ bs) else b == backslash && is_escape c && is_inside bs

abbrev pub IsText : List ℕ → Type 0
IsText bs = (inside : List ℕ) × IsTrue (is_inside inside) × (bs ≡ quote ∷ inside ++ quote ∷ [])

-- one mark
abbrev pub IsMark : List ℕ → Type 0
IsMark bs = (b : ℕ) × IsTrue (is_mark b) × (bs ≡ b ∷ [])

-- the bytes are a token of the kind
abbrev pub IsToken : TokenKind → List ℕ → Type 0
IsToken Word bs = IsTrue (is_word bs)
IsToken Number bs = IsTrue (is_number bs)
IsToken Text bs = IsText bs
IsToken Mark bs = IsMark bs

-- text is a token, and with more of the bytes behind it there is none
pub record IsLongest (kind : TokenKind) (text rest : List ℕ) : Type 0 where
  pub token : IsToken kind text
  pub longest : (other : TokenKind) (b : ℕ) (more after : List ℕ) → rest ≡ b ∷ more ++ after → IsToken other (text ++ b ∷ more) → ⊥
