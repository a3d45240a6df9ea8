-- What the grammar sees of a source: its tokens with their texts.
use Rattle.std.specs.Prelude.{ℕ, Bool, true, false, ◌&&◌, ◌||◌, ◌==◌, if◌then◌else◌, List, [], ◌∷◌, map}
use Rattle.std.specs.Char.{is_ascii_uppercase}
use Rattle.ild_lex.specs.declared.token.Token.{Token}
use Rattle.ild_lex.specs.declared.token.TokenKind.{TokenKind}
use Rattle.ild_lex.specs.declared.token.TokenKind.TheVariants.{Word, Number, Text, Mark}
use Rattle.ild_lex.specs.Bytes.{is_letter, is_digit, quote, minus}
use Rattle.ild_lex.specs.Span.{bytes_of}

-- a token with its text
pub record Sign : Type 0 where
  pub kind : TokenKind
  pub at : ℕ
  pub text : List ℕ

abbrev pub sign_of : List ℕ → Token → Sign
sign_of src t = record { kind = t.kind; at = t.at; text = bytes_of src t }

abbrev pub signs_of : List ℕ → List Token → List Sign
signs_of src ts = map (sign_of src) ts

-- the place of the first, or the end of the source
abbrev pub place_of : ℕ → List Sign → ℕ
place_of end [] = end
place_of end (t ∷ ts) = t.at

-- the kind of the tokens with this text
abbrev pub kind_of_text : List ℕ → TokenKind
kind_of_text [] = Mark
kind_of_text (b ∷ bs) = if is_letter b then Word else if is_digit b || b == minus then Number else if b == quote then Text else Mark

abbrev pub is_word_kind : TokenKind → Bool
is_word_kind Word = true
is_word_kind Number = false
is_word_kind Text = false
is_word_kind Mark = false

abbrev pub is_number_kind : TokenKind → Bool
is_number_kind Word = false
is_number_kind Number = true
is_number_kind Text = false
is_number_kind Mark = false

abbrev pub is_text_kind : TokenKind → Bool
is_text_kind Word = false
is_text_kind Number = false
is_text_kind Text = true
is_text_kind Mark = false

abbrev pub begins_upper : List ℕ → Bool
begins_upper [] = false
begins_upper (b ∷ bs) = is_ascii_uppercase b

-- the first is a word, a word that begins with an upper-case letter, a number, a text
abbrev pub is_name : List Sign → Bool
is_name [] = false
is_name (t ∷ ts) = is_word_kind t.kind

abbrev pub is_type : List Sign → Bool
is_type [] = false
is_type (t ∷ ts) = is_word_kind t.kind && begins_upper t.text

abbrev pub is_number : List Sign → Bool
is_number [] = false
is_number (t ∷ ts) = is_number_kind t.kind

abbrev pub is_text : List Sign → Bool
is_text [] = false
is_text (t ∷ ts) = is_text_kind t.kind
