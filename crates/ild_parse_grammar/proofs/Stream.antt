-- What is left of a source while it is read from left to right.
use Rattle.std.specs.Prelude.{ℕ, ◌+◌, Bool, true, false, ◌&&◌, List, [], ◌∷◌, length, nat_eq}
use lib.Pointwise.{pointwise}
use Rattle.ild_lex.specs.declared.token.Token.{Token}
use Rattle.ild_lex.specs.declared.token.TokenKind.{TokenKind}
use Rattle.ild_lex.specs.declared.token.TokenKind.TheVariants.{Word, Number, Text, Mark}
use Rattle.ild_parse_grammar.specs.Sign.{Sign, signs_of, place_of, kind_of_text}

-- the tokens that are left, and the length of the source
pub record Stream : Type 0 where
  pub end : ℕ
  pub signs : List Sign

abbrev pub stream : List ℕ → List Token → Stream
stream src ts = record { end = length src; signs = signs_of src ts }

-- the place of the next token, or the end of the source
abbrev pub place : Stream → ℕ
place s = place_of s.end s.signs

abbrev pub text_of : List Sign → List ℕ
text_of [] = []
text_of (t ∷ ts) = t.text

abbrev pub same_text : List ℕ → List ℕ → Bool
same_text = pointwise nat_eq

abbrev pub kind_code : TokenKind → ℕ
kind_code Word = 0
kind_code Number = 1
kind_code Text = 2
kind_code Mark = 3

-- a token of this text and its kind
abbrev pub is_literal : List ℕ → Sign → Bool
is_literal word t = nat_eq (kind_code t.kind) (kind_code (kind_of_text word)) && same_text t.text word

-- the first of them is this word or mark
abbrev pub begins : List ℕ → List Sign → Bool
begins word [] = false
begins word (t ∷ ts) = is_literal word t

abbrev pub next_is : List ℕ → Stream → Bool
next_is word s = begins word s.signs

abbrev pub tail : List Sign → List Sign
tail [] = []
tail (t ∷ ts) = ts

-- what is left behind it
abbrev pub rest_of : Stream → Stream
rest_of s = record { end = s.end; signs = tail s.signs }

-- more parts than tokens aren't there
abbrev pub most : Stream → ℕ
most s = length s.signs + 1

abbrev pub none_left : List Sign → Bool
none_left [] = true
none_left (t ∷ ts) = false

abbrev pub is_end : Stream → Bool
is_end s = none_left s.signs
