-- How a scanner goes, byte by byte. The public contract doesn't speak of it.
use Rattle.std.specs.Prelude.{ℕ, ◌-◌, length, Bool, true, false, not, ◌==◌, List, [], ◌∷◌, if◌then◌else◌}
use Rattle.ild_lex.specs.declared.token.TokenKind.{TokenKind}
use Rattle.ild_lex.specs.declared.token.TokenKind.TheVariants.{Word, Number, Text, Mark}
use Rattle.ild_lex.specs.declared.scan.Found.{Found}
use Rattle.ild_lex.specs.declared.scan.Found.TheVariants as F
use Rattle.ild_lex.specs.declared.scan.Next.{Next}
use Rattle.ild_lex.specs.declared.scan.Next.TheVariants as N
use Rattle.ild_lex.specs.declared.token.Token.{Token}
use Rattle.ild_lex.specs.Lex.{Stop, all_read, wrong_char, unended_text}
use Rattle.ild_lex.specs.Bytes.{is_letter, is_digit, is_word_byte, is_mark, is_blank, hash, quote, backslash, minus, line_feed, is_escape}

-- what is left behind white space and comments, inside a comment or not
abbrev pub skip : Bool → List ℕ → List ℕ
skip comment [] = []
skip comment (b ∷ bs) =
    if comment then skip (not (b == line_feed)) bs
    else if b == hash then skip true bs
    else if is_blank b then skip false bs
    else b ∷ bs

-- what is left from the first byte on that doesn't pass
abbrev pub skip_while : (ℕ → Bool) → List ℕ → List ℕ
skip_while p [] = []
skip_while p (b ∷ bs) = if p b then skip_while p bs else b ∷ bs

abbrev pub begins_with_digit : List ℕ → Bool
begins_with_digit [] = false
begins_with_digit (b ∷ bs) = is_digit b

-- what stands at the front: a token and what is left behind it, what is left from a wrong byte on, or a text without end
pub data Piece : Type 0 where
  token : TokenKind → List ℕ → Piece
  wrong : List ℕ → Piece
  unended : Piece

-- behind the first quote
abbrev pub piece_of_text : List ℕ → Piece
piece_of_text [] = unended
piece_of_text (b ∷ []) = if b == quote then token Text [] else unended
piece_of_text (b ∷ c ∷ bs) =
    if b == quote then token Text (c ∷ bs)
    else if b == line_feed then unended
    else if b == backslash then (if is_escape c then piece_of_text bs else if c == line_feed then unended else wrong (b ∷ c ∷ bs))
    else piece_of_text (c ∷ bs)

abbrev pub piece_of : List ℕ → Piece
piece_of [] = wrong []
piece_of (b ∷ bs) =
    if is_letter b then token Word (skip_while is_word_byte bs)
    else if is_digit b then token Number (skip_while is_digit bs)
    else if b == minus then (if begins_with_digit bs then token Number (skip_while is_digit bs) else wrong (b ∷ bs))
    else if b == quote then piece_of_text bs
    else if is_mark b then token Mark bs
    else wrong (b ∷ bs)

-- the piece that the program found
abbrev pub piece_seen : Found → Piece
piece_seen (F.Token kind rest) = token kind rest.now
piece_seen (F.Wrong rest) = wrong rest.now
piece_seen F.Unended = unended

-- what comes first in the bytes: a token and what is left behind it, or the end or a fault
pub data First : Type 0 where
  goes : Token → List ℕ → First
  stops : Stop → First

-- places are told from the end of the text
abbrev pub by_piece : ℕ → List ℕ → Piece → First
by_piece end rest (token kind after) = goes (record { kind = kind; at = end - length rest; end = end - length after }) after
by_piece end rest (wrong from) = stops (wrong_char (end - length from))
by_piece end rest unended = stops (unended_text (end - length rest))

abbrev pub behind_gap : ℕ → List ℕ → First
behind_gap end [] = stops all_read
behind_gap end (b ∷ bs) = by_piece end (b ∷ bs) (piece_of (b ∷ bs))

abbrev pub first_of : ℕ → List ℕ → First
first_of end bytes = behind_gap end (skip false bytes)

-- the first that the program found
abbrev pub first_seen : Next → First
first_seen (N.Token t rest) = goes t rest.now
first_seen N.End = stops all_read
first_seen (N.Char at) = stops (wrong_char at)
first_seen (N.Unended at) = stops (unended_text at)
