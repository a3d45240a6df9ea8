-- The tokens of a text, and the first fault. Every byte is in a token, in white space or in a comment.
use Rattle.std.specs.Prelude.{◌≡◌, ℕ, ◌+◌, Bool, ◌||◌, ◌==◌, IsFalse, IsTrue, List, [], ◌∷◌, ◌++◌, length, ◌⊎◌, Result, Ok, Err}
use Rattle.ild_lex.specs.declared.token.Token.{Token}
use Rattle.ild_lex.specs.declared.error.LexErr.{LexErr}
use Rattle.ild_lex.specs.declared.error.LexErr.TheVariants as E
use Rattle.ild_lex.specs.Bytes.{is_letter, is_digit, is_mark, is_blank, hash, quote, backslash, minus, line_feed, is_escape}
use Rattle.ild_lex.specs.Form.{is_inside, IsLongest}
use Rattle.ild_lex.specs.Gap.{IsGap, IsLastComment}

-- how reading ends: the text ends, or a fault stands at a byte
pub data Stop : Type 0 where
  all_read : Stop
  wrong_char : ℕ → Stop
  unended_text : ℕ → Stop

-- a token, white space or a comment may begin with it
abbrev pub begins : ℕ → Bool
begins b = is_letter b || is_digit b || b == minus || b == quote || is_mark b || is_blank b || b == hash

-- no digit follows
abbrev pub NoDigit : List ℕ → Type 0
NoDigit [] = Unit {0}
NoDigit (b ∷ bs) = IsFalse (is_digit b)

-- LF or the end, also behind a backslash
abbrev pub IsCutShort : List ℕ → Type 0
IsCutShort [] = Unit {0}
IsCutShort (b ∷ []) = (b ≡ line_feed) ⊎ (b ≡ backslash)
IsCutShort (b ∷ c ∷ bs) = (b ≡ line_feed) ⊎ ((b ≡ backslash) × (c ≡ line_feed))

-- a backslash before a character that no escape has
abbrev pub IsWrongEscape : List ℕ → Type 0
IsWrongEscape [] = ⊥
IsWrongEscape (b ∷ []) = ⊥
IsWrongEscape (b ∷ c ∷ bs) = (b ≡ backslash) × IsFalse (is_escape c || c == line_feed)

-- a text that LF or the end comes into
pub record IsUnended (bytes : List ℕ) : Type 0 where
  pub inside : List ℕ
  pub rest : List ℕ
  pub is : bytes ≡ quote ∷ inside ++ rest
  pub is_inside : IsTrue (is_inside inside)
  pub cut_short : IsCutShort rest

-- a text with a wrong escape, whose backslash stands so many bytes behind its first quote
pub record HasWrongEscape (bytes : List ℕ) (behind : ℕ) : Type 0 where
  pub inside : List ℕ
  pub rest : List ℕ
  pub is : bytes ≡ quote ∷ inside ++ rest
  pub is_inside : IsTrue (is_inside inside)
  pub wrong : IsWrongEscape rest
  pub behind_is : behind ≡ 1 + length inside

-- the first byte is wrong: nothing begins with it, or it is a minus without a digit
abbrev pub IsWrongFirst : List ℕ → Type 0
IsWrongFirst [] = ⊥
IsWrongFirst (b ∷ bs) = IsFalse (begins b) ⊎ ((b ≡ minus) × NoDigit bs)

-- no token begins at the place `at`, from which these bytes are left
abbrev pub EndsAt : ℕ → List ℕ → Stop → Type 0
EndsAt at bytes all_read = IsLastComment bytes
EndsAt at bytes (wrong_char p) = (IsWrongFirst bytes × (p ≡ at)) ⊎ ((behind : ℕ) × HasWrongEscape bytes behind × (p ≡ at + behind))
EndsAt at bytes (unended_text p) = IsUnended bytes × (p ≡ at)

-- The bytes from the place `at` are a gap, the first token, the longest there, and so on, up to the end or a fault.
abbrev pub Lexes : ℕ → List ℕ → List Token → Stop → Type 0
Lexes at bytes [] stop = (gap rest : List ℕ) × (bytes ≡ gap ++ rest) × IsGap gap × EndsAt (at + length gap) rest stop
Lexes at bytes (t ∷ ts) stop =
    (gap text rest : List ℕ) × (bytes ≡ gap ++ (text ++ rest)) × IsGap gap × IsLongest t.kind text rest
    × (t.at ≡ at + length gap) × (t.end ≡ t.at + length text) × Lexes t.end rest ts stop

-- the tokens of a text
abbrev pub AreTokens : List ℕ → List Token → Type 0
AreTokens src ts = Lexes 0 src ts all_read

-- what an answer says of a text
abbrev pub Reads : {A : Type 0} → (A → List Token) → List ℕ → Result A LexErr → Type 0
Reads seen src (Ok v) = AreTokens src (seen v)
Reads seen src (Err E.Memory) = Unit {0}
Reads seen src (Err (E.Char at)) = (ts : List Token) × Lexes 0 src ts (wrong_char at)
Reads seen src (Err (E.Unended at)) = (ts : List Token) × Lexes 0 src ts (unended_text at)

-- the answer for these tokens and this end, unless memory ran out
abbrev pub ReadsTokens : {A : Type 0} → (A → List Token) → List Token → Stop → Result A LexErr → Type 0
ReadsTokens seen ts all_read (Ok v) = seen v ≡ ts
ReadsTokens seen ts (wrong_char p) (Ok v) = ⊥
ReadsTokens seen ts (unended_text p) (Ok v) = ⊥
ReadsTokens seen ts stop (Err E.Memory) = Unit {0}
ReadsTokens seen ts (wrong_char p) (Err (E.Char at)) = at ≡ p
ReadsTokens seen ts all_read (Err (E.Char at)) = ⊥
ReadsTokens seen ts (unended_text p) (Err (E.Char at)) = ⊥
ReadsTokens seen ts (unended_text p) (Err (E.Unended at)) = at ≡ p
ReadsTokens seen ts all_read (Err (E.Unended at)) = ⊥
ReadsTokens seen ts (wrong_char p) (Err (E.Unended at)) = ⊥
