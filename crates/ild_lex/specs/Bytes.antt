-- The bytes that tokens are made of (IPLD Schemas, the DSL). A byte from 128 on stands in texts and comments alone.
use Rattle.std.specs.Prelude.{ℕ, Bool, ◌||◌, not, ◌==◌}
use Rattle.std.specs.Char.{is_ascii_digit, is_ascii_alphabetic}

abbrev pub is_letter : ℕ → Bool
is_letter b = is_ascii_alphabetic b || b == 95

abbrev pub is_digit : ℕ → Bool
is_digit = is_ascii_digit

abbrev pub is_word_byte : ℕ → Bool
is_word_byte b = is_letter b || is_digit b

-- { } [ ] ( ) : = | &
abbrev pub is_mark : ℕ → Bool
is_mark b = b == 123 || b == 125 || b == 91 || b == 93 || b == 40 || b == 41 || b == 58 || b == 61 || b == 124 || b == 38

-- space, tab, CR, LF
abbrev pub is_blank : ℕ → Bool
is_blank b = b == 32 || b == 9 || b == 13 || b == 10

abbrev pub hash : ℕ
hash = 35

abbrev pub quote : ℕ
quote = 34

abbrev pub backslash : ℕ
backslash = 92

abbrev pub minus : ℕ
minus = 45

abbrev pub line_feed : ℕ
line_feed = 10

-- what stands for itself between quotes
abbrev pub is_plain : ℕ → Bool
is_plain b = not (b == quote || b == backslash || b == line_feed)

-- what may follow a backslash
abbrev pub is_escape : ℕ → Bool
is_escape b = b == quote || b == backslash
