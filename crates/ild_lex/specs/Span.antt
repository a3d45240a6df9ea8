-- Where a token stands in its source.
use Rattle.std.specs.Prelude.{ℕ, ◌≤◌, ◌-◌, List, length, take, drop, IsUtf8}
use Rattle.ild_lex.specs.declared.token.Token.{Token}
use Rattle.ild_lex.specs.Form.{IsToken}

-- the bytes of a token
abbrev pub bytes_of : List ℕ → Token → List ℕ
bytes_of src t = take (t.end - t.at) (drop t.at src)

-- the token is a slice of the source, and a text by itself
pub record IsSpan (src : List ℕ) (t : Token) : Type 0 where
  pub ordered : t.at ≤ t.end
  pub within : t.end ≤ length src
  pub token : IsToken t.kind (bytes_of src t)
  pub utf8 : IsUtf8 (bytes_of src t)
