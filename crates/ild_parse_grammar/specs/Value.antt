-- What texts mean (IPLD Schemas, the DSL). A number means the integer of a block that it is in decimal.
use Rattle.std.specs.Prelude.{ℕ, ◌-◌, Bool, true, false, ◌==◌, if◌then◌else◌, List, [], ◌∷◌, length, take, drop}
use Rattle.std.specs.Str.{chars, encode_utf8_all}

-- characters without the backslashes of escapes, behind a backslash or not
abbrev pub unescaped : Bool → List ℕ → List ℕ
unescaped behind [] = []
unescaped true (c ∷ cs) = c ∷ unescaped false cs
unescaped false (c ∷ cs) = if c == 92 then unescaped true cs else c ∷ unescaped false cs

-- what stands between the quotes
abbrev pub inside_of : List ℕ → List ℕ
inside_of text = take (length text - 2) (drop 1 text)

-- what a text means
abbrev pub meaning : List ℕ → List ℕ
meaning text = encode_utf8_all (unescaped false (chars (inside_of text)))
