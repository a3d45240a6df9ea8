use Rattle.std.proofs.Common.{◌≡◌, ◌++◌, length, drop, false}
use Rattle.std.specs.Prelude.{string_bytes}
use Rattle.std.specs.Str.{chars, encode_utf8_all}
use Rattle.ild_parse_grammar.specs.Value.{unescaped}
use Rattle.ild_parse.proofs.value.characters.Given as goal

-- what is written, and what the rest means, is what all mean
abbrev pub invariant-loop-c : goal.invariant-loop-c
invariant-loop-c l =
    string_bytes l.text ++ encode_utf8_all (unescaped l.behind (drop (length l.yielded) (chars l.inside))) ≡ encode_utf8_all (unescaped false (chars l.inside))
