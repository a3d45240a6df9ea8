-- What stands in a reference nests less deep.
use Rattle.std.specs.Prelude.{◌≤◌, ◌+◌}
use Rattle.std.proofs.Common.{arith}
use Rattle.ild_parse_grammar.specs.ReferenceSeen.{refers_of, nesting_of}
use Rattle.ild_parse_grammar.specs.declared.reference.Inline.{Inline}
use Rattle.ild_parse_grammar.specs.declared.reference.Inline.TheVariants as I
use Rattle.ild_parse_grammar.specs.declared.reference.Ref.TheDeep.{deep-Inline}

pub inline_falls : (i : Inline) → deep-Inline i ≤ nesting_of (refers_of i) + 1
inline_falls (I.Type n) = omega arith
inline_falls (I.Link n) = omega arith
inline_falls (I.List r) = omega arith
inline_falls (I.Map n r) = omega arith
