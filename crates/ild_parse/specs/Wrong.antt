-- What an error says of the place of a fault.
use Rattle.std.specs.Prelude.{ℕ, List}
use Rattle.ild_lex.specs.declared.token.Token.{Token}
use Rattle.ild_parse_grammar.specs.Fault.{IsWrongAt}
use Rattle.ild_parse.specs.declared.error.ParseErr.{ParseErr}
use Rattle.ild_parse.specs.declared.error.ParseErr.TheVariants as E

abbrev pub IsWrong : List ℕ → List Token → ParseErr → Type 0
IsWrong src ts E.Memory = Unit {0}
IsWrong src ts (E.Syntax at) = IsWrongAt src ts at
