-- Where parts that repeat end: at a closing brace, or at the end of the source.
use Rattle.std.specs.Prelude.{Bool}
use Rattle.ild_parse_grammar.proofs.Stream.{Stream, is_end}
use Rattle.ild_parse_grammar.proofs.Grammar.{closes}
use Rattle.ild_parse.specs.declared.rule.Ending.{Ending}
use Rattle.ild_parse.specs.declared.rule.Ending.TheVariants as E

abbrev pub ends_by : Ending → Stream → Bool
ends_by E.Brace = closes
ends_by E.Source = is_end
