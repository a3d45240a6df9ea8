-- The words of a flaw in a fault's line: its stage, its number there, and its name.
use Rattle.std.specs.Prelude.{ℕ, List, codes}
use Rattle.ild_schema.specs.declared.rule.Rule.{Rule}
use Rattle.ild_schema.specs.declared.rule.Rule.TheVariants as R
use Rattle.ild_compile.specs.declared.error.Flaw.{Flaw}
use Rattle.ild_compile.specs.declared.error.Flaw.TheVariants as F

abbrev pub rule_text : Rule → List ℕ
rule_text R.Cycle = codes "accept 1 cycle"
rule_text R.NullClash = codes "accept 2 nullclash"
rule_text R.KindClash = codes "accept 3 kindclash"
rule_text R.PrefixClash = codes "accept 4 prefixclash"
rule_text R.Delim = codes "accept 5 delim"
rule_text R.NotText = codes "accept 6 nottext"
rule_text R.OptionalPlace = codes "accept 7 optionalplace"
rule_text R.Implicit = codes "accept 8 implicit"
rule_text R.NameClash = codes "accept 9 nameclash"
rule_text R.InlineMember = codes "accept 10 inlinemember"
rule_text R.MapKey = codes "accept 11 mapkey"
rule_text R.Strategy = codes "accept 12 strategy"

abbrev pub flaw_text : Flaw → List ℕ
flaw_text F.Char = codes "lex 1 char"
flaw_text F.Unended = codes "lex 2 unended"
flaw_text F.Syntax = codes "parse 1 syntax"
flaw_text F.Twice = codes "resolve 1 twice"
flaw_text F.Unknown = codes "resolve 2 unknown"
flaw_text F.Float = codes "resolve 3 float"
flaw_text F.CopyCycle = codes "resolve 4 copycycle"
flaw_text F.Advanced = codes "resolve 5 advanced"
flaw_text F.Many = codes "resolve 6 many"
flaw_text (F.Rule rule) = rule_text rule
