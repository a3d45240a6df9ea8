-- The rules for one type in their order: the last of them.
use Rattle.std.specs.Prelude.{ℕ, List, Option}
use Rattle.std.specs.Option.{option_or}
use Rattle.ild_schema.specs.Accept.{Failing, fails_at}
use Rattle.ild_schema.specs.Clashes.{name_fault}
use Rattle.ild_schema.specs.Delimiters.{delim_fault}
use Rattle.ild_schema.specs.Rules.{implicit_fault, inline_fault, key_fault, optional_fault, strategy_fault, text_fault}
use Rattle.ild_schema.specs.declared.def.TypeDef.{TypeDef}
use Rattle.ild_schema.specs.declared.row.Row.{Row}
use Rattle.ild_schema.specs.declared.rule.Rule.TheVariants as R

-- the first of the last four rules that fails for a type at a place
abbrev pub last_fault : List Row → ℕ → TypeDef → Option Failing
last_fault rows at def =
    option_or (fails_at R.NameClash (name_fault rows at def))
    (option_or (fails_at R.InlineMember (inline_fault rows def))
    (option_or (fails_at R.MapKey (key_fault rows def))
    (fails_at R.Strategy (strategy_fault at def))))

-- the first of the last eight
abbrev pub later_fault : List Row → ℕ → TypeDef → Option Failing
later_fault rows at def =
    option_or (fails_at R.Delim (delim_fault at def))
    (option_or (fails_at R.NotText (text_fault rows def))
    (option_or (fails_at R.OptionalPlace (optional_fault def))
    (option_or (fails_at R.Implicit (implicit_fault rows def))
    (last_fault rows at def))))
