-- Accepted schemas: no rule fails for any type. Otherwise a schema has a first fault: that of a type which is represented
-- as itself, else that of the first type for which another rule fails, in the order of the rules.
use Rattle.std.specs.Prelude.{◌≡◌, ◌⊎◌, ℕ, suc, List, [], ◌∷◌, Option, Some, None, option_map}
use Rattle.std.specs.Option.{option_or}
use Rattle.ild_schema.specs.declared.def.TypeDef.{TypeDef}
use Rattle.ild_schema.specs.declared.rule.Rule.{Rule}
use Rattle.ild_schema.specs.declared.rule.Rule.TheVariants as R
use Rattle.ild_schema.specs.declared.row.Row.{Row}
use Rattle.ild_schema.specs.Clashes.{name_fault}
use Rattle.ild_schema.specs.Cycles.{NoneIsCyclic, FirstIsCyclic}
use Rattle.ild_schema.specs.Delimiters.{delim_fault}
use Rattle.ild_schema.specs.Prefixes.{prefix_fault}
use Rattle.ild_schema.specs.Rules.{null_fault, kind_fault, text_fault, optional_fault, implicit_fault, inline_fault, key_fault, strategy_fault}
use Rattle.ild_schema.specs.Table.{place_at}

-- a rule, and the place at which it fails
abbrev pub Failing : Type 0
Failing = Rule × ℕ

abbrev pub fails_at : Rule → Option ℕ → Option Failing
fails_at rule place = option_map (λ at. (rule, at)) place

-- the first rule that fails for a type at a place, beside that on cycles
abbrev pub type_fault : List Row → ℕ → TypeDef → Option Failing
type_fault rows at def =
    option_or (fails_at R.NullClash (null_fault rows def))
    (option_or (fails_at R.KindClash (kind_fault rows def))
    (option_or (fails_at R.PrefixClash (prefix_fault def))
    (option_or (fails_at R.Delim (delim_fault at def))
    (option_or (fails_at R.NotText (text_fault rows def))
    (option_or (fails_at R.OptionalPlace (optional_fault def))
    (option_or (fails_at R.Implicit (implicit_fault rows def))
    (option_or (fails_at R.NameClash (name_fault rows at def))
    (option_or (fails_at R.InlineMember (inline_fault rows def))
    (option_or (fails_at R.MapKey (key_fault rows def))
    (fails_at R.Strategy (strategy_fault at def)))))))))))

-- a rule that fails, the number of the type for which it does, and the place
pub record Fault : Type 0 where
  pub rule : Rule
  pub ty : ℕ
  pub at : ℕ

-- that of the first type for which a rule fails, of those from a number on
abbrev pub first_failing : List Row → ℕ → List Row → Option Fault
first_failing rows n [] = None
first_failing rows n (r ∷ rs) = option_or (option_map (λ f. record { rule = f.0; ty = n; at = f.1 }) (type_fault rows r.at r.def)) (first_failing rows (suc n) rs)

-- the fault of the first type that is represented as itself
abbrev pub IsCycleFault : List Row → Fault → Type 0
IsCycleFault rows f = (f.rule ≡ R.Cycle) × FirstIsCyclic rows f.ty × (place_at rows f.ty ≡ Some f.at)

-- the first fault of a table
abbrev pub IsFirstFault : List Row → Fault → Type 0
IsFirstFault rows f = IsCycleFault rows f ⊎ (NoneIsCyclic rows × (first_failing rows 0 rows ≡ Some f))

pub record IsAccepted (rows : List Row) : Type 0 where
  pub none_cyclic : NoneIsCyclic rows
  pub none_fails : first_failing rows 0 rows ≡ None
