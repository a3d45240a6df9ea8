-- What a pair of types has been found to be.
use Rattle.std.specs.Prelude.{◌≡◌, ◌⊎◌, true, false, List, Option, Some, None}
use Rattle.std.specs.List.{AllByRecursion}
use Rattle.ild_schema.specs.declared.row.Row.{Row}
use Rattle.ild_schema.specs.Kinds.{meant}
use Rattle.ild_schema.specs.Slots.{plainly}
use Rattle.ild_compat.specs.declared.met.Pair.{Pair}
use Rattle.ild_compat.specs.declared.rule.Rule.{Rule}
use Rattle.ild_compat.specs.declared.rule.Differ.{Differ}
use Rattle.ild_compat.specs.inside.Met.{is_met_at, HasNull}
use Rattle.ild_compat.specs.Table.{types_agree, asked}

-- the rules hold for the types, and all that they ask for was met
pub record IsPassed (rows others : List Row) (p : Pair) (pairs : List Pair) : Type 0 where
  pub rules : (rule : Rule) → types_agree rule (meant rows p.first.0) (meant others p.next.0) ≡ true
  pub met : AllByRecursion (λ q. is_met_at pairs q.0 q.1 ≡ true) (asked rows others (plainly p.first) (plainly p.next))

-- a rule fails for the types, or that on null for a pair that they ask for
pub record IsRefused (rows others : List Row) (p : Pair) (d : Differ) : Type 0 where
  pub first : d.first ≡ p.first
  pub next : d.next ≡ p.next
  pub fails : types_agree d.rule (meant rows p.first.0) (meant others p.next.0) ≡ false

abbrev pub PairPasses : List Row → List Row → Pair → List Pair → Option Differ → Type 0
PairPasses rows others p pairs None = IsPassed rows others p pairs
PairPasses rows others p pairs (Some d) = IsRefused rows others p d ⊎ HasNull (asked rows others (plainly p.first) (plainly p.next)) d
