-- The fault that is told of a type which is represented as itself.
use Rattle.std.proofs.Common.{◌≡◌, ℕ, ◌<◌, List, Option, Some, length, inl, inr, refl, subst}
use Rattle.std.specs.Option.{MatchOption}
use Rattle.ild_schema.specs.declared.number.TypeNo.{TypeNo}
use Rattle.ild_schema.specs.declared.row.Row.{Row}
use Rattle.ild_schema.specs.declared.rule.Rule.TheVariants as R
use Rattle.ild_schema.specs.Cycles.{NoneIsCyclic, FirstIsCyclic}
use Rattle.ild_schema.specs.Table.{place_at}
use Rattle.ild_accept.specs.Judged.{IsFaultOf}
use Rattle.ild_accept.specs.declared.error.AcceptErr.TheVariants as E

cycle_told : (rows : List Row) (ty : TypeNo) (at : ℕ) → FirstIsCyclic rows ty.0 → place_at rows ty.0 ≡ Some at → IsFaultOf rows (E.Fault R.Cycle ty at)
cycle_told rows ty at first place = inr (record { rule = R.Cycle; ty = ty.0; at = at }, refl, inl (refl, first, place))

pub cycle_fault : (rows : List Row) (o : Option TypeNo) (ty : TypeNo) (at : ℕ) → o ≡ Some ty → MatchOption o (NoneIsCyclic rows) (λ t. (t.0 < length rows) × FirstIsCyclic rows t.0)
    → place_at rows ty.0 ≡ Some at → IsFaultOf rows (E.Fault R.Cycle ty at)
cycle_fault rows o ty at found h place =
    let P : Option TypeNo → Type 0 = λ o. MatchOption o (NoneIsCyclic rows) (λ t. (t.0 < length rows) × FirstIsCyclic rows t.0) in
    cycle_told rows ty at (subst P found h).1 place
