-- Where a path leads in a view: to a view of the part, to that of a root that has to be entered, or nowhere.
use Rattle.std.specs.Prelude.{◌≡◌, List, Result, Ok, Err}
use Rattle.ild_schema.specs.declared.row.Row.{Row}
use Rattle.ild_typed.specs.At.{Reach, enter, here, no_path}
use Rattle.ild_view.specs.Parts.{IsPartView}
use Rattle.ild_view.specs.declared.step.NoPath.{NoPath}
use Rattle.ild_view.specs.declared.step.Step.{Step}
use Rattle.ild_view.specs.declared.step.Step.TheVariants as S

abbrev pub Reaches : List Row → Reach → Result Step NoPath → Type 0
Reaches rows (here q) (Ok (S.Here v)) = IsPartView rows q v
Reaches rows (enter q k) (Ok (S.Enter v n)) = IsPartView rows q v × (n ≡ k)
Reaches rows (no_path k) (Err e) = e.k ≡ k
Reaches rows r x = ⊥
