-- Where the holders of a path stand in the data of the first.
use Rattle.std.specs.Prelude.{◌≡◌, ℕ, false, List, Option, Some}
use Rattle.ild_splice_changes.specs.TreeChange.{part_at}
use Rattle.ild_data.specs.Data.{Data}
use Rattle.ild_schema.specs.declared.row.Row.{Row}
use Rattle.ild_path_replaced.specs.Seen.{all_steps, has_whole, steps_before}
use Rattle.ild_path_steps.specs.declared.steps.PartSteps.{PartSteps}
use Rattle.ild_typed.specs.At.{InSlot}
use Rattle.ild_typed.specs.Hamt.{alone}
use Rattle.ild_typed.specs.Represented.{represented}
use Rattle.ild_path_holder.specs.Along.{LeadAlong}

-- there is a part of the data to which the steps along a path lead, as far as no holder is replaced whatever changes
abbrev pub StepsStand : Type 0
StepsStand = (rows : List Row) (p : InSlot) (s : List ℕ) (ss : List (List ℕ)) (steps : List PartSteps) (t : Data) (r : Option ℕ) → LeadAlong rows p s ss steps → represented alone rows p.0 p.1 ≡ Some t
    → has_whole (steps_before steps r) ≡ false → (d : Data) × (part_at (all_steps (steps_before steps r)) t ≡ Some d)
