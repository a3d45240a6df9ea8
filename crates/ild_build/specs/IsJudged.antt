-- The first cause for which a value of a type is refused as a whole: a hole, a broken delimiter, or that it nests too deep.
use Rattle.std.specs.Prelude.{◌≡◌, ℕ, List, Option, Some, None, true, false}
use Rattle.ild_schema.specs.declared.number.Slot.{Slot}
use Rattle.ild_schema.specs.declared.row.Row.{Row}
use Rattle.ild_schema.specs.Value.{Value}
use Rattle.ild_typed.specs.Fits.{Fits}
use Rattle.ild_typed.specs.Judged.{has_hole, breaks_delimiter}
use Rattle.ild_build.specs.declared.judgement.Judged.{Judged}
use Rattle.ild_build.specs.declared.judgement.Judged.TheVariants as J

abbrev pub IsJudged : List Row → ℕ → Slot → Value → Option Judged → Type 0
IsJudged rows room s v (Some J.Hole) = has_hole rows s v ≡ true
IsJudged rows room s v (Some J.Delimiter) = (has_hole rows s v ≡ false) × (breaks_delimiter rows s v ≡ true)
IsJudged rows room s v (Some J.Depth) = (has_hole rows s v ≡ false) × (breaks_delimiter rows s v ≡ false) × (Fits rows room s v → ⊥)
IsJudged rows room s v None = (has_hole rows s v ≡ false) × (breaks_delimiter rows s v ≡ false) × Fits rows room s v
