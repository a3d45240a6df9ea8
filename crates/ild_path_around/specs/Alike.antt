-- Fronts break the delimiters that their values break, but for those in the entries of HAMTs, which a front doesn't show.
use Rattle.std.specs.Prelude.{◌≡◌, ℕ, Bool, false, List, Option, Some}
use Rattle.ild_path_edits.specs.Along.{IsFree}
use Rattle.ild_schema.specs.Value as V
use Rattle.ild_schema.specs.Value.{Value}
use Rattle.ild_schema.specs.declared.def.MapForm.TheVariants as MF
use Rattle.ild_schema.specs.declared.def.TypeDef.{TypeDef}
use Rattle.ild_schema.specs.declared.def.TypeDef.TheVariants as D
use Rattle.ild_schema.specs.declared.number.Slot.{Slot}
use Rattle.ild_schema.specs.declared.row.Row.{Row}
use Rattle.ild_typed.specs.EachLayer.{some_pair}
use Rattle.ild_typed.specs.Judged.{breaks, breaks_delimiter}
use Rattle.ild_typed_fronts.specs.Front.{front}

-- a HAMT has an entry that breaks a delimiter
abbrev pub breaks_inside : List Row → Option TypeDef → Value → Bool
breaks_inside rows (Some (D.Map key key_at value at (MF.Hamt p))) (V.map ps) = some_pair (breaks rows) rows value ps
breaks_inside rows d v = false

abbrev pub FrontsBreakAlike : Type 0
FrontsBreakAlike =
    (h : List ℕ → List ℕ) (rows : List Row) (s : Slot) (v : Value) → IsFree (breaks_inside rows) rows s v → breaks_delimiter rows s (front h rows s v) ≡ breaks_delimiter rows s v

-- what breaks nothing has no such HAMT
abbrev pub SoundInside : Type 0
SoundInside = (rows : List Row) (s : Slot) (v : Value) → breaks_delimiter rows s v ≡ false → IsFree (breaks_inside rows) rows s v
