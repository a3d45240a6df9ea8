-- A path leads to a part exactly where no root is to be entered on its way.
use Rattle.std.proofs.Common.{◌≡◌, ℕ, suc, List, [], ◌∷◌, Option, Some, None, refl, ap, sym, ◌∙◌}
use Rattle.std.specs.Prelude.{option_and_then}
use Rattle.std.specs.Option.{option_map_or}
use Rattle.std.proofs.lemmas.Option.{same_Some, none-some}
use Rattle.ild_schema.specs.declared.number.Slot.{Slot}
use Rattle.ild_schema.specs.declared.row.Row.{Row}
use Rattle.ild_schema.specs.Value.{Value, hamt}
use Rattle.ild_typed.specs.Segment.{part}
use Rattle.ild_typed.specs.At.{InSlot, Reach, here, enter, no_path, or_enter, reached, seen, at}
use Rattle.ild_typed.specs.AtLaws.{ReachesParts}

abbrev part_of : Reach → Option InSlot
part_of (here q) = Some q
part_of (enter q k) = None
part_of (no_path k) = None

not_here : (k : ℕ) (slot : Slot) (v : Value) → part_of (or_enter k slot v) ≡ None
not_here k slot (hamt d) = refl
not_here k slot v = refl

module _ (rows : List Row) where
  step : (k : ℕ) (p : InSlot) (ss : List (List ℕ)) (o : Option InSlot) → ((q : InSlot) → part_of (reached rows (suc k) q ss) ≡ at rows q ss)
      → part_of (option_map_or (λ q. reached rows (suc k) q ss) o (or_enter k p.0 p.1)) ≡ option_and_then (λ q. at rows q ss) o
  step k p ss None rest = not_here k p.0 p.1
  step k p ss (Some q) rest = rest q

  parts_are : (path : List (List ℕ)) (k : ℕ) (p : InSlot) → part_of (reached rows k p path) ≡ at rows p path
  parts_are [] k p = refl
  parts_are (s ∷ ss) k p = step k p ss (part (seen rows p) s) (λ q. parts_are ss (suc k) q)

from_part : (r : Reach) (q : InSlot) → part_of r ≡ Some q → r ≡ here q
from_part (here p) q h = ap here (same_Some p q h)
from_part (enter p k) q h = absurd (none-some q h)
from_part (no_path k) q h = absurd (none-some q h)

pub reaches_parts : ReachesParts
reaches_parts rows k p q path = (
  λ h. sym (parts_are rows path k p) ∙ ap part_of h,
  λ h. from_part (reached rows k p path) q (parts_are rows path k p ∙ h),
)
