-- What a value answers at a path: the part to which it leads, as its representation is spelled, or from which segment on it leads nowhere.
use Rattle.std.specs.Prelude.{ℕ, ◌+◌, List, [], ◌∷◌, Option, Some, option_map}
use Rattle.std.specs.Option.{option_map_or}
use Rattle.ild_data.specs.Spell.{spell}
use Rattle.ild_schema.specs.declared.row.Row.{Row}
use Rattle.ild_typed.specs.At.{InSlot, seen}
use Rattle.ild_typed.specs.Hamt.{whole}
use Rattle.ild_typed.specs.Represented.{represented}
use Rattle.ild_typed.specs.Segment.{part}
use Rattle.ild_inclusion.specs.declared.answer.Answer.{Answer}
use Rattle.ild_inclusion.specs.declared.answer.Answer.TheVariants as A

-- segments are counted from k on
abbrev pub answered : (List ℕ → List ℕ) → List Row → ℕ → InSlot → List (List ℕ) → Option Answer
answered h rows k p [] = option_map (λ d. A.Here (spell d)) (represented (whole h) rows p.0 p.1)
answered h rows k p (s ∷ ss) = option_map_or (λ q. answered h rows (k + 1) q ss) (part (seen rows p) s) (Some (A.Absent k))
