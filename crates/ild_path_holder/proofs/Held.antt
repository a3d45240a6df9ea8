-- Where a segment leads to a part, the type of the holder is known, and what holds the part.
use Rattle.std.proofs.Common.{◌≡◌, ℕ, List, Some, sym, ◌∙◌, ap}
use Rattle.std.proofs.lemmas.Option.{none-some}
use Rattle.ild_data.specs.Data.{Data}
use Rattle.ild_schema.specs.Slots.{form_of}
use Rattle.ild_schema.specs.Value.{Value}
use Rattle.ild_schema.specs.declared.def.TypeDef.{TypeDef}
use Rattle.ild_schema.specs.declared.number.Slot.{Slot}
use Rattle.ild_schema.specs.declared.row.Row.{Row}
use Rattle.ild_path_steps.proofs.Holding.{Held, held_by}
use Rattle.ild_typed.specs.At.{InSlot, seen}
use Rattle.ild_typed.specs.Hamt.{alone}
use Rattle.ild_typed.specs.Represented.{represented}
use Rattle.ild_typed.specs.Segment.{part}
use Rattle.ild_typed.proofs.OneValue.{Way, as_layer, as_null, way_of}

-- a value in which a segment leads to a part is no null: its type is known, and what holds the part
pub record IsHeld (rows : List Row) (slot : Slot) (f : Value) (t : Data) : Type 0 where
  pub type : TypeDef
  pub known : form_of rows slot ≡ Some type
  pub held : Held rows type (seen rows (slot, f)) t

pub is_held : (rows : List Row) (slot : Slot) (f : Value) (t : Data) (s : List ℕ) (q : InSlot) → represented alone rows slot f ≡ Some t → part (seen rows (slot, f)) s ≡ Some q → IsHeld rows slot f t
is_held rows slot f t s q made there = by (way_of alone rows slot f t made) where
  by : Way alone rows slot f t → IsHeld rows slot f t
  by (as_null a n z) = absurd (none-some q (sym (ap (λ v. part (seen rows (slot, v)) s) a) ∙ there))
  by (as_layer d l is has done) = record { type = d; known = is; held = held_by rows slot t d is f made }
