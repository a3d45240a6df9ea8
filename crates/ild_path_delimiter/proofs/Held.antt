-- What a holder with data is held by.
use Rattle.std.proofs.Common.{◌≡◌, List, true, false, Some, sym, ◌∙◌, ap}
use Rattle.ild_data.specs.Data.{Data}
use Rattle.ild_path_holder.specs.Along.{is_holder}
use Rattle.ild_path_steps.proofs.Holding.{Held, held_by}
use Rattle.ild_schema.specs.Slots.{form_of}
use Rattle.ild_schema.specs.declared.def.TypeDef.{TypeDef}
use Rattle.ild_schema.specs.declared.row.Row.{Row}
use Rattle.ild_typed.proofs.OneValue.{Way, as_layer, as_null, way_of}
use Rattle.ild_typed.specs.At.{InSlot, seen}
use Rattle.ild_typed.specs.Hamt.{alone}
use Rattle.ild_typed.specs.Represented.{represented}

pub record IsHeld (rows : List Row) (p : InSlot) (t : Data) : Type 0 where
  pub type : TypeDef
  pub known : form_of rows p.0 ≡ Some type
  pub held : Held rows type (seen rows p) t

pub is_held : (rows : List Row) (p : InSlot) (t : Data) → represented alone rows p.0 p.1 ≡ Some t → is_holder (seen rows p) ≡ true → IsHeld rows p t
is_held rows p t made holds = by (way_of alone rows p.0 p.1 t made) where
  by : Way alone rows p.0 p.1 t → IsHeld rows p t
  by (as_null a n z) = let wrong : false ≡ true = sym (ap (λ v. is_holder (seen rows (p.0, v))) a) ∙ holds in absurd cc
  by (as_layer d l is has done) = record { type = d; known = is; held = held_by rows p.0 t d is p.1 made }
