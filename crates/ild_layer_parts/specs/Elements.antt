-- The elements of a list that are left.
use Rattle.std.specs.Prelude.{◌≡◌, ◌≤◌, ◌+◌, ℕ, List, [], length, Option, Some, None}
use Rattle.ild_data.specs.Data.{Items, items_list}
use Rattle.ild_data.specs.Limits.{longest_block}
use Rattle.ild_cbor.specs.Steps.{HasItems}
use Rattle.ild_schema.specs.declared.row.Row.{Row}
use Rattle.ild_typed.specs.Spots.{Spot, element_spots}
use Rattle.ild_layer_parts.specs.declared.elements.Elements.{Elements}
use Rattle.ild_layer_parts.specs.declared.part.Part.{Part}
use Rattle.ild_layer_parts.specs.Part.{TakesSpot}

abbrev pub elements_left : Elements → ℕ
elements_left s = s.items.left

pub record HasElements (s : Elements) (ps : List Spot) : Type 0 where
  pub items : Items
  pub left : HasItems s.items items
  pub few : s.place + length (items_list items) ≤ longest_block
  pub is : ps ≡ element_spots s.slot s.place (items_list items)

abbrev pub SplitsElements : List Row → List Spot → Option (Part × Elements) → Type 0
SplitsElements rows ps None = ps ≡ []
SplitsElements rows ps (Some r) = (rest : List Spot) × TakesSpot rows ps rest r.0 × HasElements r.1 rest
