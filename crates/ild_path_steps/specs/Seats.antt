-- Where a pair stands in a list of pairs, by its key.
use Rattle.std.specs.Prelude.{◌≡◌, ℕ, is_some, List, Option, map}
use Rattle.ild_cbor.specs.Steps.{HasItems}
use Rattle.ild_cbor.specs.declared.items.Items.{Items}
use Rattle.ild_data.specs.Data as T
use Rattle.ild_data.specs.Data.{Data}
use Rattle.ild_path_steps.specs.declared.pair.Seat.{Seat}
use Rattle.ild_typed.specs.Strings.{pair_data}

-- an iterator that has these pairs left
abbrev pub HasPairs : Items → List (List ℕ × Data) → Type 0
HasPairs s es = HasItems s (T.items_of (map pair_data es))

-- the place, and whether there is something
pub record IsSeat (seat : Seat) (place : ℕ) (there : Option Data) : Type 0 where
  pub place_is : seat.place ≡ place
  pub there_is : seat.there ≡ is_some there
