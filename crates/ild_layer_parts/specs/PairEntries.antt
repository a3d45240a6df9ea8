-- The pairs of a list that are left.
use Rattle.std.specs.Prelude.{◌≡◌, ◌≤◌, ℕ, ◌+◌, ◌*◌, List, [], ◌∷◌, length, map, Option, Some, None}
use Rattle.ild_data.specs.Data.{Data, items_of}
use Rattle.ild_data.specs.Limits.{longest_block}
use Rattle.ild_cbor.specs.declared.node.Node.{Node}
use Rattle.ild_cbor.specs.Nodes.{HasData}
use Rattle.ild_cbor.specs.Steps.{HasItems}
use Rattle.ild_schema.specs.declared.def.MapForm.TheVariants as MF
use Rattle.ild_schema.specs.declared.row.Row.{Row}
use Rattle.ild_typed.specs.Spots.{Spot, entry_spots, item, value_spot}
use Rattle.ild_typed.specs.Strings.{pair_data}
use Rattle.ild_layer_parts.specs.declared.pair_entries.PairEntries.{PairEntries}
use Rattle.ild_layer_parts.specs.declared.part.Part.{Part}
use Rattle.ild_layer_parts.specs.Entries.{held_count}
use Rattle.ild_layer_parts.specs.Part.{TakesSpot}

abbrev pub pairs_left : PairEntries → ℕ
pairs_left s = 2 * s.items.left + held_count s.held

-- the value whose key was handed out goes first
abbrev pub IsPairHeld : PairEntries → Option Node → List (List ℕ × Data) → List Spot → Type 0
IsPairHeld s None es ps = ps ≡ entry_spots MF.ListPairs s.key s.value s.place es
IsPairHeld s (Some x) es ps = (d : Data) × HasData x d × (ps ≡ value_spot s.value d (item s.place ∷ item 1 ∷ []) ∷ entry_spots MF.ListPairs s.key s.value (s.place + 1) es)

pub record HasPairs (s : PairEntries) (ps : List Spot) : Type 0 where
  pub entries : List (List ℕ × Data)
  pub left : HasItems s.items (items_of (map pair_data entries))
  pub few : s.place + held_count s.held + length entries ≤ longest_block
  pub is : IsPairHeld s s.held entries ps

abbrev pub SplitsPairs : List Row → List Spot → Option (Part × PairEntries) → Type 0
SplitsPairs rows ps None = ps ≡ []
SplitsPairs rows ps (Some r) = (rest : List Spot) × TakesSpot rows ps rest r.0 × HasPairs r.1 rest
