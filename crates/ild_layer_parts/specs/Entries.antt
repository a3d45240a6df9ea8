-- The entries of a map that are left.
use Rattle.std.specs.Prelude.{◌≡◌, ℕ, ◌+◌, ◌*◌, List, [], ◌∷◌, Option, Some, None}
use Rattle.std.specs.Borrow.{Bor}
use Rattle.ild_data.specs.Data.{Data}
use Rattle.ild_cbor.specs.declared.node.Node.{Node}
use Rattle.ild_cbor.specs.Nodes.{HasData}
use Rattle.ild_layer_piece.specs.Entries.{HasLeft}
use Rattle.ild_schema.specs.declared.def.MapForm.TheVariants as MF
use Rattle.ild_schema.specs.declared.row.Row.{Row}
use Rattle.ild_typed.specs.Spots.{Spot, entry_spots, value_spot, under}
use Rattle.ild_layer_parts.specs.declared.entries.Entries.{Entries}
use Rattle.ild_layer_parts.specs.declared.part.Part.{Part}
use Rattle.ild_layer_parts.specs.Part.{TakesSpot}

-- how many parts, where a value counts one and an entry two
abbrev pub held_count : {A : Type 0} → Option A → ℕ
held_count None = 0
held_count (Some a) = 1

abbrev pub entries_left : Entries → ℕ
entries_left s = 2 * s.left.pairs.left + held_count s.held

-- the value whose key was handed out goes first
abbrev pub FirstIsHeld : Entries → Option (Bor (List ℕ) × Node) → List Spot → List Spot → Type 0
FirstIsHeld s None rest ps = ps ≡ rest
FirstIsHeld s (Some x) rest ps = (d : Data) × HasData x.1 d × (ps ≡ value_spot s.value d (under x.0.now ∷ []) ∷ rest)

pub record HasEntries (s : Entries) (ps : List Spot) : Type 0 where
  pub entries : List (List ℕ × Data)
  pub left : HasLeft s.left entries
  pub at : ℕ
  pub is : FirstIsHeld s s.held (entry_spots MF.Map s.key s.value at entries) ps

abbrev pub SplitsEntries : List Row → List Spot → Option (Part × Entries) → Type 0
SplitsEntries rows ps None = ps ≡ []
SplitsEntries rows ps (Some r) = (rest : List Spot) × TakesSpot rows ps rest r.0 × HasEntries r.1 rest
