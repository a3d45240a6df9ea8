-- The pairs of a text that are left.
use Rattle.std.specs.Prelude.{◌≡◌, ℕ, ◌+◌, ◌*◌, List, [], ◌∷◌, length, Option, Some, None}
use Rattle.std.specs.Borrow.{Bor}
use Rattle.ild_data.specs.Data.{text}
use Rattle.ild_schema.specs.declared.def.MapForm.TheVariants as MF
use Rattle.ild_schema.specs.declared.row.Row.{Row}
use Rattle.ild_layer_fields.specs.Entries.{text_entries}
use Rattle.ild_text.specs.Parts.{pairs_in}
use Rattle.ild_typed.specs.Spots.{Spot, entry_spots, value_spot}
use Rattle.ild_layer_parts.specs.declared.part.Part.{Part}
use Rattle.ild_layer_parts.specs.declared.text_entries.TextEntries.{TextEntries}
use Rattle.ild_layer_parts.specs.Entries.{held_count}
use Rattle.ild_layer_parts.specs.Part.{TakesSpot}

abbrev pub texts_left : TextEntries → ℕ
texts_left s = 2 * length (pairs_in s.split) + held_count s.held

-- the value whose key was handed out goes first
abbrev pub IsTextHeld : TextEntries → Option (Bor (List ℕ)) → List Spot → List Spot → Type 0
IsTextHeld s None rest ps = ps ≡ rest
IsTextHeld s (Some x) rest ps = ps ≡ value_spot s.value (text x.now) [] ∷ rest

pub record HasTexts (s : TextEntries) (ps : List Spot) : Type 0 where
  pub inner : List ℕ
  pub entry : List ℕ
  pub at : ℕ
  pub is : IsTextHeld s s.held (entry_spots (MF.StringPairs inner entry) s.key s.value at (text_entries (pairs_in s.split))) ps

abbrev pub SplitsTexts : List Row → List Spot → Option (Part × TextEntries) → Type 0
SplitsTexts rows ps None = ps ≡ []
SplitsTexts rows ps (Some r) = (rest : List Spot) × TakesSpot rows ps rest r.0 × HasTexts r.1 rest
