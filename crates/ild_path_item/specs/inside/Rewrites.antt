-- What is answered of the item of a form whose rules may refuse it, by the data that the holder becomes.
use Rattle.std.specs.Prelude.{◌≡◌, ◌<◌, ℕ, Bool, true, false, List, length, Option, Some, None, Result, option_and_then, option_map, slice_set}
use Rattle.std.specs.declared.alloc.AllocError.{AllocError}
use Rattle.ild_cbor.specs.declared.node.Node.{Node}
use Rattle.ild_data.specs.Data as T
use Rattle.ild_data.specs.Data.{Data}
use Rattle.ild_path_apply.specs.Applies.{is_whole}
use Rattle.ild_path_block.specs.Items.{MakesItem, MakesNone}
use Rattle.ild_path_item.specs.Texts.{Tells}
use Rattle.ild_path_last.specs.Change.{NewIs, located}
use Rattle.ild_path_last.specs.declared.change.LastChange.{LastChange}
use Rattle.ild_splice.specs.declared.error.SpliceErr.{SpliceErr}
use Rattle.ild_splice_changes.specs.TreeChange.{applied}
use Rattle.ild_typed.specs.Texts.{join}

-- the item of the data, and none where there are no data
abbrev pub Rewrites : Option Data → Result (Option (List ℕ)) SpliceErr → Type 0
Rewrites None result = MakesNone result
Rewrites (Some u) result = MakesItem u result

-- the text of parts of which the one at a place is a new one
abbrev pub joined_with : List ℕ → List (List ℕ) → ℕ → Option (List ℕ) → Option Data
joined_with delim parts place new = option_map T.text (option_and_then (λ s. join delim (slice_set parts place s)) new)

-- of a text of so many parts, the one at a place becomes a new one
abbrev pub TellsJoined : List ℕ → List ℕ → ℕ → ℕ → Option (List ℕ) → Result (Option (List ℕ)) AllocError → Type 0
TellsJoined delim old count place new result = (parts : List (List ℕ)) → join delim parts ≡ Some old → length parts ≡ count → place < count → Tells (joined_with delim parts place new) result

-- the item of the data with a change by which no item is replaced as a whole
abbrev pub MakesChanged : Data → LastChange → Option Node → Result (Option (List ℕ)) SpliceErr → Type 0
MakesChanged t change new result = (x u : Option Data) → is_whole change ≡ false → NewIs new x → MakesItem (applied (located change x u) t) result

-- lists and maps
abbrev pub has_parts : Data → Bool
has_parts T.null = false
has_parts (T.boolean b) = false
has_parts (T.integer n) = false
has_parts (T.text s) = false
has_parts (T.bytes s) = false
has_parts (T.list ds) = true
has_parts (T.map ms) = true
has_parts (T.link s) = false
