-- What an edit of a place's pieces answers.
use Rattle.std.specs.Prelude.{◌≡◌, ℕ, Bool, List, Some, Result}
use Rattle.ild_data.specs.Data.{Data}
use Rattle.ild_data.specs.Limits.{deepest}
use Rattle.ild_edges.specs.Store.{Moment}
use Rattle.ild_path_block.specs.declared.edit.PartEdit.{PartEdit}
use Rattle.ild_path_ends.specs.Parts.{IsChange}
use Rattle.ild_path_place.specs.declared.parts.Parts.{Parts}
use Rattle.ild_path.specs.inside.Pieces.{ArePieces}
use Rattle.ild_path.specs.Replaces.{Replaces}
use Rattle.ild_path.specs.declared.fault.EditFault.{EditFault}
use Rattle.ild_schema.specs.Slots.{plainly}
use Rattle.ild_schema.specs.Value.{Value}
use Rattle.ild_schema.specs.declared.number.TypeNo.{TypeNo}
use Rattle.ild_view.specs.View.{slot_of, table_of}

abbrev pub ReplacesParts : (List ℕ → List ℕ) → Parts → PartEdit → Moment → Result (List ℕ) EditFault → Moment → Type 0
ReplacesParts h parts edit m result k =
    (is_key : ℕ → List ℕ → Bool) (was : List (List ℕ)) (n : TypeNo) (v w c : Value) (u : Data) (path : List (List ℕ)) → m.blocks ≡ Some was → slot_of parts.root ≡ plainly n
    → ArePieces h is_key was parts.root parts.hops.items parts.end v path
    → IsChange h (table_of parts.root) is_key was deepest (slot_of parts.root, v) path edit w c u → Replaces h (table_of parts.root) n path c u m result k
