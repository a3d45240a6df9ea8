-- Whether an edit of a part breaks a delimiter rule, told at the view of a value that broke none.
use Rattle.std.specs.Prelude.{◌≡◌, ℕ, Bool, IfOk, List, Result, Ok}
use Rattle.std.specs.declared.alloc.AllocError.{AllocError}
use Rattle.ild_path_delimiter.specs.TextEdits.{TextIs, edit_of}
use Rattle.ild_path_delimiter.specs.declared.delimiter.TextEdit.{TextEdit}
use Rattle.ild_path_edit.specs.Holders.{AreHolders}
use Rattle.ild_path_edits.specs.Along.{IsFree}
use Rattle.ild_path_edits.specs.Edit.{change}
use Rattle.ild_schema.specs.Value.{Value}
use Rattle.ild_typed.specs.Judged.{breaks, breaks_delimiter}
use Rattle.ild_typed.specs.OfType.{TestsKeys}
use Rattle.ild_view.specs.View.{IsView, slot_of, table_of}
use Rattle.ild_view.specs.declared.view.View.{View}

-- the views of the holders on a path
abbrev pub AreHoldersOf : View → List (List ℕ) → List View → Type 0
AreHoldersOf root path views = (f : Value) → IsView root f → AreHolders (table_of root) (slot_of root, f) path views

-- whether the edit breaks one
abbrev pub TellsOfTextEdit : View → List (List ℕ) → TextEdit → Result Bool AllocError → Type 0
TellsOfTextEdit root path edit result =
    (is_key : ℕ → List ℕ → Bool) (f c w : Value) → TestsKeys (table_of root) is_key → IsView root f
    → IsFree (breaks (table_of root)) (table_of root) (slot_of root) f → TextIs (table_of root) (slot_of root, f) path edit w
    → change (table_of root) is_key (slot_of root, f) (edit_of edit w path) ≡ Ok c → IfOk result (λ b. b ≡ breaks_delimiter (table_of root) (slot_of root) c)
