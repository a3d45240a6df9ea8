-- Edits at the keys of HAMTs, which stand in no text (IPLD HashMap).
use Rattle.std.specs.Prelude.{◌≡◌, ℕ, Bool, IsUtf8, List, [], ◌∷◌, ◌++◌, Some, Ok, false}
use Rattle.ild_data.specs.Data.{Data}
use Rattle.ild_path_edits.specs.Edit.{Edit, change, del_at, ins_at, path_of, set_at}
use Rattle.ild_path_nodes.specs.NodeLaws.{IsHamt}
use Rattle.ild_path_within.specs.Within.{moved}
use Rattle.ild_schema.specs.declared.number.Slot.{Slot}
use Rattle.ild_schema.specs.declared.row.Row.{Row}
use Rattle.ild_schema.specs.Value.{Pairs, Value, map}
use Rattle.ild_typed.specs.At.{InSlot, at}
use Rattle.ild_typed.specs.Hamt.{whole}
use Rattle.ild_typed.specs.Judged.{breaks_delimiter}
use Rattle.ild_typed.specs.OfType.{OfType, TestsKeys}
use Rattle.ild_typed.specs.Represented.{represented}
use Rattle.ild_typed.specs.Schema.{IsSchema}

-- what comes, if anything does, is of the slot and breaks no delimiter by itself
abbrev pub BringsSound : List Row → Slot → Edit Value → Type 0
BringsSound rows slot (set_at path w) = OfType rows slot w × (breaks_delimiter rows slot w ≡ false)
BringsSound rows slot (ins_at path w) = OfType rows slot w × (breaks_delimiter rows slot w ≡ false)
BringsSound rows slot (del_at path) = Unit {0}

-- an edit at a key of a HAMT breaks no delimiter
abbrev pub KeysBreakNothing : Type 0
KeysBreakNothing =
    (h : List ℕ → List ℕ) (rows : List Row) (is_key : ℕ → List ℕ → Bool) → IsSchema rows → TestsKeys rows is_key
    → (p : InSlot) (path : List (List ℕ)) (slot elem : Slot) (ps : Pairs) (d : Data) (k : List ℕ) (e : Edit Value) (c : Value)
    → OfType rows p.0 p.1 → represented (whole h) rows p.0 p.1 ≡ Some d → at rows p path ≡ Some (slot, map ps) → IsHamt rows slot elem → IsUtf8 k
    → path_of e ≡ k ∷ [] → BringsSound rows elem e → change rows is_key p (moved (path ++ path_of e) e) ≡ Ok c
    → breaks_delimiter rows p.0 c ≡ false
