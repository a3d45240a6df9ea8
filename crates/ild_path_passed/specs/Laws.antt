-- The laws of places that an edit passes on (IPLD HashMap, "Element").
use Rattle.std.specs.Prelude.{◌≡◌, ℕ, List, Bool, Contains, Some, Ok}
use Rattle.ild_edges.specs.Gained.{AreIdsGiven}
use Rattle.ild_data.specs.Data.{Data}
use Rattle.ild_schema.specs.declared.number.TypeNo.{TypeNo}
use Rattle.ild_schema.specs.declared.row.Row.{Row}
use Rattle.ild_schema.specs.Slots.{plainly}
use Rattle.ild_schema.specs.Value.{Value}
use Rattle.ild_typed.specs.At.{InSlot}
use Rattle.ild_typed.specs.Hamt.{whole}
use Rattle.ild_typed.specs.OfType.{OfType, TestsKeys}
use Rattle.ild_typed.specs.Represented.{represented}
use Rattle.ild_typed.specs.Schema.{IsSchema}
use Rattle.ild_typed.specs.Stands.{Frame, root_id}
use Rattle.ild_typed_places.specs.Carried.{Passed}
use Rattle.ild_typed_places.specs.Places.{places_in, value_places}
use Rattle.ild_path_edits.specs.Edit.{Edit, HasTextPath, new_slot, path_of, change}
use Rattle.ild_path_edits.specs.EditLaws.{Brings}
use Rattle.ild_path_nodes.specs.NodeLaws.{nodes_brought}
use Rattle.ild_path_way.specs.Way.{nodes_met}

-- Where the nodes on the way of the edit's path in the changed value are given, and those of the part that it brings, each place of the
-- changed value was there before with all beneath it, or is given.
abbrev pub EditsPass : Type 0
EditsPass =
    (h : List ℕ → List ℕ) (rows : List Row) (is_key : ℕ → List ℕ → Bool) → IsSchema rows → TestsKeys rows is_key → (given : List (List ℕ)) (p : InSlot) (t : Data) (e : Edit Value) (c : Value)
    → HasTextPath e → Brings rows (OfType rows) p e → OfType rows p.0 p.1 → represented (whole h) rows p.0 p.1 ≡ Some t → change rows is_key p e ≡ Ok c
    → AreIdsGiven (nodes_met h rows (p.0, c) (path_of e)) given → AreIdsGiven (nodes_brought h rows (new_slot rows p e) e) given → Passed given (places_in h rows p.0 p.1) (places_in h rows p.0 c)

-- and so are those of the whole value, its root block's place too, where that is given
abbrev pub ValuesPass : Type 0
ValuesPass =
    (f : Frame) (h : List ℕ → List ℕ) (rows : List Row) (n : TypeNo) (v c : Value) (t u : Data) (given : List (List ℕ))
    → Contains given (root_id f u) → Passed given (places_in h rows (plainly n) v) (places_in h rows (plainly n) c) → Passed given (value_places f h rows n v t) (value_places f h rows n c u)
