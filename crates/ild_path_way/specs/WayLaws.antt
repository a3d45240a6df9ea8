-- The laws of the nodes on the way of a path.
use Rattle.std.specs.Prelude.{◌≡◌, ℕ, Bool, true, List, [], ◌++◌, Some, Ok}
use Rattle.ild_schema.specs.declared.row.Row.{Row}
use Rattle.ild_schema.specs.Value.{Value}
use Rattle.ild_typed.specs.At.{InSlot, at}
use Rattle.ild_typed.specs.OfType.{OfType, TestsKeys}
use Rattle.ild_typed.specs.Schema.{IsSchema}
use Rattle.ild_path_edits.specs.Edit.{Edit, HasTextPath, path_of, change}
use Rattle.ild_path_edits.specs.EditLaws.{Brings}
use Rattle.ild_path_within.specs.Within.{with_part}
use Rattle.ild_typed_fronts.specs.Front.{in_one_block}
use Rattle.ild_path_way.specs.Way.{nodes_met}

-- of a path in two pieces, those of the first and those of the second from the part at the end of the first
abbrev pub NodesSplit : Type 0
NodesSplit =
    (h : List ℕ → List ℕ) (rows : List Row) (p q : InSlot) (front behind : List (List ℕ))
    → at rows p front ≡ Some q → nodes_met h rows p (front ++ behind) ≡ nodes_met h rows p front ++ nodes_met h rows q behind

-- in one block there are none
abbrev pub NoneInOneBlock : Type 0
NoneInOneBlock = (h : List ℕ → List ℕ) (rows : List Row) (p : InSlot) (path : List (List ℕ)) → in_one_block rows p path ≡ true → nodes_met h rows p path ≡ []

-- a path in one block stays so where the part at its end becomes another, or an edit is made at its end
abbrev pub BlocksStay : Type 0
BlocksStay =
    (rows : List Row) (is_key : ℕ → List ℕ → Bool) → IsSchema rows → TestsKeys rows is_key → (p q : InSlot) (path : List (List ℕ)) (m : Value)
    → OfType rows p.0 p.1 → in_one_block rows p path ≡ true → at rows p path ≡ Some q → OfType rows q.0 m → in_one_block rows (p.0, with_part rows p path m) path ≡ true

abbrev pub EditsStay : Type 0
EditsStay =
    (rows : List Row) (is_key : ℕ → List ℕ → Bool) → IsSchema rows → TestsKeys rows is_key → (p : InSlot) (e : Edit Value) (c : Value)
    → HasTextPath e → Brings rows (OfType rows) p e → OfType rows p.0 p.1 → in_one_block rows p (path_of e) ≡ true → change rows is_key p e ≡ Ok c → in_one_block rows (p.0, c) (path_of e) ≡ true
