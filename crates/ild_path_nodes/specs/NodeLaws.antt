-- The laws of the nodes of HAMTs in values: which there are in a part, and in what an edit makes.
use Rattle.std.specs.Prelude.{◌≡◌, ℕ, Bool, true, List, [], ◌++◌, Option, Some, Ok}
use Rattle.std.specs.Option.{option_map_or}
use Rattle.ild_data.specs.Among.{AreAmong}
use Rattle.ild_data.specs.Key.{put, without}
use Rattle.ild_data.specs.declared.hamt_shape.HamtShape.{HamtShape}
use Rattle.ild_schema.specs.declared.def.MapForm.TheVariants as MF
use Rattle.ild_schema.specs.declared.def.TypeDef.TheVariants as D
use Rattle.ild_schema.specs.declared.number.Slot.{Slot}
use Rattle.ild_schema.specs.declared.number.TypeNo.{TypeNo}
use Rattle.ild_schema.specs.declared.row.Row.{Row}
use Rattle.ild_schema.specs.Slots.{form_of}
use Rattle.ild_schema.specs.Value.{Value, Pairs, map, pairs_of, pairs_list}
use Rattle.ild_typed.specs.At.{InSlot, at}
use Rattle.ild_typed.specs.Blocks.{nodes, hamt_nodes}
use Rattle.ild_typed.specs.Hamt.{whole}
use Rattle.ild_typed.specs.OfType.{OfType, TestsKeys}
use Rattle.ild_typed.specs.Represented.{represented_pairs}
use Rattle.ild_typed.specs.Schema.{IsSchema}
use Rattle.ild_path_edits.specs.Edit.{Edit, HasTextPath, new_slot, path_of, change, set_at, ins_at, del_at}
use Rattle.ild_path_edits.specs.EditLaws.{Brings}
use Rattle.ild_path_within.specs.Within.{with_part}
use Rattle.ild_typed_fronts.specs.Front.{in_one_block}

abbrev pub nodes_in : (List ℕ → List ℕ) → List Row → InSlot → List (List ℕ)
nodes_in h rows p = nodes h rows p.0 p.1

-- the nodes of a part are nodes of the whole
abbrev pub NodesOfParts : Type 0
NodesOfParts =
    (h : List ℕ → List ℕ) (rows : List Row) (is_key : ℕ → List ℕ → Bool) → IsSchema rows → TestsKeys rows is_key → (p q : InSlot) (path : List (List ℕ))
    → OfType rows p.0 p.1 → at rows p path ≡ Some q → AreAmong (nodes_in h rows q) (nodes_in h rows p)

-- those of a value with another part, where the path to it is in one block, are nodes of the value or of that part
abbrev pub NodesOfWholes : Type 0
NodesOfWholes =
    (h : List ℕ → List ℕ) (rows : List Row) (is_key : ℕ → List ℕ → Bool) → IsSchema rows → TestsKeys rows is_key → (p q : InSlot) (path : List (List ℕ)) (m : Value)
    → OfType rows p.0 p.1 → in_one_block rows p path ≡ true → at rows p path ≡ Some q → OfType rows q.0 m
    → AreAmong (nodes h rows p.0 (with_part rows p path m)) (nodes_in h rows p ++ nodes h rows q.0 m)

-- those of the part that an edit brings to a slot
abbrev pub nodes_brought : (List ℕ → List ℕ) → List Row → Option Slot → Edit Value → List (List ℕ)
nodes_brought h rows o (set_at path w) = option_map_or (λ s. nodes h rows s w) o []
nodes_brought h rows o (ins_at path w) = option_map_or (λ s. nodes h rows s w) o []
nodes_brought h rows o (del_at path) = []

-- those of what an edit in one block makes are nodes of the value or of the part that it brings
abbrev pub NodesOfEdits : Type 0
NodesOfEdits =
    (h : List ℕ → List ℕ) (rows : List Row) (is_key : ℕ → List ℕ → Bool) → IsSchema rows → TestsKeys rows is_key → (p : InSlot) (e : Edit Value) (c : Value)
    → HasTextPath e → Brings rows (OfType rows) p e → OfType rows p.0 p.1 → in_one_block rows p (path_of e) ≡ true → change rows is_key p e ≡ Ok c
    → AreAmong (nodes h rows p.0 c) (nodes_in h rows p ++ nodes_brought h rows (new_slot rows p e) e)

-- ---- a HAMT whose entry at a key is another, or goes

-- its own nodes: those beneath its root
abbrev pub own_nodes : (List ℕ → List ℕ) → List Row → Slot → Slot → List (List ℕ × Value) → List (List ℕ)
own_nodes h rows s elem ps = hamt_nodes h (form_of rows s) (represented_pairs (whole h) rows elem (pairs_of ps))

abbrev pub IsHamt : List Row → Slot → Slot → Type 0
IsHamt rows s elem = (key : TypeNo) × (key_at : ℕ) × (place : ℕ) × (p : HamtShape) × (form_of rows s ≡ Some (D.Map key key_at elem place (MF.Hamt p)))

-- its nodes are its own, those of the other entries and those of the new value
abbrev pub NodesOfHamts : Type 0
NodesOfHamts =
    (h : List ℕ → List ℕ) (rows : List Row) (s elem : Slot) (ps : Pairs) (k : List ℕ) (w : Value) → IsHamt rows s elem
    → AreAmong (nodes h rows s (map (pairs_of (put k w (pairs_list ps))))) (own_nodes h rows s elem (put k w (pairs_list ps)) ++ (nodes h rows s (map ps) ++ nodes h rows elem w))
    × AreAmong (nodes h rows s (map (pairs_of (without k (pairs_list ps))))) (own_nodes h rows s elem (without k (pairs_list ps)) ++ nodes h rows s (map ps))
    × AreAmong (own_nodes h rows s elem (pairs_list ps)) (nodes h rows s (map ps))
