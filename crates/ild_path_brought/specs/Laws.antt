-- The laws of the part that an edit brings: what is in the part is in the changed value.
use Rattle.std.specs.Prelude.{◌≡◌, ◌<◌, ℕ, IsUtf8, List, ◌∷◌, length, Bool, true, Some, Ok, Contains}
use Rattle.std.specs.List.{AllByRecursion}
use Rattle.ild_bulk.specs.Build.{any_long}
use Rattle.ild_data.specs.Data.{Data}
use Rattle.ild_data.specs.Limits.{longest_block}
use Rattle.ild_data.specs.Spell.{spell}
use Rattle.ild_schema.specs.declared.number.Slot.{Slot}
use Rattle.ild_schema.specs.declared.row.Row.{Row}
use Rattle.ild_schema.specs.Value.{Value}
use Rattle.ild_typed.specs.At.{InSlot}
use Rattle.ild_typed.specs.Blocks.{nodes}
use Rattle.ild_typed.specs.Hamt.{whole}
use Rattle.ild_typed.specs.OfType.{OfType, TestsKeys}
use Rattle.ild_typed.specs.Represented.{represented}
use Rattle.ild_typed.specs.Schema.{IsSchema}
use Rattle.ild_typed_places.specs.Parts.{LieIn}
use Rattle.ild_typed_places.specs.Places.{places_in}
use Rattle.ild_path_edits.specs.Edit.{new_slot, change}
use Rattle.ild_path_judged.specs.Place.{bringing}
use Rattle.ild_path_room.specs.Room.{Coming}

-- The part w of the slot is set or inserted at a path in the value p, which is then c.
pub record IsBrought (rows : List Row) (is_key : ℕ → List ℕ → Bool) (p : InSlot) (how : Coming) (path : List (List ℕ)) (slot : Slot) (w c : Value) : Type 0 where
  pub schema : IsSchema rows
  pub keys : TestsKeys rows is_key
  pub typed : OfType rows p.0 p.1
  pub texts : AllByRecursion IsUtf8 path
  pub goes : new_slot rows p (bringing how path w) ≡ Some slot
  pub part : OfType rows slot w
  pub made : change rows is_key p (bringing how path w) ≡ Ok c

-- its places are places in the changed value
abbrev pub PlacesOfBrought : Type 0
PlacesOfBrought =
    (h : List ℕ → List ℕ) (rows : List Row) (is_key : ℕ → List ℕ → Bool) (p : InSlot) (how : Coming) (path : List (List ℕ)) (slot : Slot) (w c : Value)
    → IsBrought rows is_key p how path slot w c → LieIn (places_in h rows slot w) (places_in h rows p.0 c)

-- so are its nodes nodes
abbrev pub NodesOfBrought : Type 0
NodesOfBrought =
    (h : List ℕ → List ℕ) (rows : List Row) (is_key : ℕ → List ℕ → Bool) (p : InSlot) (how : Coming) (path : List (List ℕ)) (slot : Slot) (w c : Value)
    → IsBrought rows is_key p how path slot w c → AllByRecursion (Contains (nodes h rows p.0 c)) (nodes h rows slot w)

-- where the part is longer than a block may be, a block of the changed value is
abbrev pub LongBrought : Type 0
LongBrought =
    (h : List ℕ → List ℕ) (rows : List Row) (is_key : ℕ → List ℕ → Bool) (p : InSlot) (how : Coming) (path : List (List ℕ)) (slot : Slot) (w c : Value)
    → IsBrought rows is_key p how path slot w c → (x u : Data) → represented (whole h) rows slot w ≡ Some x → represented (whole h) rows p.0 c ≡ Some u
    → longest_block < length (spell x) → any_long (spell u ∷ nodes h rows p.0 c) ≡ true
