-- The laws of fronts, for values of a slot's type under the table of an accepted schema.
use Rattle.std.specs.Prelude.{◌≡◌, ℕ, Bool, true, false, List, Some, Ok, option_map}
use Rattle.ild_data.specs.Data.{Data}
use Rattle.ild_schema.specs.Clear.{IsSafe}
use Rattle.ild_schema.specs.declared.number.Slot.{Slot}
use Rattle.ild_schema.specs.declared.row.Row.{Row}
use Rattle.ild_schema.specs.Value.{Value}
use Rattle.ild_typed.specs.At.{InSlot, seen, at}
use Rattle.ild_typed.specs.Fits.{Fits, Front}
use Rattle.ild_typed.specs.Hamt.{alone, whole}
use Rattle.ild_typed.specs.OfType.{OfType, TestsKeys}
use Rattle.ild_typed.specs.Represented.{represented}
use Rattle.ild_typed.specs.Schema.{IsSchema}
use Rattle.ild_typed.specs.Segment.{part}
use Rattle.ild_path_edits.specs.Edit.{Edit, HasTextPath, new_slot, path_of, change}
use Rattle.ild_path_edits.specs.EditLaws.{Brings}
use Rattle.ild_path_edits.specs.Table.{slot_to_set, slot_to_insert, key_fits, refusal_to_delete}
use Rattle.ild_path_within.specs.Within.{with_part}
use Rattle.ild_typed_fronts.specs.Front.{front, front_in, edit_front, is_root, in_one_block}

-- a front has the data of its value
abbrev pub FrontsRepresent : Type 0
FrontsRepresent = (h : List ℕ → List ℕ) (rows : List Row) (s : Slot) (v : Value) → represented alone rows s (front h rows s v) ≡ represented (whole h) rows s v

-- it fits where the value does, and is the one front of these data
abbrev pub FrontsAreFronts : Type 0
FrontsAreFronts =
    (h : List ℕ → List ℕ) (rows : List Row) → IsSchema rows → (room : ℕ) (s : Slot) (v : Value) (t : Data) → IsSafe rows s → Fits rows room s v → represented (whole h) rows s v ≡ Some t
    → Front rows room s (front h rows s v) t

abbrev pub FrontsAreOne : Type 0
FrontsAreOne =
    (h : List ℕ → List ℕ) (rows : List Row) → IsSchema rows → (s : Slot) (v f : Value) (t : Data) → IsSafe rows s → represented (whole h) rows s v ≡ Some t → represented alone rows s f ≡ Some t → f ≡ front h rows s v

-- ---- of what is no HAMT by itself

-- its parts are the fronts of the value's parts
abbrev pub PartsOfFronts : Type 0
PartsOfFronts =
    (h : List ℕ → List ℕ) (rows : List Row) (is_key : ℕ → List ℕ → Bool) → IsSchema rows → TestsKeys rows is_key → (p : InSlot) (s : List ℕ)
    → OfType rows p.0 p.1 → is_root rows p ≡ false → part (seen rows (front_in h rows p)) s ≡ option_map (front_in h rows) (part (seen rows p) s)

-- and the table of edits allows of it what it allows of the value
pub record AllowsAlike (is_key : ℕ → List ℕ → Bool) (rows : List Row) (p q : InSlot) (s : List ℕ) : Type 0 where
  pub set : slot_to_set (seen rows q) s ≡ slot_to_set (seen rows p) s
  pub inserted : slot_to_insert (seen rows q) s ≡ slot_to_insert (seen rows p) s
  pub deleted : refusal_to_delete (seen rows q) s ≡ refusal_to_delete (seen rows p) s
  pub key : key_fits is_key (seen rows q) s ≡ key_fits is_key (seen rows p) s

abbrev pub TablesOfFronts : Type 0
TablesOfFronts =
    (h : List ℕ → List ℕ) (rows : List Row) (is_key : ℕ → List ℕ → Bool) → IsSchema rows → TestsKeys rows is_key → (p : InSlot) (s : List ℕ)
    → OfType rows p.0 p.1 → is_root rows p ≡ false → AllowsAlike is_key rows p (front_in h rows p) s

-- ---- along a path in one block

-- a path leads to the front of the part
abbrev pub PathsOfFronts : Type 0
PathsOfFronts =
    (h : List ℕ → List ℕ) (rows : List Row) (is_key : ℕ → List ℕ → Bool) → IsSchema rows → TestsKeys rows is_key → (p : InSlot) (path : List (List ℕ))
    → OfType rows p.0 p.1 → in_one_block rows p path ≡ true → at rows (front_in h rows p) path ≡ option_map (front_in h rows) (at rows p path)

-- the front of a value with another part is its front with the front of the part
abbrev pub WholesOfFronts : Type 0
WholesOfFronts =
    (h : List ℕ → List ℕ) (rows : List Row) (is_key : ℕ → List ℕ → Bool) → IsSchema rows → TestsKeys rows is_key → (p q : InSlot) (path : List (List ℕ)) (m : Value)
    → OfType rows p.0 p.1 → in_one_block rows p path ≡ true → at rows p path ≡ Some q → OfType rows q.0 m
    → with_part rows (front_in h rows p) path (front h rows q.0 m) ≡ front h rows p.0 (with_part rows p path m)

-- the edit that brings the front of its part makes of the front the front of what the edit makes
abbrev pub EditsOfFronts : Type 0
EditsOfFronts =
    (h : List ℕ → List ℕ) (rows : List Row) (is_key : ℕ → List ℕ → Bool) → IsSchema rows → TestsKeys rows is_key → (p : InSlot) (e : Edit Value) (c : Value)
    → HasTextPath e → Brings rows (OfType rows) p e → OfType rows p.0 p.1 → in_one_block rows p (path_of e) ≡ true → change rows is_key p e ≡ Ok c
    → change rows is_key (front_in h rows p) (edit_front h rows (new_slot rows p e) e) ≡ Ok (front h rows p.0 c)
