-- Values of a type that have a representation but for their HAMTs, and so their parts (IPLD Schemas, "typed nodes").
use Rattle.std.specs.Prelude.{◌≡◌, ℕ, ◌+◌, ◌≤◌, true, false, List, Option, Some, IsUtf8, slice_get}
use Rattle.std.specs.List.{AllByRecursion}
use Rattle.ild_data.specs.Key.{Rises}
use Rattle.ild_data.specs.Limits.{deepest}
use Rattle.ild_schema.specs.declared.number.Slot.{Slot}
use Rattle.ild_schema.specs.declared.def.TypeDef.TheVariants as D
use Rattle.ild_schema.specs.declared.def.StructDef.{StructDef}
use Rattle.ild_schema.specs.declared.def.Field.{Field}
use Rattle.ild_schema.specs.declared.row.Row.{Row}
use Rattle.ild_schema.specs.Marks.{field_text}
use Rattle.ild_schema.specs.Slots.{form_of}
use Rattle.ild_schema.specs.Value.{Value}
use Rattle.ild_schema.specs.Whole.{is_whole}
use Rattle.ild_typed.specs.Fits.{Fits}
use Rattle.ild_typed.specs.Judged.{breaks_delimiter, has_hole}
use Rattle.ild_build.specs.PartAt.{field_at}

-- it nests at most as deep as a block may, has no hole and breaks no delimiter
pub record FitsIn (rows : List Row) (s : Slot) (v : Value) : Type 0 where
  pub room : ℕ
  pub low : room ≤ deepest
  pub fits : Fits rows room s v
  pub whole : is_whole v ≡ true
  pub hole : has_hole rows s v ≡ false
  pub joined : breaks_delimiter rows s v ≡ false

abbrev pub ItemsFit : List Row → Slot → List Value → Type 0
ItemsFit rows s vs = (i : ℕ) (w : Value) → slice_get vs i ≡ Some w → FitsIn rows s w

abbrev pub EntriesFit : List Row → Slot → List (List ℕ × Value) → Type 0
EntriesFit rows s ps = (i : ℕ) (p : List ℕ × Value) → slice_get ps i ≡ Some p → FitsIn rows s p.1

abbrev pub PlacesFit : List Row → List Field → List (Option Value) → Type 0
PlacesFit rows fs os = (i : ℕ) (f : Field) (w : Value) → slice_get fs i ≡ Some f → field_at os i ≡ Some w → FitsIn rows f.slot w

-- an entry of a HAMT: its value leaves room for the five levels of a root and its node
pub record HamtEntry (rows : List Row) (s : Slot) (p : List ℕ × Value) : Type 0 where
  pub text : IsUtf8 p.0
  pub part : FitsIn rows s p.1
  pub low : part.room + 5 ≤ deepest

pub record HamtFits (rows : List Row) (s : Slot) (ps : List (List ℕ × Value)) : Type 0 where
  pub rises : Rises ps
  pub each : (i : ℕ) (p : List ℕ × Value) → slice_get ps i ≡ Some p → HamtEntry rows s p

-- no field of a struct has the key as its name in a block
abbrev pub IsApartFrom : List Row → List ℕ → Slot → Type 0
IsApartFrom rows key s = (d : StructDef) → form_of rows s ≡ Some (D.Struct d) → AllByRecursion (λ f. key ≡ field_text f → ⊥) d.fields
