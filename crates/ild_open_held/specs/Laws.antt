-- The laws of what data split into, one for each form of type that has parts in one block.
use Rattle.std.specs.Prelude.{◌≡◌, ℕ, ◌+◌, Bool, true, false, List, [], ◌∷◌, Option, Some, slice_get}
use Rattle.ild_data.specs.Data.{Data}
use Rattle.ild_schema.specs.declared.def.MapForm.{MapForm}
use Rattle.ild_schema.specs.declared.def.MapForm.TheVariants as MF
use Rattle.ild_schema.specs.declared.def.Member.{Member}
use Rattle.ild_schema.specs.declared.def.StructDef.{StructDef}
use Rattle.ild_schema.specs.declared.def.TypeDef.TheVariants as D
use Rattle.ild_schema.specs.declared.def.UnionDef.{UnionDef}
use Rattle.ild_schema.specs.declared.number.Slot.{Slot}
use Rattle.ild_schema.specs.declared.number.TypeNo.{TypeNo}
use Rattle.ild_schema.specs.declared.row.Row.{Row}
use Rattle.ild_schema.specs.Slots.{form_of, plainly}
use Rattle.ild_schema.specs.Value.{Value, values_of, pairs_of, optionals_of, list, map, struct}
use Rattle.ild_typed.specs.Composed.{composed}
use Rattle.ild_typed.specs.Fits.{Fits}
use Rattle.ild_typed.specs.Hamt.{alone}
use Rattle.ild_typed.specs.Layer as L
use Rattle.ild_typed.specs.Layers.{RepresentsSome}
use Rattle.ild_typed.specs.Levels.{map_levels, struct_levels}
use Rattle.ild_typed.specs.Pieces.{is_null_there}
use Rattle.ild_typed.specs.Schema.{IsSchema}
use Rattle.ild_open_held.specs.Splits.{Splits, element_parts, entry_parts, entry_values, field_parts, field_values, union_of}

abbrev pub is_hamt : MapForm → Bool
is_hamt (MF.Hamt p) = true
is_hamt form = false

-- data of a slot with a front that fits in the room
pub record IsFronted (rows : List Row) (room : ℕ) (s : Slot) (t : Data) : Type 0 where
  pub some : is_null_there s t ≡ false
  pub shows : RepresentsSome (Fits rows room) rows s t

abbrev pub ListsSplit : Type 0
ListsSplit =
    (block : List ℕ → Option (List ℕ)) (h : List ℕ → List ℕ) (rows : List Row) → IsSchema rows → (room less : ℕ) (s : Slot) (t : Data) → IsFronted rows room s t
    → (elem : Slot) (at : ℕ) (ds : List Data) → form_of rows s ≡ Some (D.List elem at) → composed alone (D.List elem at) (L.list ds) ≡ Some t → room ≡ less + 1
    → Splits block h rows room s t less (element_parts elem ds) (λ vs. list (values_of vs))

abbrev pub MapsSplit : Type 0
MapsSplit =
    (block : List ℕ → Option (List ℕ)) (h : List ℕ → List ℕ) (rows : List Row) → IsSchema rows → (room less : ℕ) (s : Slot) (t : Data) → IsFronted rows room s t
    → (key : TypeNo) (key_at : ℕ) (value : Slot) (at : ℕ) (form : MapForm) (es : List (List ℕ × Data)) → is_hamt form ≡ false
    → form_of rows s ≡ Some (D.Map key key_at value at form) → composed alone (D.Map key key_at value at form) (L.map es) ≡ Some t → room ≡ less + map_levels form
    → Splits block h rows room s t less (entry_parts value es) (λ vs. map (pairs_of (entry_values es vs)))

abbrev pub StructsSplit : Type 0
StructsSplit =
    (block : List ℕ → Option (List ℕ)) (h : List ℕ → List ℕ) (rows : List Row) → IsSchema rows → (room less : ℕ) (s : Slot) (t : Data) → IsFronted rows room s t
    → (def : StructDef) (os : List (Option Data)) → form_of rows s ≡ Some (D.Struct def) → composed alone (D.Struct def) (L.struct os) ≡ Some t → room ≡ less + struct_levels def.form
    → Splits block h rows room s t less (field_parts def.fields os) (λ vs. struct (optionals_of (field_values os vs)))

abbrev pub UnionsSplit : Type 0
UnionsSplit =
    (block : List ℕ → Option (List ℕ)) (h : List ℕ → List ℕ) (rows : List Row) → IsSchema rows → (room less : ℕ) (s : Slot) (t : Data) → IsFronted rows room s t
    → (def : UnionDef) (n : ℕ) (m : Member) (c : Data) → form_of rows s ≡ Some (D.Union def) → slice_get def.members n ≡ Some m → composed alone (D.Union def) (L.union n c) ≡ Some t → room ≡ less + 1
    → Splits block h rows room s t less ((plainly m.ty, c) ∷ []) (union_of n)
