-- What is found of a struct by itself.
use Rattle.std.proofs.Common.{◌≡◌, ℕ, zero, suc, ◌+◌, ◌<◌, ◌≤◌, List, [], ◌∷◌, map, Some, refl, arith, inl, inr}
use Rattle.std.specs.Prelude.{◌⊎◌}
use Rattle.std.specs.List.{All, AllByRecursion}
use Rattle.ild_data.specs.Data.{Data}
use Rattle.ild_cbor.specs.declared.piece.Piece.{Piece}
use Rattle.ild_layer_piece.specs.Pieces.{StandsFor}
use Rattle.ild_schema.specs.Kinds.{meant}
use Rattle.ild_schema.specs.Legible.{IsLegible}
use Rattle.ild_schema.specs.declared.def.Field.{Field}
use Rattle.ild_schema.specs.declared.def.StructDef.{StructDef}
use Rattle.ild_schema.specs.declared.def.TypeDef.TheVariants as D
use Rattle.ild_schema.specs.declared.row.Row.{Row}
use Rattle.ild_struct.specs.Parts.{HasParts}
use Rattle.ild_struct.specs.declared.parts.StructParts.{StructParts}
use Rattle.ild_typed.specs.Composed.{composed}
use Rattle.ild_typed.specs.Hamt.{alone}
use Rattle.ild_typed.specs.Layer as L
use Rattle.ild_typed.specs.Levels.{struct_levels}
use Rattle.ild_typed.specs.Pieces.{IsWhy}
use Rattle.ild_typed.specs.Spots.{field_spots}
use Rattle.ild_typed.specs.Why as W
use Rattle.ild_layer_parts.specs.declared.fields.Fields.{Fields}
use Rattle.ild_layer_parts.specs.declared.parts.Parts.TheVariants as P
use Rattle.ild_layer_parts.specs.Fields.{HasFields}
use Rattle.ild_view_walk.specs.inside.Opens.{HasOpened}
use Rattle.ild_layer_parts.proofs.Asking.{deep_at, none_at}
use Rattle.ild_view_walk.proofs.Finding.{layered_made, layered_own}

module _ (rows : List Row) (legible : IsLegible rows) (ty room : ℕ) (def : StructDef) (is : meant rows ty ≡ Some (D.Struct def)) (p : Piece) (t : Data) (stands : StandsFor rows p t)
    (parts : StructParts) (h : HasParts rows ty t parts) where
  struct_made : composed alone (D.Struct def) (L.struct h.0) ≡ Some t
  struct_made = layered_made rows ty (D.Struct def) t (L.struct h.0) is h.1.layered

  pub struct_deep : room < struct_levels def.form → IsWhy room (D.Struct def) t W.Depth
  struct_deep less = inl (deep_at room (D.Struct def) t (layered_own rows legible ty (D.Struct def) p t (L.struct h.0) is stands struct_made) refl less)

  pub struct_opens : (left : ℕ) (s : Fields) → HasFields rows s (field_spots def.form 0 def.fields h.0) → left + struct_levels def.form ≡ room
      → HasOpened rows room (D.Struct def) t (record { parts = P.Struct s; room = left })
  struct_opens left s has sum = record {
    none = none_at room (D.Struct def) t (layered_own rows legible ty (D.Struct def) p t (L.struct h.0) is stands struct_made) refl (omega (arith, sum)) refl;
    spots = field_spots def.form 0 def.fields h.0;
    parts = (L.struct h.0, struct_made, refl);
    room_is = sum;
    left = has;
  }

-- the types of fields are in the table
pub fields_low : (count : ℕ) (fs : List Field) → All (λ k. k < count) (map (λ (f : Field). f.slot.ty.0) fs) → AllByRecursion (λ f. f.slot.ty.0 < count) fs
fields_low count [] all = tt
fields_low count (f ∷ fs) all = (all 0 0 (omega arith), fields_low count fs (λ i v less. all (suc i) v (omega (arith, less))))

-- a difference that isn't there
pub under : (room n levels : ℕ) → n ≡ levels → (n ≤ room → ⊥) → room < levels
under room n levels same absent = by (less_or room n) where
  less_or : (a b : ℕ) → (a < b) ⊎ (b ≤ a)
  less_or a zero = inr (omega arith)
  less_or zero (suc b) = inl (omega arith)
  less_or (suc a) (suc b) = more (less_or a b) where
    more : (a < b) ⊎ (b ≤ a) → (suc a < suc b) ⊎ (suc b ≤ suc a)
    more (inl h) = inl (omega (arith, h))
    more (inr h) = inr (omega (arith, h))

  by : (room < n) ⊎ (n ≤ room) → room < levels
  by (inl h) = omega (arith, h, same)
  by (inr h) = absurd (absent h)
