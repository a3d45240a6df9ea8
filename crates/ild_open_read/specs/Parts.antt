-- What readers of parts answer of a piece, in each form in which the parts stand.
use Rattle.std.specs.Prelude.{◌≡◌, ℕ, ◌+◌, ◌≤◌, Bool, List, [], ◌∷◌, Option, Some, Result, slice_get}
use Rattle.std.specs.List.{AllByRecursion}
use Rattle.ild_cbor.specs.declared.piece.Piece.{Piece}
use Rattle.ild_data.specs.Data as T
use Rattle.ild_data.specs.Data.{Data}
use Rattle.ild_data.specs.Limits.{deepest}
use Rattle.ild_edges.specs.Store.{Moment}
use Rattle.ild_view_entries.specs.Left.{AreLeft}
use Rattle.ild_view_entries.specs.declared.left.EntriesLeft.{EntriesLeft}
use Rattle.ild_open_held.specs.Laws.{IsFronted}
use Rattle.ild_open_held.specs.Splits.{HasFront, element_parts, entry_parts, entry_values, field_parts, field_values, union_of}
use Rattle.ild_layer_piece.specs.Pieces.{StandsFor}
use Rattle.ild_schema.specs.Slots.{form_of, plainly}
use Rattle.ild_schema.specs.Value as V
use Rattle.ild_schema.specs.Value.{optionals_of, pairs_of, values_of}
use Rattle.ild_schema.specs.declared.def.MapForm.{MapForm}
use Rattle.ild_schema.specs.declared.def.Member.{Member}
use Rattle.ild_schema.specs.declared.def.StructDef.{StructDef}
use Rattle.ild_schema.specs.declared.def.TypeDef.TheVariants as D
use Rattle.ild_schema.specs.declared.def.UnionDef.{UnionDef}
use Rattle.ild_schema.specs.declared.number.Slot.{Slot}
use Rattle.ild_schema.specs.declared.number.TypeNo.{TypeNo}
use Rattle.ild_schema.specs.declared.row.Row.{Row}
use Rattle.ild_schema.specs.declared.val.Val.{Val}
use Rattle.ild_typed.specs.Composed.{composed}
use Rattle.ild_typed.specs.Hamt.{alone}
use Rattle.ild_typed.specs.Layer as L
use Rattle.ild_typed.specs.Levels.{map_levels}
use Rattle.ild_open_parts.specs.Reads.{Reads, ReadsParts}
use Rattle.ild_open_parts.specs.declared.fault.OpenFault.{OpenFault}

-- the entries that are left have fronts
pub record HasFronts (rows : List Row) (room : ℕ) (value : Slot) (left : EntriesLeft) : Type 0 where
  pub entries : List (List ℕ × Data)
  pub are : AreLeft left entries
  pub fronts : AllByRecursion (HasFront rows room) (entry_parts value entries)

module _ (h : List ℕ → List ℕ) (at : List ℕ) (rows : List Row) (room : ℕ) (keep : Bool) where
  -- the elements of a list
  abbrev pub ReadsElements : Slot → Piece → Moment → Result Val OpenFault → Moment → Type 0
  ReadsElements elem piece m r n =
      (ds : List Data) → StandsFor rows piece (T.list (T.items_of ds)) → AllByRecursion (HasFront rows room) (element_parts elem ds)
      → ReadsParts h at rows room (element_parts elem ds) keep (λ vs. V.list (values_of vs)) m r n

  -- the values of entries
  abbrev pub ReadsEntries : Slot → List (List ℕ × Data) → Moment → Result Val OpenFault → Moment → Type 0
  ReadsEntries value es m r n =
      AllByRecursion (HasFront rows room) (entry_parts value es) → ReadsParts h at rows room (entry_parts value es) keep (λ vs. V.map (pairs_of (entry_values es vs))) m r n

  -- those that are left
  abbrev pub ReadsLeft : Slot → EntriesLeft → Moment → Result Val OpenFault → Moment → Type 0
  ReadsLeft value left m r n = (es : List (List ℕ × Data)) → AreLeft left es → ReadsEntries value es m r n

  -- a map in a form, as the value of a slot around it
  abbrev pub ReadsForm : TypeNo → Slot → MapForm → Piece → Moment → Result Val OpenFault → Moment → Type 0
  ReadsForm key value form piece m r n =
      (s : Slot) (t : Data) (key_at place whole : ℕ) → StandsFor rows piece t → form_of rows s ≡ Some (D.Map key key_at value place form)
      → whole ≡ room + map_levels form → whole ≤ deepest → IsFronted rows whole s t → Reads h at rows whole (s, t) keep m r n

  -- the fields of a struct
  abbrev pub ReadsFields : StructDef → Piece → Moment → Result Val OpenFault → Moment → Type 0
  ReadsFields def piece m r n =
      (t : Data) (os : List (Option Data)) → StandsFor rows piece t → composed alone (D.Struct def) (L.struct os) ≡ Some t
      → AllByRecursion (HasFront rows room) (field_parts def.fields os)
      → ReadsParts h at rows room (field_parts def.fields os) keep (λ vs. V.struct (optionals_of (field_values os vs))) m r n

  -- the member of a union
  abbrev pub ReadsMember : UnionDef → Piece → Moment → Result Val OpenFault → Moment → Type 0
  ReadsMember def piece m r n =
      (t : Data) (k : ℕ) (member : Member) (c : Data) → StandsFor rows piece t → slice_get def.members k ≡ Some member
      → composed alone (D.Union def) (L.union k c) ≡ Some t → HasFront rows room (plainly member.ty, c)
      → ReadsParts h at rows room ((plainly member.ty, c) ∷ []) keep (union_of k) m r n

-- the value of a slot
abbrev pub ReadsSlot : (List ℕ → List ℕ) → List ℕ → List Row → ℕ → Bool → Slot → Piece → Moment → Result Val OpenFault → Moment → Type 0
ReadsSlot h at rows room keep s piece m r n = (t : Data) → StandsFor rows piece t → HasFront rows room (s, t) → Reads h at rows room (s, t) keep m r n
