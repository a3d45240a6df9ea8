-- A field of a struct, and the member of a union, as their readers hand them out.
use Rattle.std.proofs.Common.{◌≡◌, ◌<◌, ℕ, List, length, get_or, true, false, Option, Some, None, refl, sym, ◌∙◌, ap, subst}
use Rattle.std.specs.Prelude.{◌↔◌, option_and_then, slice_get}
use Rattle.std.specs.Option.{option_map_or}
use Rattle.std.specs.Borrow.{Bor}
use Rattle.std.proofs.lemmas.Option.{same_Some, none-some}
use Rattle.ild_cbor.specs.declared.piece.Piece.{Piece}
use Rattle.ild_data.proofs.Gets.{got_at}
use Rattle.ild_data.specs.Data.{Data}
use Rattle.ild_layer_piece.specs.Answers.{Layered}
use Rattle.ild_layer_piece.specs.Pieces.{StandsFor}
use Rattle.ild_schema.specs.Copies.{base}
use Rattle.ild_schema.specs.Legible.{IsLegible}
use Rattle.ild_schema.specs.Parts.{IsPartOf, part_named}
use Rattle.ild_schema.specs.Rows.{def_at}
use Rattle.ild_schema.specs.Slots.{form_of, plainly}
use Rattle.ild_schema.specs.Value.{Value}
use Rattle.ild_schema.specs.declared.def.Field.{Field}
use Rattle.ild_schema.specs.declared.def.Member.{Member}
use Rattle.ild_schema.specs.declared.def.StructDef.{StructDef}
use Rattle.ild_schema.specs.declared.def.TypeDef.{TypeDef}
use Rattle.ild_schema.specs.declared.def.TypeDef.TheVariants as D
use Rattle.ild_schema.specs.declared.def.UnionDef.{UnionDef}
use Rattle.ild_schema.specs.declared.number.Slot.{Slot}
use Rattle.ild_schema.specs.declared.row.Row.{Row}
use Rattle.ild_struct.specs.Parts.{HasParts, IsFieldOf, IsFieldPart, fields_of}
use Rattle.ild_struct.specs.declared.part.Part.{Part}
use Rattle.ild_struct.specs.declared.parts.StructParts.{StructParts}
use Rattle.ild_typed.specs.At.{InSlot, seen}
use Rattle.ild_typed.specs.Fields.{is_implicit}
use Rattle.ild_typed.specs.Fits.{Front}
use Rattle.ild_typed.specs.Hamt.{alone}
use Rattle.ild_typed.specs.Layer as L
use Rattle.ild_typed.specs.Pieces.{is_null_there}
use Rattle.ild_typed.specs.Represented.{represented}
use Rattle.ild_typed.specs.Slots.{fields_of as fields_in}
use Rattle.ild_view.proofs.Handing.{part_view}
use Rattle.ild_view.proofs.Parting.{Beside}
use Rattle.ild_view.proofs.Reading.{part_low, struct_field, union_member}
use Rattle.ild_view.specs.Front.{BodyHasFront}
use Rattle.ild_view.specs.LeftOut.{has_implicit}
use Rattle.ild_view.specs.Parts.{HandsOutMember, field_named, member_held}
use Rattle.ild_view.specs.Safe.{is_safe}
use Rattle.ild_view.specs.View.{body_of, piece_in, piece_of, slot_of, table_of}
use Rattle.ild_view.specs.declared.body.Body.{Body}
use Rattle.ild_view.specs.declared.body.Body.TheVariants as B
use Rattle.ild_view.specs.declared.view.View.{View}

pub record FieldFound (rows : List Row) (s : Slot) (f : Value) (name : List ℕ) (g : Field) (part : Part) : Type 0 where
  pub held : Option Data
  pub is : IsFieldPart rows g held part
  pub beside : Beside rows g.slot held (field_named (seen rows (s, f)) name)

-- the place of a field that was looked up
pub field_at_place : (rows : List Row) (s : Slot) (def : StructDef) → form_of rows s ≡ Some (D.Struct def) → (b n : ℕ) → b ≡ base rows s.ty.0 → IsPartOf rows b n → n < length def.fields
field_at_place rows s def known b n same within = part_low rows (base rows s.ty.0) n (D.Struct def) known (subst (λ (k : ℕ). IsPartOf rows k n) same within)

pub field_indexed : (rows : List Row) (s : Slot) (def : StructDef) → form_of rows s ≡ Some (D.Struct def) → (b n : ℕ) → b ≡ base rows s.ty.0 → IsPartOf rows b n → (slice : List Field) → slice ≡ def.fields
    → (g : Field) → g ≡ get_or slice n g → slice_get def.fields n ≡ Some g
field_indexed rows s def known b n same within slice all g is =
    got_at def.fields n g (field_at_place rows s def known b n same within) (is ∙ ap (λ (gs : List Field). get_or gs n g) all)

-- the field that a name has, looked up in a type's row
pub field_same : (rows : List Row) (s : Slot) (def : StructDef) → form_of rows s ≡ Some (D.Struct def) → (name : List ℕ) (b m n : ℕ) → b ≡ base rows s.ty.0 → Some m ≡ option_and_then (part_named name) (def_at rows b)
    → (g h : Field) → slice_get def.fields m ≡ Some g → option_and_then (part_named name) (form_of rows s) ≡ Some n → slice_get (fields_in (form_of rows s)) n ≡ Some h → g ≡ h
field_same rows s def known name b m n same found g h at named there =
    let one : m ≡ n = same_Some m n (found ∙ ap (λ (k : ℕ). option_and_then (part_named name) (def_at rows k)) same ∙ named) in
    let own : slice_get def.fields n ≡ Some h = ap (λ (d : Option TypeDef). slice_get (fields_in d) n) (sym known) ∙ there in
    same_Some g h (sym at ∙ ap (λ (k : ℕ). slice_get def.fields k) one ∙ own)

-- a part beside the data of a field: its view is one of no piece exactly where it has the implicit value
pub leaves_out : (rows : List Row) (u : Slot) (g : Field) (held : Option Data) (o : Option InSlot) (b : Body) (v : View) → Beside rows u held o
    → ((d : Data) → held ≡ Some d → (piece_in b ≡ None) ↔ (is_implicit g.implicit d ≡ true)) → body_of v ≡ b → (q : InSlot) → o ≡ Some q → (piece_of v ≡ None) ↔ (has_implicit rows g q ≡ true)
leaves_out rows u g None None b v beside left body q is = absurd (none-some q is)
leaves_out rows u g None (Some p) b v beside left body q is = absurd beside
leaves_out rows u g (Some d) None b v beside left body q is = absurd beside
leaves_out rows u g (Some d) (Some p) b v beside left body q is =
    let there : represented alone rows p.0 p.1 ≡ Some d = ap (λ (t : Slot). represented alone rows t p.1) beside.0 ∙ beside.1.tree in
    let same : has_implicit rows g p ≡ is_implicit g.implicit d = ap (λ (x : Option Data). option_map_or (is_implicit g.implicit) x false) there in
    let either = left d refl in
    subst (λ (r : InSlot). (piece_of v ≡ None) ↔ (has_implicit rows g r ≡ true)) (same_Some p q is)
    (λ none. same ∙ either.0 (sym (ap piece_in body) ∙ none), λ implicit. ap piece_in body ∙ either.1 (sym same ∙ implicit))

pub member_indexed : (rows : List Row) (s : Slot) (def : UnionDef) → form_of rows s ≡ Some (D.Union def) → (n : ℕ) → IsPartOf rows (base rows s.ty.0) n → (slice : List Member) → slice ≡ def.members
    → (m : Member) → m ≡ get_or slice n m → slice_get def.members n ≡ Some m
member_indexed rows s def known n within slice all m is =
    got_at def.members n m (part_low rows (base rows s.ty.0) n (D.Union def) known within) (is ∙ ap (λ (ms : List Member). get_or ms n m) all)

module _ (rows : List Row) (legible : IsLegible rows) (s : Slot) (safe : is_safe rows s ≡ true) (room : ℕ) (f : Value) (t : Data) (front : Front rows room s f t) (some : is_null_there s t ≡ false) where
  pub field_found : (def : StructDef) → form_of rows s ≡ Some (D.Struct def) → (name : List ℕ) (b n : ℕ) → b ≡ base rows s.ty.0 → Some n ≡ option_and_then (part_named name) (def_at rows b)
      → (g : Field) → slice_get def.fields n ≡ Some g → (parts : StructParts) (h : HasParts rows s.ty.0 t parts) → fields_of parts ≡ def.fields → (part : Part) → IsFieldOf rows (fields_of parts) h.0 n part
      → FieldFound rows s f name g part
  field_found def known name b n same found g there parts h own part x =
      let is : Some g ≡ Some x.field = sym there ∙ ap (λ (fs : List Field). slice_get fs n) (sym own) ∙ x.there in
      record {
        held = x.held;
        is = subst (λ (k : Field). IsFieldPart rows k x.held part) (sym (same_Some g x.field is)) x.is;
        beside = struct_field rows legible s safe room f t front some def known name n h.0 g x.held (found ∙ ap (λ (k : ℕ). option_and_then (part_named name) (def_at rows k)) same) h.1.layered there x.at;
      }

  pub member_front : (def : UnionDef) → form_of rows s ≡ Some (D.Union def) → (n : ℕ) (m : Member) (part : Piece) → slice_get def.members n ≡ Some m → (a : (d : Data) × StandsFor rows part d × Layered rows s.ty.0 t (L.union n d))
      → BodyHasFront rows (plainly m.ty) (B.Held part)
  member_front def known n m part got a =
      let x = union_member rows legible s safe room f t front some def known n m a.0 a.2 got in
      record { value = x.0; room = x.2.typed.0; tree = a.0; stands = a.1; front = record { fits = x.2.typed.1; tree = x.2.tree } }

  pub member_out : (def : UnionDef) → form_of rows s ≡ Some (D.Union def) → (n : ℕ) (m : Member) (part : Piece) → slice_get def.members n ≡ Some m → (a : (d : Data) × StandsFor rows part d × Layered rows s.ty.0 t (L.union n d))
      → (name : Bor (List ℕ)) (v : View) → name.now ≡ m.name → table_of v ≡ rows → slot_of v ≡ plainly m.ty → body_of v ≡ B.Held part → HandsOutMember rows (member_held (seen rows (s, f))) (Some (name, v))
  member_out def known n m part got a name v same table slot body =
      let x = union_member rows legible s safe room f t front some def known n m a.0 a.2 got in
      subst (λ o. HandsOutMember rows o (Some (name, v))) (sym x.1)
      (same, part_view rows (plainly m.ty) a.0 (plainly m.ty, x.0) (B.Held part) v a.1 refl x.2 table slot body)
