-- What readers of a layer answer of a front's data.
use Rattle.std.proofs.Common.{◌≡◌, ◌<◌, ◌||◌, ℕ, List, Bool, true, false, not, Option, Some, None, option_map, refl, sym, ◌∙◌, ap, subst}
use Rattle.std.specs.Prelude.{IfSome, IsSomeAnd, option_and_then, slice_get}
use Rattle.std.specs.Option.{option_map_or}
use Rattle.std.proofs.lemmas.Option.{same_Some, none-some}
use Rattle.ild_cbor.specs.declared.piece.Piece.{Piece}
use Rattle.ild_cbor.specs.declared.why.Why.{Why}
use Rattle.ild_data.specs.Data.{Data}
use Rattle.ild_data.specs.Trie.{TrieSlot}
use Rattle.ild_data.specs.declared.hamt_shape.HamtShape.{HamtShape}
use Rattle.ild_layer_piece.specs.Answers.{Layered, Refused, told}
use Rattle.ild_layer_piece.specs.Pieces.{StandsFor}
use Rattle.ild_layer_piece.proofs.Stand.{piece_rises}
use Rattle.ild_schema.specs.Copies.{base}
use Rattle.ild_schema.specs.Legible.{IsLegible}
use Rattle.ild_schema.specs.Parts.{IsPartOf, part_named}
use Rattle.ild_schema.specs.Rows.{def_at}
use Rattle.ild_schema.specs.Rules.{is_of}
use Rattle.ild_schema.specs.Slots.{form_of, plainly}
use Rattle.ild_schema.specs.Table.{parts_of}
use Rattle.ild_schema.specs.Value as V
use Rattle.ild_schema.specs.Value.{Value}
use Rattle.ild_schema.specs.declared.def.EnumDef.{EnumDef}
use Rattle.ild_schema.specs.declared.def.EnumMember.{EnumMember}
use Rattle.ild_schema.specs.declared.def.Field.{Field}
use Rattle.ild_schema.specs.declared.def.MapForm.TheVariants as MF
use Rattle.ild_schema.specs.declared.def.Member.{Member}
use Rattle.ild_schema.specs.declared.def.Scalar.{Scalar}
use Rattle.ild_schema.specs.declared.def.Scalar.TheVariants as C
use Rattle.ild_schema.specs.declared.def.StructDef.{StructDef}
use Rattle.ild_schema.specs.declared.def.TypeDef.{TypeDef}
use Rattle.ild_schema.specs.declared.def.TypeDef.TheVariants as D
use Rattle.ild_schema.specs.declared.def.UnionDef.{UnionDef}
use Rattle.ild_schema.specs.declared.number.Slot.{Slot}
use Rattle.ild_schema.specs.declared.row.Row.{Row}
use Rattle.ild_typed.specs.At.{seen}
use Rattle.ild_typed.specs.Causes.{why_of}
use Rattle.ild_typed.specs.Composed.{composed}
use Rattle.ild_typed.specs.Fits.{Front}
use Rattle.ild_typed.specs.Hamt.{alone}
use Rattle.ild_typed.specs.Layer as L
use Rattle.ild_typed.specs.Layer.{Layer, as_struct, as_union}
use Rattle.ild_typed.specs.Node.{IsRoot}
use Rattle.ild_typed.specs.OfType.{OfType}
use Rattle.ild_typed.specs.Pieces.{is_null_there}
use Rattle.ild_typed.specs.Slots.{slot_of}
use Rattle.ild_typed.proofs.CleanTypes.{layer_or_why}
use Rattle.ild_typed.proofs.Composing.{alone_tells, composed_tells}
use Rattle.ild_typed.proofs.OneValue.{scalar_of, scalar_value}
use Rattle.ild_typed.proofs.PartData.{member_data}
use Rattle.ild_union.specs.Forms.{passes_over}
use Rattle.ild_view.proofs.Finding.{field_there, no_field_there}
use Rattle.ild_view.proofs.Opening.{front_enum, front_hamt, front_known, front_struct, front_union}
use Rattle.ild_view.proofs.Parting.{Beside, Fronts, seen_union}
use Rattle.ild_view.specs.Body.{is_free, is_placed, is_struct}
use Rattle.ild_view.specs.Forms.{enum_in, shape_in, struct_in, union_in}
use Rattle.ild_view.specs.Names.{enum_name_of}
use Rattle.ild_view.specs.Parts.{field_named, member_held}
use Rattle.ild_view.specs.Roots.{root_in}
use Rattle.ild_view.specs.Safe.{is_safe}
use Rattle.ild_view.specs.declared.body.Body.{Body}
use Rattle.ild_view.specs.declared.body.Body.TheVariants as B

-- ---- forms that were found

pub enum_is : (d : TypeDef) (e : EnumDef) → Some e ≡ enum_in d → d ≡ D.Enum e
enum_is (D.Enum x) e h = ap D.Enum (sym (same_Some e x h))
enum_is d e h = absurd (none-some e (sym h))

pub union_is : (d : TypeDef) (u : UnionDef) → Some u ≡ union_in d → d ≡ D.Union u
union_is (D.Union x) u h = ap D.Union (sym (same_Some u x h))
union_is d u h = absurd (none-some u (sym h))

pub struct_is : (d : TypeDef) (s : StructDef) → Some s ≡ struct_in d → d ≡ D.Struct s
struct_is (D.Struct x) s h = ap D.Struct (sym (same_Some s x h))
struct_is d s h = absurd (none-some s (sym h))

-- ---- what may stand for a type

-- no implicit value is of such a type, and no piece of it passes over an entry
abbrev pub is_outer : TypeDef → Bool
is_outer D.Bool = false
is_outer D.Text = false
is_outer D.Int = false
is_outer (D.Struct s) = false
is_outer d = true

not_of : (c : Scalar) (d : TypeDef) → is_outer d ≡ true → is_of c (Some d) ≡ true → ⊥
not_of c D.Bool e h = absurd cc
not_of c D.Text e h = absurd cc
not_of c D.Int e h = absurd cc
not_of c (D.Struct s) e h = absurd cc
not_of (C.Bool b) d e h = absurd cc
not_of (C.Int n) d e h = absurd cc
not_of (C.Text x) d e h = absurd cc

not_struct : (d : TypeDef) → is_outer d ≡ true → is_struct d ≡ false
not_struct (D.Struct s) e = absurd cc
not_struct d e = refl

or_none : (a : Bool) → (a || false) ≡ true → a ≡ true
or_none true e = refl
or_none false e = e

pub outer_free : (rows : List Row) (s : Slot) (b : Body) (d : TypeDef) → form_of rows s ≡ Some d → is_outer d ≡ true → is_placed rows s b ≡ true → is_free b ≡ true
outer_free rows s (B.Held p) d known outer e =
    or_none (not (passes_over p)) (ap (λ c. not (passes_over p) || c) (sym (ap (λ o. option_map_or is_struct o false) known ∙ not_struct d outer)) ∙ e)
outer_free rows s (B.Implicit c) d known outer e = absurd (not_of c.now d outer (ap (is_of c.now) (sym known) ∙ e))

not_over : (b : Bool) → not b ≡ true → b ≡ false
not_over true e = absurd cc
not_over false e = refl

-- of a union nothing is passed over
pub union_plain : (rows : List Row) (s : Slot) (u : UnionDef) → form_of rows s ≡ Some (D.Union u) → (p : Piece) → is_placed rows s (B.Held p) ≡ true → passes_over p ≡ false
union_plain rows s u known p e = not_over (passes_over p) (outer_free rows s (B.Held p) (D.Union u) known refl e)

-- no implicit value is a struct
pub not_implicit : (c : Scalar) (rows : List Row) (s : Slot) (def : StructDef) → form_of rows s ≡ Some (D.Struct def) → is_of c (form_of rows s) ≡ true → ⊥
not_implicit c rows s def known e = by c (ap (is_of c) (sym known) ∙ e) where
  by : (x : Scalar) → is_of x (Some (D.Struct def)) ≡ true → ⊥
  by (C.Bool b) h = absurd cc
  by (C.Int n) h = absurd cc
  by (C.Text t) h = absurd cc

-- ---- answers

pub layered_made : (rows : List Row) (s : Slot) (d : TypeDef) (t : Data) (l : Layer Data) → form_of rows s ≡ Some d → Layered rows s.ty.0 t l → composed alone d l ≡ Some t
layered_made rows s d t l known h = sym (ap (option_and_then (λ (k : TypeDef). composed alone k l)) known) ∙ h

-- data of a layer are not refused
pub no_refusal : (rows : List Row) → IsLegible rows → (s : Slot) (d : TypeDef) (p : Piece) (t : Data) (l : Layer Data) (w : Why) → form_of rows s ≡ Some d → StandsFor rows p t → composed alone d l ≡ Some t
    → Refused rows s.ty.0 t w → ⊥
no_refusal rows legible s d p t l w known stands made refused =
    let own : why_of d t ≡ None = (layer_or_why d (legible.clear.types (base rows s.ty.0) d known) (legible.delims (base rows s.ty.0) d known) t (piece_rises rows p t stands)).1 (l, made) in
    none-some (told w) (sym own ∙ sym (ap (option_and_then (λ (k : TypeDef). why_of k t)) known) ∙ refused)

pub part_low : (rows : List Row) (n i : ℕ) (d : TypeDef) → def_at rows n ≡ Some d → IsPartOf rows n i → i < parts_of d
part_low rows n i d is h = subst (λ o. IfSome o (λ k. i < parts_of k)) is h

module _ (rows : List Row) (legible : IsLegible rows) (s : Slot) (safe : is_safe rows s ≡ true) (room : ℕ) (f : Value) (t : Data) (front : Front rows room s f t) (some : is_null_there s t ≡ false) where
  pub enum_named : (e : EnumDef) → form_of rows s ≡ Some (D.Enum e) → (n : ℕ) (m : EnumMember) → Layered rows s.ty.0 t (L.enum n) → slice_get e.members n ≡ Some m → Some m.name ≡ enum_name_of (form_of rows s) f
  enum_named e known n m layered got =
      let there = front_known rows legible.clear s safe room f t front some (D.Enum e) known (L.enum n) (layered_made rows s (D.Enum e) t (L.enum n) known layered) in
      let is : f ≡ V.enum n = scalar_value alone rows (Some (D.Enum e)) f (V.enum n) (ap (option_and_then scalar_of) there) in
      sym (ap (enum_name_of (form_of rows s)) is ∙ ap (λ o. enum_name_of o (V.enum n)) known ∙ ap (option_map (λ (k : EnumMember). k.name)) got)

  pub enum_kept : (e : EnumDef) → form_of rows s ≡ Some (D.Enum e) → (p : Piece) (w : Why) → StandsFor rows p t → Refused rows s.ty.0 t w → ⊥
  enum_kept e known p w stands refused =
      let x = front_enum rows legible.clear s safe room f t front some e known in
      no_refusal rows legible s (D.Enum e) p t (L.enum x.number) w known stands x.made refused

  pub record RootFront (p : HamtShape) : Type 0 where
    pub is : root_in f ≡ Some t
    pub slots : List TrieSlot
    pub root : IsRoot p slots t
    pub outer : (b : Body) → is_placed rows s b ≡ true → is_free b ≡ true

  pub root_front : (d : TypeDef) → form_of rows s ≡ Some d → (q : HamtShape) → shape_in (Some d) ≡ Some q → RootFront q
  root_front (D.Map key key_at value at (MF.Hamt p)) known q e =
      let x = front_hamt rows legible.clear s safe room f t front some p key key_at value at known in
      record { is = ap root_in x.is; slots = x.fits.0; root = subst (λ r. IsRoot r x.fits.0 t) (same_Some p q e) x.fits.1; outer = λ b h. outer_free rows s b (D.Map key key_at value at (MF.Hamt p)) known refl h }
  root_front (D.Map key key_at value at MF.Map) known q e = absurd (none-some q e)
  root_front (D.Map key key_at value at MF.ListPairs) known q e = absurd (none-some q e)
  root_front (D.Map key key_at value at (MF.StringPairs inner entry)) known q e = absurd (none-some q e)
  root_front d known q e = absurd (none-some q e)

-- ---- structs and unions

module _ (rows : List Row) (legible : IsLegible rows) (s : Slot) (safe : is_safe rows s ≡ true) (room : ℕ) (f : Value) (t : Data) (front : Front rows room s f t) (some : is_null_there s t ≡ false) where
  pub struct_kept : (def : StructDef) → form_of rows s ≡ Some (D.Struct def) → (p : Piece) (w : Why) → StandsFor rows p t → Refused rows s.ty.0 t w → ⊥
  struct_kept def known p w stands refused =
      let x = front_struct rows legible.clear s safe room f t front some def known in
      no_refusal rows legible s (D.Struct def) p t (L.struct x.parts) w known stands x.made refused

  pub union_kept : (def : UnionDef) → form_of rows s ≡ Some (D.Union def) → (p : Piece) (w : Why) → StandsFor rows p t → Refused rows s.ty.0 t w → ⊥
  union_kept def known p w stands refused =
      let x = front_union rows legible.clear s safe room f t front some def known in
      no_refusal rows legible s (D.Union def) p t (L.union x.number x.part) w known stands x.made refused

  -- the data of the fields that a reader found are those of the front
  pub struct_same : (def : StructDef) (known : form_of rows s ≡ Some (D.Struct def)) (os : List (Option Data)) → Layered rows s.ty.0 t (L.struct os)
      → (front_struct rows legible.clear s safe room f t front some def known).parts ≡ os
  struct_same def known os layered =
      let x = front_struct rows legible.clear s safe room f t front some def known in
      let made = layered_made rows s (D.Struct def) t (L.struct os) known layered in
      let same : L.struct x.parts ≡ L.struct os = composed_tells alone alone_tells (D.Struct def) (legible.clear.types (base rows s.ty.0) (D.Struct def) known) (L.struct x.parts) (L.struct os) t x.made made in
      same_Some x.parts os (ap as_struct same)

  -- the field that was looked up, beside what stands for it
  pub struct_field : (def : StructDef) → form_of rows s ≡ Some (D.Struct def) → (name : List ℕ) (n : ℕ) (os : List (Option Data)) (g : Field) (held : Option Data) → Some n ≡ option_and_then (part_named name) (def_at rows (base rows s.ty.0))
      → Layered rows s.ty.0 t (L.struct os) → slice_get def.fields n ≡ Some g → slice_get os n ≡ Some held → Beside rows g.slot held (field_named (seen rows (s, f)) name)
  struct_field def known name n os g held found layered there at =
      field_there rows legible.clear s safe room f t front some def known name n (sym (found ∙ ap (option_and_then (part_named name)) known)) g held there
      (ap (λ (xs : List (Option Data)). slice_get xs n) (struct_same def known os layered) ∙ at)

  pub struct_without : (def : StructDef) → form_of rows s ≡ Some (D.Struct def) → (name : List ℕ) → None ≡ option_and_then (part_named name) (def_at rows (base rows s.ty.0)) → field_named (seen rows (s, f)) name ≡ None
  struct_without def known name found =
      no_field_there rows legible.clear s safe room f t front some def known name (sym (found ∙ ap (option_and_then (part_named name)) known))

  -- the member that a reader found
  pub union_member : (def : UnionDef) → form_of rows s ≡ Some (D.Union def) → (n : ℕ) (m : Member) (d : Data) → Layered rows s.ty.0 t (L.union n d) → slice_get def.members n ≡ Some m
      → (w : Value) × (member_held (seen rows (s, f)) ≡ Some (m.name, (plainly m.ty, w))) × Fronts rows (plainly m.ty) w d
  union_member def known n m d layered got =
      let x = front_union rows legible.clear s safe room f t front some def known in
      let made = layered_made rows s (D.Union def) t (L.union n d) known layered in
      let same : L.union x.number x.part ≡ L.union n d = composed_tells alone alone_tells (D.Union def) (legible.clear.types (base rows s.ty.0) (D.Union def) known) (L.union x.number x.part) (L.union n d) t x.made made in
      let both : (x.number, x.part) ≡ (n, d) = same_Some (x.number, x.part) (n, d) (ap as_union same) in
      let number : x.number ≡ n = ap (λ (p : ℕ × Data). p.0) both in
      let there : slice_get def.members x.number ≡ Some m = ap (λ (k : ℕ). slice_get def.members k) number ∙ got in (
        x.item,
        ap member_held (seen_union rows legible.clear s safe room f t front some def known) ∙ ap (option_map (λ (k : Member). (k.name, (plainly k.ty, x.item)))) there,
        record {
          typed = subst (λ o. IsSomeAnd o (λ (k : Member). OfType rows (plainly k.ty) x.item)) there x.fit;
          tree = sym (ap (λ o. member_data alone rows (option_map slot_of o) x.item) there) ∙ x.there ∙ ap (λ (p : ℕ × Data). Some p.1) both;
        },
      )
