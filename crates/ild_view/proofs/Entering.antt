-- What has no entries, no elements and no fields, and what a view of an entry needs.
use Rattle.std.proofs.Common.{◌≡◌, ◌<◌, ◌≤◌, ℕ, true, false, not, length, Option, Some, None, refl, ap, subst, arith, List}
use Rattle.ild_cbor.specs.declared.piece.Piece.{Piece}
use Rattle.ild_data.specs.Data.{Data}
use Rattle.ild_layer_piece.specs.Pieces.{IsNumbered}
use Rattle.ild_schema.specs.Legible.{IsLegible}
use Rattle.ild_schema.specs.Rules.{is_of}
use Rattle.ild_schema.specs.Slots.{form_of}
use Rattle.ild_schema.specs.Table.{IsWithin}
use Rattle.ild_schema.specs.Value.{Value}
use Rattle.ild_schema.specs.declared.def.MapForm.{MapForm}
use Rattle.ild_schema.specs.declared.def.Scalar.{Scalar}
use Rattle.ild_schema.specs.declared.def.Scalar.TheVariants as C
use Rattle.ild_schema.specs.declared.def.TypeDef.{TypeDef}
use Rattle.ild_schema.specs.declared.def.TypeDef.TheVariants as D
use Rattle.ild_schema.specs.declared.number.Slot.{Slot}
use Rattle.ild_schema.specs.declared.number.TypeNo.{TypeNo}
use Rattle.ild_schema.specs.declared.row.Row.{Row}
use Rattle.ild_struct.specs.Source.{types_of}
use Rattle.ild_typed.specs.At.{seen}
use Rattle.ild_typed.specs.Fits.{Front}
use Rattle.ild_typed.specs.Pieces.{is_null_there}
use Rattle.ild_union.specs.Forms.{passes_over}
use Rattle.ild_view.proofs.Handing.{hands_nothing}
use Rattle.ild_view.proofs.Iterating.{entries_nothing, items_nothing}
use Rattle.ild_view.proofs.Ordering.{no_elements, no_entries}
use Rattle.ild_view.proofs.Parting.{no_element, no_entry, seen_by, seen_null}
use Rattle.ild_view.proofs.Placing.{free_numbered, free_placed, numbered_piece}
use Rattle.ild_view.specs.Body.{body_types, is_placed}
use Rattle.ild_view.specs.Forms.{element_slot, entry_slot}
use Rattle.ild_view.specs.Iterates.{FindsEntries, FindsItems}
use Rattle.ild_view.specs.Ordered.{elements_in, entries_in}
use Rattle.ild_view.specs.Parts.{HandsOut, element_at, entry_at, field_named}
use Rattle.ild_view.specs.Safe.{is_safe}
use Rattle.ild_view.specs.declared.body.Body.{Body}
use Rattle.ild_view.specs.declared.body.Body.TheVariants as B

-- ---- a piece in which nothing is passed over

pub part_numbered : (n : ℕ) (p : Piece) → passes_over p ≡ false → types_of p ≤ n
part_numbered n p e = free_numbered n (B.Held p) (ap not e)

pub part_placed : (rows : List Row) (s : Slot) (p : Piece) → passes_over p ≡ false → is_placed rows s (B.Held p) ≡ true
part_placed rows s p e = free_placed rows s (B.Held p) (ap not e)

pub own_numbered : (rows : List Row) (b : Body) (p : Piece) → b ≡ B.Held p → body_types b ≤ length rows → IsNumbered rows p
own_numbered rows b p is few = numbered_piece rows p (subst (λ (c : Body). body_types c ≤ length rows) is few)

pub value_in : (n : ℕ) (d : TypeDef) (key : TypeNo) (key_at : ℕ) (value : Slot) (at : ℕ) (form : MapForm) → d ≡ D.Map key key_at value at form → IsWithin n d → value.ty.0 < n
value_in n d key key_at value at form is w = (subst (IsWithin n) is w).1 1 0 (omega arith)

-- ---- no entries

-- of another type than maps and what is any
other_slot : (d : TypeDef) → (d ≡ D.Any → ⊥) → ((key : TypeNo) (key_at : ℕ) (value : Slot) (at : ℕ) (form : MapForm) → d ≡ D.Map key key_at value at form → ⊥) → entry_slot d ≡ None
other_slot D.Any any map = absurd (any refl)
other_slot (D.Map key key_at value at form) any map = absurd (map key key_at value at form refl)
other_slot d any map = refl

-- an implicit value is no map
scalar_slot : (c : Scalar) (d : TypeDef) → is_of c (Some d) ≡ true → entry_slot d ≡ None
scalar_slot (C.Bool b) D.Any e = absurd cc
scalar_slot (C.Int n) D.Any e = absurd cc
scalar_slot (C.Text t) D.Any e = absurd cc
scalar_slot (C.Bool b) (D.Map key key_at value at form) e = absurd cc
scalar_slot (C.Int n) (D.Map key key_at value at form) e = absurd cc
scalar_slot (C.Text t) (D.Map key key_at value at form) e = absurd cc
scalar_slot c d e = refl

record ScalarForm (rows : List Row) (s : Slot) : Type 0 where
  def : TypeDef
  known : form_of rows s ≡ Some def
  slot : entry_slot def ≡ None

scalar_form : (rows : List Row) (s : Slot) (b : Body) → is_placed rows s b ≡ true → ((p : Piece) → b ≡ B.Held p → ⊥) → ScalarForm rows s
scalar_form rows s (B.Held p) placed other = absurd (other p refl)
scalar_form rows s (B.Implicit c) placed other = by (form_of rows s) refl placed where
  none : (x : Scalar) → is_of x None ≡ true → ⊥
  none (C.Bool b) e = absurd cc
  none (C.Int n) e = absurd cc
  none (C.Text t) e = absurd cc

  by : (o : Option TypeDef) → form_of rows s ≡ o → is_of c.now o ≡ true → ScalarForm rows s
  by None known e = absurd (none c.now e)
  by (Some d) known e = record { def = d; known = known; slot = scalar_slot c.now d e }

module _ (rows : List Row) (legible : IsLegible rows) (s : Slot) (safe : is_safe rows s ≡ true) (room : ℕ) (f : Value) (t : Data) (front : Front rows room s f t) where
  pub null_entry : is_null_there s t ≡ true → (k : List ℕ) → HandsOut rows (entry_at (seen rows (s, f)) k) None
  null_entry is k = hands_nothing rows (entry_at (seen rows (s, f)) k) (ap (λ h. entry_at h k) (seen_null rows legible.clear s safe room f t front is))

  pub null_field : is_null_there s t ≡ true → (name : List ℕ) → HandsOut rows (field_named (seen rows (s, f)) name) None
  null_field is name = hands_nothing rows (field_named (seen rows (s, f)) name) (ap (λ h. field_named h name) (seen_null rows legible.clear s safe room f t front is))

  pub null_element : is_null_there s t ≡ true → (i : ℕ) → HandsOut rows (element_at (seen rows (s, f)) i) None
  null_element is i = hands_nothing rows (element_at (seen rows (s, f)) i) (ap (λ h. element_at h i) (seen_null rows legible.clear s safe room f t front is))

  pub null_elements : is_null_there s t ≡ true → FindsItems rows (elements_in (seen rows (s, f))) None
  null_elements is = items_nothing rows (elements_in (seen rows (s, f))) (ap elements_in (seen_null rows legible.clear s safe room f t front is))

  pub null_entries : is_null_there s t ≡ true → FindsEntries rows (entries_in (seen rows (s, f))) None
  null_entries is = entries_nothing rows (entries_in (seen rows (s, f))) (ap entries_in (seen_null rows legible.clear s safe room f t front is))

  module _ (some : is_null_there s t ≡ false) where
    pub other_entry : (d : TypeDef) → form_of rows s ≡ Some d → (d ≡ D.Any → ⊥)
        → ((key : TypeNo) (key_at : ℕ) (value : Slot) (at : ℕ) (form : MapForm) → d ≡ D.Map key key_at value at form → ⊥) → (k : List ℕ) → HandsOut rows (entry_at (seen rows (s, f)) k) None
    other_entry d known any map k =
        hands_nothing rows (entry_at (seen rows (s, f)) k) (no_entry rows legible.clear s safe room f t front d (seen_by rows legible.clear s safe room f t front some d known) (other_slot d any map) k)

    pub other_entries : (d : TypeDef) → form_of rows s ≡ Some d → (d ≡ D.Any → ⊥)
        → ((key : TypeNo) (key_at : ℕ) (value : Slot) (at : ℕ) (form : MapForm) → d ≡ D.Map key key_at value at form → ⊥) → FindsEntries rows (entries_in (seen rows (s, f))) None
    other_entries d known any map =
        entries_nothing rows (entries_in (seen rows (s, f))) (no_entries rows legible s safe room f t front some d (seen_by rows legible.clear s safe room f t front some d known) (other_slot d any map))

    pub other_element : (d : TypeDef) → form_of rows s ≡ Some d → element_slot d ≡ None → (i : ℕ) → HandsOut rows (element_at (seen rows (s, f)) i) None
    other_element d known none i =
        hands_nothing rows (element_at (seen rows (s, f)) i) (no_element rows legible.clear s safe room f t front d (seen_by rows legible.clear s safe room f t front some d known) none i)

    pub other_elements : (d : TypeDef) → form_of rows s ≡ Some d → element_slot d ≡ None → FindsItems rows (elements_in (seen rows (s, f))) None
    other_elements d known none =
        items_nothing rows (elements_in (seen rows (s, f))) (no_elements rows legible.clear s safe room f t front some d (seen_by rows legible.clear s safe room f t front some d known) none)

    pub scalar_entry : (b : Body) → is_placed rows s b ≡ true → ((p : Piece) → b ≡ B.Held p → ⊥) → (k : List ℕ) → HandsOut rows (entry_at (seen rows (s, f)) k) None
    scalar_entry b placed other k =
        let x = scalar_form rows s b placed other in
        hands_nothing rows (entry_at (seen rows (s, f)) k) (no_entry rows legible.clear s safe room f t front x.def (seen_by rows legible.clear s safe room f t front some x.def x.known) x.slot k)

    pub scalar_entries : (b : Body) → is_placed rows s b ≡ true → ((p : Piece) → b ≡ B.Held p → ⊥) → FindsEntries rows (entries_in (seen rows (s, f))) None
    scalar_entries b placed other =
        let x = scalar_form rows s b placed other in
        entries_nothing rows (entries_in (seen rows (s, f))) (no_entries rows legible s safe room f t front some x.def (seen_by rows legible.clear s safe room f t front some x.def x.known) x.slot)
