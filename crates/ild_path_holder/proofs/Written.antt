-- A field that holds parts is written: only truth values, integers and texts are left out of a block.
use Rattle.std.proofs.Common.{◌≡◌, ℕ, List, [], ◌∷◌, Bool, true, false, cond, Option, Some, None, refl, sym, ◌∙◌, ap, subst}
use Rattle.std.specs.List.{AllByRecursion}
use Rattle.std.specs.Option.{option_map_or}
use Rattle.std.proofs.lemmas.Option.{same_Some, none-some}
use Rattle.ild_cbor.specs.declared.piece.Piece.{Piece}
use Rattle.ild_data.specs.Data.{Data}
use Rattle.ild_data.specs.Key.{same_text}
use Rattle.ild_path_changes.proofs.Lifting.{present_field}
use Rattle.ild_path_changes.specs.Places.{field_named, left_out}
use Rattle.ild_layer_piece.specs.Pieces.{StandsFor}
use Rattle.ild_schema.specs.Copies.{base}
use Rattle.ild_schema.specs.Fitting.{ImplicitFits}
use Rattle.ild_schema.specs.Legible.{IsLegible}
use Rattle.ild_schema.specs.Rules.{is_of}
use Rattle.ild_schema.specs.Slots.{form_of}
use Rattle.ild_schema.specs.declared.def.Field.{Field}
use Rattle.ild_schema.specs.declared.def.Scalar.{Scalar}
use Rattle.ild_schema.specs.declared.def.Scalar.TheVariants as C
use Rattle.ild_schema.specs.declared.def.StructDef.{StructDef}
use Rattle.ild_schema.specs.declared.def.TypeDef.{TypeDef}
use Rattle.ild_schema.specs.declared.def.TypeDef.TheVariants as D
use Rattle.ild_schema.specs.Value.{Value}
use Rattle.ild_schema.specs.declared.number.Slot.{Slot}
use Rattle.ild_schema.specs.declared.row.Row.{Row}
use Rattle.ild_path_steps.proofs.Holding.{Held, held_by, of_any, of_elements, of_entries, of_fields, of_member, of_nothing}
use Rattle.ild_path_steps.specs.Steps.{FoundLead, is_left_out}
use Rattle.ild_path_steps.specs.declared.steps.PartSteps.{PartSteps}
use Rattle.ild_typed.specs.At.{InSlot, seen}
use Rattle.ild_typed.specs.Fields.{is_implicit}
use Rattle.ild_typed.specs.Hamt.{alone}
use Rattle.ild_typed.specs.Holder.{Holder, any_elements, any_entries, elements, entries, fields, member, nothing}
use Rattle.ild_typed.specs.Represented.{represented}
use Rattle.ild_typed.specs.Segment.{part}
use Rattle.ild_view.specs.Body.{BodyStands, is_placed}
use Rattle.ild_view.specs.View.{IsView, piece_in, piece_of, slot_of, table_of}
use Rattle.ild_view.specs.declared.body.Body.{Body}
use Rattle.ild_view.specs.declared.body.Body.TheVariants as B
use Rattle.ild_view.specs.declared.view.View.{View}
use Rattle.ild_path_holder.specs.Along.{is_holder}
use Rattle.ild_path_holder.proofs.Held.{is_held}

-- the types that implicit values have
abbrev is_plain : TypeDef → Bool
is_plain D.Bool = true
is_plain D.Int = true
is_plain D.Text = true
is_plain d = false

record IsPlain (F : Option TypeDef) : Type 0 where
  type : TypeDef
  is : F ≡ Some type
  plain : is_plain type ≡ true

plain_by : (c : Scalar) (d : TypeDef) → is_of c (Some d) ≡ true → is_plain d ≡ true
plain_by (C.Bool b) D.Bool e = refl
plain_by (C.Int n) D.Int e = refl
plain_by (C.Text s) D.Text e = refl
plain_by (C.Bool b) d e = absurd cc
plain_by (C.Int n) d e = absurd cc
plain_by (C.Text s) d e = absurd cc

plain_type : (c : Scalar) (F : Option TypeDef) → is_of c F ≡ true → IsPlain F
plain_type c (Some d) e = record { type = d; is = refl; plain = plain_by c d e }
plain_type (C.Bool b) None e = absurd cc
plain_type (C.Int n) None e = absurd cc
plain_type (C.Text s) None e = absurd cc

implicit_in : (o : Option Scalar) (x : Data) → is_implicit o x ≡ true → (c : Scalar) × (o ≡ Some c)
implicit_in None x e = absurd cc
implicit_in (Some c) x e = (c, refl)

named_at : (P : Field → Type 0) (s : List ℕ) (f g : Field) (fs : List Field) (b : Bool) → cond b (Some f) (field_named s fs) ≡ Some g → P f → (field_named s fs ≡ Some g → P g) → P g
named_at P s f g fs true e p rest = subst P (same_Some f g e) p
named_at P s f g fs false e p rest = rest e

of_named : (P : Field → Type 0) (s : List ℕ) (fs : List Field) (g : Field) → AllByRecursion P fs → field_named s fs ≡ Some g → P g
of_named P s [] g all e = absurd (none-some g e)
of_named P s (f ∷ fs) g all e = named_at P s f g fs (same_text s f.name) e all.0 (λ h. of_named P s fs g all.1 h)

-- nothing of such a type holds parts
no_holder : (rows : List Row) (d : TypeDef) (h : Holder) (t : Data) → is_plain d ≡ true → Held rows d h t → is_holder h ≡ true → ⊥
no_holder rows d h t plain (of_fields k os ds e z a b) holds = let wrong : false ≡ true = sym (ap is_plain e) ∙ plain in absurd cc
no_holder rows d h t plain (of_member u n v m y e z a b g) holds = let wrong : false ≡ true = sym (ap is_plain e) ∙ plain in absurd cc
no_holder rows d h t plain (of_entries k k_at elem at form ps es e z a b) holds = let wrong : false ≡ true = sym (ap is_plain e) ∙ plain in absurd cc
no_holder rows d h t plain (of_elements elem at vs ds e z a b) holds = let wrong : false ≡ true = sym (ap is_plain e) ∙ plain in absurd cc
no_holder rows d h t plain (of_any e z) holds = let wrong : false ≡ true = sym (ap is_plain e) ∙ plain in absurd cc
no_holder rows d h t plain (of_nothing v z) holds = let wrong : false ≡ true = sym (ap is_holder z) ∙ holds in absurd cc

-- what has a part is a holder
pub has_part : (h : Holder) (s : List ℕ) (q : InSlot) → part h s ≡ Some q → is_holder h ≡ true
has_part (fields fs os) s q e = refl
has_part (member ms n v) s q e = refl
has_part (entries key slot paired ps) s q e = refl
has_part (elements slot vs) s q e = refl
has_part (any_entries ms) s q e = refl
has_part (any_elements ds) s q e = refl
has_part (nothing v) s q e = absurd (none-some q e)

module _ (rows : List Row) (legible : IsLegible rows) (p q : InSlot) (s : List ℕ) (t d : Data) (made : represented alone rows p.0 p.1 ≡ Some t) (there : part (seen rows p) s ≡ Some q)
    (partly : represented alone rows q.0 q.1 ≡ Some d) (holds : is_holder (seen rows q) ≡ true)
  where
    of_field : (r : StructDef) (g : Field) → form_of rows p.0 ≡ Some (D.Struct r) → field_named s r.fields ≡ Some g → g.slot ≡ q.0 → (x : Data) (b : Bool) → left_out g x ≡ b → b ≡ false
    of_field r g form named slot x false e = refl
    of_field r g form named slot x true e =
        let c = implicit_in g.implicit x e in
        let fits : ImplicitFits rows g = of_named (ImplicitFits rows) s r.fields g (legible.fitting (base rows (p.0).ty.0) (D.Struct r) form) named in
        let y = plain_type c.0 (form_of rows g.slot) (fits c.0 c.1) in
        absurd (no_holder rows y.type (seen rows q) d y.plain (held_by rows q.0 d y.type (ap (form_of rows) (sym slot) ∙ y.is) q.1 partly) holds)

    pub is_written : (x : Data) → is_left_out (form_of rows p.0) s x ≡ false
    is_written x = let h = is_held rows p.0 p.1 t s q made there in ap (λ F. is_left_out F s x) h.known ∙ by h.type h.known h.held where
      by : (y : TypeDef) → form_of rows p.0 ≡ Some y → Held rows y (seen rows p) t → is_left_out (Some y) s x ≡ false
      by y form (of_fields k os ds e z a b) =
          let there_in : part (fields k.fields os) s ≡ Some q = sym (ap (λ h. part h s) z) ∙ there in
          let g = present_field s k.fields os q there_in in
          ap (λ d. is_left_out (Some d) s x) e ∙ ap (λ o. option_map_or (λ g. left_out g x) o false) g.named
          ∙ of_field k g.declared (form ∙ ap Some e) g.named g.slot x (left_out g.declared x) refl
      by y form (of_member u n v m w e z a b g) = ap (λ d. is_left_out (Some d) s x) e
      by y form (of_entries k k_at elem at f ps es e z a b) = ap (λ d. is_left_out (Some d) s x) e
      by y form (of_elements elem at vs ds e z a b) = ap (λ d. is_left_out (Some d) s x) e
      by y form (of_any e z) = ap (λ d. is_left_out (Some d) s x) e
      by y form (of_nothing v z) = absurd (none-some q (sym (ap (λ h. part h s) z) ∙ there))

-- an implicit value has no parts
pub no_implicit_part : (v : View) (f : Value) (s : List ℕ) (q : InSlot) → IsView v f → part (seen (table_of v) (slot_of v, f)) s ≡ Some q → None ≡ piece_of v → ⊥
no_implicit_part v f s q h there none = by v.body v.placed none where
  by : (b : Body) → is_placed (table_of v) (slot_of v) b ≡ true → None ≡ piece_in b → ⊥
  by (B.Held p) placed e = none-some p e
  by (B.Implicit c) placed e =
      let x = is_held (table_of v) (slot_of v) f h.tree s q h.front.tree there in
      let y = plain_type c.now (form_of (table_of v) (slot_of v)) placed in
      let same : y.type ≡ x.type = same_Some y.type x.type (sym y.is ∙ x.known) in
      no_holder (table_of v) x.type (seen (table_of v) (slot_of v, f)) h.tree (sym (ap is_plain same) ∙ y.plain) x.held (has_part (seen (table_of v) (slot_of v, f)) s q there)

-- the piece of a view stands for its data
pub piece_stands : (v : View) (f : Value) (h : IsView v f) (p : Piece) → Some p ≡ piece_of v → StandsFor (table_of v) p h.tree
piece_stands v f h p e = by v.body h.stands e where
  by : (b : Body) → BodyStands (table_of v) b h.tree → Some p ≡ piece_in b → StandsFor (table_of v) p h.tree
  by (B.Held r) stands e = subst (λ r. StandsFor (table_of v) r h.tree) (sym (same_Some p r e)) stands
  by (B.Implicit c) stands e = absurd (none-some p (sym e))

-- where a part stands in the data of a view
pub view_leads : (v : View) (f : Value) (q : InSlot) (d : Data) (h : IsView v f) (s : List ℕ) (acc : List Row) (u : Slot) (p : Piece) (r : Option PartSteps) → acc ≡ table_of v → u ≡ slot_of v → Some p ≡ piece_of v
    → ((f : Value) (t d : Data) (q : InSlot) → represented alone acc u f ≡ Some t → StandsFor acc p t → part (seen acc (u, f)) s ≡ Some q → represented alone acc q.0 q.1 ≡ Some d → is_left_out (form_of acc u) s d ≡ false → FoundLead r t d)
    → part (seen (table_of v) (slot_of v, f)) s ≡ Some q → represented alone (table_of v) q.0 q.1 ≡ Some d → is_left_out (form_of (table_of v) (slot_of v)) s d ≡ false → FoundLead r h.tree d
view_leads v f q d h s acc u p r acc_is u_is piece all =
    subst (λ w. part (seen (table_of v) (w, f)) s ≡ Some q → represented alone (table_of v) q.0 q.1 ≡ Some d → is_left_out (form_of (table_of v) w) s d ≡ false → FoundLead r h.tree d) u_is
    (subst (λ rs. represented alone rs u f ≡ Some h.tree → StandsFor rs p h.tree → part (seen rs (u, f)) s ≡ Some q → represented alone rs q.0 q.1 ≡ Some d → is_left_out (form_of rs u) s d ≡ false → FoundLead r h.tree d) acc_is
    (λ made stands there partly out. all f h.tree d q made stands there partly out)
    (subst (λ w. represented alone (table_of v) w f ≡ Some h.tree) (sym u_is) h.front.tree) (piece_stands v f h p piece))
