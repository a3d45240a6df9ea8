-- What a value holds parts as, by the form of its type.
use Rattle.std.proofs.Common.{◌≡◌, ℕ, List, [], ◌∷◌, length, suc, Option, Some, None, refl, sym, ◌∙◌, ap, subst}
use Rattle.std.proofs.lemmas.Option.{same_Some, none-some}
use Rattle.ild_data.specs.Data.{Data}
use Rattle.ild_schema.specs.Slots.{form_of}
use Rattle.ild_schema.specs.Value as V
use Rattle.ild_schema.specs.Value.{Value, Pairs, optionals_list, pairs_list, values_list}
use Rattle.ild_schema.specs.declared.def.Field.{Field}
use Rattle.ild_schema.specs.declared.def.MapForm.{MapForm}
use Rattle.ild_schema.specs.declared.def.MapForm.TheVariants as MF
use Rattle.ild_schema.specs.declared.def.TypeDef.{TypeDef}
use Rattle.ild_schema.specs.declared.def.TypeDef.TheVariants as D
use Rattle.ild_schema.specs.declared.number.Slot.{Slot}
use Rattle.ild_schema.specs.declared.number.TypeNo.{TypeNo}
use Rattle.ild_schema.specs.declared.row.Row.{Row}
use Rattle.ild_typed.proofs.Basics.{map_from}
use Rattle.ild_typed.proofs.FormOf.{any_form, boolean_form, bytes_form, enum_form, hamt_form, integer_form, link_form, list_form, map_form, struct_form, text_form, union_form, unit_form}
use Rattle.ild_typed.proofs.OneLayer.{in_layer}
use Rattle.ild_typed.proofs.OneValue.{Way, as_layer, as_null, way_of}
use Rattle.ild_typed.proofs.WalkSound.{any_is}
use Rattle.ild_typed.specs.Composed.{composed}
use Rattle.ild_typed.specs.Hamt.{alone}
use Rattle.ild_typed.specs.Holder.{Holder, any_holder, elements, entries, fields, holder_of, is_paired, list_holder, map_holder, member, nothing, struct_holder, union_holder}
use Rattle.ild_typed.specs.Layer as L
use Rattle.ild_typed.specs.Layer.{Layer}
use Rattle.ild_typed.specs.Layers.{FieldsFit, LayerFits, layer_of}
use Rattle.ild_typed.specs.OfType.{OfType}
use Rattle.ild_typed.specs.Represented.{represented}

-- the entries of a map that has no HAMT; of one that has, none are shown
abbrev pub HoldsMap : TypeNo → Slot → MapForm → Holder → Type 0
HoldsMap key value (MF.Hamt shape) h = (v : Value) × (h ≡ nothing v)
HoldsMap key value MF.Map h = (ps : List (List ℕ × Value)) × (h ≡ entries key.0 value (is_paired MF.Map) ps)
HoldsMap key value MF.ListPairs h = (ps : List (List ℕ × Value)) × (h ≡ entries key.0 value (is_paired MF.ListPairs) ps)
HoldsMap key value (MF.StringPairs inner entry) h = (ps : List (List ℕ × Value)) × (h ≡ entries key.0 value (is_paired (MF.StringPairs inner entry)) ps)

-- what a value of a type holds parts as, where its data are t
abbrev pub Holds : TypeDef → Data → Holder → Type 0
Holds (D.List elem at) t h = (vs : List Value) × (h ≡ elements elem vs)
Holds (D.Map key key_at value at form) t h = HoldsMap key value form h
Holds (D.Struct def) t h = (os : List (Option Value)) × (h ≡ fields def.fields os) × (length def.fields ≡ length os)
Holds (D.Union def) t h = (n : ℕ) × (v : Value) × (h ≡ member def.members n v)
Holds D.Any t h = h ≡ any_holder t
Holds d t h = (v : Value) × (h ≡ nothing v)

-- fields that fit have a place each
fields_long : (P : Slot → Value → Type 0) (fs : List Field) (os : List (Option Value)) → FieldsFit P fs os → length fs ≡ length os
fields_long P [] [] h = refl
fields_long P [] (o ∷ os) h = absurd h
fields_long P (f ∷ fs) [] h = absurd h
fields_long P (f ∷ fs) (Some v ∷ os) h = ap suc (fields_long P fs os h.1)
fields_long P (f ∷ fs) (None ∷ os) h = ap suc (fields_long P fs os h.1)

module _ (rows : List Row) (s : Slot) (t : Data) (d : TypeDef) (known : form_of rows s ≡ Some d) where
  layer_fits : (f : Value) (l : Layer Value) → layer_of f ≡ Some l → OfType rows s f → LayerFits (OfType rows) rows d l
  layer_fits f l e h =
      let x = in_layer rows s f l e h in
      subst (λ k. LayerFits (OfType rows) rows k l) (same_Some x.ty d (sym x.form ∙ known)) x.holds

  as_is : (e : TypeDef) (h : Holder) → d ≡ e → Holds e t h → Holds d t h
  as_is e h is x = subst (λ k. Holds k t h) (sym is) x

  map_made : (key : TypeNo) (key_at : ℕ) (value : Slot) (at : ℕ) (form : MapForm) (ps : Pairs) → d ≡ D.Map key key_at value at form → represented alone rows s (V.map ps) ≡ Some t → HoldsMap key value form (map_holder (Some (D.Map key key_at value at form)) ps)
  map_made key key_at value at MF.Map ps is made = (pairs_list ps, refl)
  map_made key key_at value at MF.ListPairs ps is made = (pairs_list ps, refl)
  map_made key key_at value at (MF.StringPairs inner entry) ps is made = (pairs_list ps, refl)
  map_made key key_at value at (MF.Hamt shape) ps is made = by (way_of alone rows s (V.map ps) t made) where
    by : Way alone rows s (V.map ps) t → HoldsMap key value (MF.Hamt shape) (map_holder (Some (D.Map key key_at value at (MF.Hamt shape))) ps)
    by (as_null a n z) = absurd cc
    by (as_layer e l k there done) =
        let one = map_from L.map _ l there in
        let shown = subst (λ b. composed alone b l ≡ Some t) (same_Some e d (sym k ∙ known) ∙ is) done in
        absurd (none-some t (subst (λ m. composed alone (D.Map key key_at value at (MF.Hamt shape)) m ≡ Some t) (sym (same_Some (L.map one.item) l one.made)) shown))

  any_made : (y : Data) → d ≡ D.Any → represented alone rows s (V.any y) ≡ Some t → any_holder y ≡ any_holder t
  any_made y is made = by (way_of alone rows s (V.any y) t made) where
    by : Way alone rows s (V.any y) t → any_holder y ≡ any_holder t
    by (as_null a n z) = absurd cc
    by (as_layer e l k there done) =
        let is_any : e ≡ D.Any = same_Some e d (sym k ∙ known) ∙ is in
        let one : L.any y ≡ l = same_Some (L.any y) l there in
        ap any_holder (any_is y t (subst (λ m. composed alone D.Any m ≡ Some t) (sym one) (subst (λ k. composed alone k l ≡ Some t) is_any done)))

  -- a value of a type, that is not null and has data
  pub holds : (f : Value) → (f ≡ V.null → ⊥) → represented alone rows s f ≡ Some t → OfType rows s f → Holds d t (holder_of rows s f)
  holds V.null some made h = absurd (some refl)
  holds (V.boolean b) some made h = as_is D.Bool (nothing (V.boolean b)) (boolean_form rows (OfType rows) d b (layer_fits (V.boolean b) (L.boolean b) refl h)) (V.boolean b, refl)
  holds (V.integer n) some made h = as_is D.Int (nothing (V.integer n)) (integer_form rows (OfType rows) d n (layer_fits (V.integer n) (L.integer n) refl h)).0 (V.integer n, refl)
  holds (V.text x) some made h = as_is D.Text (nothing (V.text x)) (text_form rows (OfType rows) d x (layer_fits (V.text x) (L.text x) refl h)).0 (V.text x, refl)
  holds (V.bytes x) some made h = as_is D.Bytes (nothing (V.bytes x)) (bytes_form rows (OfType rows) d x (layer_fits (V.bytes x) (L.bytes x) refl h)).0 (V.bytes x, refl)
  holds (V.link x) some made h =
      let y = link_form rows (OfType rows) d x (layer_fits (V.link x) (L.link x) refl h) in
      as_is (D.Link y.0) (nothing (V.link x)) y.1 (V.link x, refl)
  holds (V.list vs) some made h =
      let y = list_form rows (OfType rows) d (values_list vs) (layer_fits (V.list vs) (L.list (values_list vs)) refl h) in
      as_is (D.List y.0 y.1) (list_holder (form_of rows s) vs) y.2 (values_list vs, ap (λ o. list_holder o vs) (known ∙ ap Some y.2))
  holds (V.map ps) some made h =
      let y = map_form rows (OfType rows) d (pairs_list ps) (layer_fits (V.map ps) (L.map (pairs_list ps)) refl h) in
      as_is (D.Map y.0 y.1 y.2 y.3 y.4) (map_holder (form_of rows s) ps) y.5 (subst (λ o. HoldsMap y.0 y.2 y.4 (map_holder o ps)) (sym (known ∙ ap Some y.5)) (map_made y.0 y.1 y.2 y.3 y.4 ps y.5 made))
  holds (V.struct os) some made h =
      let y = struct_form rows (OfType rows) d (optionals_list os) (layer_fits (V.struct os) (L.struct (optionals_list os)) refl h) in
      as_is (D.Struct y.0) (struct_holder (form_of rows s) os) y.1 (optionals_list os, ap (λ o. struct_holder o os) (known ∙ ap Some y.1), fields_long (OfType rows) (y.0).fields (optionals_list os) y.2)
  holds (V.union n v) some made h =
      let y = union_form rows (OfType rows) d n v (layer_fits (V.union n v) (L.union n v) refl h) in
      as_is (D.Union y.0) (union_holder (form_of rows s) n v) y.2 (n, v, ap (λ o. union_holder o n v) (known ∙ ap Some y.2))
  holds (V.enum n) some made h =
      let y = enum_form rows (OfType rows) d n (layer_fits (V.enum n) (L.enum n) refl h) in
      as_is (D.Enum y.0) (nothing (V.enum n)) y.2 (V.enum n, refl)
  holds V.unit some made h =
      let y = unit_form rows (OfType rows) d (layer_fits V.unit L.unit refl h) in
      as_is (D.Unit y.0) (nothing V.unit) y.1 (V.unit, refl)
  holds (V.any y) some made h =
      let is = (any_form rows (OfType rows) d y (layer_fits (V.any y) (L.any y) refl h)).0 in
      as_is D.Any (any_holder y) is (any_made y is made)
  holds (V.hamt y) some made h =
      let x = hamt_form rows (OfType rows) d y (layer_fits (V.hamt y) (L.hamt y) refl h) in
      as_is (D.Map x.0 x.1 x.2 x.3 (MF.Hamt x.4)) (nothing (V.hamt y)) x.5 (V.hamt y, refl)
