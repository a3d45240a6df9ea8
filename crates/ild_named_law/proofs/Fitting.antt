-- Two such tables: what fits by the one fits by the other.
use Rattle.std.proofs.Common.{◌≡◌, ℕ, zero, suc, ◌-◌, ◌<◌, List, [], ◌∷◌, Option, Some, None, inl, inr, refl, sym, ◌∙◌, subst}
use Rattle.std.specs.Prelude.{IsSomeAnd, IsUtf8, slice_get}
use Rattle.std.specs.List.{AllByRecursion}
use Rattle.ild_data.proofs.AllOf.{all_at}
use Rattle.ild_data.specs.Data as T
use Rattle.ild_data.specs.Data.{Data}
use Rattle.ild_data.specs.declared.hamt_shape.HamtShape.{HamtShape}
use Rattle.ild_schema.specs.declared.number.Slot.{Slot}
use Rattle.ild_schema.specs.declared.number.TypeNo.{TypeNo}
use Rattle.ild_schema.specs.declared.def.TypeDef.{TypeDef}
use Rattle.ild_schema.specs.declared.def.TypeDef.TheVariants as D
use Rattle.ild_schema.specs.declared.def.MapForm.{MapForm}
use Rattle.ild_schema.specs.declared.def.MapForm.TheVariants as MF
use Rattle.ild_schema.specs.declared.def.Field.{Field}
use Rattle.ild_schema.specs.declared.def.Member.{Member}
use Rattle.ild_schema.specs.declared.row.Row.{Row}
use Rattle.ild_schema.specs.Slots.{form_of, plainly}
use Rattle.ild_schema.specs.Value as V
use Rattle.ild_schema.specs.Value.{Value}
use Rattle.ild_typed.specs.Fits.{FormFits, ValueFits, FitsPast, Fits}
use Rattle.ild_typed.specs.Hamt.{alone}
use Rattle.ild_typed.specs.Layer.{Layer, as_list, as_map, as_struct, as_union, as_hamt}
use Rattle.ild_typed.specs.Layers.{layer_of, RepresentsSome, FieldsFit, EntriesFit, RootFits, MapFits, LayerFits}
use Rattle.ild_typed.specs.Levels.{levels_of}
use Rattle.ild_typed.specs.Node as N
use Rattle.ild_typed.proofs.Rooms.{all_more, some_more}
use Rattle.ild_named_law.proofs.Alike.{AreAlike, IsLow, IsLowIn, low_form, low_parts}
use Rattle.ild_named_law.proofs.Standing.{form_same, tree_same}

some_at : {X : Type 0} (o : Option X) (P Q : X → Type 0) → ((x : X) → o ≡ Some x → P x → Q x) → IsSomeAnd o P → IsSomeAnd o Q
some_at None P Q more h = absurd h
some_at (Some x) P Q more h = more x refl h

module _ (count : ℕ) (others rows : List Row) (alike : AreAlike count others rows) where
  -- ---- layers

  module _ (P Q : Slot → Value → Type 0) (more : (s : Slot) (v : Value) → s.ty.0 < count → P s v → Q s v) where
    shows_over : (s : Slot) (d : Data) → s.ty.0 < count → RepresentsSome P rows s d → RepresentsSome Q others s d
    shows_over s d low (v, fits, shows) = (v, more s v low fits, tree_same count others rows alike alone s v low ∙ shows)

    fields_over : (fs : List Field) (os : List (Option Value)) → AllByRecursion (λ (f : Field). f.slot.ty.0 < count) fs → FieldsFit P fs os → FieldsFit Q fs os
    fields_over [] [] low h = tt
    fields_over [] (o ∷ os) low h = absurd h
    fields_over (f ∷ fs) [] low h = absurd h
    fields_over (f ∷ fs) (Some v ∷ os) low h = (more f.slot v low.0 h.0, fields_over fs os low.1 h.1)
    fields_over (f ∷ fs) (None ∷ os) low h = (h.0, fields_over fs os low.1 h.1)

    module _ (key : TypeNo) (value : Slot) (key_low : key.0 < count) (value_low : value.ty.0 < count) where
      entries_over : (form : MapForm) (ps : List (List ℕ × Value)) → EntriesFit P rows key value form ps → EntriesFit Q others key value form ps
      entries_over form ps h = (
        h.0,
        all_more (λ p. IsUtf8 p.0 × RepresentsSome P rows (plainly key) (T.text p.0) × P value p.1) (λ p. IsUtf8 p.0 × RepresentsSome Q others (plainly key) (T.text p.0) × Q value p.1)
            (λ p e. (e.0, shows_over (plainly key) (T.text p.0) key_low e.1, more value p.1 value_low e.2)) ps h.1,
      )

      root_over : (p : HamtShape) (d : Data) → RootFits P rows p key value d → RootFits Q others p key value d
      root_over p d (slots, root, all) = (
        slots,
        root,
        all_more (λ e. RepresentsSome P rows (plainly key) (T.text e.0) × RepresentsSome P rows value e.1) (λ e. RepresentsSome Q others (plainly key) (T.text e.0) × RepresentsSome Q others value e.1)
            (λ e h. (shows_over (plainly key) (T.text e.0) key_low h.0, shows_over value e.1 value_low h.1)) (N.entries_in slots) all,
      )

      map_over : (form : MapForm) (l : Layer Value) → MapFits P rows key value form l → MapFits Q others key value form l
      map_over MF.Map l h = some_more (EntriesFit P rows key value MF.Map) (EntriesFit Q others key value MF.Map) (entries_over MF.Map) (as_map l) h
      map_over MF.ListPairs l h = some_more (EntriesFit P rows key value MF.ListPairs) (EntriesFit Q others key value MF.ListPairs) (entries_over MF.ListPairs) (as_map l) h
      map_over (MF.StringPairs i e) l h =
          some_more (EntriesFit P rows key value (MF.StringPairs i e)) (EntriesFit Q others key value (MF.StringPairs i e)) (entries_over (MF.StringPairs i e)) (as_map l) h
      map_over (MF.Hamt p) l (inl h) = inl (some_more (EntriesFit P rows key value (MF.Hamt p)) (EntriesFit Q others key value (MF.Hamt p)) (entries_over (MF.Hamt p)) (as_map l) h)
      map_over (MF.Hamt p) l (inr h) = inr (some_more (RootFits P rows p key value) (RootFits Q others p key value) (root_over p) (as_hamt l) h)

    layer_over : (d : TypeDef) (l : Layer Value) → IsLow count d → LayerFits P rows d l → LayerFits Q others d l
    layer_over D.Bool l low h = h
    layer_over D.Text l low h = h
    layer_over D.Bytes l low h = h
    layer_over D.Int l low h = h
    layer_over D.Any l low h = h
    layer_over (D.Link target) l low h = h
    layer_over (D.Unit form) l low h = h
    layer_over (D.List elem at) l low h = some_more (AllByRecursion (P elem)) (AllByRecursion (Q elem)) (λ vs. all_more (P elem) (Q elem) (λ v. more elem v low.0) vs) (as_list l) h
    layer_over (D.Map key key_at value at form) l low h = map_over key value low.0 low.1.0 form l h
    layer_over (D.Struct s) l low h =
        some_more (FieldsFit P s.fields) (FieldsFit Q s.fields) (λ os. fields_over s.fields os (low_parts count (λ (f : Field). f.slot.ty.0) s.fields low)) (as_struct l) h
    layer_over (D.Union u) l low h =
        some_more (λ p. IsSomeAnd (slice_get u.members p.0) (λ m. P (plainly m.ty) p.1)) (λ p. IsSomeAnd (slice_get u.members p.0) (λ m. Q (plainly m.ty) p.1))
        (λ p. some_at (slice_get u.members p.0) (λ m. P (plainly m.ty) p.1) (λ m. Q (plainly m.ty) p.1)
        (λ m e. more (plainly m.ty) p.1 (all_at (λ (m : Member). m.ty.0 < count) u.members p.0 m (low_parts count (λ (m : Member). m.ty.0) u.members low) e))) (as_union l) h
    layer_over (D.Enum e) l low h = h
    layer_over (D.Copy target) l low h = h

  -- ---- values

  module _ (room : ℕ) (P Q : ℕ → Slot → Value → Type 0) (more : (o : ℕ) (s : Slot) (v : Value) → s.ty.0 < count → P o s v → Q o s v) where
    form_over : (v : Value) (d : TypeDef) → IsLow count d → FormFits rows room P v d → FormFits others room Q v d
    form_over v d low h =
        let o = levels_of d v - 1 in
        (h.0, some_more (LayerFits (P o) rows d) (LayerFits (Q o) others d) (λ l. layer_over (P o) (Q o) (more o) d l low) (layer_of v) h.1)

    forms_over : (v : Value) (o : Option TypeDef) → IsLowIn count o → IsSomeAnd o (FormFits rows room P v) → IsSomeAnd o (FormFits others room Q v)
    forms_over v None low h = absurd h
    forms_over v (Some d) low h = form_over v d low h

    layered_over : (s : Slot) (v : Value) → s.ty.0 < count → IsSomeAnd (form_of rows s) (FormFits rows room P v) → IsSomeAnd (form_of others s) (FormFits others room Q v)
    layered_over s v low h =
        subst (λ o. IsSomeAnd o (FormFits others room Q v)) (sym (form_same count others rows alike s low)) (forms_over v (form_of rows s) (low_form count others rows alike s low) h)

    value_over : (s : Slot) (v : Value) → s.ty.0 < count → ValueFits rows room P s v → ValueFits others room Q s v
    value_over s V.null low h = h
    value_over s v low h = layered_over s v low h

  past_over : (room over : ℕ) (s : Slot) (v : Value) → s.ty.0 < count → FitsPast rows room over s v → FitsPast others room over s v
  unfolding FitsPast
  past_over zero zero s v low h = value_over zero (λ over t w. ⊥) (λ over t w. ⊥) (λ o t w low k. k) s v low h
  past_over zero (suc over) s v low h = h
  past_over (suc room) zero s v low h = value_over (suc room) (FitsPast rows room) (FitsPast others room) (λ o t w low k. past_over room o t w low k) s v low h
  past_over (suc room) (suc over) s v low h = past_over room over s v low h

  pub fits_over : (room : ℕ) (s : Slot) (v : Value) → s.ty.0 < count → Fits rows room s v → Fits others room s v
  fits_over room s v low h = past_over room zero s v low h
