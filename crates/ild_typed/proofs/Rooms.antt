-- What fits in a room fits in a greater one; and rooms of which so much is passed over.
use Rattle.std.proofs.Common.{◌≡◌, ℕ, zero, suc, ◌+◌, ◌-◌, ◌≤◌, List, [], ◌∷◌, Option, Some, None, ap, arith, inl, inr}
use Rattle.std.specs.Prelude.{IsSomeAnd, slice_get, IsUtf8}
use Rattle.std.specs.List.{AllByRecursion}
use Rattle.ild_data.specs.Data as T
use Rattle.ild_data.specs.Data.{Data}
use Rattle.ild_data.specs.declared.hamt_shape.HamtShape.{HamtShape}
use Rattle.ild_schema.specs.declared.number.Slot.{Slot}
use Rattle.ild_schema.specs.declared.number.TypeNo.{TypeNo}
use Rattle.ild_schema.specs.declared.def.TypeDef.{TypeDef}
use Rattle.ild_schema.specs.declared.def.TypeDef.TheVariants as D
use Rattle.ild_schema.specs.declared.def.MapForm.{MapForm}
use Rattle.ild_schema.specs.declared.def.MapForm.TheVariants as MF
use Rattle.ild_schema.specs.declared.def.Field.{Field}
use Rattle.ild_schema.specs.declared.row.Row.{Row}
use Rattle.ild_schema.specs.Value as V
use Rattle.ild_schema.specs.Value.{Value}
use Rattle.ild_typed.specs.Layer.{Layer, as_list, as_map, as_struct, as_union, as_hamt}
use Rattle.ild_schema.specs.Slots.{form_of, plainly}
use Rattle.ild_typed.specs.Levels.{levels_of}
use Rattle.ild_typed.specs.Node as N
use Rattle.ild_typed.specs.Fits.{FormFits, ValueFits, FitsPast, Fits}
use Rattle.ild_typed.specs.Layers.{layer_of, RepresentsSome, FieldsFit, EntriesFit, RootFits, MapFits, LayerFits}

pub all_more : {X : Type 0} (P Q : X → Type 0) → ((x : X) → P x → Q x) → (xs : List X) → AllByRecursion P xs → AllByRecursion Q xs
all_more P Q m [] all = tt
all_more P Q m (x ∷ xs) all = (m x all.0, all_more P Q m xs all.1)

pub some_more : {X : Type 0} (P Q : X → Type 0) → ((x : X) → P x → Q x) → (o : Option X) → IsSomeAnd o P → IsSomeAnd o Q
some_more P Q m None h = absurd h
some_more P Q m (Some x) h = m x h

module _ (rows : List Row) (P Q : Slot → Value → Type 0) (more : (s : Slot) (v : Value) → P s v → Q s v) where
  pub shows_more : (s : Slot) (d : Data) → RepresentsSome P rows s d → RepresentsSome Q rows s d
  shows_more s d (v, fits, shows) = (v, more s v fits, shows)

  pub fields_more : (fs : List Field) (os : List (Option Value)) → FieldsFit P fs os → FieldsFit Q fs os
  fields_more [] [] h = tt
  fields_more [] (o ∷ os) h = absurd h
  fields_more (f ∷ fs) [] h = absurd h
  fields_more (f ∷ fs) (Some v ∷ os) h = (more f.slot v h.0, fields_more fs os h.1)
  fields_more (f ∷ fs) (None ∷ os) h = (h.0, fields_more fs os h.1)

  pub entries_more : (key : TypeNo) (value : Slot) (form : MapForm) (ps : List (List ℕ × Value)) → EntriesFit P rows key value form ps → EntriesFit Q rows key value form ps
  entries_more key value form ps h = (
    h.0,
    all_more (λ p. IsUtf8 p.0 × RepresentsSome P rows (plainly key) (T.text p.0) × P value p.1) (λ p. IsUtf8 p.0 × RepresentsSome Q rows (plainly key) (T.text p.0) × Q value p.1)
        (λ p e. (e.0, shows_more (plainly key) (T.text p.0) e.1, more value p.1 e.2)) ps h.1,
  )

  pub root_more : (p : HamtShape) (key : TypeNo) (value : Slot) (d : Data) → RootFits P rows p key value d → RootFits Q rows p key value d
  root_more p key value d (slots, root, all) = (
    slots,
    root,
    all_more (λ e. RepresentsSome P rows (plainly key) (T.text e.0) × RepresentsSome P rows value e.1) (λ e. RepresentsSome Q rows (plainly key) (T.text e.0) × RepresentsSome Q rows value e.1)
        (λ e h. (shows_more (plainly key) (T.text e.0) h.0, shows_more value e.1 h.1)) (N.entries_in slots) all,
  )

  pub map_more : (key : TypeNo) (value : Slot) (form : MapForm) (l : Layer Value) → MapFits P rows key value form l → MapFits Q rows key value form l
  map_more key value MF.Map l h = some_more (EntriesFit P rows key value MF.Map) (EntriesFit Q rows key value MF.Map) (entries_more key value MF.Map) (as_map l) h
  map_more key value MF.ListPairs l h = some_more (EntriesFit P rows key value MF.ListPairs) (EntriesFit Q rows key value MF.ListPairs) (entries_more key value MF.ListPairs) (as_map l) h
  map_more key value (MF.StringPairs i e) l h =
      some_more (EntriesFit P rows key value (MF.StringPairs i e)) (EntriesFit Q rows key value (MF.StringPairs i e)) (entries_more key value (MF.StringPairs i e)) (as_map l) h
  map_more key value (MF.Hamt p) l (inl h) = inl (some_more (EntriesFit P rows key value (MF.Hamt p)) (EntriesFit Q rows key value (MF.Hamt p)) (entries_more key value (MF.Hamt p)) (as_map l) h)
  map_more key value (MF.Hamt p) l (inr h) = inr (some_more (RootFits P rows p key value) (RootFits Q rows p key value) (root_more p key value) (as_hamt l) h)

  pub layer_more : (d : TypeDef) (l : Layer Value) → LayerFits P rows d l → LayerFits Q rows d l
  layer_more D.Bool l h = h
  layer_more D.Text l h = h
  layer_more D.Bytes l h = h
  layer_more D.Int l h = h
  layer_more D.Any l h = h
  layer_more (D.Link target) l h = h
  layer_more (D.Unit form) l h = h
  layer_more (D.List elem at) l h = some_more (AllByRecursion (P elem)) (AllByRecursion (Q elem)) (λ vs. all_more (P elem) (Q elem) (more elem) vs) (as_list l) h
  layer_more (D.Map key key_at value at form) l h = map_more key value form l h
  layer_more (D.Struct s) l h = some_more (FieldsFit P s.fields) (FieldsFit Q s.fields) (fields_more s.fields) (as_struct l) h
  layer_more (D.Union u) l h =
      some_more (λ p. IsSomeAnd (slice_get u.members p.0) (λ m. P (plainly m.ty) p.1)) (λ p. IsSomeAnd (slice_get u.members p.0) (λ m. Q (plainly m.ty) p.1))
      (λ p. some_more (λ m. P (plainly m.ty) p.1) (λ m. Q (plainly m.ty) p.1) (λ m. more (plainly m.ty) p.1) (slice_get u.members p.0)) (as_union l) h
  layer_more (D.Enum e) l h = h
  layer_more (D.Copy target) l h = h

module _ (rows : List Row) (m n : ℕ) (le : m ≤ n) (P Q : ℕ → Slot → Value → Type 0) (more : (o : ℕ) (s : Slot) (v : Value) → P o s v → Q o s v) where
  pub form_more : (v : Value) (d : TypeDef) → FormFits rows m P v d → FormFits rows n Q v d
  form_more v d h =
      let o = levels_of d v - 1 in
      (omega (arith, h.0, le), some_more (LayerFits (P o) rows d) (LayerFits (Q o) rows d) (layer_more rows (P o) (Q o) (more o) d) (layer_of v) h.1)

  pub value_more : (s : Slot) (v : Value) → ValueFits rows m P s v → ValueFits rows n Q s v
  value_more s V.null h = h
  value_more s v h = some_more (FormFits rows m P v) (FormFits rows n Q v) (form_more v) (form_of rows s) h

-- a greater room
pub past_more : (rows : List Row) (m n over : ℕ) → m ≤ n → (s : Slot) (v : Value) → FitsPast rows m over s v → FitsPast rows n over s v
unfolding FitsPast
past_more rows zero zero zero le s v h = h
past_more rows zero (suc n) zero le s v h = value_more rows zero (suc n) le (λ over t w. ⊥) (FitsPast rows n) (λ o t w k. absurd k) s v h
past_more rows zero n (suc over) le s v h = absurd h
past_more rows (suc m) zero over le s v h = absurd (not_below m le)
  where
    not_below : (m : ℕ) → suc m ≤ zero → ⊥
    not_below m l = omega (arith, l)
past_more rows (suc m) (suc n) zero le s v h =
    value_more rows (suc m) (suc n) le (FitsPast rows m) (FitsPast rows n) (λ o t w k. past_more rows m n o (omega (arith, le)) t w k) s v h
past_more rows (suc m) (suc n) (suc over) le s v h = past_more rows m n over (omega (arith, le)) s v h

pub fits_more : (rows : List Row) (m n : ℕ) → m ≤ n → (s : Slot) (v : Value) → Fits rows m s v → Fits rows n s v
fits_more rows m n le s v h = past_more rows m n zero le s v h

-- what is passed over is room taken away
pub past_less : (rows : List Row) (over room n : ℕ) → n ≡ room + over → (s : Slot) (v : Value) → FitsPast rows n over s v ≡ Fits rows room s v
unfolding FitsPast
past_less rows zero room n e s v = ap (λ k. FitsPast rows k zero s v) (omega (arith, e))
past_less rows (suc over) room zero e s v = absurd (omega (arith, e))
past_less rows (suc over) room (suc n) e s v = past_less rows over room n (omega (arith, e)) s v
