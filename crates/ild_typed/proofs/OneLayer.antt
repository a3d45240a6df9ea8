-- A value fits in some room exactly where its layer is of the type's form, and each part fits in some room.
use Rattle.std.proofs.Common.{◌≡◌, ℕ, zero, suc, ◌+◌, ◌-◌, ◌≤◌, List, [], ◌∷◌, true, Option, Some, None, refl, sym, subst, arith, inl, inr}
use Rattle.std.specs.Prelude.{IsSomeAnd, slice_get, IsUtf8}
use Rattle.std.specs.List.{AllByRecursion}
use Rattle.std.proofs.lemmas.Option.{none-some}
use Rattle.ild_data.specs.Data as T
use Rattle.ild_data.specs.Data.{Data}
use Rattle.ild_data.specs.declared.hamt_shape.HamtShape.{HamtShape}
use Rattle.ild_schema.specs.declared.number.Slot.{Slot}
use Rattle.ild_schema.specs.declared.number.TypeNo.{TypeNo}
use Rattle.ild_schema.specs.declared.def.TypeDef.{TypeDef}
use Rattle.ild_schema.specs.declared.def.TypeDef.TheVariants as D
use Rattle.ild_schema.specs.declared.def.MapForm.{MapForm}
use Rattle.ild_schema.specs.declared.def.MapForm.TheVariants as MF
use Rattle.ild_schema.specs.declared.def.Field.{Field}
use Rattle.ild_schema.specs.declared.row.Row.{Row}
use Rattle.ild_schema.specs.Value as V
use Rattle.ild_schema.specs.Value.{Value}
use Rattle.ild_typed.specs.Layer.{Layer, as_list, as_map, as_struct, as_union, as_hamt}
use Rattle.ild_schema.specs.Slots.{form_of, plainly}
use Rattle.ild_typed.specs.Levels.{levels_of}
use Rattle.ild_typed.specs.Node as N
use Rattle.ild_typed.specs.Fits.{FormFits, ValueFits, FitsPast, Fits}
use Rattle.ild_typed.specs.Layers.{layer_of, RepresentsSome, FieldsFit, EntriesFit, RootFits, MapFits, LayerFits}
use Rattle.ild_typed.proofs.Rooms.{all_more, layer_more, fits_more}
use Rattle.ild_typed.specs.OfType.{OfType}

-- the form of a slot's type, and what holds of it
pub record HasForm (rows : List Row) (s : Slot) (P : TypeDef → Type 0) : Type 0 where
  pub ty : TypeDef
  pub form : form_of rows s ≡ Some ty
  pub holds : P ty

formed : (rows : List Row) (s : Slot) (P Q : TypeDef → Type 0) → ((d : TypeDef) → P d → Q d) → (o : Option TypeDef) → form_of rows s ≡ o → IsSomeAnd o P → HasForm rows s Q
formed rows s P Q more None e h = absurd h
formed rows s P Q more (Some d) e h = record { ty = d; form = e; holds = more d h }

-- what is passed over is room taken away
pub past_typed : (rows : List Row) (over room : ℕ) (s : Slot) (w : Value) → FitsPast rows room over s w → OfType rows s w
unfolding FitsPast
past_typed rows zero room s w h = (room, h)
past_typed rows (suc over) zero s w h = absurd h
past_typed rows (suc over) (suc room) s w h = past_typed rows over room s w h

pub past_over : (rows : List Row) (over r n : ℕ) → n ≡ r + over → (s : Slot) (w : Value) → Fits rows r s w → FitsPast rows n over s w
unfolding FitsPast
past_over rows zero r n e s w h = subst (λ k. FitsPast rows k zero s w) (same r n e) h
  where
    same : (r n : ℕ) → n ≡ r + zero → r ≡ n
    same r n e = omega (arith, e)
past_over rows (suc over) r zero e s w h = absurd (none r over e)
  where
    none : (r over : ℕ) → zero ≡ r + suc over → ⊥
    none r over e = omega (arith, e)
past_over rows (suc over) r (suc n) e s w h = past_over rows over r n (less r over n e) s w h
  where
    less : (r over n : ℕ) → suc n ≡ r + suc over → n ≡ r + over
    less r over n e = omega (arith, e)

-- from a value to its layer
module _ (rows : List Row) (room : ℕ) (below : ℕ → Slot → Value → Type 0) (typed : (over : ℕ) (s : Slot) (w : Value) → below over s w → OfType rows s w) where
  layer_typed : (v : Value) (l : Layer Value) (d : TypeDef) → layer_of v ≡ Some l → FormFits rows room below v d → LayerFits (OfType rows) rows d l
  layer_typed v l d e h =
      let over = levels_of d v - 1 in
      layer_more rows (below over) (OfType rows) (typed over) d l (subst (λ o. IsSomeAnd o (LayerFits (below over) rows d)) e h.1)

  value_typed : (s : Slot) (v : Value) (l : Layer Value) → layer_of v ≡ Some l → ValueFits rows room below s v → HasForm rows s (λ d. LayerFits (OfType rows) rows d l)
  value_typed s V.null l e h = absurd (none-some l e)
  value_typed s v l e h = formed rows s (FormFits rows room below v) (λ d. LayerFits (OfType rows) rows d l) (λ d k. layer_typed v l d e k) (form_of rows s) refl h

room_typed : (rows : List Row) (room : ℕ) (s : Slot) (v : Value) (l : Layer Value) → layer_of v ≡ Some l → Fits rows room s v → HasForm rows s (λ d. LayerFits (OfType rows) rows d l)
unfolding FitsPast
room_typed rows zero s v l e h = value_typed rows zero (λ over t w. ⊥) (λ over t w k. absurd k) s v l e h
room_typed rows (suc room) s v l e h = value_typed rows (suc room) (FitsPast rows room) (λ over t w k. past_typed rows over room t w k) s v l e h

pub in_layer : (rows : List Row) (s : Slot) (v : Value) (l : Layer Value) → layer_of v ≡ Some l → OfType rows s v → HasForm rows s (λ d. LayerFits (OfType rows) rows d l)
in_layer rows s v l e h = room_typed rows h.0 s v l e h.1

-- one room for all
left_room : (m n : ℕ) → m ≤ m + n
left_room m n = omega (arith)

right_room : (m n : ℕ) → n ≤ m + n
right_room m n = omega (arith)

all_room : {X : Type 0} (P : ℕ → X → Type 0) → ((m n : ℕ) → m ≤ n → (x : X) → P m x → P n x) → (xs : List X) → AllByRecursion (λ x. (r : ℕ) × P r x) xs → (r : ℕ) × AllByRecursion (P r) xs
all_room P more [] h = (0, tt)
all_room P more (x ∷ xs) h =
    let f = h.0 in
    let r = all_room P more xs h.1 in
    (f.0 + r.0, (more f.0 (f.0 + r.0) (left_room f.0 r.0) x f.1, all_more (P r.0) (P (f.0 + r.0)) (λ y k. more r.0 (f.0 + r.0) (right_room f.0 r.0) y k) xs r.1))

some_room : {A : Type 0} (Q : A → Type 0) (P : ℕ → A → Type 0) → ((a : A) → Q a → (r : ℕ) × P r a) → (o : Option A) → IsSomeAnd o Q → (r : ℕ) × IsSomeAnd o (P r)
some_room Q P f None h = absurd h
some_room Q P f (Some a) h = f a h

module _ (rows : List Row) where
  shows_more : (m n : ℕ) → m ≤ n → (s : Slot) (d : Data) → RepresentsSome (Fits rows m) rows s d → RepresentsSome (Fits rows n) rows s d
  shows_more m n le s d (v, fits, shows) = (v, fits_more rows m n le s v fits, shows)

  shows_room : (s : Slot) (d : Data) → RepresentsSome (OfType rows) rows s d → (r : ℕ) × RepresentsSome (Fits rows r) rows s d
  shows_room s d (v, fits, shows) = (fits.0, (v, fits.1, shows))

  abbrev EntryFits : (key : TypeNo) (value : Slot) → ℕ → List ℕ × Value → Type 0
  EntryFits key value r p = IsUtf8 p.0 × RepresentsSome (Fits rows r) rows (plainly key) (T.text p.0) × Fits rows r value p.1

  entry_more : (key : TypeNo) (value : Slot) (m n : ℕ) → m ≤ n → (p : List ℕ × Value) → EntryFits key value m p → EntryFits key value n p
  entry_more key value m n le p (u, k, f) = (u, shows_more m n le (plainly key) (T.text p.0) k, fits_more rows m n le value p.1 f)

  entry_room : (key : TypeNo) (value : Slot) (p : List ℕ × Value) → IsUtf8 p.0 × RepresentsSome (OfType rows) rows (plainly key) (T.text p.0) × OfType rows value p.1 → (r : ℕ) × EntryFits key value r p
  entry_room key value p (u, k, f) =
      let a = shows_room (plainly key) (T.text p.0) k in
      (a.0 + f.0, (u, shows_more a.0 (a.0 + f.0) (left_room a.0 f.0) (plainly key) (T.text p.0) a.1, fits_more rows f.0 (a.0 + f.0) (right_room a.0 f.0) value p.1 f.1))

  entries_room : (key : TypeNo) (value : Slot) (form : MapForm) (ps : List (List ℕ × Value)) → EntriesFit (OfType rows) rows key value form ps → (r : ℕ) × EntriesFit (Fits rows r) rows key value form ps
  entries_room key value form ps h =
      let a = all_room (EntryFits key value) (entry_more key value) ps
      (all_more (λ p. IsUtf8 p.0 × RepresentsSome (OfType rows) rows (plainly key) (T.text p.0) × OfType rows value p.1) (λ p. (r : ℕ) × EntryFits key value r p) (entry_room key value) ps h.1) in
      (a.0, (h.0, a.1))

  abbrev HeldFits : (key : TypeNo) (value : Slot) → ℕ → List ℕ × Data → Type 0
  HeldFits key value r e = RepresentsSome (Fits rows r) rows (plainly key) (T.text e.0) × RepresentsSome (Fits rows r) rows value e.1

  held_more : (key : TypeNo) (value : Slot) (m n : ℕ) → m ≤ n → (e : List ℕ × Data) → HeldFits key value m e → HeldFits key value n e
  held_more key value m n le e (k, f) = (shows_more m n le (plainly key) (T.text e.0) k, shows_more m n le value e.1 f)

  held_room : (key : TypeNo) (value : Slot) (e : List ℕ × Data) → RepresentsSome (OfType rows) rows (plainly key) (T.text e.0) × RepresentsSome (OfType rows) rows value e.1 → (r : ℕ) × HeldFits key value r e
  held_room key value e (k, f) =
      let a = shows_room (plainly key) (T.text e.0) k in
      let b = shows_room value e.1 f in
      (a.0 + b.0, (shows_more a.0 (a.0 + b.0) (left_room a.0 b.0) (plainly key) (T.text e.0) a.1, shows_more b.0 (a.0 + b.0) (right_room a.0 b.0) value e.1 b.1))

  root_room : (p : HamtShape) (key : TypeNo) (value : Slot) (d : Data) → RootFits (OfType rows) rows p key value d → (r : ℕ) × RootFits (Fits rows r) rows p key value d
  root_room p key value d (slots, root, all) =
      let a = all_room (HeldFits key value) (held_more key value) (N.entries_in slots)
      (all_more (λ e. RepresentsSome (OfType rows) rows (plainly key) (T.text e.0) × RepresentsSome (OfType rows) rows value e.1) (λ e. (r : ℕ) × HeldFits key value r e) (held_room key value) (N.entries_in slots) all) in
      (a.0, (slots, root, a.1))

  plain_room : (key : TypeNo) (value : Slot) (form : MapForm) (l : Layer Value) → IsSomeAnd (as_map l) (EntriesFit (OfType rows) rows key value form)
      → (r : ℕ) × IsSomeAnd (as_map l) (EntriesFit (Fits rows r) rows key value form)
  plain_room key value form l h =
      some_room (EntriesFit (OfType rows) rows key value form) (λ r. EntriesFit (Fits rows r) rows key value form) (entries_room key value form) (as_map l) h

  map_room : (key : TypeNo) (value : Slot) (form : MapForm) (l : Layer Value) → MapFits (OfType rows) rows key value form l → (r : ℕ) × MapFits (Fits rows r) rows key value form l
  map_room key value MF.Map l h = plain_room key value MF.Map l h
  map_room key value MF.ListPairs l h = plain_room key value MF.ListPairs l h
  map_room key value (MF.StringPairs inner entry) l h = plain_room key value (MF.StringPairs inner entry) l h
  map_room key value (MF.Hamt p) l (inl h) = let a = plain_room key value (MF.Hamt p) l h in (a.0, inl a.1)
  map_room key value (MF.Hamt p) l (inr h) = let a = some_room (RootFits (OfType rows) rows p key value) (λ r. RootFits (Fits rows r) rows p key value) (root_room p key value) (as_hamt l) h in (a.0, inr a.1)

  fields_more : (m n : ℕ) → m ≤ n → (fs : List Field) (os : List (Option Value)) → FieldsFit (Fits rows m) fs os → FieldsFit (Fits rows n) fs os
  fields_more m n le [] [] h = tt
  fields_more m n le [] (o ∷ os) h = absurd h
  fields_more m n le (f ∷ fs) [] h = absurd h
  fields_more m n le (f ∷ fs) (Some v ∷ os) h = (fits_more rows m n le f.slot v h.0, fields_more m n le fs os h.1)
  fields_more m n le (f ∷ fs) (None ∷ os) h = (h.0, fields_more m n le fs os h.1)

  fields_room : (fs : List Field) (os : List (Option Value)) → FieldsFit (OfType rows) fs os → (r : ℕ) × FieldsFit (Fits rows r) fs os
  fields_room [] [] h = (0, tt)
  fields_room [] (o ∷ os) h = absurd h
  fields_room (f ∷ fs) [] h = absurd h
  fields_room (f ∷ fs) (Some v ∷ os) h =
      let k = h.0 in
      let r = fields_room fs os h.1 in
      (k.0 + r.0, (fits_more rows k.0 (k.0 + r.0) (left_room k.0 r.0) f.slot v k.1, fields_more r.0 (k.0 + r.0) (right_room k.0 r.0) fs os r.1))
  fields_room (f ∷ fs) (None ∷ os) h = let r = fields_room fs os h.1 in (r.0, (h.0, r.1))

  layer_room : (d : TypeDef) (l : Layer Value) → LayerFits (OfType rows) rows d l → (r : ℕ) × LayerFits (Fits rows r) rows d l
  layer_room D.Bool l h = (0, h)
  layer_room D.Text l h = (0, h)
  layer_room D.Bytes l h = (0, h)
  layer_room D.Int l h = (0, h)
  layer_room D.Any l h = (0, h)
  layer_room (D.Link target) l h = (0, h)
  layer_room (D.Unit form) l h = (0, h)
  layer_room (D.List elem at) l h =
      some_room (AllByRecursion (OfType rows elem)) (λ r. AllByRecursion (Fits rows r elem)) (λ vs k. all_room (λ r v. Fits rows r elem v) (λ m n le v g. fits_more rows m n le elem v g) vs k) (as_list l) h
  layer_room (D.Map key key_at value at form) l h = map_room key value form l h
  layer_room (D.Struct s) l h = some_room (FieldsFit (OfType rows) s.fields) (λ r. FieldsFit (Fits rows r) s.fields) (fields_room s.fields) (as_struct l) h
  layer_room (D.Union u) l h =
      some_room (λ p. IsSomeAnd (slice_get u.members p.0) (λ m. OfType rows (plainly m.ty) p.1)) (λ r p. IsSomeAnd (slice_get u.members p.0) (λ m. Fits rows r (plainly m.ty) p.1))
      (λ p k. some_room (λ m. OfType rows (plainly m.ty) p.1) (λ r m. Fits rows r (plainly m.ty) p.1) (λ m g. g) (slice_get u.members p.0) k) (as_union l) h
  layer_room (D.Enum e) l h = (0, h)
  layer_room (D.Copy target) l h = absurd h

-- and from a layer to its value
enough : (n r : ℕ) → n ≤ suc (r + (n - 1))
enough n r = omega (arith)

pub from_form : (rows : List Row) (room : ℕ) (below : ℕ → Slot → Value → Type 0) (s : Slot) (v : Value) (l : Layer Value) → layer_of v ≡ Some l
    → IsSomeAnd (form_of rows s) (FormFits rows room below v) → ValueFits rows room below s v
from_form rows room below s V.null l e h = absurd (none-some l e)
from_form rows room below s v l e h = h

fits_in : (rows : List Row) (s : Slot) (v : Value) (d : TypeDef) (l : Layer Value) (r over : ℕ) → over ≡ levels_of d v - 1 → form_of rows s ≡ Some d → layer_of v ≡ Some l → LayerFits (Fits rows r) rows d l
    → Fits rows (suc (r + over)) s v
unfolding FitsPast
fits_in rows s v d l r over o f e h =
    from_form rows (suc (r + over)) (FitsPast rows (r + over)) s v l e
    (subst (λ x. IsSomeAnd x (FormFits rows (suc (r + over)) (FitsPast rows (r + over)) v)) (sym f) (
      subst (λ k. levels_of d v ≤ suc (r + k)) (sym o) (enough (levels_of d v) r),
      subst (λ x. IsSomeAnd x (LayerFits (FitsPast rows (r + over) (levels_of d v - 1)) rows d)) (sym e)
          (layer_more rows (Fits rows r) (FitsPast rows (r + over) (levels_of d v - 1)) (λ t w k. subst (λ n. FitsPast rows (r + over) n t w) o (past_over rows over r (r + over) refl t w k)) d l h),
    ))

pub of_layer : (rows : List Row) (s : Slot) (v : Value) (d : TypeDef) (l : Layer Value) → form_of rows s ≡ Some d → layer_of v ≡ Some l → LayerFits (OfType rows) rows d l → OfType rows s v
of_layer rows s v d l f e h =
    let r = layer_room rows d l h in
    (suc (r.0 + (levels_of d v - 1)), fits_in rows s v d l r.0 (levels_of d v - 1) refl f e r.1)

-- null
null_room : (rows : List Row) (room : ℕ) (s : Slot) → Fits rows room s V.null → s.nullable ≡ true
unfolding FitsPast
null_room rows zero s h = h
null_room rows (suc room) s h = h

pub null_in : (rows : List Row) (s : Slot) → OfType rows s V.null → s.nullable ≡ true
null_in rows s h = null_room rows h.0 s h.1

pub of_null : (rows : List Row) (s : Slot) → s.nullable ≡ true → OfType rows s V.null
unfolding FitsPast
of_null rows s h = (zero, h)
