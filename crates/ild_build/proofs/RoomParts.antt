-- To fit in a room is that the levels of the form are there, and that the parts, the keys too, fit in what they leave.
use Rattle.std.proofs.Common.{◌≡◌, ℕ, zero, suc, ◌+◌, ◌-◌, ◌<◌, ◌≤◌, List, [], ◌∷◌, true, Option, Some, None, option_map, slice_get, refl, sym, ◌∙◌, ap, subst, arith}
use Rattle.std.specs.Prelude.{IsUtf8, IsSomeAnd, option_and_then}
use Rattle.std.specs.List.{AllByRecursion}
use Rattle.std.proofs.lemmas.Option.{same_Some, none-some, slice_get_within}
use Rattle.ild_data.proofs.AllOf.{all_indexed}
use Rattle.ild_data.specs.Data as T
use Rattle.ild_data.specs.Data.{Data}
use Rattle.ild_schema.specs.declared.number.Slot.{Slot}
use Rattle.ild_schema.specs.declared.number.TypeNo.{TypeNo}
use Rattle.ild_schema.specs.declared.def.TypeDef.{TypeDef}
use Rattle.ild_schema.specs.declared.def.TypeDef.TheVariants as D
use Rattle.ild_schema.specs.declared.def.MapForm.{MapForm}
use Rattle.ild_schema.specs.declared.def.MapForm.TheVariants as MF
use Rattle.ild_schema.specs.declared.def.StructForm.{StructForm}
use Rattle.ild_schema.specs.declared.def.StructForm.TheVariants as S
use Rattle.ild_schema.specs.declared.def.Field.{Field}
use Rattle.ild_schema.specs.declared.row.Row.{Row}
use Rattle.ild_schema.specs.Slots.{form_of, plainly}
use Rattle.ild_schema.specs.Value as V
use Rattle.ild_schema.specs.Value.{Value, values_list, pairs_list, optionals_list}
use Rattle.ild_typed.specs.Layer as L
use Rattle.ild_typed.specs.Layer.{Layer}
use Rattle.ild_typed.specs.Levels.{levels_of, map_levels, struct_levels, any_levels}
use Rattle.ild_typed.specs.Layers.{layer_of, RepresentsSome, FieldsFit, LayerFits}
use Rattle.ild_typed.specs.Fits.{FormFits, ValueFits, FitsPast, Fits}
use Rattle.ild_typed.specs.OfType.{OfType}
use Rattle.ild_typed.specs.Slots.{element_of, fields_of, member_of, slot_of}
use Rattle.ild_typed.proofs.FormOf.{there_entries, entries_there, boolean_form, integer_form, text_form, bytes_form, link_form, any_form, unit_form, enum_form, list_form, struct_form, union_form, map_form}
use Rattle.ild_typed.proofs.OneLayer.{in_layer, from_form, past_over}
use Rattle.ild_typed.proofs.Rooms.{layer_more, fits_more, past_less}
use Rattle.ild_build.specs.inside.KeysIn.{KeysIn, IsPlainLayer}
use Rattle.ild_build.specs.PartAt.{field_at, places, value_part_at}
use Rattle.ild_build.proofs.PartTests.{placed, part_placed, PartsBefore}
use Rattle.ild_build.proofs.PartFits.{part_fits}

-- ---- out of a room

module _ (rows : List Row) (i : ℕ) (below : ℕ → Slot → Value → Type 0) where
  form_in : (s : Slot) (v : Value) (l : Layer Value) (d : TypeDef) → layer_of v ≡ Some l → form_of rows s ≡ Some d → IsSomeAnd (form_of rows s) (FormFits rows i below v) → (levels_of d v ≤ i) × LayerFits (below (levels_of d v - 1)) rows d l
  form_in s v l d e f h =
      let x = subst (λ o. IsSomeAnd o (FormFits rows i below v)) f h in
      (x.0, subst (λ o. IsSomeAnd o (LayerFits (below (levels_of d v - 1)) rows d)) e x.1)

  value_in : (s : Slot) (v : Value) (l : Layer Value) (d : TypeDef) → layer_of v ≡ Some l → form_of rows s ≡ Some d → ValueFits rows i below s v → (levels_of d v ≤ i) × LayerFits (below (levels_of d v - 1)) rows d l
  value_in s V.null l d e f h = absurd (none-some l e)
  value_in s v l d e f h = form_in s v l d e f h

past_left : (rows : List Row) (room n : ℕ) → n ≤ suc room → (s : Slot) (w : Value) → FitsPast rows room (n - 1) s w → Fits rows (suc room - n) s w
past_left rows room zero le s w h = fits_more rows room (suc room - zero) (more room) s w h
  where
    more : (r : ℕ) → r ≤ suc r - zero
    more r = omega arith
past_left rows room (suc n) le s w h = subst (λ A. A) (past_less rows (suc n - 1) (suc room - suc n) room (left room n le) s w) h
  where
    left : (r m : ℕ) → suc m ≤ suc r → r ≡ (suc r - suc m) + (suc m - 1)
    left r m k = omega (arith, k)

pub in_room : (rows : List Row) (i : ℕ) (s : Slot) (v : Value) (l : Layer Value) (d : TypeDef) → layer_of v ≡ Some l → form_of rows s ≡ Some d → Fits rows i s v
    → (levels_of d v ≤ i) × LayerFits (λ t w. Fits rows (i - levels_of d v) t w) rows d l
unfolding FitsPast
in_room rows zero s v l d e f h =
    let x = value_in rows zero (λ over t w. ⊥) s v l d e f h in
    (x.0, layer_more rows (λ t w. ⊥) (λ t w. Fits rows (zero - levels_of d v) t w) (λ t w k. absurd k) d l x.1)
in_room rows (suc room) s v l d e f h =
    let x = value_in rows (suc room) (FitsPast rows room) s v l d e f h in
    (x.0, layer_more rows (FitsPast rows room (levels_of d v - 1)) (λ t w. Fits rows (suc room - levels_of d v) t w) (λ t w k. past_left rows room (levels_of d v) x.0 t w k) d l x.1)

-- ---- into a room

to_room_by : (rows : List Row) (i : ℕ) (s : Slot) (v : Value) (l : Layer Value) (d : TypeDef) (n : ℕ) → n ≡ levels_of d v → layer_of v ≡ Some l → form_of rows s ≡ Some d → 1 ≤ n → n ≤ i → LayerFits (λ t w. Fits rows (i - n) t w) rows d l → Fits rows i s v
unfolding FitsPast
to_room_by rows zero s v l d n same e f one le h = absurd (omega (arith, one, le))
to_room_by rows (suc room) s v l d n same e f one le h =
    from_form rows (suc room) (FitsPast rows room) s v l e
    (subst (λ o. IsSomeAnd o (FormFits rows (suc room) (FitsPast rows room) v)) (sym f) (
      subst (λ k. k ≤ suc room) same le,
      subst (λ o. IsSomeAnd o (LayerFits (FitsPast rows room (levels_of d v - 1)) rows d)) (sym e)
          (subst (λ k. LayerFits (FitsPast rows room (k - 1)) rows d l) same (layer_more rows (λ t w. Fits rows (suc room - n) t w) (FitsPast rows room (n - 1)) (λ t w k. past_over rows (n - 1) (suc room - n) room (joined room n one le) t w k) d l h)),
    ))
  where
    joined : (r m : ℕ) → 1 ≤ m → m ≤ suc r → r ≡ (suc r - m) + (m - 1)
    joined r m a b = omega (arith, a, b)

-- a layer without levels has no parts
leaf_layer : (P Q : Slot → Value → Type 0) (rows : List Row) (d : TypeDef) (v : Value) (l : Layer Value) → levels_of d v ≡ 0 → LayerFits P rows d l → LayerFits Q rows d l
leaf_layer P Q rows D.Bool v l e h = h
leaf_layer P Q rows D.Text v l e h = h
leaf_layer P Q rows D.Bytes v l e h = h
leaf_layer P Q rows D.Int v l e h = h
leaf_layer P Q rows D.Any v l e h = h
leaf_layer P Q rows (D.Link target) v l e h = h
leaf_layer P Q rows (D.Enum en) v l e h = h
leaf_layer P Q rows (D.Copy target) v l e h = h
leaf_layer P Q rows (D.Unit form) v l e h = absurd (omega (arith, e))
leaf_layer P Q rows (D.List elem at) v l e h = absurd (omega (arith, e))
leaf_layer P Q rows (D.Union u) v l e h = absurd (omega (arith, e))
leaf_layer P Q rows (D.Map key key_at value at form) v l e h = absurd (some form e)
  where
    some : (f : MapForm) → map_levels f ≡ 0 → ⊥
    some MF.Map k = omega (arith, k)
    some MF.ListPairs k = omega (arith, k)
    some (MF.StringPairs a b) k = omega (arith, k)
    some (MF.Hamt shape) k = omega (arith, k)
leaf_layer P Q rows (D.Struct s) v l e h = absurd (some s.form e)
  where
    some : (f : StructForm) → struct_levels f ≡ 0 → ⊥
    some S.Map k = omega (arith, k)
    some S.Tuple k = omega (arith, k)
    some S.ListPairs k = omega (arith, k)
    some (S.StringPairs a b) k = omega (arith, k)
    some (S.StringJoin a) k = omega (arith, k)

pub to_leaf : (rows : List Row) (i : ℕ) (s : Slot) (v : Value) (l : Layer Value) (d : TypeDef) (P : Slot → Value → Type 0) → levels_of d v ≡ 0 → layer_of v ≡ Some l → form_of rows s ≡ Some d → LayerFits P rows d l → Fits rows i s v
unfolding FitsPast
to_leaf rows zero s v l d P none e f h =
    from_form rows zero (λ over t w. ⊥) s v l e
    (subst (λ o. IsSomeAnd o (FormFits rows zero (λ over t w. ⊥) v)) (sym f) (subst (λ k. k ≤ zero) (sym none) (omega arith), subst (λ o. IsSomeAnd o (LayerFits (λ t w. ⊥) rows d)) (sym e) (leaf_layer P (λ t w. ⊥) rows d v l none h)))
to_leaf rows (suc room) s v l d P none e f h =
    from_form rows (suc room) (FitsPast rows room) s v l e
    (subst (λ o. IsSomeAnd o (FormFits rows (suc room) (FitsPast rows room) v)) (sym f)
    (subst (λ k. k ≤ suc room) (sym none) (omega arith), subst (λ o. IsSomeAnd o (LayerFits (FitsPast rows room (levels_of d v - 1)) rows d)) (sym e) (leaf_layer P (FitsPast rows room (levels_of d v - 1)) rows d v l none h)))

pub to_room : (rows : List Row) (i : ℕ) (s : Slot) (v : Value) (l : Layer Value) (d : TypeDef) → layer_of v ≡ Some l → form_of rows s ≡ Some d → levels_of d v ≤ i → LayerFits (λ t w. Fits rows (i - levels_of d v) t w) rows d l → Fits rows i s v
to_room rows i s v l d e f le h = by (levels_of d v) refl
  where
    by : (n : ℕ) → n ≡ levels_of d v → Fits rows i s v
    by zero same = to_leaf rows i s v l d (λ t w. Fits rows (i - levels_of d v) t w) (sym same) e f h
    by (suc n) same = to_room_by rows i s v l d (suc n) same e f (omega arith) (subst (λ k. k ≤ i) (sym same) le) (subst (λ k. LayerFits (λ t w. Fits rows (i - k) t w) rows d l) (sym same) h)

pub null_room : (rows : List Row) (i : ℕ) (s : Slot) → s.nullable ≡ true → Fits rows i s V.null
unfolding FitsPast
null_room rows zero s h = h
null_room rows (suc room) s h = h

-- ---- layers by their parts

module _ (rows : List Row) (P : Slot → Value → Type 0) where
  fields_by : (fs : List Field) (os : List (Option Value)) → FieldsFit (OfType rows) fs os → ((i : ℕ) (f : Field) (w : Value) → slice_get fs i ≡ Some f → slice_get os i ≡ Some (Some w) → P f.slot w) → FieldsFit P fs os
  fields_by [] [] h all = tt
  fields_by [] (o ∷ os) h all = absurd h
  fields_by (f ∷ fs) [] h all = absurd h
  fields_by (f ∷ fs) (Some v ∷ os) h all = (all 0 f v refl refl, fields_by fs os h.1 (λ i g w a b. all (suc i) g w a b))
  fields_by (f ∷ fs) (None ∷ os) h all = (h.0, fields_by fs os h.1 (λ i g w a b. all (suc i) g w a b))

  entries_by : (key : TypeNo) (value : Slot) (ps : List (List ℕ × Value)) → AllByRecursion (λ p. IsUtf8 p.0 × RepresentsSome (OfType rows) rows (plainly key) (T.text p.0) × OfType rows value p.1) ps
      → AllByRecursion (λ p. RepresentsSome P rows (plainly key) (T.text p.0)) ps → ((i : ℕ) (p : List ℕ × Value) → slice_get ps i ≡ Some p → P value p.1)
      → AllByRecursion (λ p. IsUtf8 p.0 × RepresentsSome P rows (plainly key) (T.text p.0) × P value p.1) ps
  entries_by key value [] h k all = tt
  entries_by key value (p ∷ ps) h k all = ((h.0.0, k.0, all 0 p refl), entries_by key value ps h.1 k.1 (λ i q e. all (suc i) q e))

  keys_from : (key : TypeNo) (value : Slot) (ps : List (List ℕ × Value)) → AllByRecursion (λ p. IsUtf8 p.0 × RepresentsSome P rows (plainly key) (T.text p.0) × P value p.1) ps → AllByRecursion (λ p. RepresentsSome P rows (plainly key) (T.text p.0)) ps
  keys_from key value [] h = tt
  keys_from key value (p ∷ ps) h = (h.0.1, keys_from key value ps h.1)

  -- a layer whose parts and keys fit
  pub layer_by : (d : TypeDef) (v : Value) (l : Layer Value) → layer_of v ≡ Some l → ((x : Data) → v ≡ V.hamt x → ⊥) → LayerFits (OfType rows) rows d l
      → ((i : ℕ) (u : Slot) (w : Value) → value_part_at (Some d) v i ≡ Some (u, w) → P u w) → KeysIn P rows d v → LayerFits P rows d l
  layer_by d V.null l is hamt h all keys = absurd (none-some l is)
  layer_by d (V.list vs) l is hamt h all keys =
      let same = same_Some (L.list (values_list vs)) l is in
      let x = list_form rows (OfType rows) d (values_list vs) (subst (LayerFits (OfType rows) rows d) (sym same) h) in
      subst (LayerFits P rows d) same (subst (λ c. LayerFits P rows c (L.list (values_list vs))) (sym x.2)
      (all_indexed (P x.0) (values_list vs) (λ i w e. all i x.0 w (placed (element_of (Some d)) (slice_get (values_list vs) i) x.0 w (ap (λ c. element_of (Some c)) x.2) e))))
  layer_by d (V.map ps) l is hamt h all keys =
      let same = same_Some (L.map (pairs_list ps)) l is in
      let x = map_form rows (OfType rows) d (pairs_list ps) (subst (LayerFits (OfType rows) rows d) (sym same) h) in
      subst (LayerFits P rows d) same (subst (λ c. LayerFits P rows c (L.map (pairs_list ps))) (sym x.5)
      (there_entries rows P x.0 x.2 x.4 (pairs_list ps) (
        x.6.0,
        entries_by x.0 x.2 (pairs_list ps) x.6.1 (subst (λ c. KeysIn P rows c (V.map ps)) x.5 keys)
            (λ i p e. all i x.2 p.1 (placed (element_of (Some d)) (option_map (λ (q : List ℕ × Value). q.1) (slice_get (pairs_list ps) i)) x.2 p.1 (ap (λ c. element_of (Some c)) x.5) (ap (option_map (λ (q : List ℕ × Value). q.1)) e))),
      )))
  layer_by d (V.struct os) l is hamt h all keys =
      let same = same_Some (L.struct (optionals_list os)) l is in
      let x = struct_form rows (OfType rows) d (optionals_list os) (subst (LayerFits (OfType rows) rows d) (sym same) h) in
      subst (LayerFits P rows d) same (subst (λ c. LayerFits P rows c (L.struct (optionals_list os))) (sym x.1)
      (fields_by x.0.fields (optionals_list os) x.2 (λ i f w a b.
      all i f.slot w (placed (option_map (λ (g : Field). g.slot) (slice_get (fields_of (Some d)) i)) (field_at (optionals_list os) i) f.slot w
      (ap (λ c. option_map (λ (g : Field). g.slot) (slice_get (fields_of (Some c)) i)) x.1 ∙ ap (option_map (λ (g : Field). g.slot)) a) (ap (option_and_then (λ (y : Option Value). y)) b)))))
  layer_by d (V.union n v) l is hamt h all keys =
      let same = same_Some (L.union n v) l is in
      let x = union_form rows (OfType rows) d n v (subst (LayerFits (OfType rows) rows d) (sym same) h) in
      let at : member_of (Some d) n ≡ Some (slot_of x.1) = ap (λ c. member_of (Some c) n) x.2 ∙ ap (option_map slot_of) x.3 in
      subst (LayerFits P rows d) same (subst (λ c. LayerFits P rows c (L.union n v)) (sym x.2)
      (subst (λ o. IsSomeAnd o (λ m. P (plainly m.ty) v)) (sym x.3) (all 0 (slot_of x.1) v (placed (member_of (Some d) n) (Some v) (slot_of x.1) v at refl))))
  layer_by d (V.hamt x) l is hamt h all keys = absurd (hamt x refl)
  layer_by d (V.boolean b) l is hamt h all keys =
      let same = same_Some (L.boolean b) l is in
      subst (LayerFits P rows d) same (subst (λ c. LayerFits P rows c (L.boolean b)) (sym (boolean_form rows (OfType rows) d b (subst (LayerFits (OfType rows) rows d) (sym same) h))) tt)
  layer_by d (V.integer b) l is hamt h all keys =
      let same = same_Some (L.integer b) l is in
      let x = integer_form rows (OfType rows) d b (subst (LayerFits (OfType rows) rows d) (sym same) h) in
      subst (LayerFits P rows d) same (subst (λ c. LayerFits P rows c (L.integer b)) (sym x.0) x.1)
  layer_by d (V.text b) l is hamt h all keys =
      let same = same_Some (L.text b) l is in
      let x = text_form rows (OfType rows) d b (subst (LayerFits (OfType rows) rows d) (sym same) h) in
      subst (LayerFits P rows d) same (subst (λ c. LayerFits P rows c (L.text b)) (sym x.0) x.1)
  layer_by d (V.bytes b) l is hamt h all keys =
      let same = same_Some (L.bytes b) l is in
      let x = bytes_form rows (OfType rows) d b (subst (LayerFits (OfType rows) rows d) (sym same) h) in
      subst (LayerFits P rows d) same (subst (λ c. LayerFits P rows c (L.bytes b)) (sym x.0) x.1)
  layer_by d (V.link b) l is hamt h all keys =
      let same = same_Some (L.link b) l is in
      let x = link_form rows (OfType rows) d b (subst (LayerFits (OfType rows) rows d) (sym same) h) in
      subst (LayerFits P rows d) same (subst (λ c. LayerFits P rows c (L.link b)) (sym x.1) (x.2, x.3))
  layer_by d (V.any b) l is hamt h all keys =
      let same = same_Some (L.any b) l is in
      let x = any_form rows (OfType rows) d b (subst (LayerFits (OfType rows) rows d) (sym same) h) in
      subst (LayerFits P rows d) same (subst (λ c. LayerFits P rows c (L.any b)) (sym x.0) (x.1, x.2))
  layer_by d V.unit l is hamt h all keys =
      let same = same_Some L.unit l is in
      let x = unit_form rows (OfType rows) d (subst (LayerFits (OfType rows) rows d) (sym same) h) in
      subst (LayerFits P rows d) same (subst (λ c. LayerFits P rows c L.unit) (sym x.1) tt)
  layer_by d (V.enum n) l is hamt h all keys =
      let same = same_Some (L.enum n) l is in
      let x = enum_form rows (OfType rows) d n (subst (LayerFits (OfType rows) rows d) (sym same) h) in
      subst (LayerFits P rows d) same (subst (λ c. LayerFits P rows c (L.enum n)) (sym x.2) (slice_get_within x.0.members n x.1 x.3))

  -- and back: the keys of a layer that fits
  pub keys_of_layer : (d : TypeDef) (v : Value) (l : Layer Value) → layer_of v ≡ Some l → LayerFits P rows d l → KeysIn P rows d v
  keys_of_layer (D.Map key key_at value at form) (V.map ps) l is h =
      keys_from key value (pairs_list ps) (entries_there rows P key value form (pairs_list ps) (subst (LayerFits P rows (D.Map key key_at value at form)) (sym (same_Some (L.map (pairs_list ps)) l is)) h)).1
  keys_of_layer (D.Map key key_at value at form) v l is h = tt
  keys_of_layer d v l is h = tt

-- ---- values, their parts and keys known

levels_same : (d : TypeDef) (v : Value) → ((x : Data) → v ≡ V.any x → ⊥) → levels_of d v ≡ levels_of d V.null
levels_same D.Any v given = by v given
  where
    by : (w : Value) → ((x : Data) → w ≡ V.any x → ⊥) → any_levels w ≡ 0
    by (V.any x) g = absurd (g x refl)
    by w g = refl
levels_same D.Bool v given = refl
levels_same D.Text v given = refl
levels_same D.Bytes v given = refl
levels_same D.Int v given = refl
levels_same (D.Link target) v given = refl
levels_same (D.Enum en) v given = refl
levels_same (D.Copy target) v given = refl
levels_same (D.Unit form) v given = refl
levels_same (D.List elem at) v given = refl
levels_same (D.Union u) v given = refl
levels_same (D.Map key key_at value at form) v given = refl
levels_same (D.Struct s) v given = refl

module _ (rows : List Row) (room left n : ℕ) (s : Slot) (v : Value) (d : TypeDef) (form : form_of rows s ≡ Some d) (plain : IsPlainLayer v) (levels : n ≡ levels_of d V.null) where
  own : n ≡ levels_of d v
  own = levels ∙ sym (levels_same d v plain.no_any)

  holds : OfType rows s v → LayerFits (OfType rows) rows d plain.layer
  holds typed = let y = in_layer rows s v plain.layer plain.is typed in subst (λ c. LayerFits (OfType rows) rows c plain.layer) (same_Some y.ty d (sym y.form ∙ form)) y.holds

  pub too_deep : room < n → Fits rows room s v → ⊥
  too_deep less h = let x = in_room rows room s v plain.layer d plain.is form h in absurd (omega (arith, less, own, x.0))

  inside : left ≡ room - n → Fits rows room s v → LayerFits (λ t w. Fits rows left t w) rows d plain.layer
  inside l h = let x = in_room rows room s v plain.layer d plain.is form h in subst (λ k. LayerFits (λ t w. Fits rows k t w) rows d plain.layer) (ap (λ k. room - k) (sym own) ∙ sym l) x.1

  pub a_part : left ≡ room - n → Fits rows room s v → (i : ℕ) (u : Slot) (w : Value) → value_part_at (Some d) v i ≡ Some (u, w) → Fits rows left u w
  a_part l h i u w e = part_fits (λ t x. Fits rows left t x) rows d v plain.layer i u w plain.is (inside l h) e

  pub its_keys : left ≡ room - n → Fits rows room s v → KeysIn (λ t w. Fits rows left t w) rows d v
  its_keys l h = keys_of_layer rows (λ t w. Fits rows left t w) d v plain.layer plain.is (inside l h)

  pub keys_typed : OfType rows s v → KeysIn (OfType rows) rows d v
  keys_typed typed = keys_of_layer rows (OfType rows) d v plain.layer plain.is (holds typed)

  pub fits_by : OfType rows s v → n ≤ room → left ≡ room - n → (m : ℕ) → places v ≤ m → PartsBefore (λ u w. Fits rows left u w) d v m → KeysIn (λ t w. Fits rows left t w) rows d v → Fits rows room s v
  fits_by typed le l m all parts keys =
      to_room rows room s v plain.layer d plain.is form (subst (λ k. k ≤ room) own le)
      (subst (λ k. LayerFits (λ t w. Fits rows k t w) rows d plain.layer) (l ∙ ap (λ k. room - k) own)
      (layer_by rows (λ t w. Fits rows left t w) d v plain.layer plain.is plain.no_root (holds typed) (λ i u w e. parts i u w (below (part_placed (Some d) v i u w e) all) e) keys))
    where
      below : {a b c : ℕ} → a < b → b ≤ c → a < c
      below x y = omega arith
