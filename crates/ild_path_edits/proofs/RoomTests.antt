-- A test of rooms: whether a value of a slot's type fits in a room, its keys too.
use Rattle.std.proofs.Common.{◌≡◌, ◌⊎◌, inl, inr, ℕ, zero, suc, ◌-◌, ◌<◌, ◌≤◌, List, [], ◌∷◌, length, Bool, true, false, Option, Some, None, refl, sym, ◌∙◌, subst, ap, arith}
use Rattle.std.specs.Prelude.{IsUtf8, IsSomeAnd, IsTrue, slice_get, nat_le}
use Rattle.std.specs.Str.{is_utf8}
use Rattle.std.specs.List.{AllByRecursion}
use Rattle.std.proofs.lemmas.Bool.Decides.{nat_tests}
use Rattle.std.proofs.lemmas.Option.{same_Some, none-some, slice_get_within}
use Rattle.std.proofs.lemmas.Str.{is_utf8-from_IsUtf8, IsUtf8-from_is_utf8}
use Rattle.ild_data.proofs.Gets.{there_at}
use Rattle.ild_data.specs.Data as T
use Rattle.ild_data.specs.Data.{Data}
use Rattle.ild_data.specs.Tree.{IsTree}
use Rattle.ild_data.specs.declared.hamt_shape.HamtShape.{HamtShape}
use Rattle.ild_schema.specs.declared.number.Slot.{Slot}
use Rattle.ild_schema.specs.declared.number.TypeNo.{TypeNo}
use Rattle.ild_schema.specs.declared.def.TypeDef.{TypeDef}
use Rattle.ild_schema.specs.declared.def.TypeDef.TheVariants as D
use Rattle.ild_schema.specs.declared.def.MapForm.{MapForm}
use Rattle.ild_schema.specs.declared.def.MapForm.TheVariants as MF
use Rattle.ild_schema.specs.declared.def.KindWord.TheVariants as K
use Rattle.ild_schema.specs.declared.def.Field.{Field}
use Rattle.ild_schema.specs.declared.row.Row.{Row}
use Rattle.ild_schema.specs.Clear.{IsSafe}
use Rattle.ild_schema.specs.DataKinds.{kind_in}
use Rattle.ild_schema.specs.Slots.{form_of, plainly}
use Rattle.ild_schema.specs.Value as V
use Rattle.ild_schema.specs.Value.{Value, values_list, pairs_list, optionals_list}
use Rattle.ild_schema.proofs.Legibly.{legible}
use Rattle.ild_typed.specs.Layer as L
use Rattle.ild_typed.specs.Layer.{Layer, as_list, as_map, as_struct, as_union, as_hamt}
use Rattle.ild_typed.specs.Hamt.{alone, a_map}
use Rattle.ild_typed.specs.Represented.{represented, layered}
use Rattle.ild_typed.specs.Levels.{levels_of}
use Rattle.ild_typed.specs.Fits.{FormFits, ValueFits, FitsPast, Fits, Front}
use Rattle.ild_typed.specs.Layers.{layer_of, RepresentsSome, FieldsFit, EntriesFit, MapFits, LayerFits}
use Rattle.ild_typed.specs.OfType.{OfType}
use Rattle.ild_typed.specs.Refused.{Refusal, Refused}
use Rattle.ild_typed.specs.Schema.{IsSchema}
use Rattle.ild_typed.proofs.FormOf.{hamt_form}
use Rattle.ild_typed.proofs.OneLayer.{in_layer}
use Rattle.ild_typed.proofs.OneValue.{one_value, alone_exact, plain_safe}
use Rattle.ild_typed.proofs.TreeValues.{alone_tree}
use Rattle.ild_typed.proofs.WalkForms.{table_walk}
use Rattle.ild_typed.proofs.WalkSound.{refused_sound}
use Rattle.ild_value_meaning.proofs.KeyTests.{keys_are_tested}
use Rattle.ild_value_meaning.proofs.InTable.{outside, no_fit}
use Rattle.ild_path_edits.specs.JudgedLaws.{SchemasHaveTests}
use Rattle.ild_path_edits.proofs.TreeTests.{Told, false_true, all_told, none_told, both_told, told_by, Decided, tree_told}

-- ---- tests of lists and options

each_told : {X : Type 0} (B F : X → Type 0) → ((x : X) → Told (B x) (F x)) → (xs : List X) → Told (AllByRecursion B xs) (AllByRecursion F xs)
each_told B F f [] = all_told tt
each_told B F f (x ∷ xs) = both_told (f x) (each_told B F f xs)

some_told : {X : Type 0} (B F : X → Type 0) → ((x : X) → Told (B x) (F x)) → (o : Option X) → Told (IsSomeAnd o B) (IsSomeAnd o F)
some_told B F f None = none_told (λ b h. absurd h)
some_told B F f (Some x) = f x

true_told : {B : Type 0} (b : Bool) → Told B (IsTrue b)
true_told b = record { is = b; says = λ h. ((λ e. e), (λ e. e)) }

le_told : (m n : ℕ) → Decided (m ≤ n)
le_told m n = record { is = nat_le m n; says = λ b. ((λ e. grind (arith, nat_tests, e)), (λ h. grind (arith, nat_tests, h))) }

-- ---- tests of layers

module _ (rows : List Row) (P : Slot → Value → Type 0) (below : (s : Slot) (v : Value) → Told (OfType rows s v) (P s v))
    (keys : (key : TypeNo) (k : List ℕ) → Told (IsUtf8 k × RepresentsSome (OfType rows) rows (plainly key) (T.text k)) (RepresentsSome P rows (plainly key) (T.text k))) where
  fields_told : (fs : List Field) (os : List (Option Value)) → Told (FieldsFit (OfType rows) fs os) (FieldsFit P fs os)
  fields_told [] [] = all_told tt
  fields_told [] (o ∷ os) = none_told (λ b h. absurd h)
  fields_told (f ∷ fs) [] = none_told (λ b h. absurd h)
  fields_told (f ∷ fs) (Some v ∷ os) = both_told (below f.slot v) (fields_told fs os)
  fields_told (f ∷ fs) (None ∷ os) = both_told (true_told f.optional) (fields_told fs os)

  abbrev EntryFits : (Slot → Value → Type 0) → TypeNo → Slot → List ℕ × Value → Type 0
  EntryFits Fit key value p = IsUtf8 p.0 × RepresentsSome Fit rows (plainly key) (T.text p.0) × Fit value p.1

  entry_told : (key : TypeNo) (value : Slot) (p : List ℕ × Value) → Told (EntryFits (OfType rows) key value p) (EntryFits P key value p)
  entry_told key value p =
      let both = both_told (keys key p.0) (below value p.1) in
      record {
        is = both.is;
        says = λ b.
            let of = both.says ((b.0, b.1), b.2) in
            ((λ e. let x = of.0 e in (b.0, x.0, x.1)), (λ h. of.1 (h.1, h.2)));
      }

  entries_told : (key : TypeNo) (value : Slot) (form : MapForm) (ps : List (List ℕ × Value)) → Told (EntriesFit (OfType rows) rows key value form ps) (EntriesFit P rows key value form ps)
  entries_told key value form ps =
      let each = each_told (EntryFits (OfType rows) key value) (EntryFits P key value) (entry_told key value) ps in
      record { is = each.is; says = λ b. ((λ e. (b.0, (each.says b.1).0 e)), (λ h. (each.says b.1).1 h.1)) }

  hamt_told : (p : HamtShape) (key : TypeNo) (value : Slot) (l : Layer Value) → as_hamt l ≡ None → Told (MapFits (OfType rows) rows key value (MF.Hamt p) l) (MapFits P rows key value (MF.Hamt p) l)
  hamt_told p key value (L.hamt d) e = absurd (none-some d (sym e))
  hamt_told p key value (L.map ps) e = told_by before (λ h. inl h) after (entries_told key value (MF.Hamt p) ps)
    where
      before : MapFits (OfType rows) rows key value (MF.Hamt p) (L.map ps) → EntriesFit (OfType rows) rows key value (MF.Hamt p) ps
      before (inl h) = h
      before (inr h) = absurd h

      after : MapFits P rows key value (MF.Hamt p) (L.map ps) → EntriesFit P rows key value (MF.Hamt p) ps
      after (inl h) = h
      after (inr h) = absurd h
  hamt_told p key value l e = none_told (λ b h. either h)
    where
      either : ⊥ ⊎ ⊥ → ⊥
      either (inl h) = h
      either (inr h) = h

  map_told : (key : TypeNo) (value : Slot) (form : MapForm) (l : Layer Value) → as_hamt l ≡ None → Told (MapFits (OfType rows) rows key value form l) (MapFits P rows key value form l)
  map_told key value (MF.Hamt p) l e = hamt_told p key value l e
  map_told key value MF.Map l e = some_told (EntriesFit (OfType rows) rows key value MF.Map) (EntriesFit P rows key value MF.Map) (entries_told key value MF.Map) (as_map l)
  map_told key value MF.ListPairs l e = some_told (EntriesFit (OfType rows) rows key value MF.ListPairs) (EntriesFit P rows key value MF.ListPairs) (entries_told key value MF.ListPairs) (as_map l)
  map_told key value (MF.StringPairs i n) l e =
      some_told (EntriesFit (OfType rows) rows key value (MF.StringPairs i n)) (EntriesFit P rows key value (MF.StringPairs i n)) (entries_told key value (MF.StringPairs i n)) (as_map l)

  layer_told : (d : TypeDef) (l : Layer Value) → as_hamt l ≡ None → Told (LayerFits (OfType rows) rows d l) (LayerFits P rows d l)
  layer_told (D.List elem at) l e = some_told (AllByRecursion (OfType rows elem)) (AllByRecursion (P elem)) (each_told (OfType rows elem) (P elem) (below elem)) (as_list l)
  layer_told (D.Map key key_at value at form) l e = map_told key value form l e
  layer_told (D.Struct s) l e = some_told (FieldsFit (OfType rows) s.fields) (FieldsFit P s.fields) (fields_told s.fields) (as_struct l)
  layer_told (D.Union u) l e =
      some_told (λ p. IsSomeAnd (slice_get u.members p.0) (λ m. OfType rows (plainly m.ty) p.1)) (λ p. IsSomeAnd (slice_get u.members p.0) (λ m. P (plainly m.ty) p.1))
      (λ p. some_told (λ m. OfType rows (plainly m.ty) p.1) (λ m. P (plainly m.ty) p.1) (λ m. below (plainly m.ty) p.1) (slice_get u.members p.0)) (as_union l)
  layer_told (D.Copy target) l e = none_told (λ b h. absurd h)
  layer_told d l e = record { is = true; says = λ b. ((λ e. b), (λ h. refl)) }

-- ---- tests of values

no_form : (rows : List Row) (m : ℕ) (P : ℕ → Slot → Value → Type 0) (s : Slot) (v : Value) (l : Layer Value) → layer_of v ≡ Some l → as_hamt l ≡ None
    → (below : (over : ℕ) (t : Slot) (w : Value) → Told (OfType rows t w) (P over t w))
    → (keys : (over : ℕ) (key : TypeNo) (k : List ℕ) → Told (IsUtf8 k × RepresentsSome (OfType rows) rows (plainly key) (T.text k)) (RepresentsSome (P over) rows (plainly key) (T.text k)))
    → (o : Option TypeDef) → form_of rows s ≡ o → Told (OfType rows s v) (IsSomeAnd o (FormFits rows m P v))
no_form rows m P s v l is plain below keys None e = none_told (λ b h. absurd h)
no_form rows m P s v l is plain below keys (Some d) e =
    let over = levels_of d v - 1 in
    told_by before after back (both_told {A = Unit {0}} (le_told (levels_of d v) m) (layer_told rows (P over) (below over) (keys over) d l plain))
  where
    before : OfType rows s v → Unit {0} × LayerFits (OfType rows) rows d l
    before b = let x = in_layer rows s v l is b in (tt, subst (λ c. LayerFits (OfType rows) rows c l) (same_Some x.ty d (sym x.form ∙ e)) x.holds)

    after : (levels_of d v ≤ m) × LayerFits (P (levels_of d v - 1)) rows d l → FormFits rows m P v d
    after h = (h.0, subst (λ o. IsSomeAnd o (LayerFits (P (levels_of d v - 1)) rows d)) (sym is) h.1)

    back : FormFits rows m P v d → (levels_of d v ≤ m) × LayerFits (P (levels_of d v - 1)) rows d l
    back h = (h.0, subst (λ o. IsSomeAnd o (LayerFits (P (levels_of d v - 1)) rows d)) is h.1)

module _ (rows : List Row) (m : ℕ) (P : ℕ → Slot → Value → Type 0) (below : (over : ℕ) (t : Slot) (w : Value) → Told (OfType rows t w) (P over t w))
    (keys : (over : ℕ) (key : TypeNo) (k : List ℕ) → Told (IsUtf8 k × RepresentsSome (OfType rows) rows (plainly key) (T.text k)) (RepresentsSome (P over) rows (plainly key) (T.text k)))
    (hamts : (s : Slot) (d : Data) → Told (OfType rows s (V.hamt d)) (ValueFits rows m P s (V.hamt d))) where
  form_told : (s : Slot) (v : Value) (l : Layer Value) → layer_of v ≡ Some l → as_hamt l ≡ None → Told (OfType rows s v) (IsSomeAnd (form_of rows s) (FormFits rows m P v))
  form_told s v l is plain = no_form rows m P s v l is plain below keys (form_of rows s) refl

  value_told : (s : Slot) (v : Value) → Told (OfType rows s v) (ValueFits rows m P s v)
  value_told s V.null = true_told s.nullable
  value_told s (V.boolean b) = form_told s (V.boolean b) (L.boolean b) refl refl
  value_told s (V.integer n) = form_told s (V.integer n) (L.integer n) refl refl
  value_told s (V.text t) = form_told s (V.text t) (L.text t) refl refl
  value_told s (V.bytes t) = form_told s (V.bytes t) (L.bytes t) refl refl
  value_told s (V.link t) = form_told s (V.link t) (L.link t) refl refl
  value_told s (V.list vs) = form_told s (V.list vs) (L.list (values_list vs)) refl refl
  value_told s (V.map ps) = form_told s (V.map ps) (L.map (pairs_list ps)) refl refl
  value_told s (V.struct os) = form_told s (V.struct os) (L.struct (optionals_list os)) refl refl
  value_told s (V.union n v) = form_told s (V.union n v) (L.union n v) refl refl
  value_told s (V.enum n) = form_told s (V.enum n) (L.enum n) refl refl
  value_told s V.unit = form_told s V.unit L.unit refl refl
  value_told s (V.any d) = form_told s (V.any d) (L.any d) refl refl
  value_told s (V.hamt d) = hamts s d

-- ---- tests of data, by the walk

module _ (rows : List Row) (schema : IsSchema rows) where
  walk_told : (room : ℕ) (s : Slot) → s.ty.0 < length rows → (t : Data) → IsTree t → Told (IsSafe rows s) (RepresentsSome (Fits rows room) rows s t)
  walk_told room s low t tree = by (table_walk rows schema room s low t tree)
    where
      by : ((f : Value) × Front rows room s f t) ⊎ ((r : Refusal) × Refused rows room s t r) → Told (IsSafe rows s) (RepresentsSome (Fits rows room) rows s t)
      by (inl (f, front)) = all_told (f, front.fits, front.tree)
      by (inr (r, refused)) =
          none_told (λ safe h. refused_sound rows (legible rows schema.accepted).clear (legible rows schema.accepted).delims room 0 s safe t r refused h)

  past_told : (room over : ℕ) (s : Slot) → s.ty.0 < length rows → (t : Data) → IsTree t → Told (IsSafe rows s) (RepresentsSome (FitsPast rows room over) rows s t)
  unfolding FitsPast
  past_told room zero s low t tree = walk_told room s low t tree
  past_told zero (suc over) s low t tree = none_told (λ safe h. absurd h.1)
  past_told (suc room) (suc over) s low t tree = past_told room over s low t tree

  key_told : (room over : ℕ) (key : TypeNo) (k : List ℕ) → Told (IsUtf8 k × RepresentsSome (OfType rows) rows (plainly key) (T.text k)) (RepresentsSome (FitsPast rows room over) rows (plainly key) (T.text k))
  key_told room over key k = by (is_utf8 k) (slice_get rows key.0) refl refl
    where
      by : (u : Bool) (o : Option Row) → is_utf8 k ≡ u → slice_get rows key.0 ≡ o → Told (IsUtf8 k × RepresentsSome (OfType rows) rows (plainly key) (T.text k)) (RepresentsSome (FitsPast rows room over) rows (plainly key) (T.text k))
      by false o e at = none_told (λ b h. false_true (sym e ∙ is_utf8-from_IsUtf8 k b.0))
      by true None e at = none_told (λ b h. no_fit rows key (outside rows key.0 (length rows) at) ((b.1).1).0 (b.1).0 ((b.1).1).1)
      by true (Some r) e at =
          told_by (λ b. plain_safe rows (plainly key) refl) (λ h. h) (λ h. h) (past_told room over (plainly key) (slice_get_within rows key.0 r at) (T.text k) (IsUtf8-from_is_utf8 k e))

  -- ---- of the root of a HAMT

  record IsHamt (s : Slot) (d : Data) : Type 0 where
    safe : IsSafe rows s
    tree : represented alone rows s (V.hamt d) ≡ Some d
    whole : IsTree d
    low : s.ty.0 < length rows

  hamt_is : (s : Slot) (d : Data) → OfType rows s (V.hamt d) → IsHamt s d
  hamt_is s d b =
      let x = in_layer rows s (V.hamt d) (L.hamt d) refl b in
      let y = hamt_form rows (OfType rows) x.ty d x.holds in
      let form : form_of rows s ≡ Some (D.Map y.0 y.1 y.2 y.3 (MF.Hamt y.4)) = x.form ∙ ap Some y.5 in
      let root = (y.6).1 in
      let shows : represented alone rows s (V.hamt d) ≡ Some d = ap (λ o. layered alone o (Some (L.hamt d))) form ∙ subst (λ u. a_map u ≡ Some u) (sym root.tree) refl in
      record {
        safe = λ nullable. ap (λ o. kind_in o K.Null) form;
        tree = shows;
        whole = (alone_tree rows schema.table.texts.spelled b.0 s (V.hamt d) d b.1 shows).tree;
        low = low (slice_get rows s.ty.0) refl (D.Map y.0 y.1 y.2 y.3 (MF.Hamt y.4)) form;
      }
    where
      low : (o : Option Row) → slice_get rows s.ty.0 ≡ o → (f : TypeDef) → form_of rows s ≡ Some f → s.ty.0 < length rows
      low None at f form = absurd (none-some f (sym (outside rows s.ty.0 (length rows) at) ∙ form))
      low (Some r) at f form = slice_get_within rows s.ty.0 r at

  root_told : (room over : ℕ) (s : Slot) (d : Data) → Told (OfType rows s (V.hamt d)) (FitsPast rows room over s (V.hamt d))
  root_told room over s d = by (tree_told d) (slice_get rows s.ty.0) refl
    where
      one : (b : OfType rows s (V.hamt d)) → RepresentsSome (FitsPast rows room over) rows s d → FitsPast rows room over s (V.hamt d)
      one b h =
          let x = hamt_is s d b in
          let same : h.0 ≡ V.hamt d = one_value alone alone_exact rows (legible rows schema.accepted).clear s x.safe h.0 (V.hamt d) d h.2 x.tree in
          subst (λ w. FitsPast rows room over s w) same h.1

      by_walk : (whole : Told (Unit {0}) (IsTree d)) → (is : Bool) → whole.is ≡ is → s.ty.0 < length rows → Told (OfType rows s (V.hamt d)) (FitsPast rows room over s (V.hamt d))
      by_walk whole true e low =
          let walk = past_told room over s low d ((whole.says tt).0 e) in
          record {
            is = walk.is;
            says = λ b.
                let x = hamt_is s d b in
                ((λ g. one b ((walk.says x.safe).0 g)), (λ h. (walk.says x.safe).1 (V.hamt d, h, x.tree)));
          }
      by_walk whole false e low = none_told (λ b h. false_true (sym e ∙ (whole.says tt).1 (hamt_is s d b).whole))

      by : (whole : Told (Unit {0}) (IsTree d)) → (o : Option Row) → slice_get rows s.ty.0 ≡ o → Told (OfType rows s (V.hamt d)) (FitsPast rows room over s (V.hamt d))
      by whole None at = none_told (λ b h. let x = there_at rows s.ty.0 (hamt_is s d b).low in none-some x.0 (sym at ∙ x.1))
      by whole (Some r) at = by_walk whole whole.is refl (slice_get_within rows s.ty.0 r at)

  -- ---- the test

  room_told : (room over : ℕ) (s : Slot) (v : Value) → Told (OfType rows s v) (FitsPast rows room over s v)
  unfolding FitsPast
  room_told zero zero s v =
      value_told rows zero (λ over t w. ⊥) (λ over t w. none_told (λ b h. h)) (λ over key k. none_told (λ b h. h.1)) (λ t d. root_told zero zero t d) s v
  room_told zero (suc over) s v = none_told (λ b h. h)
  room_told (suc room) zero s v =
      value_told rows (suc room) (FitsPast rows room) (λ over t w. room_told room over t w) (λ over key k. key_told room over key k) (λ t d. root_told (suc room) zero t d) s v
  room_told (suc room) (suc over) s v = room_told room over s v

pub schemas_have_tests : SchemasHaveTests
schemas_have_tests rows schema =
    let keys = keys_are_tested rows schema in
    (record { is_key = keys.0; fits = λ room s v. (room_told rows schema room zero s v).is }, record { keys = keys.1; rooms = λ room s v b. (room_told rows schema room zero s v).says b })
