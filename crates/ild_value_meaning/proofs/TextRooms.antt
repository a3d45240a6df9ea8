-- Rooms that are enough for texts: from a text to a part of it the text gets shorter, or it stays the same and no type
-- comes twice, as one value of a type stands behind a text.
use Rattle.std.proofs.Common.{◌≡◌, ◌⊎◌, inl, inr, ℕ, zero, suc, ◌-◌, ◌<◌, ◌≤◌, List, [], ◌∷◌, ◌++◌, length, Bool, true, false, cond, Option, Some, None, refl, sym, ◌∙◌, subst, ap, arith, length-append}
use Rattle.std.specs.Prelude.{IsUtf8, IsSomeAnd, slice_get, option_map, option_and_then, is_none}
use Rattle.std.specs.List.{AllByRecursion}
use Rattle.std.proofs.lemmas.Option.{same_Some, none-some}
use Rattle.ild_typed.proofs.OneLayer.{past_typed}
use Rattle.ild_typed.proofs.Unions.{text_same_data}
use Rattle.ild_data.specs.Data as T
use Rattle.ild_data.specs.Data.{Data, depth}
use Rattle.ild_data.specs.Key.{put, value_at}
use Rattle.ild_schema.specs.declared.number.Slot.{Slot}
use Rattle.ild_schema.specs.declared.number.TypeNo.{TypeNo}
use Rattle.ild_schema.specs.declared.def.TypeDef.{TypeDef}
use Rattle.ild_schema.specs.declared.def.TypeDef.TheVariants as D
use Rattle.ild_schema.specs.declared.def.MapForm.{MapForm}
use Rattle.ild_schema.specs.declared.def.MapForm.TheVariants as MF
use Rattle.ild_schema.specs.declared.def.StructForm.{StructForm}
use Rattle.ild_schema.specs.declared.def.StructForm.TheVariants as S
use Rattle.ild_schema.specs.declared.def.StructDef.{StructDef}
use Rattle.ild_schema.specs.declared.def.UnionDef.{UnionDef}
use Rattle.ild_schema.specs.declared.def.UnionForm.{UnionForm}
use Rattle.ild_schema.specs.declared.def.UnionForm.TheVariants as UF
use Rattle.ild_schema.specs.declared.def.Field.{Field}
use Rattle.ild_schema.specs.declared.def.Member.{Member}
use Rattle.ild_schema.specs.declared.def.Scalar.{Scalar}
use Rattle.ild_schema.specs.declared.def.Scalar.TheVariants as C
use Rattle.ild_schema.specs.declared.row.Row.{Row}
use Rattle.ild_schema.specs.Clear.{IsGiven, ClearStruct, ClearMap, ClearType}
use Rattle.ild_schema.specs.Copies.{base}
use Rattle.ild_schema.specs.DataKinds.{same_kind}
use Rattle.ild_schema.specs.Delims.{HasDelims, Delims}
use Rattle.ild_schema.specs.Fitting.{ImplicitFits, FittingType}
use Rattle.ild_data.specs.Hex.{bytes_of_hex}
use Rattle.ild_schema.specs.Marks.{field_text, mark_text, mark_kind}
use Rattle.ild_schema.specs.Rules.{is_of}
use Rattle.ild_schema.specs.Slots.{form_of, plainly}
use Rattle.ild_schema.specs.Value as V
use Rattle.ild_schema.specs.Value.{Value, Pairs, Optionals, pairs_list, optionals_list, height, optionals_height}
use Rattle.ild_schema.proofs.Legibly.{legible}
use Rattle.ild_typed.specs.Layer as L
use Rattle.ild_typed.specs.Layer.{Layer}
use Rattle.ild_typed.specs.Slots.{member_of, slot_of}
use Rattle.ild_typed.specs.Fields.{is_implicit, entries_of, field_entries, tuple_items, all_items}
use Rattle.ild_typed.specs.Strings.{text_in, texts_in, text_pairs, bytes_in, members_in, in_key_order, map_data, listpairs, stringpairs, stringjoin}
use Rattle.ild_typed.specs.Texts.{join, join_pairs}
use Rattle.ild_typed.specs.Composed.{composed, struct_form, union_form, member_form, marked_form, inlined}
use Rattle.ild_typed.specs.Hamt.{alone}
use Rattle.ild_typed.specs.Kinds.{kind_word_of}
use Rattle.ild_typed.specs.Represented.{represented, represented_pairs, represented_fields}
use Rattle.ild_typed.specs.Levels.{struct_levels}
use Rattle.ild_typed.specs.Fits.{FormFits, ValueFits, FitsPast, Fits}
use Rattle.ild_typed.specs.Layers.{RepresentsSome, FieldsFit}
use Rattle.ild_typed.specs.OfType.{OfType}
use Rattle.ild_typed.specs.Schema.{IsSchema}
use Rattle.ild_typed.proofs.Basics.{then_from, map_from, true_from}
use Rattle.ild_typed.proofs.Entries.{both_from, only_text_data}
use Rattle.ild_typed.proofs.OfKinds.{alone_kind, composed_kind}
use Rattle.ild_typed.proofs.OneValue.{Way, as_null, as_layer, way_of, layer_data}
use Rattle.ild_typed.proofs.Rooms.{value_more}
use Rattle.ild_typed.proofs.PartData.{member_data}
use Rattle.ild_typed.proofs.Structs.{field_from}
use Rattle.ild_typed.proofs.WalkSound.{any_is}
use Rattle.ild_value_meaning.proofs.TextParts.{IsWithin, join_within, pairs_within, IsDataWithin, datas_within, IsEntryWithin, entries_within}

-- ---- what is known of a part

-- its text is shorter, or the same where it is nested in the value
abbrev pub IsLower : List ℕ → ℕ → List ℕ → Value → Type 0
IsLower k n t w = (length t < length k) ⊎ ((t ≡ k) × (height w < n))

-- parts that are texts fit in a room
abbrev pub Lowers : List Row → ℕ → List ℕ → ℕ → Type 0
Lowers rows room k n = (s : Slot) (w : Value) (t : List ℕ) → OfType rows s w → represented alone rows s w ≡ Some (T.text t) → IsLower k n t w → Fits rows room s w

-- ---- values by their layers

opened : (rows : List Row) (m : ℕ) (s : Slot) (v : Value) → Fits rows m s v → ValueFits rows m (λ over. OfType rows) s v
unfolding FitsPast
opened rows zero s v h = value_more rows zero zero (omega arith) (λ over t w. ⊥) (λ over. OfType rows) (λ over t w q. absurd q) s v h
opened rows (suc m) s v h = value_more rows (suc m) (suc m) (omega arith) (FitsPast rows m) (λ over. OfType rows) (λ over t w q. past_typed rows over m t w q) s v h

closed : (rows : List Row) (r : ℕ) (s : Slot) (v : Value) → ValueFits rows (suc r) (FitsPast rows r) s v → Fits rows (suc r) s v
unfolding FitsPast
closed rows r s v h = h

-- types of values that have no parts and take no room
abbrev IsLeaf : TypeDef → Type 0
IsLeaf D.Bool = Unit {0}
IsLeaf D.Int = Unit {0}
IsLeaf D.Text = Unit {0}
IsLeaf d = ⊥

module _ (rows : List Row) (m n : ℕ) (P Q : ℕ → Slot → Value → Type 0) where
  form_leaf : (v : Value) (d : TypeDef) → IsLeaf d → FormFits rows m P v d → FormFits rows n Q v d
  form_leaf v D.Bool leaf h = (omega arith, h.1)
  form_leaf v D.Int leaf h = (omega arith, h.1)
  form_leaf v D.Text leaf h = (omega arith, h.1)
  form_leaf v d leaf h = absurd leaf

  value_leaf : (s : Slot) (v : Value) (d : TypeDef) → form_of rows s ≡ Some d → IsLeaf d → ValueFits rows m P s v → ValueFits rows n Q s v
  value_leaf s V.null d is leaf h = h
  value_leaf s v d is leaf h = subst (λ o. IsSomeAnd o (FormFits rows n Q v)) (sym is) (form_leaf v d leaf (subst (λ o. IsSomeAnd o (FormFits rows m P v)) is h))

leaf_fits : (rows : List Row) (m n : ℕ) (s : Slot) (v : Value) (d : TypeDef) → form_of rows s ≡ Some d → IsLeaf d → Fits rows m s v → Fits rows n s v
unfolding FitsPast
leaf_fits rows m zero s v d is leaf h = value_leaf rows m zero (λ over. OfType rows) (λ over t w. ⊥) s v d is leaf (opened rows m s v h)
leaf_fits rows m (suc n) s v d is leaf h = value_leaf rows m (suc n) (λ over. OfType rows) (FitsPast rows n) s v d is leaf (opened rows m s v h)

-- an implicit value is of such a type
implicit_leaf : (z : Scalar) (o : Option TypeDef) → is_of z o ≡ true → (d : TypeDef) × (o ≡ Some d) × IsLeaf d
implicit_leaf (C.Bool b) (Some D.Bool) e = (D.Bool, refl, tt)
implicit_leaf (C.Int b) (Some D.Int) e = (D.Int, refl, tt)
implicit_leaf (C.Text b) (Some D.Text) e = (D.Text, refl, tt)
implicit_leaf z o e = absurd cc

-- ---- data that are no texts

no_map_text : {ms : T.Members} {t : List ℕ} → T.map ms ≡ T.text t → ⊥
no_map_text e = absurd cc

no_null_text : {t : List ℕ} → T.null ≡ T.text t → ⊥
no_null_text e = absurd cc

no_kind : false ≡ true → ⊥
no_kind e = absurd cc

no_list_text : {ds : T.Items} {t : List ℕ} → T.list ds ≡ T.text t → ⊥
no_list_text e = absurd cc

entries_of_text : (k inner entry : List ℕ) → IsGiven inner → (es : List (List ℕ × Data)) → stringpairs inner entry es ≡ Some (T.text k) → AllByRecursion (IsEntryWithin k) es
entries_of_text k inner entry given es made =
    let y = map_from T.text (option_and_then (join_pairs inner entry) (text_pairs es)) (T.text k) made in
    let z = then_from (join_pairs inner entry) (text_pairs es) y.item y.there in
    let is = text_same_data y.item k (same_Some (T.text y.item) (T.text k) y.made) in
    entries_within k es z.item z.there (pairs_within inner entry given z.item k (z.made ∙ ap Some is))

-- ---- parts that are texts

module _ (rows : List Row) (room : ℕ) (k : List ℕ) (n : ℕ) (low : Lowers rows room k n) where
  low_within : (s : Slot) (w : Value) (d : Data) → OfType rows s w → represented alone rows s w ≡ Some d → IsDataWithin k d → height w < n → Fits rows room s w
  low_within s w d typed e (t, is, inl less) less_high = low s w t typed (e ∙ ap Some is) (inl less)
  low_within s w d typed e (t, is, inr same) less_high = low s w t typed (e ∙ ap Some is) (inr (same, less_high))

  -- a field left out, or one that stands in the text
  field_by : (f : Field) (w : Value) (d : Data) (rest : List (List ℕ × Data)) (o : Option Scalar) → f.implicit ≡ o → ImplicitFits rows f → OfType rows f.slot w → represented alone rows f.slot w ≡ Some d
      → (b : Bool) → is_implicit o d ≡ b → AllByRecursion (IsEntryWithin k) (cond b [] ((field_text f, d) ∷ []) ++ rest) → Fits rows room f.slot w
  field_by f w d rest None is fitting typed e true implicit all = absurd cc
  field_by f w d rest (Some z) is fitting typed e true implicit all =
      let x = implicit_leaf z (form_of rows f.slot) (fitting z is) in
      leaf_fits rows typed.0 room f.slot w x.0 x.1 x.2 typed.1
  field_by f w d rest o is fitting typed e false implicit all =
      let h = all.0 in low f.slot w (h.1).0 typed (e ∙ ap Some (h.1).1) (inl (h.1).2)

  rest_of : (f : Field) (d : Data) (rest : List (List ℕ × Data)) (b : Bool) → AllByRecursion (IsEntryWithin k) (cond b [] ((field_text f, d) ∷ []) ++ rest) → AllByRecursion (IsEntryWithin k) rest
  rest_of f d rest true all = all
  rest_of f d rest false all = all.1

  fields_low : (fs : List Field) (os : Optionals) (ds : List (Option Data)) (es : List (List ℕ × Data)) → AllByRecursion (ImplicitFits rows) fs → FieldsFit (OfType rows) fs (optionals_list os)
      → represented_fields alone rows fs os ≡ Some ds → field_entries fs ds ≡ Some es → AllByRecursion (IsEntryWithin k) es → FieldsFit (Fits rows room) fs (optionals_list os)
  fields_low [] V.no_optionals ds es fitting typed e made all = tt
  fields_low (f ∷ fs) V.no_optionals ds es fitting typed e made all = absurd typed
  fields_low [] (V.absent os) ds es fitting typed e made all = absurd typed
  fields_low [] (V.present v os) ds es fitting typed e made all = absurd typed
  fields_low (f ∷ fs) (V.absent os) ds es fitting typed e made all =
      let b = map_from (λ xs. None ∷ xs) (represented_fields alone rows fs os) ds e in
      let x = field_from f fs None b.item es (ap (field_entries (f ∷ fs)) (same_Some (None ∷ b.item) ds b.made) ∙ made) in
      (typed.0, fields_low fs os b.item x.rest fitting.1 typed.1 b.there x.later (subst (AllByRecursion (IsEntryWithin k)) x.is all))
  fields_low (f ∷ fs) (V.present v os) ds es fitting typed e made all =
      let b = both_from (option_map Some (represented alone rows f.slot v)) (represented_fields alone rows fs os) ds e in
      let y = map_from Some (represented alone rows f.slot v) b.item b.first in
      let ds_is : Some y.item ∷ b.items ≡ ds = ap (λ o. o ∷ b.items) (same_Some (Some y.item) b.item y.made) ∙ b.all in
      let x = field_from f fs (Some y.item) b.items es (ap (field_entries (f ∷ fs)) ds_is ∙ made) in
      let each : AllByRecursion (IsEntryWithin k) (entries_of f y.item ++ x.rest) = subst (AllByRecursion (IsEntryWithin k)) {y = entries_of f y.item ++ x.rest} x.is all in (
        field_by f v y.item x.rest f.implicit refl fitting.0 typed.0 y.there (is_implicit f.implicit y.item) refl each,
        fields_low fs os b.items x.rest fitting.1 typed.1 b.rest x.later (rest_of f y.item x.rest (is_implicit f.implicit y.item) each),
      )

  join_low : (fs : List Field) (os : Optionals) (ds : List (Option Data)) (xs : List Data) → FieldsFit (OfType rows) fs (optionals_list os) → represented_fields alone rows fs os ≡ Some ds → all_items fs ds ≡ Some xs
      → AllByRecursion (IsDataWithin k) xs → optionals_height os < n → FieldsFit (Fits rows room) fs (optionals_list os)
  join_low [] V.no_optionals ds xs typed e made all high = tt
  join_low (f ∷ fs) V.no_optionals ds xs typed e made all high = absurd typed
  join_low [] (V.absent os) ds xs typed e made all high = absurd typed
  join_low [] (V.present v os) ds xs typed e made all high = absurd typed
  join_low (f ∷ fs) (V.absent os) ds xs typed e made all high =
      let b = map_from (λ xs. None ∷ xs) (represented_fields alone rows fs os) ds e in
      absurd (none-some xs (ap (all_items (f ∷ fs)) (same_Some (None ∷ b.item) ds b.made) ∙ made))
  join_low (f ∷ fs) (V.present v os) ds xs typed e made all high =
      let b = both_from (option_map Some (represented alone rows f.slot v)) (represented_fields alone rows fs os) ds e in
      let y = map_from Some (represented alone rows f.slot v) b.item b.first in
      let ds_is : Some y.item ∷ b.items ≡ ds = ap (λ o. o ∷ b.items) (same_Some (Some y.item) b.item y.made) ∙ b.all in
      let x = map_from (λ ds. y.item ∷ ds) (all_items fs b.items) xs (ap (all_items (f ∷ fs)) ds_is ∙ made) in
      let each : AllByRecursion (IsDataWithin k) (y.item ∷ x.item) = subst (AllByRecursion (IsDataWithin k)) {y = y.item ∷ x.item} (sym {a = y.item ∷ x.item} (same_Some (y.item ∷ x.item) xs x.made)) all in (
        low_within f.slot v y.item typed.0 y.there each.0 (omega (arith, high)),
        join_low fs os b.items x.item typed.1 b.rest x.there each.1 (omega (arith, high)),
      )

  pairs_low : (key : TypeNo) (value : Slot) (ps : Pairs) (es : List (List ℕ × Data)) → represented_pairs alone rows value ps ≡ Some es → AllByRecursion (IsEntryWithin k) es
      → AllByRecursion (λ p. IsUtf8 p.0 × RepresentsSome (OfType rows) rows (plainly key) (T.text p.0) × OfType rows value p.1) (pairs_list ps)
      → AllByRecursion (λ p. IsUtf8 p.0 × RepresentsSome (Fits rows room) rows (plainly key) (T.text p.0) × Fits rows room value p.1) (pairs_list ps)
  pairs_low key value V.no_pairs es e all typed = tt
  pairs_low key value (V.pair q w ps) es e all typed =
      let b = both_from (option_map {U = List ℕ × Data} (λ d. (q, d)) (represented alone rows value w)) (represented_pairs alone rows value ps) es e in
      let x = map_from {B = List ℕ × Data} (λ d. (q, d)) (represented alone rows value w) b.item b.first in
      let each = subst (AllByRecursion (IsEntryWithin k)) (sym b.all) all in
      let h : IsEntryWithin k (q, x.item) = subst (IsEntryWithin k) (sym (same_Some (q, x.item) b.item x.made)) each.0 in
      let shows = (typed.0).1 in (
        ((typed.0).0, (shows.0, low (plainly key) shows.0 q shows.1 shows.2 (inl h.0), shows.2), low value w (h.1).0 (typed.0).2 (x.there ∙ ap Some (h.1).1) (inl (h.1).2)),
        pairs_low key value ps b.items b.rest each.1 typed.1,
      )

  -- the text that a union's member has
  member_text : (form : UnionForm) (d : Data) (m : Member) → member_form form d m ≡ Some (T.text k) → IsDataWithin k d
  member_text UF.Kinded d m e =
      let x = then_from (λ w. cond (same_kind w (kind_word_of d)) (Some d) None) (mark_kind m.mark) (T.text k) e in
      (k, (true_from (same_kind x.item (kind_word_of d)) d (T.text k) x.made).1, inr refl)
  member_text UF.StringPrefix d m e =
      let x = then_from (marked_form UF.StringPrefix d) (mark_text m.mark) (T.text k) e in
      let y = map_from (λ s. T.text (x.item ++ s)) (text_in d) (T.text k) x.made in
      (y.item, only_text_data d y.item y.there, behind x.item y.item (text_same_data (x.item ++ y.item) k (same_Some (T.text (x.item ++ y.item)) (T.text k) y.made)))
    where
      behind : (p s : List ℕ) → p ++ s ≡ k → IsWithin k s
      behind [] s e = inr e
      behind (c ∷ p) s e = let l = length-append p s in let same = ap length e in inl (omega (arith, l, same))
  member_text UF.Keyed d m e = let x = then_from (marked_form UF.Keyed d) (mark_text m.mark) (T.text k) e in absurd (no_map_text (same_Some (map_data ((x.item, d) ∷ [])) (T.text k) x.made))
  member_text UF.BytesPrefix d m e =
      let x = then_from (marked_form UF.BytesPrefix d) (mark_text m.mark) (T.text k) e in
      let y = then_from (λ front. option_map (λ s. T.bytes (front ++ s)) (bytes_in d)) (bytes_of_hex x.item) (T.text k) x.made in
      let z = map_from (λ s. T.bytes (y.item ++ s)) (bytes_in d) (T.text k) y.made in
      absurd (no_bytes_text (same_Some (T.bytes (y.item ++ z.item)) (T.text k) z.made))
    where
      no_bytes_text : {s t : List ℕ} → T.bytes s ≡ T.text t → ⊥
      no_bytes_text e = absurd cc
  member_text (UF.Envelope key content) d m e =
      let x = then_from (marked_form (UF.Envelope key content) d) (mark_text m.mark) (T.text k) e in
      absurd (no_map_text (same_Some (map_data (put key (T.text x.item) ((content, d) ∷ []))) (T.text k) x.made))
  member_text (UF.Inline key) d m e =
      let x = then_from (marked_form (UF.Inline key) d) (mark_text m.mark) (T.text k) e in
      let y = then_from (inlined key x.item) (members_in d) (T.text k) x.made in
      absurd (no_map_text ((true_from (is_none (value_at key y.item)) (map_data (put key (T.text x.item) y.item)) (T.text k) y.made).1))

  union_low : (form : UnionForm) (w : Value) (d : Data) (o : Option Member) → IsSomeAnd o (λ m. OfType rows (plainly m.ty) w) → member_data alone rows (option_map slot_of o) w ≡ Some d
      → option_and_then (member_form form d) o ≡ Some (T.text k) → height w < n → IsSomeAnd o (λ m. Fits rows room (plainly m.ty) w)
  union_low form w d None typed e made high = absurd typed
  union_low form w d (Some m) typed e made high = low_within (plainly m.ty) w d typed e (member_text form d m made) high

  -- ---- types of which a text may be

  struct_text : (form : StructForm) (fs : List Field) (os : Optionals) (ds : List (Option Data)) → AllByRecursion (ImplicitFits rows) fs → ClearStruct form fs → HasDelims form fs → FieldsFit (OfType rows) fs (optionals_list os)
      → represented_fields alone rows fs os ≡ Some ds → struct_form form fs ds ≡ Some (T.text k) → optionals_height os < n → (struct_levels form ≡ 1) × FieldsFit (Fits rows room) fs (optionals_list os)
  struct_text S.Map fs os ds fitting clear delims typed e made high =
      let x = map_from (λ es. map_data (in_key_order es)) (field_entries fs ds) (T.text k) made in absurd (no_map_text (same_Some (map_data (in_key_order x.item)) (T.text k) x.made))
  struct_text S.Tuple fs os ds fitting clear delims typed e made high =
      let x = map_from (λ xs. T.list (T.items_of xs)) (tuple_items fs ds) (T.text k) made in absurd (no_list_text (same_Some (T.list (T.items_of x.item)) (T.text k) x.made))
  struct_text S.ListPairs fs os ds fitting clear delims typed e made high =
      let x = map_from listpairs (field_entries fs ds) (T.text k) made in absurd (no_list_text (same_Some (listpairs x.item) (T.text k) x.made))
  struct_text (S.StringPairs inner entry) fs os ds fitting clear delims typed e made high =
      let x = then_from (stringpairs inner entry) (field_entries fs ds) (T.text k) made in
      (refl, fields_low fs os ds x.item fitting typed e x.there (entries_of_text k inner entry clear.1 x.item x.made))
  struct_text (S.StringJoin delim) [] os ds fitting clear delims typed e made high = absurd delims
  struct_text (S.StringJoin delim) (f ∷ fs) os ds fitting clear delims typed e made high =
      let x = then_from (stringjoin delim) (all_items (f ∷ fs) ds) (T.text k) made in
      let y = map_from T.text (option_and_then (join delim) (texts_in x.item)) (T.text k) x.made in
      let z = then_from (join delim) (texts_in x.item) y.item y.there in
      let is = text_same_data y.item k (same_Some (T.text y.item) (T.text k) y.made) in
      (refl, join_low (f ∷ fs) os ds x.item typed e x.there (datas_within k x.item z.item z.there (join_within delim delims z.item k (z.made ∙ ap Some is))) high)

  map_text : (form : MapForm) (key : TypeNo) (key_at : ℕ) (value : Slot) (place : ℕ) (m : ℕ) (v : Value) (l : Layer Data) → ClearMap form
      → FormFits rows m (λ over. OfType rows) v (D.Map key key_at value place form) → layer_data alone rows (Some (D.Map key key_at value place form)) v ≡ Some l
      → composed alone (D.Map key key_at value place form) l ≡ Some (T.text k) → FormFits rows (suc room) (FitsPast rows room) v (D.Map key key_at value place form)
  map_text MF.Map key key_at value place m v l clear h e made = absurd (no_kind (composed_kind alone alone_kind (D.Map key key_at value place MF.Map) l (T.text k) made))
  map_text MF.ListPairs key key_at value place m v l clear h e made = absurd (no_kind (composed_kind alone alone_kind (D.Map key key_at value place MF.ListPairs) l (T.text k) made))
  map_text (MF.Hamt p) key key_at value place m v l clear h e made = absurd (no_kind (composed_kind alone alone_kind (D.Map key key_at value place (MF.Hamt p)) l (T.text k) made))
  map_text (MF.StringPairs inner entry) key key_at value place m (V.map ps) l clear h e made =
      let x = map_from L.map (represented_pairs alone rows value ps) l e in
      let is : stringpairs inner entry x.item ≡ Some (T.text k) = ap (composed alone (D.Map key key_at value place (MF.StringPairs inner entry))) (same_Some (L.map x.item) l x.made) ∙ made in
      (omega arith, ((h.1).0, pairs_low key value ps x.item x.there (entries_of_text k inner entry clear x.item is) (h.1).1))
  map_text (MF.StringPairs inner entry) key key_at value place m v l clear h e made = absurd h.1

  any_text : (m : ℕ) (P : ℕ → Slot → Value → Type 0) (v : Value) (l : Layer Data) → FormFits rows m P v D.Any → layer_data alone rows (Some D.Any) v ≡ Some l → composed alone D.Any l ≡ Some (T.text k)
      → FormFits rows (suc room) (FitsPast rows room) v D.Any
  any_text m P (V.any x) l h e made =
      let same = any_is x (T.text k) (ap (composed alone D.Any) (same_Some (L.any x) l e) ∙ made) in
      (subst (λ d. depth d ≤ suc room) (sym same) (omega arith), h.1)
  any_text m P v l h e made = absurd h.1

  struct_at : (m : ℕ) (s : StructDef) (v : Value) (l : Layer Data) → height v ≡ n → AllByRecursion (ImplicitFits rows) s.fields → ClearStruct s.form s.fields → HasDelims s.form s.fields
      → FormFits rows m (λ over. OfType rows) v (D.Struct s) → layer_data alone rows (Some (D.Struct s)) v ≡ Some l → composed alone (D.Struct s) l ≡ Some (T.text k) → FormFits rows (suc room) (FitsPast rows room) v (D.Struct s)
  struct_at m s (V.struct os) l high fitting clear delims h e made =
      let x = map_from L.struct (represented_fields alone rows s.fields os) l e in
      let is : struct_form s.form s.fields x.item ≡ Some (T.text k) = ap (composed alone (D.Struct s)) (same_Some (L.struct x.item) l x.made) ∙ made in
      let y = struct_text s.form s.fields os x.item fitting clear delims h.1 x.there is (omega (arith, high)) in
      subst (λ q. (q ≤ suc room) × FieldsFit (FitsPast rows room (q - 1)) s.fields (optionals_list os)) (sym y.0) (omega arith, y.1)
  struct_at m s v l high fitting clear delims h e made = absurd h.1

  union_at : (m : ℕ) (u : UnionDef) (v : Value) (l : Layer Data) → height v ≡ n
      → FormFits rows m (λ over. OfType rows) v (D.Union u) → layer_data alone rows (Some (D.Union u)) v ≡ Some l → composed alone (D.Union u) l ≡ Some (T.text k) → FormFits rows (suc room) (FitsPast rows room) v (D.Union u)
  union_at m u (V.union i w) l high h e made =
      let x = map_from (L.union i) (member_data alone rows (member_of (Some (D.Union u)) i) w) l e in
      let is : union_form u.form u.members (i, x.item) ≡ Some (T.text k) = ap (composed alone (D.Union u)) (same_Some (L.union i x.item) l x.made) ∙ made in
      (omega arith, union_low u.form w x.item (slice_get u.members i) h.1 x.there is (omega (arith, high)))
  union_at m u v l high h e made = absurd h.1

  form_text : (m : ℕ) (v : Value) (d : TypeDef) (l : Layer Data) → height v ≡ n → FittingType rows d → ClearType d → Delims d
      → FormFits rows m (λ over. OfType rows) v d → layer_data alone rows (Some d) v ≡ Some l → composed alone d l ≡ Some (T.text k) → FormFits rows (suc room) (FitsPast rows room) v d
  form_text m v D.Bool l high fitting clear delims h e made = (omega arith, h.1)
  form_text m v D.Text l high fitting clear delims h e made = (omega arith, h.1)
  form_text m v D.Bytes l high fitting clear delims h e made = (omega arith, h.1)
  form_text m v D.Int l high fitting clear delims h e made = (omega arith, h.1)
  form_text m v D.Any l high fitting clear delims h e made = any_text m (λ over. OfType rows) v l h e made
  form_text m v (D.Link target) l high fitting clear delims h e made = (omega arith, h.1)
  form_text m v (D.Unit form) l high fitting clear delims h e made = (omega arith, h.1)
  form_text m v (D.List elem place) l high fitting clear delims h e made = absurd (no_kind (composed_kind alone alone_kind (D.List elem place) l (T.text k) made))
  form_text m v (D.Map key key_at value place form) l high fitting clear delims h e made = map_text form key key_at value place m v l clear h e made
  form_text m v (D.Struct s) l high fitting clear delims h e made = struct_at m s v l high fitting clear delims h e made
  form_text m v (D.Union u) l high fitting clear delims h e made = union_at m u v l high h e made
  form_text m v (D.Enum e) l high fitting clear delims h is made = (omega arith, h.1)
  form_text m v (D.Copy target) l high fitting clear delims h e made = absurd (none-some (T.text k) made)

  value_text : (m : ℕ) (s : Slot) (v : Value) (d : TypeDef) (l : Layer Data) → height v ≡ n → FittingType rows d → ClearType d → Delims d → form_of rows s ≡ Some d
      → ValueFits rows m (λ over. OfType rows) s v → layer_data alone rows (Some d) v ≡ Some l → composed alone d l ≡ Some (T.text k) → ValueFits rows (suc room) (FitsPast rows room) s v
  value_text m s V.null d l high fitting clear delims is h e made = absurd (none-some l e)
  value_text m s v d l high fitting clear delims is h e made =
      subst (λ o. IsSomeAnd o (FormFits rows (suc room) (FitsPast rows room) v)) (sym is)
      (form_text m v d l high fitting clear delims (subst (λ o. IsSomeAnd o (FormFits rows m (λ over. OfType rows) v)) is h) e made)

  -- a value whose parts that are texts fit in a room fits in one more level
  pub one_more : IsSchema rows → (s : Slot) (v : Value) (m : ℕ) → height v ≡ n → Fits rows m s v → represented alone rows s v ≡ Some (T.text k) → Fits rows (suc room) s v
  one_more schema s v m high fits shows = by (way_of alone rows s v (T.text k) shows)
    where
      by : Way alone rows s v (T.text k) → Fits rows (suc room) s v
      by (as_null is nullable e) = absurd (no_null_text (sym e))
      by (as_layer d l is e made) =
          let all = legible rows schema.accepted in
          closed rows room s v (value_text m s v d l high (all.fitting (base rows s.ty.0) d is) (all.clear.types (base rows s.ty.0) d is) (all.delims (base rows s.ty.0) d is) is (opened rows m s v fits) e made)
