-- The text that represents a value, by the form of its type.
use Rattle.std.proofs.Common.{◌≡◌, ℕ, ℤ, List, [], ◌∷◌, ◌++◌, Bool, true, false, cond, Option, Some, None, option_map, slice_get, refl, sym, ◌∙◌, ap}
use Rattle.std.specs.Prelude.{option_and_then, is_none}
use Rattle.std.specs.List.{AllByRecursion}
use Rattle.std.proofs.lemmas.Option.{same_Some, none-some}
use Rattle.ild_data.specs.Data as T
use Rattle.ild_data.specs.Data.{Data}
use Rattle.ild_data.specs.Key.{put, value_at}
use Rattle.ild_schema.specs.declared.number.Slot.{Slot}
use Rattle.ild_schema.specs.declared.number.TypeNo.{TypeNo}
use Rattle.ild_schema.specs.declared.def.TypeDef.{TypeDef}
use Rattle.ild_schema.specs.declared.def.TypeDef.TheVariants as D
use Rattle.ild_schema.specs.declared.def.MapForm.{MapForm}
use Rattle.ild_schema.specs.declared.def.MapForm.TheVariants as MF
use Rattle.ild_schema.specs.declared.def.StructForm.{StructForm}
use Rattle.ild_schema.specs.declared.def.StructForm.TheVariants as S
use Rattle.ild_schema.specs.declared.def.StructDef.{StructDef}
use Rattle.ild_schema.specs.declared.def.UnionForm.{UnionForm}
use Rattle.ild_schema.specs.declared.def.UnionForm.TheVariants as UF
use Rattle.ild_schema.specs.declared.def.UnionDef.{UnionDef}
use Rattle.ild_schema.specs.declared.def.KindWord.{KindWord}
use Rattle.ild_schema.specs.declared.def.KindWord.TheVariants as K
use Rattle.ild_schema.specs.declared.def.Field.{Field}
use Rattle.ild_schema.specs.declared.def.Member.{Member}
use Rattle.ild_schema.specs.declared.def.Scalar.{Scalar}
use Rattle.ild_schema.specs.declared.def.Scalar.TheVariants as C
use Rattle.ild_schema.specs.declared.def.UnitForm.TheVariants as U
use Rattle.ild_schema.specs.declared.def.EnumDef.{EnumDef}
use Rattle.ild_schema.specs.declared.val.Val.{Val}
use Rattle.ild_schema.specs.declared.val.Val.TheVariants as W
use Rattle.ild_schema.specs.ValueSeen.{value_of}
use Rattle.ild_schema.specs.declared.row.Row.{Row}
use Rattle.ild_schema.specs.DataKinds.{same_kind, has_kind}
use Rattle.ild_schema.specs.Fitting.{ImplicitFits}
use Rattle.ild_data.specs.Hex.{bytes_of_hex}
use Rattle.ild_schema.specs.Marks.{field_text, mark_text, mark_kind}
use Rattle.ild_schema.specs.Rules.{is_of}
use Rattle.ild_schema.specs.Slots.{form_of, plainly}
use Rattle.ild_schema.specs.Value as V
use Rattle.ild_schema.specs.Value.{Value, Pairs, Optionals, pairs_list, optionals_list}
use Rattle.ild_typed.specs.Composed.{Hamts, composed, map_form, struct_form, member_form, marked_form, inlined}
use Rattle.ild_typed.specs.Fields.{is_scalar, is_implicit, entries_of, field_entries, all_items}
use Rattle.ild_typed.specs.Hamt.{alone, a_map}
use Rattle.ild_typed.specs.Kinds.{kind_word_of}
use Rattle.ild_typed.specs.Layer as L
use Rattle.ild_typed.specs.Layer.{Layer, as_boolean, as_integer, as_text, as_map, as_hamt}
use Rattle.ild_typed.specs.Represented.{represented, represented_pairs, represented_fields, layered}
use Rattle.ild_typed.specs.Slots.{element_of, fields_of, member_of, slot_of}
use Rattle.ild_typed.specs.Strings.{text_in, bytes_in, members_in, texts_in, text_pairs, cons_both, map_data, listpairs, stringpairs, stringjoin}
use Rattle.ild_typed.specs.Texts.{join, join_pairs}
use Rattle.ild_typed.proofs.Basics.{map_from}
use Rattle.ild_typed.proofs.OfKinds.{composed_kind, alone_kind}
use Rattle.ild_typed.proofs.PartData.{values_data, member_data}
use Rattle.ild_typed.proofs.OneValue.{Way, as_null, as_layer, way_of, layer_data, scalar_of, scalar_value}
use Rattle.ild_build.specs.LeftOut.{has_scalar, is_left_out}
use Rattle.ild_build.specs.TextRep.{text_rep}
use Rattle.ild_build.specs.inside.TextParts.{field_texts, field_pairs, entry_texts, by_form, member_text_rep}

-- ---- options

text_text : (o : Option (List ℕ)) → option_and_then text_in (option_map T.text o) ≡ o
text_text None = refl
text_text (Some t) = refl

both_none : {A : Type 0} (o : Option A) → cons_both o None ≡ None
both_none None = refl
both_none (Some a) = refl

never_text : {A : Type 0} (f : A → Data) (o : Option A) → ((a : A) → text_in (f a) ≡ None) → option_and_then text_in (option_map f o) ≡ None
never_text f None no_text = refl
never_text f (Some a) no_text = no_text a

-- ---- fields that are left out

only_boolean : (l : Layer Data) (b : Bool) → as_boolean l ≡ Some b → scalar_of l ≡ Some (V.boolean b)
only_boolean (L.boolean c) b e = ap (option_map V.boolean) e
only_boolean L.unit b e = absurd (none-some b e)
only_boolean (L.integer n) b e = absurd (none-some b e)
only_boolean (L.text t) b e = absurd (none-some b e)
only_boolean (L.bytes t) b e = absurd (none-some b e)
only_boolean (L.link t) b e = absurd (none-some b e)
only_boolean (L.any t) b e = absurd (none-some b e)
only_boolean (L.enum t) b e = absurd (none-some b e)
only_boolean (L.list t) b e = absurd (none-some b e)
only_boolean (L.map t) b e = absurd (none-some b e)
only_boolean (L.struct t) b e = absurd (none-some b e)
only_boolean (L.union n t) b e = absurd (none-some b e)
only_boolean (L.hamt t) b e = absurd (none-some b e)

only_integer : (l : Layer Data) (b : ℤ) → as_integer l ≡ Some b → scalar_of l ≡ Some (V.integer b)
only_integer (L.integer c) b e = ap (option_map V.integer) e
only_integer L.unit b e = absurd (none-some b e)
only_integer (L.boolean n) b e = absurd (none-some b e)
only_integer (L.text t) b e = absurd (none-some b e)
only_integer (L.bytes t) b e = absurd (none-some b e)
only_integer (L.link t) b e = absurd (none-some b e)
only_integer (L.any t) b e = absurd (none-some b e)
only_integer (L.enum t) b e = absurd (none-some b e)
only_integer (L.list t) b e = absurd (none-some b e)
only_integer (L.map t) b e = absurd (none-some b e)
only_integer (L.struct t) b e = absurd (none-some b e)
only_integer (L.union n t) b e = absurd (none-some b e)
only_integer (L.hamt t) b e = absurd (none-some b e)

only_text : (l : Layer Data) (b : List ℕ) → as_text l ≡ Some b → scalar_of l ≡ Some (V.text b)
only_text (L.text c) b e = ap (option_map V.text) e
only_text L.unit b e = absurd (none-some b e)
only_text (L.boolean n) b e = absurd (none-some b e)
only_text (L.integer t) b e = absurd (none-some b e)
only_text (L.bytes t) b e = absurd (none-some b e)
only_text (L.link t) b e = absurd (none-some b e)
only_text (L.any t) b e = absurd (none-some b e)
only_text (L.enum t) b e = absurd (none-some b e)
only_text (L.list t) b e = absurd (none-some b e)
only_text (L.map t) b e = absurd (none-some b e)
only_text (L.struct t) b e = absurd (none-some b e)
only_text (L.union n t) b e = absurd (none-some b e)
only_text (L.hamt t) b e = absurd (none-some b e)

is_bool : (b : Bool) (o : Option TypeDef) → is_of (C.Bool b) o ≡ true → o ≡ Some D.Bool
is_bool b (Some D.Bool) e = refl
is_bool b o e = absurd cc

is_int : (b : ℤ) (o : Option TypeDef) → is_of (C.Int b) o ≡ true → o ≡ Some D.Int
is_int b (Some D.Int) e = refl
is_int b o e = absurd cc

is_text : (b : List ℕ) (o : Option TypeDef) → is_of (C.Text b) o ≡ true → o ≡ Some D.Text
is_text b (Some D.Text) e = refl
is_text b o e = absurd cc

module _ (at : Hamts) (rows : List Row) (s : Slot) (v : Value) (t : Data) (e : represented at rows s v ≡ Some t) where
  -- where the data of a type's values are all of one kind of scalar
  scalars_same : (z : Scalar) (d : TypeDef) {A : Type 0} (get : Layer Data → Option A) (to_data : A → Data) (to_value : A → Value) → form_of rows s ≡ Some d
      → ((l : Layer Data) → composed at d l ≡ option_map to_data (get l)) → ((l : Layer Data) (a : A) → get l ≡ Some a → scalar_of l ≡ Some (to_value a))
      → ((a : A) → has_scalar z (to_value a) ≡ is_scalar z (to_data a)) → has_scalar z V.null ≡ is_scalar z T.null → has_scalar z v ≡ is_scalar z t
  scalars_same z d {A} get to_data to_value is composes reads same none = by (way_of at rows s v t e)
    where
      by : Way at rows s v t → has_scalar z v ≡ is_scalar z t
      by (as_null v_null nullable is_null) = ap (has_scalar z) v_null ∙ none ∙ sym (ap (is_scalar z) is_null)
      by (as_layer c l known there made) =
          let form : c ≡ d = same_Some c d (sym known ∙ is) in
          let x = map_from to_data (get l) t (sym (composes l) ∙ ap (λ k. composed at k l) (sym form) ∙ made) in
          let value : v ≡ to_value x.item = scalar_value at rows (Some c) v (to_value x.item) (ap (option_and_then scalar_of) there ∙ reads l x.item x.there) in
          ap (has_scalar z) value ∙ same x.item ∙ ap (is_scalar z) (same_Some (to_data x.item) t x.made)

  pub left_out_same : (f : Option Scalar) → ((z : Scalar) → f ≡ Some z → is_of z (form_of rows s) ≡ true) → is_left_out f v ≡ is_implicit f t
  left_out_same None fits = refl
  left_out_same (Some (C.Bool b)) fits =
      scalars_same (C.Bool b) D.Bool as_boolean T.boolean V.boolean (is_bool b (form_of rows s) (fits (C.Bool b) refl)) (λ l. refl) only_boolean (λ a. refl) refl
  left_out_same (Some (C.Int b)) fits =
      scalars_same (C.Int b) D.Int as_integer T.integer V.integer (is_int b (form_of rows s) (fits (C.Int b) refl)) (λ l. refl) only_integer (λ a. refl) refl
  left_out_same (Some (C.Text b)) fits =
      scalars_same (C.Text b) D.Text as_text T.text V.text (is_text b (form_of rows s) (fits (C.Text b) refl)) (λ l. refl) only_text (λ a. refl) refl

false_true : false ≡ true → ⊥
false_true e = absurd cc

-- a value that is left out has data
pub left_out_there : (at : Hamts) (rows : List Row) (s : Slot) (v : Value) (f : Option Scalar) → ((z : Scalar) → f ≡ Some z → is_of z (form_of rows s) ≡ true) → is_left_out f v ≡ true
    → represented at rows s v ≡ None → ⊥
left_out_there at rows s v None fits e none = false_true e
left_out_there at rows s (V.boolean b) (Some (C.Bool a)) fits e none =
    none-some (T.boolean b) (sym none ∙ ap (λ o. layered at o (Some (L.boolean b))) (is_bool a (form_of rows s) (fits (C.Bool a) refl)))
left_out_there at rows s (V.integer b) (Some (C.Int a)) fits e none =
    none-some (T.integer b) (sym none ∙ ap (λ o. layered at o (Some (L.integer b))) (is_int a (form_of rows s) (fits (C.Int a) refl)))
left_out_there at rows s (V.text b) (Some (C.Text a)) fits e none =
    none-some (T.text b) (sym none ∙ ap (λ o. layered at o (Some (L.text b))) (is_text a (form_of rows s) (fits (C.Text a) refl)))
left_out_there at rows s v (Some (C.Bool a)) fits e none = false_true e
left_out_there at rows s v (Some (C.Int a)) fits e none = false_true e
left_out_there at rows s v (Some (C.Text a)) fits e none = false_true e

-- ---- what parts of texts are

texts_read : (d : Data) (items : Option (List Data)) (rest : Option (List (List ℕ))) → option_and_then texts_in items ≡ rest → option_and_then texts_in (option_map (λ ds. d ∷ ds) items) ≡ cons_both (text_in d) rest
texts_read d None rest e = sym (both_none (text_in d)) ∙ ap (cons_both (text_in d)) e
texts_read d (Some ds) rest e = ap (cons_both (text_in d)) e

pairs_read : (k : List ℕ) (d : Data) (es : Option (List (List ℕ × Data))) (rest : Option (List (List ℕ × List ℕ))) → option_and_then text_pairs es ≡ rest
    → option_and_then text_pairs (option_map (λ ps. (k, d) ∷ ps) es) ≡ cons_both (option_map {U = List ℕ × List ℕ} (λ t. (k, t)) (text_in d)) rest
pairs_read k d None rest e = sym (both_none (option_map {U = List ℕ × List ℕ} (λ t. (k, t)) (text_in d))) ∙ ap (cons_both (option_map {U = List ℕ × List ℕ} (λ t. (k, t)) (text_in d))) e
pairs_read k d (Some ps) rest e = ap (cons_both (option_map {U = List ℕ × List ℕ} (λ t. (k, t)) (text_in d))) e

module _ (rows : List Row) where
  pub texts_same : (fs : List Field) (os : Optionals) → option_and_then texts_in (option_and_then (all_items fs) (represented_fields alone rows fs os)) ≡ field_texts rows fs (optionals_list os)
  texts_same [] V.no_optionals = refl
  texts_same (f ∷ fs) V.no_optionals = refl
  texts_same [] (V.absent os) = refl
  texts_same [] (V.present v os) = refl
  texts_same (f ∷ fs) (V.absent os) = by (represented_fields alone rows fs os)
    where
      by : (o : Option (List (Option Data))) → option_and_then texts_in (option_and_then (all_items (f ∷ fs)) (option_map (λ ds. None ∷ ds) o)) ≡ None
      by None = refl
      by (Some ds) = refl
  texts_same (f ∷ fs) (V.present v os) = by (represented alone rows f.slot v) (represented_fields alone rows fs os) (texts_same fs os)
    where
      by : (r : Option Data) (o : Option (List (Option Data))) → option_and_then texts_in (option_and_then (all_items fs) o) ≡ field_texts rows fs (optionals_list os)
          → option_and_then texts_in (option_and_then (all_items (f ∷ fs)) (cons_both (option_map Some r) o)) ≡ cons_both (option_and_then text_in r) (field_texts rows fs (optionals_list os))
      by None o e = refl
      by (Some d) None e = sym (both_none (text_in d)) ∙ ap (cons_both (text_in d)) e
      by (Some d) (Some ds) e = texts_read d (all_items fs ds) (field_texts rows fs (optionals_list os)) e

  pub entries_same : (value : Slot) (ps : Pairs) → option_and_then text_pairs (represented_pairs alone rows value ps) ≡ entry_texts rows value (pairs_list ps)
  entries_same value V.no_pairs = refl
  entries_same value (V.pair k v ps) = by (represented alone rows value v) (represented_pairs alone rows value ps) (entries_same value ps)
    where
      by : (r : Option Data) (o : Option (List (List ℕ × Data))) → option_and_then text_pairs o ≡ entry_texts rows value (pairs_list ps)
          → option_and_then text_pairs (cons_both (option_map {U = List ℕ × Data} (λ d. (k, d)) r) o) ≡ cons_both (option_map {U = List ℕ × List ℕ} (λ t. (k, t)) (option_and_then text_in r)) (entry_texts rows value (pairs_list ps))
      by None o e = refl
      by (Some d) o e = pairs_read k d o (entry_texts rows value (pairs_list ps)) e

  by_left_out : (f : Field) (d : Data) (es : Option (List (List ℕ × Data))) (rest : Option (List (List ℕ × List ℕ))) (b : Bool) → is_implicit f.implicit d ≡ b → option_and_then text_pairs es ≡ rest
      → option_and_then text_pairs (option_map (λ ps. entries_of f d ++ ps) es) ≡ cond b rest (cons_both (option_map {U = List ℕ × List ℕ} (λ t. (field_text f, t)) (text_in d)) rest)
  by_left_out f d es rest true is e = ap (λ c. option_and_then text_pairs (option_map (λ ps. cond c [] ((field_text f, d) ∷ []) ++ ps) es)) is ∙ same es ∙ e
    where
      same : (o : Option (List (List ℕ × Data))) → option_and_then text_pairs (option_map (λ ps. [] ++ ps) o) ≡ option_and_then text_pairs o
      same None = refl
      same (Some ps) = refl
  by_left_out f d es rest false is e =
      ap (λ c. option_and_then text_pairs (option_map (λ ps. cond c [] ((field_text f, d) ∷ []) ++ ps) es)) is ∙ same es ∙ pairs_read (field_text f) d es rest e
    where
      same : (o : Option (List (List ℕ × Data))) → option_and_then text_pairs (option_map (λ ps. (((field_text f, d) ∷ []) ++ ps)) o) ≡ option_and_then text_pairs (option_map (λ ps. (field_text f, d) ∷ ps) o)
      same None = refl
      same (Some ps) = refl

  none_apart : (b : Bool) (o : Option (List (List ℕ × List ℕ))) → (b ≡ true → ⊥) → None ≡ cond b o None
  none_apart true o never = absurd (never refl)
  none_apart false o never = refl

  pub fields_same : (fs : List Field) → AllByRecursion (ImplicitFits rows) fs → (os : Optionals)
      → option_and_then text_pairs (option_and_then (field_entries fs) (represented_fields alone rows fs os)) ≡ field_pairs rows fs (optionals_list os)
  fields_same [] fit V.no_optionals = refl
  fields_same (f ∷ fs) fit V.no_optionals = refl
  fields_same [] fit (V.absent os) = refl
  fields_same [] fit (V.present v os) = refl
  fields_same (f ∷ fs) fit (V.absent os) = by f.optional (represented_fields alone rows fs os) (fields_same fs fit.1 os)
    where
      by : (b : Bool) (o : Option (List (Option Data))) → option_and_then text_pairs (option_and_then (field_entries fs) o) ≡ field_pairs rows fs (optionals_list os)
          → option_and_then text_pairs (option_and_then (λ ds. field_entries (f ∷ fs) ds) (option_map (λ ds. None ∷ ds) o)) ≡ cond f.optional (field_pairs rows fs (optionals_list os)) None
      by b None e = closed f.optional e
        where
          closed : (c : Bool) → None ≡ field_pairs rows fs (optionals_list os) → None ≡ cond c (field_pairs rows fs (optionals_list os)) None
          closed true h = h
          closed false h = refl
      by b (Some ds) e = opened f.optional
        where
          opened : (c : Bool) → option_and_then text_pairs (cond c (field_entries fs ds) None) ≡ cond c (field_pairs rows fs (optionals_list os)) None
          opened true = e
          opened false = refl
  fields_same (f ∷ fs) fit (V.present v os) = by (represented alone rows f.slot v) refl (represented_fields alone rows fs os) (fields_same fs fit.1 os)
    where
      by : (r : Option Data) → represented alone rows f.slot v ≡ r → (o : Option (List (Option Data))) → option_and_then text_pairs (option_and_then (field_entries fs) o) ≡ field_pairs rows fs (optionals_list os)
          → option_and_then text_pairs (option_and_then (field_entries (f ∷ fs)) (cons_both (option_map Some r) o))
          ≡ cond (is_left_out f.implicit v) (field_pairs rows fs (optionals_list os)) (cons_both (option_map {U = List ℕ × List ℕ} (λ t. (field_text f, t)) (option_and_then text_in r)) (field_pairs rows fs (optionals_list os)))
      by None is o e = none_apart (is_left_out f.implicit v) (field_pairs rows fs (optionals_list os)) (λ out. left_out_there alone rows f.slot v f.implicit (λ z h. fit.0 z h) out is)
      by (Some d) is None e = closed (is_left_out f.implicit v)
        where
          closed : (c : Bool)
              → None ≡ cond c (field_pairs rows fs (optionals_list os)) (cons_both (option_map {U = List ℕ × List ℕ} (λ t. (field_text f, t)) (text_in d)) (field_pairs rows fs (optionals_list os)))
          closed true = e
          closed false = sym (both_none (option_map {U = List ℕ × List ℕ} (λ t. (field_text f, t)) (text_in d))) ∙ ap (cons_both (option_map {U = List ℕ × List ℕ} (λ t. (field_text f, t)) (text_in d))) e
      by (Some d) is (Some ds) e =
          by_left_out f d (field_entries fs ds) (field_pairs rows fs (optionals_list os)) (is_left_out f.implicit v) (sym (left_out_same alone rows f.slot v d is f.implicit (λ z h. fit.0 z h))) e

  -- ---- values by the forms of their types

  pub joined_rep : (s : Slot) (os : Optionals) (sd : StructDef) (delim : List ℕ) → form_of rows s ≡ Some (D.Struct sd) → sd.form ≡ S.StringJoin delim
      → text_rep rows s (V.struct os) ≡ option_and_then (join delim) (field_texts rows sd.fields (optionals_list os))
  joined_rep s os sd delim is form =
      ap (λ o. option_and_then text_in (layered alone o (option_map L.struct (represented_fields alone rows (fields_of o) os)))) is ∙ by (represented_fields alone rows sd.fields os)
      ∙ ap (option_and_then (join delim)) (texts_same sd.fields os)
    where
      by : (o : Option (List (Option Data))) → option_and_then text_in (layered alone (Some (D.Struct sd)) (option_map L.struct o)) ≡ option_and_then (join delim) (option_and_then texts_in (option_and_then (all_items sd.fields) o))
      by None = refl
      by (Some ds) = ap (λ g. option_and_then text_in (struct_form g sd.fields ds)) form ∙ inside (all_items sd.fields ds)
        where
          inside : (items : Option (List Data)) → option_and_then text_in (option_and_then (stringjoin delim) items) ≡ option_and_then (join delim) (option_and_then texts_in items)
          inside None = refl
          inside (Some xs) = text_text (option_and_then (join delim) (texts_in xs))

  pairs_made : (inner entry : List ℕ) (es : Option (List (List ℕ × Data))) → option_and_then text_in (option_and_then (stringpairs inner entry) es) ≡ option_and_then (join_pairs inner entry) (option_and_then text_pairs es)
  pairs_made inner entry None = refl
  pairs_made inner entry (Some xs) = text_text (option_and_then (join_pairs inner entry) (text_pairs xs))

  pub fields_rep : (s : Slot) (os : Optionals) (sd : StructDef) (inner entry : List ℕ) → AllByRecursion (ImplicitFits rows) sd.fields → form_of rows s ≡ Some (D.Struct sd) → sd.form ≡ S.StringPairs inner entry
      → text_rep rows s (V.struct os) ≡ option_and_then (join_pairs inner entry) (field_pairs rows sd.fields (optionals_list os))
  fields_rep s os sd inner entry fit is form =
      ap (λ o. option_and_then text_in (layered alone o (option_map L.struct (represented_fields alone rows (fields_of o) os)))) is ∙ by (represented_fields alone rows sd.fields os)
      ∙ ap (option_and_then (join_pairs inner entry)) (fields_same sd.fields fit os)
    where
      by : (o : Option (List (Option Data))) → option_and_then text_in (layered alone (Some (D.Struct sd)) (option_map L.struct o)) ≡ option_and_then (join_pairs inner entry) (option_and_then text_pairs (option_and_then (field_entries sd.fields) o))
      by None = refl
      by (Some ds) = ap (λ g. option_and_then text_in (struct_form g sd.fields ds)) form ∙ pairs_made inner entry (field_entries sd.fields ds)

  pub entries_rep : (s : Slot) (ps : Pairs) (key : TypeNo) (key_at : ℕ) (value : Slot) (place : ℕ) (f : MapForm) (inner entry : List ℕ) → form_of rows s ≡ Some (D.Map key key_at value place f) → f ≡ MF.StringPairs inner entry
      → text_rep rows s (V.map ps) ≡ option_and_then (join_pairs inner entry) (entry_texts rows value (pairs_list ps))
  entries_rep s ps key key_at value place f inner entry is form =
      ap (λ o. option_and_then text_in (layered alone o (option_map L.map (option_and_then (λ u. represented_pairs alone rows u ps) (element_of o))))) is ∙ by (represented_pairs alone rows value ps)
      ∙ ap (option_and_then (join_pairs inner entry)) (entries_same value ps)
    where
      by : (o : Option (List (List ℕ × Data))) → option_and_then text_in (layered alone (Some (D.Map key key_at value place f)) (option_map L.map o)) ≡ option_and_then (join_pairs inner entry) (option_and_then text_pairs o)
      by None = refl
      by (Some es) = ap (λ g. option_and_then text_in (map_form alone g (L.map es))) form ∙ pairs_made inner entry (Some es)

  -- ---- forms that are no texts

  pub no_struct_text : (s : Slot) (os : Optionals) (sd : StructDef) (f : StructForm) → form_of rows s ≡ Some (D.Struct sd) → sd.form ≡ f
      → ((fs : List Field) (ds : List (Option Data)) → option_and_then text_in (struct_form f fs ds) ≡ None) → text_rep rows s (V.struct os) ≡ None
  no_struct_text s os sd f is form never = ap (λ o. option_and_then text_in (layered alone o (option_map L.struct (represented_fields alone rows (fields_of o) os)))) is ∙ by (represented_fields alone rows sd.fields os)
    where
      by : (o : Option (List (Option Data))) → option_and_then text_in (layered alone (Some (D.Struct sd)) (option_map L.struct o)) ≡ None
      by None = refl
      by (Some ds) = ap (λ g. option_and_then text_in (struct_form g sd.fields ds)) form ∙ never sd.fields ds

  pub no_map_text : (s : Slot) (ps : Pairs) (key : TypeNo) (key_at : ℕ) (value : Slot) (place : ℕ) (f g : MapForm) → form_of rows s ≡ Some (D.Map key key_at value place f) → f ≡ g
      → ((es : List (List ℕ × Data)) → option_and_then text_in (map_form alone g (L.map es)) ≡ None) → text_rep rows s (V.map ps) ≡ None
  no_map_text s ps key key_at value place f g is form never =
      ap (λ o. option_and_then text_in (layered alone o (option_map L.map (option_and_then (λ u. represented_pairs alone rows u ps) (element_of o))))) is ∙ by (represented_pairs alone rows value ps)
    where
      by : (o : Option (List (List ℕ × Data))) → option_and_then text_in (layered alone (Some (D.Map key key_at value place f)) (option_map L.map o)) ≡ None
      by None = refl
      by (Some es) = ap (λ h. option_and_then text_in (map_form alone h (L.map es))) form ∙ never es

  -- ---- unions

  by_kind : (m : Member) (d : Data) (o : Option KindWord) → option_and_then text_in (option_and_then (λ k. cond (same_kind k (kind_word_of d)) (Some d) None) o) ≡ option_and_then (λ k. cond (same_kind k K.Text) (text_in d) None) o
  by_kind m d None = refl
  by_kind m (T.text t) (Some k) = choose (same_kind k K.Text)
    where
      choose : (b : Bool) → option_and_then text_in (cond b (Some (T.text t)) None) ≡ cond b (Some t) None
      choose true = refl
      choose false = refl
  by_kind m d (Some k) = never (same_kind k (kind_word_of d)) (same_kind k K.Text)
    where
      never : (b c : Bool) → option_and_then text_in (cond b (Some d) None) ≡ cond c (text_in d) None
      never true true = refl
      never true false = refl
      never false true = refl
      never false false = refl

  no_marked : (f : List ℕ → Option Data) (o : Option (List ℕ)) → ((p : List ℕ) → option_and_then text_in (f p) ≡ None) → option_and_then text_in (option_and_then f o) ≡ None
  no_marked f None never = refl
  no_marked f (Some p) never = never p

  form_text : (form : UnionForm) (m : Member) (d : Data) → option_and_then text_in (member_form form d m) ≡ by_form form m (text_in d)
  form_text UF.Kinded m d = by_kind m d (mark_kind m.mark)
  form_text UF.StringPrefix m d = by (mark_text m.mark) (text_in d)
    where
      by : (o t : Option (List ℕ))
          → option_and_then text_in (option_and_then (λ name. option_map (λ x. T.text (name ++ x)) t) o) ≡ option_and_then (λ prefix. option_map (λ x. prefix ++ x) t) o
      by None t = refl
      by (Some p) None = refl
      by (Some p) (Some x) = refl
  form_text UF.Keyed m d = no_marked (marked_form UF.Keyed d) (mark_text m.mark) (λ p. refl)
  form_text UF.BytesPrefix m d = no_marked (marked_form UF.BytesPrefix d) (mark_text m.mark) (λ p. by p (bytes_of_hex p) (bytes_in d))
    where
      by : (p : List ℕ) (o b : Option (List ℕ)) → option_and_then text_in (option_and_then (λ front. option_map (λ x. T.bytes (front ++ x)) b) o) ≡ None
      by p None b = refl
      by p (Some front) None = refl
      by p (Some front) (Some x) = refl
  form_text (UF.Envelope key content) m d = no_marked (marked_form (UF.Envelope key content) d) (mark_text m.mark) (λ p. refl)
  form_text (UF.Inline key) m d = no_marked (marked_form (UF.Inline key) d) (mark_text m.mark) (λ p. by p (members_in d))
    where
      by : (p : List ℕ) (o : Option (List (List ℕ × Data))) → option_and_then text_in (option_and_then (inlined key p) o) ≡ None
      by p None = refl
      by p (Some ms) = choose (is_none (value_at key ms))
        where
          choose : (b : Bool) → option_and_then text_in (cond b (Some (map_data (put key (T.text p) ms))) None) ≡ None
          choose true = refl
          choose false = refl

  abbrev no_text : Option (List ℕ)
  no_text = None

  none_by_form : (form : UnionForm) (m : Member) → None ≡ by_form form m None
  none_by_form UF.Kinded m = by (mark_kind m.mark)
    where
      by : (o : Option KindWord) → no_text ≡ option_and_then (λ k. cond (same_kind k K.Text) no_text None) o
      by None = refl
      by (Some k) = choose (same_kind k K.Text)
        where
          choose : (b : Bool) → no_text ≡ cond b no_text None
          choose true = refl
          choose false = refl
  none_by_form UF.StringPrefix m = by (mark_text m.mark)
    where
      by : (o : Option (List ℕ)) → no_text ≡ option_and_then (λ prefix. option_map (λ t. prefix ++ t) no_text) o
      by None = refl
      by (Some p) = refl
  none_by_form UF.Keyed m = refl
  none_by_form UF.BytesPrefix m = refl
  none_by_form (UF.Envelope key content) m = refl
  none_by_form (UF.Inline key) m = refl

  pub union_rep : (s : Slot) (n : ℕ) (v : Value) (u : UnionDef) → form_of rows s ≡ Some (D.Union u) → text_rep rows s (V.union n v) ≡ member_text_rep rows u n v
  union_rep s n v u is =
      ap (λ o. option_and_then text_in (layered alone o (option_map (L.union n) (option_and_then (λ k. represented alone rows k v) (member_of o n))))) is ∙ by (slice_get u.members n) refl
    where
      by : (o : Option Member) → slice_get u.members n ≡ o
          → option_and_then text_in (layered alone (Some (D.Union u)) (option_map (L.union n) (option_and_then (λ k. represented alone rows k v) (option_map slot_of (slice_get u.members n)))))
          ≡ option_and_then (λ m. by_form u.form m (text_rep rows (plainly m.ty) v)) (slice_get u.members n)
      by None at =
          ap (λ o. option_and_then text_in (layered alone (Some (D.Union u)) (option_map (L.union n) (option_and_then (λ k. represented alone rows k v) (option_map slot_of o))))) at
          ∙ sym (ap (option_and_then (λ m. by_form u.form m (text_rep rows (plainly m.ty) v))) at)
      by (Some m) at =
          ap (λ o. option_and_then text_in (layered alone (Some (D.Union u)) (option_map (L.union n) (option_and_then (λ k. represented alone rows k v) (option_map slot_of o))))) at
          ∙ inside (represented alone rows (plainly m.ty) v) ∙ sym (ap (option_and_then (λ k. by_form u.form k (text_rep rows (plainly k.ty) v))) at)
        where
          inside : (r : Option Data) → option_and_then text_in (layered alone (Some (D.Union u)) (option_map (L.union n) r)) ≡ by_form u.form m (option_and_then text_in r)
          inside None = none_by_form u.form m
          inside (Some d) = ap (λ o. option_and_then text_in (option_and_then (member_form u.form d) o)) at ∙ form_text u.form m d

  -- ---- types that have no texts

  no_text_of : (d : TypeDef) → has_kind d K.Text ≡ false → (t : Data) → has_kind d (kind_word_of t) ≡ true → text_in t ≡ None
  no_text_of d no_kind (T.text x) e = absurd (false_true (sym no_kind ∙ e))
  no_text_of d no_kind t e = refl

  pub no_kind_text : (s : Slot) (v : Value) (d : TypeDef) → form_of rows s ≡ Some d → has_kind d K.Text ≡ false → text_rep rows s v ≡ None
  no_kind_text s v d is no_kind = by (represented alone rows s v) refl
    where
      way : (t : Data) → Way alone rows s v t → text_in t ≡ None
      way t (as_null v_null nullable is_null) = ap text_in is_null
      way t (as_layer c l known there made) = no_text_of d no_kind t (ap (λ k. has_kind k (kind_word_of t)) (same_Some d c (sym is ∙ known)) ∙ composed_kind alone alone_kind c l t made)

      by : (o : Option Data) → represented alone rows s v ≡ o → option_and_then text_in o ≡ None
      by None e = refl
      by (Some t) e = way t (way_of alone rows s v t e)

  as_map_none : (f : MapForm) (l : Layer Data) → as_map l ≡ None → option_and_then text_in (map_form alone f l) ≡ None
  as_map_none MF.Map l e = ap (λ o. option_and_then text_in (option_map map_data o)) e
  as_map_none MF.ListPairs l e = ap (λ o. option_and_then text_in (option_map listpairs o)) e
  as_map_none (MF.StringPairs inner entry) l e = ap (λ o. option_and_then text_in (option_and_then (stringpairs inner entry) o)) e
  as_map_none (MF.Hamt shape) l e = by (as_hamt l)
    where
      maps : (d : Data) → option_and_then text_in (a_map d) ≡ None
      maps (T.map ms) = refl
      maps d = refl

      by : (o : Option Data) → option_and_then text_in (option_and_then a_map o) ≡ None
      by None = refl
      by (Some d) = maps d

  pub other_map_text : (s : Slot) (v : Value) (key : TypeNo) (key_at : ℕ) (value : Slot) (place : ℕ) (f : MapForm) → form_of rows s ≡ Some (D.Map key key_at value place f) → ((ps : Pairs) → v ≡ V.map ps → ⊥) → text_rep rows s v ≡ None
  other_map_text s v key key_at value place f is other = by (represented alone rows s v) refl
    where
      not_map : (d : Option TypeDef) (w : Value) (l : Layer Data) → ((ps : Pairs) → w ≡ V.map ps → ⊥) → layer_data alone rows d w ≡ Some l → as_map l ≡ None
      not_map d (V.map ps) l no_map e = absurd (no_map ps refl)
      not_map d V.null l no_map e = absurd (none-some l e)
      not_map d (V.boolean b) l no_map e = ap as_map (sym (same_Some (L.boolean b) l e))
      not_map d (V.integer b) l no_map e = ap as_map (sym (same_Some (L.integer b) l e))
      not_map d (V.text b) l no_map e = ap as_map (sym (same_Some (L.text b) l e))
      not_map d (V.bytes b) l no_map e = ap as_map (sym (same_Some (L.bytes b) l e))
      not_map d (V.link b) l no_map e = ap as_map (sym (same_Some (L.link b) l e))
      not_map d (V.any b) l no_map e = ap as_map (sym (same_Some (L.any b) l e))
      not_map d (V.enum b) l no_map e = ap as_map (sym (same_Some (L.enum b) l e))
      not_map d (V.hamt b) l no_map e = ap as_map (sym (same_Some (L.hamt b) l e))
      not_map d V.unit l no_map e = ap as_map (sym (same_Some L.unit l e))
      not_map d (V.list vs) l no_map e = let x = map_from L.list (values_data alone rows (element_of d) vs) l e in ap as_map (sym (same_Some (L.list x.item) l x.made))
      not_map d (V.struct os) l no_map e = let x = map_from L.struct (represented_fields alone rows (fields_of d) os) l e in ap as_map (sym (same_Some (L.struct x.item) l x.made))
      not_map d (V.union n w) l no_map e = let x = map_from (L.union n) (member_data alone rows (member_of d n) w) l e in ap as_map (sym (same_Some (L.union n x.item) l x.made))

      way : (t : Data) → Way alone rows s v t → text_in t ≡ None
      way t (as_null v_null nullable is_null) = ap text_in is_null
      way t (as_layer c l known there made) =
          let same = same_Some c (D.Map key key_at value place f) (sym known ∙ is) in
          ap (option_and_then text_in) (sym made ∙ ap (λ k. composed alone k l) same) ∙ as_map_none f l (not_map (Some c) v l other there)

      by : (o : Option Data) → represented alone rows s v ≡ o → option_and_then text_in o ≡ None
      by None e = refl
      by (Some t) e = way t (way_of alone rows s v t e)

  pub no_pairs_text : (s : Slot) (ps : Pairs) (key : TypeNo) (key_at : ℕ) (value : Slot) (place : ℕ) (f : MapForm) → form_of rows s ≡ Some (D.Map key key_at value place f) → ((i e : List ℕ) → f ≡ MF.StringPairs i e → ⊥) → text_rep rows s (V.map ps) ≡ None
  no_pairs_text s ps key key_at value place MF.Map is never = no_map_text s ps key key_at value place MF.Map MF.Map is refl (λ es. refl)
  no_pairs_text s ps key key_at value place MF.ListPairs is never = no_map_text s ps key key_at value place MF.ListPairs MF.ListPairs is refl (λ es. refl)
  no_pairs_text s ps key key_at value place (MF.Hamt shape) is never = no_map_text s ps key key_at value place (MF.Hamt shape) (MF.Hamt shape) is refl (λ es. refl)
  no_pairs_text s ps key key_at value place (MF.StringPairs i e) is never = absurd (never i e refl)

pub plain_kind : (d : TypeDef) → (d ≡ D.Text → ⊥) → (d ≡ D.Any → ⊥) → ((a : TypeNo) (b : ℕ) (c : Slot) (e : ℕ) (f : MapForm) → d ≡ D.Map a b c e f → ⊥) → ((x : StructDef) → d ≡ D.Struct x → ⊥) → ((x : UnionDef) → d ≡ D.Union x → ⊥)
    → ((x : EnumDef) → d ≡ D.Enum x → ⊥) → has_kind d K.Text ≡ false
plain_kind D.Text a b c e f g = absurd (a refl)
plain_kind D.Any a b c e f g = absurd (b refl)
plain_kind (D.Map x y z w m) a b c e f g = absurd (c x y z w m refl)
plain_kind (D.Struct x) a b c e f g = absurd (e x refl)
plain_kind (D.Union x) a b c e f g = absurd (f x refl)
plain_kind (D.Enum x) a b c e f g = absurd (g x refl)
plain_kind (D.Unit U.Null) a b c e f g = refl
plain_kind (D.Unit U.True) a b c e f g = refl
plain_kind (D.Unit U.False) a b c e f g = refl
plain_kind (D.Unit U.EmptyMap) a b c e f g = refl
plain_kind D.Bool a b c e f g = refl
plain_kind D.Bytes a b c e f g = refl
plain_kind D.Int a b c e f g = refl
plain_kind (D.Link x) a b c e f g = refl
plain_kind (D.List x y) a b c e f g = refl
plain_kind (D.Copy x) a b c e f g = refl

pub map_val : (val : Val) (ps : Pairs) → value_of val ≡ V.map ps → val ≡ W.Map ps
map_val (W.Map qs) ps e = cc
map_val W.Null ps e = absurd cc
map_val (W.Bool x) ps e = absurd cc
map_val (W.Int x) ps e = absurd cc
map_val (W.Text x) ps e = absurd cc
map_val (W.Bytes x) ps e = absurd cc
map_val (W.Link x) ps e = absurd cc
map_val (W.List x) ps e = absurd cc
map_val (W.Struct x) ps e = absurd cc
map_val (W.Union n x) ps e = absurd cc
map_val (W.Enum x) ps e = absurd cc
map_val W.Unit ps e = absurd cc
map_val (W.Any x) ps e = absurd cc
