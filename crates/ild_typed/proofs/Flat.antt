-- A value with data that are no list and no map has no HAMT inside, so the data are those of the value alone.
use Rattle.ild_typed.proofs.PartData.{values_data, pairs_data, member_data}
use Rattle.std.proofs.Common.{◌≡◌, ℕ, List, [], ◌∷◌, ◌++◌, Bool, true, false, cond, Option, Some, None, option_map, refl, sym, ◌∙◌, ap, subst}
use Rattle.std.specs.Prelude.{IfSome, option_and_then, is_none, slice_get}
use Rattle.std.specs.List.{AllByRecursion}
use Rattle.std.proofs.lemmas.Option.{same_Some, none-some}
use Rattle.ild_data.specs.Data as T
use Rattle.ild_data.specs.Data.{Data}
use Rattle.ild_data.specs.Key.{put, value_at}
use Rattle.ild_schema.specs.declared.number.Slot.{Slot}
use Rattle.ild_schema.specs.declared.def.TypeDef.{TypeDef}
use Rattle.ild_schema.specs.declared.def.TypeDef.TheVariants as D
use Rattle.ild_schema.specs.declared.def.MapForm.TheVariants as MF
use Rattle.ild_schema.specs.declared.def.StructForm.{StructForm}
use Rattle.ild_schema.specs.declared.def.StructForm.TheVariants as S
use Rattle.ild_schema.specs.declared.def.UnionForm.{UnionForm}
use Rattle.ild_schema.specs.declared.def.UnionForm.TheVariants as UF
use Rattle.ild_schema.specs.declared.def.Scalar.{Scalar}
use Rattle.ild_schema.specs.declared.def.Scalar.TheVariants as C
use Rattle.ild_schema.specs.declared.def.Field.{Field}
use Rattle.ild_schema.specs.declared.def.Member.{Member}
use Rattle.ild_schema.specs.declared.row.Row.{Row}
use Rattle.ild_schema.specs.Value as V
use Rattle.ild_schema.specs.Value.{Value, Pairs, Optionals}
use Rattle.ild_typed.specs.Layer as L
use Rattle.ild_typed.specs.Layer.{as_hamt, Layer, as_map}
use Rattle.ild_typed.specs.Texts.{join, join_pairs}
use Rattle.ild_typed.specs.Fields.{is_implicit, is_scalar, entries_of, field_entries, tuple_items, all_items}
use Rattle.ild_schema.specs.Marks.{field_text, mark_text, mark_kind}
use Rattle.ild_typed.specs.Strings.{text_in, bytes_in, members_in, texts_in, text_pairs, in_key_order, map_data, listpairs, stringpairs, stringjoin, cons_both}
use Rattle.ild_typed.specs.Kinds.{kind_word_of}
use Rattle.ild_schema.specs.DataKinds.{same_kind}
use Rattle.ild_data.specs.Hex.{bytes_of_hex}
use Rattle.ild_schema.specs.Slots.{form_of}
use Rattle.ild_typed.specs.Slots.{element_of, fields_of, member_of}
use Rattle.ild_data.specs.Trie.{trie}
use Rattle.ild_data.specs.declared.hamt_shape.HamtShape.{HamtShape}
use Rattle.ild_typed.specs.Composed.{Hamts, composed, struct_form, marked_form, member_form, inlined}
use Rattle.ild_typed.specs.Hamt.{root_map, whole, a_map, alone}
use Rattle.ild_typed.specs.Represented.{layered, represented, represented_pairs, represented_fields}
use Rattle.ild_typed.proofs.Basics.{then_from, map_from, true_from, if_from}
use Rattle.ild_typed.proofs.Entries.{both_from}

abbrev pub IsFlat : Data → Type 0
IsFlat (T.list ds) = ⊥
IsFlat (T.map ms) = ⊥
IsFlat d = Unit {0}

pub flat_text : (d : Data) (s : List ℕ) → text_in d ≡ Some s → IsFlat d
flat_text (T.list ds) s e = none-some s e
flat_text (T.map ms) s e = none-some s e
flat_text d s e = tt

flat_bytes : (d : Data) (s : List ℕ) → bytes_in d ≡ Some s → IsFlat d
flat_bytes (T.list ds) s e = none-some s e
flat_bytes (T.map ms) s e = none-some s e
flat_bytes d s e = tt

flat_scalar : (s : Scalar) (d : Data) → is_scalar s d ≡ true → IsFlat d
flat_scalar (C.Bool a) (T.list ds) e = let k : false ≡ true = e in absurd cc
flat_scalar (C.Int a) (T.list ds) e = let k : false ≡ true = e in absurd cc
flat_scalar (C.Text a) (T.list ds) e = let k : false ≡ true = e in absurd cc
flat_scalar (C.Bool a) (T.map ms) e = let k : false ≡ true = e in absurd cc
flat_scalar (C.Int a) (T.map ms) e = let k : false ≡ true = e in absurd cc
flat_scalar (C.Text a) (T.map ms) e = let k : false ≡ true = e in absurd cc
flat_scalar s d e = tt

flat_implicit : (o : Option Scalar) (d : Data) → is_implicit o d ≡ true → IsFlat d
flat_implicit None d e = absurd cc
flat_implicit (Some s) d e = flat_scalar s d e

-- ---- the parts of texts

abbrev pub FlatPairs : List (List ℕ × Data) → Type 0
FlatPairs ps = AllByRecursion (λ (p : List ℕ × Data). IsFlat p.1) ps

abbrev pub FlatFields : List (Option Data) → Type 0
FlatFields os = AllByRecursion (λ o. IfSome o IsFlat) os

flat_pairs : (ps : List (List ℕ × Data)) (ts : List (List ℕ × List ℕ)) → text_pairs ps ≡ Some ts → FlatPairs ps
flat_pairs [] ts e = tt
flat_pairs (p ∷ ps) ts e =
    let b = both_from (option_map {U = List ℕ × List ℕ} (λ s. (p.0, s)) (text_in p.1)) (text_pairs ps) ts e in
    let x = map_from {B = List ℕ × List ℕ} (λ s. (p.0, s)) (text_in p.1) b.item b.first in
    (flat_text p.1 x.item x.there, flat_pairs ps b.items b.rest)

flat_entries : (fs : List Field) (os : List (Option Data)) (es : List (List ℕ × Data)) → field_entries fs os ≡ Some es → FlatPairs es → FlatFields os
flat_entries [] [] es e flat = tt
flat_entries [] (o ∷ os) es e flat = absurd (none-some es e)
flat_entries (f ∷ fs) [] es e flat = absurd (none-some es e)
flat_entries (f ∷ fs) (Some d ∷ os) es e flat =
    let x = map_from (λ r. entries_of f d ++ r) (field_entries fs os) es e in
    by (is_implicit f.implicit d) refl x.item (λ more. flat_entries fs os x.item x.there more) (subst FlatPairs (sym (same_Some (entries_of f d ++ x.item) es x.made)) flat)
  where
    by : (b : Bool) → is_implicit f.implicit d ≡ b → (r : List (List ℕ × Data)) → (FlatPairs r → FlatFields os) → FlatPairs (cond b [] ((field_text f, d) ∷ []) ++ r) → IsFlat d × FlatFields os
    by true is r later all = (flat_implicit f.implicit d is, later all)
    by false is r later all = (all.0, later all.1)
flat_entries (f ∷ fs) (None ∷ os) es e flat = (tt, flat_entries fs os es (if_from f.optional (field_entries fs os) es e).1 flat)

flat_items : (fs : List Field) (os : List (Option Data)) (ds : List Data) (ts : List (List ℕ)) → all_items fs os ≡ Some ds → texts_in ds ≡ Some ts → FlatFields os
flat_items [] [] ds ts e k = tt
flat_items [] (o ∷ os) ds ts e k = absurd (none-some ds e)
flat_items (f ∷ fs) [] ds ts e k = absurd (none-some ds e)
flat_items (f ∷ fs) (Some d ∷ os) ds ts e k =
    let x = map_from (λ r. d ∷ r) (all_items fs os) ds e in
    let b = both_from (text_in d) (texts_in x.item) ts (ap texts_in (same_Some (d ∷ x.item) ds x.made) ∙ k) in
    (flat_text d b.item b.first, flat_items fs os x.item b.items x.there b.rest)
flat_items (f ∷ fs) (None ∷ os) ds ts e k = absurd (none-some ds e)

pub stringpairs_flat : (inner entry : List ℕ) (ps : List (List ℕ × Data)) (t : Data) → stringpairs inner entry ps ≡ Some t → FlatPairs ps
stringpairs_flat inner entry ps t e =
    let y = map_from T.text (option_and_then (join_pairs inner entry) (text_pairs ps)) t e in
    let z = then_from (join_pairs inner entry) (text_pairs ps) y.item y.there in
    flat_pairs ps z.item z.there

pub struct_pairs_flat : (inner entry : List ℕ) (fs : List Field) (os : List (Option Data)) (t : Data) → option_and_then (stringpairs inner entry) (field_entries fs os) ≡ Some t → FlatFields os
struct_pairs_flat inner entry fs os t e =
    let x = then_from (stringpairs inner entry) (field_entries fs os) t e in
    flat_entries fs os x.item x.there (stringpairs_flat inner entry x.item t x.made)

pub struct_join_flat : (delim : List ℕ) (fs : List Field) (os : List (Option Data)) (t : Data) → option_and_then (stringjoin delim) (all_items fs os) ≡ Some t → FlatFields os
struct_join_flat delim fs os t e =
    let x = then_from (stringjoin delim) (all_items fs os) t e in
    let y = map_from T.text (option_and_then (join delim) (texts_in x.item)) t x.made in
    let z = then_from (join delim) (texts_in x.item) y.item y.there in
    flat_items fs os x.item z.item x.there z.there

-- ---- the parts of a layer with flat data

is_flat : (d t : Data) → ◌≡◌ {A = Option Data} (Some d) (Some t) → IsFlat t → IsFlat d
is_flat d t e flat = subst IsFlat (sym (same_Some d t e)) flat

struct_flat : (form : StructForm) (fs : List Field) (os : List (Option Data)) (t : Data) → struct_form form fs os ≡ Some t → IsFlat t → FlatFields os
struct_flat S.Map fs os t e flat = let x = map_from (λ es. map_data (in_key_order es)) (field_entries fs os) t e in absurd (is_flat (map_data (in_key_order x.item)) t x.made flat)
struct_flat S.Tuple fs os t e flat = let x = map_from (λ ds. T.list (T.items_of ds)) (tuple_items fs os) t e in absurd (is_flat (T.list (T.items_of x.item)) t x.made flat)
struct_flat S.ListPairs fs os t e flat = let x = map_from listpairs (field_entries fs os) t e in absurd (is_flat (listpairs x.item) t x.made flat)
struct_flat (S.StringPairs inner entry) fs os t e flat = struct_pairs_flat inner entry fs os t e
struct_flat (S.StringJoin delim) fs os t e flat = struct_join_flat delim fs os t e

marked_flat : (form : UnionForm) (d : Data) (name : List ℕ) (t : Data) → marked_form form d name ≡ Some t → IsFlat t → IsFlat d
marked_flat UF.Keyed d name t e flat = absurd (is_flat (map_data ((name, d) ∷ [])) t e flat)
marked_flat UF.Kinded d name t e flat = absurd (none-some t e)
marked_flat UF.StringPrefix d name t e flat = let x = map_from (λ s. T.text (name ++ s)) (text_in d) t e in flat_text d x.item x.there
marked_flat UF.BytesPrefix d name t e flat =
    let x = then_from (λ front. option_map (λ s. T.bytes (front ++ s)) (bytes_in d)) (bytes_of_hex name) t e in
    let y = map_from (λ s. T.bytes (x.item ++ s)) (bytes_in d) t x.made in
    flat_bytes d y.item y.there
marked_flat (UF.Envelope key content) d name t e flat = absurd (is_flat (map_data (put key (T.text name) ((content, d) ∷ []))) t e flat)
marked_flat (UF.Inline key) d name t e flat =
    let x = then_from (inlined key name) (members_in d) t e in
    let y = true_from (is_none (value_at key x.item)) (map_data (put key (T.text name) x.item)) t x.made in
    absurd (subst IsFlat (sym y.1) flat)

member_flat : (form : UnionForm) (d : Data) (m : Member) (t : Data) → member_form form d m ≡ Some t → IsFlat t → IsFlat d
member_flat UF.Kinded d m t e flat =
    let x = then_from (λ k. cond (same_kind k (kind_word_of d)) (Some d) None) (mark_kind m.mark) t e in
    subst IsFlat (sym (true_from (same_kind x.item (kind_word_of d)) d t x.made).1) flat
member_flat UF.Keyed d m t e flat = let x = then_from (marked_form UF.Keyed d) (mark_text m.mark) t e in marked_flat UF.Keyed d x.item t x.made flat
member_flat UF.StringPrefix d m t e flat = let x = then_from (marked_form UF.StringPrefix d) (mark_text m.mark) t e in marked_flat UF.StringPrefix d x.item t x.made flat
member_flat UF.BytesPrefix d m t e flat = let x = then_from (marked_form UF.BytesPrefix d) (mark_text m.mark) t e in marked_flat UF.BytesPrefix d x.item t x.made flat
member_flat (UF.Envelope key content) d m t e flat = let x = then_from (marked_form (UF.Envelope key content) d) (mark_text m.mark) t e in marked_flat (UF.Envelope key content) d x.item t x.made flat
member_flat (UF.Inline key) d m t e flat = let x = then_from (marked_form (UF.Inline key) d) (mark_text m.mark) t e in marked_flat (UF.Inline key) d x.item t x.made flat

-- what stands for a HAMT is no flat data
abbrev NeverFlat : Hamts → Type 0
NeverFlat at = (p : HamtShape) (l : Layer Data) (t : Data) → at p l ≡ Some t → IsFlat t → ⊥

-- Flat data are those of a value whatever stands for HAMTs: none is in it.
module _ (at bt : Hamts) (never : NeverFlat at) (rows : List Row) where
  not_list : (d : TypeDef) (ds : List Data) (t : Data) → composed at d (L.list ds) ≡ Some t → IsFlat t → ⊥
  not_list (D.List elem place) ds t e flat = is_flat (T.list (T.items_of ds)) t e flat
  not_list (D.Map key key_at value place MF.Map) ds t e flat = none-some t e
  not_list (D.Map key key_at value place MF.ListPairs) ds t e flat = none-some t e
  not_list (D.Map key key_at value place (MF.StringPairs i k)) ds t e flat = none-some t e
  not_list (D.Map key key_at value place (MF.Hamt p)) ds t e flat = never p (L.list ds) t e flat
  not_list d ds t e flat = none-some t e

  map_flat : (d : TypeDef) (ps : List (List ℕ × Data)) (t : Data) → composed at d (L.map ps) ≡ Some t → IsFlat t → FlatPairs ps
  map_flat (D.Map key key_at value place MF.Map) ps t e flat = absurd (is_flat (map_data ps) t e flat)
  map_flat (D.Map key key_at value place MF.ListPairs) ps t e flat = absurd (is_flat (listpairs ps) t e flat)
  map_flat (D.Map key key_at value place (MF.StringPairs inner entry)) ps t e flat = stringpairs_flat inner entry ps t e
  map_flat (D.Map key key_at value place (MF.Hamt p)) ps t e flat = absurd (never p (L.map ps) t e flat)
  map_flat d ps t e flat = absurd (none-some t e)

  fields_flat : (d : TypeDef) (os : List (Option Data)) (t : Data) → composed at d (L.struct os) ≡ Some t → IsFlat t → FlatFields os
  fields_flat (D.Struct s) os t e flat = struct_flat s.form s.fields os t e flat
  fields_flat (D.Map key key_at value place MF.Map) os t e flat = absurd (none-some t e)
  fields_flat (D.Map key key_at value place MF.ListPairs) os t e flat = absurd (none-some t e)
  fields_flat (D.Map key key_at value place (MF.StringPairs i k)) os t e flat = absurd (none-some t e)
  fields_flat (D.Map key key_at value place (MF.Hamt p)) os t e flat = absurd (never p (L.struct os) t e flat)
  fields_flat d os t e flat = absurd (none-some t e)

  union_flat : (d : TypeDef) (n : ℕ) (c t : Data) → composed at d (L.union n c) ≡ Some t → IsFlat t → IsFlat c
  union_flat (D.Union u) n c t e flat = let x = then_from (member_form u.form c) (slice_get u.members n) t e in member_flat u.form c x.item t x.made flat
  union_flat (D.Map key key_at value place MF.Map) n c t e flat = absurd (none-some t e)
  union_flat (D.Map key key_at value place MF.ListPairs) n c t e flat = absurd (none-some t e)
  union_flat (D.Map key key_at value place (MF.StringPairs i k)) n c t e flat = absurd (none-some t e)
  union_flat (D.Map key key_at value place (MF.Hamt p)) n c t e flat = absurd (never p (L.union n c) t e flat)
  union_flat d n c t e flat = absurd (none-some t e)

  -- the layer itself
  composed_same : (d : TypeDef) (l : Layer Data) (t : Data) → composed at d l ≡ Some t → IsFlat t → composed bt d l ≡ Some t
  composed_same (D.Map key key_at value place MF.Map) l t e flat = e
  composed_same (D.Map key key_at value place MF.ListPairs) l t e flat = e
  composed_same (D.Map key key_at value place (MF.StringPairs i k)) l t e flat = e
  composed_same (D.Map key key_at value place (MF.Hamt p)) l t e flat = absurd (never p l t e flat)
  composed_same d l t e flat = e

  layer_same : (o : Option TypeDef) (p q : Option (Layer Data)) (t : Data) → layered at o p ≡ Some t → IsFlat t
      → ((d : TypeDef) (l : Layer Data) → p ≡ Some l → composed at d l ≡ Some t → q ≡ Some l) → layered bt o q ≡ Some t
  layer_same None p q t e flat same = absurd (none-some t e)
  layer_same (Some d) p q t e flat same =
      let x = then_from (composed at d) p t e in
      ap (option_and_then (composed bt d)) (same d x.item x.there x.made) ∙ composed_same d x.item t x.made flat

  both_into : {A : Type 0} (o : Option A) (os : Option (List A)) (x : A) (xs ys : List A) → o ≡ Some x → os ≡ Some xs → x ∷ xs ≡ ys → cons_both o os ≡ Some ys
  both_into o os x xs ys a b c = ap (λ z. cons_both z os) a ∙ ap (option_map (λ zs. x ∷ zs)) b ∙ ap Some c

  mutual
    pub flat_same : (s : Slot) (v : Value) (t : Data) → represented at rows s v ≡ Some t → IsFlat t → represented bt rows s v ≡ Some t
    flat_same s V.null t e flat = e
    flat_same s (V.boolean x) t e flat = layer_same (form_of rows s) (Some (L.boolean x)) (Some (L.boolean x)) t e flat (λ d l is made. is)
    flat_same s (V.integer x) t e flat = layer_same (form_of rows s) (Some (L.integer x)) (Some (L.integer x)) t e flat (λ d l is made. is)
    flat_same s (V.text x) t e flat = layer_same (form_of rows s) (Some (L.text x)) (Some (L.text x)) t e flat (λ d l is made. is)
    flat_same s (V.bytes x) t e flat = layer_same (form_of rows s) (Some (L.bytes x)) (Some (L.bytes x)) t e flat (λ d l is made. is)
    flat_same s (V.link x) t e flat = layer_same (form_of rows s) (Some (L.link x)) (Some (L.link x)) t e flat (λ d l is made. is)
    flat_same s (V.any x) t e flat = layer_same (form_of rows s) (Some (L.any x)) (Some (L.any x)) t e flat (λ d l is made. is)
    flat_same s V.unit t e flat = layer_same (form_of rows s) (Some L.unit) (Some L.unit) t e flat (λ d l is made. is)
    flat_same s (V.enum x) t e flat = layer_same (form_of rows s) (Some (L.enum x)) (Some (L.enum x)) t e flat (λ d l is made. is)
    flat_same s (V.hamt x) t e flat = layer_same (form_of rows s) (Some (L.hamt x)) (Some (L.hamt x)) t e flat (λ d l is made. is)
    flat_same s (V.list vs) t e flat =
        let u = element_of (form_of rows s) in
        layer_same (form_of rows s) (option_map L.list (values_data at rows u vs)) (option_map L.list (values_data bt rows u vs)) t e flat
        (λ d l is made.
        let x = map_from L.list (values_data at rows u vs) l is in
        absurd (not_list d x.item t (ap (composed at d) (same_Some (L.list x.item) l x.made) ∙ made) flat))
    flat_same s (V.map ps) t e flat =
        let u = element_of (form_of rows s) in
        layer_same (form_of rows s) (option_map L.map (pairs_data at rows u ps)) (option_map L.map (pairs_data bt rows u ps)) t e flat
        (λ d l is made.
        let x = map_from L.map (pairs_data at rows u ps) l is in
        let z = then_from (λ k. represented_pairs at rows k ps) u x.item x.there in
        ap (option_map L.map) (ap (λ k. pairs_data bt rows k ps) z.there ∙ pairs_same z.item ps x.item z.made (map_flat d x.item t (ap (composed at d) (same_Some (L.map x.item) l x.made) ∙ made) flat)) ∙ x.made)
    flat_same s (V.struct os) t e flat =
        let fs = fields_of (form_of rows s) in
        layer_same (form_of rows s) (option_map L.struct (represented_fields at rows fs os)) (option_map L.struct (represented_fields bt rows fs os)) t e flat
        (λ d l is made.
        let x = map_from L.struct (represented_fields at rows fs os) l is in
        ap (option_map L.struct) (fields_same fs os x.item x.there (fields_flat d x.item t (ap (composed at d) (same_Some (L.struct x.item) l x.made) ∙ made) flat)) ∙ x.made)
    flat_same s (V.union n v) t e flat =
        let u = member_of (form_of rows s) n in
        layer_same (form_of rows s) (option_map (L.union n) (member_data at rows u v)) (option_map (L.union n) (member_data bt rows u v)) t e flat
        (λ d l is made.
        let x = map_from (L.union n) (member_data at rows u v) l is in
        let z = then_from (λ k. represented at rows k v) u x.item x.there in
        ap (option_map (L.union n)) (ap (λ k. member_data bt rows k v) z.there ∙ flat_same z.item v x.item z.made (union_flat d n x.item t (ap (composed at d) (same_Some (L.union n x.item) l x.made) ∙ made) flat)) ∙ x.made)

    pub pairs_same : (s : Slot) (ps : Pairs) (ds : List (List ℕ × Data)) → represented_pairs at rows s ps ≡ Some ds → FlatPairs ds → represented_pairs bt rows s ps ≡ Some ds
    pairs_same s V.no_pairs ds e flat = e
    pairs_same s (V.pair k v ps) ds e flat =
        let b = both_from (option_map {U = List ℕ × Data} (λ d. (k, d)) (represented at rows s v)) (represented_pairs at rows s ps) ds e in
        let x = map_from {B = List ℕ × Data} (λ d. (k, d)) (represented at rows s v) b.item b.first in
        let same : (k, x.item) ≡ b.item = same_Some (k, x.item) b.item x.made in
        let all : FlatPairs (b.item ∷ b.items) = subst FlatPairs (sym b.all) flat in
        let here = flat_same s v x.item x.there (subst (λ (p : List ℕ × Data). IsFlat p.1) (sym same) all.0) in
        both_into (option_map {U = List ℕ × Data} (λ d. (k, d)) (represented bt rows s v)) (represented_pairs bt rows s ps) b.item b.items ds
        (ap (option_map {U = List ℕ × Data} (λ d. (k, d))) here ∙ x.made) (pairs_same s ps b.items b.rest all.1) b.all

    pub fields_same : (fs : List Field) (os : Optionals) (ds : List (Option Data)) → represented_fields at rows fs os ≡ Some ds → FlatFields ds → represented_fields bt rows fs os ≡ Some ds
    fields_same fs V.no_optionals ds e flat = e
    fields_same [] (V.absent os) ds e flat = absurd (none-some ds e)
    fields_same [] (V.present v os) ds e flat = absurd (none-some ds e)
    fields_same (f ∷ fs) (V.absent os) ds e flat =
        let b = map_from (λ xs. None ∷ xs) (represented_fields at rows fs os) ds e in
        let all : FlatFields (None ∷ b.item) = subst FlatFields (sym (same_Some (None ∷ b.item) ds b.made)) flat in
        ap (option_map (λ xs. None ∷ xs)) (fields_same fs os b.item b.there all.1) ∙ b.made
    fields_same (f ∷ fs) (V.present v os) ds e flat =
        let b = both_from (option_map Some (represented at rows f.slot v)) (represented_fields at rows fs os) ds e in
        let x = map_from Some (represented at rows f.slot v) b.item b.first in
        let same : Some x.item ≡ b.item = same_Some (Some x.item) b.item x.made in
        let all : FlatFields (b.item ∷ b.items) = subst FlatFields (sym b.all) flat in
        let here = flat_same f.slot v x.item x.there (subst (λ o. IfSome o IsFlat) (sym same) all.0) in
        both_into (option_map Some (represented bt rows f.slot v)) (represented_fields bt rows fs os) b.item b.items ds
        (ap (option_map Some) here ∙ x.made) (fields_same fs os b.items b.rest all.1) b.all

-- ---- whole values and fronts

whole_never : (h : List ℕ → List ℕ) → NeverFlat (whole h)
whole_never h p l t e flat = let x = map_from (root_map p) (option_and_then (λ es. trie h p es 0) (as_map l)) t e in is_flat (root_map p x.item) t x.made flat

map_never : (d t : Data) → a_map d ≡ Some t → IsFlat t → ⊥
map_never (T.map ms) t e flat = is_flat (T.map ms) t e flat
map_never d t e flat = none-some t e

alone_never : NeverFlat alone
alone_never p l t e flat = let x = then_from a_map (as_hamt l) t e in map_never x.item t x.made flat

pub flat_alone : (h : List ℕ → List ℕ) (rows : List Row) (s : Slot) (v : Value) (t : Data) → represented (whole h) rows s v ≡ Some t → IsFlat t → represented alone rows s v ≡ Some t
flat_alone h rows s v t e flat = flat_same (whole h) alone (whole_never h) rows s v t e flat

pub flat_whole : (h : List ℕ → List ℕ) (rows : List Row) (s : Slot) (v : Value) (t : Data) → represented alone rows s v ≡ Some t → IsFlat t → represented (whole h) rows s v ≡ Some t
flat_whole h rows s v t e flat = flat_same alone (whole h) alone_never rows s v t e flat

pub pairs_alone : (h : List ℕ → List ℕ) (rows : List Row) (s : Slot) (ps : Pairs) (ds : List (List ℕ × Data)) → represented_pairs (whole h) rows s ps ≡ Some ds → FlatPairs ds → represented_pairs alone rows s ps ≡ Some ds
pairs_alone h rows s ps ds e flat = pairs_same (whole h) alone (whole_never h) rows s ps ds e flat

pub fields_alone : (h : List ℕ → List ℕ) (rows : List Row) (fs : List Field) (os : Optionals) (ds : List (Option Data)) → represented_fields (whole h) rows fs os ≡ Some ds → FlatFields ds → represented_fields alone rows fs os ≡ Some ds
fields_alone h rows fs os ds e flat = fields_same (whole h) alone (whole_never h) rows fs os ds e flat
