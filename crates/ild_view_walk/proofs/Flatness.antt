-- The parts of data that hold none are such data too: texts, and scalars that are left out.
use Rattle.std.proofs.Common.{◌≡◌, ℕ, ◌+◌, ◌≤◌, List, [], ◌∷◌, ◌++◌, Bool, true, false, cond, Option, Some, None, option_map, refl, sym, ◌∙◌, ap, subst, arith}
use Rattle.std.specs.Prelude.{IfSome, slice_get, option_and_then, is_none}
use Rattle.std.specs.Option.{option_map_or}
use Rattle.std.specs.List.{AllByRecursion}
use Rattle.std.proofs.lemmas.Option.{same_Some, none-some}
use Rattle.ild_data.proofs.AllOf.{all_second}
use Rattle.ild_data.specs.Data as T
use Rattle.ild_data.specs.Data.{Data, depth, items_depth, members_depth}
use Rattle.ild_data.specs.Key.{put, value_at}
use Rattle.ild_schema.specs.declared.number.Slot.{Slot}
use Rattle.ild_schema.specs.declared.number.TypeNo.{TypeNo}
use Rattle.ild_schema.specs.declared.def.TypeDef.{TypeDef}
use Rattle.ild_schema.specs.declared.def.TypeDef.TheVariants as D
use Rattle.ild_schema.specs.declared.def.MapForm.{MapForm}
use Rattle.ild_schema.specs.declared.def.MapForm.TheVariants as MF
use Rattle.ild_schema.specs.declared.def.StructForm.{StructForm}
use Rattle.ild_schema.specs.declared.def.StructForm.TheVariants as S
use Rattle.ild_schema.specs.declared.def.UnionForm.{UnionForm}
use Rattle.ild_schema.specs.declared.def.UnionForm.TheVariants as UF
use Rattle.ild_schema.specs.declared.def.Field.{Field}
use Rattle.ild_schema.specs.declared.def.Member.{Member}
use Rattle.ild_schema.specs.declared.def.Scalar.{Scalar}
use Rattle.ild_schema.specs.declared.def.Scalar.TheVariants as C
use Rattle.ild_schema.specs.declared.row.Row.{Row}
use Rattle.ild_schema.specs.Clear.{AreSafe, IsSafe}
use Rattle.ild_schema.specs.DataKinds.{same_kind}
use Rattle.ild_data.specs.Hex.{bytes_of_hex}
use Rattle.ild_schema.specs.Marks.{mark_text, mark_kind}
use Rattle.ild_schema.specs.Slots.{plainly}
use Rattle.ild_typed.specs.Composed.{composed, map_form, struct_form, inlined, marked_form, member_form, union_form}
use Rattle.ild_typed.specs.Fields.{is_implicit, field_entries, tuple_items, all_items}
use Rattle.ild_typed.specs.Hamt.{alone}
use Rattle.ild_typed.specs.Kinds.{kind_word_of}
use Rattle.ild_typed.specs.Levels.{struct_levels}
use Rattle.ild_typed.specs.Layer as L
use Rattle.ild_typed.specs.Layer.{Layer, as_list, as_struct, as_union}
use Rattle.ild_typed.specs.Pieces.{needs}
use Rattle.ild_typed.specs.Refused.{AreParts}
use Rattle.ild_typed.specs.Slots.{slot_of}
use Rattle.ild_typed.specs.Spots.{Spot, value_spot, entry_spots, field_steps, field_spots, member_spots, spots_of}
use Rattle.ild_typed.specs.Strings.{text_in, bytes_in, members_in, texts_in, text_pairs, in_key_order, map_data, listpairs, stringpairs, stringjoin}
use Rattle.ild_typed.specs.Texts.{join, join_pairs}
use Rattle.ild_typed.proofs.Basics.{then_from, map_from, true_from}
use Rattle.ild_typed.proofs.Entries.{both_from, only_text_data, only_bytes_data}
use Rattle.ild_typed.proofs.OneValue.{plain_safe}
use Rattle.ild_typed.proofs.Onlies.{only_struct, only_union}
use Rattle.ild_typed.proofs.Structs.{scalar_data, scalar_same, written, field_from}

abbrev pub IsFlat : Data → Type 0
IsFlat d = depth d ≡ 0

-- ---- data that hold parts

list_holds : {A : Type 0} (ds : T.Items) (t : Data) → T.list ds ≡ t → IsFlat t → A
list_holds ds t e flat = let h : items_depth ds + 1 ≡ 0 = ap depth e ∙ flat in absurd (omega (arith, h))

map_holds : {A : Type 0} (ms : T.Members) (t : Data) → T.map ms ≡ t → IsFlat t → A
map_holds ms t e flat = let h : members_depth ms + 1 ≡ 0 = ap depth e ∙ flat in absurd (omega (arith, h))

-- ---- texts

text_flat : (d : Data) (s : List ℕ) → text_in d ≡ Some s → IsFlat d
text_flat d s e = ap depth (only_text_data d s e)

texts_flat : (ds : List Data) (ts : List (List ℕ)) → texts_in ds ≡ Some ts → AllByRecursion IsFlat ds
texts_flat [] ts e = tt
texts_flat (d ∷ ds) ts e = let b = both_from (text_in d) (texts_in ds) ts e in (text_flat d b.item b.first, texts_flat ds b.items b.rest)

abbrev EntryFlat : List ℕ × Data → Type 0
EntryFlat e = IsFlat e.1

pairs_flat : (es : List (List ℕ × Data)) (ts : List (List ℕ × List ℕ)) → text_pairs es ≡ Some ts → AllByRecursion EntryFlat es
pairs_flat [] ts e = tt
pairs_flat (p ∷ ps) ts e =
    let b = both_from (option_map {U = List ℕ × List ℕ} (λ s. (p.0, s)) (text_in p.1)) (text_pairs ps) ts e in
    let x = map_from {B = List ℕ × List ℕ} (λ s. (p.0, s)) (text_in p.1) b.item b.first in
    (text_flat p.1 x.item x.there, pairs_flat ps b.items b.rest)

stringpairs_flat : (inner entry : List ℕ) (es : List (List ℕ × Data)) (t : Data) → stringpairs inner entry es ≡ Some t → AllByRecursion EntryFlat es
stringpairs_flat inner entry es t e =
    let x = map_from T.text (option_and_then (join_pairs inner entry) (text_pairs es)) t e in
    let y = then_from (join_pairs inner entry) (text_pairs es) x.item x.there in
    pairs_flat es y.item y.there

stringjoin_flat : (delim : List ℕ) (ds : List Data) (t : Data) → stringjoin delim ds ≡ Some t → AllByRecursion IsFlat ds
stringjoin_flat delim ds t e =
    let x = map_from T.text (option_and_then (join delim) (texts_in ds)) t e in
    let y = then_from (join delim) (texts_in ds) x.item x.there in
    texts_flat ds y.item y.there

-- ---- fields

abbrev MaybeFlat : Option Data → Type 0
MaybeFlat o = IfSome o IsFlat

implicit_flat : (o : Option Scalar) (d : Data) → is_implicit o d ≡ true → IsFlat d
implicit_flat None d e = absurd cc
implicit_flat (Some s) d e = ap depth (scalar_same s d e) ∙ by s where
  by : (s : Scalar) → IsFlat (scalar_data s)
  by (C.Bool b) = refl
  by (C.Int n) = refl
  by (C.Text x) = refl

fields_flat : (fs : List Field) (os : List (Option Data)) (es : List (List ℕ × Data)) → field_entries fs os ≡ Some es → AllByRecursion EntryFlat es → AllByRecursion MaybeFlat os
fields_flat fs [] es e all = tt
fields_flat [] (o ∷ os) es e all = absurd (none-some es e)
fields_flat (f ∷ fs) (o ∷ os) es e all =
    let x = field_from f fs o os es e in
    let parted : AllByRecursion EntryFlat (written f o ++ x.rest) = subst (AllByRecursion EntryFlat) x.is all in
    (own o x.rest parted, fields_flat fs os x.rest x.later (all_second EntryFlat (written f o) x.rest parted))
  where
    by : (d : Data) (rest : List (List ℕ × Data)) (name : List ℕ) (b : Bool) → is_implicit f.implicit d ≡ b → AllByRecursion EntryFlat (cond b [] ((name, d) ∷ []) ++ rest) → IsFlat d
    by d rest name true is h = implicit_flat f.implicit d is
    by d rest name false is h = h.0

    own : (o : Option Data) (rest : List (List ℕ × Data)) → AllByRecursion EntryFlat (written f o ++ rest) → MaybeFlat o
    own None rest h = tt
    own (Some d) rest h = by d rest _ (is_implicit f.implicit d) refl h

joined_flat : (fs : List Field) (os : List (Option Data)) (ds : List Data) → all_items fs os ≡ Some ds → AllByRecursion IsFlat ds → AllByRecursion MaybeFlat os
joined_flat fs [] ds e all = tt
joined_flat [] (o ∷ os) ds e all = absurd (none-some ds e)
joined_flat (f ∷ fs) (Some d ∷ os) ds e all =
    let x = map_from (λ r. d ∷ r) (all_items fs os) ds e in
    let own : AllByRecursion IsFlat (d ∷ x.item) = subst (AllByRecursion IsFlat) (sym (same_Some (d ∷ x.item) ds x.made)) all in
    (own.0, joined_flat fs os x.item x.there own.1)
joined_flat (f ∷ fs) (None ∷ os) ds e all = absurd (none-some ds e)

struct_flat : (form : StructForm) (fs : List Field) (os : List (Option Data)) (t : Data) → struct_form form fs os ≡ Some t → IsFlat t → AllByRecursion MaybeFlat os
struct_flat S.Map fs os t e flat =
    let x = map_from (λ es. map_data (in_key_order es)) (field_entries fs os) t e in map_holds (T.members_of (in_key_order x.item)) t (same_Some (map_data (in_key_order x.item)) t x.made) flat
struct_flat S.Tuple fs os t e flat =
    let x = map_from (λ ds. T.list (T.items_of ds)) (tuple_items fs os) t e in list_holds (T.items_of x.item) t (same_Some (T.list (T.items_of x.item)) t x.made) flat
struct_flat S.ListPairs fs os t e flat =
    let x = map_from listpairs (field_entries fs os) t e in list_holds _ t (same_Some (listpairs x.item) t x.made) flat
struct_flat (S.StringPairs inner entry) fs os t e flat =
    let x = then_from (stringpairs inner entry) (field_entries fs os) t e in fields_flat fs os x.item x.there (stringpairs_flat inner entry x.item t x.made)
struct_flat (S.StringJoin delim) fs os t e flat =
    let x = then_from (stringjoin delim) (all_items fs os) t e in joined_flat fs os x.item x.there (stringjoin_flat delim x.item t x.made)

-- ---- members

marked_flat : (form : UnionForm) (d t : Data) (name : List ℕ) → marked_form form d name ≡ Some t → IsFlat t → IsFlat d
marked_flat UF.Keyed d t name e flat = map_holds _ t (same_Some (map_data ((name, d) ∷ [])) t e) flat
marked_flat UF.Kinded d t name e flat = absurd (none-some t e)
marked_flat UF.StringPrefix d t name e flat = let y = map_from (λ s. T.text (name ++ s)) (text_in d) t e in text_flat d y.item y.there
marked_flat UF.BytesPrefix d t name e flat =
    let y = then_from (λ front. option_map (λ s. T.bytes (front ++ s)) (bytes_in d)) (bytes_of_hex name) t e in
    let z = map_from (λ s. T.bytes (y.item ++ s)) (bytes_in d) t y.made in
    ap depth (only_bytes_data d z.item z.there)
marked_flat (UF.Envelope key content) d t name e flat =
    let es : List (List ℕ × Data) = put key (T.text name) ((content, d) ∷ []) in map_holds (T.members_of es) t (same_Some (map_data es) t e) flat
marked_flat (UF.Inline key) d t name e flat =
    let y = then_from (inlined key name) (members_in d) t e in
    let z = true_from (is_none (value_at key y.item)) (map_data (put key (T.text name) y.item)) t y.made in
    map_holds (T.members_of (put key (T.text name) y.item)) t z.1 flat

marked : (form : UnionForm) (d t : Data) (m : Member) → option_and_then (marked_form form d) (mark_text m.mark) ≡ Some t → IsFlat t → IsFlat d
marked form d t m e flat = let y = then_from (marked_form form d) (mark_text m.mark) t e in marked_flat form d t y.item y.made flat

member_flat : (form : UnionForm) (d t : Data) (m : Member) → member_form form d m ≡ Some t → IsFlat t → IsFlat d
member_flat UF.Kinded d t m e flat =
    let y = then_from (λ k. cond (same_kind k (kind_word_of d)) (Some d) None) (mark_kind m.mark) t e in
    ap depth (true_from (same_kind y.item (kind_word_of d)) d t y.made).1 ∙ flat
member_flat UF.Keyed d t m e flat = marked UF.Keyed d t m e flat
member_flat UF.StringPrefix d t m e flat = marked UF.StringPrefix d t m e flat
member_flat UF.BytesPrefix d t m e flat = marked UF.BytesPrefix d t m e flat
member_flat (UF.Envelope key content) d t m e flat = marked (UF.Envelope key content) d t m e flat
member_flat (UF.Inline key) d t m e flat = marked (UF.Inline key) d t m e flat

-- ---- the parts of a layer, which may be null only where no value is

module _ (rows : List Row) where
  abbrev pub IsFine : Spot → Type 0
  IsFine p = IsFlat p.tree × IsSafe rows p.slot

  abbrev AllFine : List Spot → Type 0
  AllFine ps = AllByRecursion IsFine ps

  entries_fine : (form : MapForm) (key : TypeNo) (s : Slot) (i : ℕ) (es : List (List ℕ × Data)) → IsSafe rows s → AllByRecursion EntryFlat es → AllFine (entry_spots form key s i es)
  entries_fine form key s i [] safe all = tt
  entries_fine form key s i (e ∷ es) safe all = ((refl, plain_safe rows (plainly key) refl), ((all.0, safe), entries_fine form key s (i + 1) es safe all.1))

  fields_fine : (form : StructForm) (n : ℕ) (fs : List Field) (os : List (Option Data)) → AllByRecursion (λ f. IsSafe rows f.slot) fs → AllByRecursion MaybeFlat os → AllFine (field_spots form n fs os)
  fields_fine form n [] os safe all = tt
  fields_fine form n (f ∷ fs) [] safe all = tt
  fields_fine form n (f ∷ fs) (None ∷ os) safe all = fields_fine form n fs os safe.1 all.1
  fields_fine form n (f ∷ fs) (Some d ∷ os) safe all = by (is_implicit f.implicit d) (λ m. fields_fine form m fs os safe.1 all.1) where
    by : (b : Bool) → ((m : ℕ) → AllFine (field_spots form m fs os))
        → AllFine (cond b (value_spot f.slot d [] ∷ field_spots form n fs os) (value_spot f.slot d (field_steps form f n) ∷ field_spots form (n + 1) fs os))
    by true rest = ((all.0, safe.0), rest n)
    by false rest = ((all.0, safe.0), rest (n + 1))

  map_fine : (key : TypeNo) (value : Slot) (i : ℕ) (form : MapForm) (es : List (List ℕ × Data)) (t : Data) → IsSafe rows value → map_form alone form (L.map es) ≡ Some t → IsFlat t
      → AllFine (entry_spots form key value i es)
  map_fine key value i MF.Map es t safe e flat = map_holds (T.members_of es) t (same_Some (map_data es) t e) flat
  map_fine key value i MF.ListPairs es t safe e flat = list_holds _ t (same_Some (listpairs es) t e) flat
  map_fine key value i (MF.StringPairs inner entry) es t safe e flat = entries_fine (MF.StringPairs inner entry) key value i es safe (stringpairs_flat inner entry es t e)
  map_fine key value i (MF.Hamt p) es t safe e flat = absurd (none-some t e)

  layer_fine : (d : TypeDef) (l : Layer Data) (t : Data) → AreSafe rows d → composed alone d l ≡ Some t → IsFlat t → AllFine (spots_of d l)
  layer_fine (D.List elem at) l t safe e flat =
      let x = map_from (λ ds. T.list (T.items_of ds)) (as_list l) t e in list_holds (T.items_of x.item) t (same_Some (T.list (T.items_of x.item)) t x.made) flat
  layer_fine (D.Struct st) l t safe e flat =
      let x = then_from (struct_form st.form st.fields) (as_struct l) t e in
      subst (λ k. AllFine (spots_of (D.Struct st) k)) (sym (only_struct l x.item x.there)) (fields_fine st.form 0 st.fields x.item safe (struct_flat st.form st.fields x.item t x.made flat))
  layer_fine (D.Union un) l t safe e flat =
      let x = then_from (union_form un.form un.members) (as_union l) t e in
      let y = then_from (member_form un.form x.item.1) (slice_get un.members x.item.0) t x.made in
      subst (λ k. AllFine (spots_of (D.Union un) k)) (sym (only_union l x.item x.there))
      (subst (λ o. AllFine (option_map_or (member_spots un.form x.item.1) o [])) (sym y.there) ((member_flat un.form x.item.1 t y.item y.made flat, plain_safe rows (slot_of y.item) refl), tt))
  layer_fine (D.Map key key_at value at form) l t safe e flat = by l e where
    by : (k : Layer Data) → map_form alone form k ≡ Some t → AllFine (spots_of (D.Map key key_at value at form) k)
    by (L.map es) h = map_fine key value 0 form es t safe h flat
    by k h = tt
  layer_fine d l t safe e flat = tt

  pub parts_fine : (d : TypeDef) (t : Data) (ps : List Spot) → AreSafe rows d → IsFlat t → AreParts d t ps → AllFine ps
  parts_fine (D.Map key key_at value at (MF.Hamt p)) t ps safe flat (slots, root, e) = map_holds _ t (sym root.tree) flat
  parts_fine (D.Map key key_at value at MF.Map) t ps safe flat (l, made, e) = subst AllFine (sym e) (layer_fine (D.Map key key_at value at MF.Map) l t safe made flat)
  parts_fine (D.Map key key_at value at MF.ListPairs) t ps safe flat (l, made, e) = subst AllFine (sym e) (layer_fine (D.Map key key_at value at MF.ListPairs) l t safe made flat)
  parts_fine (D.Map key key_at value at (MF.StringPairs inner entry)) t ps safe flat (l, made, e) =
      subst AllFine (sym e) (layer_fine (D.Map key key_at value at (MF.StringPairs inner entry)) l t safe made flat)
  parts_fine D.Bool t ps safe flat (l, made, e) = subst AllFine (sym e) tt
  parts_fine D.Text t ps safe flat (l, made, e) = subst AllFine (sym e) tt
  parts_fine D.Bytes t ps safe flat (l, made, e) = subst AllFine (sym e) tt
  parts_fine D.Int t ps safe flat (l, made, e) = subst AllFine (sym e) tt
  parts_fine D.Any t ps safe flat (l, made, e) = subst AllFine (sym e) tt
  parts_fine (D.Link target) t ps safe flat (l, made, e) = subst AllFine (sym e) tt
  parts_fine (D.Unit form) t ps safe flat (l, made, e) = subst AllFine (sym e) tt
  parts_fine (D.List elem at) t ps safe flat (l, made, e) = subst AllFine (sym e) (layer_fine (D.List elem at) l t safe made flat)
  parts_fine (D.Struct st) t ps safe flat (l, made, e) = subst AllFine (sym e) (layer_fine (D.Struct st) l t safe made flat)
  parts_fine (D.Union un) t ps safe flat (l, made, e) = subst AllFine (sym e) (layer_fine (D.Union un) l t safe made flat)
  parts_fine (D.Enum en) t ps safe flat (l, made, e) = subst AllFine (sym e) tt
  parts_fine (D.Copy target) t ps safe flat (l, made, e) = subst AllFine (sym e) tt

-- ---- no form takes more than five levels of such data

pub few_levels : (d : TypeDef) (t : Data) → IsFlat t → needs d t ≤ 5
few_levels D.Any t flat = omega (arith, flat)
few_levels D.Bool t flat = omega arith
few_levels D.Text t flat = omega arith
few_levels D.Bytes t flat = omega arith
few_levels D.Int t flat = omega arith
few_levels (D.Link target) t flat = omega arith
few_levels (D.Unit form) t flat = omega arith
few_levels (D.List elem at) t flat = omega arith
few_levels (D.Map key key_at value at MF.Map) t flat = omega arith
few_levels (D.Map key key_at value at MF.ListPairs) t flat = omega arith
few_levels (D.Map key key_at value at (MF.StringPairs inner entry)) t flat = omega arith
few_levels (D.Map key key_at value at (MF.Hamt p)) t flat = omega arith
few_levels (D.Struct st) t flat = by st.form where
  by : (form : StructForm) → struct_levels form ≤ 5
  by S.Map = omega arith
  by S.Tuple = omega arith
  by S.ListPairs = omega arith
  by (S.StringPairs inner entry) = omega arith
  by (S.StringJoin delim) = omega arith
few_levels (D.Union un) t flat = omega arith
few_levels (D.Enum en) t flat = omega arith
few_levels (D.Copy target) t flat = omega arith
