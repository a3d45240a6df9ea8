-- The forms of types make data of the data of their parts, where acceptance holds and nothing of Judged stands against it.
use Rattle.std.proofs.Common.{◌≡◌, ℕ, List, [], ◌∷◌, ◌++◌, Bool, true, false, cond, ◌&&◌, Option, Some, None, option_map, refl, sym, ◌∙◌, ap, subst}
use Rattle.std.specs.Prelude.{IfSome, option_and_then, is_none, unwrap_or}
use Rattle.std.specs.List.{AllByRecursion}
use Rattle.std.proofs.lemmas.Option.{same_Some, none-some}
use Rattle.ild_data.proofs.AllOf.{all_append}
use Rattle.ild_data.specs.Data as T
use Rattle.ild_data.specs.Data.{Data}
use Rattle.ild_data.specs.Key.{put, value_at}
use Rattle.ild_data.proofs.Lists.{members_list-members_of}
use Rattle.ild_schema.specs.declared.number.Slot.{Slot}
use Rattle.ild_schema.specs.declared.def.TypeDef.TheVariants as D
use Rattle.ild_schema.specs.declared.def.MapForm.{MapForm}
use Rattle.ild_schema.specs.declared.def.MapForm.TheVariants as MF
use Rattle.ild_schema.specs.declared.def.StructForm.{StructForm}
use Rattle.ild_schema.specs.declared.def.StructForm.TheVariants as S
use Rattle.ild_schema.specs.declared.def.UnionForm.{UnionForm}
use Rattle.ild_schema.specs.declared.def.UnionForm.TheVariants as UF
use Rattle.ild_schema.specs.declared.def.EnumForm.{EnumForm}
use Rattle.ild_schema.specs.declared.def.EnumForm.TheVariants as E
use Rattle.ild_schema.specs.declared.def.KindWord.{KindWord}
use Rattle.ild_schema.specs.declared.def.KindWord.TheVariants as K
use Rattle.ild_schema.specs.declared.def.Field.{Field}
use Rattle.ild_schema.specs.declared.def.Member.{Member}
use Rattle.ild_schema.specs.declared.def.EnumMember.{EnumMember}
use Rattle.ild_schema.specs.declared.row.Row.{Row}
use Rattle.ild_data.specs.declared.hamt_shape.HamtShape.{HamtShape}
use Rattle.ild_typed.specs.Layer as L
use Rattle.ild_typed.specs.Layer.{Layer, as_struct}
use Rattle.ild_schema.specs.Slots.{plainly}
use Rattle.ild_typed.specs.Texts.{join, join_pairs}
use Rattle.ild_typed.specs.Fields.{is_implicit, entries_of, field_entries, are_absent, tuple_items, all_items}
use Rattle.ild_schema.specs.Marks.{field_text, mark_text, mark_kind}
use Rattle.ild_typed.specs.Strings.{text_in, bytes_in, members_in, texts_in, text_pairs, cons_both, in_key_order, map_data, listpairs, stringpairs, stringjoin}
use Rattle.ild_typed.specs.Kinds.{kind_word_of}
use Rattle.ild_schema.specs.DataKinds.{kind_in, same_kind, slot_has}
use Rattle.ild_data.specs.Hex.{bytes_of_hex}
use Rattle.ild_data.specs.Decimal.{decimal_of}
use Rattle.ild_typed.specs.Composed.{map_form, struct_form, inlined, marked_form, member_form, enum_form, composed}
use Rattle.ild_typed.specs.Hamt.{root_map, whole}
use Rattle.ild_data.specs.Trie.{trie}
use Rattle.ild_typed.specs.Represented.{represented}
use Rattle.ild_typed.specs.Judged.{is_refused, struct_breaks, map_breaks, map_exhausts}
use Rattle.ild_schema.specs.Made.{IsTextSlot, IsInlined, MadeMember, MadeEnum}
use Rattle.ild_schema.specs.Value.{Value}
use Rattle.ild_typed.proofs.Basics.{then_from, map_from, if_from}
use Rattle.ild_typed.proofs.Entries.{value_sorted}
use Rattle.ild_typed.proofs.OfKinds.{composed_kind}
use Rattle.ild_typed.proofs.OneValue.{Way, as_null, as_layer, way_of}
use Rattle.ild_typed.proofs.Structs.{not_there}
use Rattle.ild_typed.proofs.Wholes.{whole_exact}

-- what is there
pub record There {A : Type 0} (o : Option A) : Type 0 where
  pub item : A
  pub is : o ≡ Some item

pub there_map : {A B : Type 0} (f : A → B) (o : Option A) → There o → There (option_map f o)
there_map f o x = record { item = f x.item; is = ap (option_map f) x.is }

pub there_then : {A B : Type 0} (f : A → Option B) (o : Option A) (x : There o) → There (f x.item) → There (option_and_then f o)
there_then f o x y = record { item = y.item; is = ap (option_and_then f) x.is ∙ y.is }

pub there_both : {A : Type 0} (o : Option A) (os : Option (List A)) → There o → There os → There (cons_both o os)
there_both o os x y = record { item = x.item ∷ y.item; is = ap (λ p. cons_both p os) x.is ∙ ap (cons_both (Some x.item)) y.is }

there_if : {A : Type 0} (b : Bool) (o : Option A) → b ≡ true → There o → There (cond b o None)
there_if b o e x = record { item = x.item; is = ap (λ c. cond c o None) e ∙ x.is }

pub not_none : {A : Type 0} (o : Option A) → is_none o ≡ false → There o
not_none None e = absurd cc
not_none (Some a) e = record { item = a; is = refl }

not_refused : {A : Type 0} (f : A → Option (List ℕ)) (o : Option A) (a : A) → o ≡ Some a → is_refused f o ≡ false → There (f a)
not_refused f o a is e = not_none (f a) (sym (ap (is_refused f) is) ∙ e)

-- ---- the kinds of data

whole_kind : (h : List ℕ → List ℕ) (p : HamtShape) (l : Layer Data) (t : Data) → whole h p l ≡ Some t → kind_word_of t ≡ K.Map
whole_kind h = (whole_exact h (λ n. ⊥) (λ n m a b e. absurd a)).kind

module _ (h : List ℕ → List ℕ) (rows : List Row) where
  pub kind_there : (s : Slot) (v : Value) (t : Data) → s.nullable ≡ false → represented (whole h) rows s v ≡ Some t → slot_has rows s (kind_word_of t) ≡ true
  kind_there s v t plain e = by (way_of (whole h) rows s v t e) where
    by : Way (whole h) rows s v t → slot_has rows s (kind_word_of t) ≡ true
    by (as_null v_null nullable is_null) = let k : false ≡ true = sym plain ∙ nullable in absurd cc
    by (as_layer d l is there made) = ap (λ o. kind_in o (kind_word_of t)) is ∙ composed_kind (whole h) (whole_kind h) d l t made

pub record TextData (d : Data) : Type 0 where
  pub text : List ℕ
  pub is : text_in d ≡ Some text

text_of_kind : (d : Data) → kind_word_of d ≡ K.Text → TextData d
text_of_kind (T.text s) e = record { text = s; is = refl }
text_of_kind T.null e = absurd cc
text_of_kind (T.boolean b) e = absurd cc
text_of_kind (T.integer n) e = absurd cc
text_of_kind (T.bytes s) e = absurd cc
text_of_kind (T.list ds) e = absurd cc
text_of_kind (T.map ms) e = absurd cc
text_of_kind (T.link s) e = absurd cc

bytes_of_kind : (d : Data) → kind_word_of d ≡ K.Bytes → There (bytes_in d)
bytes_of_kind (T.bytes s) e = record { item = s; is = refl }
bytes_of_kind T.null e = absurd cc
bytes_of_kind (T.boolean b) e = absurd cc
bytes_of_kind (T.integer n) e = absurd cc
bytes_of_kind (T.text s) e = absurd cc
bytes_of_kind (T.list ds) e = absurd cc
bytes_of_kind (T.map ms) e = absurd cc
bytes_of_kind (T.link s) e = absurd cc

pub itself : (k : KindWord) → same_kind k k ≡ true
itself K.Null = refl
itself K.Bool = refl
itself K.Int = refl
itself K.Text = refl
itself K.Bytes = refl
itself K.List = refl
itself K.Map = refl
itself K.Link = refl

pub text_slot : (h : List ℕ → List ℕ) (rows : List Row) (s : Slot) (v : Value) (t : Data) → IsTextSlot rows s → represented (whole h) rows s v ≡ Some t → TextData t
text_slot h rows s v t text e = text_of_kind t (text.only (kind_word_of t) (kind_there h rows s v t text.plain e))

-- ---- texts in texts

texts_there : (ds : List Data) → AllByRecursion TextData ds → There (texts_in ds)
texts_there [] all = record { item = []; is = refl }
texts_there (d ∷ ds) all = there_both (text_in d) (texts_in ds) (record { item = all.0.text; is = all.0.is }) (texts_there ds all.1)

text_pairs_there : (ps : List (List ℕ × Data)) → AllByRecursion (λ p. TextData p.1) ps → There (text_pairs ps)
text_pairs_there [] all = record { item = []; is = refl }
text_pairs_there (p ∷ ps) all =
    there_both (option_map {U = List ℕ × List ℕ} (λ s. (p.0, s)) (text_in p.1)) (text_pairs ps)
    (there_map {B = List ℕ × List ℕ} (λ s. (p.0, s)) (text_in p.1) (record { item = all.0.text; is = all.0.is })) (text_pairs_there ps all.1)

stringpairs_there : (inner entry : List ℕ) (ps : List (List ℕ × Data)) (o : Option (List (List ℕ × Data))) → o ≡ Some ps → AllByRecursion (λ p. TextData p.1) ps
    → is_refused (join_pairs inner entry) (option_and_then text_pairs o) ≡ false → There (stringpairs inner entry ps)
stringpairs_there inner entry ps o is all e =
    let x = text_pairs_there ps all in
    there_map T.text (option_and_then (join_pairs inner entry) (text_pairs ps))
    (there_then (join_pairs inner entry) (text_pairs ps) x (not_refused (join_pairs inner entry) (option_and_then text_pairs o) x.item (ap (option_and_then text_pairs) is ∙ x.is) e))

stringjoin_there : (delim : List ℕ) (ds : List Data) (o : Option (List Data)) → o ≡ Some ds → AllByRecursion TextData ds → is_refused (join delim) (option_and_then texts_in o) ≡ false → There (stringjoin delim ds)
stringjoin_there delim ds o is all e =
    let x = texts_there ds all in
    there_map T.text (option_and_then (join delim) (texts_in ds))
    (there_then (join delim) (texts_in ds) x (not_refused (join delim) (option_and_then texts_in o) x.item (ap (option_and_then texts_in) is ∙ x.is) e))

-- ---- fields

-- each field has a value or may be left out
abbrev pub Suits : List Field → List (Option Data) → Type 0
Suits [] [] = Unit {0}
Suits [] (o ∷ os) = ⊥
Suits (f ∷ fs) [] = ⊥
Suits (f ∷ fs) (Some d ∷ os) = Suits fs os
Suits (f ∷ fs) (None ∷ os) = (f.optional ≡ true) × Suits fs os

entries_there : (fs : List Field) (os : List (Option Data)) → Suits fs os → There (field_entries fs os)
entries_there [] [] s = record { item = []; is = refl }
entries_there [] (o ∷ os) s = absurd s
entries_there (f ∷ fs) [] s = absurd s
entries_there (f ∷ fs) (Some d ∷ os) s = there_map (λ es. entries_of f d ++ es) (field_entries fs os) (entries_there fs os s)
entries_there (f ∷ fs) (None ∷ os) s = there_if f.optional (field_entries fs os) s.0 (entries_there fs os s.1)

items_there : (fs : List Field) (os : List (Option Data)) → Suits fs os → AllByRecursion (λ f. f.optional ≡ false) fs → There (all_items fs os)
items_there [] [] s never = record { item = []; is = refl }
items_there [] (o ∷ os) s never = absurd s
items_there (f ∷ fs) [] s never = absurd s
items_there (f ∷ fs) (Some d ∷ os) s never = there_map (λ ds. d ∷ ds) (all_items fs os) (items_there fs os s never.1)
items_there (f ∷ fs) (None ∷ os) s never = let k : false ≡ true = sym never.0 ∙ s.0 in absurd cc

-- absent fields of a tuple are last ones
abbrev pub none_there : List (Option Data) → Bool
none_there [] = true
none_there (Some d ∷ os) = false
none_there (None ∷ os) = none_there os

abbrev pub no_gap : List (Option Data) → Bool
no_gap [] = true
no_gap (Some d ∷ os) = no_gap os
no_gap (None ∷ os) = none_there os

absent_there : (fs : List Field) (os : List (Option Data)) → Suits fs os → none_there os ≡ true → are_absent fs os ≡ true
absent_there [] [] s e = refl
absent_there [] (o ∷ os) s e = absurd s
absent_there (f ∷ fs) [] s e = absurd s
absent_there (f ∷ fs) (Some d ∷ os) s e = absurd cc
absent_there (f ∷ fs) (None ∷ os) s e = ap (λ b. b && are_absent fs os) s.0 ∙ absent_there fs os s.1 e

tuple_there : (fs : List Field) (os : List (Option Data)) → Suits fs os → no_gap os ≡ true → There (tuple_items fs os)
tuple_there [] [] s e = record { item = []; is = refl }
tuple_there [] (o ∷ os) s e = absurd s
tuple_there (f ∷ fs) [] s e = absurd s
tuple_there (f ∷ fs) (Some d ∷ os) s e = there_map (λ ds. d ∷ ds) (tuple_items fs os) (tuple_there fs os s e)
tuple_there (f ∷ fs) (None ∷ os) s e = there_if (are_absent (f ∷ fs) (None ∷ os)) (Some []) (absent_there (f ∷ fs) (None ∷ os) s e) (record { item = []; is = refl })

entry_texts : (f : Field) (d : Data) (b : Bool) → TextData d → AllByRecursion (λ (p : List ℕ × Data). TextData p.1) (cond b [] ((field_text f, d) ∷ []))
entry_texts f d true x = tt
entry_texts f d false x = (x, tt)

entries_texts : (fs : List Field) (os : List (Option Data)) (es : List (List ℕ × Data)) → AllByRecursion (λ o. IfSome o TextData) os → field_entries fs os ≡ Some es → AllByRecursion (λ p. TextData p.1) es
entries_texts [] [] es all e = subst (AllByRecursion (λ (p : List ℕ × Data). TextData p.1)) (same_Some [] es e) tt
entries_texts [] (o ∷ os) es all e = absurd (none-some es e)
entries_texts (f ∷ fs) [] es all e = absurd (none-some es e)
entries_texts (f ∷ fs) (Some d ∷ os) es all e =
    let x = map_from (λ r. entries_of f d ++ r) (field_entries fs os) es e in
    subst (AllByRecursion (λ (p : List ℕ × Data). TextData p.1)) (same_Some (entries_of f d ++ x.item) es x.made)
    (all_append (λ (p : List ℕ × Data). TextData p.1) (entries_of f d) x.item (entry_texts f d (is_implicit f.implicit d) all.0) (entries_texts fs os x.item all.1 x.there))
entries_texts (f ∷ fs) (None ∷ os) es all e = entries_texts fs os es all.1 (if_from f.optional (field_entries fs os) es e).1

items_texts : (fs : List Field) (os : List (Option Data)) (ds : List Data) → AllByRecursion (λ o. IfSome o TextData) os → all_items fs os ≡ Some ds → AllByRecursion TextData ds
items_texts [] [] ds all e = subst (AllByRecursion TextData) (same_Some [] ds e) tt
items_texts [] (o ∷ os) ds all e = absurd (none-some ds e)
items_texts (f ∷ fs) [] ds all e = absurd (none-some ds e)
items_texts (f ∷ fs) (Some d ∷ os) ds all e =
    let x = map_from (λ r. d ∷ r) (all_items fs os) ds e in
    subst (AllByRecursion TextData) (same_Some (d ∷ x.item) ds x.made) (all.0, items_texts fs os x.item all.1 x.there)
items_texts (f ∷ fs) (None ∷ os) ds all e = absurd (none-some ds e)

-- what a struct's form asks of the data of its fields
abbrev pub FormReady : StructForm → List Field → List (Option Data) → Type 0
FormReady S.Tuple fs os = no_gap os ≡ true
FormReady (S.StringPairs inner entry) fs os = AllByRecursion (λ o. IfSome o TextData) os
FormReady (S.StringJoin delim) fs os = AllByRecursion (λ o. IfSome o TextData) os × AllByRecursion (λ f. f.optional ≡ false) fs
FormReady form fs os = Unit {0}

pub struct_there : (form : StructForm) (fs : List Field) (os : List (Option Data)) → Suits fs os → FormReady form fs os → struct_breaks form fs (Some os) ≡ false → There (struct_form form fs os)
struct_there S.Map fs os s ready e = there_map (λ es. map_data (in_key_order es)) (field_entries fs os) (entries_there fs os s)
struct_there S.Tuple fs os s ready e = there_map (λ ds. T.list (T.items_of ds)) (tuple_items fs os) (tuple_there fs os s ready)
struct_there S.ListPairs fs os s ready e = there_map listpairs (field_entries fs os) (entries_there fs os s)
struct_there (S.StringPairs inner entry) fs os s ready e =
    let x = entries_there fs os s in
    there_then (stringpairs inner entry) (field_entries fs os) x (stringpairs_there inner entry x.item (field_entries fs os) x.is (entries_texts fs os x.item ready x.is) e)
struct_there (S.StringJoin delim) fs os s ready e =
    let x = items_there fs os s ready.1 in
    there_then (stringjoin delim) (all_items fs os) x (stringjoin_there delim x.item (all_items fs os) x.is (items_texts fs os x.item ready.0 x.is) e)

-- ---- maps

abbrev pub PairsReady : MapForm → List (List ℕ × Data) → Type 0
PairsReady (MF.StringPairs inner entry) ps = AllByRecursion (λ p. TextData p.1) ps
PairsReady form ps = Unit {0}

pub map_there : (h : List ℕ → List ℕ) (form : MapForm) (ps : List (List ℕ × Data)) → PairsReady form ps → map_breaks form (Some ps) ≡ false → map_exhausts h form (Some ps) ≡ false → There (map_form (whole h) form (L.map ps))
map_there h MF.Map ps ready e k = record { item = map_data ps; is = refl }
map_there h MF.ListPairs ps ready e k = record { item = listpairs ps; is = refl }
map_there h (MF.StringPairs inner entry) ps ready e k = stringpairs_there inner entry ps (Some ps) refl ready e
map_there h (MF.Hamt p) ps ready e k = there_map (root_map p) (trie h p ps 0) (not_none (trie h p ps 0) k)

-- ---- unions

inline_there : (h : List ℕ → List ℕ) (rows : List Row) (key name : List ℕ) (m : Member) (v : Value) (t : Data) → IsInlined rows key m → represented (whole h) rows (plainly m.ty) v ≡ Some t → There (option_and_then (inlined key name) (members_in t))
inline_there h rows key name m v t inline e = by (way_of (whole h) rows (plainly m.ty) v t e) where
  from_entries : (es : List (List ℕ × Data)) → value_at key es ≡ None → map_data (in_key_order es) ≡ t → There (option_and_then (inlined key name) (members_in t))
  from_entries es none is =
      let back : members_in t ≡ Some (in_key_order es) = ap members_in (sym is) ∙ ap Some (members_list-members_of (in_key_order es)) in
      let absent : value_at key (in_key_order es) ≡ None = value_sorted key es ∙ none in
      record {
        item = map_data (put key (T.text name) (in_key_order es));
        is = ap (option_and_then (inlined key name)) back ∙ ap (λ o. cond (is_none o) (Some (map_data (put key (T.text name) (in_key_order es)))) None) absent;
      }

  by : Way (whole h) rows (plainly m.ty) v t → There (option_and_then (inlined key name) (members_in t))
  by (as_null v_null nullable is_null) = let k : false ≡ true = nullable in absurd cc
  by (as_layer d l is there made) =
      let same : d ≡ D.Struct inline.struct = same_Some d (D.Struct inline.struct) (sym is ∙ inline.known) in
      let own : composed (whole h) (D.Struct inline.struct) l ≡ Some t = ap (λ c. composed (whole h) c l) (sym same) ∙ made in
      let x = then_from (struct_form inline.struct.form inline.struct.fields) (as_struct l) t own in
      let mapped : struct_form S.Map inline.struct.fields x.item ≡ Some t = ap (λ f. struct_form f inline.struct.fields x.item) (sym inline.form) ∙ x.made in
      let y = map_from (λ es. map_data (in_key_order es)) (field_entries inline.struct.fields x.item) t mapped in
      from_entries y.item (not_there key inline.struct.fields x.item y.item inline.apart y.there) (same_Some (map_data (in_key_order y.item)) t y.made)

text_marked : (form : UnionForm) (d : Data) (m : Member) (s : List ℕ) → mark_text m.mark ≡ Some s → There (marked_form form d s) → There (option_and_then (marked_form form d) (mark_text m.mark))
text_marked form d m s e x = there_then (marked_form form d) (mark_text m.mark) (record { item = s; is = e }) x

pub member_there : (h : List ℕ → List ℕ) (rows : List Row) (form : UnionForm) (m : Member) (v : Value) (t : Data) → MadeMember rows form m → represented (whole h) rows (plainly m.ty) v ≡ Some t → There (member_form form t m)
member_there h rows UF.Keyed m v t made e = text_marked UF.Keyed t m made.0 made.1 (record { item = map_data ((made.0, t) ∷ []); is = refl })
member_there h rows UF.Kinded m v t made e =
    let k : kind_word_of t ≡ made.0 = made.2 (kind_word_of t) (kind_there h rows (plainly m.ty) v t refl e) in
    there_then (λ l. cond (same_kind l (kind_word_of t)) (Some t) None) (mark_kind m.mark) (record { item = made.0; is = made.1 })
    (there_if (same_kind made.0 (kind_word_of t)) (Some t) (ap (same_kind made.0) k ∙ itself made.0) (record { item = t; is = refl }))
member_there h rows UF.StringPrefix m v t made e =
    let x = text_of_kind t (made.1 (kind_word_of t) (kind_there h rows (plainly m.ty) v t refl e)) in
    text_marked UF.StringPrefix t m made.0.0 made.0.1 (there_map (λ s. T.text (made.0.0 ++ s)) (text_in t) (record { item = x.text; is = x.is }))
member_there h rows UF.BytesPrefix m v t made e =
    let x = bytes_of_kind t (made.2 (kind_word_of t) (kind_there h rows (plainly m.ty) v t refl e)) in
    let y = then_from bytes_of_hex (mark_text m.mark) made.0 made.1 in
    text_marked UF.BytesPrefix t m y.item y.there
    (there_then (λ front. option_map (λ s. T.bytes (front ++ s)) (bytes_in t)) (bytes_of_hex y.item) (record { item = made.0; is = y.made }) (there_map (λ s. T.bytes (made.0 ++ s)) (bytes_in t) x))
member_there h rows (UF.Envelope key content) m v t made e =
    text_marked (UF.Envelope key content) t m made.0 made.1 (record { item = map_data (put key (T.text made.0) ((content, t) ∷ [])); is = refl })
member_there h rows (UF.Inline key) m v t made e = text_marked (UF.Inline key) t m made.0.0 made.0.1 (inline_there h rows key made.0.0 m v t made.1 e)

pub enum_there : (form : EnumForm) (m : EnumMember) → MadeEnum form m → There (enum_form form m)
enum_there E.Text m made = record { item = T.text (unwrap_or m.text m.name); is = refl }
enum_there E.Int m made = there_map T.integer (option_and_then decimal_of m.text) (record { item = made.0; is = made.1 })
