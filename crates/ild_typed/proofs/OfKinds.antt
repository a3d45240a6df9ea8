-- The data of a layer are of a kind of its type.
use Rattle.std.proofs.Common.{◌≡◌, ℕ, zero, suc, List, [], ◌∷◌, ◌++◌, Bool, true, false, cond, ◌||◌, not, Option, Some, None, option_map, refl, sym, ◌∙◌, ap}
use Rattle.std.specs.Prelude.{slice_get, option_and_then, is_none, unwrap_or}
use Rattle.std.specs.List.{list_any}
use Rattle.std.proofs.lemmas.Option.{same_Some, none-some}
use Rattle.ild_data.specs.Data as T
use Rattle.ild_data.specs.Data.{Data}
use Rattle.ild_data.specs.Key.{put, value_at}
use Rattle.ild_schema.specs.declared.def.TypeDef.{TypeDef}
use Rattle.ild_schema.specs.declared.def.TypeDef.TheVariants as D
use Rattle.ild_schema.specs.declared.def.UnitForm.{UnitForm}
use Rattle.ild_schema.specs.declared.def.UnitForm.TheVariants as U
use Rattle.ild_schema.specs.declared.def.MapForm.{MapForm}
use Rattle.ild_schema.specs.declared.def.MapForm.TheVariants as MF
use Rattle.ild_schema.specs.declared.def.StructForm.{StructForm}
use Rattle.ild_schema.specs.declared.def.StructForm.TheVariants as S
use Rattle.ild_schema.specs.declared.def.UnionForm.{UnionForm}
use Rattle.ild_schema.specs.declared.def.UnionForm.TheVariants as UF
use Rattle.ild_schema.specs.declared.def.EnumForm.{EnumForm}
use Rattle.ild_schema.specs.declared.def.EnumForm.TheVariants as E
use Rattle.ild_schema.specs.declared.def.KindWord.{KindWord}
use Rattle.ild_schema.specs.declared.def.KindWord.TheVariants as K
use Rattle.ild_schema.specs.declared.def.Field.{Field}
use Rattle.ild_schema.specs.declared.def.Member.{Member}
use Rattle.ild_schema.specs.declared.def.EnumMember.{EnumMember}
use Rattle.ild_data.specs.declared.hamt_shape.HamtShape.{HamtShape}
use Rattle.ild_typed.specs.Layer.{Layer, as_boolean, as_integer, as_text, as_bytes, as_link, as_any, as_unit, as_enum, as_list, as_map, as_struct, as_union, as_hamt}
use Rattle.ild_typed.specs.Texts.{join, join_pairs}
use Rattle.ild_typed.specs.Fields.{field_entries, tuple_items, all_items}
use Rattle.ild_typed.specs.Strings.{text_in, bytes_in, members_in, texts_in, text_pairs, map_data, listpairs, stringpairs, stringjoin, in_key_order}
use Rattle.ild_typed.specs.Kinds.{kind_word_of}
use Rattle.ild_schema.specs.DataKinds.{same_kind, has_kind, unit_kind, map_kind, struct_kind, enum_kind, is_marked, union_has}
use Rattle.ild_schema.specs.Marks.{mark_text, mark_kind}
use Rattle.ild_data.specs.Hex.{bytes_of_hex}
use Rattle.ild_data.specs.Decimal.{decimal_of}
use Rattle.ild_typed.specs.Composed.{Hamts, any_data, unit_data, map_form, struct_form, inlined, marked_form, member_form, union_form, enum_form, composed}
use Rattle.ild_typed.specs.Hamt.{a_map, alone}
use Rattle.ild_typed.proofs.Basics.{then_from, map_from, true_from}

-- one of the members passes
pub any_at : {A : Type 0} (p : A → Bool) (xs : List A) (i : ℕ) (x : A) → slice_get xs i ≡ Some x → p x ≡ true → list_any p xs ≡ true
any_at p [] i x e h = absurd (none-some x e)
any_at p (y ∷ ys) zero x e h = ap (λ b. b || list_any p ys) (ap p (same_Some y x e) ∙ h)
any_at p (y ∷ ys) (suc i) x e h = or_true (p y) (list_any p ys) (any_at p ys i x e h) where
  or_true : (a b : Bool) → b ≡ true → (a || b) ≡ true
  or_true true b e = refl
  or_true false b e = e

-- data made by a function of one kind
made : {A : Type 0} (f : A → Data) (o : Option A) (k : KindWord) (t : Data) → ((a : A) → kind_word_of (f a) ≡ k) → option_map f o ≡ Some t → kind_word_of t ≡ k
made f o k t kind e = let x = map_from f o t e in ap kind_word_of (sym (same_Some (f x.item) t x.made)) ∙ kind x.item

then_made : {A : Type 0} (f : A → Option Data) (o : Option A) (k : KindWord) (t : Data) → ((a : A) → f a ≡ Some t → kind_word_of t ≡ k) → option_and_then f o ≡ Some t → kind_word_of t ≡ k
then_made f o k t kind e = let x = then_from f o t e in kind x.item x.made

some_made : (d : Data) (k : KindWord) (t : Data) → kind_word_of d ≡ k → Some d ≡ Some t → kind_word_of t ≡ k
some_made d k t kind e = ap kind_word_of (sym (same_Some d t e)) ∙ kind

itself : (k : KindWord) → same_kind k k ≡ true
itself K.Null = refl
itself K.Bool = refl
itself K.Int = refl
itself K.Text = refl
itself K.Bytes = refl
itself K.List = refl
itself K.Map = refl
itself K.Link = refl

is_kind : (k : KindWord) (t : Data) → kind_word_of t ≡ k → same_kind k (kind_word_of t) ≡ true
is_kind k t e = ap (same_kind k) e ∙ itself k

any_kind : (d t : Data) → any_data d ≡ Some t → not (same_kind K.Null (kind_word_of t)) ≡ true
any_kind T.null t e = absurd (none-some t e)
any_kind (T.boolean b) t e = ap (λ c. not (same_kind K.Null (kind_word_of c))) (sym (same_Some (T.boolean b) t e))
any_kind (T.integer n) t e = ap (λ c. not (same_kind K.Null (kind_word_of c))) (sym (same_Some (T.integer n) t e))
any_kind (T.text s) t e = ap (λ c. not (same_kind K.Null (kind_word_of c))) (sym (same_Some (T.text s) t e))
any_kind (T.bytes s) t e = ap (λ c. not (same_kind K.Null (kind_word_of c))) (sym (same_Some (T.bytes s) t e))
any_kind (T.list ds) t e = ap (λ c. not (same_kind K.Null (kind_word_of c))) (sym (same_Some (T.list ds) t e))
any_kind (T.map ms) t e = ap (λ c. not (same_kind K.Null (kind_word_of c))) (sym (same_Some (T.map ms) t e))
any_kind (T.link s) t e = ap (λ c. not (same_kind K.Null (kind_word_of c))) (sym (same_Some (T.link s) t e))

stringpairs_kind : (inner entry : List ℕ) (ps : List (List ℕ × Data)) (t : Data) → stringpairs inner entry ps ≡ Some t → kind_word_of t ≡ K.Text
stringpairs_kind inner entry ps t e = made T.text (option_and_then (join_pairs inner entry) (text_pairs ps)) K.Text t (λ s. refl) e

unit_kinds : (form : UnitForm) → kind_word_of (unit_data form) ≡ unit_kind form
unit_kinds U.Null = refl
unit_kinds U.True = refl
unit_kinds U.False = refl
unit_kinds U.EmptyMap = refl

map_kinds : (at : Hamts) → ((p : HamtShape) (l : Layer Data) (t : Data) → at p l ≡ Some t → kind_word_of t ≡ K.Map) → (form : MapForm) (l : Layer Data) (t : Data) → map_form at form l ≡ Some t → kind_word_of t ≡ map_kind form
map_kinds at hamts MF.Map l t e = made map_data (as_map l) K.Map t (λ ps. refl) e
map_kinds at hamts MF.ListPairs l t e = made listpairs (as_map l) K.List t (λ ps. refl) e
map_kinds at hamts (MF.StringPairs inner entry) l t e = then_made (stringpairs inner entry) (as_map l) K.Text t (λ ps h. stringpairs_kind inner entry ps t h) e
map_kinds at hamts (MF.Hamt p) l t e = hamts p l t e

struct_kinds : (form : StructForm) (fs : List Field) (os : List (Option Data)) (t : Data) → struct_form form fs os ≡ Some t → kind_word_of t ≡ struct_kind form
struct_kinds S.Map fs os t e = made (λ es. map_data (in_key_order es)) (field_entries fs os) K.Map t (λ es. refl) e
struct_kinds S.Tuple fs os t e = made (λ ds. T.list (T.items_of ds)) (tuple_items fs os) K.List t (λ es. refl) e
struct_kinds S.ListPairs fs os t e = made listpairs (field_entries fs os) K.List t (λ es. refl) e
struct_kinds (S.StringPairs inner entry) fs os t e = then_made (stringpairs inner entry) (field_entries fs os) K.Text t (λ ps h. stringpairs_kind inner entry ps t h) e
struct_kinds (S.StringJoin delim) fs os t e =
    then_made (stringjoin delim) (all_items fs os) K.Text t (λ ds h. made T.text (option_and_then (join delim) (texts_in ds)) K.Text t (λ s. refl) h) e

inlined_kind : (key name : List ℕ) (ms : List (List ℕ × Data)) (t : Data) → inlined key name ms ≡ Some t → kind_word_of t ≡ K.Map
inlined_kind key name ms t e = ap kind_word_of (sym (true_from (is_none (value_at key ms)) (map_data (put key (T.text name) ms)) t e).1)

marked : (form : UnionForm) (k : KindWord) (p : ℕ × Data) (ms : List Member) (t : Data)
    → ((m : Member) → member_form form p.1 m ≡ Some t → kind_word_of t ≡ k) → union_form form ms p ≡ Some t → same_kind k (kind_word_of t) ≡ true
marked form k p ms t each e = is_kind k t (then_made (member_form form p.1) (slice_get ms p.0) k t each e)

kinded : (m : Member) (d t : Data) → member_form UF.Kinded d m ≡ Some t → is_marked (kind_word_of t) (mark_kind m.mark) ≡ true
kinded m d t e =
    let x = then_from (λ k. cond (same_kind k (kind_word_of d)) (Some d) None) (mark_kind m.mark) t e in
    let y = true_from (same_kind x.item (kind_word_of d)) d t x.made in
    ap (is_marked (kind_word_of t)) x.there ∙ ap (λ c. same_kind x.item (kind_word_of c)) (sym y.1) ∙ y.0

union_kinds : (form : UnionForm) (ms : List Member) (p : ℕ × Data) (t : Data) → union_form form ms p ≡ Some t → union_has form ms (kind_word_of t) ≡ true
union_kinds UF.Keyed ms p t e =
    marked UF.Keyed K.Map p ms t (λ m h. then_made (marked_form UF.Keyed p.1) (mark_text m.mark) K.Map t (λ name j. some_made (map_data ((name, p.1) ∷ [])) K.Map t refl j) h) e
union_kinds UF.Kinded ms p t e =
    let x = then_from (member_form UF.Kinded p.1) (slice_get ms p.0) t e in
    any_at (λ m. is_marked (kind_word_of t) (mark_kind m.mark)) ms p.0 x.item x.there (kinded x.item p.1 t x.made)
union_kinds UF.StringPrefix ms p t e =
    marked UF.StringPrefix K.Text p ms t
    (λ m h. then_made (marked_form UF.StringPrefix p.1) (mark_text m.mark) K.Text t (λ name j. made (λ s. T.text (name ++ s)) (text_in p.1) K.Text t (λ s. refl) j) h) e
union_kinds UF.BytesPrefix ms p t e =
    marked UF.BytesPrefix K.Bytes p ms t
    (λ m h. then_made (marked_form UF.BytesPrefix p.1) (mark_text m.mark) K.Bytes t
    (λ name j. then_made (λ front. option_map (λ s. T.bytes (front ++ s)) (bytes_in p.1)) (bytes_of_hex name) K.Bytes t (λ front u. made (λ s. T.bytes (front ++ s)) (bytes_in p.1) K.Bytes t (λ s. refl) u) j) h) e
union_kinds (UF.Envelope key content) ms p t e =
    marked (UF.Envelope key content) K.Map p ms t
    (λ m h. then_made (marked_form (UF.Envelope key content) p.1) (mark_text m.mark) K.Map t
    (λ name j. some_made (map_data (put key (T.text name) ((content, p.1) ∷ []))) K.Map t refl j) h) e
union_kinds (UF.Inline key) ms p t e =
    marked (UF.Inline key) K.Map p ms t
    (λ m h. then_made (marked_form (UF.Inline key) p.1) (mark_text m.mark) K.Map t (λ name j. then_made (inlined key name) (members_in p.1) K.Map t (λ ns u. inlined_kind key name ns t u) j) h) e

enum_kinds : (form : EnumForm) (m : EnumMember) (t : Data) → enum_form form m ≡ Some t → kind_word_of t ≡ enum_kind form
enum_kinds E.Text m t e = some_made (T.text (unwrap_or m.text m.name)) K.Text t refl e
enum_kinds E.Int m t e = made T.integer (option_and_then decimal_of m.text) K.Int t (λ n. refl) e

-- data of a layer are of a kind of the type
pub composed_kind : (at : Hamts) → ((p : HamtShape) (l : Layer Data) (t : Data) → at p l ≡ Some t → kind_word_of t ≡ K.Map) → (d : TypeDef) (l : Layer Data) (t : Data)
    → composed at d l ≡ Some t → has_kind d (kind_word_of t) ≡ true
composed_kind at hamts D.Bool l t e = is_kind K.Bool t (made T.boolean (as_boolean l) K.Bool t (λ b. refl) e)
composed_kind at hamts D.Text l t e = is_kind K.Text t (made T.text (as_text l) K.Text t (λ b. refl) e)
composed_kind at hamts D.Bytes l t e = is_kind K.Bytes t (made T.bytes (as_bytes l) K.Bytes t (λ b. refl) e)
composed_kind at hamts D.Int l t e = is_kind K.Int t (made T.integer (as_integer l) K.Int t (λ b. refl) e)
composed_kind at hamts D.Any l t e = let x = then_from any_data (as_any l) t e in any_kind x.item t x.made
composed_kind at hamts (D.Link target) l t e = is_kind K.Link t (made T.link (as_link l) K.Link t (λ b. refl) e)
composed_kind at hamts (D.Unit form) l t e = is_kind (unit_kind form) t (made (λ u. unit_data form) (as_unit l) (unit_kind form) t (λ u. unit_kinds form) e)
composed_kind at hamts (D.List elem place) l t e = is_kind K.List t (made (λ ds. T.list (T.items_of ds)) (as_list l) K.List t (λ b. refl) e)
composed_kind at hamts (D.Map key key_place value place form) l t e = is_kind (map_kind form) t (map_kinds at hamts form l t e)
composed_kind at hamts (D.Struct s) l t e =
    is_kind (struct_kind s.form) t (then_made (struct_form s.form s.fields) (as_struct l) (struct_kind s.form) t (λ os h. struct_kinds s.form s.fields os t h) e)
composed_kind at hamts (D.Union u) l t e = let x = then_from (union_form u.form u.members) (as_union l) t e in union_kinds u.form u.members x.item t x.made
composed_kind at hamts (D.Enum en) l t e =
    is_kind (enum_kind en.form) t (then_made (λ n. option_and_then (enum_form en.form) (slice_get en.members n)) (as_enum l) (enum_kind en.form) t
    (λ n h. then_made (enum_form en.form) (slice_get en.members n) (enum_kind en.form) t (λ m j. enum_kinds en.form m t j) h) e)
composed_kind at hamts (D.Copy target) l t e = absurd (none-some t e)

a_map_kind : (d t : Data) → a_map d ≡ Some t → kind_word_of t ≡ K.Map
a_map_kind (T.map ms) t e = some_made (T.map ms) K.Map t refl e
a_map_kind d t e = absurd (none-some t e)

pub alone_kind : (p : HamtShape) (l : Layer Data) (t : Data) → alone p l ≡ Some t → kind_word_of t ≡ K.Map
alone_kind p l t e = then_made a_map (as_hamt l) K.Map t (λ d h. a_map_kind d t h) e

-- null is the data of no layer of a type without the kind null
pub no_null : (d : TypeDef) → has_kind d K.Null ≡ false → (l : Layer Data) → composed alone d l ≡ Some T.null → ⊥
no_null d never l e = let h : false ≡ true = sym never ∙ composed_kind alone alone_kind d l T.null e in absurd cc
