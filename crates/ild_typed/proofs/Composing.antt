-- The data of one layer tell the layer, whatever the type's form.
use Rattle.std.proofs.Common.{◌≡◌, ℕ, List, [], Bool, false, Some, option_map, sym, ◌∙◌, ap}
use Rattle.std.specs.Prelude.{ℤ, slice_get, option_and_then, unwrap_or}
use Rattle.std.proofs.lemmas.Option.{same_Some, none-some}
use Rattle.ild_data.specs.Data as T
use Rattle.ild_data.specs.Data.{Data}
use Rattle.ild_data.specs.Key.{value_at}
use Rattle.ild_schema.specs.declared.def.TypeDef.{TypeDef}
use Rattle.ild_schema.specs.declared.def.TypeDef.TheVariants as D
use Rattle.ild_schema.specs.declared.def.UnitForm.{UnitForm}
use Rattle.ild_schema.specs.declared.def.MapForm.{MapForm}
use Rattle.ild_schema.specs.declared.def.MapForm.TheVariants as MF
use Rattle.ild_schema.specs.declared.def.StructForm.{StructForm}
use Rattle.ild_schema.specs.declared.def.StructForm.TheVariants as S
use Rattle.ild_schema.specs.declared.def.EnumForm.{EnumForm}
use Rattle.ild_schema.specs.declared.def.EnumForm.TheVariants as E
use Rattle.ild_schema.specs.declared.def.Field.{Field}
use Rattle.ild_schema.specs.declared.def.EnumMember.{EnumMember}
use Rattle.ild_data.specs.declared.hamt_shape.HamtShape.{HamtShape}
use Rattle.ild_typed.specs.Layer.{Layer, as_boolean, as_integer, as_text, as_bytes, as_link, as_any, as_unit, as_enum, as_list, as_map, as_struct, as_union, as_hamt}
use Rattle.ild_typed.specs.Fields.{field_entries, tuple_items}
use Rattle.ild_typed.specs.Strings.{map_data, listpairs, stringpairs, in_key_order}
use Rattle.ild_data.specs.Decimal.{decimal_of}
use Rattle.ild_typed.specs.Composed.{Hamts, any_data, unit_data, map_form, struct_form, union_form, enum_form, composed}
use Rattle.ild_typed.specs.Hamt.{a_map, alone}
use Rattle.ild_typed.specs.Tells.{Tells}
use Rattle.ild_schema.specs.Clear.{ClearStruct, ClearMap, ClearEnum, ClearType}
use Rattle.ild_typed.proofs.Basics.{then_from, map_from, tells_then, tells_map}
use Rattle.ild_typed.proofs.Onlies.{only_boolean, only_integer, only_text, only_bytes, only_link, only_any, only_unit, only_enum, only_list, only_map, only_struct, only_union, only_hamt}
use Rattle.ild_typed.proofs.Entries.{list_tells, map_tells, listpairs_tell, value_sorted}
use Rattle.ild_typed.proofs.Structs.{fields_tell, entries_tell, tuple_tells}
use Rattle.ild_typed.proofs.Strings.{stringpairs_tell, stringjoin_tells}
use Rattle.ild_typed.proofs.Unions.{union_tells}

-- ---- what a constructor holds

abbrev bool_in : Data → Bool
bool_in (T.boolean b) = b
bool_in d = false

abbrev int_in : ℤ → Data → ℤ
int_in z (T.integer n) = n
int_in z d = z

abbrev string_in : Data → List ℕ
string_in (T.text s) = s
string_in (T.bytes s) = s
string_in (T.link s) = s
string_in d = []

any_says : (d t : Data) → any_data d ≡ Some t → d ≡ t
any_says T.null t e = absurd (none-some t e)
any_says (T.boolean b) t e = same_Some (T.boolean b) t e
any_says (T.integer n) t e = same_Some (T.integer n) t e
any_says (T.text s) t e = same_Some (T.text s) t e
any_says (T.bytes s) t e = same_Some (T.bytes s) t e
any_says (T.list ds) t e = same_Some (T.list ds) t e
any_says (T.map ms) t e = same_Some (T.map ms) t e
any_says (T.link s) t e = same_Some (T.link s) t e

pub a_map_says : (d t : Data) → a_map d ≡ Some t → d ≡ t
a_map_says (T.map ms) t e = same_Some (T.map ms) t e
a_map_says d t e = absurd (none-some t e)

-- the root map of a HAMT tells itself
pub alone_tells : (p : HamtShape) → Tells (alone p)
alone_tells p = tells_then as_hamt a_map (λ d e t h k. a_map_says d t h ∙ sym (a_map_says e t k)) (λ l m d h k. only_hamt l d h ∙ sym (only_hamt m d k))

-- ---- forms

map_only : (l m : Layer Data) (ps : List (List ℕ × Data)) → as_map l ≡ Some ps → as_map m ≡ Some ps → l ≡ m
map_only l m ps h k = only_map l ps h ∙ sym (only_map m ps k)

pub map_form_tells : (at : Hamts) → ((p : HamtShape) → Tells (at p)) → (form : MapForm) → ClearMap form → Tells (map_form at form)
map_form_tells at hamts MF.Map clear = tells_map as_map map_data map_tells map_only
map_form_tells at hamts MF.ListPairs clear = tells_map as_map listpairs listpairs_tell map_only
map_form_tells at hamts (MF.StringPairs inner entry) clear = tells_then as_map (stringpairs inner entry) (stringpairs_tell inner entry clear) map_only
map_form_tells at hamts (MF.Hamt p) clear = hamts p

struct_map_tells : (fs : List Field) → ClearStruct S.Map fs → Tells (struct_form S.Map fs)
struct_map_tells fs clear os us t e k =
    let x = map_from (λ es. map_data (in_key_order es)) (field_entries fs os) t e in
    let y = map_from (λ es. map_data (in_key_order es)) (field_entries fs us) t k in
    let same = map_tells (in_key_order x.item) (in_key_order y.item) (same_Some (map_data (in_key_order x.item)) t x.made ∙ sym (same_Some (map_data (in_key_order y.item)) t y.made)) in
    fields_tell fs os us x.item y.item clear.apart clear.required x.there y.there
    (λ q. sym (value_sorted q x.item) ∙ ap (value_at q) same ∙ value_sorted q y.item)

struct_form_tells : (form : StructForm) (fs : List Field) → ClearStruct form fs → Tells (struct_form form fs)
struct_form_tells S.Map fs clear = struct_map_tells fs clear
struct_form_tells S.Tuple fs clear = tells_map (tuple_items fs) (λ ds. T.list (T.items_of ds)) list_tells (tuple_tells fs)
struct_form_tells S.ListPairs fs clear = tells_map (field_entries fs) listpairs listpairs_tell (entries_tell fs clear)
struct_form_tells (S.StringPairs inner entry) fs clear = tells_then (field_entries fs) (stringpairs inner entry) (stringpairs_tell inner entry clear.1) (entries_tell fs clear.0)
struct_form_tells (S.StringJoin delim) fs clear = stringjoin_tells delim fs

enum_form_same : (form : EnumForm) (ms : List EnumMember) → ClearEnum form ms → (i j : ℕ) (m n : EnumMember) (t : Data) → slice_get ms i ≡ Some m → slice_get ms j ≡ Some n
    → enum_form form m ≡ Some t → enum_form form n ≡ Some t → i ≡ j
enum_form_same E.Text ms clear i j m n t mi nj e k =
    clear i j m n mi nj (ap string_in (same_Some (T.text (unwrap_or m.text m.name)) t e ∙ sym (same_Some (T.text (unwrap_or n.text n.name)) t k)))
enum_form_same E.Int ms clear i j m n t mi nj e k =
    let x = map_from T.integer (option_and_then decimal_of m.text) t e in
    let y = map_from T.integer (option_and_then decimal_of n.text) t k in
    let same : x.item ≡ y.item = ap (int_in x.item) (same_Some (T.integer x.item) t x.made ∙ sym (same_Some (T.integer y.item) t y.made)) in
    clear i j m n mi nj (x.there ∙ ap Some same ∙ sym y.there)

enum_tells : (form : EnumForm) (ms : List EnumMember) → ClearEnum form ms → Tells (λ n. option_and_then (enum_form form) (slice_get ms n))
enum_tells form ms clear i j t e k =
    let x = then_from (enum_form form) (slice_get ms i) t e in
    let y = then_from (enum_form form) (slice_get ms j) t k in
    enum_form_same form ms clear i j x.item y.item t x.there y.there x.made y.made

unit_tells : (form : UnitForm) → Tells (λ (l : Layer Data). option_map (λ u. unit_data form) (as_unit l))
unit_tells form l m t e k =
    let x = map_from (λ u. unit_data form) (as_unit l) t e in
    let y = map_from (λ u. unit_data form) (as_unit m) t k in
    only_unit l x.item x.there ∙ sym (only_unit m y.item y.there)

-- one layer, read back
pub composed_tells : (at : Hamts) → ((p : HamtShape) → Tells (at p)) → (d : TypeDef) → ClearType d → Tells (composed at d)
composed_tells at hamts D.Bool clear = tells_map as_boolean T.boolean (λ a b e. ap bool_in e) (λ l m b h k. only_boolean l b h ∙ sym (only_boolean m b k))
composed_tells at hamts D.Text clear = tells_map as_text T.text (λ a b e. ap string_in e) (λ l m b h k. only_text l b h ∙ sym (only_text m b k))
composed_tells at hamts D.Bytes clear = tells_map as_bytes T.bytes (λ a b e. ap string_in e) (λ l m b h k. only_bytes l b h ∙ sym (only_bytes m b k))
composed_tells at hamts D.Int clear = tells_map as_integer T.integer (λ a b e. ap (int_in a) e) (λ l m b h k. only_integer l b h ∙ sym (only_integer m b k))
composed_tells at hamts D.Any clear = tells_then as_any any_data (λ d e t h k. any_says d t h ∙ sym (any_says e t k)) (λ l m b h k. only_any l b h ∙ sym (only_any m b k))
composed_tells at hamts (D.Link target) clear = tells_map as_link T.link (λ a b e. ap string_in e) (λ l m b h k. only_link l b h ∙ sym (only_link m b k))
composed_tells at hamts (D.Unit form) clear = unit_tells form
composed_tells at hamts (D.List elem place) clear = tells_map as_list (λ ds. T.list (T.items_of ds)) list_tells (λ l m b h k. only_list l b h ∙ sym (only_list m b k))
composed_tells at hamts (D.Map key key_place value place form) clear = map_form_tells at hamts form clear
composed_tells at hamts (D.Struct s) clear = tells_then as_struct (struct_form s.form s.fields) (struct_form_tells s.form s.fields clear) (λ l m b h k. only_struct l b h ∙ sym (only_struct m b k))
composed_tells at hamts (D.Union u) clear = tells_then as_union (union_form u.form u.members) (union_tells u.form u.members clear) (λ l m b h k. only_union l b h ∙ sym (only_union m b k))
composed_tells at hamts (D.Enum e) clear = tells_then as_enum (λ n. option_and_then (enum_form e.form) (slice_get e.members n)) (enum_tells e.form e.members clear) (λ l m b h k. only_enum l b h ∙ sym (only_enum m b k))
composed_tells at hamts (D.Copy target) clear = λ l m t e k. absurd (none-some t e)
