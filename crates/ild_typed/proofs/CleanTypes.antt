-- Data are a layer exactly where no cause holds of them, type by type.
use Rattle.std.proofs.Common.{◌≡◌, Bool, true, false, ◌||◌, not, Option, Some, option_map, refl, sym, ◌∙◌, ap, subst}
use Rattle.std.specs.Prelude.{option_and_then, slice_get, unwrap_or}
use Rattle.std.specs.List.{list_any}
use Rattle.std.specs.Cmp.Lexicographic.{same_text as text_same}
use Rattle.std.proofs.lemmas.Option.{same_Some, none-some}
use Rattle.std.proofs.lemmas.Bool.{or_parts}
use Rattle.ild_data.specs.Data as T
use Rattle.ild_data.specs.Data.{Data}
use Rattle.ild_data.proofs.Lists.{items_of-items_list, members_of-members_list}
use Rattle.ild_schema.specs.declared.def.TypeDef.{TypeDef}
use Rattle.ild_schema.specs.declared.def.TypeDef.TheVariants as D
use Rattle.ild_schema.specs.declared.def.UnitForm.{UnitForm}
use Rattle.ild_schema.specs.declared.def.UnitForm.TheVariants as U
use Rattle.ild_schema.specs.declared.def.MapForm.{MapForm}
use Rattle.ild_schema.specs.declared.def.MapForm.TheVariants as MF
use Rattle.ild_schema.specs.declared.def.EnumForm.{EnumForm}
use Rattle.ild_schema.specs.declared.def.EnumForm.TheVariants as E
use Rattle.ild_schema.specs.declared.def.EnumMember.{EnumMember}
use Rattle.ild_schema.specs.declared.def.KindWord.TheVariants as K
use Rattle.ild_typed.specs.Layer as L
use Rattle.ild_typed.specs.Layer.{Layer, as_map, as_struct, as_union, as_enum, as_unit}
use Rattle.ild_typed.specs.Kinds.{kind_word_of}
use Rattle.ild_schema.specs.DataKinds.{same_kind, has_kind, map_kind, unit_kind}
use Rattle.ild_data.specs.Decimal.{decimal_of}
use Rattle.ild_typed.specs.Strings.{listpairs, stringpairs}
use Rattle.ild_typed.specs.Composed.{unit_data, map_form, struct_form, union_form, enum_form, composed}
use Rattle.ild_typed.specs.Hamt.{alone}
use Rattle.ild_schema.specs.Clear.{ClearType, ClearMap}
use Rattle.ild_typed.specs.Causes.{is_kind_why}
use Rattle.ild_typed.specs.PlainWhy.{map_kind_why, map_count, map_delimiter, unit_count, unit_member, is_value}
use Rattle.ild_schema.specs.Delims.{MapDelims, Delims}
use Rattle.ild_typed.specs.WhyLaws.{KeysRise, LayerOrWhy}
use Rattle.ild_typed.proofs.Basics.{map_from, then_from}
use Rattle.ild_typed.proofs.Structs.{int_same}
use Rattle.ild_typed.proofs.Entries.{same_text_self}
use Rattle.ild_typed.proofs.OfKinds.{any_at, composed_kind, alone_kind}
use Rattle.ild_typed.proofs.Cleans.{Clean, clean_of, none_of, not_false, not_true, kind_fine, found}
use Rattle.ild_typed.proofs.CleanFields.{int_self}
use Rattle.ild_typed.proofs.CleanPairs.{pairs_even, pairs_count, pairs_of_data}
use Rattle.ild_typed.proofs.CleanStructs.{struct_clean, struct_for, split_of_pairs, string_of_data}
use Rattle.ild_typed.proofs.CleanUnions.{union_clean, union_for}

-- ---- data of a layer

-- the kind is the type's, and nothing else is asked
its_kind : (d : TypeDef) (t : Data) (c : Bool) → has_kind d (kind_word_of t) ≡ true → c ≡ false → (not (has_kind d (kind_word_of t)) || c) ≡ false
its_kind d t c h k = kind_fine (has_kind d (kind_word_of t)) c h k

unit_clean : (form : UnitForm) → Clean (D.Unit form) (unit_data form)
unit_clean U.Null = record {
  kind = refl;
  name = refl;
  missing = refl;
  count = refl;
  order = refl;
  repeat = refl;
  implicit = refl;
  delimiter = refl;
  prefix = refl;
  member = refl;
}
unit_clean U.True = record {
  kind = refl;
  name = refl;
  missing = refl;
  count = refl;
  order = refl;
  repeat = refl;
  implicit = refl;
  delimiter = refl;
  prefix = refl;
  member = refl;
}
unit_clean U.False = record {
  kind = refl;
  name = refl;
  missing = refl;
  count = refl;
  order = refl;
  repeat = refl;
  implicit = refl;
  delimiter = refl;
  prefix = refl;
  member = refl;
}
unit_clean U.EmptyMap = record {
  kind = refl;
  name = refl;
  missing = refl;
  count = refl;
  order = refl;
  repeat = refl;
  implicit = refl;
  delimiter = refl;
  prefix = refl;
  member = refl;
}

-- enums
value_itself : (form : EnumForm) (m : EnumMember) (t : Data) → enum_form form m ≡ Some t → is_value (enum_form form m) t ≡ true
value_itself E.Text m t h = ap (is_value (enum_form E.Text m)) (sym (same_Some (T.text (unwrap_or m.text m.name)) t h)) ∙ same_text_self (unwrap_or m.text m.name)
value_itself E.Int m t h =
    let x = map_from T.integer (option_and_then decimal_of m.text) t h in
    ap (λ o. is_value (option_map T.integer o) t) x.there ∙ ap (is_value (Some (T.integer x.item))) (sym (same_Some (T.integer x.item) t x.made)) ∙ int_self x.item

pub record MapClean (form : MapForm) (t : Data) : Type 0 where
  pub kind : map_kind_why form t ≡ false
  pub count : map_count form t ≡ false
  pub delimiter : map_delimiter form t ≡ false

map_clean : (form : MapForm) → ClearMap form → MapDelims form → (l : Layer Data) (t : Data) → map_form alone form l ≡ Some t → MapClean form t
map_clean MF.Map clear delims l t h = record { kind = refl; count = refl; delimiter = refl }
map_clean MF.ListPairs clear delims l t h =
    let x = map_from listpairs (as_map l) t h in
    subst (MapClean MF.ListPairs) (same_Some (listpairs x.item) t x.made) (record { kind = pairs_even x.item; count = pairs_count x.item; delimiter = refl })
map_clean (MF.StringPairs inner entry) clear delims l t h =
    let x = then_from (stringpairs inner entry) (as_map l) t h in
    record { kind = refl; count = refl; delimiter = (split_of_pairs inner entry clear delims x.item t x.made).split }
map_clean (MF.Hamt p) clear delims l t h = record { kind = refl; count = refl; delimiter = refl }

pub layer_clean : (d : TypeDef) → ClearType d → Delims d → (l : Layer Data) (t : Data) → composed alone d l ≡ Some t → Clean d t
layer_clean D.Bool clear delims l t h = record {
  kind = its_kind D.Bool t false (composed_kind alone alone_kind D.Bool l t h) refl;
  name = refl;
  missing = refl;
  count = refl;
  order = refl;
  repeat = refl;
  implicit = refl;
  delimiter = refl;
  prefix = refl;
  member = refl;
}
layer_clean D.Text clear delims l t h = record {
  kind = its_kind D.Text t false (composed_kind alone alone_kind D.Text l t h) refl;
  name = refl;
  missing = refl;
  count = refl;
  order = refl;
  repeat = refl;
  implicit = refl;
  delimiter = refl;
  prefix = refl;
  member = refl;
}
layer_clean D.Bytes clear delims l t h = record {
  kind = its_kind D.Bytes t false (composed_kind alone alone_kind D.Bytes l t h) refl;
  name = refl;
  missing = refl;
  count = refl;
  order = refl;
  repeat = refl;
  implicit = refl;
  delimiter = refl;
  prefix = refl;
  member = refl;
}
layer_clean D.Int clear delims l t h = record {
  kind = its_kind D.Int t false (composed_kind alone alone_kind D.Int l t h) refl;
  name = refl;
  missing = refl;
  count = refl;
  order = refl;
  repeat = refl;
  implicit = refl;
  delimiter = refl;
  prefix = refl;
  member = refl;
}
layer_clean D.Any clear delims l t h = record {
  kind = its_kind D.Any t false (composed_kind alone alone_kind D.Any l t h) refl;
  name = refl;
  missing = refl;
  count = refl;
  order = refl;
  repeat = refl;
  implicit = refl;
  delimiter = refl;
  prefix = refl;
  member = refl;
}
layer_clean (D.Link target) clear delims l t h = record {
  kind = its_kind (D.Link target) t false (composed_kind alone alone_kind (D.Link target) l t h) refl;
  name = refl;
  missing = refl;
  count = refl;
  order = refl;
  repeat = refl;
  implicit = refl;
  delimiter = refl;
  prefix = refl;
  member = refl;
}
layer_clean (D.List elem at) clear delims l t h = record {
  kind = its_kind (D.List elem at) t false (composed_kind alone alone_kind (D.List elem at) l t h) refl;
  name = refl;
  missing = refl;
  count = refl;
  order = refl;
  repeat = refl;
  implicit = refl;
  delimiter = refl;
  prefix = refl;
  member = refl;
}
layer_clean (D.Unit form) clear delims l t h =
    let x = map_from (λ u. unit_data form) (as_unit l) t h in
    subst (Clean (D.Unit form)) (same_Some (unit_data form) t x.made) (unit_clean form)
layer_clean (D.Map key key_at value at form) clear delims l t h =
    let own : TypeDef = D.Map key key_at value at form in
    let c = map_clean form clear delims l t h in
    record {
      kind = its_kind own t (map_kind_why form t) (composed_kind alone alone_kind own l t h) c.kind;
      name = refl;
      missing = refl;
      count = c.count;
      order = refl;
      repeat = refl;
      implicit = refl;
      delimiter = c.delimiter;
      prefix = refl;
      member = refl;
    }
layer_clean (D.Struct s) clear delims l t h =
    let x = then_from (struct_form s.form s.fields) (as_struct l) t h in
    let c = struct_clean s.form s.fields clear delims x.item t x.made in
    record {
      kind = its_kind (D.Struct s) t (is_kind_why (D.Struct s) t) (composed_kind alone alone_kind (D.Struct s) l t h) c.kind;
      name = c.name;
      missing = c.missing;
      count = c.count;
      order = c.order;
      repeat = c.repeat;
      implicit = c.implicit;
      delimiter = c.delimiter;
      prefix = refl;
      member = refl;
    }
layer_clean (D.Union u) clear delims l t h =
    let x = then_from (union_form u.form u.members) (as_union l) t h in
    let c = union_clean u.form u.members x.item t x.made in
    record {
      kind = its_kind (D.Union u) t false (composed_kind alone alone_kind (D.Union u) l t h) refl;
      name = c.name;
      missing = c.missing;
      count = c.count;
      order = refl;
      repeat = refl;
      implicit = refl;
      delimiter = refl;
      prefix = c.prefix;
      member = c.member;
    }
layer_clean (D.Enum e) clear delims l t h =
    let x = then_from (λ n. option_and_then (enum_form e.form) (slice_get e.members n)) (as_enum l) t h in
    let y = then_from (enum_form e.form) (slice_get e.members x.item) t x.made in
    let one : list_any (λ m. is_value (enum_form e.form m) t) e.members ≡ true
    = any_at (λ m. is_value (enum_form e.form m) t) e.members x.item y.item y.there (value_itself e.form y.item t y.made) in
    record {
      kind = its_kind (D.Enum e) t false (composed_kind alone alone_kind (D.Enum e) l t h) refl;
      name = refl;
      missing = refl;
      count = refl;
      order = refl;
      repeat = refl;
      implicit = refl;
      delimiter = refl;
      prefix = refl;
      member = not_true (list_any (λ m. is_value (enum_form e.form m) t) e.members) one;
    }
layer_clean (D.Copy target) clear delims l t h = absurd (none-some t h)

-- ---- data of which no cause holds

pub record LayerFor (d : TypeDef) (t : Data) : Type 0 where
  pub layer : Layer Data
  pub there : composed alone d layer ≡ Some t

kind_of_clean : (d : TypeDef) (t : Data) → Clean d t → has_kind d (kind_word_of t) ≡ true
kind_of_clean d t c = not_false (has_kind d (kind_word_of t)) (or_parts (not (has_kind d (kind_word_of t))) (is_kind_why d t) c.kind).0

own_kind : (d : TypeDef) (t : Data) → Clean d t → is_kind_why d t ≡ false
own_kind d t c = (or_parts (not (has_kind d (kind_word_of t))) (is_kind_why d t) c.kind).1

bool_for : (t : Data) → same_kind K.Bool (kind_word_of t) ≡ true → LayerFor D.Bool t
bool_for (T.boolean b) k = record { layer = L.boolean b; there = refl }
bool_for t k = absurd cc

text_for : (t : Data) → same_kind K.Text (kind_word_of t) ≡ true → LayerFor D.Text t
text_for (T.text s) k = record { layer = L.text s; there = refl }
text_for t k = absurd cc

bytes_for : (t : Data) → same_kind K.Bytes (kind_word_of t) ≡ true → LayerFor D.Bytes t
bytes_for (T.bytes s) k = record { layer = L.bytes s; there = refl }
bytes_for t k = absurd cc

int_for : (t : Data) → same_kind K.Int (kind_word_of t) ≡ true → LayerFor D.Int t
int_for (T.integer n) k = record { layer = L.integer n; there = refl }
int_for t k = absurd cc

any_for : (t : Data) → not (same_kind K.Null (kind_word_of t)) ≡ true → LayerFor D.Any t
any_for T.null k = absurd cc
any_for (T.boolean b) k = record { layer = L.any (T.boolean b); there = refl }
any_for (T.integer n) k = record { layer = L.any (T.integer n); there = refl }
any_for (T.text s) k = record { layer = L.any (T.text s); there = refl }
any_for (T.bytes s) k = record { layer = L.any (T.bytes s); there = refl }
any_for (T.list ds) k = record { layer = L.any (T.list ds); there = refl }
any_for (T.map ms) k = record { layer = L.any (T.map ms); there = refl }
any_for (T.link s) k = record { layer = L.any (T.link s); there = refl }

unit_for : (form : UnitForm) (t : Data) → same_kind (unit_kind form) (kind_word_of t) ≡ true → unit_count form t ≡ false → unit_member form t ≡ false → LayerFor (D.Unit form) t
unit_for U.Null T.null k n m = record { layer = L.unit; there = refl }
unit_for U.Null t k n m = absurd cc
unit_for U.True (T.boolean true) k n m = record { layer = L.unit; there = refl }
unit_for U.True (T.boolean false) k n m = absurd cc
unit_for U.True t k n m = absurd cc
unit_for U.False (T.boolean true) k n m = absurd cc
unit_for U.False (T.boolean false) k n m = record { layer = L.unit; there = refl }
unit_for U.False t k n m = absurd cc
unit_for U.EmptyMap (T.map T.no_members) k n m = record { layer = L.unit; there = refl }
unit_for U.EmptyMap (T.map (T.member l d ms)) k n m = absurd cc
unit_for U.EmptyMap t k n m = absurd cc

pub value_is : (o : Option Data) (t : Data) → is_value o t ≡ true → o ≡ Some t
value_is (Some (T.text a)) (T.text b) h = ap (λ s. Some (T.text s)) (text_same a b (sym h))
value_is (Some (T.integer a)) (T.integer b) h = ap (λ n. Some (T.integer n)) (int_same a b h)
value_is o t h = absurd cc

map_for : (form : MapForm) (t : Data) → same_kind (map_kind form) (kind_word_of t) ≡ true → MapClean form t → (l : Layer Data) × (map_form alone form l ≡ Some t)
map_for MF.Map (T.map ms) k c = (L.map (T.members_list ms), ap (λ xs. Some (T.map xs)) (members_of-members_list ms))
map_for MF.Map t k c = absurd cc
map_for MF.ListPairs t k c = let x = pairs_of_data t k c.kind c.count in (L.map x.entries, ap Some (sym x.is))
map_for (MF.StringPairs inner entry) t k c = let x = string_of_data inner entry t k c.delimiter in (L.map x.entries, x.there)
map_for (MF.Hamt p) (T.map ms) k c = (L.hamt (T.map ms), refl)
map_for (MF.Hamt p) t k c = absurd cc

pub layer_for : (d : TypeDef) → ClearType d → Delims d → (t : Data) → KeysRise t → Clean d t → LayerFor d t
layer_for D.Bool clear delims t up c = bool_for t (kind_of_clean D.Bool t c)
layer_for D.Text clear delims t up c = text_for t (kind_of_clean D.Text t c)
layer_for D.Bytes clear delims t up c = bytes_for t (kind_of_clean D.Bytes t c)
layer_for D.Int clear delims t up c = int_for t (kind_of_clean D.Int t c)
layer_for D.Any clear delims t up c = any_for t (kind_of_clean D.Any t c)
layer_for (D.Link target) clear delims t up c = by t (kind_of_clean (D.Link target) t c) where
  by : (u : Data) → same_kind K.Link (kind_word_of u) ≡ true → LayerFor (D.Link target) u
  by (T.link s) k = record { layer = L.link s; there = refl }
  by u k = absurd cc
layer_for (D.Unit form) clear delims t up c = unit_for form t (kind_of_clean (D.Unit form) t c) c.count c.member
layer_for (D.List elem at) clear delims t up c = by t (kind_of_clean (D.List elem at) t c) where
  by : (u : Data) → same_kind K.List (kind_word_of u) ≡ true → LayerFor (D.List elem at) u
  by (T.list ds) k = record { layer = L.list (T.items_list ds); there = ap (λ xs. Some (T.list xs)) (items_of-items_list ds) }
  by u k = absurd cc
layer_for (D.Map key key_at value at form) clear delims t up c =
    let own : TypeDef = D.Map key key_at value at form in
    let x = map_for form t (kind_of_clean own t c) (record { kind = own_kind own t c; count = c.count; delimiter = c.delimiter }) in
    record { layer = x.0; there = x.1 }
layer_for (D.Struct s) clear delims t up c =
    let x = struct_for s.form s.fields clear delims t up (kind_of_clean (D.Struct s) t c) (record {
      kind = own_kind (D.Struct s) t c;
      name = c.name;
      missing = c.missing;
      count = c.count;
      order = c.order;
      repeat = c.repeat;
      implicit = c.implicit;
      delimiter = c.delimiter;
    }) in
    record { layer = L.struct x.fields; there = x.there }
layer_for (D.Union u) clear delims t up c =
    let x = union_for u.form u.members t up (kind_of_clean (D.Union u) t c) (record { name = c.name; missing = c.missing; count = c.count; prefix = c.prefix; member = c.member }) in
    record { layer = L.union x.member x.part; there = x.there }
layer_for (D.Enum e) clear delims t up c =
    let one : list_any (λ m. is_value (enum_form e.form m) t) e.members ≡ true = not_false (list_any (λ m. is_value (enum_form e.form m) t) e.members) c.member in
    let x = found (λ m. is_value (enum_form e.form m) t) e.members one in
    record { layer = L.enum x.place; there = ap (option_and_then (enum_form e.form)) x.there ∙ value_is (enum_form e.form x.one) t x.passes }
layer_for (D.Copy target) clear delims t up c = let k : false ≡ true = kind_of_clean (D.Copy target) t c in absurd cc

-- ---- the law

pub layer_or_why : LayerOrWhy
layer_or_why d clear delims t up =
    (λ e. let x = layer_for d clear delims t up (clean_of d t e) in (x.layer, x.there), λ x. none_of d t (layer_clean d clear delims x.0 t x.1))
