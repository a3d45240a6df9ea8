-- The data of a layer are a tree where those of its parts are, and nest no deeper than the levels of its form say.
use Rattle.std.proofs.Common.{◌≡◌, ℕ, ◌+◌, ◌≤◌, List, [], ◌∷◌, ◌++◌, map, Bool, true, false, cond, Option, Some, None, option_map, IsUtf8, refl, sym, subst, arith}
use Rattle.std.specs.Prelude.{IfSome, slice_get, option_and_then, is_none, unwrap_or}
use Rattle.std.specs.List.{AllByRecursion}
use Rattle.std.specs.Ordering.{match_ordering}
use Rattle.std.specs.declared.cmp.Ordering.{Ordering}
use Rattle.std.specs.declared.cmp.Ordering.TheVariants.{Less, Equal, Greater}
use Rattle.std.proofs.lemmas.Option.{same_Some, none-some}
use Rattle.std.proofs.lemmas.Str.{IsUtf8-append}
use Rattle.ild_data.proofs.AllOf.{all_append, all_at}
use Rattle.ild_data.specs.Data as T
use Rattle.ild_data.specs.Data.{Data, depth, items_depth, members_depth}
use Rattle.ild_data.specs.Key.{key_cmp, put, value_at, IsBelow, Rises}
use Rattle.ild_data.specs.Tree.{IsTree, AreTrees, AreEntries}
use Rattle.ild_data.specs.Integer.{IsInt}
use Rattle.ild_data.specs.Bytes.{AreBytes}
use Rattle.ild_data.specs.Cid.{IsCid}
use Rattle.ild_data.proofs.Lists.{members_list-members_of}
use Rattle.ild_data.proofs.Rising.{rises_put}
use Rattle.ild_schema.specs.declared.def.TypeDef.{TypeDef}
use Rattle.ild_schema.specs.declared.def.TypeDef.TheVariants as D
use Rattle.ild_schema.specs.declared.def.UnitForm.{UnitForm}
use Rattle.ild_schema.specs.declared.def.UnitForm.TheVariants as U
use Rattle.ild_schema.specs.declared.def.MapForm.{MapForm}
use Rattle.ild_schema.specs.declared.def.MapForm.TheVariants as MF
use Rattle.ild_schema.specs.declared.def.StructForm.{StructForm}
use Rattle.ild_schema.specs.declared.def.StructForm.TheVariants as S
use Rattle.ild_schema.specs.declared.def.UnionForm.{UnionForm}
use Rattle.ild_schema.specs.declared.def.UnionForm.TheVariants as UF
use Rattle.ild_schema.specs.declared.def.EnumForm.{EnumForm}
use Rattle.ild_schema.specs.declared.def.EnumForm.TheVariants as E
use Rattle.ild_schema.specs.declared.def.Field.{Field}
use Rattle.ild_schema.specs.declared.def.Member.{Member}
use Rattle.ild_schema.specs.declared.def.EnumMember.{EnumMember}
use Rattle.ild_schema.specs.Value as V
use Rattle.ild_typed.specs.Layer as L
use Rattle.ild_typed.specs.Layer.{Layer, as_boolean, as_integer, as_text, as_bytes, as_link, as_any, as_unit, as_enum, as_list, as_map, as_struct, as_union}
use Rattle.ild_typed.specs.Texts.{join, join_pairs}
use Rattle.ild_typed.specs.Fields.{is_implicit, entries_of, field_entries, are_absent, tuple_items, all_items}
use Rattle.ild_schema.specs.Marks.{field_text, mark_text, mark_kind}
use Rattle.ild_typed.specs.Strings.{text_in, bytes_in, members_in, texts_in, text_pairs, in_key_order, map_data, pair_data, listpairs, stringpairs, stringjoin}
use Rattle.ild_typed.specs.Kinds.{kind_word_of}
use Rattle.ild_schema.specs.DataKinds.{same_kind}
use Rattle.ild_data.specs.Hex.{bytes_of_hex}
use Rattle.ild_data.specs.Decimal.{decimal_of}
use Rattle.ild_typed.specs.Composed.{Hamts, any_data, unit_data, map_form, struct_form, inlined, marked_form, member_form, union_form, enum_form, composed}
use Rattle.ild_typed.specs.Levels.{map_levels, struct_levels, levels_of}
use Rattle.ild_typed.specs.Nested.{TreeIn}
use Rattle.ild_schema.specs.Spelled.{SpelledStruct, SpelledMap, SpelledKeys, SpelledType}
use Rattle.ild_typed.proofs.Basics.{then_from, map_from, true_from, if_from}
use Rattle.ild_typed.proofs.Onlies.{only_integer, only_text, only_bytes, only_link, only_any, only_list, only_map, only_struct, only_union}
use Rattle.ild_typed.proofs.Entries.{both_from, only_text_data, only_bytes_data}
use Rattle.ild_typed.proofs.Rising.{rises_sorted}
use Rattle.ild_typed.proofs.Utf8Texts.{ArePairs, join_utf8, join_pairs_utf8, bytes_append, hex_are_bytes, decimal_is_int}

-- ---- lists and maps of trees

pub all_put : (P : List ℕ × Data → Type 0) (k : List ℕ) (d : Data) (ms : List (List ℕ × Data)) → P (k, d) → AllByRecursion P ms → AllByRecursion P (put k d ms)
all_put P k d [] p all = (p, tt)
all_put P k d (m ∷ ms) p all = by (key_cmp k m.0) (all_put P k d ms p all.1) where
  by : (o : Ordering) → AllByRecursion P (put k d ms) → AllByRecursion P (match_ordering o ((k, d) ∷ m ∷ ms) ((k, d) ∷ ms) (m ∷ put k d ms))
  by Less rest = (p, all)
  by Equal rest = (p, all.1)
  by Greater rest = (all.0, rest)

pub all_sorted : (P : List ℕ × Data → Type 0) (ms : List (List ℕ × Data)) → AllByRecursion P ms → AllByRecursion P (in_key_order ms)
all_sorted P [] all = tt
all_sorted P (m ∷ ms) all = all_put P m.0 m.1 (in_key_order ms) all.0 (all_sorted P ms all.1)

-- an entry of a map of trees
abbrev pub EntryIn : ℕ → List ℕ × Data → Type 0
EntryIn n p = IsUtf8 p.0 × TreeIn n p.1

pub in_more : (m n : ℕ) (d : Data) → m ≤ n → TreeIn m d → TreeIn n d
in_more m n d le x = record { tree = x.tree; nested = omega (arith, x.nested, le) }

items_trees : (n : ℕ) (ds : List Data) → AllByRecursion (TreeIn n) ds → AreTrees (T.items_of ds) × (items_depth (T.items_of ds) ≤ n)
items_trees n [] all = (tt, omega arith)
items_trees n (d ∷ ds) all =
    let rest = items_trees n ds all.1 in
    let first = all.0.nested in
    ((all.0.tree, rest.0), omega (arith, first, rest.1))

pub list_in : (n : ℕ) (ds : List Data) → AllByRecursion (TreeIn n) ds → TreeIn (n + 1) (T.list (T.items_of ds))
list_in n ds all = let x = items_trees n ds all in record { tree = x.0; nested = omega (arith, x.1) }

members_trees : (n : ℕ) (ps : List (List ℕ × Data)) → AllByRecursion (EntryIn n) ps → Rises ps → AreEntries (T.members_of ps) × (members_depth (T.members_of ps) ≤ n)
members_trees n [] all up = (tt, omega arith)
members_trees n (p ∷ ps) all up =
    let rest = members_trees n ps all.1 up.1 in
    let first = all.0.1.nested in
    ((all.0.0, all.0.1.tree, subst (IsBelow p.0) (sym (members_list-members_of ps)) up.0, rest.0), omega (arith, first, rest.1))

pub map_in : (n : ℕ) (ps : List (List ℕ × Data)) → AllByRecursion (EntryIn n) ps → Rises ps → TreeIn (n + 1) (map_data ps)
map_in n ps all up = let x = members_trees n ps all up in record { tree = x.0; nested = omega (arith, x.1) }

-- the entries of a map that is a tree
entries_all : (n : ℕ) (ms : T.Members) → AreEntries ms → members_depth ms ≤ n → AllByRecursion (EntryIn n) (T.members_list ms) × Rises (T.members_list ms)
entries_all n T.no_members tree le = (tt, tt)
entries_all n (T.member k d ms) tree le =
    let rest = entries_all n ms tree.3 (omega (arith, le)) in
    (((tree.0, record { tree = tree.1; nested = omega (arith, le) }), rest.0), (tree.2, rest.1))

scalar_in : (n : ℕ) (d : Data) → IsTree d → depth d ≡ 0 → TreeIn n d
scalar_in n d tree none = record { tree = tree; nested = omega (arith, none) }

pub text_is : (n : ℕ) (s : List ℕ) → IsUtf8 s → TreeIn n (T.text s)
text_is n s u = scalar_in n (T.text s) u refl

-- ---- texts of trees

tree_text : (n : ℕ) (d : Data) (s : List ℕ) → TreeIn n d → text_in d ≡ Some s → IsUtf8 s
tree_text n d s x e = subst IsTree (only_text_data d s e) x.tree

texts_utf8 : (n : ℕ) (ds : List Data) (ts : List (List ℕ)) → AllByRecursion (TreeIn n) ds → texts_in ds ≡ Some ts → AllByRecursion IsUtf8 ts
texts_utf8 n [] ts all e = subst (AllByRecursion IsUtf8) (same_Some [] ts e) tt
texts_utf8 n (d ∷ ds) ts all e =
    let b = both_from (text_in d) (texts_in ds) ts e in
    subst (AllByRecursion IsUtf8) b.all (tree_text n d b.item all.0 b.first, texts_utf8 n ds b.items all.1 b.rest)

pairs_utf8 : (n : ℕ) (ps : List (List ℕ × Data)) (ts : List (List ℕ × List ℕ)) → AllByRecursion (EntryIn n) ps → text_pairs ps ≡ Some ts → ArePairs ts
pairs_utf8 n [] ts all e = subst ArePairs (same_Some [] ts e) tt
pairs_utf8 n (p ∷ ps) ts all e =
    let b = both_from (option_map {U = List ℕ × List ℕ} (λ s. (p.0, s)) (text_in p.1)) (text_pairs ps) ts e in
    let x = map_from {B = List ℕ × List ℕ} (λ s. (p.0, s)) (text_in p.1) b.item b.first in
    let first : IsUtf8 b.item.0 × IsUtf8 b.item.1 = subst (λ (q : List ℕ × List ℕ). IsUtf8 q.0 × IsUtf8 q.1) (same_Some (p.0, x.item) b.item x.made) (all.0.0, tree_text n p.1 x.item all.0.1 x.there) in
    subst ArePairs b.all (first, pairs_utf8 n ps b.items all.1 b.rest)

stringpairs_in : (n m : ℕ) (inner entry : List ℕ) (ps : List (List ℕ × Data)) (t : Data) → IsUtf8 inner → IsUtf8 entry → AllByRecursion (EntryIn n) ps → stringpairs inner entry ps ≡ Some t → TreeIn m t
stringpairs_in n m inner entry ps t i d all e =
    let x = map_from T.text (option_and_then (join_pairs inner entry) (text_pairs ps)) t e in
    let y = then_from (join_pairs inner entry) (text_pairs ps) x.item x.there in
    subst (TreeIn m) (same_Some (T.text x.item) t x.made) (text_is m x.item (join_pairs_utf8 inner entry y.item x.item i d (pairs_utf8 n ps y.item all y.there) y.made))

stringjoin_in : (n m : ℕ) (delim : List ℕ) (ds : List Data) (t : Data) → IsUtf8 delim → AllByRecursion (TreeIn n) ds → stringjoin delim ds ≡ Some t → TreeIn m t
stringjoin_in n m delim ds t u all e =
    let x = map_from T.text (option_and_then (join delim) (texts_in ds)) t e in
    let y = then_from (join delim) (texts_in ds) x.item x.there in
    subst (TreeIn m) (same_Some (T.text x.item) t x.made) (text_is m x.item (join_utf8 delim y.item x.item u (texts_utf8 n ds y.item all y.there) y.made))

pair_lists_in : (n : ℕ) (ps : List (List ℕ × Data)) → AllByRecursion (EntryIn n) ps → AllByRecursion (TreeIn (n + 1)) (map pair_data ps)
pair_lists_in n [] all = tt
pair_lists_in n (p ∷ ps) all = (list_in n (T.text p.0 ∷ p.1 ∷ []) (text_is n p.0 all.0.0, (all.0.1, tt)), pair_lists_in n ps all.1)

listpairs_in : (n : ℕ) (ps : List (List ℕ × Data)) → AllByRecursion (EntryIn n) ps → TreeIn (n + 2) (listpairs ps)
listpairs_in n ps all = in_more (n + 1 + 1) (n + 2) (listpairs ps) (omega arith) (list_in (n + 1) (map pair_data ps) (pair_lists_in n ps all))

-- ---- fields

abbrev pub MaybeIn : ℕ → Option Data → Type 0
MaybeIn n o = IfSome o (TreeIn n)

one_entry : (n : ℕ) (f : Field) (d : Data) (b : Bool) → IsUtf8 (field_text f) → TreeIn n d → AllByRecursion (EntryIn n) (cond b [] ((field_text f, d) ∷ []))
one_entry n f d true u x = tt
one_entry n f d false u x = ((u, x), tt)

entries_in : (n : ℕ) (fs : List Field) (os : List (Option Data)) (es : List (List ℕ × Data)) → AllByRecursion (λ f. IsUtf8 (field_text f)) fs → AllByRecursion (MaybeIn n) os → field_entries fs os ≡ Some es → AllByRecursion (EntryIn n) es
entries_in n [] [] es named all e = subst (AllByRecursion (EntryIn n)) (same_Some [] es e) tt
entries_in n [] (o ∷ os) es named all e = absurd (none-some es e)
entries_in n (f ∷ fs) [] es named all e = absurd (none-some es e)
entries_in n (f ∷ fs) (Some d ∷ os) es named all e =
    let x = map_from (λ r. entries_of f d ++ r) (field_entries fs os) es e in
    subst (AllByRecursion (EntryIn n)) (same_Some (entries_of f d ++ x.item) es x.made)
    (all_append (EntryIn n) (entries_of f d) x.item (one_entry n f d (is_implicit f.implicit d) named.0 all.0) (entries_in n fs os x.item named.1 all.1 x.there))
entries_in n (f ∷ fs) (None ∷ os) es named all e = entries_in n fs os es named.1 all.1 (if_from f.optional (field_entries fs os) es e).1

tuple_in : (n : ℕ) (fs : List Field) (os : List (Option Data)) (ds : List Data) → AllByRecursion (MaybeIn n) os → tuple_items fs os ≡ Some ds → AllByRecursion (TreeIn n) ds
tuple_in n [] [] ds all e = subst (AllByRecursion (TreeIn n)) (same_Some [] ds e) tt
tuple_in n [] (o ∷ os) ds all e = absurd (none-some ds e)
tuple_in n (f ∷ fs) [] ds all e = absurd (none-some ds e)
tuple_in n (f ∷ fs) (Some d ∷ os) ds all e =
    let x = map_from (λ r. d ∷ r) (tuple_items fs os) ds e in
    subst (AllByRecursion (TreeIn n)) (same_Some (d ∷ x.item) ds x.made) (all.0, tuple_in n fs os x.item all.1 x.there)
tuple_in n (f ∷ fs) (None ∷ os) ds all e =
    subst (AllByRecursion (TreeIn n)) (true_from (are_absent (f ∷ fs) (None ∷ os)) [] ds e).1 tt

all_in : (n : ℕ) (fs : List Field) (os : List (Option Data)) (ds : List Data) → AllByRecursion (MaybeIn n) os → all_items fs os ≡ Some ds → AllByRecursion (TreeIn n) ds
all_in n [] [] ds all e = subst (AllByRecursion (TreeIn n)) (same_Some [] ds e) tt
all_in n [] (o ∷ os) ds all e = absurd (none-some ds e)
all_in n (f ∷ fs) [] ds all e = absurd (none-some ds e)
all_in n (f ∷ fs) (Some d ∷ os) ds all e =
    let x = map_from (λ r. d ∷ r) (all_items fs os) ds e in
    subst (AllByRecursion (TreeIn n)) (same_Some (d ∷ x.item) ds x.made) (all.0, all_in n fs os x.item all.1 x.there)
all_in n (f ∷ fs) (None ∷ os) ds all e = absurd (none-some ds e)

-- ---- forms

unit_in : (n : ℕ) (form : UnitForm) → TreeIn (n + 1) (unit_data form)
unit_in n U.Null = scalar_in (n + 1) T.null tt refl
unit_in n U.True = scalar_in (n + 1) (T.boolean true) tt refl
unit_in n U.False = scalar_in (n + 1) (T.boolean false) tt refl
unit_in n U.EmptyMap = record { tree = tt; nested = omega arith }

struct_in : (n : ℕ) (form : StructForm) (fs : List Field) (os : List (Option Data)) (t : Data) → SpelledStruct form fs → AllByRecursion (MaybeIn n) os → struct_form form fs os ≡ Some t → TreeIn (n + struct_levels form) t
struct_in n S.Map fs os t u all e =
    let x = map_from (λ es. map_data (in_key_order es)) (field_entries fs os) t e in
    subst (TreeIn (n + 1)) (same_Some (map_data (in_key_order x.item)) t x.made) (map_in n (in_key_order x.item) (all_sorted (EntryIn n) x.item (entries_in n fs os x.item u.texts all x.there)) (rises_sorted x.item))
struct_in n S.Tuple fs os t u all e =
    let x = map_from (λ ds. T.list (T.items_of ds)) (tuple_items fs os) t e in
    subst (TreeIn (n + 1)) (same_Some (T.list (T.items_of x.item)) t x.made) (list_in n x.item (tuple_in n fs os x.item all x.there))
struct_in n S.ListPairs fs os t u all e =
    let x = map_from listpairs (field_entries fs os) t e in
    subst (TreeIn (n + 2)) (same_Some (listpairs x.item) t x.made) (listpairs_in n x.item (entries_in n fs os x.item u.texts all x.there))
struct_in n (S.StringPairs inner entry) fs os t u all e =
    let x = then_from (stringpairs inner entry) (field_entries fs os) t e in
    stringpairs_in n (n + 1) inner entry x.item t u.delims.0 u.delims.1 (entries_in n fs os x.item u.texts all x.there) x.made
struct_in n (S.StringJoin delim) fs os t u all e =
    let x = then_from (stringjoin delim) (all_items fs os) t e in
    stringjoin_in n (n + 1) delim x.item t u.delims (all_in n fs os x.item all x.there) x.made

-- what a map's form asks beyond trees in its entries
abbrev pub MapMore : Hamts → ℕ → MapForm → Layer Data → Type 0
MapMore at n MF.Map l = (ps : List (List ℕ × Data)) → as_map l ≡ Some ps → Rises ps
MapMore at n (MF.Hamt p) l = (t : Data) → at p l ≡ Some t → TreeIn (n + 5) t
MapMore at n form l = Unit {0}

abbrev pub TypeMore : Hamts → ℕ → TypeDef → Layer Data → Type 0
TypeMore at n (D.Map key key_at value place form) l = MapMore at n form l
TypeMore at n d l = Unit {0}

-- parts that are trees
abbrev pub LayerTrees : ℕ → Layer Data → Type 0
LayerTrees n (L.boolean b) = Unit {0}
LayerTrees n (L.integer i) = IsInt i
LayerTrees n (L.text s) = IsUtf8 s
LayerTrees n (L.bytes s) = AreBytes s
LayerTrees n (L.link s) = IsCid s × AreBytes s
LayerTrees n (L.any d) = IsTree d
LayerTrees n L.unit = Unit {0}
LayerTrees n (L.enum i) = Unit {0}
LayerTrees n (L.list ds) = AllByRecursion (TreeIn n) ds
LayerTrees n (L.map ps) = AllByRecursion (EntryIn n) ps
LayerTrees n (L.struct os) = AllByRecursion (MaybeIn n) os
LayerTrees n (L.union i d) = TreeIn n d
LayerTrees n (L.hamt d) = Unit {0}

map_entries : (n : ℕ) (l : Layer Data) (ps : List (List ℕ × Data)) → LayerTrees n l → as_map l ≡ Some ps → AllByRecursion (EntryIn n) ps
map_entries n l ps trees e = subst (LayerTrees n) (only_map l ps e) trees

map_trees : (at : Hamts) (n : ℕ) (form : MapForm) (l : Layer Data) (t : Data) → SpelledMap form → LayerTrees n l → MapMore at n form l → map_form at form l ≡ Some t → TreeIn (n + map_levels form) t
map_trees at n MF.Map l t u trees more e =
    let x = map_from map_data (as_map l) t e in
    subst (TreeIn (n + 1)) (same_Some (map_data x.item) t x.made) (map_in n x.item (map_entries n l x.item trees x.there) (more x.item x.there))
map_trees at n MF.ListPairs l t u trees more e =
    let x = map_from listpairs (as_map l) t e in
    subst (TreeIn (n + 2)) (same_Some (listpairs x.item) t x.made) (listpairs_in n x.item (map_entries n l x.item trees x.there))
map_trees at n (MF.StringPairs inner entry) l t u trees more e =
    let x = then_from (stringpairs inner entry) (as_map l) t e in
    stringpairs_in n (n + 1) inner entry x.item t u.0 u.1 (map_entries n l x.item trees x.there) x.made
map_trees at n (MF.Hamt p) l t u trees more e = more t e

is_map : (d : Data) (ms : List (List ℕ × Data)) → members_in d ≡ Some ms → (es : T.Members) × (d ≡ T.map es) × (T.members_list es ≡ ms)
is_map (T.map es) ms e = (es, refl, same_Some (T.members_list es) ms e)
is_map d ms e = absurd (none-some ms e)

marked_in : (n : ℕ) (form : UnionForm) (d t : Data) (name : List ℕ) → SpelledKeys form → TreeIn n d → IsUtf8 name → marked_form form d name ≡ Some t → TreeIn (n + 1) t
marked_in n UF.Keyed d t name keys x u e = subst (TreeIn (n + 1)) (same_Some (map_data ((name, d) ∷ [])) t e) (map_in n ((name, d) ∷ []) ((u, x), tt) (tt, tt))
marked_in n UF.Kinded d t name keys x u e = absurd (none-some t e)
marked_in n UF.StringPrefix d t name keys x u e =
    let y = map_from (λ s. T.text (name ++ s)) (text_in d) t e in
    subst (TreeIn (n + 1)) (same_Some (T.text (name ++ y.item)) t y.made) (text_is (n + 1) (name ++ y.item) (IsUtf8-append name y.item u (tree_text n d y.item x y.there)))
marked_in n UF.BytesPrefix d t name keys x u e =
    let y = then_from (λ front. option_map (λ s. T.bytes (front ++ s)) (bytes_in d)) (bytes_of_hex name) t e in
    let z = map_from (λ s. T.bytes (y.item ++ s)) (bytes_in d) t y.made in
    let tail : AreBytes z.item = subst IsTree (only_bytes_data d z.item z.there) x.tree in
    subst (TreeIn (n + 1)) (same_Some (T.bytes (y.item ++ z.item)) t z.made) (scalar_in (n + 1) (T.bytes (y.item ++ z.item)) (bytes_append y.item z.item (hex_are_bytes name y.item y.there) tail) refl)
marked_in n (UF.Envelope key content) d t name keys x u e =
    subst (TreeIn (n + 1)) (same_Some (map_data (put key (T.text name) ((content, d) ∷ []))) t e)
    (map_in n (put key (T.text name) ((content, d) ∷ [])) (all_put (EntryIn n) key (T.text name) ((content, d) ∷ []) (keys.0, text_is n name u) ((keys.1, x), tt))
    (rises_put key (T.text name) ((content, d) ∷ []) (tt, tt)))
marked_in n (UF.Inline key) d t name keys x u e =
    let y = then_from (inlined key name) (members_in d) t e in
    let z = true_from (is_none (value_at key y.item)) (map_data (put key (T.text name) y.item)) t y.made in
    let m = is_map d y.item y.there in
    let tree : TreeIn n (T.map m.0) = subst (TreeIn n) m.1 x in
    let all = by n m.0 tree in
    let good : AllByRecursion (EntryIn n) y.item = subst (AllByRecursion (EntryIn n)) m.2 all.0 in
    let up : Rises y.item = subst Rises m.2 all.1 in
    subst (TreeIn (n + 1)) z.1 (map_in n (put key (T.text name) y.item) (all_put (EntryIn n) key (T.text name) y.item (keys, text_is n name u) good) (rises_put key (T.text name) y.item up))
  where
    by : (n : ℕ) (es : T.Members) → TreeIn n (T.map es) → AllByRecursion (EntryIn n) (T.members_list es) × Rises (T.members_list es)
    by n es tree = entries_all n es tree.tree (omega (arith, tree.nested))

mark_utf8 : (m : Member) (name : List ℕ) → IfSome (mark_text m.mark) IsUtf8 → mark_text m.mark ≡ Some name → IsUtf8 name
mark_utf8 m name u e = subst (λ o. IfSome o IsUtf8) e u

abbrev IsMarkText : Member → Type 0
IsMarkText m = IfSome (mark_text m.mark) IsUtf8

member_in : (n : ℕ) (form : UnionForm) (d t : Data) (m : Member) → SpelledKeys form → TreeIn n d → IsMarkText m → member_form form d m ≡ Some t → TreeIn (n + 1) t
member_in n UF.Kinded d t m keys x u e =
    let y = then_from (λ k. cond (same_kind k (kind_word_of d)) (Some d) None) (mark_kind m.mark) t e in
    subst (TreeIn (n + 1)) (true_from (same_kind y.item (kind_word_of d)) d t y.made).1 (in_more n (n + 1) d (omega arith) x)
member_in n UF.Keyed d t m keys x u e = let y = then_from (marked_form UF.Keyed d) (mark_text m.mark) t e in marked_in n UF.Keyed d t y.item keys x (mark_utf8 m y.item u y.there) y.made
member_in n UF.StringPrefix d t m keys x u e = let y = then_from (marked_form UF.StringPrefix d) (mark_text m.mark) t e in marked_in n UF.StringPrefix d t y.item keys x (mark_utf8 m y.item u y.there) y.made
member_in n UF.BytesPrefix d t m keys x u e = let y = then_from (marked_form UF.BytesPrefix d) (mark_text m.mark) t e in marked_in n UF.BytesPrefix d t y.item keys x (mark_utf8 m y.item u y.there) y.made
member_in n (UF.Envelope key content) d t m keys x u e =
    let y = then_from (marked_form (UF.Envelope key content) d) (mark_text m.mark) t e in marked_in n (UF.Envelope key content) d t y.item keys x (mark_utf8 m y.item u y.there) y.made
member_in n (UF.Inline key) d t m keys x u e = let y = then_from (marked_form (UF.Inline key) d) (mark_text m.mark) t e in marked_in n (UF.Inline key) d t y.item keys x (mark_utf8 m y.item u y.there) y.made

enum_in : (n : ℕ) (form : EnumForm) (m : EnumMember) (t : Data) → IsUtf8 (unwrap_or m.text m.name) → enum_form form m ≡ Some t → TreeIn n t
enum_in n E.Text m t u e = subst (TreeIn n) (same_Some (T.text (unwrap_or m.text m.name)) t e) (text_is n (unwrap_or m.text m.name) u)
enum_in n E.Int m t u e =
    let x = map_from T.integer (option_and_then decimal_of m.text) t e in
    let y = then_from decimal_of m.text x.item x.there in
    subst (TreeIn n) (same_Some (T.integer x.item) t x.made) (scalar_in n (T.integer x.item) (decimal_is_int y.item x.item y.made) refl)

-- the room that a form needs above its parts
abbrev pub IsEnough : ℕ → ℕ → TypeDef → Layer Data → Type 0
IsEnough n m D.Any l = (x : Data) → as_any l ≡ Some x → depth x ≤ m
IsEnough n m d l = n + levels_of d V.null ≤ m

any_is : (d t : Data) → any_data d ≡ Some t → d ≡ t
any_is T.null t e = absurd (none-some t e)
any_is (T.boolean b) t e = same_Some (T.boolean b) t e
any_is (T.integer n) t e = same_Some (T.integer n) t e
any_is (T.text s) t e = same_Some (T.text s) t e
any_is (T.bytes s) t e = same_Some (T.bytes s) t e
any_is (T.list ds) t e = same_Some (T.list ds) t e
any_is (T.map ms) t e = same_Some (T.map ms) t e
any_is (T.link s) t e = same_Some (T.link s) t e

pub composed_in : (at : Hamts) (n m : ℕ) (d : TypeDef) (l : Layer Data) (t : Data) → SpelledType d → LayerTrees n l → TypeMore at n d l → IsEnough n m d l → composed at d l ≡ Some t → TreeIn m t
composed_in at n m D.Bool l t u trees more enough e =
    let x = map_from T.boolean (as_boolean l) t e in subst (TreeIn m) (same_Some (T.boolean x.item) t x.made) (scalar_in m (T.boolean x.item) tt refl)
composed_in at n m D.Text l t u trees more enough e =
    let x = map_from T.text (as_text l) t e in
    let good : IsUtf8 x.item = subst (LayerTrees n) (only_text l x.item x.there) trees in
    subst (TreeIn m) (same_Some (T.text x.item) t x.made) (text_is m x.item good)
composed_in at n m D.Bytes l t u trees more enough e =
    let x = map_from T.bytes (as_bytes l) t e in
    let good : AreBytes x.item = subst (LayerTrees n) (only_bytes l x.item x.there) trees in
    subst (TreeIn m) (same_Some (T.bytes x.item) t x.made) (scalar_in m (T.bytes x.item) good refl)
composed_in at n m D.Int l t u trees more enough e =
    let x = map_from T.integer (as_integer l) t e in
    let good : IsInt x.item = subst (LayerTrees n) (only_integer l x.item x.there) trees in
    subst (TreeIn m) (same_Some (T.integer x.item) t x.made) (scalar_in m (T.integer x.item) good refl)
composed_in at n m D.Any l t u trees more enough e =
    let x = then_from any_data (as_any l) t e in
    let good : IsTree x.item = subst (LayerTrees n) (only_any l x.item x.there) trees in
    subst (TreeIn m) (any_is x.item t x.made) (record { tree = good; nested = enough x.item x.there })
composed_in at n m (D.Link target) l t u trees more enough e =
    let x = map_from T.link (as_link l) t e in
    let good : IsCid x.item × AreBytes x.item = subst (LayerTrees n) (only_link l x.item x.there) trees in
    subst (TreeIn m) (same_Some (T.link x.item) t x.made) (scalar_in m (T.link x.item) good refl)
composed_in at n m (D.Unit form) l t u trees more enough e =
    let x = map_from (λ y. unit_data form) (as_unit l) t e in
    subst (TreeIn m) (same_Some (unit_data form) t x.made) (in_more (n + 1) m (unit_data form) enough (unit_in n form))
composed_in at n m (D.List elem place) l t u trees more enough e =
    let x = map_from (λ ds. T.list (T.items_of ds)) (as_list l) t e in
    let good : AllByRecursion (TreeIn n) x.item = subst (LayerTrees n) (only_list l x.item x.there) trees in
    subst (TreeIn m) (same_Some (T.list (T.items_of x.item)) t x.made) (in_more (n + 1) m (T.list (T.items_of x.item)) enough (list_in n x.item good))
composed_in at n m (D.Map key key_at value place form) l t u trees more enough e =
    in_more (n + map_levels form) m t enough (map_trees at n form l t u trees more e)
composed_in at n m (D.Struct s) l t u trees more enough e =
    let x = then_from (struct_form s.form s.fields) (as_struct l) t e in
    let good : AllByRecursion (MaybeIn n) x.item = subst (LayerTrees n) (only_struct l x.item x.there) trees in
    in_more (n + struct_levels s.form) m t enough (struct_in n s.form s.fields x.item t u good x.made)
composed_in at n m (D.Union un) l t u trees more enough e =
    let x = then_from (union_form un.form un.members) (as_union l) t e in
    let good : TreeIn n x.item.1 = subst (LayerTrees n) (only_union l x.item x.there) trees in
    let y = then_from (member_form un.form x.item.1) (slice_get un.members x.item.0) t x.made in
    in_more (n + 1) m t enough (member_in n un.form x.item.1 t y.item u.keys good (all_at IsMarkText un.members x.item.0 y.item u.marks y.there) y.made)
composed_in at n m (D.Enum en) l t u trees more enough e =
    let x = then_from (λ i. option_and_then (enum_form en.form) (slice_get en.members i)) (as_enum l) t e in
    let y = then_from (enum_form en.form) (slice_get en.members x.item) t x.made in
    enum_in m en.form y.item t (all_at (λ k. IsUtf8 (unwrap_or k.text k.name)) en.members x.item y.item u y.there) y.made
composed_in at n m (D.Copy target) l t u trees more enough e = absurd (none-some t e)
