-- The parts of a tree's layer are trees.
use Rattle.std.proofs.Common.{◌≡◌, ℕ, ◌+◌, List, [], ◌∷◌, ◌++◌, map, Bool, true, false, cond, Option, Some, None, option_map, IsUtf8, refl, sym, ◌∙◌, ap, subst}
use Rattle.std.specs.Prelude.{IfSome, slice_get, option_and_then, is_none}
use Rattle.std.specs.Option.{option_map_or}
use Rattle.std.specs.List.{AllByRecursion, flat_map}
use Rattle.std.specs.Cmp.Lexicographic.{same_text as text_same, other_text}
use Rattle.std.proofs.lemmas.Option.{same_Some, none-some}
use Rattle.std.proofs.lemmas.Bool.{and_parts}
use Rattle.ild_data.proofs.Options.{none_is}
use Rattle.ild_data.proofs.AllOf.{all_at}
use Rattle.ild_data.specs.Data as T
use Rattle.ild_data.specs.Data.{Data}
use Rattle.ild_data.specs.Bytes.{AreBytes}
use Rattle.ild_data.specs.Key.{same_text, put, value_at, without, IsBelow, Rises}
use Rattle.ild_data.specs.Tree.{IsTree, AreTrees, AreEntries}
use Rattle.ild_data.specs.Trie as Trie
use Rattle.ild_data.specs.Trie.{entry_data, elements_of, node_data}
use Rattle.ild_data.proofs.Lists.{members_list-members_of}
use Rattle.ild_data.proofs.Rising.{rises_list, rises_without}
use Rattle.ild_data.specs.declared.hamt_shape.HamtShape.{HamtShape}
use Rattle.ild_schema.specs.declared.number.Slot.{Slot}
use Rattle.ild_schema.specs.declared.number.TypeNo.{TypeNo}
use Rattle.ild_schema.specs.declared.def.TypeDef.{TypeDef}
use Rattle.ild_schema.specs.declared.def.TypeDef.TheVariants as D
use Rattle.ild_schema.specs.declared.def.MapForm.{MapForm}
use Rattle.ild_schema.specs.declared.def.MapForm.TheVariants as MF
use Rattle.ild_schema.specs.declared.def.StructForm.{StructForm}
use Rattle.ild_schema.specs.declared.def.StructForm.TheVariants as S
use Rattle.ild_schema.specs.declared.def.UnionForm.{UnionForm}
use Rattle.ild_schema.specs.declared.def.UnionForm.TheVariants as UF
use Rattle.ild_schema.specs.declared.def.Field.{Field}
use Rattle.ild_schema.specs.declared.def.Member.{Member}
use Rattle.ild_schema.specs.declared.def.Scalar.{Scalar}
use Rattle.ild_schema.specs.declared.def.Scalar.TheVariants as C
use Rattle.ild_schema.specs.Marks.{field_text, mark_text, mark_kind}
use Rattle.ild_schema.specs.DataKinds.{same_kind}
use Rattle.ild_data.specs.Hex.{bytes_of_hex}
use Rattle.ild_schema.specs.Clear.{IsGiven, AreNamesApart, ClearStruct, ClearMap, KeysApart, ClearType}
use Rattle.ild_schema.specs.Delims.{HasDelims, MapDelims, Delims}
use Rattle.ild_schema.specs.Spelled.{SpelledStruct, SpelledMap, SpelledType, SpelledScalar, ImplicitType}
use Rattle.ild_typed.specs.Layer as L
use Rattle.ild_typed.specs.Layer.{Layer, as_list, as_struct, as_union}
use Rattle.ild_typed.specs.Kinds.{kind_word_of}
use Rattle.ild_typed.specs.Texts.{join, join_pairs}
use Rattle.ild_typed.specs.Fields.{is_implicit, field_entries, are_absent, tuple_items, all_items}
use Rattle.ild_typed.specs.Strings.{text_in, bytes_in, members_in, texts_in, text_pairs, in_key_order, map_data, pair_data, listpairs, stringpairs, stringjoin}
use Rattle.ild_typed.specs.Composed.{composed, map_form, struct_form, inlined, marked_form, member_form, union_form}
use Rattle.ild_typed.specs.Hamt.{alone, root_map}
use Rattle.ild_typed.specs.Node.{IsSlot, IsRoot}
use Rattle.ild_typed.specs.Spots.{Spot, value_spot, element_spots, entry_spots, field_steps, field_spots, member_spots, spots_of}
use Rattle.ild_typed.specs.RootSpots.{bucket_spots, root_spots}
use Rattle.ild_typed.specs.Refused.{AreParts}
use Rattle.ild_typed.proofs.Basics.{then_from, map_from, true_from}
use Rattle.ild_typed.proofs.Entries.{both_from, only_text_data, only_bytes_data, value_sorted, value_put, value_first}
use Rattle.ild_typed.proofs.Onlies.{only_list, only_struct, only_union}
use Rattle.ild_typed.proofs.Structs.{scalar_data, scalar_same, written, field_from, look, past, not_there}
use Rattle.ild_typed.proofs.CleanStructs.{pairs_are_texts}
use Rattle.ild_typed.proofs.PieceTexts.{behind_text, join_parts_text, join_pairs_text}
use Rattle.ild_typed.proofs.Unions.{without_put, only_map_data}
use Rattle.ild_typed.proofs.Utf8Texts.{ArePairs}

abbrev pub AllTrees : List Spot → Type 0
AllTrees ps = AllByRecursion (λ p. IsTree p.tree) ps

-- an entry of a map of trees
abbrev IsEntry : List ℕ × Data → Type 0
IsEntry e = IsUtf8 e.0 × IsTree e.1

abbrev MaybeTree : Option Data → Type 0
MaybeTree o = IfSome o IsTree

-- ---- lists and maps

items_trees : (ds : List Data) → AreTrees (T.items_of ds) → AllByRecursion IsTree ds
items_trees [] all = tt
items_trees (d ∷ ds) all = (all.0, items_trees ds all.1)

members_entries : (ps : List (List ℕ × Data)) → AreEntries (T.members_of ps) → AllByRecursion IsEntry ps
members_entries [] all = tt
members_entries (p ∷ ps) all = ((all.0, all.1), members_entries ps all.3)

pairs_entries : (ps : List (List ℕ × Data)) → AreTrees (T.items_of (map pair_data ps)) → AllByRecursion IsEntry ps
pairs_entries [] all = tt
pairs_entries (p ∷ ps) all = ((all.0.0, all.0.1.0), pairs_entries ps all.1)

entries_members : (ps : List (List ℕ × Data)) → AllByRecursion IsEntry ps → Rises ps → AreEntries (T.members_of ps)
entries_members [] all up = tt
entries_members (p ∷ ps) all up =
    (all.0.0, all.0.1, subst (IsBelow p.0) (sym (members_list-members_of ps)) up.0, entries_members ps all.1 up.1)

value_tree : (q : List ℕ) (d : Data) (es : List (List ℕ × Data)) → AllByRecursion IsEntry es → value_at q es ≡ Some d → IsTree d
value_tree q d [] all e = absurd (none-some d e)
value_tree q d (m ∷ ms) all e = by (same_text q m.0) (value_tree q d ms all.1) e where
  by : (b : Bool) → (value_at q ms ≡ Some d → IsTree d) → cond b (Some m.1) (value_at q ms) ≡ Some d → IsTree d
  by true later h = subst IsTree (same_Some m.1 d h) all.0.1
  by false later h = later h

-- ---- texts of parts

text_entries : (ts : List (List ℕ × List ℕ)) → ArePairs ts → AllByRecursion IsEntry (map {B = List ℕ × Data} (λ p. (p.0, T.text p.1)) ts)
text_entries [] all = tt
text_entries (t ∷ ts) all = (all.0, text_entries ts all.1)

stringpairs_entries : (inner entry : List ℕ) (es : List (List ℕ × Data)) (t : Data) → IsGiven inner → IsGiven entry → IsUtf8 inner → IsUtf8 entry
    → stringpairs inner entry es ≡ Some t → IsTree t → AllByRecursion IsEntry es
stringpairs_entries inner entry es t given more i u e tree =
    let x = map_from T.text (option_and_then (join_pairs inner entry) (text_pairs es)) t e in
    let y = then_from (join_pairs inner entry) (text_pairs es) x.item x.there in
    let whole : IsUtf8 x.item = subst IsTree (sym (same_Some (T.text x.item) t x.made)) tree in
    subst (AllByRecursion IsEntry) (pairs_are_texts es y.item y.there) (text_entries y.item (join_pairs_text inner entry y.item x.item given more i u y.made whole))

texts_trees : (ds : List Data) (ts : List (List ℕ)) → texts_in ds ≡ Some ts → AllByRecursion IsUtf8 ts → AllByRecursion IsTree ds
texts_trees [] ts e all = tt
texts_trees (d ∷ ds) ts e all =
    let b = both_from (text_in d) (texts_in ds) ts e in
    let own : AllByRecursion IsUtf8 (b.item ∷ b.items) = subst (AllByRecursion IsUtf8) (sym b.all) all in
    (subst IsTree (sym (only_text_data d b.item b.first)) own.0, texts_trees ds b.items b.rest own.1)

stringjoin_trees : (delim : List ℕ) (ds : List Data) (t : Data) → IsGiven delim → IsUtf8 delim → stringjoin delim ds ≡ Some t → IsTree t → AllByRecursion IsTree ds
stringjoin_trees delim ds t given u e tree =
    let x = map_from T.text (option_and_then (join delim) (texts_in ds)) t e in
    let y = then_from (join delim) (texts_in ds) x.item x.there in
    let whole : IsUtf8 x.item = subst IsTree (sym (same_Some (T.text x.item) t x.made)) tree in
    texts_trees ds y.item y.there (join_parts_text delim y.item x.item given u y.made whole)

-- ---- fields

implicit_tree : (o : Option Scalar) (d : Data) → IfSome o SpelledScalar → is_implicit o d ≡ true → IsTree d
implicit_tree None d spelled e = absurd cc
implicit_tree (Some s) d spelled e = subst IsTree (sym (scalar_same s d e)) (by s spelled) where
  by : (s : Scalar) → SpelledScalar s → IsTree (scalar_data s)
  by (C.Bool b) u = tt
  by (C.Int n) u = u
  by (C.Text x) u = u

fields_trees : (fs : List Field) (os : List (Option Data)) (es : List (List ℕ × Data)) → AreNamesApart fs → AllByRecursion (λ f. IfSome f.implicit SpelledScalar) fs
    → field_entries fs os ≡ Some es → ((q : List ℕ) (d : Data) → value_at q es ≡ Some d → IsTree d) → AllByRecursion MaybeTree os
fields_trees fs [] es apart implicits e each = tt
fields_trees [] (o ∷ os) es apart implicits e each = absurd (none-some es e)
fields_trees (f ∷ fs) (o ∷ os) es apart implicits e each =
    let x = field_from f fs o os es e in
    let none = not_there (field_text f) fs os x.rest apart.0 x.later in
    let found : (q : List ℕ) (d : Data) → value_at q (written f o ++ x.rest) ≡ Some d → IsTree d = λ q d h. each q d (ap (value_at q) x.is ∙ h) in
    (own o x.rest (look f o x.rest none) found, fields_trees fs os x.rest apart.1 implicits.1 x.later (λ q d h. found q d (keep o x.rest none q d h (same_text q (field_text f)) refl)))
  where
    shown_in : Option Data → Option Data
    shown_in None = None
    shown_in (Some d) = cond (is_implicit f.implicit d) None (Some d)

    own : (o : Option Data) (rest : List (List ℕ × Data)) → value_at (field_text f) (written f o ++ rest) ≡ shown_in o
        → ((q : List ℕ) (d : Data) → value_at q (written f o ++ rest) ≡ Some d → IsTree d) → MaybeTree o
    own None rest seen found = tt
    own (Some d) rest seen found = by (is_implicit f.implicit d) refl where
      by : (b : Bool) → is_implicit f.implicit d ≡ b → IsTree d
      by true is = implicit_tree f.implicit d implicits.0 is
      by false is = found (field_text f) d (seen ∙ ap (λ b. cond b None (Some d)) is)

    keep : (o : Option Data) (rest : List (List ℕ × Data)) → value_at (field_text f) rest ≡ None → (q : List ℕ) (d : Data) → value_at q rest ≡ Some d
        → (b : Bool) → b ≡ same_text q (field_text f) → value_at q (written f o ++ rest) ≡ Some d
    keep o rest none q d h true is = absurd (none-some d (sym none ∙ ap (λ k. value_at k rest) (sym (text_same q (field_text f) is)) ∙ h))
    keep o rest none q d h false is = past q f o rest (other_text q (field_text f) is) ∙ h

absent_trees : (fs : List Field) (os : List (Option Data)) → are_absent fs os ≡ true → AllByRecursion MaybeTree os
absent_trees fs [] e = tt
absent_trees [] (o ∷ os) e = absurd cc
absent_trees (f ∷ fs) (Some d ∷ os) e = absurd cc
absent_trees (f ∷ fs) (None ∷ os) e = (tt, absent_trees fs os (and_parts f.optional (are_absent fs os) e).1)

tuple_trees : (fs : List Field) (os : List (Option Data)) (ds : List Data) → tuple_items fs os ≡ Some ds → AllByRecursion IsTree ds → AllByRecursion MaybeTree os
tuple_trees fs [] ds e all = tt
tuple_trees [] (o ∷ os) ds e all = absurd (none-some ds e)
tuple_trees (f ∷ fs) (Some d ∷ os) ds e all =
    let x = map_from (λ r. d ∷ r) (tuple_items fs os) ds e in
    let own : AllByRecursion IsTree (d ∷ x.item) = subst (AllByRecursion IsTree) (sym (same_Some (d ∷ x.item) ds x.made)) all in
    (own.0, tuple_trees fs os x.item x.there own.1)
tuple_trees (f ∷ fs) (None ∷ os) ds e all = absent_trees (f ∷ fs) (None ∷ os) (true_from (are_absent (f ∷ fs) (None ∷ os)) [] ds e).0

joined_trees : (fs : List Field) (os : List (Option Data)) (ds : List Data) → all_items fs os ≡ Some ds → AllByRecursion IsTree ds → AllByRecursion MaybeTree os
joined_trees fs [] ds e all = tt
joined_trees [] (o ∷ os) ds e all = absurd (none-some ds e)
joined_trees (f ∷ fs) (Some d ∷ os) ds e all =
    let x = map_from (λ r. d ∷ r) (all_items fs os) ds e in
    let own : AllByRecursion IsTree (d ∷ x.item) = subst (AllByRecursion IsTree) (sym (same_Some (d ∷ x.item) ds x.made)) all in
    (own.0, joined_trees fs os x.item x.there own.1)
joined_trees (f ∷ fs) (None ∷ os) ds e all = absurd (none-some ds e)

join_given : (delim : List ℕ) (fs : List Field) → HasDelims (S.StringJoin delim) fs → IsGiven delim
join_given delim [] h = absurd h
join_given delim (f ∷ fs) h = h

struct_trees : (form : StructForm) (fs : List Field) (os : List (Option Data)) (t : Data) → ClearStruct form fs → HasDelims form fs → SpelledStruct form fs
    → AllByRecursion (λ f. IfSome f.implicit SpelledScalar) fs → struct_form form fs os ≡ Some t → IsTree t → AllByRecursion MaybeTree os
struct_trees S.Map fs os t clear delims u implicits e tree =
    let x = map_from (λ es. map_data (in_key_order es)) (field_entries fs os) t e in
    let all = members_entries (in_key_order x.item) (subst IsTree (sym (same_Some (map_data (in_key_order x.item)) t x.made)) tree) in
    fields_trees fs os x.item clear.apart implicits x.there (λ q d h. value_tree q d (in_key_order x.item) all (value_sorted q x.item ∙ h))
struct_trees S.Tuple fs os t clear delims u implicits e tree =
    let x = map_from (λ ds. T.list (T.items_of ds)) (tuple_items fs os) t e in
    tuple_trees fs os x.item x.there (items_trees x.item (subst IsTree (sym (same_Some (T.list (T.items_of x.item)) t x.made)) tree))
struct_trees S.ListPairs fs os t clear delims u implicits e tree =
    let x = map_from listpairs (field_entries fs os) t e in
    let all = pairs_entries x.item (subst IsTree (sym (same_Some (listpairs x.item) t x.made)) tree) in
    fields_trees fs os x.item clear.apart implicits x.there (λ q d h. value_tree q d x.item all h)
struct_trees (S.StringPairs inner entry) fs os t clear delims u implicits e tree =
    let x = then_from (stringpairs inner entry) (field_entries fs os) t e in
    let all = stringpairs_entries inner entry x.item t clear.1 delims u.delims.0 u.delims.1 x.made tree in
    fields_trees fs os x.item clear.0.apart implicits x.there (λ q d h. value_tree q d x.item all h)
struct_trees (S.StringJoin delim) fs os t clear delims u implicits e tree =
    let x = then_from (stringjoin delim) (all_items fs os) t e in
    joined_trees fs os x.item x.there (stringjoin_trees delim x.item t (join_given delim fs delims) u.delims x.made tree)

-- ---- entries of maps

map_entries : (form : MapForm) (ps : List (List ℕ × Data)) (t : Data) → ClearMap form → MapDelims form → SpelledMap form → map_form alone form (L.map ps) ≡ Some t → IsTree t → AllByRecursion IsEntry ps
map_entries MF.Map ps t clear delims u e tree = members_entries ps (subst IsTree (sym (same_Some (map_data ps) t e)) tree)
map_entries MF.ListPairs ps t clear delims u e tree = pairs_entries ps (subst IsTree (sym (same_Some (listpairs ps) t e)) tree)
map_entries (MF.StringPairs inner entry) ps t clear delims u e tree = stringpairs_entries inner entry ps t clear delims u.0 u.1 e tree
map_entries (MF.Hamt p) ps t clear delims u e tree = absurd (none-some t e)

-- ---- members of unions

bytes_behind : (s t : List ℕ) → AreBytes (s ++ t) → AreBytes t
bytes_behind [] t all = all
bytes_behind (c ∷ s) t all = bytes_behind s t all.1

entries_without : (k : List ℕ) (ps : List (List ℕ × Data)) → AllByRecursion IsEntry ps → AllByRecursion IsEntry (without k ps)
entries_without k [] all = tt
entries_without k (p ∷ ps) all = by (same_text k p.0) (entries_without k ps all.1) where
  by : (b : Bool) → AllByRecursion IsEntry (without k ps) → AllByRecursion IsEntry (cond b ps (p ∷ without k ps))
  by true rest = all.1
  by false rest = (all.0, rest)

rises_of : (ps : List (List ℕ × Data)) → AreEntries (T.members_of ps) → Rises ps
rises_of ps all = rises_list ps all

pub content_found : (key content : List ℕ) (name d : Data) → (key ≡ content → ⊥) → value_at content (put key name ((content, d) ∷ [])) ≡ Some d
content_found key content name d apart =
    value_put content key name ((content, d) ∷ []) ∙ by (same_text content key) refl
  where
    by : (b : Bool) → b ≡ same_text content key → cond b (Some name) (value_at content ((content, d) ∷ [])) ≡ Some d
    by true is = absurd (apart (sym (text_same content key is)))
    by false is = value_first content d []

marked_tree : (form : UnionForm) (d t : Data) (name : List ℕ) → KeysApart form → IsUtf8 name → marked_form form d name ≡ Some t → IsTree t → IsTree d
marked_tree UF.Keyed d t name keys u e tree = let own : IsTree (map_data ((name, d) ∷ [])) = subst IsTree (sym (same_Some (map_data ((name, d) ∷ [])) t e)) tree in own.1
marked_tree UF.Kinded d t name keys u e tree = absurd (none-some t e)
marked_tree UF.StringPrefix d t name keys u e tree =
    let y = map_from (λ s. T.text (name ++ s)) (text_in d) t e in
    let whole : IsUtf8 (name ++ y.item) = subst IsTree (sym (same_Some (T.text (name ++ y.item)) t y.made)) tree in
    subst IsTree (sym (only_text_data d y.item y.there)) (behind_text name y.item u whole)
marked_tree UF.BytesPrefix d t name keys u e tree =
    let y = then_from (λ front. option_map (λ s. T.bytes (front ++ s)) (bytes_in d)) (bytes_of_hex name) t e in
    let z = map_from (λ s. T.bytes (y.item ++ s)) (bytes_in d) t y.made in
    let whole : AreBytes (y.item ++ z.item) = subst IsTree (sym (same_Some (T.bytes (y.item ++ z.item)) t z.made)) tree in
    subst IsTree (sym (only_bytes_data d z.item z.there)) (bytes_behind y.item z.item whole)
marked_tree (UF.Envelope key content) d t name keys u e tree =
    let es : List (List ℕ × Data) = put key (T.text name) ((content, d) ∷ []) in
    let all = members_entries es (subst IsTree (sym (same_Some (map_data es) t e)) tree) in
    value_tree content d es all (content_found key content (T.text name) d keys)
marked_tree (UF.Inline key) d t name keys u e tree =
    let y = then_from (inlined key name) (members_in d) t e in
    let z = true_from (is_none (value_at key y.item)) (map_data (put key (T.text name) y.item)) t y.made in
    let whole : IsTree (map_data (put key (T.text name) y.item)) = subst IsTree (sym z.1) tree in
    let back = without_put key (T.text name) y.item (none_is (value_at key y.item) z.0) in
    let all = subst (AllByRecursion IsEntry) back (entries_without key (put key (T.text name) y.item) (members_entries (put key (T.text name) y.item) whole)) in
    let up = subst Rises back (rises_without key (put key (T.text name) y.item) (rises_of (put key (T.text name) y.item) whole)) in
    subst IsTree (sym (only_map_data d y.item y.there)) (entries_members y.item all up)

marked : (form : UnionForm) (d t : Data) (m : Member) → KeysApart form → IfSome (mark_text m.mark) IsUtf8 → option_and_then (marked_form form d) (mark_text m.mark) ≡ Some t → IsTree t → IsTree d
marked form d t m keys u e tree =
    let y = then_from (marked_form form d) (mark_text m.mark) t e in
    marked_tree form d t y.item keys (subst (λ o. IfSome o IsUtf8) y.there u) y.made tree

member_tree : (form : UnionForm) (d t : Data) (m : Member) → KeysApart form → IfSome (mark_text m.mark) IsUtf8 → member_form form d m ≡ Some t → IsTree t → IsTree d
member_tree UF.Kinded d t m keys u e tree =
    let y = then_from (λ k. cond (same_kind k (kind_word_of d)) (Some d) None) (mark_kind m.mark) t e in
    subst IsTree (sym (true_from (same_kind y.item (kind_word_of d)) d t y.made).1) tree
member_tree UF.Keyed d t m keys u e tree = marked UF.Keyed d t m keys u e tree
member_tree UF.StringPrefix d t m keys u e tree = marked UF.StringPrefix d t m keys u e tree
member_tree UF.BytesPrefix d t m keys u e tree = marked UF.BytesPrefix d t m keys u e tree
member_tree (UF.Envelope key content) d t m keys u e tree = marked (UF.Envelope key content) d t m keys u e tree
member_tree (UF.Inline key) d t m keys u e tree = marked (UF.Inline key) d t m keys u e tree

-- ---- the parts of a layer

elements_trees : (s : Slot) (n : ℕ) (ds : List Data) → AllByRecursion IsTree ds → AllTrees (element_spots s n ds)
elements_trees s n [] all = tt
elements_trees s n (d ∷ ds) all = (all.0, elements_trees s (n + 1) ds all.1)

entries_trees : (form : MapForm) (key : TypeNo) (s : Slot) (i : ℕ) (es : List (List ℕ × Data)) → AllByRecursion IsEntry es → AllTrees (entry_spots form key s i es)
entries_trees form key s i [] all = tt
entries_trees form key s i (e ∷ es) all = (all.0.0, (all.0.1, entries_trees form key s (i + 1) es all.1))

written_trees : (form : StructForm) (n : ℕ) (fs : List Field) (os : List (Option Data)) → AllByRecursion MaybeTree os → AllTrees (field_spots form n fs os)
written_trees form n [] os all = tt
written_trees form n (f ∷ fs) [] all = tt
written_trees form n (f ∷ fs) (None ∷ os) all = written_trees form n fs os all.1
written_trees form n (f ∷ fs) (Some d ∷ os) all = by (is_implicit f.implicit d) (λ m. written_trees form m fs os all.1) where
  by : (b : Bool) → ((m : ℕ) → AllTrees (field_spots form m fs os))
      → AllTrees (cond b (value_spot f.slot d [] ∷ field_spots form n fs os) (value_spot f.slot d (field_steps form f n) ∷ field_spots form (n + 1) fs os))
  by true rest = (all.0, rest n)
  by false rest = (all.0, rest (n + 1))

-- ---- the entries in the block of a HAMT's root

bucket_values : (es : List (List ℕ × Data)) → AreTrees (T.items_of (map entry_data es)) → AllByRecursion (λ e. IsTree e.1) es
bucket_values [] all = tt
bucket_values (e ∷ es) all = (all.0.1.0, bucket_values es all.1)

bucket_trees : (key : TypeNo) (s : Slot) (n i : ℕ) (es : List (List ℕ × Data)) → AllByRecursion (λ e. IsUtf8 e.0) es → AllByRecursion (λ e. IsTree e.1) es → AllTrees (bucket_spots key s n i es)
bucket_trees key s n i [] keys all = tt
bucket_trees key s n i (e ∷ es) keys all = (keys.0, (all.0, bucket_trees key s n (i + 1) es keys.1 all.1))

append_trees : (ps qs : List Spot) → AllTrees ps → AllTrees qs → AllTrees (ps ++ qs)
append_trees [] qs a b = b
append_trees (p ∷ ps) qs a b = (a.0, append_trees ps qs a.1 b)

slots_trees : (p : HamtShape) (key : TypeNo) (s : Slot) (n : ℕ) (slots : List Trie.TrieSlot) → AllByRecursion (IsSlot p) slots → AllByRecursion IsTree (flat_map elements_of slots) → AllTrees (root_spots key s n slots)
slots_trees p key s n [] each all = tt
slots_trees p key s n (Trie.empty ∷ slots) each all = slots_trees p key s n slots each.1 all
slots_trees p key s n (Trie.bucket es ∷ slots) each all =
    append_trees (bucket_spots key s n 0 es) (root_spots key s (n + 1) slots) (bucket_trees key s n 0 es each.0.3 (bucket_values es all.0)) (slots_trees p key s (n + 1) slots each.1 all.1)
slots_trees p key s n (Trie.child id ∷ slots) each all = slots_trees p key s (n + 1) slots each.1 all.1

hamt_trees : (p : HamtShape) (key : TypeNo) (s : Slot) (slots : List Trie.TrieSlot) (t : Data) → IsRoot p slots t → IsTree t → AllTrees (root_spots key s 0 slots)
hamt_trees p key s slots t root tree =
    let whole : IsTree (root_map p (node_data slots)) = subst IsTree root.tree tree in
    slots_trees p key s 0 slots root.each (items_trees (flat_map elements_of slots) whole.1.1.0)

-- ---- all forms

layer_trees : (d : TypeDef) (l : Layer Data) (t : Data) → ClearType d → Delims d → SpelledType d → ImplicitType d → composed alone d l ≡ Some t → IsTree t → AllTrees (spots_of d l)
layer_trees (D.List elem at) l t clear delims u implicits e tree =
    let x = map_from (λ ds. T.list (T.items_of ds)) (as_list l) t e in
    let all = items_trees x.item (subst IsTree (sym (same_Some (T.list (T.items_of x.item)) t x.made)) tree) in
    subst (λ k. AllTrees (spots_of (D.List elem at) k)) (sym (only_list l x.item x.there)) (elements_trees elem 0 x.item all)
layer_trees (D.Struct st) l t clear delims u implicits e tree =
    let x = then_from (struct_form st.form st.fields) (as_struct l) t e in
    subst (λ k. AllTrees (spots_of (D.Struct st) k)) (sym (only_struct l x.item x.there))
    (written_trees st.form 0 st.fields x.item (struct_trees st.form st.fields x.item t clear delims u implicits x.made tree))
layer_trees (D.Union un) l t clear delims u implicits e tree =
    let x = then_from (union_form un.form un.members) (as_union l) t e in
    let y = then_from (member_form un.form x.item.1) (slice_get un.members x.item.0) t x.made in
    let own = member_tree un.form x.item.1 t y.item clear.keys (all_at (λ m. IfSome (mark_text m.mark) IsUtf8) un.members x.item.0 y.item u.marks y.there) y.made tree in
    subst (λ k. AllTrees (spots_of (D.Union un) k)) (sym (only_union l x.item x.there))
    (subst (λ o. AllTrees (option_map_or (member_spots un.form x.item.1) o [])) (sym y.there) (own, tt))
layer_trees (D.Map key key_at value at form) l t clear delims u implicits e tree = by l e where
  by : (k : Layer Data) → map_form alone form k ≡ Some t → AllTrees (spots_of (D.Map key key_at value at form) k)
  by (L.map es) h = entries_trees form key value 0 es (map_entries form es t clear delims u h tree)
  by k h = tt
layer_trees d l t clear delims u implicits e tree = tt

pub parts_trees : (d : TypeDef) (t : Data) (ps : List Spot) → ClearType d → Delims d → SpelledType d → ImplicitType d → IsTree t → AreParts d t ps → AllTrees ps
parts_trees (D.Map key key_at value at (MF.Hamt p)) t ps clear delims u implicits tree (slots, root, e) = subst AllTrees (sym e) (hamt_trees p key value slots t root tree)
parts_trees (D.Map key key_at value at MF.Map) t ps clear delims u implicits tree (l, made, e) = subst AllTrees (sym e) (layer_trees (D.Map key key_at value at MF.Map) l t clear delims u implicits made tree)
parts_trees (D.Map key key_at value at MF.ListPairs) t ps clear delims u implicits tree (l, made, e) = subst AllTrees (sym e) (layer_trees (D.Map key key_at value at MF.ListPairs) l t clear delims u implicits made tree)
parts_trees (D.Map key key_at value at (MF.StringPairs inner entry)) t ps clear delims u implicits tree (l, made, e) = subst AllTrees (sym e) (layer_trees (D.Map key key_at value at (MF.StringPairs inner entry)) l t clear delims u implicits made tree)
parts_trees D.Bool t ps clear delims u implicits tree (l, made, e) = subst AllTrees (sym e) (layer_trees D.Bool l t clear delims u implicits made tree)
parts_trees D.Text t ps clear delims u implicits tree (l, made, e) = subst AllTrees (sym e) (layer_trees D.Text l t clear delims u implicits made tree)
parts_trees D.Bytes t ps clear delims u implicits tree (l, made, e) = subst AllTrees (sym e) (layer_trees D.Bytes l t clear delims u implicits made tree)
parts_trees D.Int t ps clear delims u implicits tree (l, made, e) = subst AllTrees (sym e) (layer_trees D.Int l t clear delims u implicits made tree)
parts_trees D.Any t ps clear delims u implicits tree (l, made, e) = subst AllTrees (sym e) (layer_trees D.Any l t clear delims u implicits made tree)
parts_trees (D.Link target) t ps clear delims u implicits tree (l, made, e) = subst AllTrees (sym e) (layer_trees (D.Link target) l t clear delims u implicits made tree)
parts_trees (D.Unit form) t ps clear delims u implicits tree (l, made, e) = subst AllTrees (sym e) (layer_trees (D.Unit form) l t clear delims u implicits made tree)
parts_trees (D.List elem at) t ps clear delims u implicits tree (l, made, e) = subst AllTrees (sym e) (layer_trees (D.List elem at) l t clear delims u implicits made tree)
parts_trees (D.Struct st) t ps clear delims u implicits tree (l, made, e) = subst AllTrees (sym e) (layer_trees (D.Struct st) l t clear delims u implicits made tree)
parts_trees (D.Union un) t ps clear delims u implicits tree (l, made, e) = subst AllTrees (sym e) (layer_trees (D.Union un) l t clear delims u implicits made tree)
parts_trees (D.Enum en) t ps clear delims u implicits tree (l, made, e) = subst AllTrees (sym e) (layer_trees (D.Enum en) l t clear delims u implicits made tree)
parts_trees (D.Copy target) t ps clear delims u implicits tree (l, made, e) = subst AllTrees (sym e) (layer_trees (D.Copy target) l t clear delims u implicits made tree)
