-- The way of a part leads to its item, or to the item of the whole in which it stands.
use Rattle.std.proofs.Common.{◌≡◌, ℕ, ◌+◌, codes, pos, List, [], ◌∷◌, ◌++◌, length, map, Bool, true, false, cond, Option, Some, None, option_map, refl, sym, ◌∙◌, ap, subst}
use Rattle.std.specs.Prelude.{IfSome, slice_get, option_and_then, is_none}
use Rattle.std.specs.Option.{option_map_or}
use Rattle.std.specs.List.{AllByRecursion, flat_map}
use Rattle.std.specs.Cmp.Lexicographic.{same_text as text_same, other_text}
use Rattle.std.proofs.lemmas.Option.{same_Some, none-some}
use Rattle.std.proofs.lemmas.Bool.{and_parts}
use Rattle.ild_data.proofs.Options.{none_is}
use Rattle.ild_data.proofs.AllOf.{all_split}
use Rattle.ild_data.specs.Data as T
use Rattle.ild_data.specs.Data.{Data}
use Rattle.ild_data.specs.Key.{same_text, put, value_at, Rises}
use Rattle.ild_data.specs.Spell.{head, spell, spell_text, cid_of}
use Rattle.ild_data.specs.Tree.{IsTree}
use Rattle.ild_data.specs.Trie as Trie
use Rattle.ild_data.specs.Trie.{map_of, entry_data, elements_of, node_data}
use Rattle.ild_data.proofs.Rising.{rises_list}
use Rattle.ild_data.specs.declared.hamt_shape.HamtShape.{HamtShape}
use Rattle.ild_schema.specs.declared.number.Slot.{Slot}
use Rattle.ild_schema.specs.declared.number.TypeNo.{TypeNo}
use Rattle.ild_schema.specs.declared.def.TypeDef.{TypeDef}
use Rattle.ild_schema.specs.declared.def.TypeDef.TheVariants as D
use Rattle.ild_schema.specs.declared.def.MapForm.{MapForm}
use Rattle.ild_schema.specs.declared.def.MapForm.TheVariants as MF
use Rattle.ild_schema.specs.declared.def.StructForm.{StructForm}
use Rattle.ild_schema.specs.declared.def.StructForm.TheVariants as S
use Rattle.ild_schema.specs.declared.def.UnionForm.{UnionForm}
use Rattle.ild_schema.specs.declared.def.UnionForm.TheVariants as UF
use Rattle.ild_schema.specs.declared.def.Field.{Field}
use Rattle.ild_schema.specs.declared.def.Member.{Member}
use Rattle.ild_schema.specs.declared.def.Scalar.{Scalar}
use Rattle.ild_schema.specs.Marks.{field_text, mark_text, mark_kind}
use Rattle.ild_schema.specs.DataKinds.{same_kind}
use Rattle.ild_data.specs.Hex.{bytes_of_hex}
use Rattle.ild_schema.specs.Clear.{AreNamesApart, ClearStruct, KeysApart, ClearType}
use Rattle.ild_typed.specs.Layer as L
use Rattle.ild_typed.specs.Layer.{Layer, as_list, as_struct, as_union}
use Rattle.ild_typed.specs.Kinds.{kind_word_of}
use Rattle.ild_typed.specs.Slots.{slot_of}
use Rattle.ild_typed.specs.Texts.{join, join_pairs}
use Rattle.ild_typed.specs.Fields.{is_implicit, field_entries, are_absent, tuple_items, all_items}
use Rattle.ild_typed.specs.Strings.{text_in, bytes_in, members_in, texts_in, text_pairs, in_key_order, map_data, pair_data, listpairs, stringpairs, stringjoin}
use Rattle.ild_typed.specs.Composed.{composed, map_form, struct_form, inlined, marked_form, member_form, union_form}
use Rattle.ild_typed.specs.Hamt.{alone, root_map}
use Rattle.ild_typed.specs.Spots.{Step, Spot, item, key, under, value_spot, key_spot, element_spots, entry_spots, field_steps, field_spots, member_steps, member_spots, spots_of}
use Rattle.ild_typed.specs.RootSpots.{in_node, bucket_spots, root_spots}
use Rattle.ild_typed.specs.Refused.{AreParts}
use Rattle.ild_typed.specs.Ways.{moved, key_in, value_in, step_in, found_at}
use Rattle.ild_typed.specs.WayLaws.{Leads, IsReached}
use Rattle.ild_typed.proofs.Basics.{then_from, map_from, true_from}
use Rattle.ild_typed.proofs.Entries.{both_from, only_text_data, only_bytes_data, value_sorted, value_put, value_first}
use Rattle.ild_typed.proofs.Onlies.{only_list, only_struct, only_union}
use Rattle.ild_typed.proofs.PartsTrees.{content_found}
use Rattle.ild_typed.proofs.Rising.{first_there, below_none}
use Rattle.ild_typed.proofs.Structs.{scalar_same, written, field_from, look, past, not_there}
use Rattle.ild_typed.proofs.Unions.{only_map_data}
use Rattle.ild_typed.proofs.WaySteps.{IsBare, bare_text, bare_bytes, bare_scalar, no_way, itself, bare_reached, to_item, to_value, to_key, All, StandFrom, first_of, rest_of, from_start, here_reached}

-- ---- lists, and maps

elements_reached : (s : Slot) (whole : List Data) (n : ℕ) (ds : List Data) → StandFrom whole n ds → All (T.list (T.items_of whole)) (element_spots s n ds)
elements_reached s whole n [] each = tt
elements_reached s whole n (d ∷ ds) each =
    (λ way l. to_item whole n d way (first_of whole n d ds each) l, elements_reached s whole (n + 1) ds (rest_of whole n d ds each))

-- the look-ups in some entries find the same in a whole
abbrev FoundIn : List (List ℕ × Data) → List (List ℕ × Data) → Type 0
FoundIn whole es = (q : List ℕ) (v : Data) → value_at q es ≡ Some v → value_at q whole ≡ Some v

-- behind an entry that stands below them
behind_first : (e : List ℕ × Data) (es : List (List ℕ × Data)) → Rises (e ∷ es) → FoundIn (e ∷ es) es
behind_first e es up q v h = by (same_text q e.0) refl where
  by : (b : Bool) → b ≡ same_text q e.0 → cond b (Some e.1) (value_at q es) ≡ Some v
  by true is = absurd (none-some v (sym (ap (λ k. value_at k es) (text_same q e.0 is) ∙ below_none e.0 es up.0 up.1) ∙ h))
  by false is = h

entries_reached : (k : TypeNo) (s : Slot) (whole : List (List ℕ × Data)) (i : ℕ) (es : List (List ℕ × Data)) → Rises es → FoundIn whole es → All (map_data whole) (entry_spots MF.Map k s i es)
entries_reached k s whole i [] up found = tt
entries_reached k s whole i (e ∷ es) up found =
    let here : value_at e.0 whole ≡ Some e.1 = found e.0 e.1 (first_there e es) in
    let rest = entries_reached k s whole (i + 1) es up.1 (λ q v h. found q v (behind_first e es up q v h)) in
    (bare_reached (map_data whole) (key_spot k e.0 (key e.0 ∷ [])) (bare_text e.0) (to_key whole e.0 e.1 here), (λ way l. to_value whole e.0 e.1 way here l, rest))

pairs_reached : (k : TypeNo) (s : Slot) (whole : List Data) (i : ℕ) (es : List (List ℕ × Data)) → StandFrom whole i (map pair_data es) → All (T.list (T.items_of whole)) (entry_spots MF.ListPairs k s i es)
pairs_reached k s whole i [] each = tt
pairs_reached k s whole i (e ∷ es) each =
    let here = first_of whole i (pair_data e) (map pair_data es) each in
    let rest = pairs_reached k s whole (i + 1) es (rest_of whole i (pair_data e) (map pair_data es) each) in (
      bare_reached (T.list (T.items_of whole)) (key_spot k e.0 (item i ∷ item 0 ∷ [])) (bare_text e.0)
          (to_item whole i (pair_data e) (item 0 ∷ []) here (to_item (T.text e.0 ∷ e.1 ∷ []) 0 (T.text e.0) [] refl (itself (T.text e.0)))),
      (λ way l. to_item whole i (pair_data e) (item 1 ∷ way) here (to_item (T.text e.0 ∷ e.1 ∷ []) 1 e.1 way refl l), rest),
    )

pub texts_bare : (es : List (List ℕ × Data)) (ts : List (List ℕ × List ℕ)) → text_pairs es ≡ Some ts → AllByRecursion (λ e. IsBare e.1) es
texts_bare [] ts h = tt
texts_bare (e ∷ es) ts h =
    let b = both_from (option_map {U = List ℕ × List ℕ} (λ s. (e.0, s)) (text_in e.1)) (text_pairs es) ts h in
    let x = map_from {B = List ℕ × List ℕ} (λ s. (e.0, s)) (text_in e.1) b.item b.first in
    (subst IsBare (sym (only_text_data e.1 x.item x.there)) (bare_text x.item), texts_bare es b.items b.rest)

pub stringpairs_bare : (inner entry : List ℕ) (es : List (List ℕ × Data)) (t : Data) → stringpairs inner entry es ≡ Some t → AllByRecursion (λ e. IsBare e.1) es
stringpairs_bare inner entry es t h =
    let x = map_from T.text (option_and_then (join_pairs inner entry) (text_pairs es)) t h in
    let y = then_from (join_pairs inner entry) (text_pairs es) x.item x.there in
    texts_bare es y.item y.there

inside_reached : (inner entry : List ℕ) (k : TypeNo) (s : Slot) (t : Data) (i : ℕ) (es : List (List ℕ × Data)) → AllByRecursion (λ e. IsBare e.1) es → All t (entry_spots (MF.StringPairs inner entry) k s i es)
inside_reached inner entry k s t i [] bare = tt
inside_reached inner entry k s t i (e ∷ es) bare =
    (here_reached t (key_spot k e.0 []) refl (bare_text e.0), (here_reached t (value_spot s e.1 []) refl bare.0, inside_reached inner entry k s t (i + 1) es bare.1))

map_reached : (form : MapForm) (k : TypeNo) (s : Slot) (es : List (List ℕ × Data)) (t : Data) → map_form alone form (L.map es) ≡ Some t → IsTree t → All t (entry_spots form k s 0 es)
map_reached MF.Map k s es t made tree =
    let same = same_Some (map_data es) t made in
    subst (λ u. All u (entry_spots MF.Map k s 0 es)) same (entries_reached k s es 0 es (rises_list es (subst IsTree (sym same) tree)) (λ q v h. h))
map_reached MF.ListPairs k s es t made tree =
    subst (λ u. All u (entry_spots MF.ListPairs k s 0 es)) (same_Some (listpairs es) t made) (pairs_reached k s (map pair_data es) 0 es (from_start (map pair_data es)))
map_reached (MF.StringPairs inner entry) k s es t made tree = inside_reached inner entry k s t 0 es (stringpairs_bare inner entry es t made)
map_reached (MF.Hamt p) k s es t made tree = absurd (none-some t made)

-- ---- fields

pub implicit_bare : (o : Option Scalar) (d : Data) → is_implicit o d ≡ true → IsBare d
implicit_bare None d e = absurd cc
implicit_bare (Some s) d e = subst IsBare (sym (scalar_same s d e)) (bare_scalar s)

-- under its name, where the names are apart
named_reached : (whole : List (List ℕ × Data)) (n : ℕ) (fs : List Field) (os : List (Option Data)) (es : List (List ℕ × Data)) → AreNamesApart fs → field_entries fs os ≡ Some es → FoundIn whole es
    → All (map_data whole) (field_spots S.Map n fs os)
named_reached whole n [] os es apart e found = tt
named_reached whole n (f ∷ fs) [] es apart e found = tt
named_reached whole n (f ∷ fs) (o ∷ os) es apart e found =
    let x = field_from f fs o os es e in
    let none = not_there (field_text f) fs os x.rest apart.0 x.later in
    let inside : FoundIn whole (written f o ++ x.rest) = λ q v h. found q v (ap (value_at q) x.is ∙ h) in
    by o x.rest (look f o x.rest none) inside
    (λ m. named_reached whole m fs os x.rest apart.1 x.later (λ q v h. inside q v (keep o x.rest none q v h (same_text q (field_text f)) refl)))
  where
    keep : (o : Option Data) (rest : List (List ℕ × Data)) → value_at (field_text f) rest ≡ None → (q : List ℕ) (d : Data) → value_at q rest ≡ Some d
        → (b : Bool) → b ≡ same_text q (field_text f) → value_at q (written f o ++ rest) ≡ Some d
    keep o rest none q d h true is = absurd (none-some d (sym none ∙ ap (λ k. value_at k rest) (sym (text_same q (field_text f) is)) ∙ h))
    keep o rest none q d h false is = past q f o rest (other_text q (field_text f) is) ∙ h

    seen : Option Data → Option Data
    seen None = None
    seen (Some d) = cond (is_implicit f.implicit d) None (Some d)

    by : (o : Option Data) (rest : List (List ℕ × Data)) → value_at (field_text f) (written f o ++ rest) ≡ seen o → FoundIn whole (written f o ++ rest)
        → ((m : ℕ) → All (map_data whole) (field_spots S.Map m fs os)) → All (map_data whole) (field_spots S.Map n (f ∷ fs) (o ∷ os))
    by None rest shown inside later = later n
    by (Some d) rest shown inside later = pick (is_implicit f.implicit d) refl where
      pick : (b : Bool) → is_implicit f.implicit d ≡ b
          → All (map_data whole) (cond b (value_spot f.slot d [] ∷ field_spots S.Map n fs os) (value_spot f.slot d (field_steps S.Map f n) ∷ field_spots S.Map (n + 1) fs os))
      pick true is = (here_reached (map_data whole) (value_spot f.slot d []) refl (implicit_bare f.implicit d is), later n)
      pick false is = (λ way l. to_value whole (field_text f) d way (inside (field_text f) d (shown ∙ ap (λ b. cond b None (Some d)) is)) l, later (n + 1))

-- in pairs, as many of which stand before as fields are written before
paired_reached : (whole : List Data) (n : ℕ) (fs : List Field) (os : List (Option Data)) (es : List (List ℕ × Data)) → field_entries fs os ≡ Some es → StandFrom whole n (map pair_data es)
    → All (T.list (T.items_of whole)) (field_spots S.ListPairs n fs os)
paired_reached whole n [] os es e each = tt
paired_reached whole n (f ∷ fs) [] es e each = tt
paired_reached whole n (f ∷ fs) (o ∷ os) es e each =
    let x = field_from f fs o os es e in
    by o x.rest (subst (λ xs. StandFrom whole n (map pair_data xs)) x.is each) (λ m more. paired_reached whole m fs os x.rest x.later more)
  where
    by : (o : Option Data) (rest : List (List ℕ × Data)) → StandFrom whole n (map pair_data (written f o ++ rest))
        → ((m : ℕ) → StandFrom whole m (map pair_data rest) → All (T.list (T.items_of whole)) (field_spots S.ListPairs m fs os))
        → All (T.list (T.items_of whole)) (field_spots S.ListPairs n (f ∷ fs) (o ∷ os))
    by None rest more later = later n more
    by (Some d) rest more later = pick (is_implicit f.implicit d) refl more where
      pick : (b : Bool) → is_implicit f.implicit d ≡ b → StandFrom whole n (map pair_data (cond b [] ((field_text f, d) ∷ []) ++ rest))
          → All (T.list (T.items_of whole)) (cond b (value_spot f.slot d [] ∷ field_spots S.ListPairs n fs os) (value_spot f.slot d (field_steps S.ListPairs f n) ∷ field_spots S.ListPairs (n + 1) fs os))
      pick true is all = (here_reached (T.list (T.items_of whole)) (value_spot f.slot d []) refl (implicit_bare f.implicit d is), later n all)
      pick false is all =
          let here = first_of whole n (pair_data (field_text f, d)) (map pair_data rest) all in
          (λ way l. to_item whole n (pair_data (field_text f, d)) (item 1 ∷ way) here (to_item (T.text (field_text f) ∷ d ∷ []) 1 d way refl l), later (n + 1) (rest_of whole n (pair_data (field_text f, d)) (map pair_data rest) all))

absent_reached : (t : Data) (form : StructForm) (n : ℕ) (fs : List Field) (os : List (Option Data)) → are_absent fs os ≡ true → All t (field_spots form n fs os)
absent_reached t form n [] os e = tt
absent_reached t form n (f ∷ fs) [] e = tt
absent_reached t form n (f ∷ fs) (Some d ∷ os) e = absurd cc
absent_reached t form n (f ∷ fs) (None ∷ os) e = absent_reached t form n fs os (and_parts f.optional (are_absent fs os) e).1

-- no field of a tuple has a value that stands for it
abbrev AreWritten : List Field → Type 0
AreWritten fs = AllByRecursion (λ f. f.implicit ≡ None) fs

tuple_reached : (whole : List Data) (n : ℕ) (fs : List Field) (os : List (Option Data)) (ds : List Data) → AreWritten fs → tuple_items fs os ≡ Some ds → StandFrom whole n ds
    → All (T.list (T.items_of whole)) (field_spots S.Tuple n fs os)
tuple_reached whole n [] os ds all e each = tt
tuple_reached whole n (f ∷ fs) [] ds all e each = tt
tuple_reached whole n (f ∷ fs) (None ∷ os) ds all e each =
    absent_reached (T.list (T.items_of whole)) S.Tuple n fs os (and_parts f.optional (are_absent fs os) (true_from (are_absent (f ∷ fs) (None ∷ os)) [] ds e).0).1
tuple_reached whole n (f ∷ fs) (Some d ∷ os) ds all e each =
    let x = map_from (λ r. d ∷ r) (tuple_items fs os) ds e in
    let own : StandFrom whole n (d ∷ x.item) = subst (StandFrom whole n) (sym (same_Some (d ∷ x.item) ds x.made)) each in
    let rest = tuple_reached whole (n + 1) fs os x.item all.1 x.there (rest_of whole n d x.item own) in
    subst (λ o. All (T.list (T.items_of whole)) (cond (is_implicit o d) (value_spot f.slot d [] ∷ field_spots S.Tuple n fs os) (value_spot f.slot d (item n ∷ []) ∷ field_spots S.Tuple (n + 1) fs os))) (sym all.0)
    (λ way l. to_item whole n d way (first_of whole n d x.item own) l, rest)

-- inside a text
bare_fields_reached : (t : Data) (form : StructForm) → ((f : Field) (n : ℕ) → field_steps form f n ≡ []) → (n : ℕ) (fs : List Field) (os : List (Option Data)) → AllByRecursion (λ o. IfSome o IsBare) os
    → All t (field_spots form n fs os)
bare_fields_reached t form none n [] os bare = tt
bare_fields_reached t form none n (f ∷ fs) [] bare = tt
bare_fields_reached t form none n (f ∷ fs) (None ∷ os) bare = bare_fields_reached t form none n fs os bare.1
bare_fields_reached t form none n (f ∷ fs) (Some d ∷ os) bare = pick (is_implicit f.implicit d) (λ m. bare_fields_reached t form none m fs os bare.1) where
  pick : (b : Bool) → ((m : ℕ) → All t (field_spots form m fs os))
      → All t (cond b (value_spot f.slot d [] ∷ field_spots form n fs os) (value_spot f.slot d (field_steps form f n) ∷ field_spots form (n + 1) fs os))
  pick true later = (here_reached t (value_spot f.slot d []) refl bare.0, later n)
  pick false later = (here_reached t (value_spot f.slot d (field_steps form f n)) (none f n) bare.0, later (n + 1))

pub entries_bare : (fs : List Field) (os : List (Option Data)) (es : List (List ℕ × Data)) → field_entries fs os ≡ Some es → AllByRecursion (λ e. IsBare e.1) es → AllByRecursion (λ o. IfSome o IsBare) os
entries_bare fs [] es e all = tt
entries_bare [] (o ∷ os) es e all = absurd (none-some es e)
entries_bare (f ∷ fs) (o ∷ os) es e all =
    let x = field_from f fs o os es e in
    let both = all_split (λ (q : List ℕ × Data). IsBare q.1) (written f o) x.rest (subst (AllByRecursion (λ (q : List ℕ × Data). IsBare q.1)) x.is all) in
    (by o both.0, entries_bare fs os x.rest x.later both.1)
  where
    by : (o : Option Data) → AllByRecursion (λ (q : List ℕ × Data). IsBare q.1) (written f o) → IfSome o IsBare
    by None own = tt
    by (Some d) own = pick (is_implicit f.implicit d) refl own where
      pick : (b : Bool) → is_implicit f.implicit d ≡ b → AllByRecursion (λ (q : List ℕ × Data). IsBare q.1) (cond b [] ((field_text f, d) ∷ [])) → IsBare d
      pick true is mine = implicit_bare f.implicit d is
      pick false is mine = mine.0

pub joined_bare : (fs : List Field) (os : List (Option Data)) (ds : List Data) (ts : List (List ℕ)) → all_items fs os ≡ Some ds → texts_in ds ≡ Some ts → AllByRecursion (λ o. IfSome o IsBare) os
joined_bare fs [] ds ts e h = tt
joined_bare [] (o ∷ os) ds ts e h = absurd (none-some ds e)
joined_bare (f ∷ fs) (None ∷ os) ds ts e h = absurd (none-some ds e)
joined_bare (f ∷ fs) (Some d ∷ os) ds ts e h =
    let x = map_from (λ r. d ∷ r) (all_items fs os) ds e in
    let own : texts_in (d ∷ x.item) ≡ Some ts = ap texts_in (same_Some (d ∷ x.item) ds x.made) ∙ h in
    let b = both_from (text_in d) (texts_in x.item) ts own in
    (subst IsBare (sym (only_text_data d b.item b.first)) (bare_text b.item), joined_bare fs os x.item b.items x.there b.rest)

struct_reached : (form : StructForm) (fs : List Field) (os : List (Option Data)) (t : Data) → ClearStruct form fs → (form ≡ S.Tuple → AreWritten fs) → struct_form form fs os ≡ Some t → All t (field_spots form 0 fs os)
struct_reached S.Map fs os t clear plain e =
    let x = map_from (λ es. map_data (in_key_order es)) (field_entries fs os) t e in
    subst (λ u. All u (field_spots S.Map 0 fs os)) (same_Some (map_data (in_key_order x.item)) t x.made)
    (named_reached (in_key_order x.item) 0 fs os x.item clear.apart x.there (λ q v h. value_sorted q x.item ∙ h))
struct_reached S.Tuple fs os t clear plain e =
    let x = map_from (λ ds. T.list (T.items_of ds)) (tuple_items fs os) t e in
    subst (λ u. All u (field_spots S.Tuple 0 fs os)) (same_Some (T.list (T.items_of x.item)) t x.made) (tuple_reached x.item 0 fs os x.item (plain refl) x.there (from_start x.item))
struct_reached S.ListPairs fs os t clear plain e =
    let x = map_from listpairs (field_entries fs os) t e in
    subst (λ u. All u (field_spots S.ListPairs 0 fs os)) (same_Some (listpairs x.item) t x.made) (paired_reached (map pair_data x.item) 0 fs os x.item x.there (from_start (map pair_data x.item)))
struct_reached (S.StringPairs inner entry) fs os t clear plain e =
    let x = then_from (stringpairs inner entry) (field_entries fs os) t e in
    bare_fields_reached t (S.StringPairs inner entry) (λ f n. refl) 0 fs os (entries_bare fs os x.item x.there (stringpairs_bare inner entry x.item t x.made))
struct_reached (S.StringJoin delim) fs os t clear plain e =
    let x = then_from (stringjoin delim) (all_items fs os) t e in
    let y = map_from T.text (option_and_then (join delim) (texts_in x.item)) t x.made in
    let z = then_from (join delim) (texts_in x.item) y.item y.there in
    bare_fields_reached t (S.StringJoin delim) (λ f n. refl) 0 fs os (joined_bare fs os x.item z.item x.there z.there)

-- ---- members of unions

pub value_back : (es : List (List ℕ × Data)) (k : List ℕ) (p : ℕ × Data) → value_in k (T.members_of es) ≡ Some p → value_at k es ≡ Some p.1
value_back [] k p h = absurd (none-some p h)
value_back (m ∷ es) k p h = by (same_text k m.0) h (value_back es k) where
  by : (b : Bool) → cond b (Some (length (spell_text m.0), m.1)) (moved (length (spell_text m.0 ++ spell m.1)) (value_in k (T.members_of es))) ≡ Some p
      → ((q : ℕ × Data) → value_in k (T.members_of es) ≡ Some q → value_at k es ≡ Some q.1) → cond b (Some m.1) (value_at k es) ≡ Some p.1
  by true is later = ap (λ (q : ℕ × Data). Some q.1) (same_Some (length (spell_text m.0), m.1) p is)
  by false is later =
      let front = length (spell_text m.0 ++ spell m.1) in
      let x = map_from {B = ℕ × Data} (λ q. (front + q.0, q.1)) (value_in k (T.members_of es)) p is in
      later x.item x.there ∙ ap (λ (q : ℕ × Data). Some q.1) (same_Some (front + x.item.0, x.item.1) p x.made)

record KeyThere (es : List (List ℕ × Data)) (k : List ℕ) (d : Data) : Type 0 where
  value : Data
  there : value_at k es ≡ Some value
  is : d ≡ T.text k

key_back : (es : List (List ℕ × Data)) (k : List ℕ) (p : ℕ × Data) → key_in k (T.members_of es) ≡ Some p → KeyThere es k p.1
key_back [] k p h = absurd (none-some p h)
key_back (m ∷ es) k p h = by (same_text k m.0) refl h (key_back es k) where
  by : (b : Bool) → b ≡ same_text k m.0 → cond b (Some (0, T.text m.0)) (moved (length (spell_text m.0 ++ spell m.1)) (key_in k (T.members_of es))) ≡ Some p
      → ((q : ℕ × Data) → key_in k (T.members_of es) ≡ Some q → KeyThere es k q.1) → KeyThere (m ∷ es) k p.1
  by true same is later = record {
    value = m.1;
    there = ap (λ b. cond b (Some m.1) (value_at k es)) (sym same);
    is = sym (ap (λ (q : ℕ × Data). q.1) (same_Some (0, T.text m.0) p is)) ∙ ap T.text (sym (text_same k m.0 same));
  }
  by false same is later =
      let front = length (spell_text m.0 ++ spell m.1) in
      let x = map_from {B = ℕ × Data} (λ q. (front + q.0, q.1)) (key_in k (T.members_of es)) p is in
      let y = later x.item x.there in
      record {
        value = y.value;
        there = ap (λ b. cond b (Some m.1) (value_at k es)) (sym same) ∙ y.there;
        is = sym (ap (λ (q : ℕ × Data). q.1) (same_Some (front + x.item.0, x.item.1) p x.made)) ∙ y.is;
      }

-- what is found in entries is found in them with one more
put_keeps : (k : List ℕ) (name : Data) (es : List (List ℕ × Data)) → value_at k es ≡ None → FoundIn (put k name es) es
put_keeps k name es none q v h = value_put q k name es ∙ by (same_text q k) refl where
  by : (b : Bool) → b ≡ same_text q k → cond b (Some name) (value_at q es) ≡ Some v
  by true is = absurd (none-some v (sym none ∙ ap (λ l. value_at l es) (sym (text_same q k is)) ∙ h))
  by false is = h

record StepOn (s : Step) (way : List Step) (d : Data) : Type 0 where
  at : ℕ × Data
  there : step_in s d ≡ Some at
  further : Leads way at.1

first_step : (s : Step) (way : List Step) (d : Data) → Leads (s ∷ way) d → StepOn s way d
first_step s way d (q, e) =
    let x = then_from (λ (r : ℕ × Data). moved r.0 (found_at way r.1)) (step_in s d) q e in
    let y = map_from {B = ℕ × Data} (λ r. (x.item.0 + r.0, r.1)) (found_at way x.item.1) q x.made in
    record { at = x.item; there = x.there; further = (y.item, y.there) }

inlined_leads : (es whole : List (List ℕ × Data)) → FoundIn whole es → (way : List Step) → Leads way (map_data es) → Leads way (map_data whole)
inlined_leads es whole found [] l = itself (map_data whole)
inlined_leads es whole found (item n ∷ way) l = let x = first_step (item n) way (map_data es) l in absurd (none-some x.at x.there)
inlined_leads es whole found (under k ∷ way) l =
    let x = first_step (under k) way (map_data es) l in
    let front = length (head 5 (length (T.members_list (T.members_of es)))) in
    let y = map_from {B = ℕ × Data} (λ r. (front + r.0, r.1)) (value_in k (T.members_of es)) x.at x.there in
    let same : y.item.1 ≡ x.at.1 = ap (λ (q : ℕ × Data). q.1) (same_Some (front + y.item.0, y.item.1) x.at y.made) in
    to_value whole k y.item.1 way (found k y.item.1 (value_back es k y.item y.there)) (subst (Leads way) (sym same) x.further)
inlined_leads es whole found (key k ∷ way) l =
    let x = first_step (key k) way (map_data es) l in
    let front = length (head 5 (length (T.members_list (T.members_of es)))) in
    let y = map_from {B = ℕ × Data} (λ r. (front + r.0, r.1)) (key_in k (T.members_of es)) x.at x.there in
    let z = key_back es k y.item y.there in
    let same : x.at.1 ≡ T.text k = sym (ap (λ (q : ℕ × Data). q.1) (same_Some (front + y.item.0, y.item.1) x.at y.made)) ∙ z.is in
    subst (λ w. Leads (key k ∷ w) (map_data whole)) (sym (no_way way (T.text k) (bare_text k) (subst (Leads way) same x.further))) (to_key whole k z.value (found k z.value z.there))

marked_reached : (s : Slot) (form : UnionForm) (d t : Data) (m : Member) (name : List ℕ) → KeysApart form → mark_text m.mark ≡ Some name → marked_form form d name ≡ Some t → IsReached t (value_spot s d (member_steps form m))
marked_reached s UF.Keyed d t m name keys is e =
    subst (λ o. IsReached t (value_spot s d (option_map_or (λ k. under k ∷ []) o []))) (sym is)
    (subst (λ u. IsReached u (value_spot s d (under name ∷ []))) (same_Some (map_data ((name, d) ∷ [])) t e) (λ way l. to_value ((name, d) ∷ []) name d way (value_first name d []) l))
marked_reached s UF.Kinded d t m name keys is e = absurd (none-some t e)
marked_reached s UF.StringPrefix d t m name keys is e =
    let y = map_from (λ x. T.text (name ++ x)) (text_in d) t e in here_reached t (value_spot s d []) refl (subst IsBare (sym (only_text_data d y.item y.there)) (bare_text y.item))
marked_reached s UF.BytesPrefix d t m name keys is e =
    let y = then_from (λ front. option_map (λ x. T.bytes (front ++ x)) (bytes_in d)) (bytes_of_hex name) t e in
    let z = map_from (λ x. T.bytes (y.item ++ x)) (bytes_in d) t y.made in
    here_reached t (value_spot s d []) refl (subst IsBare (sym (only_bytes_data d z.item z.there)) (bare_bytes z.item))
marked_reached s (UF.Envelope k content) d t m name keys is e =
    let es : List (List ℕ × Data) = put k (T.text name) ((content, d) ∷ []) in
    subst (λ u. IsReached u (value_spot s d (under content ∷ []))) (same_Some (map_data es) t e) (λ way l. to_value es content d way (content_found k content (T.text name) d keys) l)
marked_reached s (UF.Inline k) d t m name keys is e =
    let y = then_from (inlined k name) (members_in d) t e in
    let z = true_from (is_none (value_at k y.item)) (map_data (put k (T.text name) y.item)) t y.made in
    let own : d ≡ map_data y.item = only_map_data d y.item y.there in
    let found = put_keeps k (T.text name) y.item (none_is (value_at k y.item) z.0) in
    λ way l. subst (Leads way) z.1 (inlined_leads y.item (put k (T.text name) y.item) found way (subst (Leads way) own l))

member_reached : (s : Slot) (form : UnionForm) (d t : Data) (m : Member) → KeysApart form → member_form form d m ≡ Some t → IsReached t (value_spot s d (member_steps form m))
member_reached s UF.Kinded d t m keys e =
    let y = then_from (λ k. cond (same_kind k (kind_word_of d)) (Some d) None) (mark_kind m.mark) t e in
    λ way l. subst (Leads way) (true_from (same_kind y.item (kind_word_of d)) d t y.made).1 l
member_reached s UF.Keyed d t m keys e = let y = then_from (marked_form UF.Keyed d) (mark_text m.mark) t e in marked_reached s UF.Keyed d t m y.item keys y.there y.made
member_reached s UF.StringPrefix d t m keys e = let y = then_from (marked_form UF.StringPrefix d) (mark_text m.mark) t e in marked_reached s UF.StringPrefix d t m y.item keys y.there y.made
member_reached s UF.BytesPrefix d t m keys e = let y = then_from (marked_form UF.BytesPrefix d) (mark_text m.mark) t e in marked_reached s UF.BytesPrefix d t m y.item keys y.there y.made
member_reached s (UF.Envelope k c) d t m keys e = let y = then_from (marked_form (UF.Envelope k c) d) (mark_text m.mark) t e in marked_reached s (UF.Envelope k c) d t m y.item keys y.there y.made
member_reached s (UF.Inline k) d t m keys e = let y = then_from (marked_form (UF.Inline k) d) (mark_text m.mark) t e in marked_reached s (UF.Inline k) d t m y.item keys y.there y.made

-- ---- the entries in the block of a HAMT's root

module _ (shape : HamtShape) (k : TypeNo) (s : Slot) (slots : List Trie.TrieSlot) where
  abbrev Root : Data
  Root = root_map shape (node_data slots)

  -- from the root map to an element of its node
  to_element : (n : ℕ) (e : Data) (way : List Step) → slice_get (flat_map elements_of slots) n ≡ Some e → Leads way e → Leads (under (codes "hamt") ∷ item 1 ∷ item n ∷ way) Root
  to_element n e way h l =
      let elements : Data = T.list (T.items_of (flat_map elements_of slots)) in
      to_value ((codes "hamt", node_data slots) ∷ (codes "hashAlg", T.integer (pos 18)) ∷ (codes "bucketSize", T.integer (pos shape.bucket)) ∷ []) (codes "hamt") (node_data slots) (item 1 ∷ item n ∷ way) refl
      (to_item (T.bytes (map_of slots) ∷ elements ∷ []) 1 elements (item n ∷ way) refl (to_item (flat_map elements_of slots) n e way h l))

  bucket_reached : (n : ℕ) (whole : List Data) → slice_get (flat_map elements_of slots) n ≡ Some (T.list (T.items_of whole)) → (i : ℕ) (es : List (List ℕ × Data)) → StandFrom whole i (map entry_data es)
      → All Root (bucket_spots k s n i es)
  bucket_reached n whole here i [] each = tt
  bucket_reached n whole here i (e ∷ es) each =
      let own = first_of whole i (entry_data e) (map entry_data es) each in
      let to_part : (j : ℕ) (d : Data) (way : List Step) → slice_get (T.bytes e.0 ∷ e.1 ∷ []) j ≡ Some d → Leads way d → Leads (in_node n i j ++ way) Root
      = λ j d way h l. to_element n (T.list (T.items_of whole)) (item i ∷ item j ∷ way) here (to_item whole i (entry_data e) (item j ∷ way) own (to_item (T.bytes e.0 ∷ e.1 ∷ []) j d way h l)) in (
        bare_reached Root (key_spot k e.0 (in_node n i 0)) (bare_text e.0) (to_part 0 (T.bytes e.0) [] refl (itself (T.bytes e.0))),
        (λ way l. to_part 1 e.1 way refl l, bucket_reached n whole here (i + 1) es (rest_of whole i (entry_data e) (map entry_data es) each)),
      )

  append_reached : (ps qs : List Spot) → All Root ps → All Root qs → All Root (ps ++ qs)
  append_reached [] qs a b = b
  append_reached (p ∷ ps) qs a b = (a.0, append_reached ps qs a.1 b)

  slots_reached : (n : ℕ) (zs : List Trie.TrieSlot) → StandFrom (flat_map elements_of slots) n (flat_map elements_of zs) → All Root (root_spots k s n zs)
  slots_reached n [] each = tt
  slots_reached n (Trie.empty ∷ zs) each = slots_reached n zs each
  slots_reached n (Trie.bucket es ∷ zs) each =
      let own : Data = T.list (T.items_of (map entry_data es)) in
      append_reached (bucket_spots k s n 0 es) (root_spots k s (n + 1) zs)
      (bucket_reached n (map entry_data es) (first_of (flat_map elements_of slots) n own (flat_map elements_of zs) each) 0 es (from_start (map entry_data es)))
      (slots_reached (n + 1) zs (rest_of (flat_map elements_of slots) n own (flat_map elements_of zs) each))
  slots_reached n (Trie.child id ∷ zs) each = slots_reached (n + 1) zs (rest_of (flat_map elements_of slots) n (T.link (cid_of id)) (flat_map elements_of zs) each)

-- ---- all forms

-- what is asked of a struct as a tuple
abbrev pub TuplePlain : TypeDef → Type 0
TuplePlain (D.Struct s) = s.form ≡ S.Tuple → AreWritten s.fields
TuplePlain d = Unit {0}

layer_reached : (d : TypeDef) (l : Layer Data) (t : Data) → ClearType d → TuplePlain d → composed alone d l ≡ Some t → IsTree t → All t (spots_of d l)
layer_reached (D.List elem at) l t clear plain e tree =
    let x = map_from (λ ds. T.list (T.items_of ds)) (as_list l) t e in
    subst (λ k. All t (spots_of (D.List elem at) k)) (sym (only_list l x.item x.there))
    (subst (λ u. All u (element_spots elem 0 x.item)) (same_Some (T.list (T.items_of x.item)) t x.made) (elements_reached elem x.item 0 x.item (from_start x.item)))
layer_reached (D.Struct st) l t clear plain e tree =
    let x = then_from (struct_form st.form st.fields) (as_struct l) t e in
    subst (λ k. All t (spots_of (D.Struct st) k)) (sym (only_struct l x.item x.there)) (struct_reached st.form st.fields x.item t clear plain x.made)
layer_reached (D.Union un) l t clear plain e tree =
    let x = then_from (union_form un.form un.members) (as_union l) t e in
    let y = then_from (member_form un.form x.item.1) (slice_get un.members x.item.0) t x.made in
    subst (λ k. All t (spots_of (D.Union un) k)) (sym (only_union l x.item x.there))
    (subst (λ o. All t (option_map_or (member_spots un.form x.item.1) o [])) (sym y.there) (member_reached (slot_of y.item) un.form x.item.1 t y.item clear.keys y.made, tt))
layer_reached (D.Map k key_at value at form) l t clear plain e tree = by l e where
  by : (m : Layer Data) → map_form alone form m ≡ Some t → All t (spots_of (D.Map k key_at value at form) m)
  by (L.map es) h = map_reached form k value es t h tree
  by m h = tt
layer_reached d l t clear plain e tree = tt

pub parts_reached : (d : TypeDef) (t : Data) (ps : List Spot) → ClearType d → TuplePlain d → IsTree t → AreParts d t ps → All t ps
parts_reached (D.Map k key_at value at (MF.Hamt p)) t ps clear plain tree (slots, root, e) =
    subst (All t) (sym e) (subst (λ u. All u (root_spots k value 0 slots)) (sym root.tree) (slots_reached p k value slots 0 slots (from_start (flat_map elements_of slots))))
parts_reached (D.Map k key_at value at MF.Map) t ps clear plain tree (l, made, e) = subst (All t) (sym e) (layer_reached (D.Map k key_at value at MF.Map) l t clear plain made tree)
parts_reached (D.Map k key_at value at MF.ListPairs) t ps clear plain tree (l, made, e) = subst (All t) (sym e) (layer_reached (D.Map k key_at value at MF.ListPairs) l t clear plain made tree)
parts_reached (D.Map k key_at value at (MF.StringPairs inner entry)) t ps clear plain tree (l, made, e) = subst (All t) (sym e) (layer_reached (D.Map k key_at value at (MF.StringPairs inner entry)) l t clear plain made tree)
parts_reached D.Bool t ps clear plain tree (l, made, e) = subst (All t) (sym e) (layer_reached D.Bool l t clear plain made tree)
parts_reached D.Text t ps clear plain tree (l, made, e) = subst (All t) (sym e) (layer_reached D.Text l t clear plain made tree)
parts_reached D.Bytes t ps clear plain tree (l, made, e) = subst (All t) (sym e) (layer_reached D.Bytes l t clear plain made tree)
parts_reached D.Int t ps clear plain tree (l, made, e) = subst (All t) (sym e) (layer_reached D.Int l t clear plain made tree)
parts_reached D.Any t ps clear plain tree (l, made, e) = subst (All t) (sym e) (layer_reached D.Any l t clear plain made tree)
parts_reached (D.Link target) t ps clear plain tree (l, made, e) = subst (All t) (sym e) (layer_reached (D.Link target) l t clear plain made tree)
parts_reached (D.Unit form) t ps clear plain tree (l, made, e) = subst (All t) (sym e) (layer_reached (D.Unit form) l t clear plain made tree)
parts_reached (D.List elem at) t ps clear plain tree (l, made, e) = subst (All t) (sym e) (layer_reached (D.List elem at) l t clear plain made tree)
parts_reached (D.Struct st) t ps clear plain tree (l, made, e) = subst (All t) (sym e) (layer_reached (D.Struct st) l t clear plain made tree)
parts_reached (D.Union un) t ps clear plain tree (l, made, e) = subst (All t) (sym e) (layer_reached (D.Union un) l t clear plain made tree)
parts_reached (D.Enum en) t ps clear plain tree (l, made, e) = subst (All t) (sym e) (layer_reached (D.Enum en) l t clear plain made tree)
parts_reached (D.Copy target) t ps clear plain tree (l, made, e) = subst (All t) (sym e) (layer_reached (D.Copy target) l t clear plain made tree)
