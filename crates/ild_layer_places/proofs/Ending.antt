-- The way of a part ends at the part, or the part has none of its own.
use Rattle.std.proofs.Common.{◌≡◌, ℕ, ◌+◌, codes, pos, List, [], ◌∷◌, ◌++◌, length, map, Bool, true, false, cond, Option, Some, None, option_map, refl, sym, ◌∙◌, ap, subst, inl, inr}
use Rattle.std.specs.Prelude.{◌⊎◌, IfSome, slice_get, option_and_then, is_none}
use Rattle.std.specs.Option.{option_map_or}
use Rattle.std.specs.List.{AllByRecursion, flat_map}
use Rattle.std.specs.Cmp.Lexicographic.{same_text as text_same, other_text}
use Rattle.std.proofs.lemmas.Option.{same_Some, none-some}
use Rattle.ild_typed.proofs.PartsReached.{stringpairs_bare, implicit_bare, entries_bare, joined_bare}
use Rattle.ild_typed.proofs.RefusalsReached.{plain_struct}
use Rattle.ild_data.proofs.Options.{none_is}
use Rattle.ild_data.specs.Data as T
use Rattle.ild_data.specs.Data.{Data}
use Rattle.ild_data.specs.Key.{same_text, put, value_at, Rises}
use Rattle.ild_data.specs.Spell.{head, cid_of}
use Rattle.ild_data.specs.Tree.{IsTree}
use Rattle.ild_data.specs.Trie as Trie
use Rattle.ild_data.specs.Trie.{map_of, entry_data, elements_of, node_data}
use Rattle.ild_data.proofs.Rising.{rises_list}
use Rattle.ild_data.specs.declared.hamt_shape.HamtShape.{HamtShape}
use Rattle.ild_schema.specs.declared.number.Slot.{Slot}
use Rattle.ild_schema.specs.declared.number.TypeNo.{TypeNo}
use Rattle.ild_schema.specs.declared.def.TypeDef.{TypeDef}
use Rattle.ild_schema.specs.declared.def.TypeDef.TheVariants as D
use Rattle.ild_schema.specs.declared.def.MapForm.{MapForm}
use Rattle.ild_schema.specs.declared.def.MapForm.TheVariants as MF
use Rattle.ild_schema.specs.declared.def.StructForm.{StructForm}
use Rattle.ild_schema.specs.declared.def.StructForm.TheVariants as S
use Rattle.ild_schema.specs.declared.def.UnionForm.{UnionForm}
use Rattle.ild_schema.specs.declared.def.UnionForm.TheVariants as UF
use Rattle.ild_schema.specs.declared.def.Field.{Field}
use Rattle.ild_schema.specs.declared.def.Member.{Member}
use Rattle.ild_schema.specs.Marks.{field_text, mark_text, mark_kind}
use Rattle.ild_schema.specs.DataKinds.{same_kind}
use Rattle.ild_data.specs.Hex.{bytes_of_hex}
use Rattle.ild_schema.specs.Clear.{AreNamesApart, ClearStruct, KeysApart, ClearType}
use Rattle.ild_typed.specs.Layer as L
use Rattle.ild_typed.specs.Layer.{Layer, as_list, as_struct, as_union}
use Rattle.ild_typed.specs.Kinds.{kind_word_of}
use Rattle.ild_typed.specs.Slots.{slot_of}
use Rattle.ild_typed.specs.Texts.{join}
use Rattle.ild_typed.specs.Fields.{is_implicit, field_entries, are_absent, tuple_items, all_items}
use Rattle.ild_typed.specs.Strings.{text_in, bytes_in, members_in, texts_in, in_key_order, map_data, pair_data, listpairs, stringpairs, stringjoin}
use Rattle.ild_typed.specs.Composed.{composed, map_form, struct_form, inlined, marked_form, member_form, union_form}
use Rattle.ild_typed.specs.Hamt.{alone, root_map}
use Rattle.ild_typed.specs.Spots.{Step, Spot, item, key, under, value_spot, element_spots, entry_spots, field_steps, field_spots, member_steps, member_spots, spots_of}
use Rattle.ild_typed.specs.RootSpots.{bucket_spots, root_spots}
use Rattle.ild_typed.specs.Refused.{AreParts}
use Rattle.ild_typed.specs.Ways.{moved, step_in, found_at}
use Rattle.ild_typed.proofs.Basics.{then_from, map_from, true_from}
use Rattle.ild_typed.proofs.Entries.{only_text_data, only_bytes_data, value_sorted, value_first}
use Rattle.ild_typed.proofs.Onlies.{only_list, only_struct, only_union}
use Rattle.ild_typed.proofs.PartsTrees.{content_found}
use Rattle.ild_typed.proofs.Rising.{first_there, below_none}
use Rattle.ild_typed.proofs.Structs.{written, field_from, look, past, not_there}
use Rattle.ild_typed.proofs.Unions.{only_map_data}
use Rattle.ild_typed.proofs.WaySteps.{IsBare, bare_text, bare_bytes, item_found, key_found, value_found, StandFrom, first_of, rest_of, from_start}
use Rattle.ild_layer_places.specs.Ending.{Ends, EndsAt, EndsBelow, FieldsEnd, IsOwn, PartsEnd, has_inline}
use Rattle.ild_layer_piece.specs.Pieces.{form_key}
use Rattle.ild_schema.specs.declared.row.Row.{Row}
use Rattle.ild_schema.specs.Copies.{base}
use Rattle.ild_schema.proofs.Legibly.{legible}
use Rattle.ild_schema.proofs.Ruling.{Passes, def_passes}
use Rattle.std.specs.Prelude.{is_some}
use Rattle.std.proofs.lemmas.Bool.{and_parts}

-- ---- ways

abbrev All : Data → List Spot → Type 0
All t ps = AllByRecursion (IsOwn t) ps

below : (t d : Data) (s : Step) (rest : List Step) → Ends (s ∷ rest) t d → IsBare d ⊎ EndsBelow (s ∷ rest) t d
below t d s rest ends = inr (record { step = s; rest = rest; is = refl; ends = ends })

as_parts : (b : Bool) (t : Data) (ps : List Spot) → All t ps → AllByRecursion (EndsAt b t) ps
as_parts b t [] all = tt
as_parts b t (p ∷ ps) all = (inl all.0, as_parts b t ps all.1)

pub ends_step : (s : Step) (way : List Step) (d : Data) (o : ℕ) (e x : Data) → step_in s d ≡ Some (o, e) → Ends way e x → Ends (s ∷ way) d x
ends_step s way d o e x is (q, there) =
    (o + q, ap (λ p. option_and_then (λ (r : ℕ × Data). moved r.0 (found_at way r.1)) p) is ∙ ap (moved o) there)

pub ends_here : (d : Data) → Ends [] d d
ends_here d = (0, refl)

to_item : (ds : List Data) (n : ℕ) (e : Data) (way : List Step) (x : Data) → slice_get ds n ≡ Some e → Ends way e x → Ends (item n ∷ way) (T.list (T.items_of ds)) x
to_item ds n e way x h l =
    let f = item_found ds n e h in
    let front = length (head 4 (length (T.items_list (T.items_of ds)))) in
    ends_step (item n) way (T.list (T.items_of ds)) (front + f.0) e x (ap (moved front) f.1) l

pub to_value : (es : List (List ℕ × Data)) (k : List ℕ) (e : Data) (way : List Step) (x : Data) → value_at k es ≡ Some e → Ends way e x → Ends (under k ∷ way) (map_data es) x
to_value es k e way x h l =
    let f = value_found es k e h in
    let front = length (head 5 (length (T.members_list (T.members_of es)))) in
    ends_step (under k) way (map_data es) (front + f.0) e x (ap (moved front) f.1) l

pub key_ends : (es : List (List ℕ × Data)) (k : List ℕ) (e : Data) (way : List Step) (x : Data) → value_at k es ≡ Some e → Ends way (T.text k) x → Ends (key k ∷ way) (map_data es) x
key_ends es k e way x h l =
    let f = key_found es k e h in
    let front = length (head 5 (length (T.members_list (T.members_of es)))) in
    ends_step (key k) way (map_data es) (front + f.0) (T.text k) x (ap (moved front) f.1) l

-- ---- lists, and maps

elements_end : (s : Slot) (whole : List Data) (n : ℕ) (ds : List Data) → StandFrom whole n ds → All (T.list (T.items_of whole)) (element_spots s n ds)
elements_end s whole n [] each = tt
elements_end s whole n (d ∷ ds) each =
    (below _ _ _ _ (to_item whole n d [] d (first_of whole n d ds each) (ends_here d)), elements_end s whole (n + 1) ds (rest_of whole n d ds each))

-- the look-ups in some entries find the same in a whole
abbrev FoundIn : List (List ℕ × Data) → List (List ℕ × Data) → Type 0
FoundIn whole es = (q : List ℕ) (v : Data) → value_at q es ≡ Some v → value_at q whole ≡ Some v

-- behind an entry that stands below them
behind_first : (e : List ℕ × Data) (es : List (List ℕ × Data)) → Rises (e ∷ es) → FoundIn (e ∷ es) es
behind_first e es up q v h = by (same_text q e.0) refl where
  by : (b : Bool) → b ≡ same_text q e.0 → cond b (Some e.1) (value_at q es) ≡ Some v
  by true is = absurd (none-some v (sym (ap (λ k. value_at k es) (text_same q e.0 is) ∙ below_none e.0 es up.0 up.1) ∙ h))
  by false is = h

entries_end : (k : TypeNo) (s : Slot) (whole : List (List ℕ × Data)) (i : ℕ) (es : List (List ℕ × Data)) → Rises es → FoundIn whole es → All (map_data whole) (entry_spots MF.Map k s i es)
entries_end k s whole i [] up found = tt
entries_end k s whole i (e ∷ es) up found =
    let here : value_at e.0 whole ≡ Some e.1 = found e.0 e.1 (first_there e es) in
    let rest = entries_end k s whole (i + 1) es up.1 (λ q v h. found q v (behind_first e es up q v h)) in
    (inl (bare_text e.0), (below _ _ _ _ (to_value whole e.0 e.1 [] e.1 here (ends_here e.1)), rest))

pairs_end : (k : TypeNo) (s : Slot) (whole : List Data) (i : ℕ) (es : List (List ℕ × Data)) → StandFrom whole i (map pair_data es) → All (T.list (T.items_of whole)) (entry_spots MF.ListPairs k s i es)
pairs_end k s whole i [] each = tt
pairs_end k s whole i (e ∷ es) each =
    let here = first_of whole i (pair_data e) (map pair_data es) each in
    let rest = pairs_end k s whole (i + 1) es (rest_of whole i (pair_data e) (map pair_data es) each) in (
      inl (bare_text e.0),
      (below _ _ _ _ (to_item whole i (pair_data e) (item 1 ∷ []) e.1 here (to_item (T.text e.0 ∷ e.1 ∷ []) 1 e.1 [] e.1 refl (ends_here e.1))), rest),
    )

inside_end : (inner entry : List ℕ) (k : TypeNo) (s : Slot) (t : Data) (i : ℕ) (es : List (List ℕ × Data)) → AllByRecursion (λ e. IsBare e.1) es → All t (entry_spots (MF.StringPairs inner entry) k s i es)
inside_end inner entry k s t i [] bare = tt
inside_end inner entry k s t i (e ∷ es) bare =
    (inl (bare_text e.0), (inl bare.0, inside_end inner entry k s t (i + 1) es bare.1))

map_end : (form : MapForm) (k : TypeNo) (s : Slot) (es : List (List ℕ × Data)) (t : Data) → map_form alone form (L.map es) ≡ Some t → IsTree t → All t (entry_spots form k s 0 es)
map_end MF.Map k s es t made tree =
    let same = same_Some (map_data es) t made in
    subst (λ u. All u (entry_spots MF.Map k s 0 es)) same (entries_end k s es 0 es (rises_list es (subst IsTree (sym same) tree)) (λ q v h. h))
map_end MF.ListPairs k s es t made tree =
    subst (λ u. All u (entry_spots MF.ListPairs k s 0 es)) (same_Some (listpairs es) t made) (pairs_end k s (map pair_data es) 0 es (from_start (map pair_data es)))
map_end (MF.StringPairs inner entry) k s es t made tree = inside_end inner entry k s t 0 es (stringpairs_bare inner entry es t made)
map_end (MF.Hamt p) k s es t made tree = absurd (none-some t made)

-- ---- fields

-- under its name, where the names are apart
named_end : (whole : List (List ℕ × Data)) (n : ℕ) (fs : List Field) (os : List (Option Data)) (es : List (List ℕ × Data)) → AreNamesApart fs → field_entries fs os ≡ Some es → FoundIn whole es
    → All (map_data whole) (field_spots S.Map n fs os)
named_end whole n [] os es apart e found = tt
named_end whole n (f ∷ fs) [] es apart e found = tt
named_end whole n (f ∷ fs) (o ∷ os) es apart e found =
    let x = field_from f fs o os es e in
    let none = not_there (field_text f) fs os x.rest apart.0 x.later in
    let inside : FoundIn whole (written f o ++ x.rest) = λ q v h. found q v (ap (value_at q) x.is ∙ h) in
    by o x.rest (look f o x.rest none) inside
    (λ m. named_end whole m fs os x.rest apart.1 x.later (λ q v h. inside q v (keep o x.rest none q v h (same_text q (field_text f)) refl)))
  where
    keep : (o : Option Data) (rest : List (List ℕ × Data)) → value_at (field_text f) rest ≡ None → (q : List ℕ) (d : Data) → value_at q rest ≡ Some d
        → (b : Bool) → b ≡ same_text q (field_text f) → value_at q (written f o ++ rest) ≡ Some d
    keep o rest none q d h true is = absurd (none-some d (sym none ∙ ap (λ k. value_at k rest) (sym (text_same q (field_text f) is)) ∙ h))
    keep o rest none q d h false is = past q f o rest (other_text q (field_text f) is) ∙ h

    seen : Option Data → Option Data
    seen None = None
    seen (Some d) = cond (is_implicit f.implicit d) None (Some d)

    by : (o : Option Data) (rest : List (List ℕ × Data)) → value_at (field_text f) (written f o ++ rest) ≡ seen o → FoundIn whole (written f o ++ rest)
        → ((m : ℕ) → All (map_data whole) (field_spots S.Map m fs os)) → All (map_data whole) (field_spots S.Map n (f ∷ fs) (o ∷ os))
    by None rest shown inside later = later n
    by (Some d) rest shown inside later = pick (is_implicit f.implicit d) refl where
      pick : (b : Bool) → is_implicit f.implicit d ≡ b
          → All (map_data whole) (cond b (value_spot f.slot d [] ∷ field_spots S.Map n fs os) (value_spot f.slot d (field_steps S.Map f n) ∷ field_spots S.Map (n + 1) fs os))
      pick true is = (inl (implicit_bare f.implicit d is), later n)
      pick false is = (below _ _ _ _ (to_value whole (field_text f) d [] d (inside (field_text f) d (shown ∙ ap (λ b. cond b None (Some d)) is)) (ends_here d)), later (n + 1))

-- in pairs, as many of which stand before as fields are written before
paired_end : (whole : List Data) (n : ℕ) (fs : List Field) (os : List (Option Data)) (es : List (List ℕ × Data)) → field_entries fs os ≡ Some es → StandFrom whole n (map pair_data es)
    → All (T.list (T.items_of whole)) (field_spots S.ListPairs n fs os)
paired_end whole n [] os es e each = tt
paired_end whole n (f ∷ fs) [] es e each = tt
paired_end whole n (f ∷ fs) (o ∷ os) es e each =
    let x = field_from f fs o os es e in
    by o x.rest (subst (λ xs. StandFrom whole n (map pair_data xs)) x.is each) (λ m more. paired_end whole m fs os x.rest x.later more)
  where
    by : (o : Option Data) (rest : List (List ℕ × Data)) → StandFrom whole n (map pair_data (written f o ++ rest))
        → ((m : ℕ) → StandFrom whole m (map pair_data rest) → All (T.list (T.items_of whole)) (field_spots S.ListPairs m fs os))
        → All (T.list (T.items_of whole)) (field_spots S.ListPairs n (f ∷ fs) (o ∷ os))
    by None rest more later = later n more
    by (Some d) rest more later = pick (is_implicit f.implicit d) refl more where
      pick : (b : Bool) → is_implicit f.implicit d ≡ b → StandFrom whole n (map pair_data (cond b [] ((field_text f, d) ∷ []) ++ rest))
          → All (T.list (T.items_of whole)) (cond b (value_spot f.slot d [] ∷ field_spots S.ListPairs n fs os) (value_spot f.slot d (field_steps S.ListPairs f n) ∷ field_spots S.ListPairs (n + 1) fs os))
      pick true is all = (inl (implicit_bare f.implicit d is), later n all)
      pick false is all =
          let here = first_of whole n (pair_data (field_text f, d)) (map pair_data rest) all in
          (below _ _ _ _ (to_item whole n (pair_data (field_text f, d)) (item 1 ∷ []) d here (to_item (T.text (field_text f) ∷ d ∷ []) 1 d [] d refl (ends_here d))), later (n + 1) (rest_of whole n (pair_data (field_text f, d)) (map pair_data rest) all))

absent_end : (t : Data) (form : StructForm) (n : ℕ) (fs : List Field) (os : List (Option Data)) → are_absent fs os ≡ true → All t (field_spots form n fs os)
absent_end t form n [] os e = tt
absent_end t form n (f ∷ fs) [] e = tt
absent_end t form n (f ∷ fs) (Some d ∷ os) e = absurd cc
absent_end t form n (f ∷ fs) (None ∷ os) e = absent_end t form n fs os (and_parts f.optional (are_absent fs os) e).1

-- no field of a tuple has a value that stands for it
abbrev AreWritten : List Field → Type 0
AreWritten fs = AllByRecursion (λ f. f.implicit ≡ None) fs

tuple_end : (whole : List Data) (n : ℕ) (fs : List Field) (os : List (Option Data)) (ds : List Data) → AreWritten fs → tuple_items fs os ≡ Some ds → StandFrom whole n ds
    → All (T.list (T.items_of whole)) (field_spots S.Tuple n fs os)
tuple_end whole n [] os ds all e each = tt
tuple_end whole n (f ∷ fs) [] ds all e each = tt
tuple_end whole n (f ∷ fs) (None ∷ os) ds all e each =
    absent_end (T.list (T.items_of whole)) S.Tuple n fs os (and_parts f.optional (are_absent fs os) (true_from (are_absent (f ∷ fs) (None ∷ os)) [] ds e).0).1
tuple_end whole n (f ∷ fs) (Some d ∷ os) ds all e each =
    let x = map_from (λ r. d ∷ r) (tuple_items fs os) ds e in
    let own : StandFrom whole n (d ∷ x.item) = subst (StandFrom whole n) (sym (same_Some (d ∷ x.item) ds x.made)) each in
    let rest = tuple_end whole (n + 1) fs os x.item all.1 x.there (rest_of whole n d x.item own) in
    subst (λ o. All (T.list (T.items_of whole)) (cond (is_implicit o d) (value_spot f.slot d [] ∷ field_spots S.Tuple n fs os) (value_spot f.slot d (item n ∷ []) ∷ field_spots S.Tuple (n + 1) fs os))) (sym all.0)
    (below _ _ _ _ (to_item whole n d [] d (first_of whole n d x.item own) (ends_here d)), rest)

-- inside a text
bare_fields_end : (t : Data) (form : StructForm) → ((f : Field) (n : ℕ) → field_steps form f n ≡ []) → (n : ℕ) (fs : List Field) (os : List (Option Data)) → AllByRecursion (λ o. IfSome o IsBare) os
    → All t (field_spots form n fs os)
bare_fields_end t form none n [] os bare = tt
bare_fields_end t form none n (f ∷ fs) [] bare = tt
bare_fields_end t form none n (f ∷ fs) (None ∷ os) bare = bare_fields_end t form none n fs os bare.1
bare_fields_end t form none n (f ∷ fs) (Some d ∷ os) bare = pick (is_implicit f.implicit d) (λ m. bare_fields_end t form none m fs os bare.1) where
  pick : (b : Bool) → ((m : ℕ) → All t (field_spots form m fs os))
      → All t (cond b (value_spot f.slot d [] ∷ field_spots form n fs os) (value_spot f.slot d (field_steps form f n) ∷ field_spots form (n + 1) fs os))
  pick true later = (inl bare.0, later n)
  pick false later = (inl bare.0, later (n + 1))

struct_end : (form : StructForm) (fs : List Field) (os : List (Option Data)) (t : Data) → ClearStruct form fs → (form ≡ S.Tuple → AreWritten fs) → struct_form form fs os ≡ Some t → All t (field_spots form 0 fs os)
struct_end S.Map fs os t clear plain e =
    let x = map_from (λ es. map_data (in_key_order es)) (field_entries fs os) t e in
    subst (λ u. All u (field_spots S.Map 0 fs os)) (same_Some (map_data (in_key_order x.item)) t x.made)
    (named_end (in_key_order x.item) 0 fs os x.item clear.apart x.there (λ q v h. value_sorted q x.item ∙ h))
struct_end S.Tuple fs os t clear plain e =
    let x = map_from (λ ds. T.list (T.items_of ds)) (tuple_items fs os) t e in
    subst (λ u. All u (field_spots S.Tuple 0 fs os)) (same_Some (T.list (T.items_of x.item)) t x.made) (tuple_end x.item 0 fs os x.item (plain refl) x.there (from_start x.item))
struct_end S.ListPairs fs os t clear plain e =
    let x = map_from listpairs (field_entries fs os) t e in
    subst (λ u. All u (field_spots S.ListPairs 0 fs os)) (same_Some (listpairs x.item) t x.made) (paired_end (map pair_data x.item) 0 fs os x.item x.there (from_start (map pair_data x.item)))
struct_end (S.StringPairs inner entry) fs os t clear plain e =
    let x = then_from (stringpairs inner entry) (field_entries fs os) t e in
    bare_fields_end t (S.StringPairs inner entry) (λ f n. refl) 0 fs os (entries_bare fs os x.item x.there (stringpairs_bare inner entry x.item t x.made))
struct_end (S.StringJoin delim) fs os t clear plain e =
    let x = then_from (stringjoin delim) (all_items fs os) t e in
    let y = map_from T.text (option_and_then (join delim) (texts_in x.item)) t x.made in
    let z = then_from (join delim) (texts_in x.item) y.item y.there in
    bare_fields_end t (S.StringJoin delim) (λ f n. refl) 0 fs os (joined_bare fs os x.item z.item x.there z.there)

-- ---- members of unions

marked_end : (s : Slot) (form : UnionForm) (d t : Data) (m : Member) (name : List ℕ) → KeysApart form → mark_text m.mark ≡ Some name → marked_form form d name ≡ Some t → EndsAt (is_some (form_key form)) t (value_spot s d (member_steps form m))
marked_end s UF.Keyed d t m name keys is e =
    subst (λ o. EndsAt false t (value_spot s d (option_map_or (λ k. under k ∷ []) o []))) (sym is)
    (subst (λ u. EndsAt false u (value_spot s d (under name ∷ []))) (same_Some (map_data ((name, d) ∷ [])) t e) (inl (below _ _ _ _ (to_value ((name, d) ∷ []) name d [] d (value_first name d []) (ends_here d)))))
marked_end s UF.Kinded d t m name keys is e = absurd (none-some t e)
marked_end s UF.StringPrefix d t m name keys is e =
    let y = map_from (λ x. T.text (name ++ x)) (text_in d) t e in inl (inl (subst IsBare (sym (only_text_data d y.item y.there)) (bare_text y.item)))
marked_end s UF.BytesPrefix d t m name keys is e =
    let y = then_from (λ front. option_map (λ x. T.bytes (front ++ x)) (bytes_in d)) (bytes_of_hex name) t e in
    let z = map_from (λ x. T.bytes (y.item ++ x)) (bytes_in d) t y.made in
    inl (inl (subst IsBare (sym (only_bytes_data d z.item z.there)) (bare_bytes z.item)))
marked_end s (UF.Envelope k content) d t m name keys is e =
    let es : List (List ℕ × Data) = put k (T.text name) ((content, d) ∷ []) in
    subst (λ u. EndsAt false u (value_spot s d (under content ∷ []))) (same_Some (map_data es) t e) (inl (below _ _ _ _ (to_value es content d [] d (content_found k content (T.text name) d keys) (ends_here d))))
marked_end s (UF.Inline k) d t m name keys is e =
    let y = then_from (inlined k name) (members_in d) t e in
    let z = true_from (is_none (value_at k y.item)) (map_data (put k (T.text name) y.item)) t y.made in
    inr (refl, inr (refl, record { key = k; name = name; entries = y.item; none = none_is (value_at k y.item) z.0; whole = z.1; part = only_map_data d y.item y.there }))

member_end : (s : Slot) (form : UnionForm) (d t : Data) (m : Member) → KeysApart form → member_form form d m ≡ Some t → EndsAt (is_some (form_key form)) t (value_spot s d (member_steps form m))
member_end s UF.Kinded d t m keys e =
    let y = then_from (λ k. cond (same_kind k (kind_word_of d)) (Some d) None) (mark_kind m.mark) t e in
    inr (refl, inl (true_from (same_kind y.item (kind_word_of d)) d t y.made).1)
member_end s UF.Keyed d t m keys e = let y = then_from (marked_form UF.Keyed d) (mark_text m.mark) t e in marked_end s UF.Keyed d t m y.item keys y.there y.made
member_end s UF.StringPrefix d t m keys e = let y = then_from (marked_form UF.StringPrefix d) (mark_text m.mark) t e in marked_end s UF.StringPrefix d t m y.item keys y.there y.made
member_end s UF.BytesPrefix d t m keys e = let y = then_from (marked_form UF.BytesPrefix d) (mark_text m.mark) t e in marked_end s UF.BytesPrefix d t m y.item keys y.there y.made
member_end s (UF.Envelope k c) d t m keys e = let y = then_from (marked_form (UF.Envelope k c) d) (mark_text m.mark) t e in marked_end s (UF.Envelope k c) d t m y.item keys y.there y.made
member_end s (UF.Inline k) d t m keys e = let y = then_from (marked_form (UF.Inline k) d) (mark_text m.mark) t e in marked_end s (UF.Inline k) d t m y.item keys y.there y.made

-- ---- the entries in the block of a HAMT's root

module _ (shape : HamtShape) (k : TypeNo) (s : Slot) (slots : List Trie.TrieSlot) where
  abbrev Root : Data
  Root = root_map shape (node_data slots)

  -- from the root map to an element of its node
  to_element : (n : ℕ) (e : Data) (way : List Step) (x : Data) → slice_get (flat_map elements_of slots) n ≡ Some e → Ends way e x → Ends (under (codes "hamt") ∷ item 1 ∷ item n ∷ way) Root x
  to_element n e way x h l =
      let elements : Data = T.list (T.items_of (flat_map elements_of slots)) in
      to_value ((codes "hamt", node_data slots) ∷ (codes "hashAlg", T.integer (pos 18)) ∷ (codes "bucketSize", T.integer (pos shape.bucket)) ∷ []) (codes "hamt") (node_data slots) (item 1 ∷ item n ∷ way) x refl
      (to_item (T.bytes (map_of slots) ∷ elements ∷ []) 1 elements (item n ∷ way) x refl (to_item (flat_map elements_of slots) n e way x h l))

  bucket_end : (n : ℕ) (whole : List Data) → slice_get (flat_map elements_of slots) n ≡ Some (T.list (T.items_of whole)) → (i : ℕ) (es : List (List ℕ × Data)) → StandFrom whole i (map entry_data es)
      → All Root (bucket_spots k s n i es)
  bucket_end n whole here i [] each = tt
  bucket_end n whole here i (e ∷ es) each =
      let own = first_of whole i (entry_data e) (map entry_data es) each in
      let inside = to_item whole i (entry_data e) (item 1 ∷ []) e.1 own (to_item (T.bytes e.0 ∷ e.1 ∷ []) 1 e.1 [] e.1 refl (ends_here e.1)) in (
        inl (bare_text e.0),
        (below _ _ _ _ (to_element n (T.list (T.items_of whole)) (item i ∷ item 1 ∷ []) e.1 here inside), bucket_end n whole here (i + 1) es (rest_of whole i (entry_data e) (map entry_data es) each)),
      )

  append_end : (ps qs : List Spot) → All Root ps → All Root qs → All Root (ps ++ qs)
  append_end [] qs a b = b
  append_end (p ∷ ps) qs a b = (a.0, append_end ps qs a.1 b)

  slots_end : (n : ℕ) (zs : List Trie.TrieSlot) → StandFrom (flat_map elements_of slots) n (flat_map elements_of zs) → All Root (root_spots k s n zs)
  slots_end n [] each = tt
  slots_end n (Trie.empty ∷ zs) each = slots_end n zs each
  slots_end n (Trie.bucket es ∷ zs) each =
      let own : Data = T.list (T.items_of (map entry_data es)) in
      append_end (bucket_spots k s n 0 es) (root_spots k s (n + 1) zs)
      (bucket_end n (map entry_data es) (first_of (flat_map elements_of slots) n own (flat_map elements_of zs) each) 0 es (from_start (map entry_data es)))
      (slots_end (n + 1) zs (rest_of (flat_map elements_of slots) n own (flat_map elements_of zs) each))
  slots_end n (Trie.child id ∷ zs) each = slots_end (n + 1) zs (rest_of (flat_map elements_of slots) n (T.link (cid_of id)) (flat_map elements_of zs) each)

-- ---- all forms

-- what is asked of a struct as a tuple
abbrev TuplePlain : TypeDef → Type 0
TuplePlain (D.Struct s) = s.form ≡ S.Tuple → AreWritten s.fields
TuplePlain d = Unit {0}

abbrev AllParts : Bool → Data → List Spot → Type 0
AllParts b t ps = AllByRecursion (EndsAt b t) ps

layer_end : (d : TypeDef) (l : Layer Data) (t : Data) → ClearType d → TuplePlain d → composed alone d l ≡ Some t → IsTree t → AllParts (has_inline d) t (spots_of d l)
layer_end (D.List elem at) l t clear plain e tree =
    let x = map_from (λ ds. T.list (T.items_of ds)) (as_list l) t e in
    subst (λ k. AllParts false t (spots_of (D.List elem at) k)) (sym (only_list l x.item x.there))
    (as_parts false t (element_spots elem 0 x.item) (subst (λ u. All u (element_spots elem 0 x.item)) (same_Some (T.list (T.items_of x.item)) t x.made) (elements_end elem x.item 0 x.item (from_start x.item))))
layer_end (D.Struct st) l t clear plain e tree =
    let x = then_from (struct_form st.form st.fields) (as_struct l) t e in
    subst (λ k. AllParts false t (spots_of (D.Struct st) k)) (sym (only_struct l x.item x.there)) (as_parts false t (field_spots st.form 0 st.fields x.item) (struct_end st.form st.fields x.item t clear plain x.made))
layer_end (D.Union un) l t clear plain e tree =
    let x = then_from (union_form un.form un.members) (as_union l) t e in
    let y = then_from (member_form un.form x.item.1) (slice_get un.members x.item.0) t x.made in
    subst (λ k. AllParts (is_some (form_key un.form)) t (spots_of (D.Union un) k)) (sym (only_union l x.item x.there))
    (subst (λ o. AllParts (is_some (form_key un.form)) t (option_map_or (member_spots un.form x.item.1) o [])) (sym y.there) (member_end (slot_of y.item) un.form x.item.1 t y.item clear.keys y.made, tt))
layer_end (D.Map k key_at value at form) l t clear plain e tree = by l e where
  by : (m : Layer Data) → map_form alone form m ≡ Some t → AllParts false t (spots_of (D.Map k key_at value at form) m)
  by (L.map es) h = as_parts false t (entry_spots form k value 0 es) (map_end form k value es t h tree)
  by m h = tt
layer_end d l t clear plain e tree = tt

all_parts_end : (d : TypeDef) (t : Data) (ps : List Spot) → ClearType d → TuplePlain d → IsTree t → AreParts d t ps → AllParts (has_inline d) t ps
all_parts_end (D.Map k key_at value at (MF.Hamt p)) t ps clear plain tree (slots, root, e) =
    as_parts false t ps (subst (All t) (sym e) (subst (λ u. All u (root_spots k value 0 slots)) (sym root.tree) (slots_end p k value slots 0 slots (from_start (flat_map elements_of slots)))))
all_parts_end (D.Map k key_at value at MF.Map) t ps clear plain tree (l, made, e) = subst (AllParts false t) (sym e) (layer_end (D.Map k key_at value at MF.Map) l t clear plain made tree)
all_parts_end (D.Map k key_at value at MF.ListPairs) t ps clear plain tree (l, made, e) = subst (AllParts false t) (sym e) (layer_end (D.Map k key_at value at MF.ListPairs) l t clear plain made tree)
all_parts_end (D.Map k key_at value at (MF.StringPairs inner entry)) t ps clear plain tree (l, made, e) = subst (AllParts false t) (sym e) (layer_end (D.Map k key_at value at (MF.StringPairs inner entry)) l t clear plain made tree)
all_parts_end D.Bool t ps clear plain tree (l, made, e) = subst (AllParts false t) (sym e) (layer_end D.Bool l t clear plain made tree)
all_parts_end D.Text t ps clear plain tree (l, made, e) = subst (AllParts false t) (sym e) (layer_end D.Text l t clear plain made tree)
all_parts_end D.Bytes t ps clear plain tree (l, made, e) = subst (AllParts false t) (sym e) (layer_end D.Bytes l t clear plain made tree)
all_parts_end D.Int t ps clear plain tree (l, made, e) = subst (AllParts false t) (sym e) (layer_end D.Int l t clear plain made tree)
all_parts_end D.Any t ps clear plain tree (l, made, e) = subst (AllParts false t) (sym e) (layer_end D.Any l t clear plain made tree)
all_parts_end (D.Link target) t ps clear plain tree (l, made, e) = subst (AllParts false t) (sym e) (layer_end (D.Link target) l t clear plain made tree)
all_parts_end (D.Unit form) t ps clear plain tree (l, made, e) = subst (AllParts false t) (sym e) (layer_end (D.Unit form) l t clear plain made tree)
all_parts_end (D.List elem at) t ps clear plain tree (l, made, e) = subst (AllParts false t) (sym e) (layer_end (D.List elem at) l t clear plain made tree)
all_parts_end (D.Struct st) t ps clear plain tree (l, made, e) = subst (AllParts false t) (sym e) (layer_end (D.Struct st) l t clear plain made tree)
all_parts_end (D.Union un) t ps clear plain tree (l, made, e) = subst (AllParts (is_some (form_key un.form)) t) (sym e) (layer_end (D.Union un) l t clear plain made tree)
all_parts_end (D.Enum en) t ps clear plain tree (l, made, e) = subst (AllParts false t) (sym e) (layer_end (D.Enum en) l t clear plain made tree)
all_parts_end (D.Copy target) t ps clear plain tree (l, made, e) = subst (AllParts false t) (sym e) (layer_end (D.Copy target) l t clear plain made tree)

-- ---- the fields of a tuple have no implicit values

no_value : {A : Type 0} (o : Option A) → is_some o ≡ false → o ≡ None
no_value None e = refl
no_value (Some a) e = absurd cc

plain_type : (rows : List Row) (at : ℕ) (d : TypeDef) → Passes rows at d → TuplePlain d
plain_type rows at (D.Struct s) p = plain_struct s.form at s.fields p.strategy
plain_type rows at d p = tt

pub parts_end : PartsEnd
parts_end rows schema s d is t ps tree parts =
    let n = base rows s.ty.0 in
    let x = def_passes rows schema.accepted.none_fails n d is in
    all_parts_end d t ps ((legible rows schema.accepted).clear.types n d is) (plain_type rows x.0 d x.1) tree parts

pub fields_end : FieldsEnd
fields_end rows schema s st is t ps tree (l, made, e) =
    let n = base rows s.ty.0 in
    let x = def_passes rows schema.accepted.none_fails n (D.Struct st) is in
    let y = then_from (struct_form st.form st.fields) (as_struct l) t made in
    subst (All t) (sym e)
    (subst (λ k. All t (spots_of (D.Struct st) k)) (sym (only_struct l y.item y.there))
    (struct_end st.form st.fields y.item t ((legible rows schema.accepted).clear.types n (D.Struct st) is) (plain_type rows x.0 (D.Struct st) x.1) y.made))
