-- The item of a part is no longer than that of its holder, where the part has parts itself: nothing of it is left out of a block.
use Rattle.std.proofs.Common.{◌≡◌, ◌≤◌, ℕ, suc, Bool, true, false, cond, List, [], ◌∷◌, ◌++◌, length, length-append, map, slice_get, Option, Some, None, sym, ◌∙◌, ap, subst, arith}
use Rattle.std.specs.Option.{option_map_or}
use Rattle.std.specs.Prelude.{option_and_then, option_map}
use Rattle.std.proofs.lemmas.Option.{none-some, same_Some}
use Rattle.ild_typed.proofs.Basics.{if_from}
use Rattle.ild_typed.proofs.Unions.{only_map_data}
use Rattle.ild_typed.proofs.Entries.{only_bytes_data, only_text_data}
use Rattle.ild_data.proofs.Options.{none_is, chain_some, map_some}
use Rattle.ild_data.proofs.HeadSizes.{bytes_more, text_more}
use Rattle.ild_data.proofs.Lists.{items_of-items_list, members_of-members_list}
use Rattle.ild_data.specs.Data as T
use Rattle.ild_data.specs.Data.{Data, items_list, items_of, members_list, members_of}
use Rattle.ild_data.specs.Key.{put, same_text, value_at}
use Rattle.ild_data.specs.Spell.{spell}
use Rattle.ild_path_changes.proofs.Datas.{each}
use Rattle.ild_path_changes.proofs.Each.{each_pair-at, each-get}
use Rattle.ild_path_changes.proofs.Fields.{risen-at, written-at}
use Rattle.ild_path_changes.proofs.Lifting.{field_data-each, present_field, tuple_item, written_is}
use Rattle.ild_path_changes.proofs.Represented.{inside_data}
use Rattle.ild_path_changes.specs.Places.{field_data, field_named, field_place, left_out, written}
use Rattle.ild_path_sizes.proofs.Sizes.{in_joined, in_list, in_map, in_paired, in_pairs, in_put}
use Rattle.ild_path_edits.proofs.HeldTyped.{held_is, inside_any, with_slot}
use Rattle.ild_path_holder.proofs.Written.{is_written}
use Rattle.ild_path_holder.specs.Along.{is_holder}
use Rattle.ild_path_steps.proofs.Holding.{Held, held_by, of_any, of_elements, of_entries, of_fields, of_member, of_nothing}
use Rattle.ild_path_steps.specs.Steps.{is_left_out}
use Rattle.ild_schema.specs.Clear.{ClearStruct, KeysApart}
use Rattle.ild_schema.specs.Copies.{base}
use Rattle.ild_data.specs.Hex.{bytes_of_hex}
use Rattle.ild_schema.specs.Joins.{joined, pair_text}
use Rattle.ild_schema.specs.Legible.{IsLegible}
use Rattle.ild_schema.specs.Marks.{field_text, mark_kind, mark_text}
use Rattle.ild_schema.specs.Prelude.{anything}
use Rattle.ild_schema.specs.Slots.{form_of}
use Rattle.ild_schema.specs.Value.{Value}
use Rattle.ild_schema.specs.declared.def.Field.{Field}
use Rattle.ild_schema.specs.declared.def.MapForm.{MapForm}
use Rattle.ild_schema.specs.declared.def.MapForm.TheVariants as MF
use Rattle.ild_schema.specs.declared.def.Member.{Member}
use Rattle.ild_schema.specs.declared.def.StructForm.{StructForm}
use Rattle.ild_schema.specs.declared.def.StructForm.TheVariants as S
use Rattle.ild_schema.specs.declared.def.TypeDef.{TypeDef}
use Rattle.ild_schema.specs.declared.def.TypeDef.TheVariants as D
use Rattle.ild_schema.specs.declared.def.UnionForm.{UnionForm}
use Rattle.ild_schema.specs.declared.def.UnionForm.TheVariants as U
use Rattle.ild_schema.specs.declared.row.Row.{Row}
use Rattle.ild_splice_changes.proofs.Maps.{own_text, put-other}
use Rattle.ild_typed.proofs.OneValue.{Way, as_layer, as_null, way_of}
use Rattle.ild_typed.specs.At.{InSlot, seen}
use Rattle.ild_typed.specs.Composed.{inlined, map_form, marked_form, member_form, struct_form}
use Rattle.ild_typed.specs.Fields.{all_items, field_entries, tuple_items}
use Rattle.ild_typed.specs.Hamt.{alone}
use Rattle.ild_typed.specs.Holder.{any_holder, of_any as in_any, value_of}
use Rattle.ild_typed.specs.Layer as L
use Rattle.ild_typed.specs.Represented.{represented}
use Rattle.ild_typed.specs.Segment.{index_of, part, set_part}
use Rattle.ild_typed.specs.Strings.{bytes_in, in_key_order, listpairs, map_data, members_in, stringjoin, stringpairs, text_in, text_pairs, texts_in}
use Rattle.ild_typed.specs.Texts.{join, join_pairs}

abbrev Shorter : Data → Data → Type 0
Shorter t u = length (spell t) ≤ length (spell u)

same_data : (t u v : Data) → u ≡ v → Shorter t u → Shorter t v
same_data t u v e h = subst (Shorter t) e h

-- ---- texts of parts

paired : (inner entry k : List ℕ) (es : List (List ℕ × Data)) (t u : Data) → stringpairs inner entry es ≡ Some u → value_at k es ≡ Some t → Shorter t u
paired inner entry k es t u made there =
    let y = map_some T.text (option_and_then (join_pairs inner entry) (text_pairs es)) u made in
    let z = chain_some (join_pairs inner entry) (text_pairs es) y.0 y.1 in
    let a = if_from _ (join entry (map (pair_text inner) z.0)) y.0 z.2 in
    let b = if_from _ (Some (joined entry (map (pair_text inner) z.0))) y.0 a.1 in
    same_data t (T.text (joined entry (map (pair_text inner) z.0))) u (ap T.text (same_Some (joined entry (map (pair_text inner) z.0)) y.0 b.1) ∙ y.2) (in_paired inner entry k es z.0 t z.1 there)

joined_at : (delim : List ℕ) (ds : List Data) (i : ℕ) (t u : Data) → stringjoin delim ds ≡ Some u → slice_get ds i ≡ Some t → Shorter t u
joined_at delim ds i t u made there =
    let y = map_some T.text (option_and_then (join delim) (texts_in ds)) u made in
    let z = chain_some (join delim) (texts_in ds) y.0 y.1 in
    let b = if_from _ (Some (joined delim z.0)) y.0 z.2 in
    same_data t (T.text (joined delim z.0)) u (ap T.text (same_Some (joined delim z.0) y.0 b.1) ∙ y.2) (in_joined delim ds z.0 i t z.1 there)

-- ---- structs

item_first : (f : Field) (a t : Data) (o : Option Data) (xs : List Data) (n : ℕ) (b : Bool) → cond b (Some a) o ≡ Some t → (o ≡ Some t → slice_get xs n ≡ Some t) → slice_get (a ∷ xs) (cond b 0 (suc n)) ≡ Some t
item_first f a t o xs n true e rest = e
item_first f a t o xs n false e rest = rest e

all_item : (s : List ℕ) (fs : List Field) (ds : List (Option Data)) (xs : List Data) (t : Data) → all_items fs ds ≡ Some xs → field_data s fs ds ≡ Some t → slice_get xs (field_place s fs) ≡ Some t
all_item s [] ds xs t h e = absurd (none-some t e)
all_item s (f ∷ fs) [] xs t h e = absurd (none-some t e)
all_item s (f ∷ fs) (None ∷ os) xs t h e = absurd (none-some xs h)
all_item s (f ∷ fs) (Some a ∷ os) xs t h e =
    let x = map_some (λ ds. a ∷ ds) (all_items fs os) xs h in
    subst (λ ys. slice_get ys (field_place s (f ∷ fs)) ≡ Some t) x.2 (item_first f a t (field_data s fs os) x.0 (field_place s fs) (same_text s f.name) e (λ g. all_item s fs os x.0 t x.1 g))

module _ (fs : List Field) (ds : List (Option Data)) (t u : Data) (s : List ℕ) (g : Field) (named : field_named s fs ≡ Some g) (held : field_data s fs ds ≡ Some t) (out : left_out g t ≡ false) where
  entry_there : ClearStruct S.ListPairs fs → (es : List (List ℕ × Data)) → field_entries fs ds ≡ Some es → value_at (field_text g) es ≡ Some t
  entry_there clear es made =
      let w = written_is fs ds es made in
      ap (value_at (field_text g)) w.same ∙ written-at left_out s fs ds g clear.apart named ∙ ap (written left_out g) held ∙ ap (λ b. cond b None (Some t)) out

  in_struct : (form : StructForm) → struct_form form fs ds ≡ Some u → ClearStruct form fs → Shorter t u
  in_struct S.Map made clear =
      let x = map_some (λ es. map_data (in_key_order es)) (field_entries fs ds) u made in
      same_data t (map_data (in_key_order x.0)) u x.2 (in_map (field_text g) (in_key_order x.0) t (risen-at x.0 (field_text g) ∙ entry_there clear x.0 x.1))
  in_struct S.Tuple made clear =
      let x = map_some (λ xs. T.list (items_of xs)) (tuple_items fs ds) u made in
      let i = tuple_item s fs ds x.0 t x.1 held in
      same_data t (T.list (items_of x.0)) u x.2 (in_list x.0 (field_place s fs) t i.there)
  in_struct S.ListPairs made clear =
      let x = map_some listpairs (field_entries fs ds) u made in
      same_data t (listpairs x.0) u x.2 (in_pairs (field_text g) x.0 t (entry_there clear x.0 x.1))
  in_struct (S.StringPairs inner entry) made clear =
      let x = chain_some (stringpairs inner entry) (field_entries fs ds) u made in
      paired inner entry (field_text g) x.0 t u x.2 (entry_there clear.0 x.0 x.1)
  in_struct (S.StringJoin delim) made clear =
      let x = chain_some (stringjoin delim) (all_items fs ds) u made in
      joined_at delim x.0 (field_place s fs) t u x.2 (all_item s fs ds x.0 t x.1 held)

-- ---- unions

own_entry : (k : List ℕ) (t : Data) → value_at k ((k, t) ∷ []) ≡ Some t
own_entry k t = ap (λ b. cond b (Some t) None) (own_text k)

in_marked : (form : UnionForm) (t u : Data) (name : List ℕ) → marked_form form t name ≡ Some u → KeysApart form → Shorter t u
in_marked U.Keyed t u name made apart = same_data t (map_data ((name, t) ∷ [])) u (same_Some (map_data ((name, t) ∷ [])) u made) (in_map name ((name, t) ∷ []) t (own_entry name t))
in_marked U.Kinded t u name made apart = absurd (none-some u made)
in_marked U.StringPrefix t u name made apart =
    let x = map_some (λ s. T.text (name ++ s)) (text_in t) u made in
    subst (λ y. Shorter y u) (sym (only_text_data t x.0 x.1)) (same_data (T.text x.0) (T.text (name ++ x.0)) u x.2 (text_more x.0 (name ++ x.0) (omega (arith, length-append name x.0))))
in_marked U.BytesPrefix t u name made apart =
    let f = chain_some (λ front. option_map (λ s. T.bytes (front ++ s)) (bytes_in t)) (bytes_of_hex name) u made in
    let x = map_some (λ s. T.bytes (f.0 ++ s)) (bytes_in t) u f.2 in
    subst (λ y. Shorter y u) (sym (only_bytes_data t x.0 x.1)) (same_data (T.bytes x.0) (T.bytes (f.0 ++ x.0)) u x.2 (bytes_more x.0 (f.0 ++ x.0) (omega (arith, length-append f.0 x.0))))
in_marked (U.Envelope key content) t u name made apart =
    let ms = put key (T.text name) ((content, t) ∷ []) in
    same_data t (map_data ms) u (same_Some (map_data ms) u made) (in_map content ms t (put-other key content (T.text name) ((content, t) ∷ []) apart ∙ own_entry content t))
in_marked (U.Inline key) t u name made apart =
    let x = chain_some (inlined key name) (members_in t) u made in
    let y = if_from _ (Some (map_data (put key (T.text name) x.0))) u x.2 in
    subst (λ y. Shorter y u) (sym (only_map_data t x.0 x.1)) (same_data (map_data x.0) (map_data (put key (T.text name) x.0)) u (same_Some (map_data (put key (T.text name) x.0)) u y.1) (in_put key (T.text name) x.0 (none_is (value_at key x.0) y.0)))

in_union : (form : UnionForm) (t u : Data) (m : Member) → member_form form t m ≡ Some u → KeysApart form → Shorter t u
in_union U.Kinded t u m made apart =
    let x = chain_some _ (mark_kind m.mark) u made in
    let y = if_from _ (Some t) u x.2 in
    same_data t t u (same_Some t u y.1) (omega arith)
in_union U.Keyed t u m made apart = let x = chain_some (marked_form U.Keyed t) (mark_text m.mark) u made in in_marked U.Keyed t u x.0 x.2 apart
in_union U.StringPrefix t u m made apart = let x = chain_some (marked_form U.StringPrefix t) (mark_text m.mark) u made in in_marked U.StringPrefix t u x.0 x.2 apart
in_union U.BytesPrefix t u m made apart = let x = chain_some (marked_form U.BytesPrefix t) (mark_text m.mark) u made in in_marked U.BytesPrefix t u x.0 x.2 apart
in_union (U.Envelope key content) t u m made apart = let x = chain_some (marked_form (U.Envelope key content) t) (mark_text m.mark) u made in in_marked (U.Envelope key content) t u x.0 x.2 apart
in_union (U.Inline key) t u m made apart = let x = chain_some (marked_form (U.Inline key) t) (mark_text m.mark) u made in in_marked (U.Inline key) t u x.0 x.2 apart

-- ---- maps and lists

in_form : (form : MapForm) (k : List ℕ) (es : List (List ℕ × Data)) (t u : Data) → map_form alone form (L.map es) ≡ Some u → value_at k es ≡ Some t → Shorter t u
in_form MF.Map k es t u made there = same_data t (map_data es) u (same_Some (map_data es) u made) (in_map k es t there)
in_form MF.ListPairs k es t u made there = same_data t (listpairs es) u (same_Some (listpairs es) u made) (in_pairs k es t there)
in_form (MF.StringPairs inner entry) k es t u made there = paired inner entry k es t u made there
in_form (MF.Hamt shape) k es t u made there = absurd (none-some u made)

-- ---- data inside an Any

module _ (rows : List Row) (any_there : form_of rows anything ≡ Some D.Any) (q : InSlot) (t : Data) (made : represented alone rows q.0 q.1 ≡ Some t) where
  inside_is : (d : Data) → (anything, in_any d) ≡ q → d ≡ t
  inside_is d e = same_Some d t (sym (inside_data alone rows any_there d) ∙ (λ i. represented alone rows ((e i).0) ((e i).1)) ∙ made)

  in_any_data : (u : Data) (s : List ℕ) → part (any_holder u) s ≡ Some q → Shorter t u
  in_any_data (T.list ds) s e =
      let x = inside_any (option_and_then (λ i. slice_get (items_list ds) i) (index_of s)) q e in
      let y = chain_some (λ i. slice_get (items_list ds) i) (index_of s) x.0 x.1 in
      subst (λ d. Shorter d (T.list ds)) (inside_is x.0 x.2) (same_data x.0 (T.list (items_of (items_list ds))) (T.list ds) (ap T.list (items_of-items_list ds)) (in_list (items_list ds) y.0 x.0 y.2))
  in_any_data (T.map ms) s e =
      let x = inside_any (value_at s (members_list ms)) q e in
      subst (λ d. Shorter d (T.map ms)) (inside_is x.0 x.2) (same_data x.0 (T.map (members_of (members_list ms))) (T.map ms) (ap T.map (members_of-members_list ms)) (in_map s (members_list ms) x.0 x.1))
  in_any_data T.null s e = absurd (none-some q e)
  in_any_data (T.boolean b) s e = absurd (none-some q e)
  in_any_data (T.integer n) s e = absurd (none-some q e)
  in_any_data (T.text y) s e = absurd (none-some q e)
  in_any_data (T.bytes y) s e = absurd (none-some q e)
  in_any_data (T.link y) s e = absurd (none-some q e)

-- ---- the whole

record IsHeld (rows : List Row) (p : InSlot) (u : Data) : Type 0 where
  type : TypeDef
  known : form_of rows p.0 ≡ Some type
  held : Held rows type (seen rows p) u

is_held : (rows : List Row) (p q : InSlot) (u : Data) (s : List ℕ) → represented alone rows p.0 p.1 ≡ Some u → part (seen rows p) s ≡ Some q → IsHeld rows p u
is_held rows p q u s made there = by (way_of alone rows p.0 p.1 u made) where
  by : Way alone rows p.0 p.1 u → IsHeld rows p u
  by (as_null a n z) = absurd (none-some q (sym (ap (λ v. part (seen rows (p.0, v)) s) a) ∙ there))
  by (as_layer d l is has done) = record { type = d; known = is; held = held_by rows p.0 u d is p.1 made }

-- of a part that is not left out
pub part_shorter : (rows : List Row) → IsLegible rows → form_of rows anything ≡ Some D.Any → (p q : InSlot) (s : List ℕ) (t u : Data) → represented alone rows p.0 p.1 ≡ Some u → represented alone rows q.0 q.1 ≡ Some t → part (seen rows p) s ≡ Some q
    → is_left_out (form_of rows p.0) s t ≡ false → Shorter t u
part_shorter rows legible any_there p q s t u made partly there out = let h = is_held rows p q u s made there in by h.type h.known h.held where
  by : (d : TypeDef) → form_of rows p.0 ≡ Some d → Held rows d (seen rows p) u → Shorter t u
  by d known (of_fields r os ds e z a b) =
      let form : form_of rows p.0 ≡ Some (D.Struct r) = known ∙ ap Some e in
      let y = present_field s r.fields os q (sym (ap (λ h. part h s) z) ∙ there) in
      let g = y.declared in
      let is : represented alone rows g.slot q.1 ≡ Some t = ap (λ z. represented alone rows z q.1) y.slot ∙ partly in
      let left : is_left_out (form_of rows p.0) s t ≡ left_out g t = ap (λ F. is_left_out F s t) form ∙ ap (λ o. option_map_or (λ g. left_out g t) o false) y.named in
      in_struct r.fields ds t u s g y.named (field_data-each (represented alone rows) s r.fields os ds g q.1 a y.named y.held ∙ is) (sym left ∙ out) r.form b (legible.clear.types (base rows (p.0).ty.0) (D.Struct r) form)
  by d known (of_member un n v m x e z a b g) =
      let form : form_of rows p.0 ≡ Some (D.Union un) = known ∙ ap Some e in
      let y = held_is s v (slice_get un.members n) m q a (sym (ap (λ h. part h s) z) ∙ there) in
      let is : x ≡ t = same_Some x t (sym b ∙ (λ i. represented alone rows ((y.1 i).0) ((y.1 i).1)) ∙ partly) in
      subst (λ d. Shorter d u) is (in_union un.form x u m g (legible.clear.types (base rows (p.0).ty.0) (D.Union un) form).keys)
  by d known (of_entries k k_at elem at form ps es e z a b) =
      let y = with_slot elem (value_at s ps) q (sym (ap (λ h. part h s) z) ∙ there) in
      let is : represented alone rows elem y.0 ≡ Some t = (λ i. represented alone rows ((y.2 i).0) ((y.2 i).1)) ∙ partly in
      in_form form s es t u b (each_pair-at (represented alone rows elem) ps es s a ∙ ap (option_and_then (represented alone rows elem)) y.1 ∙ is)
  by d known (of_elements elem at vs ds e z a b) =
      let y = with_slot elem (option_and_then (λ i. slice_get vs i) (index_of s)) q (sym (ap (λ h. part h s) z) ∙ there) in
      let x = chain_some (λ i. slice_get vs i) (index_of s) y.0 y.1 in
      let is : represented alone rows elem y.0 ≡ Some t = (λ i. represented alone rows ((y.2 i).0) ((y.2 i).1)) ∙ partly in
      same_data t (T.list (items_of ds)) u (sym b) (in_list ds x.0 t (each-get (represented alone rows elem) vs ds x.0 y.0 t a x.2 is))
  by d known (of_any e z) = in_any_data rows any_there q t partly u s (sym (ap (λ h. part h s) z) ∙ there)
  by d known (of_nothing v z) = absurd (none-some q (sym (ap (λ h. part h s) z) ∙ there))

-- where the part is a holder, its data are written, whatever it becomes
pub no_longer : (rows : List Row) → IsLegible rows → form_of rows anything ≡ Some D.Any → (p q : InSlot) (s : List ℕ) (c : Value) (old d t u : Data) → represented alone rows p.0 p.1 ≡ Some old → represented alone rows q.0 q.1 ≡ Some d
    → part (seen rows p) s ≡ Some q → is_holder (seen rows q) ≡ true → part (seen rows (p.0, value_of (set_part (seen rows p) s c))) s ≡ Some (q.0, c)
    → represented alone rows q.0 c ≡ Some t → represented alone rows p.0 (value_of (set_part (seen rows p) s c)) ≡ Some u → length (spell t) ≤ length (spell u)
no_longer rows legible any_there p q s c old d t u was partly there holds set part_made made =
    part_shorter rows legible any_there (p.0, value_of (set_part (seen rows p) s c)) (q.0, c) s t u made part_made set (is_written rows legible p q s old d was there partly holds t)
