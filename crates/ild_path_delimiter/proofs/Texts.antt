-- The parts of a text are texts.
use Rattle.std.proofs.Common.{◌≡◌, ℕ, zero, suc, List, [], ◌∷◌, ◌++◌, Bool, true, false, cond, slice_get, Option, Some, None, refl, sym, ◌∙◌, ap, subst}
use Rattle.std.specs.Option.{option_map_or}
use Rattle.std.specs.Prelude.{option_and_then, option_map}
use Rattle.std.proofs.lemmas.Option.{none-some, same_Some}
use Rattle.ild_data.proofs.Options.{chain_some, map_some}
use Rattle.ild_data.specs.Data as T
use Rattle.ild_data.specs.Data.{Data, items_of}
use Rattle.ild_data.specs.Key.{put, same_text, value_at}
use Rattle.ild_path_changes.proofs.Each.{each_pair-at, joined as both}
use Rattle.ild_path_changes.proofs.Fields.{written-at}
use Rattle.ild_path_changes.proofs.Lifting.{field_data-each, present_field, written_is}
use Rattle.ild_path_changes.specs.Places.{field_data, field_named, field_place, left_out, written}
use Rattle.ild_path_delimiter.proofs.Held.{is_held}
use Rattle.ild_path_delimiter.specs.Laws.{TextsOfTexts}
use Rattle.ild_path_edits.proofs.HeldTyped.{held_is, with_slot}
use Rattle.ild_path_holder.proofs.Written.{has_part, is_written}
use Rattle.ild_path_steps.proofs.Holding.{Held, of_any, of_elements, of_entries, of_fields, of_member, of_nothing}
use Rattle.ild_path_steps.specs.Steps.{is_left_out}
use Rattle.ild_schema.specs.Clear.{AreClearFields, ClearStruct}
use Rattle.ild_schema.specs.Copies.{base}
use Rattle.ild_data.specs.Hex.{bytes_of_hex}
use Rattle.ild_schema.specs.Legible.{IsLegible}
use Rattle.ild_schema.specs.Marks.{field_text, mark_kind, mark_text}
use Rattle.ild_schema.specs.Slots.{form_of}
use Rattle.ild_schema.specs.declared.def.Field.{Field}
use Rattle.ild_schema.specs.declared.def.MapForm.{MapForm}
use Rattle.ild_schema.specs.declared.def.MapForm.TheVariants as MF
use Rattle.ild_schema.specs.declared.def.Member.{Member}
use Rattle.ild_schema.specs.declared.def.StructForm.{StructForm}
use Rattle.ild_schema.specs.declared.def.StructForm.TheVariants as S
use Rattle.ild_schema.specs.declared.def.TypeDef.{TypeDef}
use Rattle.ild_schema.specs.declared.def.TypeDef.TheVariants as D
use Rattle.ild_schema.specs.declared.def.UnionForm.{UnionForm}
use Rattle.ild_schema.specs.declared.def.UnionForm.TheVariants as U
use Rattle.ild_schema.specs.declared.row.Row.{Row}
use Rattle.ild_typed.specs.At.{InSlot, seen}
use Rattle.ild_typed.specs.Composed.{inlined, map_form, marked_form, member_form, struct_form}
use Rattle.ild_typed.specs.Fields.{all_items, field_entries, tuple_items}
use Rattle.ild_typed.specs.Hamt.{alone}
use Rattle.ild_typed.specs.Holder.{any_holder}
use Rattle.ild_typed.specs.Layer as L
use Rattle.ild_typed.specs.Represented.{represented}
use Rattle.ild_typed.specs.Segment.{part}
use Rattle.ild_typed.specs.Strings.{bytes_in, in_key_order, listpairs, map_data, members_in, stringjoin, stringpairs, text_in, text_pairs, texts_in}
use Rattle.ild_typed.specs.Texts.{join, join_pairs}

abbrev IsText : Data → Type 0
IsText d = (s : List ℕ) × (text_in d ≡ Some s)

-- what is made as something else is no text
other : {A : Type 0} (u t : Data) (j : List ℕ) → u ≡ t → text_in u ≡ None → text_in t ≡ Some j → A
other u t j e none is = absurd (none-some j (sym none ∙ ap text_in e ∙ is))

if_true : {A : Type 0} (b : Bool) (o : Option A) (x : A) → cond b o None ≡ Some x → o ≡ Some x
if_true true o x e = e
if_true false o x e = absurd (none-some x e)

-- ---- texts in texts

text_at : (ds : List Data) (ss : List (List ℕ)) (i : ℕ) (d : Data) → texts_in ds ≡ Some ss → slice_get ds i ≡ Some d → IsText d
text_at [] ss i d h e = absurd (none-some d e)
text_at (x ∷ xs) ss zero d h e = let j = both (text_in x) (texts_in xs) ss h in (j.first, ap text_in (sym (same_Some x d e)) ∙ j.is_first)
text_at (x ∷ xs) ss (suc i) d h e = let j = both (text_in x) (texts_in xs) ss h in text_at xs j.rest i d j.is_rest e

pair_step : (m : List ℕ × Data) (o : Option Data) (s : List ℕ) (d : Data) (b : Bool) → cond b (Some m.1) o ≡ Some d → text_in m.1 ≡ Some s → (o ≡ Some d → IsText d) → IsText d
pair_step m o s d true e is rest = (s, ap text_in (sym (same_Some m.1 d e)) ∙ is)
pair_step m o s d false e is rest = rest e

pair_at : (k : List ℕ) (ms : List (List ℕ × Data)) (ps : List (List ℕ × List ℕ)) (d : Data) → text_pairs ms ≡ Some ps → value_at k ms ≡ Some d → IsText d
pair_at k [] ps d h e = absurd (none-some d e)
pair_at k (m ∷ ms) ps d h e =
    let j = both (option_map {U = List ℕ × List ℕ} (λ s. (m.0, s)) (text_in m.1)) (text_pairs ms) ps h in
    let x = map_some {Y = List ℕ × List ℕ} (λ s. (m.0, s)) (text_in m.1) j.first j.is_first in
    pair_step m (value_at k ms) x.0 d (same_text k m.0) e x.1 (λ g. pair_at k ms j.rest d j.is_rest g)

paired : (inner entry k : List ℕ) (es : List (List ℕ × Data)) (t u : Data) → stringpairs inner entry es ≡ Some u → value_at k es ≡ Some t → IsText t
paired inner entry k es t u made there =
    let y = map_some T.text (option_and_then (join_pairs inner entry) (text_pairs es)) u made in
    let z = chain_some (join_pairs inner entry) (text_pairs es) y.0 y.1 in
    pair_at k es z.0 t z.1 there

joined_at : (delim : List ℕ) (ds : List Data) (i : ℕ) (t u : Data) → stringjoin delim ds ≡ Some u → slice_get ds i ≡ Some t → IsText t
joined_at delim ds i t u made there =
    let y = map_some T.text (option_and_then (join delim) (texts_in ds)) u made in
    let z = chain_some (join delim) (texts_in ds) y.0 y.1 in
    text_at ds z.0 i t z.1 there

-- ---- structs

item_first : (a t : Data) (o : Option Data) (xs : List Data) (n : ℕ) (b : Bool) → cond b (Some a) o ≡ Some t → (o ≡ Some t → slice_get xs n ≡ Some t) → slice_get (a ∷ xs) (cond b 0 (suc n)) ≡ Some t
item_first a t o xs n true e rest = e
item_first a t o xs n false e rest = rest e

all_item : (s : List ℕ) (fs : List Field) (ds : List (Option Data)) (xs : List Data) (t : Data) → all_items fs ds ≡ Some xs → field_data s fs ds ≡ Some t → slice_get xs (field_place s fs) ≡ Some t
all_item s [] ds xs t h e = absurd (none-some t e)
all_item s (f ∷ fs) [] xs t h e = absurd (none-some t e)
all_item s (f ∷ fs) (None ∷ os) xs t h e = absurd (none-some xs h)
all_item s (f ∷ fs) (Some a ∷ os) xs t h e =
    let x = map_some (λ ds. a ∷ ds) (all_items fs os) xs h in
    subst (λ ys. slice_get ys (field_place s (f ∷ fs)) ≡ Some t) x.2 (item_first a t (field_data s fs os) x.0 (field_place s fs) (same_text s f.name) e (λ g. all_item s fs os x.0 t x.1 g))

module _ (fs : List Field) (ds : List (Option Data)) (t u : Data) (s j : List ℕ) (g : Field) (named : field_named s fs ≡ Some g) (held : field_data s fs ds ≡ Some t) (out : left_out g t ≡ false) (is : text_in u ≡ Some j) where
  entry_there : AreClearFields fs → (es : List (List ℕ × Data)) → field_entries fs ds ≡ Some es → value_at (field_text g) es ≡ Some t
  entry_there clear es made =
      let w = written_is fs ds es made in
      ap (value_at (field_text g)) w.same ∙ written-at left_out s fs ds g clear.apart named ∙ ap (written left_out g) held ∙ ap (λ b. cond b None (Some t)) out

  in_struct : (form : StructForm) → struct_form form fs ds ≡ Some u → ClearStruct form fs → IsText t
  in_struct S.Map made clear = let x = map_some (λ es. map_data (in_key_order es)) (field_entries fs ds) u made in other (map_data (in_key_order x.0)) u j x.2 refl is
  in_struct S.Tuple made clear = let x = map_some (λ xs. T.list (items_of xs)) (tuple_items fs ds) u made in other (T.list (items_of x.0)) u j x.2 refl is
  in_struct S.ListPairs made clear = let x = map_some listpairs (field_entries fs ds) u made in other (listpairs x.0) u j x.2 refl is
  in_struct (S.StringPairs inner entry) made clear =
      let x = chain_some (stringpairs inner entry) (field_entries fs ds) u made in
      paired inner entry (field_text g) x.0 t u x.2 (entry_there clear.0 x.0 x.1)
  in_struct (S.StringJoin delim) made clear =
      let x = chain_some (stringjoin delim) (all_items fs ds) u made in
      joined_at delim x.0 (field_place s fs) t u x.2 (all_item s fs ds x.0 t x.1 held)

-- ---- unions and maps

in_marked : (form : UnionForm) (t u : Data) (name j : List ℕ) → marked_form form t name ≡ Some u → text_in u ≡ Some j → IsText t
in_marked U.Keyed t u name j made is = other (map_data ((name, t) ∷ [])) u j (same_Some (map_data ((name, t) ∷ [])) u made) refl is
in_marked U.Kinded t u name j made is = absurd (none-some u made)
in_marked U.StringPrefix t u name j made is = let x = map_some (λ s. T.text (name ++ s)) (text_in t) u made in (x.0, x.1)
in_marked U.BytesPrefix t u name j made is =
    let f = chain_some (λ front. option_map (λ s. T.bytes (front ++ s)) (bytes_in t)) (bytes_of_hex name) u made in
    let x = map_some (λ s. T.bytes (f.0 ++ s)) (bytes_in t) u f.2 in
    other (T.bytes (f.0 ++ x.0)) u j x.2 refl is
in_marked (U.Envelope key content) t u name j made is = let ms = put key (T.text name) ((content, t) ∷ []) in other (map_data ms) u j (same_Some (map_data ms) u made) refl is
in_marked (U.Inline key) t u name j made is =
    let x = chain_some (inlined key name) (members_in t) u made in
    let y = if_true _ (Some (map_data (put key (T.text name) x.0))) u x.2 in
    other (map_data (put key (T.text name) x.0)) u j (same_Some (map_data (put key (T.text name) x.0)) u y) refl is

in_union : (form : UnionForm) (t u : Data) (m : Member) (j : List ℕ) → member_form form t m ≡ Some u → text_in u ≡ Some j → IsText t
in_union U.Kinded t u m j made is =
    let x = chain_some _ (mark_kind m.mark) u made in
    let y = if_true _ (Some t) u x.2 in
    (j, ap text_in (same_Some t u y) ∙ is)
in_union U.Keyed t u m j made is = let x = chain_some (marked_form U.Keyed t) (mark_text m.mark) u made in in_marked U.Keyed t u x.0 j x.2 is
in_union U.StringPrefix t u m j made is = let x = chain_some (marked_form U.StringPrefix t) (mark_text m.mark) u made in in_marked U.StringPrefix t u x.0 j x.2 is
in_union U.BytesPrefix t u m j made is = let x = chain_some (marked_form U.BytesPrefix t) (mark_text m.mark) u made in in_marked U.BytesPrefix t u x.0 j x.2 is
in_union (U.Envelope key content) t u m j made is = let x = chain_some (marked_form (U.Envelope key content) t) (mark_text m.mark) u made in in_marked (U.Envelope key content) t u x.0 j x.2 is
in_union (U.Inline key) t u m j made is = let x = chain_some (marked_form (U.Inline key) t) (mark_text m.mark) u made in in_marked (U.Inline key) t u x.0 j x.2 is

in_form : (form : MapForm) (k : List ℕ) (es : List (List ℕ × Data)) (t u : Data) (j : List ℕ) → map_form alone form (L.map es) ≡ Some u → value_at k es ≡ Some t → text_in u ≡ Some j → IsText t
in_form MF.Map k es t u j made there is = other (map_data es) u j (same_Some (map_data es) u made) refl is
in_form MF.ListPairs k es t u j made there is = other (listpairs es) u j (same_Some (listpairs es) u made) refl is
in_form (MF.StringPairs inner entry) k es t u j made there is = paired inner entry k es t u made there
in_form (MF.Hamt shape) k es t u j made there is = absurd (none-some u made)

no_part : {A : Type 0} (u : Data) (s j : List ℕ) (q : InSlot) → text_in u ≡ Some j → part (any_holder u) s ≡ Some q → A
no_part (T.text x) s j q is e = absurd (none-some q e)
no_part T.null s j q is e = absurd (none-some q e)
no_part (T.boolean b) s j q is e = absurd (none-some q e)
no_part (T.integer n) s j q is e = absurd (none-some q e)
no_part (T.bytes x) s j q is e = absurd (none-some q e)
no_part (T.list ds) s j q is e = absurd (none-some j is)
no_part (T.map ms) s j q is e = absurd (none-some j is)
no_part (T.link x) s j q is e = absurd (none-some q e)

-- ---- the whole

-- of a part that is not left out
text_part : (rows : List Row) → IsLegible rows → (p q : InSlot) (s j : List ℕ) (t u : Data) → represented alone rows p.0 p.1 ≡ Some u → represented alone rows q.0 q.1 ≡ Some t → part (seen rows p) s ≡ Some q
    → is_left_out (form_of rows p.0) s t ≡ false → text_in u ≡ Some j → IsText t
text_part rows legible p q s j t u made partly there out text = let h = is_held rows p u made (has_part (seen rows p) s q there) in by h.type h.known h.held where
  by : (d : TypeDef) → form_of rows p.0 ≡ Some d → Held rows d (seen rows p) u → IsText t
  by d known (of_fields r os ds e z a b) =
      let form : form_of rows p.0 ≡ Some (D.Struct r) = known ∙ ap Some e in
      let y = present_field s r.fields os q (sym (ap (λ h. part h s) z) ∙ there) in
      let g = y.declared in
      let is : represented alone rows g.slot q.1 ≡ Some t = ap (λ z. represented alone rows z q.1) y.slot ∙ partly in
      let left : is_left_out (form_of rows p.0) s t ≡ left_out g t = ap (λ F. is_left_out F s t) form ∙ ap (λ o. option_map_or (λ g. left_out g t) o false) y.named in
      in_struct r.fields ds t u s j g y.named (field_data-each (represented alone rows) s r.fields os ds g q.1 a y.named y.held ∙ is) (sym left ∙ out) text r.form b (legible.clear.types (base rows (p.0).ty.0) (D.Struct r) form)
  by d known (of_member un n v m x e z a b g) =
      let y = held_is s v (slice_get un.members n) m q a (sym (ap (λ h. part h s) z) ∙ there) in
      let is : x ≡ t = same_Some x t (sym b ∙ (λ i. represented alone rows ((y.1 i).0) ((y.1 i).1)) ∙ partly) in
      subst IsText is (in_union un.form x u m j g text)
  by d known (of_entries k k_at elem at form ps es e z a b) =
      let y = with_slot elem (value_at s ps) q (sym (ap (λ h. part h s) z) ∙ there) in
      let is : represented alone rows elem y.0 ≡ Some t = (λ i. represented alone rows ((y.2 i).0) ((y.2 i).1)) ∙ partly in
      in_form form s es t u j b (each_pair-at (represented alone rows elem) ps es s a ∙ ap (option_and_then (represented alone rows elem)) y.1 ∙ is) text
  by d known (of_elements elem at vs ds e z a b) = other (T.list (items_of ds)) u j (sym b) refl text
  by d known (of_any e z) = no_part u s j q text (sym (ap (λ h. part h s) z) ∙ there)
  by d known (of_nothing v z) = absurd (none-some q (sym (ap (λ h. part h s) z) ∙ there))

pub texts_of_texts : TextsOfTexts
texts_of_texts rows legible p q s t d made partly there holds none = by (text_in t) refl where
  by : (o : Option (List ℕ)) → text_in t ≡ o → text_in t ≡ None
  by None e = e
  by (Some j) e =
      let x = text_part rows legible p q s j d t made partly there (is_written rows legible p q s t d made there partly holds d) e in
      absurd (none-some x.0 (sym none ∙ x.1))
