-- The parts of the data of a layer are those of the layer, but for parts that are left out: these are neither lists nor maps.
use Rattle.std.proofs.Common.{◌≡◌, ℕ, zero, suc, List, [], ◌∷◌, ◌++◌, Bool, true, false, cond, Option, Some, None, option_map, flat_map, map, refl, sym, ◌∙◌, ap, subst, arith}
use Rattle.std.specs.Prelude.{option_and_then, is_none, slice_get}
use Rattle.std.specs.List.{AllByRecursion}
use Rattle.std.specs.Option.{option_map_or}
use Rattle.std.specs.Cmp.Lexicographic.{same_text as text_same}
use Rattle.std.proofs.lemmas.Option.{same_Some, none-some}
use Rattle.std.proofs.lemmas.Bool.{eqb-true, eq-eqb, and_parts}
use Rattle.ild_typed.proofs.PartsTrees.{content_found}
use Rattle.ild_data.proofs.Options.{none_is}
use Rattle.ild_data.proofs.Lists.{items_list-items_of, members_list-members_of}
use Rattle.ild_data.specs.Data as T
use Rattle.ild_data.specs.Data.{Data}
use Rattle.ild_data.specs.Key.{put, same_text, value_at, without}
use Rattle.ild_open_held.specs.Splits.{Part, element_parts, entry_parts, field_parts}
use Rattle.ild_schema.specs.Clear.{AreNamesApart, ClearStruct, ClearUnion, ClearType}
use Rattle.ild_schema.specs.DataKinds.{kind_number, same_kind}
use Rattle.ild_data.specs.Hex.{bytes_of_hex}
use Rattle.ild_schema.specs.Marks.{field_text, mark_text, mark_kind}
use Rattle.ild_schema.specs.declared.def.Field.{Field}
use Rattle.ild_schema.specs.declared.def.MapForm.TheVariants as MF
use Rattle.ild_schema.specs.declared.def.Member.{Member}
use Rattle.ild_schema.specs.declared.def.Scalar.{Scalar}
use Rattle.ild_schema.specs.declared.def.Scalar.TheVariants as C
use Rattle.ild_schema.specs.declared.def.StructForm.{StructForm}
use Rattle.ild_schema.specs.declared.def.StructForm.TheVariants as S
use Rattle.ild_schema.specs.declared.def.TypeDef.{TypeDef}
use Rattle.ild_schema.specs.declared.def.TypeDef.TheVariants as D
use Rattle.ild_schema.specs.declared.def.UnionForm.{UnionForm}
use Rattle.ild_schema.specs.declared.def.UnionForm.TheVariants as UF
use Rattle.ild_schema.specs.declared.number.Slot.{Slot}
use Rattle.ild_typed.specs.Composed.{Hamts, composed, struct_form, marked_form, member_form, inlined}
use Rattle.ild_typed.specs.Fields.{is_implicit, field_entries, are_absent, tuple_items, all_items}
use Rattle.ild_typed.specs.Kinds.{kind_word_of}
use Rattle.ild_typed.specs.Layer as L
use Rattle.ild_typed.specs.Layer.{Layer}
use Rattle.ild_typed.specs.Named.{pair_entries, where_some}
use Rattle.ild_typed.specs.Slots.{slot_of}
use Rattle.ild_typed.specs.Strings.{text_in, bytes_in, members_in, text_pairs, texts_in, in_key_order, map_data, pair_data, listpairs, stringpairs, stringjoin}
use Rattle.ild_typed.specs.Texts.{join, join_pairs}
use Rattle.ild_typed.proofs.Basics.{then_from, map_from, true_from}
use Rattle.ild_typed.proofs.CleanPairs.{pairs_entries}
use Rattle.ild_typed.proofs.Entries.{value_put, value_sorted, value_first, same_text_self}
use Rattle.ild_typed.proofs.Flat.{IsFlat}
use Rattle.ild_typed.proofs.Structs.{scalar_data, scalar_same, written, field_from, shown, look, past, not_there}
use Rattle.ild_typed.proofs.Unions.{without_put, only_map_data}
use Rattle.ild_beneath.specs.Parts.{has_kind, has_text, layer_parts, map_parts, marked_part, member_part, named_part, named_parts, ordered_parts, parts_of, struct_parts, union_parts}

-- ---- members of unions

abbrev One : (Member → Bool) → List Member → ℕ → Type 0
One passes ms n = (j : ℕ) (k : Member) → slice_get ms j ≡ Some k → passes k ≡ true → j ≡ n

picked : (passes : Member → Bool) (ms : List Member) (n : ℕ) (m : Member) (d : Data) → slice_get ms n ≡ Some m → passes m ≡ true → One passes ms n → member_part passes ms d ≡ (slot_of m, d) ∷ []
picked passes [] n m d at ok one = absurd (none-some m at)
picked passes (y ∷ ys) zero m d at ok one =
    let same : y ≡ m = same_Some y m at in
    ap (λ b. cond b ((slot_of y, d) ∷ []) (member_part passes ys d)) (ap passes same ∙ ok) ∙ ap (λ k. (slot_of k, d) ∷ []) same
picked passes (y ∷ ys) (suc n) m d at ok one = by (picked passes ys n m d at ok (λ j k there holds. let more : suc j ≡ suc n = one (suc j) k there holds in omega (arith, more))) (passes y) refl where
  by : member_part passes ys d ≡ (slot_of m, d) ∷ [] → (b : Bool) → b ≡ passes y → cond b ((slot_of y, d) ∷ []) (member_part passes ys d) ≡ (slot_of m, d) ∷ []
  by others true is = let bad : 0 ≡ suc n = one 0 y refl (sym is) in absurd (omega (arith, bad))
  by others false is = others

-- a text, or a kind, of a member's mark
record Told {A : Type 0} (passes : A → Bool) (o : Option A) : Type 0 where
  item : A
  is : o ≡ Some item
  holds : passes item ≡ true

told_there : {A : Type 0} (passes : A → Bool) (o : Option A) → where_some passes o ≡ true → Told passes o
told_there passes None e = let k : false ≡ true = e in absurd cc
told_there passes (Some a) e = record { item = a; is = refl; holds = e }

there_told : {A : Type 0} (passes : A → Bool) (o : Option A) (a : A) → o ≡ Some a → passes a ≡ true → where_some passes o ≡ true
there_told passes o a is ok = ap (where_some passes) is ∙ ok

text_member : (form : UnionForm) (ms : List Member) (n : ℕ) (m : Member) (a : List ℕ) (d : Data)
    → ((i j : ℕ) (k l : Member) → slice_get ms i ≡ Some k → slice_get ms j ≡ Some l → (s : List ℕ) → mark_text k.mark ≡ Some s → mark_text l.mark ≡ Some s → i ≡ j)
    → slice_get ms n ≡ Some m → mark_text m.mark ≡ Some a → member_part (has_text a) ms d ≡ (slot_of m, d) ∷ []
text_member form ms n m a d apart at is =
    picked (has_text a) ms n m d at (there_told (λ s. same_text s a) (mark_text m.mark) a is (same_text_self a))
    (λ j k there holds.
    let x = told_there (λ s. same_text s a) (mark_text k.mark) holds in
    apart j n k m there at a (x.is ∙ ap Some (text_same x.item a (sym x.holds))) is)

-- ---- what is put beside other entries

put_there : (k : List ℕ) (a : Data) (ms : List (List ℕ × Data)) → value_at k (put k a ms) ≡ Some a
put_there k a ms = value_put k k a ms ∙ value_first k a ms

-- ---- scalars

flat_data : (s : Scalar) → IsFlat (scalar_data s)
flat_data (C.Bool b) = tt
flat_data (C.Int n) = tt
flat_data (C.Text t) = tt

flat_implicit : (o : Option Scalar) (d : Data) → is_implicit o d ≡ true → IsFlat d
flat_implicit None d e = let k : false ≡ true = e in absurd cc
flat_implicit (Some s) d e = subst IsFlat (sym (scalar_same s d e)) (flat_data s)

-- ---- forms

-- a type whose maps are no HAMTs
abbrev pub IsPlain : TypeDef → Type 0
IsPlain (D.Map key key_at value at (MF.Hamt p)) = ⊥
IsPlain d = Unit {0}

absent_parts : (fs : List Field) (os : List (Option Data)) → are_absent fs os ≡ true → field_parts fs os ≡ []
absent_parts [] os e = refl
absent_parts (f ∷ fs) [] e = refl
absent_parts (f ∷ fs) (Some d ∷ os) e = let k : false ≡ true = e in absurd cc
absent_parts (f ∷ fs) (None ∷ os) e = absent_parts fs os (and_parts f.optional (are_absent fs os) e).1

no_items : (fs : List Field) → ordered_parts fs [] ≡ []
no_items [] = refl
no_items (f ∷ fs) = refl

in_order : (fs : List Field) (os : List (Option Data)) (ds : List Data) → tuple_items fs os ≡ Some ds → ordered_parts fs ds ≡ field_parts fs os
in_order [] os ds e = refl
in_order (f ∷ fs) [] ds e = absurd (none-some ds e)
in_order (f ∷ fs) (Some d ∷ os) ds e =
    let x = map_from (λ xs. d ∷ xs) (tuple_items fs os) ds e in
    ap (ordered_parts (f ∷ fs)) (sym (same_Some (d ∷ x.item) ds x.made)) ∙ ap (λ ps. (f.slot, d) ∷ ps) (in_order fs os x.item x.there)
in_order (f ∷ fs) (None ∷ os) ds e =
    let y = true_from (are_absent (f ∷ fs) (None ∷ os)) [] ds e in
    ap (ordered_parts (f ∷ fs)) (sym y.1) ∙ sym (absent_parts (f ∷ fs) (None ∷ os) y.0)

text_flat : (o : Option (List ℕ)) (t : Data) → option_map T.text o ≡ Some t → IsFlat t
text_flat o t e = let x = map_from T.text o t e in subst IsFlat (same_Some (T.text x.item) t x.made) tt

module _ {X : Type 0} (f : Part → List X) (none : (p : Part) → IsFlat p.1 → f p ≡ []) where
  abbrev over : List Part → List X
  over ps = flat_map f ps

  -- ---- structs

  later : (g : Field) (o : Option Data) (rest ps es : List (List ℕ × Data)) (fs : List Field) → es ≡ written g o ++ rest → AllByRecursion (λ k. field_text g ≡ field_text k → ⊥) fs
      → AllByRecursion (λ k. value_at (field_text k) ps ≡ value_at (field_text k) es) fs → AllByRecursion (λ k. value_at (field_text k) ps ≡ value_at (field_text k) rest) fs
  later g o rest ps es [] is apart same = tt
  later g o rest ps es (k ∷ fs) is apart same =
      (same.0 ∙ ap (value_at (field_text k)) is ∙ past (field_text k) g o rest (λ e. apart.0 (sym e)), later g o rest ps es fs is apart.1 same.1)

  one_field : (g : Field) (o : Option Data) (fs : List Field) (os : List (Option Data)) (rest : List Part) → over rest ≡ over (field_parts fs os)
      → over (named_part g (shown g o) ++ rest) ≡ over (field_parts (g ∷ fs) (o ∷ os))
  one_field g None fs os rest e = e
  one_field g (Some d) fs os rest e = by (is_implicit g.implicit d) refl where
    by : (b : Bool) → b ≡ is_implicit g.implicit d → over (named_part g (cond b None (Some d)) ++ rest) ≡ f (g.slot, d) ++ over (field_parts fs os)
    by true is = e ∙ ap (λ xs. xs ++ over (field_parts fs os)) (sym (none (g.slot, d) (flat_implicit g.implicit d (sym is))))
    by false is = ap (λ xs. f (g.slot, d) ++ xs) e

  named : (fs : List Field) (os : List (Option Data)) (es ps : List (List ℕ × Data)) → AreNamesApart fs → field_entries fs os ≡ Some es
      → AllByRecursion (λ k. value_at (field_text k) ps ≡ value_at (field_text k) es) fs → over (named_parts fs ps) ≡ over (field_parts fs os)
  named [] os es ps apart e same = refl
  named (g ∷ fs) [] es ps apart e same = absurd (none-some es e)
  named (g ∷ fs) (o ∷ os) es ps apart e same =
      let x = field_from g fs o os es e in
      let look_up : value_at (field_text g) ps ≡ shown g o
      = same.0 ∙ ap (value_at (field_text g)) x.is ∙ look g o x.rest (not_there (field_text g) fs os x.rest apart.0 x.later) in
      ap (λ z. over (named_part g z ++ named_parts fs ps)) look_up
      ∙ one_field g o fs os (named_parts fs ps) (named fs os x.rest ps apart.1 x.later (later g o x.rest ps es fs x.is apart.0 same.1))

  all_same : (fs : List Field) (ps es : List (List ℕ × Data)) → ((q : List ℕ) → value_at q ps ≡ value_at q es) → AllByRecursion (λ k. value_at (field_text k) ps ≡ value_at (field_text k) es) fs
  all_same [] ps es same = tt
  all_same (k ∷ fs) ps es same = (same (field_text k), all_same fs ps es same)

  of_struct : (form : StructForm) (fs : List Field) → ClearStruct form fs → (os : List (Option Data)) (t : Data) → struct_form form fs os ≡ Some t → (IsFlat t → ⊥)
      → over (struct_parts form fs t) ≡ over (field_parts fs os)
  of_struct S.Map fs clear os t e hard =
      let x = map_from (λ es. map_data (in_key_order es)) (field_entries fs os) t e in
      ap (λ z. over (struct_parts S.Map fs z)) (sym (same_Some (map_data (in_key_order x.item)) t x.made))
      ∙ ap (λ z. over (named_parts fs z)) (members_list-members_of (in_key_order x.item))
      ∙ named fs os x.item (in_key_order x.item) clear.apart x.there (all_same fs (in_key_order x.item) x.item (λ q. value_sorted q x.item))
  of_struct S.ListPairs fs clear os t e hard =
      let x = map_from listpairs (field_entries fs os) t e in
      ap (λ z. over (struct_parts S.ListPairs fs z)) (sym (same_Some (listpairs x.item) t x.made))
      ∙ ap (λ z. over (named_parts fs z)) (same_Some (pair_entries (T.items_list (T.items_of (map pair_data x.item)))) x.item (pairs_entries x.item))
      ∙ named fs os x.item x.item clear.apart x.there (all_same fs x.item x.item (λ q. refl))
  of_struct S.Tuple fs clear os t e hard =
      let x = map_from (λ ds. T.list (T.items_of ds)) (tuple_items fs os) t e in
      ap (λ z. over (struct_parts S.Tuple fs z)) (sym (same_Some (T.list (T.items_of x.item)) t x.made))
      ∙ ap (λ z. over (ordered_parts fs z)) (items_list-items_of x.item)
      ∙ ap over (in_order fs os x.item x.there)
  of_struct (S.StringPairs inner entry) fs clear os t e hard =
      let x = then_from (stringpairs inner entry) (field_entries fs os) t e in
      absurd (hard (text_flat (option_and_then (join_pairs inner entry) (text_pairs x.item)) t x.made))
  of_struct (S.StringJoin delim) fs clear os t e hard =
      let x = then_from (stringjoin delim) (all_items fs os) t e in
      absurd (hard (text_flat (option_and_then (join delim) (texts_in x.item)) t x.made))

  -- ---- unions

  of_member : (form : UnionForm) (ms : List Member) → ClearUnion form ms → (n : ℕ) (m : Member) (d t : Data) → slice_get ms n ≡ Some m → member_form form d m ≡ Some t → (IsFlat t → ⊥)
      → union_parts form ms t ≡ (slot_of m, d) ∷ []
  of_member UF.Keyed ms clear n m d t at e hard =
      let x = then_from (marked_form UF.Keyed d) (mark_text m.mark) t e in
      ap (union_parts UF.Keyed ms) (sym (same_Some (map_data ((x.item, d) ∷ [])) t x.made))
      ∙ text_member UF.Keyed ms n m x.item d (λ i j k l a b s c u. clear.apart i j k l a b (s, c, u)) at x.there
  of_member UF.Kinded ms clear n m d t at e hard =
      let x = then_from (λ w. cond (same_kind w (kind_word_of d)) (Some d) None) (mark_kind m.mark) t e in
      let y = true_from (same_kind x.item (kind_word_of d)) d t x.made in
      ap (union_parts UF.Kinded ms) (sym y.1)
      ∙ picked (has_kind (kind_word_of d)) ms n m d at (there_told (λ w. same_kind w (kind_word_of d)) (mark_kind m.mark) x.item x.there y.0)
      (λ j k there holds.
      let z = told_there (λ w. same_kind w (kind_word_of d)) (mark_kind k.mark) holds in
      clear.apart j n k m there at (
        z.item,
        x.item,
        z.is,
        x.there,
        eq-eqb (kind_number z.item) (kind_number x.item) (eqb-true (kind_number z.item) (kind_number (kind_word_of d)) z.holds ∙ sym (eqb-true (kind_number x.item) (kind_number (kind_word_of d)) y.0)),
      ))
  of_member UF.StringPrefix ms clear n m d t at e hard =
      let x = then_from (marked_form UF.StringPrefix d) (mark_text m.mark) t e in
      let y = map_from (λ s. T.text (x.item ++ s)) (text_in d) t x.made in
      absurd (hard (subst IsFlat (same_Some (T.text (x.item ++ y.item)) t y.made) tt))
  of_member UF.BytesPrefix ms clear n m d t at e hard =
      let x = then_from (marked_form UF.BytesPrefix d) (mark_text m.mark) t e in
      let z = then_from (λ front. option_map (λ s. T.bytes (front ++ s)) (bytes_in d)) (bytes_of_hex x.item) t x.made in
      let y = map_from (λ s. T.bytes (z.item ++ s)) (bytes_in d) t z.made in
      absurd (hard (subst IsFlat (same_Some (T.bytes (z.item ++ y.item)) t y.made) tt))
  of_member (UF.Envelope key content) ms clear n m d t at e hard =
      let x = then_from (marked_form (UF.Envelope key content) d) (mark_text m.mark) t e in
      let es = put key (T.text x.item) ((content, d) ∷ []) in
      ap (union_parts (UF.Envelope key content) ms) (sym (same_Some (map_data es) t x.made))
      ∙ ap (λ z. marked_part ms (value_at key z) (value_at content z)) (members_list-members_of es)
      ∙ ap (λ z. marked_part ms z (value_at content es)) (put_there key (T.text x.item) ((content, d) ∷ []))
      ∙ ap (λ z. marked_part ms (Some (T.text x.item)) z) (content_found key content (T.text x.item) d clear.keys)
      ∙ text_member (UF.Envelope key content) ms n m x.item d (λ i j k l a b s c u. clear.apart i j k l a b (s, c, u)) at x.there
  of_member (UF.Inline key) ms clear n m d t at e hard =
      let x = then_from (marked_form (UF.Inline key) d) (mark_text m.mark) t e in
      let y = then_from (inlined key x.item) (members_in d) t x.made in
      let z = true_from (is_none (value_at key y.item)) (map_data (put key (T.text x.item) y.item)) t y.made in
      let es = put key (T.text x.item) y.item in
      ap (union_parts (UF.Inline key) ms) (sym z.1)
      ∙ ap (λ q. marked_part ms (value_at key q) (Some (map_data (without key q)))) (members_list-members_of es)
      ∙ ap (λ q. marked_part ms q (Some (map_data (without key es)))) (put_there key (T.text x.item) y.item)
      ∙ ap (λ q. member_part (has_text x.item) ms (map_data q)) (without_put key (T.text x.item) y.item (none_is (value_at key y.item) z.0))
      ∙ ap (member_part (has_text x.item) ms) (sym (only_map_data d y.item y.there))
      ∙ text_member (UF.Inline key) ms n m x.item d (λ i j k l a b s c u. clear.apart i j k l a b (s, c, u)) at x.there

  -- ---- any type

  of_pairs : (es : List (List ℕ × Data)) (u : Slot) (t : Data) → listpairs es ≡ t → over (map_parts MF.ListPairs u t) ≡ over (entry_parts u es)
  of_pairs es u t e =
      ap (λ z. over (map_parts MF.ListPairs u z)) (sym e)
      ∙ ap (λ z. over (entry_parts u z)) (same_Some (pair_entries (T.items_list (T.items_of (map pair_data es)))) es (pairs_entries es))

  pub parts_read : (at : Hamts) (d : TypeDef) → ClearType d → IsPlain d → (l : Layer Data) (t : Data) → composed at d l ≡ Some t → (IsFlat t → ⊥)
      → over (parts_of d t) ≡ over (layer_parts d l)
  parts_read at (D.List elem place) clear plain (L.list ds) t e hard =
      ap (λ z. over (parts_of (D.List elem place) z)) (sym (same_Some (T.list (T.items_of ds)) t e)) ∙ ap (λ z. over (element_parts elem z)) (items_list-items_of ds)
  parts_read at (D.List elem place) clear plain l t e hard = absurd (none-some t e)
  parts_read at (D.Map key key_at value place MF.Map) clear plain (L.map es) t e hard =
      ap (λ z. over (map_parts MF.Map value z)) (sym (same_Some (map_data es) t e)) ∙ ap (λ z. over (entry_parts value z)) (members_list-members_of es)
  parts_read at (D.Map key key_at value place MF.Map) clear plain l t e hard = absurd (none-some t e)
  parts_read at (D.Map key key_at value place MF.ListPairs) clear plain (L.map es) t e hard = of_pairs es value t (same_Some (listpairs es) t e)
  parts_read at (D.Map key key_at value place MF.ListPairs) clear plain l t e hard = absurd (none-some t e)
  parts_read at (D.Map key key_at value place (MF.StringPairs inner entry)) clear plain (L.map es) t e hard =
      absurd (hard (text_flat (option_and_then (join_pairs inner entry) (text_pairs es)) t e))
  parts_read at (D.Map key key_at value place (MF.StringPairs inner entry)) clear plain l t e hard = absurd (none-some t e)
  parts_read at (D.Map key key_at value place (MF.Hamt p)) clear plain l t e hard = absurd plain
  parts_read at (D.Struct s) clear plain (L.struct os) t e hard = of_struct s.form s.fields clear os t e hard
  parts_read at (D.Struct s) clear plain l t e hard = absurd (none-some t e)
  parts_read at (D.Union u) clear plain (L.union n c) t e hard =
      let x = then_from (member_form u.form c) (slice_get u.members n) t e in
      ap over (of_member u.form u.members clear n x.item c t x.there x.made hard)
      ∙ ap over (ap (λ o. option_map_or (λ m. (slot_of m, c) ∷ []) o []) (sym x.there))
  parts_read at (D.Union u) clear plain l t e hard = absurd (none-some t e)
  parts_read at d clear plain l t e hard = refl
