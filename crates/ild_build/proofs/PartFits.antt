-- Parts of what fits fit, and parts of texts are texts.
use Rattle.std.proofs.Common.{◌≡◌, ℕ, zero, suc, ◌+◌, ◌<◌, not, List, [], ◌∷◌, ◌++◌, Bool, true, false, Option, Some, None, option_map, slice_get, refl, sym, ◌∙◌, ap, subst, arith}
use Rattle.std.specs.Prelude.{IsUtf8, option_and_then}
use Rattle.std.specs.List.{AllByRecursion}
use Rattle.std.proofs.lemmas.Option.{same_Some, none-some}
use Rattle.std.proofs.lemmas.Bool.{and_parts}
use Rattle.ild_data.proofs.AllOf.{all_at}
use Rattle.ild_data.specs.Data as T
use Rattle.ild_data.specs.Data.{Data}
use Rattle.ild_schema.specs.declared.number.Slot.{Slot}
use Rattle.ild_schema.specs.declared.def.TypeDef.{TypeDef}
use Rattle.ild_schema.specs.declared.def.TypeDef.TheVariants as D
use Rattle.ild_schema.specs.declared.def.MapForm.{MapForm}
use Rattle.ild_schema.specs.declared.def.MapForm.TheVariants as MF
use Rattle.ild_schema.specs.declared.def.StructForm.{StructForm}
use Rattle.ild_schema.specs.declared.def.StructForm.TheVariants as S
use Rattle.ild_schema.specs.declared.def.UnionForm.{UnionForm}
use Rattle.ild_schema.specs.declared.def.UnionForm.TheVariants as UF
use Rattle.ild_schema.specs.declared.def.KindWord.{KindWord}
use Rattle.ild_schema.specs.declared.def.KindWord.TheVariants as K
use Rattle.ild_schema.specs.declared.def.Field.{Field}
use Rattle.ild_schema.specs.declared.def.Member.{Member}
use Rattle.ild_schema.specs.declared.row.Row.{Row}
use Rattle.ild_schema.specs.Copies.{base}
use Rattle.ild_schema.specs.DataKinds.{same_kind, has_kind, kind_in, is_marked, map_kind, struct_kind, union_has}
use Rattle.ild_schema.specs.Made.{HasOnly, IsTextSlot, MadeStruct, MadeMap, MadeMember, MadeType, IsMade}
use Rattle.ild_schema.specs.Marks.{mark_kind}
use Rattle.ild_schema.specs.Slots.{form_of, plainly}
use Rattle.ild_schema.specs.Whole.{is_whole, are_whole, pairs_whole, fields_whole}
use Rattle.ild_schema.specs.Value as V
use Rattle.ild_schema.specs.Value.{Value, Values, Pairs, Optionals, values_list, pairs_list, optionals_list, height}
use Rattle.ild_typed.specs.Layer as L
use Rattle.ild_typed.specs.Layer.{Layer}
use Rattle.ild_typed.specs.Layers.{layer_of, FieldsFit, LayerFits}
use Rattle.ild_typed.specs.OfType.{OfType}
use Rattle.ild_typed.specs.Slots.{element_of, fields_of, member_of, slot_of}
use Rattle.ild_typed.specs.Judged.{has_hole, is_hole, breaks, breaks_delimiter, is_exhausted, exhausts, map_exhausts, struct_breaks, map_breaks}
use Rattle.ild_typed.specs.Typed.{Typed}
use Rattle.ild_typed.specs.Represented.{represented, represented_pairs, represented_fields}
use Rattle.ild_typed.specs.Hamt.{whole, alone}
use Rattle.ild_typed.proofs.OneLayer.{in_layer, of_layer}
use Rattle.ild_typed.proofs.TreeParts.{list_fits, struct_fits, union_fits, map_fits}
use Rattle.ild_typed.specs.Strings.{text_in}
use Rattle.ild_typed.proofs.Basics.{then_from}
use Rattle.ild_typed.proofs.Entries.{only_text_data}
use Rattle.ild_typed.proofs.Judging.{tree_sound}
use Rattle.ild_typed.proofs.OfKinds.{any_at}
use Rattle.ild_typed.proofs.Making.{text_slot}
use Rattle.ild_typed.proofs.MakingValues.{typed_tree}
use Rattle.ild_typed.proofs.Flat.{flat_text, flat_alone, flat_whole}
use Rattle.ild_build.specs.PartAt.{field_at, member_at, value_part_at}
use Rattle.ild_build.specs.TextRep.{text_rep, TextAnswer, is_text_map, is_text_struct, is_text_layer}
use Rattle.ild_build.proofs.PartTests.{at_of, entry_of, field_is, field_slot_of, only_member, part_lower, parts_none, by_part}

-- ---- what fits

module _ (fits : Slot → Value → Type 0) (rows : List Row) where
  field_fits : (fs : List Field) (os : List (Option Value)) (i : ℕ) (f : Field) (w : Value) → FieldsFit fits fs os → slice_get fs i ≡ Some f → slice_get os i ≡ Some (Some w) → fits f.slot w
  field_fits [] os i f w h a b = absurd (none-some f a)
  field_fits (g ∷ fs) [] i f w h a b = absurd (none-some {A = Option Value} (Some w) b)
  field_fits (g ∷ fs) (Some v ∷ os) zero f w h a b = subst (λ x. fits x w) (ap (λ (y : Field). y.slot) (same_Some g f a)) (subst (fits g.slot) (same_Some v w (same_Some {A = Option Value} (Some v) (Some w) b)) h.0)
  field_fits (g ∷ fs) (None ∷ os) zero f w h a b = absurd (none-some w (same_Some {A = Option Value} None (Some w) b))
  field_fits (g ∷ fs) (Some v ∷ os) (suc i) f w h a b = field_fits fs os i f w h.1 a b
  field_fits (g ∷ fs) (None ∷ os) (suc i) f w h a b = field_fits fs os i f w h.1 a b

  -- a part of a layer that fits
  pub part_fits : (d : TypeDef) (v : Value) (l : Layer Value) (i : ℕ) (u : Slot) (w : Value) → layer_of v ≡ Some l → LayerFits fits rows d l → value_part_at (Some d) v i ≡ Some (u, w) → fits u w
  part_fits d (V.list vs) l i u w is h e =
      let a = at_of (element_of (Some d)) (slice_get (values_list vs) i) u w e in
      let x = list_fits fits rows d (values_list vs) (subst (LayerFits fits rows d) (sym (same_Some (L.list (values_list vs)) l is)) h) in
      let same : x.slot ≡ u = same_Some x.slot u (sym x.is ∙ a.slot) in
      subst (λ s. fits s w) same (all_at (fits x.slot) (values_list vs) i w x.each a.value)
  part_fits d (V.map ps) l i u w is h e =
      let a = at_of (element_of (Some d)) (option_map (λ (p : List ℕ × Value). p.1) (slice_get (pairs_list ps) i)) u w e in
      let x = map_fits fits rows d (pairs_list ps) (subst (LayerFits fits rows d) (sym (same_Some (L.map (pairs_list ps)) l is)) h) in
      let y = entry_of (pairs_list ps) i w (slice_get (pairs_list ps) i) refl a.value in
      let same : x.slot ≡ u = same_Some x.slot u (sym x.is ∙ a.slot) in
      subst (λ s. fits s w) same (subst (fits x.slot) y.value (all_at (λ (p : List ℕ × Value). IsUtf8 p.0 × fits x.slot p.1) (pairs_list ps) i y.entry x.each y.is).1)
  part_fits d (V.struct os) l i u w is h e =
      let a = at_of (option_map (λ (f : Field). f.slot) (slice_get (fields_of (Some d)) i)) (field_at (optionals_list os) i) u w e in
      let x = struct_fits fits rows d (optionals_list os) (subst (LayerFits fits rows d) (sym (same_Some (L.struct (optionals_list os)) l is)) h) in
      let y = field_slot_of (fields_of (Some d)) i u (slice_get (fields_of (Some d)) i) refl a.slot in
      subst (λ s. fits s w) y.slot (field_fits (fields_of (Some d)) (optionals_list os) i y.field w x y.is (field_is (optionals_list os) i w (slice_get (optionals_list os) i) refl a.value))
  part_fits d (V.union n v) l i u w is h e =
      let a = at_of (member_of (Some d) n) (member_at v i) u w e in
      let x = union_fits fits rows d n v (subst (LayerFits fits rows d) (sym (same_Some (L.union n v) l is)) h) in
      let same : slot_of x.member ≡ u = same_Some (slot_of x.member) u (ap (option_map slot_of) (sym x.is) ∙ a.slot) in
      subst (λ s. fits s w) same (subst (fits (slot_of x.member)) (only_member v i w a.value) x.holds)
  part_fits d v l i u w is h e = absurd (none-some {A = Slot × Value} (u, w) e)

-- a value with parts is a layer
layered_part : (d : Option TypeDef) (v : Value) (i : ℕ) (u : Slot) (w : Value) → value_part_at d v i ≡ Some (u, w) → (l : Layer Value) × (layer_of v ≡ Some l)
layered_part d V.null i u w e = absurd (none-some {A = Slot × Value} (u, w) e)
layered_part d (V.list vs) i u w e = (L.list (values_list vs), refl)
layered_part d (V.map ps) i u w e = (L.map (pairs_list ps), refl)
layered_part d (V.struct os) i u w e = (L.struct (optionals_list os), refl)
layered_part d (V.union n v) i u w e = (L.union n v, refl)
layered_part d v i u w e = absurd (none-some {A = Slot × Value} (u, w) e)

pub part_typed : (rows : List Row) (s : Slot) (v : Value) (d : TypeDef) → form_of rows s ≡ Some d → OfType rows s v → (i : ℕ) (u : Slot) (w : Value) → value_part_at (Some d) v i ≡ Some (u, w) → OfType rows u w
part_typed rows s v d is typed i u w e =
    let x = layered_part (Some d) v i u w e in
    let y = in_layer rows s v x.0 x.1 typed in
    let same : y.ty ≡ d = same_Some y.ty d (sym y.form ∙ is) in
    part_fits (OfType rows) rows d v x.0 i u w x.1 (subst (λ c. LayerFits (OfType rows) rows c x.0) same y.holds) e

-- ---- texts

module _ (rows : List Row) (made : IsMade rows) where
  pub only_of : (s : Slot) (d : TypeDef) → form_of rows s ≡ Some d → HasOnly rows s K.Text → (k : KindWord) → has_kind d k ≡ true → k ≡ K.Text
  only_of s d is only k e = only k (ap (λ o. kind_in o k) is ∙ e)

  map_text : (f : MapForm) (value : Slot) → ((k : KindWord) → same_kind (map_kind f) k ≡ true → k ≡ K.Text) → MadeMap rows f value → IsTextSlot rows value
  map_text (MF.StringPairs inner entry) value only m = m
  map_text MF.Map value only m = let h : K.Map ≡ K.Text = only K.Map refl in absurd cc
  map_text MF.ListPairs value only m = let h : K.List ≡ K.Text = only K.List refl in absurd cc
  map_text (MF.Hamt shape) value only m = let h : K.Map ≡ K.Text = only K.Map refl in absurd cc

  field_text_slot : (f : StructForm) (fs : List Field) → ((k : KindWord) → same_kind (struct_kind f) k ≡ true → k ≡ K.Text) → MadeStruct rows f fs → AllByRecursion (λ g. IsTextSlot rows g.slot) fs
  field_text_slot (S.StringPairs inner entry) fs only m = m
  field_text_slot (S.StringJoin delim) fs only m = firsts fs m
    where
      firsts : (gs : List Field) → AllByRecursion (λ g. IsTextSlot rows g.slot × (g.optional ≡ false)) gs → AllByRecursion (λ g. IsTextSlot rows g.slot) gs
      firsts [] h = tt
      firsts (g ∷ gs) h = (h.0.0, firsts gs h.1)
  field_text_slot S.Map fs only m = let h : K.Map ≡ K.Text = only K.Map refl in absurd cc
  field_text_slot S.Tuple fs only m = let h : K.List ≡ K.Text = only K.List refl in absurd cc
  field_text_slot S.ListPairs fs only m = let h : K.List ≡ K.Text = only K.List refl in absurd cc

  itself : (k : KindWord) → same_kind k k ≡ true
  itself K.Null = refl
  itself K.Bool = refl
  itself K.Int = refl
  itself K.Text = refl
  itself K.Bytes = refl
  itself K.List = refl
  itself K.Map = refl
  itself K.Link = refl

  member_text : (f : UnionForm) (ms : List Member) (n : ℕ) (m : Member) → ((k : KindWord) → union_has f ms k ≡ true → k ≡ K.Text) → slice_get ms n ≡ Some m → MadeMember rows f m → HasOnly rows (plainly m.ty) K.Text
  member_text UF.StringPrefix ms n m only at made_m = made_m.1
  member_text UF.Kinded ms n m only at made_m =
      let marked : is_marked made_m.0 (mark_kind m.mark) ≡ true = ap (is_marked made_m.0) made_m.1 ∙ itself made_m.0 in
      let is : made_m.0 ≡ K.Text = only made_m.0 (any_at (λ (x : Member). is_marked made_m.0 (mark_kind x.mark)) ms n m at marked) in
      subst (HasOnly rows (plainly m.ty)) is made_m.2
  member_text UF.Keyed ms n m only at made_m = let h : K.Map ≡ K.Text = only K.Map refl in absurd cc
  member_text UF.BytesPrefix ms n m only at made_m = let h : K.Bytes ≡ K.Text = only K.Bytes refl in absurd cc
  member_text (UF.Envelope key content) ms n m only at made_m = let h : K.Map ≡ K.Text = only K.Map refl in absurd cc
  member_text (UF.Inline key) ms n m only at made_m = let h : K.Map ≡ K.Text = only K.Map refl in absurd cc

  element_text : (d : TypeDef) (u : Slot) → ((k : KindWord) → has_kind d k ≡ true → k ≡ K.Text) → MadeType rows d → element_of (Some d) ≡ Some u → HasOnly rows u K.Text
  element_text (D.List elem at) u only m e = let h : K.List ≡ K.Text = only K.List refl in absurd cc
  element_text (D.Map key key_at value at form) u only m e = subst (λ s. HasOnly rows s K.Text) (same_Some value u e) (map_text form value only m).only
  element_text d u only m e = absurd (none-some u e)

  field_text_at : (d : TypeDef) (i : ℕ) (f : Field) → ((k : KindWord) → has_kind d k ≡ true → k ≡ K.Text) → MadeType rows d → slice_get (fields_of (Some d)) i ≡ Some f → HasOnly rows f.slot K.Text
  field_text_at (D.Struct s) i f only m e = (all_at (λ g. IsTextSlot rows g.slot) s.fields i f (field_text_slot s.form s.fields only m) e).only
  field_text_at d i f only m e = absurd (none-some f e)

  member_text_at : (d : TypeDef) (n : ℕ) (u : Slot) → ((k : KindWord) → has_kind d k ≡ true → k ≡ K.Text) → MadeType rows d → member_of (Some d) n ≡ Some u → HasOnly rows u K.Text
  member_text_at (D.Union un) n u only m e = by (slice_get un.members n) refl e
    where
      by : (o : Option Member) → slice_get un.members n ≡ o → option_map slot_of o ≡ Some u → HasOnly rows u K.Text
      by None is h = absurd (none-some u h)
      by (Some x) is h = subst (λ s. HasOnly rows s K.Text) (same_Some (slot_of x) u h) (member_text un.form un.members n x only is (all_at (MadeMember rows un.form) un.members n x m is))
  member_text_at d n u only m e = absurd (none-some u e)

  -- the parts of a text are texts
  pub part_text : (s : Slot) (v : Value) (d : TypeDef) → form_of rows s ≡ Some d → HasOnly rows s K.Text → (i : ℕ) (u : Slot) (w : Value) → value_part_at (Some d) v i ≡ Some (u, w) → HasOnly rows u K.Text
  part_text s (V.list vs) d is only i u w e =
      element_text d u (only_of s d is only) (made (base rows s.ty.0) d is) (at_of (element_of (Some d)) (slice_get (values_list vs) i) u w e).slot
  part_text s (V.map ps) d is only i u w e =
      element_text d u (only_of s d is only) (made (base rows s.ty.0) d is) (at_of (element_of (Some d)) (option_map (λ (p : List ℕ × Value). p.1) (slice_get (pairs_list ps) i)) u w e).slot
  part_text s (V.struct os) d is only i u w e =
      let a = at_of (option_map (λ (f : Field). f.slot) (slice_get (fields_of (Some d)) i)) (field_at (optionals_list os) i) u w e in
      let y = field_slot_of (fields_of (Some d)) i u (slice_get (fields_of (Some d)) i) refl a.slot in
      subst (λ x. HasOnly rows x K.Text) y.slot (field_text_at d i y.field (only_of s d is only) (made (base rows s.ty.0) d is) y.is)
  part_text s (V.union n v) d is only i u w e = member_text_at d n u (only_of s d is only) (made (base rows s.ty.0) d is) (at_of (member_of (Some d) n) (member_at v i) u w e).slot
  part_text s v d is only i u w e = absurd (none-some {A = Slot × Value} (u, w) e)

  -- no layer of a text is a HAMT
  map_full : (h : List ℕ → List ℕ) (f : MapForm) (o : Option (List (List ℕ × Data))) → ((k : KindWord) → same_kind (map_kind f) k ≡ true → k ≡ K.Text) → map_exhausts h f o ≡ false
  map_full h (MF.StringPairs inner entry) o only = refl
  map_full h MF.Map o only = refl
  map_full h MF.ListPairs o only = refl
  map_full h (MF.Hamt shape) o only = let k : K.Map ≡ K.Text = only K.Map refl in absurd cc

  here_full : (h : List ℕ → List ℕ) (d : TypeDef) (v : Value) → ((k : KindWord) → has_kind d k ≡ true → k ≡ K.Text) → is_exhausted h rows (Some d) v ≡ false
  here_full h (D.Map key key_at value at form) (V.map ps) only = map_full h form (represented_pairs (whole h) rows value ps) only
  here_full h (D.Map key key_at value at form) v only = refl
  here_full h d v only = refl

  no_part : (x : Value) (i : ℕ) (u : Slot) (w : Value) → value_part_at None x i ≡ Some (u, w) → ⊥
  no_part (V.list vs) i u w e = none-some {A = Slot × Value} (u, w) e
  no_part (V.map vs) i u w e = none-some {A = Slot × Value} (u, w) e
  no_part (V.struct vs) i u w e = none-some {A = Slot × Value} (u, w) e
  no_part (V.union m vs) i u w e = none-some {A = Slot × Value} (u, w) e
  no_part x i u w e = none-some {A = Slot × Value} (u, w) e

  full_by : (h : List ℕ → List ℕ) (s : Slot) (v : Value) → OfType rows s v → HasOnly rows s K.Text
      → ((i : ℕ) (u : Slot) (w : Value) → value_part_at (form_of rows s) v i ≡ Some (u, w) → OfType rows u w → HasOnly rows u K.Text → exhausts h rows u w ≡ false)
      → (o : Option TypeDef) → form_of rows s ≡ o → exhausts h rows s v ≡ false
  full_by h s v typed only later None is =
      parts_none (is_exhausted h rows) rows s v (ap (λ o. is_exhausted h rows o v) is) (λ i u w e. absurd (no_part v i u w (ap (λ o. value_part_at o v i) (sym is) ∙ e)))
  full_by h s v typed only later (Some d) is =
      parts_none (is_exhausted h rows) rows s v (ap (λ o. is_exhausted h rows o v) is ∙ here_full h d v (only_of s d is only))
      (λ i u w e. let k = ap (λ o. value_part_at o v i) (sym is) ∙ e in later i u w e (part_typed rows s v d is typed i u w k) (part_text s v d is only i u w k))

  texts_full : (h : List ℕ → List ℕ) (n : ℕ) (s : Slot) (v : Value) → height v < n → OfType rows s v → HasOnly rows s K.Text → exhausts h rows s v ≡ false
  texts_full h zero s v less typed only = absurd (omega (arith, less))
  texts_full h (suc n) s v less typed only =
      full_by h s v typed only (λ i u w e t o. texts_full h n u w (next (height w) (height v) n (part_lower (form_of rows s) v i u w e) less) t o) (form_of rows s) refl
    where
      next : (a b c : ℕ) → a < b → b < suc c → a < c
      next a b c x y = omega (arith, x, y)

  pub record HasText (s : Slot) (v : Value) : Type 0 where
    pub text : List ℕ
    pub is : text_rep rows s v ≡ Some text

  -- a typed value in text form has a text where nothing stands against it
  pub text_there : (s : Slot) (v : Value) → Typed rows s v → IsTextSlot rows s → has_hole rows s v ≡ false → breaks_delimiter rows s v ≡ false → HasText s v
  text_there s v typed text hole joined =
      let same : List ℕ → List ℕ = λ k. k in
      let x = typed_tree same rows made s v typed hole joined (texts_full same (height v + 1) s v (omega arith) (typed.0, typed.1) text.only) in
      let y = text_slot same rows s v x.0 text x.1 in
      let z = flat_alone same rows s v x.0 x.1 (flat_text x.0 y.text y.is) in
      record { text = y.text; is = ap (option_and_then text_in) z ∙ y.is }

-- and one that has a text breaks nothing
pub text_joined : (rows : List Row) (s : Slot) (v : Value) (t : List ℕ) → text_rep rows s v ≡ Some t → breaks_delimiter rows s v ≡ false
text_joined rows s v t e =
    let same : List ℕ → List ℕ = λ k. k in
    let x = then_from text_in (represented alone rows s v) t e in
    (tree_sound same rows s v x.item (flat_whole same rows s v x.item x.there (flat_text x.item t x.made))).2

-- the text is that of the representation, whatever the hash of keys
pub text_whole : (h : List ℕ → List ℕ) (rows : List Row) (s : Slot) (v : Value) (t : List ℕ) → text_rep rows s v ≡ Some t → represented (whole h) rows s v ≡ Some (T.text t)
text_whole h rows s v t e =
    let x = then_from text_in (represented alone rows s v) t e in
    flat_whole h rows s v x.item x.there (flat_text x.item t x.made) ∙ ap Some (only_text_data x.item t x.made)

-- ---- whole values

are_whole_at : (vs : Values) (i : ℕ) (w : Value) → are_whole vs ≡ true → slice_get (values_list vs) i ≡ Some w → is_whole w ≡ true
are_whole_at V.no_values i w h e = absurd (none-some w e)
are_whole_at (V.value v vs) zero w h e = ap is_whole (sym (same_Some v w e)) ∙ (and_parts (is_whole v) (are_whole vs) h).0
are_whole_at (V.value v vs) (suc i) w h e = are_whole_at vs i w (and_parts (is_whole v) (are_whole vs) h).1 e

pairs_whole_at : (ps : Pairs) (i : ℕ) (p : List ℕ × Value) → pairs_whole ps ≡ true → slice_get (pairs_list ps) i ≡ Some p → is_whole p.1 ≡ true
pairs_whole_at V.no_pairs i p h e = absurd (none-some {A = List ℕ × Value} p e)
pairs_whole_at (V.pair k v ps) zero p h e = ap (λ (q : List ℕ × Value). is_whole q.1) (sym (same_Some {A = List ℕ × Value} (k, v) p e)) ∙ (and_parts (is_whole v) (pairs_whole ps) h).0
pairs_whole_at (V.pair k v ps) (suc i) p h e = pairs_whole_at ps i p (and_parts (is_whole v) (pairs_whole ps) h).1 e

fields_whole_at : (os : Optionals) (i : ℕ) (w : Value) → fields_whole os ≡ true → slice_get (optionals_list os) i ≡ Some (Some w) → is_whole w ≡ true
fields_whole_at V.no_optionals i w h e = absurd (none-some {A = Option Value} (Some w) e)
fields_whole_at (V.absent os) zero w h e = absurd (none-some w (same_Some {A = Option Value} None (Some w) e))
fields_whole_at (V.absent os) (suc i) w h e = fields_whole_at os i w h e
fields_whole_at (V.present v os) zero w h e = ap is_whole (sym (same_Some v w (same_Some (Some v) (Some w) e))) ∙ (and_parts (is_whole v) (fields_whole os) h).0
fields_whole_at (V.present v os) (suc i) w h e = fields_whole_at os i w (and_parts (is_whole v) (fields_whole os) h).1 e

pub part_whole : (d : Option TypeDef) (v : Value) (i : ℕ) (u : Slot) (w : Value) → value_part_at d v i ≡ Some (u, w) → is_whole v ≡ true → is_whole w ≡ true
part_whole d (V.list vs) i u w e h = are_whole_at vs i w h (at_of (element_of d) (slice_get (values_list vs) i) u w e).value
part_whole d (V.map ps) i u w e h =
    let a = at_of (element_of d) (option_map (λ (p : List ℕ × Value). p.1) (slice_get (pairs_list ps) i)) u w e in
    let y = entry_of (pairs_list ps) i w (slice_get (pairs_list ps) i) refl a.value in
    ap is_whole (sym y.value) ∙ pairs_whole_at ps i y.entry h y.is
part_whole d (V.struct os) i u w e h =
    let a = at_of (option_map (λ (f : Field). f.slot) (slice_get (fields_of d) i)) (field_at (optionals_list os) i) u w e in
    fields_whole_at os i w h (field_is (optionals_list os) i w (slice_get (optionals_list os) i) refl a.value)
part_whole d (V.union n v) i u w e h = ap is_whole (sym (only_member v i w (at_of (member_of d n) (member_at v i) u w e).value)) ∙ h
part_whole d v i u w e h = absurd (none-some {A = Slot × Value} (u, w) e)

pub part_is_typed : (rows : List Row) (s : Slot) (v : Value) (d : TypeDef) → form_of rows s ≡ Some d → Typed rows s v → (i : ℕ) (u : Slot) (w : Value) → value_part_at (Some d) v i ≡ Some (u, w) → Typed rows u w
part_is_typed rows s v d is typed i u w e =
    let x = part_typed rows s v d is (typed.0, typed.1) i u w e in
    (x.0, x.1, part_whole (Some d) v i u w e typed.2)

-- ---- layers in text form

pub kind_text : (k : KindWord) → same_kind K.Text k ≡ true → k ≡ K.Text
kind_text K.Text e = refl
kind_text K.Null e = absurd cc
kind_text K.Bool e = absurd cc
kind_text K.Int e = absurd cc
kind_text K.Bytes e = absurd cc
kind_text K.List e = absurd cc
kind_text K.Map e = absurd cc
kind_text K.Link e = absurd cc

map_only : (f : MapForm) → is_text_map f ≡ true → (k : KindWord) → same_kind (map_kind f) k ≡ true → k ≡ K.Text
map_only (MF.StringPairs inner entry) t k e = kind_text k e
map_only MF.Map t k e = absurd cc
map_only MF.ListPairs t k e = absurd cc
map_only (MF.Hamt shape) t k e = absurd cc

struct_only : (f : StructForm) → is_text_struct f ≡ true → (k : KindWord) → same_kind (struct_kind f) k ≡ true → k ≡ K.Text
struct_only (S.StringPairs inner entry) t k e = kind_text k e
struct_only (S.StringJoin delim) t k e = kind_text k e
struct_only S.Map t k e = absurd cc
struct_only S.Tuple t k e = absurd cc
struct_only S.ListPairs t k e = absurd cc

no_struct_break : (f : StructForm) (fs : List Field) (o : Option (List (Option Data))) → is_text_struct f ≡ false → struct_breaks f fs o ≡ false
no_struct_break S.Map fs o e = refl
no_struct_break S.Tuple fs o e = refl
no_struct_break S.ListPairs fs o e = refl
no_struct_break (S.StringPairs inner entry) fs o e = absurd cc
no_struct_break (S.StringJoin delim) fs o e = absurd cc

no_map_break : (f : MapForm) (o : Option (List (List ℕ × Data))) → is_text_map f ≡ false → map_breaks f o ≡ false
no_map_break MF.Map o e = refl
no_map_break MF.ListPairs o e = refl
no_map_break (MF.Hamt shape) o e = refl
no_map_break (MF.StringPairs inner entry) o e = absurd cc

pub no_break_here : (rows : List Row) (d : TypeDef) (v : Value) → is_text_layer d v ≡ false → breaks rows (Some d) v ≡ false
no_break_here rows (D.Struct s) (V.struct os) e = no_struct_break s.form s.fields (represented_fields alone rows s.fields os) e
no_break_here rows (D.Struct s) v e = refl
no_break_here rows (D.Map key key_at value at form) (V.map ps) e = no_map_break form (represented_pairs alone rows value ps) e
no_break_here rows (D.Map key key_at value at form) v e = refl
no_break_here rows d v e = refl

pub record IsTextLayer (rows : List Row) (s : Slot) (v : Value) : Type 0 where
  pub only : HasOnly rows (plainly s.ty) K.Text
  pub layer : Layer Value
  pub is : layer_of v ≡ Some layer
  pub text : text_rep rows (plainly s.ty) v ≡ text_rep rows s v
  pub hole : has_hole rows (plainly s.ty) v ≡ has_hole rows s v
  pub breaks : breaks_delimiter rows (plainly s.ty) v ≡ breaks_delimiter rows s v

only_in : (rows : List Row) (s : Slot) (d : TypeDef) → form_of rows s ≡ Some d → ((k : KindWord) → has_kind d k ≡ true → k ≡ K.Text) → HasOnly rows (plainly s.ty) K.Text
only_in rows s d is only k e = only k (ap (λ o. kind_in o k) (sym is) ∙ e)

false_true : false ≡ true → ⊥
false_true e = absurd cc

pub text_layer : (rows : List Row) (s : Slot) (v : Value) (d : TypeDef) → form_of rows s ≡ Some d → is_text_layer d v ≡ true → IsTextLayer rows s v
text_layer rows s (V.struct os) (D.Struct sd) is e =
    record { only = only_in rows s (D.Struct sd) is (struct_only sd.form e); layer = L.struct (optionals_list os); is = refl; text = refl; hole = refl; breaks = refl }
text_layer rows s (V.map ps) (D.Map key key_at value at form) is e =
    record { only = only_in rows s (D.Map key key_at value at form) is (map_only form e); layer = L.map (pairs_list ps); is = refl; text = refl; hole = refl; breaks = refl }
text_layer rows s v (D.Struct sd) is e = absurd (false_true e)
text_layer rows s v (D.Map key key_at value at form) is e = absurd (false_true e)
text_layer rows s v d is e = absurd (false_true e)

-- whether a text is there says whether a delimiter is broken
pub answer_joined : (rows : List Row) → IsMade rows → (s : Slot) (v : Value) → IsTextLayer rows s v → Typed rows s v → has_hole rows s v ≡ false → (old new : List ℕ) (done : Bool) → TextAnswer (text_rep rows s v) old new done
    → not done ≡ breaks_delimiter rows s v
answer_joined rows made s v layer typed hole old new true a = sym (text_joined rows s v a.text a.is)
answer_joined rows made s v layer typed hole old new false a = by (breaks_delimiter rows s v) refl
  where
    by : (b : Bool) → breaks_delimiter rows s v ≡ b → true ≡ b
    by true e = refl
    by false e =
        let y = in_layer rows s v layer.layer layer.is (typed.0, typed.1) in
        let plain = of_layer rows (plainly s.ty) v y.ty layer.layer y.form layer.is y.holds in
        let x = text_there rows made (plainly s.ty) v (plain.0, plain.1, typed.2) (record { plain = refl; only = layer.only }) (layer.hole ∙ hole) (layer.breaks ∙ e) in
        absurd (none-some x.text (sym a ∙ sym layer.text ∙ x.is))

-- a part of a value without a hole has none
pub part_free : (rows : List Row) (s : Slot) (v : Value) (d : TypeDef) → form_of rows s ≡ Some d → has_hole rows s v ≡ false → (i : ℕ) (u : Slot) (w : Value) → value_part_at (Some d) v i ≡ Some (u, w) → has_hole rows u w ≡ false
part_free rows s v d is free i u w e = by (has_hole rows u w) refl
  where
    by : (b : Bool) → has_hole rows u w ≡ b → b ≡ false
    by false h = refl
    by true h = absurd (false_true (sym free ∙ by_part is_hole rows s v d is i u w e h))

-- what was appended to nothing is the text
pub text_made : (rows : List Row) (s : Slot) (v : Value) (t : List ℕ) → text_rep rows s v ≡ Some t → (old new : List ℕ) (done : Bool) → old ≡ [] → TextAnswer (text_rep rows s v) old new done → new ≡ t
text_made rows s v t is old new true nothing a = a.out ∙ ap (λ x. x ++ a.text) nothing ∙ same_Some a.text t (sym a.is ∙ is)
text_made rows s v t is old new false nothing a = absurd (none-some t (sym a ∙ is))
