-- What stands around a HAMT is no text, so it has no delimiter rule.
use Rattle.std.proofs.Common.{◌≡◌, ℕ, List, [], ◌∷◌, Bool, true, false, Option, Some, None, refl, sym, ◌∙◌, ap, subst}
use Rattle.std.specs.Prelude.{option_map}
use Rattle.std.specs.Option.{option_map_or}
use Rattle.std.proofs.lemmas.Option.{none-some, same_Some}
use Rattle.ild_data.specs.Data.{Data}
use Rattle.ild_path_changes.proofs.HaveTrees.{has_trees}
use Rattle.ild_path_changes.proofs.Represented.{represents}
use Rattle.ild_path_changes.specs.LiftLaws.{of_fronts, of_values}
use Rattle.ild_path_delimiter.specs.Laws.{OnlyTextsBreak}
use Rattle.ild_path_edits.proofs.KeepTyped.{of_type_is_kept}
use Rattle.ild_path_edits.proofs.LayerTesting.{set_is_judged}
use Rattle.ild_path_edits.specs.Along.{LayerPasses}
use Rattle.ild_path_entered.proofs.Editing.{with_typed}
use Rattle.ild_path_holder.proofs.Written.{has_part}
use Rattle.ild_path_nodes.specs.NodeLaws.{IsHamt}
use Rattle.ild_path_around.specs.Outside.{OutsideOfHamts}
use Rattle.ild_path_within.proofs.Splitting.{first_of_path}
use Rattle.ild_path_within.specs.Within.{with_part}
use Rattle.ild_schema.proofs.Legibly.{legible}
use Rattle.ild_schema.specs.Slots.{form_of}
use Rattle.ild_schema.specs.Value as V
use Rattle.ild_schema.specs.Value.{Pairs, Value}
use Rattle.ild_schema.specs.declared.def.MapForm.TheVariants as MF
use Rattle.ild_schema.specs.declared.def.TypeDef.{TypeDef}
use Rattle.ild_schema.specs.declared.def.TypeDef.TheVariants as D
use Rattle.ild_schema.specs.declared.number.Slot.{Slot}
use Rattle.ild_schema.specs.declared.row.Row.{Row}
use Rattle.ild_typed.proofs.Basics.{map_from}
use Rattle.ild_typed.proofs.Flat.{flat_alone, flat_text}
use Rattle.ild_typed.proofs.Judging.{tree_sound}
use Rattle.ild_typed.proofs.OneValue.{Way, as_layer, as_null, way_of}
use Rattle.ild_typed.proofs.PartData.{pairs_data}
use Rattle.ild_typed.specs.At.{InSlot, at, seen}
use Rattle.ild_typed.specs.Composed.{composed}
use Rattle.ild_typed.specs.Hamt.{alone, whole}
use Rattle.ild_typed.specs.Holder.{Holder, any_elements, any_entries, elements, entries, fields, member, nothing, value_of}
use Rattle.ild_typed.specs.Judged.{breaks, breaks_delimiter}
use Rattle.ild_typed.specs.Layer as L
use Rattle.ild_typed.specs.Layer.{Layer}
use Rattle.ild_typed.specs.OfType.{OfType, TestsKeys}
use Rattle.ild_typed.specs.Represented.{represented}
use Rattle.ild_typed.specs.Schema.{IsSchema}
use Rattle.ild_typed.specs.Segment.{part, set_part}
use Rattle.ild_typed.specs.Slots.{element_of}
use Rattle.ild_typed.specs.Strings.{text_in}
use Rattle.ild_typed_fronts.proofs.Seeing.{parts_of_fronts}
use Rattle.ild_typed_fronts.proofs.Representing.{fronts_represent}
use Rattle.ild_typed_fronts.specs.Front.{front_in, is_hamt, is_root}
use Rattle.ild_value_meaning.proofs.Told.{told}

pub bool_same : (a b : Bool) → (a ≡ false → b ≡ false) → (b ≡ false → a ≡ false) → a ≡ b
bool_same true true f g = refl
bool_same true false f g = g refl
bool_same false true f g = sym (f refl)
bool_same false false f g = refl

-- ---- a HAMT of entries has no data by itself

module _ (rows : List Row) (slot elem : Slot) (ps : Pairs) (is : IsHamt rows slot elem) where
  no_layer : (d : TypeDef) (l : Layer Data) (t : Data) → D.Map is.0 is.1 elem is.2 (MF.Hamt is.3) ≡ d → option_map L.map (pairs_data alone rows (element_of (Some d)) ps) ≡ Some l → composed alone d l ≡ Some t → ⊥
  no_layer d l t e there made =
      let x = map_from L.map (pairs_data alone rows (element_of (Some d)) ps) l there in
      let y : composed alone (D.Map is.0 is.1 elem is.2 (MF.Hamt is.3)) (L.map x.item) ≡ Some t = ap (λ d. composed alone d (L.map x.item)) e ∙ ap (composed alone d) (same_Some (L.map x.item) l x.made) ∙ made in
      none-some t y

  pub hamt_alone : (t : Data) → represented alone rows slot (V.map ps) ≡ Some t → ⊥
  hamt_alone t e = by (way_of alone rows slot (V.map ps) t e) where
    by : Way alone rows slot (V.map ps) t → ⊥
    by (as_null v_null nullable is_null) = absurd cc
    by (as_layer d l known there made) = no_layer d l t (same_Some (D.Map is.0 is.1 elem is.2 (MF.Hamt is.3)) d (sym is.4 ∙ known)) there made

-- a HAMT has no delimiter rule
module _ (rows : List Row) where
  passes_by : (slot : Slot) → ((v : Value) → breaks rows (form_of rows slot) v ≡ false) → (k : Holder) → LayerPasses (breaks rows) rows slot k
  passes_by slot quiet (fields fs os) = quiet (value_of (fields fs os))
  passes_by slot quiet (member ms n v) = quiet (value_of (member ms n v))
  passes_by slot quiet (entries key elem paired ps) = quiet (value_of (entries key elem paired ps))
  passes_by slot quiet (elements elem vs) = quiet (value_of (elements elem vs))
  passes_by slot quiet (any_entries ms) = tt
  passes_by slot quiet (any_elements ds) = tt
  passes_by slot quiet (nothing v) = tt

  form_quiet : (F : Option TypeDef) → is_hamt F ≡ true → (v : Value) → breaks rows F v ≡ false
  form_quiet None e v = absurd cc
  form_quiet (Some (D.Map k k_at elem at (MF.Hamt p))) e (V.map ps) = refl
  form_quiet (Some (D.Map k k_at elem at (MF.Hamt p))) e v = refl
  form_quiet (Some (D.Map k k_at elem at MF.Map)) e v = absurd cc
  form_quiet (Some (D.Map k k_at elem at MF.ListPairs)) e v = absurd cc
  form_quiet (Some (D.Map k k_at elem at (MF.StringPairs i j))) e v = absurd cc
  form_quiet (Some d) e v = absurd cc

  pub hamt_passes : (slot elem : Slot) → IsHamt rows slot elem → (k : Holder) → LayerPasses (breaks rows) rows slot k
  hamt_passes slot elem is k = passes_by slot (form_quiet (form_of rows slot) (ap is_hamt is.4)) k

  no_parts : {A : Type 0} (q : InSlot) (s : List ℕ) (v : Value) → part (nothing v) s ≡ Some q → A
  no_parts q s v e = absurd (none-some q e)

  root_passes : (p q : InSlot) (s : List ℕ) → is_root rows p ≡ true → part (seen rows p) s ≡ Some q → (k : Holder) → LayerPasses (breaks rows) rows p.0 k
  root_passes (slot, V.map ps) q s root there k = passes_by slot (form_quiet (form_of rows slot) root) k
  root_passes (slot, V.hamt t) q s root there k = no_parts q s (V.hamt t) there
  root_passes (slot, v) q s root there k = let wrong : false ≡ true = root in absurd cc

module _ (only : OnlyTextsBreak) (h : List ℕ → List ℕ) (rows : List Row) (is_key : ℕ → List ℕ → Bool) (schema : IsSchema rows) (keys : TestsKeys rows is_key) where
  abbrev Of : InSlot → Type 0
  Of p = OfType rows p.0 p.1

  alone_part : (p q : InSlot) (s : List ℕ) (t : Data) → Of p → part (seen rows p) s ≡ Some q → represented alone rows p.0 p.1 ≡ Some t → (d : Data) × (represented alone rows q.0 q.1 ≡ Some d)
  alone_part p q s t typed is made =
      let kept = of_type_is_kept rows is_key schema keys in
      let r = represents rows is_key (told rows schema).apart (told rows schema).any_there keys (legible rows schema.accepted).clear alone (has_trees alone rows (of_fronts refl) schema.table.texts.spelled) kept in
      let d = r.parts p q s t typed is made in (d.0, d.1)

  whole_part : (p q : InSlot) (s : List ℕ) (t : Data) → Of p → part (seen rows p) s ≡ Some q → represented (whole h) rows p.0 p.1 ≡ Some t → (d : Data) × (represented (whole h) rows q.0 q.1 ≡ Some d)
  whole_part p q s t typed is made =
      let kept = of_type_is_kept rows is_key schema keys in
      let r = represents rows is_key (told rows schema).apart (told rows schema).any_there keys (legible rows schema.accepted).clear (whole h) (has_trees (whole h) rows (of_values h refl) schema.table.texts.spelled) kept in
      let d = r.parts p q s t typed is made in (d.0, d.1)

  -- what a path leads to is of its slot, and has data
  pub along : (path : List (List ℕ)) (p q : InSlot) (d : Data) → Of p → represented (whole h) rows p.0 p.1 ≡ Some d → at rows p path ≡ Some q → Of q × ((d : Data) × (represented (whole h) rows q.0 q.1 ≡ Some d))
  along [] p q d typed made there = subst (λ (q : InSlot). Of q × ((d : Data) × (represented (whole h) rows q.0 q.1 ≡ Some d))) (same_Some p q there) (typed, (d, made))
  along (s ∷ ss) p q d typed made there =
      let x = first_of_path rows p q s ss there in
      let y = whole_part p x.item s d typed x.there made in
      along ss x.item q y.0 ((of_type_is_kept rows is_key schema keys).parts p x.item s typed x.there) y.1 x.made

  -- what leads to a HAMT has no data by itself
  not_alone : (path : List (List ℕ)) (p : InSlot) (slot elem : Slot) (ps : Pairs) (t : Data) → IsHamt rows slot elem → Of p → at rows p path ≡ Some (slot, V.map ps) → represented alone rows p.0 p.1 ≡ Some t → ⊥
  not_alone [] p slot elem ps t is typed there made =
      hamt_alone rows slot elem ps is t (subst (λ (q : InSlot). represented alone rows q.0 q.1 ≡ Some t) (same_Some p (slot, V.map ps) there) made)
  not_alone (s ∷ ss) p slot elem ps t is typed there made =
      let x = first_of_path rows p (slot, V.map ps) s ss there in
      let y = alone_part p x.item s t typed x.there made in
      not_alone ss x.item slot elem ps y.0 is ((of_type_is_kept rows is_key schema keys).parts p x.item s typed x.there) x.made y.1

  no_text : (path : List (List ℕ)) (p : InSlot) (slot elem : Slot) (ps : Pairs) (d : Data) → IsHamt rows slot elem → Of p → at rows p path ≡ Some (slot, V.map ps) → represented (whole h) rows p.0 p.1 ≡ Some d → text_in d ≡ None
  no_text path p slot elem ps d is typed there made = by (text_in d) refl where
    by : (o : Option (List ℕ)) → text_in d ≡ o → text_in d ≡ None
    by None e = e
    by (Some j) e = absurd (not_alone path p slot elem ps d is typed there (flat_alone h rows p.0 p.1 d made (flat_text d j e)))

  -- so it has no delimiter rule, whatever becomes of it
  silent : (p q : InSlot) (s : List ℕ) (d : Data) → Of p → represented (whole h) rows p.0 p.1 ≡ Some d → text_in d ≡ None → is_root rows p ≡ false → part (seen rows p) s ≡ Some q → (k : Holder) → LayerPasses (breaks rows) rows p.0 k
  silent p q s d typed made none plain there k =
      let f = front_in h rows p in
      let e : part (seen rows f) s ≡ Some (front_in h rows q) = parts_of_fronts h rows is_key schema keys p s typed plain ∙ ap (option_map (front_in h rows)) there in
      only rows f d k (fronts_represent h rows p.0 p.1 ∙ made) (has_part (seen rows f) s (front_in h rows q) e) none

  pub no_breaks : (slot : Slot) (v : Value) (d : Data) → represented (whole h) rows slot v ≡ Some d → breaks_delimiter rows slot v ≡ false
  no_breaks slot v d made = (tree_sound h rows slot v d made).2

  -- a part of what has no delimiter rule becomes another
  pub set_step : (p q : InSlot) (s : List ℕ) (d : Data) (m : Value) → Of p → represented (whole h) rows p.0 p.1 ≡ Some d → ((k : Holder) → LayerPasses (breaks rows) rows p.0 k) → part (seen rows p) s ≡ Some q → OfType rows q.0 m
      → breaks_delimiter rows p.0 (value_of (set_part (seen rows p) s m)) ≡ breaks_delimiter rows q.0 m
  set_step p q s d m typed made silent there new =
      let kept = of_type_is_kept rows is_key schema keys in
      let j = set_is_judged rows is_key (breaks rows) schema keys p s q.0 m typed (no_breaks p.0 p.1 d made) (kept.slots p q s typed there) (kept.there p q s typed there) new in
      bool_same (breaks_delimiter rows p.0 (value_of (set_part (seen rows p) s m))) (breaks_delimiter rows q.0 m) (λ e. (j.0 e).1) (λ e. j.1 (silent (set_part (seen rows p) s m), e))

  -- a HAMT or not
  by_root : (p q : InSlot) (s : List ℕ) (d : Data) → Of p → represented (whole h) rows p.0 p.1 ≡ Some d → text_in d ≡ None → part (seen rows p) s ≡ Some q → (b : Bool) → is_root rows p ≡ b → (k : Holder) → LayerPasses (breaks rows) rows p.0 k
  by_root p q s d typed made none there false plain k = silent p q s d typed made none plain there k
  by_root p q s d typed made none there true root k = root_passes rows p q s root there k

  pub outside : (path : List (List ℕ)) (p : InSlot) (slot elem : Slot) (ps : Pairs) (d : Data) (m : Value) → Of p → represented (whole h) rows p.0 p.1 ≡ Some d → at rows p path ≡ Some (slot, V.map ps) → IsHamt rows slot elem → OfType rows slot m
      → breaks_delimiter rows p.0 (with_part rows p path m) ≡ breaks_delimiter rows slot m
  outside [] p slot elem ps d m typed made there is new = ap (λ (q : InSlot). breaks_delimiter rows q.0 m) (same_Some p (slot, V.map ps) there)
  outside (s ∷ ss) p slot elem ps d m typed made there is new =
      let kept = of_type_is_kept rows is_key schema keys in
      let x = first_of_path rows p (slot, V.map ps) s ss there in
      let q = x.item in
      let inner = kept.parts p q s typed x.there in
      let y = whole_part p q s d typed x.there made in
      let c = with_part rows q ss m in
      let of_c : OfType rows q.0 c = with_typed rows is_key schema keys ss q (slot, V.map ps) m inner x.made new in
      let rule : (k : Holder) → LayerPasses (breaks rows) rows p.0 k = λ k. by_root p q s d typed made (no_text (s ∷ ss) p slot elem ps d is typed there made) x.there (is_root rows p) refl k in
      ap (λ o. breaks_delimiter rows p.0 (option_map_or (λ r. value_of (set_part (seen rows p) s (with_part rows r ss m))) o p.1)) x.there
      ∙ set_step p q s d c typed made rule x.there of_c
      ∙ outside ss q slot elem ps y.0 m inner y.1 x.made is new

pub outside_of_hamts : OnlyTextsBreak → OutsideOfHamts
outside_of_hamts only h rows is_key schema keys p path slot elem ps d m typed made there is new = outside only h rows is_key schema keys path p slot elem ps d m typed made there is new
