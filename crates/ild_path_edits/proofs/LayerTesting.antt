-- A test of every layer is a judgement by layers.
use Rattle.std.proofs.Common.{◌≡◌, ℕ, List, [], ◌∷◌, slice_get, Bool, false, Option, Some, refl, ap, sym, subst, ◌∙◌}
use Rattle.std.specs.Prelude.{IfSome, option_map}
use Rattle.std.specs.Option.{option_map_or}
use Rattle.std.proofs.lemmas.Bool.{or_parts, or_from}
use Rattle.ild_data.specs.Data as D
use Rattle.ild_data.specs.Data.{Data}
use Rattle.ild_schema.specs.declared.def.TypeDef.{TypeDef}
use Rattle.ild_schema.specs.declared.def.TypeDef.TheVariants as T
use Rattle.ild_schema.specs.declared.def.Field.{Field}
use Rattle.ild_schema.specs.declared.def.Member.{Member}
use Rattle.ild_schema.specs.declared.def.UnionDef.{UnionDef}
use Rattle.ild_schema.specs.declared.number.Slot.{Slot}
use Rattle.ild_schema.specs.declared.row.Row.{Row}
use Rattle.ild_schema.specs.Prelude.{anything}
use Rattle.ild_schema.specs.Slots.{form_of, plainly}
use Rattle.ild_schema.specs.Value.{Value, null, boolean, integer, text, bytes, link, list, map, struct, union, enum, unit, any, hamt, Values, no_values, value, Pairs, no_pairs, pair, Optionals, no_optionals, absent, present, values_of, values_list, pairs_of, pairs_list, optionals_of, optionals_list}
use Rattle.ild_typed.specs.EachLayer.{some_layer, some_value, some_pair, some_field}
use Rattle.ild_typed.specs.Slots.{element_of, fields_of, member_of, slot_of}
use Rattle.ild_typed.specs.Holder.{any_holder, list_holder, map_holder, struct_holder, union_holder, of_any}
use Rattle.ild_typed.specs.OfType.{OfType, TestsKeys}
use Rattle.ild_typed.specs.Schema.{IsSchema}
use Rattle.ild_value_meaning.proofs.ByParts.{ByParts, AreByParts, EntriesByParts, FieldsByParts}
use Rattle.ild_value_meaning.proofs.TypedByParts.{to_parts}
use Rattle.ild_path_edits.specs.Along.{IsFree, LayerPasses}
use Rattle.ild_path_edits.specs.AlongLaws.{JudgedAlong, SetIsJudged}
use Rattle.ild_path_edits.proofs.Judging.{judged_by_tests}
use Rattle.ild_path_edits.proofs.KeepTyped.{of_type_is_kept}
use Rattle.ild_path_edits.proofs.Layered.{IsGood, AllGood, EntriesGood, FieldsGood}
use Rattle.ild_path_edits.proofs.LayeredKept.{good_is_layered, good_where_set}
use Rattle.ild_path_edits.proofs.Layering.{IsLayered}

values_back : (vs : Values) → values_of (values_list vs) ≡ vs
values_back no_values = refl
values_back (value v vs) = ap (λ ws. value v ws) (values_back vs)

pairs_back : (ps : Pairs) → pairs_of (pairs_list ps) ≡ ps
pairs_back no_pairs = refl
pairs_back (pair k v ps) = ap (λ qs. pair k v qs) (pairs_back ps)

optionals_back : (os : Optionals) → optionals_of (optionals_list os) ≡ os
optionals_back no_optionals = refl
optionals_back (absent os) = ap (λ ps. absent ps) (optionals_back os)
optionals_back (present v os) = ap (λ ps. present v ps) (optionals_back os)

-- a test of parts, in the slot that their holder gives them
pub in_slot : (o : Option Slot) (u : Slot) (f : Slot → Bool) → o ≡ Some u → option_map_or f o false ≡ false → f u ≡ false
in_slot o u f e h = sym (ap (λ p. option_map_or f p false) e) ∙ h

pub slot_in : (o : Option Slot) (u : Slot) (f : Slot → Bool) → o ≡ Some u → f u ≡ false → option_map_or f o false ≡ false
slot_in o u f e h = ap (λ p. option_map_or f p false) e ∙ h

module _ (rows : List Row) (is_key : ℕ → List ℕ → Bool) (test : Option TypeDef → Value → Bool) where
  abbrev Of : Slot → Value → Type 0
  Of slot v = ByParts rows is_key slot v

  abbrev pub Good : Slot → Value → Type 0
  Good slot v = IsGood rows (Unit {0}) (λ i s. i) (λ i s h. LayerPasses test rows s h) tt slot v

  abbrev Goods : Slot → Values → Type 0
  Goods slot vs = AllGood rows (Unit {0}) (λ i s. i) (λ i s h. LayerPasses test rows s h) tt slot vs

  abbrev GoodPairs : Slot → Pairs → Type 0
  GoodPairs slot ps = EntriesGood rows (Unit {0}) (λ i s. i) (λ i s h. LayerPasses test rows s h) tt slot ps

  abbrev GoodFields : List Field → Optionals → Type 0
  GoodFields fs os = FieldsGood rows (Unit {0}) (λ i s. i) (λ i s h. LayerPasses test rows s h) tt fs os

  data_passes : (slot : Slot) (d : Data) → LayerPasses test rows slot (any_holder d)
  data_passes slot D.null = tt
  data_passes slot (D.boolean b) = tt
  data_passes slot (D.integer n) = tt
  data_passes slot (D.text s) = tt
  data_passes slot (D.bytes s) = tt
  data_passes slot (D.list ds) = tt
  data_passes slot (D.map ms) = tt
  data_passes slot (D.link s) = tt

  inside_good : (d : Data) → Good anything (of_any d)
  inside_good D.null = tt
  inside_good (D.boolean b) = tt
  inside_good (D.integer n) = tt
  inside_good (D.text s) = tt
  inside_good (D.bytes s) = tt
  inside_good (D.list ds) = tt
  inside_good (D.map ms) = tt
  inside_good (D.link s) = tt

  member_slot : (f : Option TypeDef) (u : UnionDef) (n : ℕ) (m : Member) → f ≡ Some (T.Union u) → slice_get u.members n ≡ Some m → member_of f n ≡ Some (plainly m.ty)
  member_slot f u n m e h = ap (λ g. member_of g n) e ∙ ap (option_map slot_of) h

  mutual
    pub free_good : (v : Value) (slot : Slot) → Of slot v → IsFree test rows slot v → Good slot v
    free_good null slot t h = tt
    free_good (boolean b) slot t h = tt
    free_good (integer n) slot t h = tt
    free_good (text s) slot t h = tt
    free_good (bytes s) slot t h = tt
    free_good (link s) slot t h = tt
    free_good (list vs) slot t h =
        let x = or_parts (test (form_of rows slot) (list vs)) (option_map_or (λ u. some_value test rows u vs) (element_of (form_of rows slot)) false) h in (
          subst (λ f. LayerPasses test rows slot (list_holder f vs)) (sym t.2) (ap (λ ws. test (form_of rows slot) (list ws)) (values_back vs) ∙ x.0),
          subst (λ f. IfSome (element_of f) (λ u. Goods u vs)) (sym t.2) (frees_good vs t.0 t.3 (in_slot (element_of (form_of rows slot)) t.0 (λ u. some_value test rows u vs) (ap element_of t.2) x.1)),
        )
    free_good (map ps) slot t h =
        let x = or_parts (test (form_of rows slot) (map ps)) (option_map_or (λ u. some_pair test rows u ps) (element_of (form_of rows slot)) false) h in (
          subst (λ f. LayerPasses test rows slot (map_holder f ps)) (sym t.5) (ap (λ ws. test (form_of rows slot) (map ws)) (pairs_back ps) ∙ x.0),
          subst (λ f. IfSome (element_of f) (λ u. GoodPairs u ps)) (sym t.5) (free_pairs ps (t.0).0 t.2 t.6 (in_slot (element_of (form_of rows slot)) t.2 (λ u. some_pair test rows u ps) (ap element_of t.5) x.1)),
        )
    free_good (struct os) slot t h =
        let x = or_parts (test (form_of rows slot) (struct os)) (some_field test rows (fields_of (form_of rows slot)) os) h in (
          subst (λ f. LayerPasses test rows slot (struct_holder f os)) (sym t.1) (ap (λ ws. test (form_of rows slot) (struct ws)) (optionals_back os) ∙ x.0),
          subst (λ f. GoodFields (fields_of f) os) (sym t.1) (free_fields os (t.0).fields t.2 (ap (λ f. some_field test rows (fields_of f) os) (sym t.1) ∙ x.1)),
        )
    free_good (union n v) slot t h =
        let x = or_parts (test (form_of rows slot) (union n v)) (option_map_or (λ u. some_layer test rows u v) (member_of (form_of rows slot) n) false) h in
        let at = member_slot (form_of rows slot) t.0 n t.1 t.2 t.3 in (
          subst (λ f. LayerPasses test rows slot (union_holder f n v)) (sym t.2) x.0,
          subst (λ o. IfSome o (λ u. Good u v)) (sym at) (free_good v (plainly (t.1).ty) t.4 (in_slot (member_of (form_of rows slot) n) (plainly (t.1).ty) (λ u. some_layer test rows u v) at x.1)),
        )
    free_good (enum n) slot t h = tt
    free_good unit slot t h = tt
    free_good (any d) slot t h = data_passes slot d
    free_good (hamt d) slot t h = tt

    frees_good : (vs : Values) (slot : Slot) → AreByParts rows is_key slot vs → some_value test rows slot vs ≡ false → Goods slot vs
    frees_good no_values slot t h = tt
    frees_good (value v vs) slot t h = let x = or_parts (some_layer test rows slot v) (some_value test rows slot vs) h in (free_good v slot t.0 x.0, frees_good vs slot t.1 x.1)

    free_pairs : (ps : Pairs) (key : ℕ) (slot : Slot) → EntriesByParts rows is_key key slot ps → some_pair test rows slot ps ≡ false → GoodPairs slot ps
    free_pairs no_pairs key slot t h = tt
    free_pairs (pair k v ps) key slot t h = let x = or_parts (some_layer test rows slot v) (some_pair test rows slot ps) h in (free_good v slot t.1 x.0, free_pairs ps key slot t.2 x.1)

    free_fields : (os : Optionals) (fs : List Field) → FieldsByParts rows is_key fs os → some_field test rows fs os ≡ false → GoodFields fs os
    free_fields no_optionals fs t h = tt
    free_fields (absent os) [] t h = tt
    free_fields (absent os) (f ∷ fs) t h = free_fields os fs t.1 h
    free_fields (present v os) [] t h = tt
    free_fields (present v os) (f ∷ fs) t h = let x = or_parts (some_layer test rows f.slot v) (some_field test rows fs os) h in (free_good v f.slot t.0 x.0, free_fields os fs t.1 x.1)

  mutual
    pub good_free : (v : Value) (slot : Slot) → Of slot v → Good slot v → IsFree test rows slot v
    good_free null slot t h = refl
    good_free (boolean b) slot t h = refl
    good_free (integer n) slot t h = refl
    good_free (text s) slot t h = refl
    good_free (bytes s) slot t h = refl
    good_free (link s) slot t h = refl
    good_free (list vs) slot t h =
        let own : test (form_of rows slot) (list (values_of (values_list vs))) ≡ false = subst (λ f. LayerPasses test rows slot (list_holder f vs)) t.2 h.0 in
        let parts : Goods t.0 vs = subst (λ f. IfSome (element_of f) (λ u. Goods u vs)) t.2 h.1 in
        or_from (test (form_of rows slot) (list vs)) (option_map_or (λ u. some_value test rows u vs) (element_of (form_of rows slot)) false)
        (ap (λ ws. test (form_of rows slot) (list ws)) (sym (values_back vs)) ∙ own) (slot_in (element_of (form_of rows slot)) t.0 (λ u. some_value test rows u vs) (ap element_of t.2) (goods_free vs t.0 t.3 parts))
    good_free (map ps) slot t h =
        let own : test (form_of rows slot) (map (pairs_of (pairs_list ps))) ≡ false = subst (λ f. LayerPasses test rows slot (map_holder f ps)) t.5 h.0 in
        let parts : GoodPairs t.2 ps = subst (λ f. IfSome (element_of f) (λ u. GoodPairs u ps)) t.5 h.1 in
        or_from (test (form_of rows slot) (map ps)) (option_map_or (λ u. some_pair test rows u ps) (element_of (form_of rows slot)) false)
        (ap (λ ws. test (form_of rows slot) (map ws)) (sym (pairs_back ps)) ∙ own) (slot_in (element_of (form_of rows slot)) t.2 (λ u. some_pair test rows u ps) (ap element_of t.5) (pairs_free ps (t.0).0 t.2 t.6 parts))
    good_free (struct os) slot t h =
        let own : test (form_of rows slot) (struct (optionals_of (optionals_list os))) ≡ false = subst (λ f. LayerPasses test rows slot (struct_holder f os)) t.1 h.0 in
        let parts : GoodFields (t.0).fields os = subst (λ f. GoodFields (fields_of f) os) t.1 h.1 in
        or_from (test (form_of rows slot) (struct os)) (some_field test rows (fields_of (form_of rows slot)) os)
        (ap (λ ws. test (form_of rows slot) (struct ws)) (sym (optionals_back os)) ∙ own) (ap (λ f. some_field test rows (fields_of f) os) t.1 ∙ fields_free os (t.0).fields t.2 parts)
    good_free (union n v) slot t h =
        let own : test (form_of rows slot) (union n v) ≡ false = subst (λ f. LayerPasses test rows slot (union_holder f n v)) t.2 h.0 in
        let at = member_slot (form_of rows slot) t.0 n t.1 t.2 t.3 in
        let part : Good (plainly (t.1).ty) v = subst (λ o. IfSome o (λ u. Good u v)) at h.1 in
        or_from (test (form_of rows slot) (union n v)) (option_map_or (λ u. some_layer test rows u v) (member_of (form_of rows slot) n) false) own
        (slot_in (member_of (form_of rows slot) n) (plainly (t.1).ty) (λ u. some_layer test rows u v) at (good_free v (plainly (t.1).ty) t.4 part))
    good_free (enum n) slot t h = refl
    good_free unit slot t h = refl
    good_free (any d) slot t h = refl
    good_free (hamt d) slot t h = refl

    goods_free : (vs : Values) (slot : Slot) → AreByParts rows is_key slot vs → Goods slot vs → some_value test rows slot vs ≡ false
    goods_free no_values slot t h = refl
    goods_free (value v vs) slot t h = or_from (some_layer test rows slot v) (some_value test rows slot vs) (good_free v slot t.0 h.0) (goods_free vs slot t.1 h.1)

    pairs_free : (ps : Pairs) (key : ℕ) (slot : Slot) → EntriesByParts rows is_key key slot ps → GoodPairs slot ps → some_pair test rows slot ps ≡ false
    pairs_free no_pairs key slot t h = refl
    pairs_free (pair k v ps) key slot t h = or_from (some_layer test rows slot v) (some_pair test rows slot ps) (good_free v slot t.1 h.0) (pairs_free ps key slot t.2 h.1)

    fields_free : (os : Optionals) (fs : List Field) → FieldsByParts rows is_key fs os → GoodFields fs os → some_field test rows fs os ≡ false
    fields_free no_optionals fs t h = refl
    fields_free (absent os) [] t h = refl
    fields_free (absent os) (f ∷ fs) t h = fields_free os fs t.1 h
    fields_free (present v os) [] t h = refl
    fields_free (present v os) (f ∷ fs) t h = or_from (some_layer test rows f.slot v) (some_field test rows fs os) (good_free v f.slot t.0 h.0) (fields_free os fs t.1 h.1)

module _ (rows : List Row) (is_key : ℕ → List ℕ → Bool) (test : Option TypeDef → Value → Bool) (schema : IsSchema rows) (keys : TestsKeys rows is_key) where
  to_good : (slot : Slot) (v : Value) → OfType rows slot v → IsFree test rows slot v → Good rows is_key test slot v
  to_good slot v is h = free_good rows is_key test v slot (to_parts rows is_key keys v slot is) h

  to_free : (slot : Slot) (v : Value) → OfType rows slot v → Good rows is_key test slot v → IsFree test rows slot v
  to_free slot v is h = good_free rows is_key test v slot (to_parts rows is_key keys v slot is) h

  pub free_is_layered : IsLayered rows (λ slot v. OfType rows slot v) (Unit {0}) (λ i p s. i) (λ i slot v. IsFree test rows slot v) (λ i slot h. LayerPasses test rows slot h)
  free_is_layered =
      let g = good_is_layered rows is_key schema (Unit {0}) (λ i s. i) (λ i s h. LayerPasses test rows s h) (λ i slot d e s h there. inside_good rows is_key test e) keys in
      let kept = of_type_is_kept rows is_key schema keys in
      record {
        own = λ i p is h. g.own i p is (to_good p.0 p.1 is h);
        parts = λ i p q s is h e. to_free q.0 q.1 (kept.parts p q s is e) (g.parts i p q s is (to_good p.0 p.1 is h) e);
        steady = λ i p q s c is e new. refl;
        whole = λ i p q s c is h e new l k.
            to_free p.0 _ (kept.set p s q.0 c is (kept.slots p q s is e) (kept.there p q s is e) new) (g.whole i p q s c is (to_good p.0 p.1 is h) e new l (to_good q.0 c new k));
      }

pub judged_along : JudgedAlong
judged_along rows is_key test schema keys f l typed p s ss is free last =
    judged_by_tests rows is_key (λ slot v. OfType rows slot v) (of_type_is_kept rows is_key schema keys) (Unit {0}) (λ i p s. i) (λ i slot v. IsFree test rows slot v) (λ i slot h. LayerPasses test rows slot h)
    (free_is_layered rows is_key test schema keys) f l typed tt p s ss is free last

pub set_is_judged : SetIsJudged
set_is_judged rows is_key test schema keys p s slot w is free allowed stands new =
    let g = good_where_set rows is_key schema (Unit {0}) (λ i s. i) (λ i s h. LayerPasses test rows s h) (λ i slot d e s h there. inside_good rows is_key test e) keys
    tt p s slot w is (to_good rows is_key test schema keys p.0 p.1 is free) allowed stands new in
    let whole = (of_type_is_kept rows is_key schema keys).set p s slot w is allowed stands new in (
      λ h. let x = g.0 (to_good rows is_key test schema keys p.0 _ whole h) in (x.0, to_free rows is_key test schema keys slot w new x.1),
      λ t. to_free rows is_key test schema keys p.0 _ whole (g.1 (t.0, to_good rows is_key test schema keys slot w new t.1)),
    )
