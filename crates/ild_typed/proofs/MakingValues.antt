-- A whole value that fits has a representation where it has no hole, breaks no delimiter and exhausts no HAMT.
use Rattle.std.proofs.Common.{◌≡◌, ℕ, zero, suc, ◌-◌, ◌<◌, List, [], ◌∷◌, length, Bool, true, false, ◌||◌, Option, Some, None, option_map, IsUtf8, refl, sym, ◌∙◌, ap, subst, cond, arith}
use Rattle.std.specs.Prelude.{ℤ, IfSome, IsSomeAnd, slice_get, option_and_then}
use Rattle.std.specs.List.{AllByRecursion}
use Rattle.std.proofs.lemmas.Option.{same_Some, none-some}
use Rattle.std.proofs.lemmas.Bool.{or_parts, and_parts}
use Rattle.ild_data.proofs.AllOf.{all_at}
use Rattle.ild_data.specs.Data as T
use Rattle.ild_data.specs.Data.{Data}
use Rattle.ild_schema.specs.declared.number.Slot.{Slot}
use Rattle.ild_schema.specs.declared.def.TypeDef.{TypeDef}
use Rattle.ild_schema.specs.declared.def.TypeDef.TheVariants as D
use Rattle.ild_schema.specs.declared.def.MapForm.{MapForm}
use Rattle.ild_schema.specs.declared.def.MapForm.TheVariants as MF
use Rattle.ild_schema.specs.declared.def.StructForm.{StructForm}
use Rattle.ild_schema.specs.declared.def.StructForm.TheVariants as S
use Rattle.ild_schema.specs.declared.def.Field.{Field}
use Rattle.ild_schema.specs.declared.def.Member.{Member}
use Rattle.ild_schema.specs.declared.def.EnumMember.{EnumMember}
use Rattle.ild_schema.specs.declared.row.Row.{Row}
use Rattle.ild_schema.specs.Copies.{base}
use Rattle.ild_schema.specs.Value as V
use Rattle.ild_schema.specs.Value.{Value, Values, Pairs, Optionals, values_list, pairs_list, optionals_list}
use Rattle.ild_schema.proofs.Legibly.{legible}
use Rattle.ild_typed.specs.Layer as L
use Rattle.ild_typed.specs.Layer.{Layer}
use Rattle.ild_schema.specs.Slots.{form_of, plainly}
use Rattle.ild_typed.specs.Slots.{slot_of, element_of, fields_of, member_of}
use Rattle.ild_typed.specs.Composed.{composed, member_form, enum_form, any_data, unit_data}
use Rattle.ild_typed.specs.Hamt.{alone, whole}
use Rattle.ild_typed.specs.Represented.{represented, represented_values, represented_pairs, represented_fields}
use Rattle.ild_typed.specs.Levels.{levels_of}
use Rattle.ild_typed.specs.Fits.{FormFits, ValueFits, FitsPast, Fits}
use Rattle.ild_typed.specs.Layers.{IsNotNull, FieldsFit, LayerFits}
use Rattle.ild_typed.specs.Typed.{Typed}
use Rattle.ild_schema.specs.Whole.{is_whole, are_whole, pairs_whole, fields_whole}
use Rattle.ild_typed.specs.StandLaws.{StorableWhere}
use Rattle.ild_typed.specs.Judged.{some_present, hole_in, tuple_hole, is_hole, has_hole, struct_breaks, map_breaks, breaks, breaks_delimiter, map_exhausts, is_exhausted, exhausts}
use Rattle.ild_typed.specs.EachLayer.{some_layer, some_value, some_pair, some_field}
use Rattle.ild_schema.specs.Made.{IsTextSlot, MadeStruct, MadeMap, MadeMember, MadeEnum, MadeType, IsMade}
use Rattle.ild_typed.proofs.Flat.{FlatPairs, FlatFields, flat_text, pairs_alone, fields_alone}
use Rattle.ild_typed.proofs.Basics.{map_from}
use Rattle.ild_typed.proofs.PartData.{values_data, pairs_data, member_data, values_test, pairs_test, member_test, false_given}
use Rattle.ild_typed.proofs.Entries.{both_from}
use Rattle.ild_typed.proofs.OneValue.{layer_data}
use Rattle.ild_typed.proofs.Layers.{by_layer}
use Rattle.ild_typed.proofs.TreeParts.{list_fits, struct_fits, union_fits, map_fits, no_type_map}
use Rattle.ild_typed.proofs.TreeBlocks.{formed}
use Rattle.ild_typed.proofs.Making.{There, there_map, there_then, there_both, TextData, text_slot, Suits, none_there, no_gap, FormReady, struct_there, PairsReady, map_there, member_there, enum_there}

-- ---- what is asked of the layers of a value

abbrev pub layer_test : (Option TypeDef → Value → Bool) → List Row → Option TypeDef → Value → Bool
layer_test test rows c (V.list vs) = test c (V.list vs) || values_test test rows (element_of c) vs
layer_test test rows c (V.map ps) = test c (V.map ps) || pairs_test test rows (element_of c) ps
layer_test test rows c (V.struct os) = test c (V.struct os) || some_field test rows (fields_of c) os
layer_test test rows c (V.union n v) = test c (V.union n v) || member_test test rows (member_of c n) v
layer_test test rows c v = false

at_form : (test : Option TypeDef → Value → Bool) (rows : List Row) (s : Slot) (d : TypeDef) (v : Value) → form_of rows s ≡ Some d → some_layer test rows s v ≡ false → layer_test test rows (Some d) v ≡ false
at_form test rows s d (V.list vs) is e = subst (λ c. layer_test test rows c (V.list vs) ≡ false) is e
at_form test rows s d (V.map ps) is e = subst (λ c. layer_test test rows c (V.map ps) ≡ false) is e
at_form test rows s d (V.struct os) is e = subst (λ c. layer_test test rows c (V.struct os) ≡ false) is e
at_form test rows s d (V.union n v) is e = subst (λ c. layer_test test rows c (V.union n v) ≡ false) is e
at_form test rows s d v is e = refl

pairs_flat : (ps : List (List ℕ × Data)) → AllByRecursion (λ p. TextData p.1) ps → FlatPairs ps
pairs_flat [] all = tt
pairs_flat (p ∷ ps) all = (flat_text p.1 all.0.text all.0.is, pairs_flat ps all.1)

options_flat : (os : List (Option Data)) → AllByRecursion (λ o. IfSome o TextData) os → FlatFields os
options_flat [] all = tt
options_flat (None ∷ os) all = (tt, options_flat os all.1)
options_flat (Some d ∷ os) all = (flat_text d all.0.text all.0.is, options_flat os all.1)

module _ (h : List ℕ → List ℕ) (rows : List Row) where
  pub record Sound (s : Slot) (v : Value) : Type 0 where
    pub hole : some_layer is_hole rows s v ≡ false
    pub delimiter : some_layer (breaks rows) rows s v ≡ false
    pub full : some_layer (is_exhausted h rows) rows s v ≡ false
    pub entire : is_whole v ≡ true

  record SoundAt (d : TypeDef) (v : Value) : Type 0 where
    pub hole : layer_test is_hole rows (Some d) v ≡ false
    pub delimiter : layer_test (breaks rows) rows (Some d) v ≡ false
    pub full : layer_test (is_exhausted h rows) rows (Some d) v ≡ false
    pub entire : is_whole v ≡ true

  sound_at : (s : Slot) (d : TypeDef) (v : Value) → form_of rows s ≡ Some d → Sound s v → SoundAt d v
  sound_at s d v is x = record {
    hole = at_form is_hole rows s d v is x.hole;
    delimiter = at_form (breaks rows) rows s d v is x.delimiter;
    full = at_form (is_exhausted h rows) rows s d v is x.full;
    entire = x.entire;
  }

  pub record SoundValues (s : Slot) (vs : Values) : Type 0 where
    pub hole : some_value is_hole rows s vs ≡ false
    pub delimiter : some_value (breaks rows) rows s vs ≡ false
    pub full : some_value (is_exhausted h rows) rows s vs ≡ false
    pub entire : are_whole vs ≡ true

  pub record SoundPairs (s : Slot) (ps : Pairs) : Type 0 where
    pub hole : some_pair is_hole rows s ps ≡ false
    pub delimiter : some_pair (breaks rows) rows s ps ≡ false
    pub full : some_pair (is_exhausted h rows) rows s ps ≡ false
    pub entire : pairs_whole ps ≡ true

  pub record SoundFields (fs : List Field) (os : Optionals) : Type 0 where
    pub hole : some_field is_hole rows fs os ≡ false
    pub delimiter : some_field (breaks rows) rows fs os ≡ false
    pub full : some_field (is_exhausted h rows) rows fs os ≡ false
    pub entire : fields_whole os ≡ true

  abbrev HasTree : Slot → Value → Type 0
  HasTree s v = There (represented (whole h) rows s v)

  -- ---- the parts

  module _ (fits : Slot → Value → Type 0) (later : (s : Slot) (v : Value) → fits s v → Sound s v → HasTree s v) where
    values_there : (s : Slot) (vs : Values) → AllByRecursion (fits s) (values_list vs) → SoundValues s vs → There (represented_values (whole h) rows s vs)
    values_there s V.no_values f x = record { item = []; is = refl }
    values_there s (V.value v vs) f x =
        let a = or_parts (some_layer is_hole rows s v) (some_value is_hole rows s vs) x.hole in
        let b = or_parts (some_layer (breaks rows) rows s v) (some_value (breaks rows) rows s vs) x.delimiter in
        let c = or_parts (some_layer (is_exhausted h rows) rows s v) (some_value (is_exhausted h rows) rows s vs) x.full in
        let w = and_parts (is_whole v) (are_whole vs) x.entire in
        there_both (represented (whole h) rows s v) (represented_values (whole h) rows s vs)
        (later s v f.0 (record { hole = a.0; delimiter = b.0; full = c.0; entire = w.0 }))
        (values_there s vs f.1 (record { hole = a.1; delimiter = b.1; full = c.1; entire = w.1 }))

    pairs_there : (s : Slot) (ps : Pairs) → AllByRecursion (λ p. IsUtf8 p.0 × fits s p.1) (pairs_list ps) → SoundPairs s ps → There (represented_pairs (whole h) rows s ps)
    pairs_there s V.no_pairs f x = record { item = []; is = refl }
    pairs_there s (V.pair k v ps) f x =
        let a = or_parts (some_layer is_hole rows s v) (some_pair is_hole rows s ps) x.hole in
        let b = or_parts (some_layer (breaks rows) rows s v) (some_pair (breaks rows) rows s ps) x.delimiter in
        let c = or_parts (some_layer (is_exhausted h rows) rows s v) (some_pair (is_exhausted h rows) rows s ps) x.full in
        let w = and_parts (is_whole v) (pairs_whole ps) x.entire in
        there_both (option_map {U = List ℕ × Data} (λ d. (k, d)) (represented (whole h) rows s v)) (represented_pairs (whole h) rows s ps)
        (there_map {B = List ℕ × Data} (λ d. (k, d)) (represented (whole h) rows s v) (later s v f.0.1 (record { hole = a.0; delimiter = b.0; full = c.0; entire = w.0 })))
        (pairs_there s ps f.1 (record { hole = a.1; delimiter = b.1; full = c.1; entire = w.1 }))

    fields_there : (fs : List Field) (os : Optionals) → FieldsFit fits fs (optionals_list os) → SoundFields fs os → There (represented_fields (whole h) rows fs os)
    fields_there fs V.no_optionals f x = record { item = []; is = refl }
    fields_there [] (V.absent os) f x = absurd f
    fields_there [] (V.present v os) f x = absurd f
    fields_there (g ∷ fs) (V.absent os) f x =
        there_map (λ ds. None ∷ ds) (represented_fields (whole h) rows fs os) (fields_there fs os f.1 (record { hole = x.hole; delimiter = x.delimiter; full = x.full; entire = x.entire }))
    fields_there (g ∷ fs) (V.present v os) f x =
        let a = or_parts (some_layer is_hole rows g.slot v) (some_field is_hole rows fs os) x.hole in
        let b = or_parts (some_layer (breaks rows) rows g.slot v) (some_field (breaks rows) rows fs os) x.delimiter in
        let c = or_parts (some_layer (is_exhausted h rows) rows g.slot v) (some_field (is_exhausted h rows) rows fs os) x.full in
        let w = and_parts (is_whole v) (fields_whole os) x.entire in
        there_both (option_map Some (represented (whole h) rows g.slot v)) (represented_fields (whole h) rows fs os)
        (there_map Some (represented (whole h) rows g.slot v) (later g.slot v f.0 (record { hole = a.0; delimiter = b.0; full = c.0; entire = w.0 })))
        (fields_there fs os f.1 (record { hole = a.1; delimiter = b.1; full = c.1; entire = w.1 }))

    -- ---- what a form asks of them

    suits : (fs : List Field) (os : Optionals) (ds : List (Option Data)) → FieldsFit fits fs (optionals_list os) → represented_fields (whole h) rows fs os ≡ Some ds → Suits fs ds
    suits [] V.no_optionals ds f e = subst (Suits []) (same_Some [] ds e) tt
    suits (g ∷ fs) V.no_optionals ds f e = absurd f
    suits [] (V.absent os) ds f e = absurd f
    suits [] (V.present v os) ds f e = absurd f
    suits (g ∷ fs) (V.absent os) ds f e =
        let b = map_from (λ xs. None ∷ xs) (represented_fields (whole h) rows fs os) ds e in
        subst (Suits (g ∷ fs)) (same_Some (None ∷ b.item) ds b.made) (f.0, suits fs os b.item f.1 b.there)
    suits (g ∷ fs) (V.present v os) ds f e =
        let b = both_from (option_map Some (represented (whole h) rows g.slot v)) (represented_fields (whole h) rows fs os) ds e in
        let x = map_from Some (represented (whole h) rows g.slot v) b.item b.first in
        let rest : Suits fs b.items = suits fs os b.items f.1 b.rest in
        let whole_list : Suits (g ∷ fs) (Some x.item ∷ b.items) = rest in
        subst (Suits (g ∷ fs)) (ap (λ o. o ∷ b.items) (same_Some (Some x.item) b.item x.made) ∙ b.all) whole_list

  none_present : (fs : List Field) (os : Optionals) (ds : List (Option Data)) → represented_fields (whole h) rows fs os ≡ Some ds → some_present os ≡ false → none_there ds ≡ true
  none_present fs V.no_optionals ds e k = ap none_there (sym (same_Some [] ds e))
  none_present [] (V.absent os) ds e k = absurd (none-some ds e)
  none_present fs (V.present v os) ds e k = absurd cc
  none_present (g ∷ fs) (V.absent os) ds e k =
      let b = map_from (λ xs. None ∷ xs) (represented_fields (whole h) rows fs os) ds e in
      ap none_there (sym (same_Some (None ∷ b.item) ds b.made)) ∙ none_present fs os b.item b.there k

  gaps : (fs : List Field) (os : Optionals) (ds : List (Option Data)) → represented_fields (whole h) rows fs os ≡ Some ds → hole_in os ≡ false → no_gap ds ≡ true
  gaps fs V.no_optionals ds e k = ap no_gap (sym (same_Some [] ds e))
  gaps [] (V.absent os) ds e k = absurd (none-some ds e)
  gaps [] (V.present v os) ds e k = absurd (none-some ds e)
  gaps (g ∷ fs) (V.absent os) ds e k =
      let b = map_from (λ xs. None ∷ xs) (represented_fields (whole h) rows fs os) ds e in
      ap no_gap (sym (same_Some (None ∷ b.item) ds b.made)) ∙ none_present fs os b.item b.there k
  gaps (g ∷ fs) (V.present v os) ds e k =
      let b = both_from (option_map Some (represented (whole h) rows g.slot v)) (represented_fields (whole h) rows fs os) ds e in
      let x = map_from Some (represented (whole h) rows g.slot v) b.item b.first in
      ap no_gap (sym (ap (λ o. o ∷ b.items) (same_Some (Some x.item) b.item x.made) ∙ b.all)) ∙ gaps fs os b.items b.rest k

  fields_texts : (fs : List Field) (os : Optionals) (ds : List (Option Data)) → AllByRecursion (λ g. IsTextSlot rows g.slot) fs → represented_fields (whole h) rows fs os ≡ Some ds → AllByRecursion (λ o. IfSome o TextData) ds
  fields_texts fs V.no_optionals ds all e = subst (AllByRecursion (λ o. IfSome o TextData)) (same_Some [] ds e) tt
  fields_texts [] (V.absent os) ds all e = absurd (none-some ds e)
  fields_texts [] (V.present v os) ds all e = absurd (none-some ds e)
  fields_texts (g ∷ fs) (V.absent os) ds all e =
      let b = map_from (λ xs. None ∷ xs) (represented_fields (whole h) rows fs os) ds e in
      subst (AllByRecursion (λ o. IfSome o TextData)) (same_Some (None ∷ b.item) ds b.made) (tt, fields_texts fs os b.item all.1 b.there)
  fields_texts (g ∷ fs) (V.present v os) ds all e =
      let b = both_from (option_map Some (represented (whole h) rows g.slot v)) (represented_fields (whole h) rows fs os) ds e in
      let x = map_from Some (represented (whole h) rows g.slot v) b.item b.first in
      let first : IfSome b.item TextData = subst (λ o. IfSome o TextData) (same_Some (Some x.item) b.item x.made) (text_slot h rows g.slot v x.item all.0 x.there) in
      subst (AllByRecursion (λ o. IfSome o TextData)) b.all (first, fields_texts fs os b.items all.1 b.rest)

  pairs_texts : (s : Slot) (ps : Pairs) (ds : List (List ℕ × Data)) → IsTextSlot rows s → represented_pairs (whole h) rows s ps ≡ Some ds → AllByRecursion (λ p. TextData p.1) ds
  pairs_texts s V.no_pairs ds text e = subst (AllByRecursion (λ (p : List ℕ × Data). TextData p.1)) (same_Some [] ds e) tt
  pairs_texts s (V.pair k v ps) ds text e =
      let b = both_from (option_map {U = List ℕ × Data} (λ d. (k, d)) (represented (whole h) rows s v)) (represented_pairs (whole h) rows s ps) ds e in
      let x = map_from {B = List ℕ × Data} (λ d. (k, d)) (represented (whole h) rows s v) b.item b.first in
      let first : TextData b.item.1 = subst (λ (p : List ℕ × Data). TextData p.1) (same_Some (k, x.item) b.item x.made) (text_slot h rows s v x.item text x.there) in
      subst (AllByRecursion (λ (p : List ℕ × Data). TextData p.1)) b.all (first, pairs_texts s ps b.items text b.rest)

  split_slots : (fs : List Field) → AllByRecursion (λ g. IsTextSlot rows g.slot × (g.optional ≡ false)) fs → AllByRecursion (λ g. IsTextSlot rows g.slot) fs × AllByRecursion (λ g. g.optional ≡ false) fs
  split_slots [] all = (tt, tt)
  split_slots (g ∷ fs) all = let rest = split_slots fs all.1 in ((all.0.0, rest.0), (all.0.1, rest.1))

  form_ready : (form : StructForm) (fs : List Field) (os : Optionals) (ds : List (Option Data)) → MadeStruct rows form fs → represented_fields (whole h) rows fs os ≡ Some ds → tuple_hole form os ≡ false → FormReady form fs ds
  form_ready S.Map fs os ds made e k = tt
  form_ready S.Tuple fs os ds made e k = gaps fs os ds e k
  form_ready S.ListPairs fs os ds made e k = tt
  form_ready (S.StringPairs inner entry) fs os ds made e k = fields_texts fs os ds made e
  form_ready (S.StringJoin delim) fs os ds made e k = let x = split_slots fs made in (fields_texts fs os ds x.0 e, x.1)

  pairs_ready : (form : MapForm) (value : Slot) (ps : Pairs) (ds : List (List ℕ × Data)) → MadeMap rows form value → represented_pairs (whole h) rows value ps ≡ Some ds → PairsReady form ds
  pairs_ready MF.Map value ps ds made e = tt
  pairs_ready MF.ListPairs value ps ds made e = tt
  pairs_ready (MF.StringPairs inner entry) value ps ds made e = pairs_texts value ps ds made e
  pairs_ready (MF.Hamt p) value ps ds made e = tt

  -- ---- texts that can be joined

  map_joins : (form : MapForm) (value : Slot) (ps : Pairs) (ds : List (List ℕ × Data)) → PairsReady form ds → represented_pairs (whole h) rows value ps ≡ Some ds
      → map_breaks form (represented_pairs alone rows value ps) ≡ false → map_breaks form (Some ds) ≡ false
  map_joins MF.Map value ps ds ready e b = refl
  map_joins MF.ListPairs value ps ds ready e b = refl
  map_joins (MF.StringPairs inner entry) value ps ds ready e b = ap (map_breaks (MF.StringPairs inner entry)) (sym (pairs_alone h rows value ps ds e (pairs_flat ds ready))) ∙ b
  map_joins (MF.Hamt p) value ps ds ready e b = refl

  struct_joins : (form : StructForm) (fs : List Field) (os : Optionals) (ds : List (Option Data)) → FormReady form fs ds → represented_fields (whole h) rows fs os ≡ Some ds
      → struct_breaks form fs (represented_fields alone rows fs os) ≡ false → struct_breaks form fs (Some ds) ≡ false
  struct_joins S.Map fs os ds ready e b = refl
  struct_joins S.Tuple fs os ds ready e b = refl
  struct_joins S.ListPairs fs os ds ready e b = refl
  struct_joins (S.StringPairs inner entry) fs os ds ready e b = ap (struct_breaks (S.StringPairs inner entry) fs) (sym (fields_alone h rows fs os ds e (options_flat ds ready))) ∙ b
  struct_joins (S.StringJoin delim) fs os ds ready e b = ap (struct_breaks (S.StringJoin delim) fs) (sym (fields_alone h rows fs os ds e (options_flat ds ready.0))) ∙ b

  -- ---- layers

  module _ (fits : Slot → Value → Type 0) where
    list_made : (d : TypeDef) (xs : List Value) (ds : List Data) → LayerFits fits rows d (L.list xs) → There (composed (whole h) d (L.list ds))
    list_made (D.List elem place) xs ds f = record { item = T.list (T.items_of ds); is = refl }
    list_made (D.Map key key_at value place form) xs ds f = absurd (no_type_map fits rows (D.Map key key_at value place form) (L.list xs) refl refl f key key_at value place form refl)
    list_made d xs ds f = absurd f

    map_made : (d : TypeDef) (ps : Pairs) (ds : List (List ℕ × Data)) → MadeType rows d → LayerFits fits rows d (L.map (pairs_list ps)) → pairs_data (whole h) rows (element_of (Some d)) ps ≡ Some ds
        → breaks rows (Some d) (V.map ps) ≡ false → is_exhausted h rows (Some d) (V.map ps) ≡ false → There (composed (whole h) d (L.map ds))
    map_made (D.Map key key_at value place form) ps ds made f e b k =
        let ready = pairs_ready form value ps ds made e in
        map_there h form ds ready (map_joins form value ps ds ready e b) (ap (map_exhausts h form) (sym e) ∙ k)
    map_made d ps ds made f e b k = absurd f

    struct_made : (d : TypeDef) (os : Optionals) (ds : List (Option Data)) → MadeType rows d → LayerFits fits rows d (L.struct (optionals_list os)) → Suits (fields_of (Some d)) ds
        → represented_fields (whole h) rows (fields_of (Some d)) os ≡ Some ds
        → is_hole (Some d) (V.struct os) ≡ false → breaks rows (Some d) (V.struct os) ≡ false → There (composed (whole h) d (L.struct ds))
    struct_made (D.Struct s) os ds made f fit e k b =
        let ready = form_ready s.form s.fields os ds made e k in
        struct_there s.form s.fields ds fit ready (struct_joins s.form s.fields os ds ready e b)
    struct_made (D.Map key key_at value place form) os ds made f fit e k b = absurd (no_type_map fits rows (D.Map key key_at value place form) (L.struct (optionals_list os)) refl refl f key key_at value place form refl)
    struct_made d os ds made f fit e k b = absurd f

    member_of_union : (ms : List Member) (n : ℕ) (v : Value) → IsSomeAnd (slice_get ms n) (λ m. fits (plainly m.ty) v) → There (slice_get ms n)
    member_of_union ms n v f = by (slice_get ms n) f where
      by : (o : Option Member) → IsSomeAnd o (λ m. fits (plainly m.ty) v) → There o
      by None f = absurd f
      by (Some m) f = record { item = m; is = refl }

    union_made : (d : TypeDef) (n : ℕ) (v : Value) (t : Data) → MadeType rows d → LayerFits fits rows d (L.union n v) → member_data (whole h) rows (member_of (Some d) n) v ≡ Some t → There (composed (whole h) d (L.union n t))
    union_made (D.Union u) n v t made f e =
        let m = member_of_union u.members n v f in
        let own : MadeMember rows u.form m.item = all_at (MadeMember rows u.form) u.members n m.item made m.is in
        let rep : represented (whole h) rows (plainly m.item.ty) v ≡ Some t = ap (λ o. member_data (whole h) rows (option_map slot_of o) v) (sym m.is) ∙ e in
        there_then (member_form u.form t) (slice_get u.members n) m (member_there h rows u.form m.item v t own rep)
    union_made (D.Map key key_at value place form) n v t made f e = absurd (no_type_map fits rows (D.Map key key_at value place form) (L.union n v) refl refl f key key_at value place form refl)
    union_made d n v t made f e = absurd f

    enum_made : (d : TypeDef) (n : ℕ) → MadeType rows d → LayerFits fits rows d (L.enum n) → There (composed (whole h) d (L.enum n))
    enum_made (D.Enum en) n made f = by (slice_get en.members n) refl f where
      by : (o : Option EnumMember) → slice_get en.members n ≡ o → n < length en.members → There (option_and_then (enum_form en.form) o)
      by None is lt = absurd (not_past en.members n lt is)
        where
          not_past : (ms : List EnumMember) (n : ℕ) → n < length ms → slice_get ms n ≡ None → ⊥
          not_past [] n lt is = absurd (omega (arith, lt))
          not_past (m ∷ ms) zero lt is = none-some m (sym is)
          not_past (m ∷ ms) (suc n) lt is = not_past ms n (omega (arith, lt)) is
      by (Some m) is lt = enum_there en.form m (all_at (MadeEnum en.form) en.members n m made is)
    enum_made (D.Map key key_at value place form) n made f = absurd (no_type_map fits rows (D.Map key key_at value place form) (L.enum n) refl refl f key key_at value place form refl)
    enum_made d n made f = absurd f

    bool_made : (d : TypeDef) (x : Bool) → LayerFits fits rows d (L.boolean x) → There (composed (whole h) d (L.boolean x))
    bool_made D.Bool x f = record { item = T.boolean x; is = refl }
    bool_made (D.Map key key_at value place form) x f = absurd (no_type_map fits rows (D.Map key key_at value place form) (L.boolean x) refl refl f key key_at value place form refl)
    bool_made d x f = absurd f

    int_made : (d : TypeDef) (x : ℤ) → LayerFits fits rows d (L.integer x) → There (composed (whole h) d (L.integer x))
    int_made D.Int x f = record { item = T.integer x; is = refl }
    int_made (D.Map key key_at value place form) x f = absurd (no_type_map fits rows (D.Map key key_at value place form) (L.integer x) refl refl f key key_at value place form refl)
    int_made d x f = absurd f

    text_made : (d : TypeDef) (x : List ℕ) → LayerFits fits rows d (L.text x) → There (composed (whole h) d (L.text x))
    text_made D.Text x f = record { item = T.text x; is = refl }
    text_made (D.Map key key_at value place form) x f = absurd (no_type_map fits rows (D.Map key key_at value place form) (L.text x) refl refl f key key_at value place form refl)
    text_made d x f = absurd f

    bytes_made : (d : TypeDef) (x : List ℕ) → LayerFits fits rows d (L.bytes x) → There (composed (whole h) d (L.bytes x))
    bytes_made D.Bytes x f = record { item = T.bytes x; is = refl }
    bytes_made (D.Map key key_at value place form) x f = absurd (no_type_map fits rows (D.Map key key_at value place form) (L.bytes x) refl refl f key key_at value place form refl)
    bytes_made d x f = absurd f

    link_made : (d : TypeDef) (x : List ℕ) → LayerFits fits rows d (L.link x) → There (composed (whole h) d (L.link x))
    link_made (D.Link target) x f = record { item = T.link x; is = refl }
    link_made (D.Map key key_at value place form) x f = absurd (no_type_map fits rows (D.Map key key_at value place form) (L.link x) refl refl f key key_at value place form refl)
    link_made d x f = absurd f

    unit_made : (d : TypeDef) → LayerFits fits rows d L.unit → There (composed (whole h) d L.unit)
    unit_made (D.Unit form) f = record { item = unit_data form; is = refl }
    unit_made (D.Map key key_at value place form) f = absurd (no_type_map fits rows (D.Map key key_at value place form) L.unit refl refl f key key_at value place form refl)
    unit_made d f = absurd f

    some_any : (x : Data) → IsNotNull x → There (any_data x)
    some_any T.null f = absurd f
    some_any (T.boolean b) f = record { item = T.boolean b; is = refl }
    some_any (T.integer n) f = record { item = T.integer n; is = refl }
    some_any (T.text s) f = record { item = T.text s; is = refl }
    some_any (T.bytes s) f = record { item = T.bytes s; is = refl }
    some_any (T.list ds) f = record { item = T.list ds; is = refl }
    some_any (T.map ms) f = record { item = T.map ms; is = refl }
    some_any (T.link s) f = record { item = T.link s; is = refl }

    any_made : (d : TypeDef) (x : Data) → LayerFits fits rows d (L.any x) → There (composed (whole h) d (L.any x))
    any_made D.Any x f = some_any x f.1
    any_made (D.Map key key_at value place form) x f = absurd (no_type_map fits rows (D.Map key key_at value place form) (L.any x) refl refl f key key_at value place form refl)
    any_made d x f = absurd f

  -- a value by its layer
  by_data : (s : Slot) (d : TypeDef) (v : Value) (l : Layer Data) → form_of rows s ≡ Some d → layer_data (whole h) rows (Some d) v ≡ Some l → There (composed (whole h) d l) → HasTree s v
  by_data s d v l is e x = record { item = x.item; is = by_layer (whole h) rows s d v l is e ∙ x.is }

  module _ (made : IsMade rows) (room : ℕ) (below : ℕ → Slot → Value → Type 0) (later : (o : ℕ) (s : Slot) (v : Value) → below o s v → Sound s v → HasTree s v) where
    layer_there : (s : Slot) (d : TypeDef) (v : Value) → form_of rows s ≡ Some d → FormFits rows room below v d → SoundAt d v → HasTree s v
    layer_there s d V.null is f x = absurd f.1
    layer_there s d (V.list vs) is f x =
        let o = levels_of d (V.list vs) - 1 in
        let u = element_of (Some d) in
        let z = list_fits (below o) rows d (values_list vs) f.1 in
        let a = or_parts (is_hole (Some d) (V.list vs)) (values_test is_hole rows u vs) x.hole in
        let b = or_parts (breaks rows (Some d) (V.list vs)) (values_test (breaks rows) rows u vs) x.delimiter in
        let c = or_parts (is_exhausted h rows (Some d) (V.list vs)) (values_test (is_exhausted h rows) rows u vs) x.full in
        let own : SoundValues z.slot vs = record {
          hole = false_given (λ k. some_value is_hole rows k vs) u z.slot z.is a.1;
          delimiter = false_given (λ k. some_value (breaks rows) rows k vs) u z.slot z.is b.1;
          full = false_given (λ k. some_value (is_exhausted h rows) rows k vs) u z.slot z.is c.1;
          entire = x.entire;
        } in
        let y = values_there (below o) (later o) z.slot vs z.each own in
        by_data s d (V.list vs) (L.list y.item) is (ap (option_map L.list) (ap (λ k. values_data (whole h) rows k vs) z.is ∙ y.is)) (list_made (below o) d (values_list vs) y.item f.1)
    layer_there s d (V.map ps) is f x =
        let o = levels_of d (V.map ps) - 1 in
        let u = element_of (Some d) in
        let z = map_fits (below o) rows d (pairs_list ps) f.1 in
        let a = or_parts (is_hole (Some d) (V.map ps)) (pairs_test is_hole rows u ps) x.hole in
        let b = or_parts (breaks rows (Some d) (V.map ps)) (pairs_test (breaks rows) rows u ps) x.delimiter in
        let c = or_parts (is_exhausted h rows (Some d) (V.map ps)) (pairs_test (is_exhausted h rows) rows u ps) x.full in
        let own : SoundPairs z.slot ps = record {
          hole = false_given (λ k. some_pair is_hole rows k ps) u z.slot z.is a.1;
          delimiter = false_given (λ k. some_pair (breaks rows) rows k ps) u z.slot z.is b.1;
          full = false_given (λ k. some_pair (is_exhausted h rows) rows k ps) u z.slot z.is c.1;
          entire = x.entire;
        } in
        let y = pairs_there (below o) (later o) z.slot ps z.each own in
        let there : pairs_data (whole h) rows u ps ≡ Some y.item = ap (λ k. pairs_data (whole h) rows k ps) z.is ∙ y.is in
        by_data s d (V.map ps) (L.map y.item) is (ap (option_map L.map) there) (map_made (below o) d ps y.item (made (base rows s.ty.0) d is) f.1 there b.0 c.0)
    layer_there s d (V.struct os) is f x =
        let o = levels_of d (V.struct os) - 1 in
        let fs = fields_of (Some d) in
        let a = or_parts (is_hole (Some d) (V.struct os)) (some_field is_hole rows fs os) x.hole in
        let b = or_parts (breaks rows (Some d) (V.struct os)) (some_field (breaks rows) rows fs os) x.delimiter in
        let c = or_parts (is_exhausted h rows (Some d) (V.struct os)) (some_field (is_exhausted h rows) rows fs os) x.full in
        let fit = struct_fits (below o) rows d (optionals_list os) f.1 in
        let y = fields_there (below o) (later o) fs os fit (record { hole = a.1; delimiter = b.1; full = c.1; entire = x.entire }) in
        by_data s d (V.struct os) (L.struct y.item) is (ap (option_map L.struct) y.is)
        (struct_made (below o) d os y.item (made (base rows s.ty.0) d is) f.1 (suits (below o) (later o) fs os y.item fit y.is) y.is a.0 b.0)
    layer_there s d (V.union n v) is f x =
        let o = levels_of d (V.union n v) - 1 in
        let u = member_of (Some d) n in
        let z = union_fits (below o) rows d n v f.1 in
        let k = slot_of z.member in
        let has : u ≡ Some k = ap (option_map slot_of) z.is in
        let a = or_parts (is_hole (Some d) (V.union n v)) (member_test is_hole rows u v) x.hole in
        let b = or_parts (breaks rows (Some d) (V.union n v)) (member_test (breaks rows) rows u v) x.delimiter in
        let c = or_parts (is_exhausted h rows (Some d) (V.union n v)) (member_test (is_exhausted h rows) rows u v) x.full in
        let own : Sound k v = record {
          hole = false_given (λ j. some_layer is_hole rows j v) u k has a.1;
          delimiter = false_given (λ j. some_layer (breaks rows) rows j v) u k has b.1;
          full = false_given (λ j. some_layer (is_exhausted h rows) rows j v) u k has c.1;
          entire = x.entire;
        } in
        let y = later o k v z.holds own in
        let there : member_data (whole h) rows u v ≡ Some y.item = ap (λ j. member_data (whole h) rows j v) has ∙ y.is in
        by_data s d (V.union n v) (L.union n y.item) is (ap (option_map (L.union n)) there) (union_made (below o) d n v y.item (made (base rows s.ty.0) d is) f.1 there)
    layer_there s d (V.hamt t) is f x = let k : false ≡ true = x.entire in absurd cc
    layer_there s d (V.boolean t) is f x = by_data s d (V.boolean t) (L.boolean t) is refl (bool_made (below (levels_of d (V.boolean t) - 1)) d t f.1)
    layer_there s d (V.integer t) is f x = by_data s d (V.integer t) (L.integer t) is refl (int_made (below (levels_of d (V.integer t) - 1)) d t f.1)
    layer_there s d (V.text t) is f x = by_data s d (V.text t) (L.text t) is refl (text_made (below (levels_of d (V.text t) - 1)) d t f.1)
    layer_there s d (V.bytes t) is f x = by_data s d (V.bytes t) (L.bytes t) is refl (bytes_made (below (levels_of d (V.bytes t) - 1)) d t f.1)
    layer_there s d (V.link t) is f x = by_data s d (V.link t) (L.link t) is refl (link_made (below (levels_of d (V.link t) - 1)) d t f.1)
    layer_there s d (V.any t) is f x = by_data s d (V.any t) (L.any t) is refl (any_made (below (levels_of d (V.any t) - 1)) d t f.1)
    layer_there s d (V.enum t) is f x = by_data s d (V.enum t) (L.enum t) is refl (enum_made (below (levels_of d (V.enum t) - 1)) d t (made (base rows s.ty.0) d is) f.1)
    layer_there s d V.unit is f x = by_data s d V.unit L.unit is refl (unit_made (below (levels_of d V.unit - 1)) d f.1)

    other_there : (s : Slot) (v : Value) → IsSomeAnd (form_of rows s) (FormFits rows room below v) → Sound s v → HasTree s v
    other_there s v f x =
        let y = formed (FormFits rows room below v) (form_of rows s) f in
        layer_there s y.form v y.is y.holds (sound_at s y.form v y.is x)

    value_there : (s : Slot) (v : Value) → ValueFits rows room below s v → Sound s v → HasTree s v
    value_there s V.null f x = record { item = T.null; is = ap (λ b. cond b (Some T.null) None) f }
    value_there s v f x = other_there s v f x

  past_there : IsMade rows → (room over : ℕ) (s : Slot) (v : Value) → FitsPast rows room over s v → Sound s v → HasTree s v
  unfolding FitsPast
  past_there made zero zero s v f x = value_there made zero (λ over u w. ⊥) (λ o u w b y. absurd b) s v f x
  past_there made zero (suc over) s v f x = absurd f
  past_there made (suc room) zero s v f x = value_there made (suc room) (FitsPast rows room) (λ o u w b y. past_there made room o u w b y) s v f x
  past_there made (suc room) (suc over) s v f x = past_there made room over s v f x

pub representation : (h : List ℕ → List ℕ) (rows : List Row) → IsMade rows → (room : ℕ) (s : Slot) (v : Value) → Fits rows room s v → is_whole v ≡ true
    → has_hole rows s v ≡ false → breaks_delimiter rows s v ≡ false → exhausts h rows s v ≡ false → There (represented (whole h) rows s v)
representation h rows made room s v f entire a b c = past_there h rows made room zero s v f (record { hole = a; delimiter = b; full = c; entire = entire })

pub typed_tree : (h : List ℕ → List ℕ) (rows : List Row) → IsMade rows → (s : Slot) (v : Value) → Typed rows s v
    → has_hole rows s v ≡ false → breaks_delimiter rows s v ≡ false → exhausts h rows s v ≡ false → (d : Data) × (represented (whole h) rows s v ≡ Some d)
typed_tree h rows made s v t a b c = let x = representation h rows made t.0 s v t.1 t.2 a b c in (x.item, x.is)

pub can_be_held : StorableWhere
can_be_held = λ f h rows schema n v t a b fits c small.
    let x = typed_tree h rows (legible rows schema.accepted).made (plainly n) v t a b c in
    (x.0, record { fits = fits; tree = x.1; sized = small x.0 x.1 })
