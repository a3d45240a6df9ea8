-- What data split into, by their form: lists, maps, structs and unions.
use Rattle.std.proofs.Common.{◌≡◌, ℕ, ◌+◌, ◌≤◌, List, [], ◌∷◌, ◌++◌, length, false, Option, Some, None, option_map, refl, sym, ◌∙◌, ap, subst, arith}
use Rattle.std.specs.Prelude.{IsSomeAnd, option_and_then, slice_get}
use Rattle.std.specs.Option.{option_map_or}
use Rattle.std.specs.List.{AllByRecursion}
use Rattle.std.proofs.lemmas.Option.{same_Some}
use Rattle.ild_schema.proofs.Parts.{values_list-values_of, pairs_list-pairs_of, optionals_list-optionals_of}
use Rattle.ild_data.specs.Data.{Data}
use Rattle.ild_schema.proofs.Legibly.{legible}
use Rattle.ild_schema.specs.Clear.{IsClear}
use Rattle.ild_schema.specs.Copies.{base}
use Rattle.ild_schema.specs.declared.def.Field.{Field}
use Rattle.ild_schema.specs.declared.def.MapForm.{MapForm}
use Rattle.ild_schema.specs.declared.def.MapForm.TheVariants as MF
use Rattle.ild_schema.specs.declared.def.Member.{Member}
use Rattle.ild_schema.specs.declared.def.StructDef.{StructDef}
use Rattle.ild_schema.specs.declared.def.StructForm.{StructForm}
use Rattle.ild_schema.specs.declared.def.StructForm.TheVariants as S
use Rattle.ild_schema.specs.declared.def.TypeDef.{TypeDef}
use Rattle.ild_schema.specs.declared.def.TypeDef.TheVariants as D
use Rattle.ild_schema.specs.declared.def.UnionDef.{UnionDef}
use Rattle.ild_schema.specs.declared.number.Slot.{Slot}
use Rattle.ild_schema.specs.declared.number.TypeNo.{TypeNo}
use Rattle.ild_schema.specs.declared.row.Row.{Row}
use Rattle.ild_schema.specs.Slots.{form_of, plainly}
use Rattle.ild_schema.specs.Value as V
use Rattle.ild_schema.specs.Value.{Value, Values, Pairs, Optionals, values_of, values_list, pairs_of, pairs_list, optionals_of, optionals_list}
use Rattle.ild_typed.specs.Blocks.{hamt_nodes, nodes, nodes_of_values, nodes_of_pairs, nodes_of_fields}
use Rattle.ild_typed.specs.Composed.{Hamts, composed}
use Rattle.ild_typed.specs.Fits.{Fits}
use Rattle.ild_typed.specs.Hamt.{alone, whole}
use Rattle.ild_typed.specs.Layer as L
use Rattle.ild_typed.specs.Layer.{Layer}
use Rattle.ild_typed.specs.Layers.{AreKeys, EntriesFit, FieldsFit, MapFits, RepresentsSome}
use Rattle.ild_typed.specs.Levels.{map_levels, struct_levels}
use Rattle.ild_typed.specs.Represented.{layered, represented, represented_values, represented_pairs, represented_fields}
use Rattle.ild_typed.specs.Slots.{element_of, fields_of, member_of, slot_of}
use Rattle.ild_typed.proofs.Basics.{map_from}
use Rattle.ild_typed.proofs.Entries.{both_from}
use Rattle.ild_typed.proofs.OneValue.{list_in, list_value, map_in, map_value, struct_in, struct_value, union_in, union_value}
use Rattle.ild_typed.proofs.PartData.{values_data, pairs_data, member_data}
use Rattle.ild_typed.proofs.ViewMaps.{SameKeys, keys_like, map_fitted}
use Rattle.ild_typed.proofs.Views.{Fields, data_of_fields, elements_of_values}
use Rattle.ild_open_held.specs.Held.{IsHeld, IsHeldBlock}
use Rattle.ild_open_held.specs.Laws.{IsFronted, is_hamt, ListsSplit, MapsSplit, StructsSplit, UnionsSplit}
use Rattle.ild_open_held.specs.Splits.{PartsHaveValues, HasFront, IsMadeOf, Splits, element_parts, entry_parts, entry_values, field_parts, field_values, union_of}
use Rattle.ild_open_held.proofs.Fitting.{fits_down, fits_up, layer_back}
use Rattle.ild_open_held.proofs.Parting.{EntryFits, KeyFits, Shape, fields_back, fields_up, pairs_back, pairs_up, values_back, values_up}

values_of-values_list : (vs : Values) → values_of (values_list vs) ≡ vs
values_of-values_list V.no_values = refl
values_of-values_list (V.value v vs) = ap (V.value v) (values_of-values_list vs)

element_fronts : (rows : List Row) (less : ℕ) (elem : Slot) (ds : List Data) → AllByRecursion (RepresentsSome (Fits rows less) rows elem) ds → AllByRecursion (HasFront rows less) (element_parts elem ds)
element_fronts rows less elem [] all = tt
element_fronts rows less elem (d ∷ ds) all = (all.0, element_fronts rows less elem ds all.1)

-- ---- entries

some_map_levels : (form : MapForm) → 1 ≤ map_levels form
some_map_levels MF.Map = omega arith
some_map_levels MF.ListPairs = omega arith
some_map_levels (MF.StringPairs i e) = omega arith
some_map_levels (MF.Hamt p) = omega arith

like_map : (h : List ℕ → List ℕ) (key : TypeNo) (key_at : ℕ) (value : Slot) (at : ℕ) (form : MapForm) → is_hamt form ≡ false → (m : Layer Data)
    → composed (whole h) (D.Map key key_at value at form) m ≡ composed alone (D.Map key key_at value at form) m
like_map h key key_at value at MF.Map plain m = refl
like_map h key key_at value at MF.ListPairs plain m = refl
like_map h key key_at value at (MF.StringPairs i e) plain m = refl
like_map h key key_at value at (MF.Hamt p) plain m = absurd cc

no_nodes : (h : List ℕ → List ℕ) (key : TypeNo) (key_at : ℕ) (value : Slot) (at : ℕ) (form : MapForm) → is_hamt form ≡ false → (o : Option (List (List ℕ × Data))) → hamt_nodes h (Some (D.Map key key_at value at form)) o ≡ []
no_nodes h key key_at value at MF.Map plain o = refl
no_nodes h key key_at value at MF.ListPairs plain o = refl
no_nodes h key key_at value at (MF.StringPairs i e) plain o = refl
no_nodes h key key_at value at (MF.Hamt p) plain o = absurd cc

map_fit : (rows : List Row) (fits : Slot → Value → Type 0) (key : TypeNo) (value : Slot) (form : MapForm) (ps : List (List ℕ × Value)) → is_hamt form ≡ false → EntriesFit fits rows key value form ps → MapFits fits rows key value form (L.map ps)
map_fit rows fits key value MF.Map ps plain f = f
map_fit rows fits key value MF.ListPairs ps plain f = f
map_fit rows fits key value (MF.StringPairs i e) ps plain f = f
map_fit rows fits key value (MF.Hamt p) ps plain f = absurd cc

-- the entries of a front
pub record EntriesOf (rows : List Row) (less : ℕ) (key : TypeNo) (value : Slot) (ps : List (List ℕ × Value)) (es : List (List ℕ × Data)) : Type 0 where
  pub keys : AllByRecursion (KeyFits (λ b. Some b) (λ k. k) rows less key) es
  pub same : SameKeys ps es
  pub fronts : AllByRecursion (HasFront rows less) (entry_parts value es)

module _ (rows : List Row) (less : ℕ) (key : TypeNo) (value : Slot) where
  entries_of : (ps : Pairs) (es : List (List ℕ × Data)) → AllByRecursion (EntryFits (λ b. Some b) (λ k. k) rows less key value) (pairs_list ps) → represented_pairs alone rows value ps ≡ Some es → EntriesOf rows less key value (pairs_list ps) es
  entries_of V.no_pairs es fit e = subst (λ xs. EntriesOf rows less key value [] xs) (same_Some [] es e) (record { keys = tt; same = tt; fronts = tt })
  entries_of (V.pair k v ps) es fit e =
      let b = both_from (option_map {U = List ℕ × Data} (λ c. (k, c)) (represented alone rows value v)) (represented_pairs alone rows value ps) es e in
      let x = map_from {B = List ℕ × Data} (λ c. (k, c)) (represented alone rows value v) b.item b.first in
      let rest = entries_of ps b.items fit.1 b.rest in
      subst (λ xs. EntriesOf rows less key value (pairs_list (V.pair k v ps)) xs) (ap (λ p. p ∷ b.items) (same_Some (k, x.item) b.item x.made) ∙ b.all)
      (record { keys = ((fit.0.0, fit.0.1), rest.keys); same = (refl, rest.same); fronts = ((v, fit.0.2, x.there), rest.fronts) })

  values_fit : (ps : List (List ℕ × Value)) → AllByRecursion (EntryFits (λ b. Some b) (λ k. k) rows less key value) ps → AllByRecursion (λ p. Fits rows less value p.1) ps
  values_fit [] all = tt
  values_fit (p ∷ ps) all = (all.0.2, values_fit ps all.1)

-- ---- fields

some_struct_levels : (form : StructForm) → 1 ≤ struct_levels form
some_struct_levels S.Map = omega arith
some_struct_levels S.Tuple = omega arith
some_struct_levels S.ListPairs = omega arith
some_struct_levels (S.StringPairs i e) = omega arith
some_struct_levels (S.StringJoin d) = omega arith

module _ (rows : List Row) (less : ℕ) where
  field_shape : (fs : List Field) (os : List (Option Data)) → Fields rows (Fits rows less) fs os → Shape (λ b. Some b) (λ k. k) rows less fs os
  field_shape [] [] all = tt
  field_shape [] (o ∷ os) all = absurd all
  field_shape (f ∷ fs) [] all = absurd all
  field_shape (f ∷ fs) (Some d ∷ os) all = field_shape fs os all.1
  field_shape (f ∷ fs) (None ∷ os) all = (all.0, field_shape fs os all.1)

  field_fronts : (fs : List Field) (os : List (Option Data)) → Fields rows (Fits rows less) fs os → AllByRecursion (HasFront rows less) (field_parts fs os)
  field_fronts [] [] all = tt
  field_fronts [] (o ∷ os) all = absurd all
  field_fronts (f ∷ fs) [] all = absurd all
  field_fronts (f ∷ fs) (Some d ∷ os) all = (all.0, field_fronts fs os all.1)
  field_fronts (f ∷ fs) (None ∷ os) all = field_fronts fs os all.1

module _ (block : List ℕ → Option (List ℕ)) (h : List ℕ → List ℕ) (rows : List Row) (clear : IsClear rows) (room less : ℕ) (s : Slot) (t : Data) (front : IsFronted rows room s t) where
  abbrev Own : List ℕ → Type 0
  Own = IsHeldBlock block

  -- ---- lists

  module _ (elem : Slot) (at : ℕ) (ds : List Data) (is : form_of rows s ≡ Some (D.List elem at)) (made : composed alone (D.List elem at) (L.list ds) ≡ Some t) (left : room ≡ less + 1) where
    record Listed (hamts : Hamts) (v : Value) : Type 0 where
      items : Values
      same : v ≡ V.list items
      there : represented_values hamts rows elem items ≡ Some ds
      fit : AllByRecursion (Fits rows less elem) (values_list items)

    listed : (hamts : Hamts) (v : Value) → Fits rows room s v → represented hamts rows s v ≡ Some t → Listed hamts v
    listed hamts v fits e =
        let d : TypeDef = D.List elem at in
        let x = list_value hamts rows (Some d) v ds (ap list_in (layer_back hamts rows s t d (L.list ds) v (clear.types (base rows s.ty.0) d is) (λ m. refl) is front.some made e)) in
        record {
          items = x.items;
          same = x.is;
          there = x.there;
          fit = fits_down rows room less s (V.list x.items) d (L.list (values_list x.items)) refl is (omega arith) left (subst (Fits rows room s) x.is fits);
        }

    list_nodes : (vs : Values) → nodes h rows s (V.list vs) ≡ nodes_of_values h rows elem vs
    list_nodes vs = ap (λ o. option_map_or (λ u. nodes_of_values h rows u vs) (element_of o) []) is

    list_up : (vs : List Value) → PartsHaveValues block h rows less (element_parts elem ds) vs → IsHeld block h rows room s t (V.list (values_of vs))
    list_up vs all =
        let d : TypeDef = D.List elem at in
        let x = values_up block h rows less elem ds vs all in
        record {
          fits = fits_up rows room less s (V.list (values_of vs)) d (L.list (values_list (values_of vs))) refl is (omega arith) left (subst (AllByRecursion (Fits rows less elem)) (sym (values_list-values_of vs)) x.fit);
          tree = ap (λ o. layered (whole h) o (option_map L.list (values_data (whole h) rows (element_of o) (values_of vs)))) is ∙ ap (λ o. option_and_then (composed (whole h) d) (option_map L.list o)) x.there ∙ made;
          held = subst (AllByRecursion Own) (sym (list_nodes (values_of vs))) x.held;
        }

    list_back : (v : Value) → IsHeld block h rows room s t v → IsMadeOf block h rows less s (element_parts elem ds) (λ vs. V.list (values_of vs)) v
    list_back v has =
        let x = listed (whole h) v has.fits has.tree in
        let all = subst (AllByRecursion Own) (list_nodes x.items) (subst (λ w. AllByRecursion Own (nodes h rows s w)) x.same has.held) in
        let b = values_back block h rows less elem x.items ds x.fit x.there all in
        record {
          values = values_list x.items;
          held = b.held;
          made = x.same ∙ ap V.list (sym (values_of-values_list x.items));
          many = ap (λ w. length (nodes h rows s w)) x.same ∙ ap length (list_nodes x.items) ∙ b.many;
        }

    list_fronts : AllByRecursion (HasFront rows less) (element_parts elem ds)
    list_fronts =
        let x = listed alone front.shows.0 front.shows.1 front.shows.2 in
        element_fronts rows less elem ds (elements_of_values rows (Fits rows less) elem x.items ds x.fit x.there)

    list_splits : Splits block h rows room s t less (element_parts elem ds) (λ vs. V.list (values_of vs))
    list_splits = record { fronts = list_fronts; up = list_up; back = list_back }

  -- ---- maps

  module _ (key : TypeNo) (key_at : ℕ) (value : Slot) (at : ℕ) (form : MapForm) (es : List (List ℕ × Data)) (plain : is_hamt form ≡ false) (is : form_of rows s ≡ Some (D.Map key key_at value at form))
      (made : composed alone (D.Map key key_at value at form) (L.map es) ≡ Some t) (left : room ≡ less + map_levels form) where
    abbrev Own_type : TypeDef
    Own_type = D.Map key key_at value at form

    record Mapped (hamts : Hamts) (v : Value) : Type 0 where
      items : Pairs
      same : v ≡ V.map items
      there : represented_pairs hamts rows value items ≡ Some es
      fit : EntriesFit (Fits rows less) rows key value form (pairs_list items)

    mapped : (hamts : Hamts) → ((m : Layer Data) → composed hamts Own_type m ≡ composed alone Own_type m) → (v : Value) → Fits rows room s v → represented hamts rows s v ≡ Some t → Mapped hamts v
    mapped hamts like v fits e =
        let x = map_value hamts rows (Some Own_type) v es (ap map_in (layer_back hamts rows s t Own_type (L.map es) v (clear.types (base rows s.ty.0) Own_type is) like is front.some made e)) in
        record {
          items = x.items;
          same = x.is;
          there = x.there;
          fit = map_fitted rows (Fits rows less) key value form (pairs_list x.items)
              (fits_down rows room less s (V.map x.items) Own_type (L.map (pairs_list x.items)) refl is (some_map_levels form) left (subst (Fits rows room s) x.is fits));
        }

    map_nodes : (ps : Pairs) → nodes h rows s (V.map ps) ≡ nodes_of_pairs h rows value ps
    map_nodes ps =
        ap (λ o. option_map_or (λ u. hamt_nodes h o (represented_pairs (whole h) rows u ps) ++ nodes_of_pairs h rows u ps) (element_of o) []) is
        ∙ ap (λ xs. xs ++ nodes_of_pairs h rows value ps) (no_nodes h key key_at value at form plain (represented_pairs (whole h) rows value ps))

    -- the keys of the front
    map_front : (keys : AreKeys form es) × EntriesOf rows less key value (pairs_list (mapped alone (λ m. refl) front.shows.0 front.shows.1 front.shows.2).items) es
    map_front =
        let x = mapped alone (λ m. refl) front.shows.0 front.shows.1 front.shows.2 in
        let y = entries_of rows less key value x.items es x.fit.1 x.there in
        (keys_like form (pairs_list x.items) es y.same x.fit.0, y)

    map_up : (vs : List Value) → PartsHaveValues block h rows less (entry_parts value es) vs → IsHeld block h rows room s t (V.map (pairs_of (entry_values es vs)))
    map_up vs all =
        let y = map_front in
        let x = pairs_up block h rows less key value es vs y.1.keys all in
        let ps = entry_values es vs in
        let fit : EntriesFit (Fits rows less) rows key value form ps = (keys_like form es ps x.same y.0, x.fit) in
        record {
          fits = fits_up rows room less s (V.map (pairs_of ps)) Own_type (L.map (pairs_list (pairs_of ps))) refl is (some_map_levels form) left
              (map_fit rows (Fits rows less) key value form (pairs_list (pairs_of ps)) plain (subst (EntriesFit (Fits rows less) rows key value form) (sym (pairs_list-pairs_of ps)) fit));
          tree = ap (λ o. layered (whole h) o (option_map L.map (pairs_data (whole h) rows (element_of o) (pairs_of ps)))) is ∙ ap (λ o. option_and_then (composed (whole h) Own_type) (option_map L.map o)) x.there
              ∙ like_map h key key_at value at form plain (L.map es) ∙ made;
          held = subst (AllByRecursion Own) (sym (map_nodes (pairs_of ps))) x.held;
        }

    map_back : (v : Value) → IsHeld block h rows room s t v → IsMadeOf block h rows less s (entry_parts value es) (λ vs. V.map (pairs_of (entry_values es vs))) v
    map_back v has =
        let x = mapped (whole h) (like_map h key key_at value at form plain) v has.fits has.tree in
        let all = subst (AllByRecursion Own) (map_nodes x.items) (subst (λ w. AllByRecursion Own (nodes h rows s w)) x.same has.held) in
        let b = pairs_back block h rows less value x.items es (values_fit rows less key value (pairs_list x.items) x.fit.1) x.there all in
        record {
          values = b.values;
          held = b.held;
          made = x.same ∙ ap V.map b.made;
          many = ap (λ w. length (nodes h rows s w)) x.same ∙ ap length (map_nodes x.items) ∙ b.many;
        }

    map_splits : Splits block h rows room s t less (entry_parts value es) (λ vs. V.map (pairs_of (entry_values es vs)))
    map_splits = record { fronts = map_front.1.fronts; up = map_up; back = map_back }

  -- ---- structs

  module _ (def : StructDef) (os : List (Option Data)) (is : form_of rows s ≡ Some (D.Struct def)) (made : composed alone (D.Struct def) (L.struct os) ≡ Some t) (left : room ≡ less + struct_levels def.form) where
    record Structured (hamts : Hamts) (v : Value) : Type 0 where
      items : Optionals
      same : v ≡ V.struct items
      there : represented_fields hamts rows def.fields items ≡ Some os
      fit : FieldsFit (Fits rows less) def.fields (optionals_list items)

    structured : (hamts : Hamts) (v : Value) → Fits rows room s v → represented hamts rows s v ≡ Some t → Structured hamts v
    structured hamts v fits e =
        let d : TypeDef = D.Struct def in
        let x = struct_value hamts rows (Some d) v os (ap struct_in (layer_back hamts rows s t d (L.struct os) v (clear.types (base rows s.ty.0) d is) (λ m. refl) is front.some made e)) in
        record {
          items = x.items;
          same = x.is;
          there = x.there;
          fit = fits_down rows room less s (V.struct x.items) d (L.struct (optionals_list x.items)) refl is (some_struct_levels def.form) left (subst (Fits rows room s) x.is fits);
        }

    struct_nodes : (ws : Optionals) → nodes h rows s (V.struct ws) ≡ nodes_of_fields h rows def.fields ws
    struct_nodes ws = ap (λ o. nodes_of_fields h rows (fields_of o) ws) is

    struct_front : Fields rows (Fits rows less) def.fields os
    struct_front = let x = structured alone front.shows.0 front.shows.1 front.shows.2 in data_of_fields rows (Fits rows less) def.fields x.items os x.fit x.there

    struct_up : (vs : List Value) → PartsHaveValues block h rows less (field_parts def.fields os) vs → IsHeld block h rows room s t (V.struct (optionals_of (field_values os vs)))
    struct_up vs all =
        let d : TypeDef = D.Struct def in
        let ws = field_values os vs in
        let x = fields_up block h rows less def.fields os vs (field_shape rows less def.fields os struct_front) all in
        record {
          fits = fits_up rows room less s (V.struct (optionals_of ws)) d (L.struct (optionals_list (optionals_of ws))) refl is (some_struct_levels def.form) left
              (subst (FieldsFit (Fits rows less) def.fields) (sym (optionals_list-optionals_of ws)) x.fit);
          tree = ap (λ o. layered (whole h) o (option_map L.struct (represented_fields (whole h) rows (fields_of o) (optionals_of ws)))) is ∙ ap (λ o. option_and_then (composed (whole h) d) (option_map L.struct o)) x.there ∙ made;
          held = subst (AllByRecursion Own) (sym (struct_nodes (optionals_of ws))) x.held;
        }

    struct_back : (v : Value) → IsHeld block h rows room s t v → IsMadeOf block h rows less s (field_parts def.fields os) (λ vs. V.struct (optionals_of (field_values os vs))) v
    struct_back v has =
        let x = structured (whole h) v has.fits has.tree in
        let all = subst (AllByRecursion Own) (struct_nodes x.items) (subst (λ w. AllByRecursion Own (nodes h rows s w)) x.same has.held) in
        let b = fields_back block h rows less def.fields x.items os x.fit x.there all in
        record {
          values = b.values;
          held = b.held;
          made = x.same ∙ ap V.struct b.made;
          many = ap (λ w. length (nodes h rows s w)) x.same ∙ ap length (struct_nodes x.items) ∙ b.many;
        }

    struct_splits : Splits block h rows room s t less (field_parts def.fields os) (λ vs. V.struct (optionals_of (field_values os vs)))
    struct_splits = record { fronts = field_fronts rows less def.fields os struct_front; up = struct_up; back = struct_back }

  -- ---- unions

  module _ (def : UnionDef) (n : ℕ) (m : Member) (c : Data) (is : form_of rows s ≡ Some (D.Union def)) (there : slice_get def.members n ≡ Some m) (made : composed alone (D.Union def) (L.union n c) ≡ Some t)
      (left : room ≡ less + 1) where
    record United (hamts : Hamts) (v : Value) : Type 0 where
      part : Value
      same : v ≡ V.union n part
      tree : represented hamts rows (plainly m.ty) part ≡ Some c
      fit : Fits rows less (plainly m.ty) part

    united : (hamts : Hamts) (v : Value) → Fits rows room s v → represented hamts rows s v ≡ Some t → United hamts v
    united hamts v fits e =
        let d : TypeDef = D.Union def in
        let x = union_value hamts rows (Some d) v (n, c) (ap union_in (layer_back hamts rows s t d (L.union n c) v (clear.types (base rows s.ty.0) d is) (λ k. refl) is front.some made e)) in
        record {
          part = x.part;
          same = x.is;
          tree = ap (λ o. member_data hamts rows (option_map slot_of o) x.part) (sym there) ∙ x.there;
          fit = subst (λ o. IsSomeAnd o (λ k. Fits rows less (plainly k.ty) x.part)) there
              (fits_down rows room less s (V.union n x.part) d (L.union n x.part) refl is (omega arith) left (subst (Fits rows room s) x.is fits));
        }

    union_nodes : (w : Value) → nodes h rows s (V.union n w) ≡ nodes h rows (plainly m.ty) w
    union_nodes w = ap (λ o. option_map_or (λ u. nodes h rows u w) (member_of o n) []) is ∙ ap (λ o. option_map_or (λ u. nodes h rows u w) (option_map slot_of o) []) there

    union_up : (vs : List Value) → PartsHaveValues block h rows less ((plainly m.ty, c) ∷ []) vs → IsHeld block h rows room s t (union_of n vs)
    union_up [] all = absurd all
    union_up (w ∷ []) all =
        let d : TypeDef = D.Union def in
        record {
          fits = fits_up rows room less s (V.union n w) d (L.union n w) refl is (omega arith) left (subst (λ o. IsSomeAnd o (λ k. Fits rows less (plainly k.ty) w)) (sym there) all.0.fits);
          tree = ap (λ o. layered (whole h) o (option_map (L.union n) (member_data (whole h) rows (member_of o n) w))) is
              ∙ ap (λ o. option_and_then (composed (whole h) d) (option_map (L.union n) (member_data (whole h) rows (option_map slot_of o) w))) there
              ∙ ap (λ o. option_and_then (composed (whole h) d) (option_map (L.union n) o)) all.0.tree ∙ made;
          held = subst (AllByRecursion Own) (sym (union_nodes w)) all.0.held;
        }
    union_up (w ∷ x ∷ vs) all = absurd all.1

    union_back : (v : Value) → IsHeld block h rows room s t v → IsMadeOf block h rows less s ((plainly m.ty, c) ∷ []) (union_of n) v
    union_back v has =
        let x = united (whole h) v has.fits has.tree in
        let all = subst (AllByRecursion Own) (union_nodes x.part) (subst (λ w. AllByRecursion Own (nodes h rows s w)) x.same has.held) in
        let count : length (nodes h rows s v) ≡ length (nodes h rows (plainly m.ty) x.part) = ap (λ w. length (nodes h rows s w)) x.same ∙ ap length (union_nodes x.part) in
        record {
          values = x.part ∷ [];
          held = (record { fits = x.fit; tree = x.tree; held = all }, tt);
          made = x.same;
          many = omega (arith, count);
        }

    union_splits : Splits block h rows room s t less ((plainly m.ty, c) ∷ []) (union_of n)
    union_splits =
        let x = united alone front.shows.0 front.shows.1 front.shows.2 in
        record { fronts = ((x.part, x.fit, x.tree), tt); up = union_up; back = union_back }

pub lists_split : ListsSplit
lists_split = λ block h rows schema room less s t front elem at ds is made left. list_splits block h rows (legible rows schema.accepted).clear room less s t front elem at ds is made left

pub maps_split : MapsSplit
maps_split = λ block h rows schema room less s t front key key_at value at form es plain is made left.
    map_splits block h rows (legible rows schema.accepted).clear room less s t front key key_at value at form es plain is made left

pub structs_split : StructsSplit
structs_split = λ block h rows schema room less s t front def os is made left. struct_splits block h rows (legible rows schema.accepted).clear room less s t front def os is made left

pub unions_split : UnionsSplit
unions_split = λ block h rows schema room less s t front def n m c is there made left. union_splits block h rows (legible rows schema.accepted).clear room less s t front def n m c is there made left
