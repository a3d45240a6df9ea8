-- The places of a value that is no HAMT are those of the parts of its holder.
use Rattle.std.proofs.Common.{◌≡◌, ℕ, List, [], ◌∷◌, slice_get, Bool, false, Option, Some, None, refl, sym, ap, subst}
use Rattle.std.specs.Prelude.{IfSome, option_map}
use Rattle.std.specs.Option.{option_map_or}
use Rattle.ild_data.specs.Data as T
use Rattle.ild_data.specs.Data.{Data}
use Rattle.ild_schema.specs.declared.def.Field.{Field}
use Rattle.ild_schema.specs.declared.def.MapForm.{MapForm}
use Rattle.ild_schema.specs.declared.def.MapForm.TheVariants as MF
use Rattle.ild_schema.specs.declared.def.Member.{Member}
use Rattle.ild_schema.specs.declared.def.TypeDef.{TypeDef}
use Rattle.ild_schema.specs.declared.def.TypeDef.TheVariants as D
use Rattle.ild_schema.specs.declared.number.Slot.{Slot}
use Rattle.ild_schema.specs.declared.row.Row.{Row}
use Rattle.ild_schema.specs.Prelude.{anything}
use Rattle.ild_schema.specs.Slots.{form_of, plainly}
use Rattle.ild_schema.specs.Value as V
use Rattle.ild_schema.specs.Value.{Value, Values, Pairs, Optionals, values_of, values_list, pairs_of, pairs_list, optionals_of, optionals_list}
use Rattle.ild_typed.specs.At.{seen}
use Rattle.ild_typed.specs.Hamt.{whole}
use Rattle.ild_typed.specs.Holder.{Holder, fields, member, entries, elements, any_entries, any_elements, nothing, list_holder, map_holder, struct_holder, union_holder, value_of}
use Rattle.ild_typed.specs.Represented.{represented_pairs}
use Rattle.ild_typed.specs.Slots.{element_of, fields_of, member_of, slot_of}
use Rattle.ild_typed_places.specs.Places.{Place, Places, nowhere, places_over, map_places, places_in, places_in_values, places_in_pairs, places_in_fields}
use Rattle.ild_value_meaning.proofs.ByParts.{ByParts}
use Rattle.ild_value_meaning.proofs.Told.{AreToldApart}
use Rattle.ild_path_edits.proofs.HeldTyped.{IsHeld, IsBare}
use Rattle.ild_path_edits.proofs.Typing.{Each as EachOf}
use Rattle.ild_typed_fronts.specs.Front.{is_hamt, stands_as_root}
use Rattle.ild_path_passed.proofs.Joined.{Each, both_each, each_both, over_each}
use Rattle.ild_path_passed.proofs.Keyed.{keyed, keyed_each}
use Rattle.ild_path_passed.proofs.Mapping.{entries_pass}
use Rattle.ild_path_passed.proofs.Parting.{EntryHas, EachHas, PartsHave}

module _ (Q : Place → Type 0) (Given : List ℕ → Type 0) (gives : (b : List ℕ) (ps : Places) → Given b → Q (b, ps)) (h : List ℕ → List ℕ) (rows : List Row) where
  abbrev pub N : Slot → Value → Type 0
  N s v = Each Q (places_in h rows s v)

  abbrev pub Parts : Holder → Type 0
  Parts k = PartsHave N k

  -- ---- plain lists

  values_each : (u : Slot) (vs : Values) → Each Q (places_in_values h rows u vs) → EachOf (N u) (values_list vs)
  values_each u V.no_values a = tt
  values_each u (V.value v vs) a = let x = each_both Q (places_in h rows u v) (places_in_values h rows u vs) a in (x.0, values_each u vs x.1)

  each_values : (u : Slot) (xs : List Value) → EachOf (N u) xs → Each Q (places_in_values h rows u (values_of xs))
  each_values u [] a = tt
  each_values u (x ∷ xs) a = both_each Q (places_in h rows u x) (places_in_values h rows u (values_of xs)) a.0 (each_values u xs a.1)

  fields_each : (fs : List Field) (os : Optionals) → Each Q (places_in_fields h rows fs os) → EachHas N fs (optionals_list os)
  fields_each [] os a = tt
  fields_each (f ∷ fs) V.no_optionals a = tt
  fields_each (f ∷ fs) (V.absent os) a = (tt, fields_each fs os a)
  fields_each (f ∷ fs) (V.present v os) a = let x = each_both Q (places_in h rows f.slot v) (places_in_fields h rows fs os) a in (x.0, fields_each fs os x.1)

  each_fields : (fs : List Field) (xs : List (Option Value)) → EachHas N fs xs → Each Q (places_in_fields h rows fs (optionals_of xs))
  each_fields fs [] a = tt
  each_fields [] (None ∷ xs) a = tt
  each_fields [] (Some v ∷ xs) a = tt
  each_fields (f ∷ fs) (None ∷ xs) a = each_fields fs xs a.1
  each_fields (f ∷ fs) (Some v ∷ xs) a = both_each Q (places_in h rows f.slot v) (places_in_fields h rows fs (optionals_of xs)) a.0 (each_fields fs xs a.1)

  -- ---- a value and its holder

  list_parts : (G : Option TypeDef) (elem : Slot) (place : ℕ) (vs : Values) → G ≡ Some (D.List elem place) → Each Q (option_map_or (λ u. places_in_values h rows u vs) (element_of G) nowhere) → Parts (list_holder G vs)
  list_parts G elem place vs e = subst (λ G. Each Q (option_map_or (λ u. places_in_values h rows u vs) (element_of G) nowhere) → Parts (list_holder G vs)) (sym e) (λ a. values_each elem vs a)

  -- of a HAMT too
  map_parts : (slot : Slot) (key : _) (key_at : ℕ) (elem : Slot) (place : ℕ) (form : MapForm) (ps : Pairs) → form_of rows slot ≡ Some (D.Map key key_at elem place form) → N slot (V.map ps) → Parts (map_holder (form_of rows slot) ps)
  map_parts slot key key_at elem place form ps e a =
      subst (λ G. Parts (map_holder G ps)) (sym e) (entries_pass Q Given gives h rows slot elem ps (ap element_of e) a)

  member_parts : (o : Option Member) (v : Value) → Each Q (option_map_or (λ u. places_in h rows u v) (option_map slot_of o) nowhere) → IfSome o (λ m. N (plainly m.ty) v)
  member_parts None v a = tt
  member_parts (Some m) v a = a

  parts_member : (o : Option Member) (v : Value) → IfSome o (λ m. N (plainly m.ty) v) → Each Q (option_map_or (λ u. places_in h rows u v) (option_map slot_of o) nowhere)
  parts_member None v a = tt
  parts_member (Some m) v a = a

  pub to_holder : (is_key : ℕ → List ℕ → Bool) (slot : Slot) (v : Value) → ByParts rows is_key slot v → N slot v → Parts (seen rows (slot, v))
  to_holder is_key slot V.null t a = tt
  to_holder is_key slot (V.boolean b) t a = tt
  to_holder is_key slot (V.integer n) t a = tt
  to_holder is_key slot (V.text s) t a = tt
  to_holder is_key slot (V.bytes s) t a = tt
  to_holder is_key slot (V.link s) t a = tt
  to_holder is_key slot (V.list vs) t a = list_parts (form_of rows slot) t.0 t.1 vs t.2 a
  to_holder is_key slot (V.map ps) t a = map_parts slot t.0 t.1 t.2 t.3 t.4 ps t.5 a
  to_holder is_key slot (V.struct os) t a = subst (λ G. Each Q (places_in_fields h rows (fields_of G) os) → Parts (struct_holder G os)) (sym t.1) (λ b. fields_each (t.0).fields os b) a
  to_holder is_key slot (V.union n v) t a =
      subst (λ G. Each Q (option_map_or (λ u. places_in h rows u v) (member_of G n) nowhere) → Parts (union_holder G n v)) (sym t.2) (λ b. member_parts (slice_get (t.0).members n) v b) a
  to_holder is_key slot (V.enum n) t a = tt
  to_holder is_key slot V.unit t a = tt
  to_holder is_key slot (V.any T.null) t a = tt
  to_holder is_key slot (V.any (T.boolean b)) t a = tt
  to_holder is_key slot (V.any (T.integer n)) t a = tt
  to_holder is_key slot (V.any (T.text s)) t a = tt
  to_holder is_key slot (V.any (T.bytes s)) t a = tt
  to_holder is_key slot (V.any (T.list ds)) t a = tt
  to_holder is_key slot (V.any (T.map ms)) t a = tt
  to_holder is_key slot (V.any (T.link s)) t a = tt
  to_holder is_key slot (V.hamt d) t a = tt

  bare : (slot : Slot) (v : Value) → IsBare v → N slot v
  bare slot V.null t = tt
  bare slot (V.boolean b) t = tt
  bare slot (V.integer n) t = tt
  bare slot (V.text s) t = tt
  bare slot (V.bytes s) t = tt
  bare slot (V.link s) t = tt
  bare slot (V.list vs) t = absurd t
  bare slot (V.map ps) t = absurd t
  bare slot (V.struct os) t = absurd t
  bare slot (V.union n v) t = absurd t
  bare slot (V.enum n) t = tt
  bare slot V.unit t = tt
  bare slot (V.any d) t = tt
  bare slot (V.hamt d) t = tt

  -- a map that is no HAMT has those in its values
  plain_places : (G : Option TypeDef) (o : Option (List (List ℕ × Data))) (ts : List (List ℕ × Places)) → is_hamt G ≡ false → map_places h G o ts ≡ places_over (λ t. t.1) ts
  plain_places None o ts e = refl
  plain_places (Some d) o ts e = by d o e where
    by : (d : TypeDef) (o : Option (List (List ℕ × Data))) → is_hamt (Some d) ≡ false → map_places h (Some d) o ts ≡ places_over (λ t. t.1) ts
    by (D.Map key key_at elem place MF.Map) o e = refl
    by (D.Map key key_at elem place MF.ListPairs) o e = refl
    by (D.Map key key_at elem place (MF.StringPairs inner entry)) o e = refl
    by (D.Map key key_at elem place (MF.Hamt p)) o e = absurd cc
    by d o e = refl

  map_whole : (G : Option TypeDef) (key : _) (key_at : ℕ) (elem : Slot) (place : ℕ) (form : MapForm) (ps : List (List ℕ × Value)) → G ≡ Some (D.Map key key_at elem place form) → is_hamt G ≡ false → EachOf (EntryHas N elem) ps
      → Each Q (option_map_or (λ u. map_places h G (represented_pairs (whole h) rows u (pairs_of ps)) (places_in_pairs h rows u (pairs_of ps))) (element_of G) nowhere)
  map_whole G key key_at elem place form ps e plain a =
      subst (λ G. is_hamt G ≡ false → Each Q (option_map_or (λ u. map_places h G (represented_pairs (whole h) rows u (pairs_of ps)) (places_in_pairs h rows u (pairs_of ps))) (element_of G) nowhere)) (sym e)
      (λ no.
      subst (Each Q) (sym (plain_places (Some (D.Map key key_at elem place form)) (represented_pairs (whole h) rows elem (pairs_of ps)) (keyed h rows elem ps) no))
      (over_each Q (λ t. t.1) (keyed h rows elem ps) (keyed_each h rows elem Q ps a))) plain

  module _ (is_key : ℕ → List ℕ → Bool) (apart : AreToldApart rows) (any_there : form_of rows anything ≡ Some D.Any) where
    pub from_holder : (slot : Slot) (k : Holder) → IsHeld rows is_key apart any_there slot k → stands_as_root (form_of rows slot) (value_of k) ≡ false → Parts k → N slot (value_of k)
    from_holder slot (fields fs os) t plain a =
        subst (λ G. Each Q (places_in_fields h rows (fields_of G) (optionals_of os))) (sym t.1) (each_fields (t.0).fields os (subst (λ gs. EachHas N gs os) t.2 a))
    from_holder slot (member ms n v) t plain a =
        subst (λ G. Each Q (option_map_or (λ u. places_in h rows u v) (member_of G n) nowhere)) (sym t.2) (parts_member (slice_get (t.0).members n) v (subst (λ ns. IfSome (slice_get ns n) (λ m. N (plainly m.ty) v)) t.3 a))
    from_holder slot (entries key elem paired ps) t plain a = map_whole (form_of rows slot) t.0 t.1 elem t.2 t.3 ps t.4 plain a
    from_holder slot (elements elem vs) t plain a = subst (λ G. Each Q (option_map_or (λ u. places_in_values h rows u (values_of vs)) (element_of G) nowhere)) (sym t.1) (each_values elem vs a)
    from_holder slot (any_entries ms) t plain a = tt
    from_holder slot (any_elements ds) t plain a = tt
    from_holder slot (nothing v) t plain a = bare slot v t.1
