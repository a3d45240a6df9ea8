-- The spelling of a struct's representation, by its form.
use Rattle.std.proofs.Common.{◌≡◌, ℕ, suc, ◌+◌, List, [], ◌∷◌, ◌++◌, length, map, Bool, true, false, cond, Option, Some, None, option_map, slice_get, refl, sym, ap, ◌∙◌, subst, arith}
use Rattle.std.specs.Prelude.{option_and_then, is_none}
use Rattle.std.specs.List.{AllByRecursion}
use Rattle.std.specs.Option.{option_map_or}
use Rattle.std.proofs.lemmas.Option.{same_Some, none-some}
use Rattle.std.proofs.lemmas.Bool.{and_parts}
use Rattle.ild_data.specs.Data as T
use Rattle.ild_data.specs.Data.{Data}
use Rattle.ild_data.specs.Key.{put, value_at}
use Rattle.ild_data.specs.Spell.{head, spell, spell_text, spell_items, spell_members}
use Rattle.ild_data.proofs.Lists.{members_list-members_of}
use Rattle.ild_schema.specs.declared.number.Slot.{Slot}
use Rattle.ild_schema.specs.declared.def.TypeDef.{TypeDef}
use Rattle.ild_schema.specs.declared.def.TypeDef.TheVariants as D
use Rattle.ild_schema.specs.declared.def.StructForm.{StructForm}
use Rattle.ild_schema.specs.declared.def.StructForm.TheVariants as S
use Rattle.ild_schema.specs.declared.def.StructDef.{StructDef}
use Rattle.ild_schema.specs.declared.def.UnionForm.TheVariants as UF
use Rattle.ild_schema.specs.declared.def.Field.{Field}
use Rattle.ild_schema.specs.declared.row.Row.{Row}
use Rattle.ild_schema.specs.Fitting.{ImplicitFits}
use Rattle.ild_schema.specs.Marks.{field_text}
use Rattle.ild_schema.specs.Slots.{form_of}
use Rattle.ild_schema.specs.Value as V
use Rattle.ild_schema.specs.Value.{Value, Optionals, optionals_list}
use Rattle.ild_typed.specs.Composed.{composed, struct_form, inlined}
use Rattle.ild_typed.specs.Fields.{is_implicit, entries_of, field_entries, tuple_items, are_absent}
use Rattle.ild_typed.specs.Hamt.{whole}
use Rattle.ild_typed.specs.Layer as L
use Rattle.ild_typed.specs.Represented.{represented, represented_fields, layered}
use Rattle.ild_typed.specs.Slots.{fields_of}
use Rattle.ild_typed.specs.Strings.{map_data, listpairs, pair_data, in_key_order, members_in}
use Rattle.ild_typed.proofs.Basics.{map_from, if_from, true_from}
use Rattle.ild_typed.proofs.Entries.{both_from}
use Rattle.ild_build.specs.LeftOut.{is_left_out}
use Rattle.ild_build.specs.PartAt.{field_at}
use Rattle.ild_build.proofs.TextForms.{left_out_same}
use Rattle.ild_build_leaf.specs.Made.{made}
use Rattle.ild_build_pass.specs.inside.Made.{both, counted, entry_made, tuple_made, fields_made, marked_made}
use Rattle.ild_build_leaf.specs.Kept.{count_present, count_written}
use Rattle.ild_build_pass.specs.inside.Places.{places_from, name_at, named, in_order, value_made, map_made, places_made}
use Rattle.ild_build_pass.proofs.Alike.{Alike, alike_put, alike_sorted, alike_length, alike_made}
use Rattle.ild_build_pass.proofs.Forms.{pair_spelled}

module _ (hash : List ℕ → List ℕ) (rows : List Row) where
  -- ---- fields beside their entries

  -- what names and values say of the places from a number on
  record Covers (name : ℕ → List ℕ) (value : ℕ → Option (List ℕ)) (n : ℕ) (fs : List Field) (os : List (Option Value)) : Type 0 where
    names : (j : ℕ) (f : Field) → slice_get fs j ≡ Some f → name (n + j) ≡ field_text f
    values : (j : ℕ) (f : Field) (v : Value) → slice_get fs j ≡ Some f → field_at os j ≡ Some v → value (n + j) ≡ made (whole hash) rows f.slot v

  covers_next : (name : ℕ → List ℕ) (value : ℕ → Option (List ℕ)) (n : ℕ) (f : Field) (fs : List Field) (o : Option Value) (os : List (Option Value)) → Covers name value n (f ∷ fs) (o ∷ os) → Covers name value (suc n) fs os
  covers_next name value n f fs o os c = record {
    names = λ j g at. let e : suc n + j ≡ n + suc j = omega arith in ap name e ∙ c.names (suc j) g at;
    values = λ j g v at there. let e : suc n + j ≡ n + suc j = omega arith in ap value e ∙ c.values (suc j) g v at there;
  }

  pub record FieldsMade (name : ℕ → List ℕ) (value : ℕ → Option (List ℕ)) (n : ℕ) (fs : List Field) (os : Optionals) (es : List (List ℕ × Data)) : Type 0 where
    pub pairs : fields_made (whole hash) rows true fs (optionals_list os) ≡ Some (spell_items (T.items_of (map pair_data es)))
    pub count : length (T.items_list (T.items_of (map pair_data es))) ≡ count_written fs (optionals_list os)
    pub alike : Alike value (map (λ i. (name i, i)) (places_from n fs (optionals_list os))) es

  fields_step : (name : ℕ → List ℕ) (value : ℕ → Option (List ℕ)) (n : ℕ) (f : Field) (fs : List Field) (v : Value) (os : Optionals) (d : Data) (rest es : List (List ℕ × Data)) (b : Bool)
      → is_left_out f.implicit v ≡ b → is_implicit f.implicit d ≡ b → represented (whole hash) rows f.slot v ≡ Some d → entries_of f d ++ rest ≡ es → name n ≡ field_text f → value n ≡ made (whole hash) rows f.slot v
      → FieldsMade name value (suc n) fs os rest → FieldsMade name value n (f ∷ fs) (V.present v os) es
  fields_step name value n f fs v os d rest es true out imp there all is_name is_value r =
      let same : rest ≡ es = ap (λ c. cond c [] ((field_text f, d) ∷ []) ++ rest) (sym imp) ∙ all in
      let later = fields_made (whole hash) rows true fs (optionals_list os) in
      let places = places_from (suc n) fs (optionals_list os) in
      record {
        pairs = ap (λ c. cond c later (both (entry_made (whole hash) rows true (field_text f) f.slot v) later)) out ∙ r.pairs ∙ ap (λ xs. Some (spell_items (T.items_of (map pair_data xs)))) same;
        count = ap (λ xs. length (T.items_list (T.items_of (map pair_data xs)))) (sym same) ∙ r.count ∙ ap (λ c. cond c (count_written fs (optionals_list os)) (suc (count_written fs (optionals_list os)))) (sym out);
        alike = subst (λ xs. Alike value (map (λ i. (name i, i)) (cond (is_left_out f.implicit v) places (n ∷ places))) xs) same (subst (λ c. Alike value (map (λ i. (name i, i)) (cond c places (n ∷ places))) rest) (sym out) r.alike);
      }
  fields_step name value n f fs v os d rest es false out imp there all is_name is_value r =
      let same : (field_text f, d) ∷ rest ≡ es = ap (λ c. cond c [] ((field_text f, d) ∷ []) ++ rest) (sym imp) ∙ all in
      let later = fields_made (whole hash) rows true fs (optionals_list os) in
      let places = places_from (suc n) fs (optionals_list os) in
      record {
        pairs = ap (λ c. cond c later (both (entry_made (whole hash) rows true (field_text f) f.slot v) later)) out
            ∙ ap (λ o. both (option_map (λ t. (head 4 2 ++ spell_text (field_text f)) ++ t) (option_map spell o)) later) there
            ∙ ap (both (Some ((head 4 2 ++ spell_text (field_text f)) ++ spell d))) r.pairs
            ∙ ap (λ y. Some (y ++ spell_items (T.items_of (map pair_data rest)))) (pair_spelled hash rows (field_text f) d)
            ∙ ap (λ xs. Some (spell_items (T.items_of (map pair_data xs)))) same;
        count = ap (λ xs. length (T.items_list (T.items_of (map pair_data xs)))) (sym same) ∙ ap suc r.count ∙ ap (λ c. cond c (count_written fs (optionals_list os)) (suc (count_written fs (optionals_list os)))) (sym out);
        alike = subst (λ xs. Alike value (map (λ i. (name i, i)) (cond (is_left_out f.implicit v) places (n ∷ places))) xs) same
            (subst (λ c. Alike value (map (λ i. (name i, i)) (cond c places (n ∷ places))) ((field_text f, d) ∷ rest)) (sym out) ((is_name, is_value ∙ ap (option_map spell) there), r.alike));
      }

  fields_are_made : (name : ℕ → List ℕ) (value : ℕ → Option (List ℕ)) (n : ℕ) (fs : List Field) → AllByRecursion (ImplicitFits rows) fs → (os : Optionals) → Covers name value n fs (optionals_list os)
      → (ds : List (Option Data)) (es : List (List ℕ × Data)) → represented_fields (whole hash) rows fs os ≡ Some ds → field_entries fs ds ≡ Some es → FieldsMade name value n fs os es
  fields_are_made name value n [] fit V.no_optionals covers ds es e h =
      let none = same_Some {A = List (Option Data)} [] ds e in
      let empty : [] ≡ es = same_Some {A = List (List ℕ × Data)} [] es (subst (λ xs. field_entries [] xs ≡ Some es) (sym none) h) in
      record {
        pairs = ap (λ xs. Some (spell_items (T.items_of (map pair_data xs)))) empty;
        count = ap (λ xs. length (T.items_list (T.items_of (map pair_data xs)))) (sym empty);
        alike = subst (λ xs. Alike value [] xs) empty tt;
      }
  fields_are_made name value n (f ∷ fs) fit V.no_optionals covers ds es e h =
      let none = same_Some {A = List (Option Data)} [] ds e in
      absurd (none-some es (subst (λ xs. field_entries (f ∷ fs) xs ≡ Some es) (sym none) h))
  fields_are_made name value n [] fit (V.absent os) covers ds es e h = absurd (none-some ds e)
  fields_are_made name value n [] fit (V.present v os) covers ds es e h = absurd (none-some ds e)
  fields_are_made name value n (f ∷ fs) fit (V.absent os) covers ds es e h =
      let x = map_from (λ (ys : List (Option Data)). None ∷ ys) (represented_fields (whole hash) rows fs os) ds e in
      let g : field_entries (f ∷ fs) (None ∷ x.item) ≡ Some es = subst (λ ys. field_entries (f ∷ fs) ys ≡ Some es) (sym (same_Some (None ∷ x.item) ds x.made)) h in
      let rest = fields_are_made name value (suc n) fs fit.1 os (covers_next name value n f fs None (optionals_list os) covers) x.item es x.there (if_from f.optional (field_entries fs x.item) es g).1 in
      record { pairs = rest.pairs; count = rest.count; alike = rest.alike }
  fields_are_made name value n (f ∷ fs) fit (V.present v os) covers ds es e h =
      let b = both_from (option_map {U = Option Data} Some (represented (whole hash) rows f.slot v)) (represented_fields (whole hash) rows fs os) ds e in
      let x = map_from {B = Option Data} Some (represented (whole hash) rows f.slot v) b.item b.first in
      let all : Some x.item ∷ b.items ≡ ds = ap (λ q. q ∷ b.items) (same_Some {A = Option Data} (Some x.item) b.item x.made) ∙ b.all in
      let g : field_entries (f ∷ fs) (Some x.item ∷ b.items) ≡ Some es = subst (λ ys. field_entries (f ∷ fs) ys ≡ Some es) (sym all) h in
      let y = map_from (λ (rs : List (List ℕ × Data)). entries_of f x.item ++ rs) (field_entries fs b.items) es g in
      let rest = fields_are_made name value (suc n) fs fit.1 os (covers_next name value n f fs (Some v) (optionals_list os) covers) b.items y.item b.rest y.there in
      let here : n ≡ n + 0 = omega arith in
      fields_step name value n f fs v os x.item y.item es (is_implicit f.implicit x.item) (left_out_same (whole hash) rows f.slot v x.item x.there f.implicit fit.0) refl x.there
      (same_Some (entries_of f x.item ++ y.item) es y.made) (ap name here ∙ covers.names 0 f refl) (ap value here ∙ covers.values 0 f v refl refl) rest

  -- the names and the values of a struct's fields
  own_places : (fs : List Field) (os : List (Option Value)) (key tag : List ℕ) → Covers (name_at fs key) (value_made (whole hash) rows fs os tag) 0 fs os
  own_places fs os key tag = record {
    names = λ j f at. let e : 0 + j ≡ j = omega arith in ap (λ i. name_at fs key i) e ∙ ap (λ o. option_map_or field_text o key) at;
    values = λ j f v at there. let e : 0 + j ≡ j = omega arith in
        ap (value_made (whole hash) rows fs os tag) e ∙ ap (λ o. option_map_or (λ g. option_and_then (made (whole hash) rows g.slot) (field_at os j)) o (Some (spell_text tag))) at ∙ ap (option_and_then (made (whole hash) rows f.slot)) there;
  }

  abbrev struct_in : Option TypeDef → Optionals → Option (List ℕ)
  struct_in o os = option_map spell (layered (whole hash) o (option_map L.struct (represented_fields (whole hash) rows (fields_of o) os)))

  -- what a struct's form makes of its fields
  record FormMade (form : StructForm) (fs : List Field) (os : Optionals) (t : List ℕ) : Type 0 where
    items : List (Option Data)
    there : represented_fields (whole hash) rows fs os ≡ Some items
    made_is : option_map spell (struct_form form fs items) ≡ Some t

  form_from : (s : Slot) (sd : StructDef) (f : StructForm) (os : Optionals) → form_of rows s ≡ Some (D.Struct sd) → sd.form ≡ f → (t : List ℕ) → made (whole hash) rows s (V.struct os) ≡ Some t → FormMade f sd.fields os t
  form_from s sd f os is form t e = by (represented_fields (whole hash) rows sd.fields os) refl (sym (ap (λ o. struct_in o os) is) ∙ e)
    where
      by : (o : Option (List (Option Data))) → represented_fields (whole hash) rows sd.fields os ≡ o → option_map spell (option_and_then (composed (whole hash) (D.Struct sd)) (option_map L.struct o)) ≡ Some t → FormMade f sd.fields os t
      by None there h = absurd (none-some t h)
      by (Some ds) there h = record { items = ds; there = there; made_is = ap (λ g. option_map spell (struct_form g sd.fields ds)) (sym form) ∙ h }

  pub listed_made : (s : Slot) (sd : StructDef) (os : Optionals) → AllByRecursion (ImplicitFits rows) sd.fields → form_of rows s ≡ Some (D.Struct sd) → sd.form ≡ S.ListPairs
      → (t : List ℕ) → made (whole hash) rows s (V.struct os) ≡ Some t → counted 4 (count_written sd.fields (optionals_list os)) (fields_made (whole hash) rows true sd.fields (optionals_list os)) ≡ Some t
  listed_made s sd os fit is form t e =
      let m = form_from s sd S.ListPairs os is form t e in
      by m.items m.there (field_entries sd.fields m.items) refl m.made_is
    where
      by : (ds : List (Option Data)) → represented_fields (whole hash) rows sd.fields os ≡ Some ds → (o : Option (List (List ℕ × Data))) → field_entries sd.fields ds ≡ o → option_map spell (option_map listpairs o) ≡ Some t
          → counted 4 (count_written sd.fields (optionals_list os)) (fields_made (whole hash) rows true sd.fields (optionals_list os)) ≡ Some t
      by ds there None h g = absurd (none-some t g)
      by ds there (Some es) h g =
          let r = fields_are_made (name_at sd.fields []) (value_made (whole hash) rows sd.fields (optionals_list os) []) 0 sd.fields fit os (own_places sd.fields (optionals_list os) [] []) ds es there h in
          ap (counted 4 (count_written sd.fields (optionals_list os))) r.pairs ∙ ap (λ n. Some (head 4 n ++ spell_items (T.items_of (map pair_data es)))) (sym r.count) ∙ g

  pub fields_in_map : (s : Slot) (sd : StructDef) (os : Optionals) → AllByRecursion (ImplicitFits rows) sd.fields → form_of rows s ≡ Some (D.Struct sd) → sd.form ≡ S.Map
      → (t : List ℕ) → made (whole hash) rows s (V.struct os) ≡ Some t → map_made (whole hash) rows sd.fields (optionals_list os) ≡ Some t
  fields_in_map s sd os fit is form t e =
      let m = form_from s sd S.Map os is form t e in
      by m.items m.there (field_entries sd.fields m.items) refl m.made_is
    where
      by : (ds : List (Option Data)) → represented_fields (whole hash) rows sd.fields os ≡ Some ds → (o : Option (List (List ℕ × Data))) → field_entries sd.fields ds ≡ o
          → option_map spell (option_map (λ es. map_data (in_key_order es)) o) ≡ Some t → map_made (whole hash) rows sd.fields (optionals_list os) ≡ Some t
      by ds there None h g = absurd (none-some t g)
      by ds there (Some es) h g =
          let value = value_made (whole hash) rows sd.fields (optionals_list os) [] in
          let r = fields_are_made (name_at sd.fields []) value 0 sd.fields fit os (own_places sd.fields (optionals_list os) [] []) ds es there h in
          let ps = in_order (named sd.fields [] (places_from 0 sd.fields (optionals_list os))) in
          let alike = alike_sorted value (named sd.fields [] (places_from 0 sd.fields (optionals_list os))) es r.alike in
          ap (counted 5 (length ps)) (alike_made hash rows sd.fields (optionals_list os) [] ps (in_key_order es) alike)
          ∙ ap (λ n. Some (head 5 n ++ spell_members (T.members_of (in_key_order es)))) (alike_length value ps (in_key_order es) alike) ∙ g

  pub inline_made : (s : Slot) (sd : StructDef) (os : Optionals) (key name : List ℕ) → AllByRecursion (ImplicitFits rows) sd.fields → form_of rows s ≡ Some (D.Struct sd) → sd.form ≡ S.Map
      → (ps : List (List ℕ × ℕ)) → ps ≡ put key (length sd.fields) (in_order (named sd.fields key (places_from 0 sd.fields (optionals_list os)))) → (t : List ℕ) → marked_made (whole hash) rows (UF.Inline key) s (V.struct os) name ≡ Some t
      → counted 5 (length ps) (places_made (whole hash) rows sd.fields (optionals_list os) name ps) ≡ Some t
  inline_made s sd os key name fit is form ps put_is t e = outer (represented (whole hash) rows s (V.struct os)) refl e
    where
      past : {A : Type 0} (xs : List A) → slice_get xs (length xs) ≡ None
      past [] = refl
      past (x ∷ xs) = past xs

      with_tag : (ds : List (Option Data)) (es : List (List ℕ × Data)) → represented_fields (whole hash) rows sd.fields os ≡ Some ds → field_entries sd.fields ds ≡ Some es
          → (ms : List (List ℕ × Data)) → ms ≡ in_key_order es → option_map spell (inlined key name ms) ≡ Some t → counted 5 (length ps) (places_made (whole hash) rows sd.fields (optionals_list os) name ps) ≡ Some t
      with_tag ds es there h ms ms_is g =
          let value = value_made (whole hash) rows sd.fields (optionals_list os) name in
          let r = fields_are_made (name_at sd.fields key) value 0 sd.fields fit os (own_places sd.fields (optionals_list os) key name) ds es there h in
          let qs = in_order (named sd.fields key (places_from 0 sd.fields (optionals_list os))) in
          let sorted = alike_sorted value (named sd.fields key (places_from 0 sd.fields (optionals_list os))) es r.alike in
          let last : value (length sd.fields) ≡ Some (spell_text name) = ap (λ o. option_map_or (λ f. option_and_then (made (whole hash) rows f.slot) (field_at (optionals_list os) (length sd.fields))) o (Some (spell_text name))) (past sd.fields) in
          let both_is = alike_put value (key, length sd.fields) (key, T.text name) qs (in_key_order es) (refl, last) sorted in
          let whole = put key (T.text name) (in_key_order es) in
          let alike : Alike value ps whole = subst (λ xs. Alike value xs whole) (sym put_is) both_is in
          let x = map_from spell (inlined key name ms) t g in
          let y = true_from (is_none (value_at key ms)) (map_data (put key (T.text name) ms)) x.item x.there in
          ap (counted 5 (length ps)) (alike_made hash rows sd.fields (optionals_list os) name ps whole alike) ∙ ap (λ n. Some (head 5 n ++ spell_members (T.members_of whole))) (alike_length value ps whole alike)
          ∙ ap (λ xs. Some (spell (map_data (put key (T.text name) xs)))) (sym ms_is) ∙ ap (λ d. Some (spell d)) y.1 ∙ x.made

      inner : (ds : List (Option Data)) → represented_fields (whole hash) rows sd.fields os ≡ Some ds → (o : Option (List (List ℕ × Data))) → field_entries sd.fields ds ≡ o
          → option_map spell (option_and_then (λ d. option_and_then (inlined key name) (members_in d)) (option_map (λ es. map_data (in_key_order es)) o)) ≡ Some t
          → counted 5 (length ps) (places_made (whole hash) rows sd.fields (optionals_list os) name ps) ≡ Some t
      inner ds there None h g = absurd (none-some t g)
      inner ds there (Some es) h g = with_tag ds es there h (T.members_list (T.members_of (in_key_order es))) (members_list-members_of (in_key_order es)) g

      fields : (o : Option (List (Option Data))) → represented_fields (whole hash) rows sd.fields os ≡ o
          → option_map spell (option_and_then (λ d. option_and_then (inlined key name) (members_in d)) (option_and_then (composed (whole hash) (D.Struct sd)) (option_map L.struct o))) ≡ Some t
          → counted 5 (length ps) (places_made (whole hash) rows sd.fields (optionals_list os) name ps) ≡ Some t
      fields None there g = absurd (none-some t g)
      fields (Some ds) there g =
          inner ds there (field_entries sd.fields ds) refl (ap (λ f. option_map spell (option_and_then (λ d. option_and_then (inlined key name) (members_in d)) (struct_form f sd.fields ds))) (sym form) ∙ g)

      outer : (o : Option Data) → represented (whole hash) rows s (V.struct os) ≡ o → option_map spell (option_and_then (λ d. option_and_then (inlined key name) (members_in d)) (represented (whole hash) rows s (V.struct os))) ≡ Some t
          → counted 5 (length ps) (places_made (whole hash) rows sd.fields (optionals_list os) name ps) ≡ Some t
      outer o same g =
          fields (represented_fields (whole hash) rows sd.fields os) refl
          (sym (ap (λ q. option_map spell (option_and_then (λ d. option_and_then (inlined key name) (members_in d)) (layered (whole hash) q (option_map L.struct (represented_fields (whole hash) rows (fields_of q) os))))) is) ∙ g)

  -- ---- tuples

  record TupleMade (fs : List Field) (os : Optionals) (xs : List Data) : Type 0 where
    bytes : tuple_made (whole hash) rows fs (optionals_list os) ≡ Some (spell_items (T.items_of xs))
    count : length (T.items_list (T.items_of xs)) ≡ count_present (optionals_list os)

  all_absent : (fs : List Field) (os : Optionals) (ds : List (Option Data)) → represented_fields (whole hash) rows fs os ≡ Some ds → are_absent fs ds ≡ true → TupleMade fs os []
  all_absent [] V.no_optionals ds e h = record { bytes = refl; count = refl }
  all_absent (f ∷ fs) V.no_optionals ds e h = record { bytes = refl; count = refl }
  all_absent [] (V.absent os) ds e h = absurd (none-some ds e)
  all_absent [] (V.present v os) ds e h = absurd (none-some ds e)
  all_absent (f ∷ fs) (V.absent os) ds e h =
      let x = map_from (λ (ys : List (Option Data)). None ∷ ys) (represented_fields (whole hash) rows fs os) ds e in
      let g = subst (λ ys. are_absent (f ∷ fs) ys ≡ true) (sym (same_Some (None ∷ x.item) ds x.made)) h in
      let rest = all_absent fs os x.item x.there (and_parts f.optional (are_absent fs x.item) g).1 in
      record { bytes = rest.bytes; count = rest.count }
  all_absent (f ∷ fs) (V.present v os) ds e h =
      let b = both_from (option_map {U = Option Data} Some (represented (whole hash) rows f.slot v)) (represented_fields (whole hash) rows fs os) ds e in
      let x = map_from {B = Option Data} Some (represented (whole hash) rows f.slot v) b.item b.first in
      let all : Some x.item ∷ b.items ≡ ds = ap (λ q. q ∷ b.items) (same_Some {A = Option Data} (Some x.item) b.item x.made) ∙ b.all in
      absurd (never (subst (λ ys. are_absent (f ∷ fs) ys ≡ true) (sym all) h))
    where
      never : false ≡ true → ⊥
      never k = absurd cc

  items_are_made : (fs : List Field) (os : Optionals) (ds : List (Option Data)) (xs : List Data) → represented_fields (whole hash) rows fs os ≡ Some ds → tuple_items fs ds ≡ Some xs → TupleMade fs os xs
  items_are_made [] V.no_optionals ds xs e h =
      let none = same_Some {A = List (Option Data)} [] ds e in
      let empty : [] ≡ xs = same_Some {A = List Data} [] xs (subst (λ ys. tuple_items [] ys ≡ Some xs) (sym none) h) in
      record { bytes = ap (λ ys. Some (spell_items (T.items_of ys))) empty; count = ap (λ ys. length (T.items_list (T.items_of ys))) (sym empty) }
  items_are_made (f ∷ fs) V.no_optionals ds xs e h =
      let none = same_Some {A = List (Option Data)} [] ds e in
      absurd (none-some xs (subst (λ ys. tuple_items (f ∷ fs) ys ≡ Some xs) (sym none) h))
  items_are_made [] (V.absent os) ds xs e h = absurd (none-some ds e)
  items_are_made [] (V.present v os) ds xs e h = absurd (none-some ds e)
  items_are_made (f ∷ fs) (V.absent os) ds xs e h =
      let x = map_from (λ (ys : List (Option Data)). None ∷ ys) (represented_fields (whole hash) rows fs os) ds e in
      let same = same_Some (None ∷ x.item) ds x.made in
      let g = subst (λ ys. tuple_items (f ∷ fs) ys ≡ Some xs) (sym same) h in
      let y = true_from {A = List Data} (are_absent (f ∷ fs) (None ∷ x.item)) [] xs g in
      let rest = all_absent fs os x.item x.there (and_parts f.optional (are_absent fs x.item) y.0).1 in
      record { bytes = rest.bytes ∙ ap (λ ys. Some (spell_items (T.items_of ys))) y.1; count = ap (λ ys. length (T.items_list (T.items_of ys))) (sym y.1) ∙ rest.count }
  items_are_made (f ∷ fs) (V.present v os) ds xs e h =
      let b = both_from (option_map {U = Option Data} Some (represented (whole hash) rows f.slot v)) (represented_fields (whole hash) rows fs os) ds e in
      let x = map_from {B = Option Data} Some (represented (whole hash) rows f.slot v) b.item b.first in
      let all : Some x.item ∷ b.items ≡ ds = ap (λ q. q ∷ b.items) (same_Some {A = Option Data} (Some x.item) b.item x.made) ∙ b.all in
      let g = subst (λ ys. tuple_items (f ∷ fs) ys ≡ Some xs) (sym all) h in
      let y = map_from (λ (rs : List Data). x.item ∷ rs) (tuple_items fs b.items) xs g in
      let rest = items_are_made fs os b.items y.item b.rest y.there in
      let same = same_Some (x.item ∷ y.item) xs y.made in
      record {
        bytes = ap (λ o. both (option_map spell o) (tuple_made (whole hash) rows fs (optionals_list os))) x.there ∙ ap (both (Some (spell x.item))) rest.bytes ∙ ap (λ ys. Some (spell_items (T.items_of ys))) same;
        count = ap (λ ys. length (T.items_list (T.items_of ys))) (sym same) ∙ ap suc rest.count;
      }

  pub tuple_is_made : (s : Slot) (sd : StructDef) (os : Optionals) → form_of rows s ≡ Some (D.Struct sd) → sd.form ≡ S.Tuple
      → (t : List ℕ) → made (whole hash) rows s (V.struct os) ≡ Some t → counted 4 (count_present (optionals_list os)) (tuple_made (whole hash) rows sd.fields (optionals_list os)) ≡ Some t
  tuple_is_made s sd os is form t e =
      let m = form_from s sd S.Tuple os is form t e in
      by m.items m.there (tuple_items sd.fields m.items) refl m.made_is
    where
      by : (ds : List (Option Data)) → represented_fields (whole hash) rows sd.fields os ≡ Some ds → (o : Option (List Data)) → tuple_items sd.fields ds ≡ o → option_map spell (option_map (λ xs. T.list (T.items_of xs)) o) ≡ Some t
          → counted 4 (count_present (optionals_list os)) (tuple_made (whole hash) rows sd.fields (optionals_list os)) ≡ Some t
      by ds there None h g = absurd (none-some t g)
      by ds there (Some xs) h g =
          let r = items_are_made sd.fields os ds xs there h in
          ap (counted 4 (count_present (optionals_list os))) r.bytes ∙ ap (λ n. Some (head 4 n ++ spell_items (T.items_of xs))) (sym r.count) ∙ g
