-- The spelling of a layer's representation, by the form of its type.
use Rattle.std.proofs.Common.{◌≡◌, ℕ, suc, List, [], ◌∷◌, ◌++◌, length, map, true, false, Option, Some, None, option_map, refl, sym, ap, ◌∙◌, append_assoc, append-nil}
use Rattle.std.specs.Prelude.{option_and_then}
use Rattle.std.proofs.lemmas.Option.{same_Some, none-some}
use Rattle.ild_data.specs.Data as T
use Rattle.ild_data.specs.Data.{Data}
use Rattle.ild_data.specs.Spell.{head, spell, spell_text, spell_items, spell_members}
use Rattle.ild_schema.specs.declared.number.Slot.{Slot}
use Rattle.ild_schema.specs.declared.number.TypeNo.{TypeNo}
use Rattle.ild_schema.specs.declared.def.TypeDef.{TypeDef}
use Rattle.ild_schema.specs.declared.def.TypeDef.TheVariants as D
use Rattle.ild_schema.specs.declared.def.MapForm.{MapForm}
use Rattle.ild_schema.specs.declared.def.MapForm.TheVariants as MF
use Rattle.ild_schema.specs.declared.row.Row.{Row}
use Rattle.ild_schema.specs.Slots.{form_of}
use Rattle.ild_schema.specs.Value as V
use Rattle.ild_schema.specs.Value.{Value, Values, Pairs, Optionals, values_list, pairs_list, optionals_list}
use Rattle.ild_data.specs.Trie.{trie}
use Rattle.ild_data.specs.declared.hamt_shape.HamtShape.{HamtShape}
use Rattle.ild_typed.specs.Composed.{composed}
use Rattle.ild_typed.specs.Hamt.{root_map, whole}
use Rattle.ild_typed.specs.Layer as L
use Rattle.ild_typed.specs.Layer.{Layer}
use Rattle.ild_typed.specs.Represented.{represented, represented_values, represented_pairs, layered}
use Rattle.ild_typed.specs.Slots.{element_of}
use Rattle.ild_typed.specs.Strings.{pair_data}
use Rattle.ild_typed.proofs.Basics.{map_from}
use Rattle.ild_typed.proofs.Entries.{both_from}
use Rattle.ild_build_pass.specs.Weights.{hamt_made}
use Rattle.ild_build_leaf.specs.Made.{made}
use Rattle.ild_build_pass.specs.inside.Made.{both, counted, items_made, entries_made}

module _ (hash : List ℕ → List ℕ) (rows : List Row) where
  -- ---- lists

  abbrev list_in : Option TypeDef → Values → Option (List ℕ)
  list_in o vs = option_map spell (layered (whole hash) o (option_map L.list (option_and_then (λ u. represented_values (whole hash) rows u vs) (element_of o))))

  record ItemsMade (u : Slot) (vs : Values) (ds : List Data) : Type 0 where
    bytes : items_made (whole hash) rows u (values_list vs) ≡ Some (spell_items (T.items_of ds))
    count : length (T.items_list (T.items_of ds)) ≡ length (values_list vs)

  values_made : (u : Slot) (vs : Values) (ds : List Data) → represented_values (whole hash) rows u vs ≡ Some ds → ItemsMade u vs ds
  values_made u V.no_values ds e =
      let none = same_Some {A = List Data} [] ds e in
      record { bytes = ap (λ xs. Some (spell_items (T.items_of xs))) none; count = ap (λ xs. length (T.items_list (T.items_of xs))) (sym none) }
  values_made u (V.value v vs) ds e =
      let b = both_from (represented (whole hash) rows u v) (represented_values (whole hash) rows u vs) ds e in
      let rest = values_made u vs b.items b.rest in
      record {
        bytes = ap (λ o. both (option_map spell o) (items_made (whole hash) rows u (values_list vs))) b.first ∙ ap (both (Some (spell b.item))) rest.bytes ∙ ap (λ xs. Some (spell_items (T.items_of xs))) b.all;
        count = ap (λ xs. length (T.items_list (T.items_of xs))) (sym b.all) ∙ ap suc rest.count;
      }

  pub list_made : (s elem : Slot) (at : ℕ) (vs : Values) → form_of rows s ≡ Some (D.List elem at) → (t : List ℕ) → made (whole hash) rows s (V.list vs) ≡ Some t → counted 4 (length (values_list vs)) (items_made (whole hash) rows elem (values_list vs)) ≡ Some t
  list_made s elem at vs is t e = by (represented_values (whole hash) rows elem vs) refl (sym (ap (λ o. list_in o vs) is) ∙ e)
    where
      by : (o : Option (List Data)) → represented_values (whole hash) rows elem vs ≡ o → option_map spell (option_and_then (composed (whole hash) (D.List elem at)) (option_map L.list o)) ≡ Some t
          → counted 4 (length (values_list vs)) (items_made (whole hash) rows elem (values_list vs)) ≡ Some t
      by None there h = absurd (none-some t h)
      by (Some ds) there h =
          let m = values_made elem vs ds there in
          ap (counted 4 (length (values_list vs))) m.bytes ∙ ap (λ n. Some (head 4 n ++ spell_items (T.items_of ds))) (sym m.count) ∙ h

  -- ---- maps

  abbrev map_in : Option TypeDef → Pairs → Option (List ℕ)
  map_in o ps = option_map spell (layered (whole hash) o (option_map L.map (option_and_then (λ u. represented_pairs (whole hash) rows u ps) (element_of o))))

  pub hamt_is_made : (s : Slot) (key : TypeNo) (key_at : ℕ) (value : Slot) (at : ℕ) (f : MapForm) (p : HamtShape) (ps : Pairs) → form_of rows s ≡ Some (D.Map key key_at value at f) → f ≡ MF.Hamt p
      → (t : List ℕ) → made (whole hash) rows s (V.map ps) ≡ Some t → hamt_made hash p rows value ps ≡ Some t
  hamt_is_made s key key_at value at f p ps is form t e = by (represented_pairs (whole hash) rows value ps) refl (sym (ap (λ o. map_in o ps) (is ∙ ap (λ g. Some (D.Map key key_at value at g)) form)) ∙ e)
    where
      by : (o : Option (List (List ℕ × Data))) → represented_pairs (whole hash) rows value ps ≡ o → option_map spell (option_and_then (composed (whole hash) (D.Map key key_at value at (MF.Hamt p))) (option_map L.map o)) ≡ Some t → hamt_made hash p rows value ps ≡ Some t
      by None there h = absurd (none-some t h)
      by (Some es) there h = ap (λ o. option_map spell (option_map (root_map p) (option_and_then (λ xs. trie hash p xs 0) o))) there ∙ h

  record EntriesMade (u : Slot) (ps : Pairs) (es : List (List ℕ × Data)) : Type 0 where
    members : entries_made (whole hash) rows false u (pairs_list ps) ≡ Some (spell_members (T.members_of es))
    pairs : entries_made (whole hash) rows true u (pairs_list ps) ≡ Some (spell_items (T.items_of (map pair_data es)))
    count : length (T.members_list (T.members_of es)) ≡ length (pairs_list ps)
    pair_count : length (T.items_list (T.items_of (map pair_data es))) ≡ length (pairs_list ps)

  pub pair_spelled : (k : List ℕ) (d : Data) → (head 4 2 ++ spell_text k) ++ spell d ≡ spell (pair_data (k, d))
  pair_spelled k d = append_assoc (head 4 2) (spell_text k) (spell d) ∙ ap (λ x. head 4 2 ++ (spell_text k ++ x)) (sym (append-nil (spell d)))

  pairs_made : (u : Slot) (ps : Pairs) (es : List (List ℕ × Data)) → represented_pairs (whole hash) rows u ps ≡ Some es → EntriesMade u ps es
  pairs_made u V.no_pairs es e =
      let none = same_Some {A = List (List ℕ × Data)} [] es e in
      record {
        members = ap (λ xs. Some (spell_members (T.members_of xs))) none;
        pairs = ap (λ xs. Some (spell_items (T.items_of (map pair_data xs)))) none;
        count = ap (λ xs. length (T.members_list (T.members_of xs))) (sym none);
        pair_count = ap (λ xs. length (T.items_list (T.items_of (map pair_data xs)))) (sym none);
      }
  pairs_made u (V.pair k v ps) es e =
      let b = both_from (option_map {U = List ℕ × Data} (λ d. (k, d)) (represented (whole hash) rows u v)) (represented_pairs (whole hash) rows u ps) es e in
      let x = map_from {B = List ℕ × Data} (λ d. (k, d)) (represented (whole hash) rows u v) b.item b.first in
      let item : (k, x.item) ≡ b.item = same_Some {A = List ℕ × Data} (k, x.item) b.item x.made in
      let rest = pairs_made u ps b.items b.rest in
      let all : (k, x.item) ∷ b.items ≡ es = ap (λ q. q ∷ b.items) item ∙ b.all in
      record {
        members = ap (λ o. both (option_map (λ t. spell_text k ++ t) (option_map spell o)) (entries_made (whole hash) rows false u (pairs_list ps))) x.there
            ∙ ap (both (Some (spell_text k ++ spell x.item))) rest.members ∙ ap (λ xs. Some (spell_members (T.members_of xs))) all;
        pairs = ap (λ o. both (option_map (λ t. (head 4 2 ++ spell_text k) ++ t) (option_map spell o)) (entries_made (whole hash) rows true u (pairs_list ps))) x.there
            ∙ ap (both (Some ((head 4 2 ++ spell_text k) ++ spell x.item))) rest.pairs ∙ ap (λ y. Some (y ++ spell_items (T.items_of (map pair_data b.items)))) (pair_spelled k x.item)
            ∙ ap (λ xs. Some (spell_items (T.items_of (map pair_data xs)))) all;
        count = ap (λ xs. length (T.members_list (T.members_of xs))) (sym all) ∙ ap suc rest.count;
        pair_count = ap (λ xs. length (T.items_list (T.items_of (map pair_data xs)))) (sym all) ∙ ap suc rest.pair_count;
      }

  pub map_is_made : (s : Slot) (key : TypeNo) (key_at : ℕ) (value : Slot) (at : ℕ) (f : MapForm) (ps : Pairs) → form_of rows s ≡ Some (D.Map key key_at value at f) → f ≡ MF.Map
      → (t : List ℕ) → made (whole hash) rows s (V.map ps) ≡ Some t → counted 5 (length (pairs_list ps)) (entries_made (whole hash) rows false value (pairs_list ps)) ≡ Some t
  map_is_made s key key_at value at f ps is form t e = by (represented_pairs (whole hash) rows value ps) refl (sym (ap (λ o. map_in o ps) (is ∙ ap (λ g. Some (D.Map key key_at value at g)) form)) ∙ e)
    where
      by : (o : Option (List (List ℕ × Data))) → represented_pairs (whole hash) rows value ps ≡ o → option_map spell (option_and_then (composed (whole hash) (D.Map key key_at value at MF.Map)) (option_map L.map o)) ≡ Some t
          → counted 5 (length (pairs_list ps)) (entries_made (whole hash) rows false value (pairs_list ps)) ≡ Some t
      by None there h = absurd (none-some t h)
      by (Some es) there h =
          let m = pairs_made value ps es there in
          ap (counted 5 (length (pairs_list ps))) m.members ∙ ap (λ n. Some (head 5 n ++ spell_members (T.members_of es))) (sym m.count) ∙ h

  pub pairs_are_made : (s : Slot) (key : TypeNo) (key_at : ℕ) (value : Slot) (at : ℕ) (f : MapForm) (ps : Pairs) → form_of rows s ≡ Some (D.Map key key_at value at f) → f ≡ MF.ListPairs
      → (t : List ℕ) → made (whole hash) rows s (V.map ps) ≡ Some t → counted 4 (length (pairs_list ps)) (entries_made (whole hash) rows true value (pairs_list ps)) ≡ Some t
  pairs_are_made s key key_at value at f ps is form t e = by (represented_pairs (whole hash) rows value ps) refl (sym (ap (λ o. map_in o ps) (is ∙ ap (λ g. Some (D.Map key key_at value at g)) form)) ∙ e)
    where
      by : (o : Option (List (List ℕ × Data))) → represented_pairs (whole hash) rows value ps ≡ o → option_map spell (option_and_then (composed (whole hash) (D.Map key key_at value at MF.ListPairs)) (option_map L.map o)) ≡ Some t
          → counted 4 (length (pairs_list ps)) (entries_made (whole hash) rows true value (pairs_list ps)) ≡ Some t
      by None there h = absurd (none-some t h)
      by (Some es) there h =
          let m = pairs_made value ps es there in
          ap (counted 4 (length (pairs_list ps))) m.pairs ∙ ap (λ n. Some (head 4 n ++ spell_items (T.items_of (map pair_data es)))) (sym m.pair_count) ∙ h
