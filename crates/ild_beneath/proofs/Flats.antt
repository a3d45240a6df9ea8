-- A value whose data are neither list nor map has no places: no HAMT is in it.
use Rattle.std.proofs.Common.{◌≡◌, ℕ, List, [], ◌∷◌, true, false, Option, Some, None, option_map, refl, sym, ◌∙◌, ap, subst}
use Rattle.std.specs.Prelude.{option_and_then}
use Rattle.std.specs.List.{AllByRecursion}
use Rattle.std.specs.Option.{option_map_or}
use Rattle.std.proofs.lemmas.Option.{same_Some, none-some}
use Rattle.ild_data.specs.Data as T
use Rattle.ild_data.specs.Data.{Data}
use Rattle.ild_data.specs.Trie.{trie}
use Rattle.ild_data.specs.declared.hamt_shape.HamtShape.{HamtShape}
use Rattle.ild_schema.specs.declared.number.Slot.{Slot}
use Rattle.ild_schema.specs.declared.def.TypeDef.{TypeDef}
use Rattle.ild_schema.specs.declared.def.TypeDef.TheVariants as D
use Rattle.ild_schema.specs.declared.def.MapForm.TheVariants as MF
use Rattle.ild_schema.specs.declared.def.Field.{Field}
use Rattle.ild_schema.specs.declared.row.Row.{Row}
use Rattle.ild_schema.specs.Slots.{form_of}
use Rattle.ild_schema.specs.Value as V
use Rattle.ild_schema.specs.Value.{Value, Values, Pairs, Optionals}
use Rattle.ild_typed.specs.Composed.{Hamts, composed}
use Rattle.ild_typed.specs.Hamt.{root_map, whole}
use Rattle.ild_typed.specs.Layer as L
use Rattle.ild_typed.specs.Layer.{Layer, as_map}
use Rattle.ild_typed.specs.Represented.{layered, represented, represented_values, represented_pairs, represented_fields}
use Rattle.ild_typed.specs.Slots.{element_of, fields_of, member_of}
use Rattle.ild_typed.proofs.Basics.{then_from, map_from}
use Rattle.ild_typed.proofs.Entries.{both_from}
use Rattle.ild_typed.proofs.Flat.{IsFlat, flat_same}
use Rattle.ild_typed_places.specs.Places.{Places, nowhere, joined, places_over, map_places, places_in, places_in_values, places_in_pairs, places_in_fields}
use Rattle.ild_beneath.specs.Parts.{is_flat}

-- ---- the layer of a value

pub record Layered (at : Hamts) (o : Option TypeDef) (p : Option (Layer Data)) (t : Data) : Type 0 where
  pub type : TypeDef
  pub layer : Layer Data
  pub form : o ≡ Some type
  pub there : p ≡ Some layer
  pub made : composed at type layer ≡ Some t

pub layer_there : (at : Hamts) (o : Option TypeDef) (p : Option (Layer Data)) (t : Data) → layered at o p ≡ Some t → Layered at o p t
layer_there at None p t e = absurd (none-some t e)
layer_there at (Some d) p t e = let x = then_from (composed at d) p t e in record { type = d; layer = x.item; form = refl; there = x.there; made = x.made }

-- ---- places beside one another

pub none_over : (ts : List (List ℕ × Places)) → AllByRecursion (λ t. t.1 ≡ nowhere) ts → places_over (λ t. t.1) ts ≡ nowhere
none_over [] all = refl
none_over (t ∷ ts) all = ap (λ q. joined q (places_over (λ t. t.1) ts)) all.0 ∙ none_over ts all.1

none_in : (o : Option Slot) (ps : Slot → Places) → ((u : Slot) → o ≡ Some u → ps u ≡ nowhere) → option_map_or ps o nowhere ≡ nowhere
none_in None ps f = refl
none_in (Some u) ps f = f u refl

-- ---- values in which a map is never represented as a HAMT

abbrev never : Hamts
never p l = None

not_hamt : (h : List ℕ → List ℕ) (d : TypeDef) (es : List (List ℕ × Data)) (t : Data) (o : Option (List (List ℕ × Data))) (ts : List (List ℕ × Places)) → composed never d (L.map es) ≡ Some t
    → map_places h (Some d) o ts ≡ places_over (λ p. p.1) ts
not_hamt h (D.Map key key_at value at (MF.Hamt p)) es t o ts e = absurd (none-some t e)
not_hamt h (D.Map key key_at value at MF.Map) es t o ts e = refl
not_hamt h (D.Map key key_at value at MF.ListPairs) es t o ts e = refl
not_hamt h (D.Map key key_at value at (MF.StringPairs i k)) es t o ts e = refl
not_hamt h d es t o ts e = refl

-- ---- the test of data

pub flat_is : (t : Data) → is_flat t ≡ true → IsFlat t
flat_is (T.list ds) e = let k : false ≡ true = e in absurd cc
flat_is (T.map ms) e = let k : false ≡ true = e in absurd cc
flat_is t e = tt

pub is_flat_too : (t : Data) → IsFlat t → is_flat t ≡ true
is_flat_too (T.list ds) e = absurd e
is_flat_too (T.map ms) e = absurd e
is_flat_too t e = refl

pub not_flat : (t : Data) → is_flat t ≡ false → IsFlat t → ⊥
not_flat (T.list ds) e flat = flat
not_flat (T.map ms) e flat = flat
not_flat t e flat = let k : true ≡ false = e in absurd cc

-- ---- places of values

module _ (h : List ℕ → List ℕ) (rows : List Row) where
  mutual
    none_there : (s : Slot) (v : Value) (t : Data) → represented never rows s v ≡ Some t → places_in h rows s v ≡ nowhere
    none_there s (V.list vs) t e =
        let x = layer_there never (form_of rows s) (option_map L.list (option_and_then (λ u. represented_values never rows u vs) (element_of (form_of rows s)))) t e in
        let y = map_from L.list (option_and_then (λ u. represented_values never rows u vs) (element_of (form_of rows s))) x.layer x.there in
        let z = then_from (λ u. represented_values never rows u vs) (element_of (form_of rows s)) y.item y.there in
        ap (λ o. option_map_or (λ u. places_in_values h rows u vs) o nowhere) z.there ∙ none_values z.item vs y.item z.made
    none_there s (V.map ps) t e =
        let x = layer_there never (form_of rows s) (option_map L.map (option_and_then (λ u. represented_pairs never rows u ps) (element_of (form_of rows s)))) t e in
        let y = map_from L.map (option_and_then (λ u. represented_pairs never rows u ps) (element_of (form_of rows s))) x.layer x.there in
        let z = then_from (λ u. represented_pairs never rows u ps) (element_of (form_of rows s)) y.item y.there in
        let es = represented_pairs (whole h) rows z.item ps in
        let qs = places_in_pairs h rows z.item ps in
        ap (λ o. option_map_or (λ u. map_places h (form_of rows s) (represented_pairs (whole h) rows u ps) (places_in_pairs h rows u ps)) o nowhere) z.there
        ∙ ap (λ o. map_places h o es qs) x.form
        ∙ not_hamt h x.type y.item t es qs (ap (composed never x.type) (same_Some (L.map y.item) x.layer y.made) ∙ x.made)
        ∙ none_over qs (none_pairs z.item ps y.item z.made)
    none_there s (V.struct os) t e =
        let x = layer_there never (form_of rows s) (option_map L.struct (represented_fields never rows (fields_of (form_of rows s)) os)) t e in
        let y = map_from L.struct (represented_fields never rows (fields_of (form_of rows s)) os) x.layer x.there in
        none_fields (fields_of (form_of rows s)) os y.item y.there
    none_there s (V.union n v) t e =
        let x = layer_there never (form_of rows s) (option_map (L.union n) (option_and_then (λ u. represented never rows u v) (member_of (form_of rows s) n))) t e in
        let y = map_from (L.union n) (option_and_then (λ u. represented never rows u v) (member_of (form_of rows s) n)) x.layer x.there in
        let z = then_from (λ u. represented never rows u v) (member_of (form_of rows s) n) y.item y.there in
        ap (λ o. option_map_or (λ u. places_in h rows u v) o nowhere) z.there ∙ none_there z.item v y.item z.made
    none_there s v t e = refl

    none_values : (u : Slot) (vs : Values) (ds : List Data) → represented_values never rows u vs ≡ Some ds → places_in_values h rows u vs ≡ nowhere
    none_values u V.no_values ds e = refl
    none_values u (V.value v vs) ds e =
        let b = both_from (represented never rows u v) (represented_values never rows u vs) ds e in
        ap (λ q. joined q (places_in_values h rows u vs)) (none_there u v b.item b.first) ∙ none_values u vs b.items b.rest

    none_pairs : (u : Slot) (ps : Pairs) (es : List (List ℕ × Data)) → represented_pairs never rows u ps ≡ Some es → AllByRecursion (λ t. t.1 ≡ nowhere) (places_in_pairs h rows u ps)
    none_pairs u V.no_pairs es e = tt
    none_pairs u (V.pair k v ps) es e =
        let b = both_from (option_map {U = List ℕ × Data} (λ d. (k, d)) (represented never rows u v)) (represented_pairs never rows u ps) es e in
        let x = map_from {B = List ℕ × Data} (λ d. (k, d)) (represented never rows u v) b.item b.first in
        (none_there u v x.item x.there, none_pairs u ps b.items b.rest)

    none_fields : (fs : List Field) (os : Optionals) (ds : List (Option Data)) → represented_fields never rows fs os ≡ Some ds → places_in_fields h rows fs os ≡ nowhere
    none_fields fs V.no_optionals ds e = refl
    none_fields [] (V.absent os) ds e = refl
    none_fields [] (V.present v os) ds e = refl
    none_fields (f ∷ fs) (V.absent os) ds e =
        let b = map_from (λ xs. None ∷ xs) (represented_fields never rows fs os) ds e in
        none_fields fs os b.item b.there
    none_fields (f ∷ fs) (V.present v os) ds e =
        let b = both_from (option_map Some (represented never rows f.slot v)) (represented_fields never rows fs os) ds e in
        let x = map_from Some (represented never rows f.slot v) b.item b.first in
        ap (λ q. joined q (places_in_fields h rows fs os)) (none_there f.slot v x.item x.there) ∙ none_fields fs os b.items b.rest

  whole_not_flat : (p : HamtShape) (l : Layer Data) (t : Data) → whole h p l ≡ Some t → IsFlat t → ⊥
  whole_not_flat p l t e flat = let x = map_from (root_map p) (option_and_then (λ es. trie h p es 0) (as_map l)) t e in subst IsFlat (sym (same_Some (root_map p x.item) t x.made)) flat

  pub flat_nowhere : (s : Slot) (v : Value) (t : Data) → represented (whole h) rows s v ≡ Some t → IsFlat t → places_in h rows s v ≡ nowhere
  flat_nowhere s v t e flat = none_there s v t (flat_same (whole h) never (λ p l c k f. whole_not_flat p l c k f) rows s v t e flat)
