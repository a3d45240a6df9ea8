-- Values of parts, and the lists of values that wholes have of them.
use Rattle.std.proofs.Common.{◌≡◌, ℕ, ◌+◌, List, [], ◌∷◌, length, length-append, Option, Some, None, option_map, IsUtf8, refl, ◌∙◌, ap, subst}
use Rattle.std.specs.Prelude.{IsTrue}
use Rattle.std.specs.List.{AllByRecursion}
use Rattle.std.proofs.lemmas.Option.{same_Some}
use Rattle.ild_data.proofs.AllOf.{all_append, all_split}
use Rattle.ild_data.specs.Data as T
use Rattle.ild_data.specs.Data.{Data}
use Rattle.ild_schema.specs.declared.number.Slot.{Slot}
use Rattle.ild_schema.specs.declared.number.TypeNo.{TypeNo}
use Rattle.ild_schema.specs.declared.def.Field.{Field}
use Rattle.ild_schema.specs.declared.row.Row.{Row}
use Rattle.ild_schema.specs.Slots.{plainly}
use Rattle.ild_schema.specs.Value as V
use Rattle.ild_schema.specs.Value.{Value, Values, Pairs, Optionals, values_of, values_list, pairs_of, pairs_list, optionals_of, optionals_list}
use Rattle.ild_typed.specs.Blocks.{nodes, nodes_of_values, nodes_of_pairs, nodes_of_fields}
use Rattle.ild_typed.specs.Fits.{Fits}
use Rattle.ild_typed.specs.Hamt.{whole}
use Rattle.ild_typed.specs.Layers.{FieldsFit, RepresentsSome}
use Rattle.ild_typed.specs.Represented.{represented, represented_values, represented_pairs, represented_fields}
use Rattle.ild_typed.specs.Strings.{cons_both}
use Rattle.ild_typed.proofs.Basics.{map_from}
use Rattle.ild_typed.proofs.Entries.{both_from}
use Rattle.ild_typed.proofs.ViewMaps.{SameKeys}
use Rattle.ild_open_held.specs.Held.{IsHeldBlock}
use Rattle.ild_open_held.specs.Splits.{PartsHaveValues, element_parts, entry_parts, entry_values, field_parts, field_values, nodes_in}

module _ (block : List ℕ → Option (List ℕ)) (h : List ℕ → List ℕ) (rows : List Row) (room : ℕ) where
  abbrev pub Held : List ℕ → Type 0
  Held = IsHeldBlock block

  abbrev pub Are : List (Slot × Data) → List Value → Type 0
  Are ps vs = PartsHaveValues block h rows room ps vs

  -- ---- elements

  pub record ValuesUp (u : Slot) (ds : List Data) (vs : List Value) : Type 0 where
    pub fit : AllByRecursion (Fits rows room u) vs
    pub there : represented_values (whole h) rows u (values_of vs) ≡ Some ds
    pub held : AllByRecursion Held (nodes_of_values h rows u (values_of vs))

  pub values_up : (u : Slot) (ds : List Data) (vs : List Value) → Are (element_parts u ds) vs → ValuesUp u ds vs
  values_up u [] [] all = record { fit = tt; there = refl; held = tt }
  values_up u [] (v ∷ vs) all = absurd all
  values_up u (d ∷ ds) [] all = absurd all
  values_up u (d ∷ ds) (v ∷ vs) all =
      let rest = values_up u ds vs all.1 in
      record {
        fit = (all.0.fits, rest.fit);
        there = ap (λ o. cons_both o (represented_values (whole h) rows u (values_of vs))) all.0.tree ∙ ap (cons_both (Some d)) rest.there;
        held = all_append Held (nodes h rows u v) (nodes_of_values h rows u (values_of vs)) all.0.held rest.held;
      }

  pub record ValuesBack (u : Slot) (ds : List Data) (vs : Values) : Type 0 where
    pub held : Are (element_parts u ds) (values_list vs)
    pub many : length (nodes_of_values h rows u vs) ≡ nodes_in h rows (element_parts u ds) (values_list vs)

  pub values_back : (u : Slot) (vs : Values) (ds : List Data) → AllByRecursion (Fits rows room u) (values_list vs) → represented_values (whole h) rows u vs ≡ Some ds
      → AllByRecursion Held (nodes_of_values h rows u vs) → ValuesBack u ds vs
  values_back u V.no_values ds fit e all = subst (λ xs. ValuesBack u xs V.no_values) (same_Some [] ds e) (record { held = tt; many = refl })
  values_back u (V.value v vs) ds fit e all =
      let b = both_from (represented (whole h) rows u v) (represented_values (whole h) rows u vs) ds e in
      let x = all_split Held (nodes h rows u v) (nodes_of_values h rows u vs) all in
      let rest = values_back u vs b.items fit.1 b.rest x.1 in
      subst (λ xs. ValuesBack u xs (V.value v vs)) b.all (record {
        held = (record { fits = fit.0; tree = b.first; held = x.0 }, rest.held);
        many = length-append (nodes h rows u v) (nodes_of_values h rows u vs) ∙ ap (λ n. length (nodes h rows u v) + n) rest.many;
      })

  -- ---- entries

  abbrev pub KeyFits : TypeNo → List ℕ × Data → Type 0
  KeyFits key e = IsUtf8 e.0 × RepresentsSome (Fits rows room) rows (plainly key) (T.text e.0)

  abbrev pub EntryFits : TypeNo → Slot → List ℕ × Value → Type 0
  EntryFits key u p = IsUtf8 p.0 × RepresentsSome (Fits rows room) rows (plainly key) (T.text p.0) × Fits rows room u p.1

  pub record PairsUp (key : TypeNo) (u : Slot) (es : List (List ℕ × Data)) (vs : List Value) : Type 0 where
    pub fit : AllByRecursion (EntryFits key u) (entry_values es vs)
    pub same : SameKeys es (entry_values es vs)
    pub there : represented_pairs (whole h) rows u (pairs_of (entry_values es vs)) ≡ Some es
    pub held : AllByRecursion Held (nodes_of_pairs h rows u (pairs_of (entry_values es vs)))

  pub pairs_up : (key : TypeNo) (u : Slot) (es : List (List ℕ × Data)) (vs : List Value) → AllByRecursion (KeyFits key) es → Are (entry_parts u es) vs → PairsUp key u es vs
  pairs_up key u [] [] keys all = record { fit = tt; same = tt; there = refl; held = tt }
  pairs_up key u [] (v ∷ vs) keys all = absurd all
  pairs_up key u (e ∷ es) [] keys all = absurd all
  pairs_up key u (e ∷ es) (v ∷ vs) keys all =
      let rest = pairs_up key u es vs keys.1 all.1 in
      record {
        fit = ((keys.0.0, keys.0.1, all.0.fits), rest.fit);
        same = (refl, rest.same);
        there = ap (λ o. cons_both (option_map {U = List ℕ × Data} (λ c. (e.0, c)) o) (represented_pairs (whole h) rows u (pairs_of (entry_values es vs)))) all.0.tree ∙ ap (cons_both (Some e)) rest.there;
        held = all_append Held (nodes h rows u v) (nodes_of_pairs h rows u (pairs_of (entry_values es vs))) all.0.held rest.held;
      }

  pub record PairsBack (u : Slot) (es : List (List ℕ × Data)) (ps : Pairs) : Type 0 where
    pub values : List Value
    pub held : Are (entry_parts u es) values
    pub made : ps ≡ pairs_of (entry_values es values)
    pub many : length (nodes_of_pairs h rows u ps) ≡ nodes_in h rows (entry_parts u es) values

  pub pairs_back : (u : Slot) (ps : Pairs) (es : List (List ℕ × Data)) → AllByRecursion (λ p. Fits rows room u p.1) (pairs_list ps) → represented_pairs (whole h) rows u ps ≡ Some es
      → AllByRecursion Held (nodes_of_pairs h rows u ps) → PairsBack u es ps
  pairs_back u V.no_pairs es fit e all = subst (λ xs. PairsBack u xs V.no_pairs) (same_Some [] es e) (record { values = []; held = tt; made = refl; many = refl })
  pairs_back u (V.pair k v ps) es fit e all =
      let b = both_from (option_map {U = List ℕ × Data} (λ c. (k, c)) (represented (whole h) rows u v)) (represented_pairs (whole h) rows u ps) es e in
      let y = map_from {B = List ℕ × Data} (λ c. (k, c)) (represented (whole h) rows u v) b.item b.first in
      let x = all_split Held (nodes h rows u v) (nodes_of_pairs h rows u ps) all in
      let rest = pairs_back u ps b.items fit.1 b.rest x.1 in
      subst (λ xs. PairsBack u xs (V.pair k v ps)) (ap (λ p. p ∷ b.items) (same_Some (k, y.item) b.item y.made) ∙ b.all) (record {
        values = v ∷ rest.values;
        held = (record { fits = fit.0; tree = y.there; held = x.0 }, rest.held);
        made = ap (V.pair k v) rest.made;
        many = length-append (nodes h rows u v) (nodes_of_pairs h rows u ps) ∙ ap (λ n. length (nodes h rows u v) + n) rest.many;
      })

  -- ---- fields

  -- a field that is left out is optional
  abbrev pub Shape : List Field → List (Option Data) → Type 0
  Shape [] [] = Unit {0}
  Shape [] (o ∷ os) = ⊥
  Shape (f ∷ fs) [] = ⊥
  Shape (f ∷ fs) (Some d ∷ os) = Shape fs os
  Shape (f ∷ fs) (None ∷ os) = IsTrue f.optional × Shape fs os

  pub record FieldsUp (fs : List Field) (os : List (Option Data)) (vs : List Value) : Type 0 where
    pub fit : FieldsFit (Fits rows room) fs (field_values os vs)
    pub there : represented_fields (whole h) rows fs (optionals_of (field_values os vs)) ≡ Some os
    pub held : AllByRecursion Held (nodes_of_fields h rows fs (optionals_of (field_values os vs)))

  pub fields_up : (fs : List Field) (os : List (Option Data)) (vs : List Value) → Shape fs os → Are (field_parts fs os) vs → FieldsUp fs os vs
  fields_up [] [] vs shape all = record { fit = tt; there = refl; held = tt }
  fields_up [] (o ∷ os) vs shape all = absurd shape
  fields_up (f ∷ fs) [] vs shape all = absurd shape
  fields_up (f ∷ fs) (None ∷ os) vs shape all =
      let rest = fields_up fs os vs shape.1 all in
      record { fit = (shape.0, rest.fit); there = ap (option_map (λ xs. None ∷ xs)) rest.there; held = rest.held }
  fields_up (f ∷ fs) (Some d ∷ os) [] shape all = absurd all
  fields_up (f ∷ fs) (Some d ∷ os) (v ∷ vs) shape all =
      let rest = fields_up fs os vs shape all.1 in
      record {
        fit = (all.0.fits, rest.fit);
        there = ap (λ o. cons_both (option_map Some o) (represented_fields (whole h) rows fs (optionals_of (field_values os vs)))) all.0.tree ∙ ap (cons_both (Some (Some d))) rest.there;
        held = all_append Held (nodes h rows f.slot v) (nodes_of_fields h rows fs (optionals_of (field_values os vs))) all.0.held rest.held;
      }

  pub record FieldsBack (fs : List Field) (os : List (Option Data)) (ws : Optionals) : Type 0 where
    pub values : List Value
    pub held : Are (field_parts fs os) values
    pub made : ws ≡ optionals_of (field_values os values)
    pub many : length (nodes_of_fields h rows fs ws) ≡ nodes_in h rows (field_parts fs os) values

  pub fields_back : (fs : List Field) (ws : Optionals) (os : List (Option Data)) → FieldsFit (Fits rows room) fs (optionals_list ws) → represented_fields (whole h) rows fs ws ≡ Some os
      → AllByRecursion Held (nodes_of_fields h rows fs ws) → FieldsBack fs os ws
  fields_back [] V.no_optionals os fit e all = subst (λ xs. FieldsBack [] xs V.no_optionals) (same_Some [] os e) (record { values = []; held = tt; made = refl; many = refl })
  fields_back [] (V.absent ws) os fit e all = absurd fit
  fields_back [] (V.present v ws) os fit e all = absurd fit
  fields_back (f ∷ fs) V.no_optionals os fit e all = absurd fit
  fields_back (f ∷ fs) (V.absent ws) os fit e all =
      let b = map_from (λ xs. None ∷ xs) (represented_fields (whole h) rows fs ws) os e in
      let rest = fields_back fs ws b.item fit.1 b.there all in
      subst (λ xs. FieldsBack (f ∷ fs) xs (V.absent ws)) (same_Some (None ∷ b.item) os b.made) (record { values = rest.values; held = rest.held; made = ap V.absent rest.made; many = rest.many })
  fields_back (f ∷ fs) (V.present v ws) os fit e all =
      let b = both_from (option_map Some (represented (whole h) rows f.slot v)) (represented_fields (whole h) rows fs ws) os e in
      let y = map_from Some (represented (whole h) rows f.slot v) b.item b.first in
      let x = all_split Held (nodes h rows f.slot v) (nodes_of_fields h rows fs ws) all in
      let rest = fields_back fs ws b.items fit.1 b.rest x.1 in
      subst (λ xs. FieldsBack (f ∷ fs) xs (V.present v ws)) (ap (λ o. o ∷ b.items) (same_Some (Some y.item) b.item y.made) ∙ b.all) (record {
        values = v ∷ rest.values;
        held = (record { fits = fit.0; tree = y.there; held = x.0 }, rest.held);
        made = ap (V.present v) rest.made;
        many = length-append (nodes h rows f.slot v) (nodes_of_fields h rows fs ws) ∙ ap (λ n. length (nodes h rows f.slot v) + n) rest.many;
      })
