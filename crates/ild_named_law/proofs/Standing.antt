-- Two such tables: a value of one of these types has the same data and the same blocks by both.
use Rattle.std.proofs.Common.{◌≡◌, ℕ, ◌<◌, List, [], ◌∷◌, ◌++◌, Option, Some, None, refl, ap, ap₂, ◌∙◌}
use Rattle.std.specs.Prelude.{option_map, option_and_then}
use Rattle.std.specs.List.{AllByRecursion}
use Rattle.std.specs.Option.{option_map_or}
use Rattle.ild_schema.specs.declared.number.Slot.{Slot}
use Rattle.ild_schema.specs.declared.def.Field.{Field}
use Rattle.ild_schema.specs.declared.row.Row.{Row}
use Rattle.ild_schema.specs.Slots.{form_of}
use Rattle.ild_schema.specs.Value as V
use Rattle.ild_schema.specs.Value.{Value, Values, Pairs, Optionals}
use Rattle.ild_typed.specs.Blocks.{hamt_nodes, nodes, nodes_of_values, nodes_of_pairs, nodes_of_fields}
use Rattle.ild_typed.specs.Composed.{Hamts}
use Rattle.ild_typed.specs.Hamt.{whole}
use Rattle.ild_typed.specs.Layer as L
use Rattle.ild_typed.specs.Represented.{layered, represented, represented_values, represented_pairs, represented_fields}
use Rattle.ild_typed.specs.Slots.{element_of, fields_of, member_of}
use Rattle.ild_typed.specs.Strings.{cons_both}
use Rattle.ild_named_law.proofs.Alike.{AreAlike, low_form, low_element, low_fields, low_member}

pub then_same : {X Y : Type 0} (o : Option X) (f g : X → Option Y) → ((x : X) → o ≡ Some x → f x ≡ g x) → option_and_then f o ≡ option_and_then g o
then_same None f g h = refl
then_same (Some x) f g h = h x refl

pub or_same : {X Y : Type 0} (o : Option X) (f g : X → Y) (d : Y) → ((x : X) → o ≡ Some x → f x ≡ g x) → option_map_or f o d ≡ option_map_or g o d
or_same None f g d h = refl
or_same (Some x) f g d h = h x refl

module _ (count : ℕ) (others rows : List Row) (alike : AreAlike count others rows) where
  pub form_same : (s : Slot) → s.ty.0 < count → form_of others s ≡ form_of rows s
  form_same s low = alike.same s.ty.0 low

  pub element_low : (s : Slot) (u : Slot) → s.ty.0 < count → element_of (form_of rows s) ≡ Some u → u.ty.0 < count
  element_low s u low e = low_element count (form_of rows s) u (low_form count others rows alike s low) e

  module _ (at : Hamts) where
    mutual
      pub tree_same : (s : Slot) (v : Value) → s.ty.0 < count → represented at others s v ≡ represented at rows s v
      tree_same s V.null low = refl
      tree_same s (V.boolean b) low = ap (λ o. layered at o (Some (L.boolean b))) (form_same s low)
      tree_same s (V.integer n) low = ap (λ o. layered at o (Some (L.integer n))) (form_same s low)
      tree_same s (V.text t) low = ap (λ o. layered at o (Some (L.text t))) (form_same s low)
      tree_same s (V.bytes t) low = ap (λ o. layered at o (Some (L.bytes t))) (form_same s low)
      tree_same s (V.link t) low = ap (λ o. layered at o (Some (L.link t))) (form_same s low)
      tree_same s (V.any d) low = ap (λ o. layered at o (Some (L.any d))) (form_same s low)
      tree_same s V.unit low = ap (λ o. layered at o (Some L.unit)) (form_same s low)
      tree_same s (V.enum n) low = ap (λ o. layered at o (Some (L.enum n))) (form_same s low)
      tree_same s (V.hamt d) low = ap (λ o. layered at o (Some (L.hamt d))) (form_same s low)
      tree_same s (V.list vs) low =
          ap (λ o. layered at o (option_map L.list (option_and_then (λ u. represented_values at others u vs) (element_of o)))) (form_same s low)
          ∙ ap (λ x. layered at (form_of rows s) (option_map L.list x))
          (then_same (element_of (form_of rows s)) (λ u. represented_values at others u vs) (λ u. represented_values at rows u vs) (λ u e. values_same u vs (element_low s u low e)))
      tree_same s (V.map ps) low =
          ap (λ o. layered at o (option_map L.map (option_and_then (λ u. represented_pairs at others u ps) (element_of o)))) (form_same s low)
          ∙ ap (λ x. layered at (form_of rows s) (option_map L.map x))
          (then_same (element_of (form_of rows s)) (λ u. represented_pairs at others u ps) (λ u. represented_pairs at rows u ps) (λ u e. pairs_same u ps (element_low s u low e)))
      tree_same s (V.struct os) low =
          ap (λ o. layered at o (option_map L.struct (represented_fields at others (fields_of o) os))) (form_same s low)
          ∙ ap (λ x. layered at (form_of rows s) (option_map L.struct x)) (fields_same (fields_of (form_of rows s)) os (low_fields count (form_of rows s) (low_form count others rows alike s low)))
      tree_same s (V.union n v) low =
          ap (λ o. layered at o (option_map (L.union n) (option_and_then (λ u. represented at others u v) (member_of o n)))) (form_same s low)
          ∙ ap (λ x. layered at (form_of rows s) (option_map (L.union n) x))
          (then_same (member_of (form_of rows s) n) (λ u. represented at others u v) (λ u. represented at rows u v)
          (λ u e. tree_same u v (low_member count (form_of rows s) n u (low_form count others rows alike s low) e)))

      values_same : (s : Slot) (vs : Values) → s.ty.0 < count → represented_values at others s vs ≡ represented_values at rows s vs
      values_same s V.no_values low = refl
      values_same s (V.value v vs) low = ap₂ (λ a b. cons_both a b) (tree_same s v low) (values_same s vs low)

      pub pairs_same : (s : Slot) (ps : Pairs) → s.ty.0 < count → represented_pairs at others s ps ≡ represented_pairs at rows s ps
      pairs_same s V.no_pairs low = refl
      pairs_same s (V.pair k v ps) low = ap₂ (λ a b. cons_both (option_map (λ d. (k, d)) a) b) (tree_same s v low) (pairs_same s ps low)

      pub fields_same : (fs : List Field) (os : Optionals) → AllByRecursion (λ (f : Field). f.slot.ty.0 < count) fs → represented_fields at others fs os ≡ represented_fields at rows fs os
      fields_same fs V.no_optionals low = refl
      fields_same [] (V.absent os) low = refl
      fields_same [] (V.present v os) low = refl
      fields_same (f ∷ fs) (V.absent os) low = ap (λ o. option_map (λ ds. None ∷ ds) o) (fields_same fs os low.1)
      fields_same (f ∷ fs) (V.present v os) low = ap₂ (λ a b. cons_both (option_map Some a) b) (tree_same f.slot v low.0) (fields_same fs os low.1)

  module _ (h : List ℕ → List ℕ) where
    mutual
      pub nodes_same : (s : Slot) (v : Value) → s.ty.0 < count → nodes h others s v ≡ nodes h rows s v
      nodes_same s (V.list vs) low =
          ap (λ o. option_map_or (λ u. nodes_of_values h others u vs) (element_of o) []) (form_same s low)
          ∙ or_same (element_of (form_of rows s)) (λ u. nodes_of_values h others u vs) (λ u. nodes_of_values h rows u vs) [] (λ u e. value_nodes_same u vs (element_low s u low e))
      nodes_same s (V.map ps) low =
          ap (λ o. option_map_or (λ u. hamt_nodes h o (represented_pairs (whole h) others u ps) ++ nodes_of_pairs h others u ps) (element_of o) []) (form_same s low)
          ∙ or_same (element_of (form_of rows s)) (λ u. hamt_nodes h (form_of rows s) (represented_pairs (whole h) others u ps) ++ nodes_of_pairs h others u ps)
          (λ u. hamt_nodes h (form_of rows s) (represented_pairs (whole h) rows u ps) ++ nodes_of_pairs h rows u ps) []
          (λ u e. ap₂ (λ es ns. hamt_nodes h (form_of rows s) es ++ ns) (pairs_same (whole h) u ps (element_low s u low e)) (pair_nodes_same u ps (element_low s u low e)))
      nodes_same s (V.struct os) low =
          ap (λ o. nodes_of_fields h others (fields_of o) os) (form_same s low)
          ∙ field_nodes_same (fields_of (form_of rows s)) os (low_fields count (form_of rows s) (low_form count others rows alike s low))
      nodes_same s (V.union n v) low =
          ap (λ o. option_map_or (λ u. nodes h others u v) (member_of o n) []) (form_same s low)
          ∙ or_same (member_of (form_of rows s) n) (λ u. nodes h others u v) (λ u. nodes h rows u v) []
          (λ u e. nodes_same u v (low_member count (form_of rows s) n u (low_form count others rows alike s low) e))
      nodes_same s v low = refl

      value_nodes_same : (s : Slot) (vs : Values) → s.ty.0 < count → nodes_of_values h others s vs ≡ nodes_of_values h rows s vs
      value_nodes_same s V.no_values low = refl
      value_nodes_same s (V.value v vs) low = ap₂ (λ a b. a ++ b) (nodes_same s v low) (value_nodes_same s vs low)

      pair_nodes_same : (s : Slot) (ps : Pairs) → s.ty.0 < count → nodes_of_pairs h others s ps ≡ nodes_of_pairs h rows s ps
      pair_nodes_same s V.no_pairs low = refl
      pair_nodes_same s (V.pair k v ps) low = ap₂ (λ a b. a ++ b) (nodes_same s v low) (pair_nodes_same s ps low)

      field_nodes_same : (fs : List Field) (os : Optionals) → AllByRecursion (λ (f : Field). f.slot.ty.0 < count) fs → nodes_of_fields h others fs os ≡ nodes_of_fields h rows fs os
      field_nodes_same fs V.no_optionals low = refl
      field_nodes_same [] (V.absent os) low = refl
      field_nodes_same [] (V.present v os) low = refl
      field_nodes_same (f ∷ fs) (V.absent os) low = field_nodes_same fs os low.1
      field_nodes_same (f ∷ fs) (V.present v os) low = ap₂ (λ a b. a ++ b) (nodes_same f.slot v low.0) (field_nodes_same fs os low.1)
