-- What the weights of a value say: its blocks, and whether a HAMT of it has no trie.
use Rattle.std.proofs.Common.{◌≡◌, ℕ, ◌+◌, Bool, true, false, cond, List, [], ◌∷◌, ◌++◌, Option, Some, None, is_some, is_none, option_map, refl, sym, ap, ◌∙◌, arith}
use Rattle.std.specs.List.{sum_by}
use Rattle.std.specs.Option.{option_map_or}
use Rattle.std.proofs.lemmas.List.Sums.{sum_by-append}
use Rattle.std.proofs.lemmas.Option.{same_Some, none-some}
use Rattle.std.proofs.lemmas.Bool.{or_from}
use Rattle.ild_data.specs.Data.{Data}
use Rattle.ild_data.specs.Trie.{trie}
use Rattle.ild_data.specs.declared.hamt_shape.HamtShape.{HamtShape}
use Rattle.ild_schema.specs.declared.number.Slot.{Slot}
use Rattle.ild_schema.specs.declared.number.TypeNo.{TypeNo}
use Rattle.ild_schema.specs.declared.def.TypeDef.{TypeDef}
use Rattle.ild_schema.specs.declared.def.TypeDef.TheVariants as D
use Rattle.ild_schema.specs.declared.def.MapForm.TheVariants as MF
use Rattle.ild_schema.specs.declared.def.Field.{Field}
use Rattle.ild_schema.specs.declared.row.Row.{Row}
use Rattle.ild_schema.specs.Slots.{form_of}
use Rattle.ild_schema.specs.Value as V
use Rattle.ild_schema.specs.Value.{Value, Values, Pairs, Optionals, pairs_list}
use Rattle.ild_typed.specs.Blocks.{hamt_nodes, nodes, nodes_of_values, nodes_of_pairs, nodes_of_fields}
use Rattle.ild_typed.specs.Composed.{composed}
use Rattle.ild_typed.specs.EachLayer.{some_layer, some_value, some_pair, some_field}
use Rattle.ild_typed.specs.Hamt.{root_map, whole}
use Rattle.ild_typed.specs.Judged.{exhausts, is_exhausted, map_exhausts}
use Rattle.ild_typed.specs.Layer as L
use Rattle.ild_typed.specs.Represented.{represented, represented_values, represented_pairs, represented_fields}
use Rattle.ild_typed.specs.Slots.{element_of, fields_of, member_of}
use Rattle.ild_typed.proofs.Basics.{map_from, then_from}
use Rattle.ild_typed.proofs.Entries.{both_from}
use Rattle.ild_typed.proofs.OneValue.{Way, as_null, as_layer, way_of}
use Rattle.ild_typed.proofs.PartData.{values_data, pairs_data, member_data}
use Rattle.ild_build_pass.specs.Weights.{Weight, beneath, beneath_of, bare_keys, crowded, hamt_weight, weigh, weigh_values, weigh_pairs, weigh_fields}
use Rattle.ild_build_pass.proofs.Crowds.{nulls_keys, trie_nulls}

-- ---- blocks

no_element : (μ : Weight) (o : Option TypeDef) (ps : Pairs) → element_of o ≡ None → hamt_weight μ o ps ≡ 0
no_element μ None ps e = refl
no_element μ (Some (D.Map key key_at value at form)) ps e = absurd (none-some value (sym e))
no_element μ (Some (D.List elem at)) ps e = refl
no_element μ (Some D.Bool) ps e = refl
no_element μ (Some D.Text) ps e = refl
no_element μ (Some D.Bytes) ps e = refl
no_element μ (Some D.Int) ps e = refl
no_element μ (Some D.Any) ps e = refl
no_element μ (Some (D.Link t)) ps e = refl
no_element μ (Some (D.Unit f)) ps e = refl
no_element μ (Some (D.Struct s)) ps e = refl
no_element μ (Some (D.Union u)) ps e = refl
no_element μ (Some (D.Enum a)) ps e = refl
no_element μ (Some (D.Copy t)) ps e = refl

module _ (h : List ℕ → List ℕ) (rows : List Row) (f : List ℕ → ℕ) where
  root_same : (key : TypeNo) (key_at : ℕ) (value : Slot) (at : ℕ) (p : HamtShape) (o : Option (List (List ℕ × Data))) → sum_by f (hamt_nodes h (Some (D.Map key key_at value at (MF.Hamt p))) o) ≡ sum_by f (beneath_of h p o)
  root_same key key_at value at p None = refl
  root_same key key_at value at p (Some es) = refl

  hamt_same : (o : Option TypeDef) (u : Slot) (ps : Pairs) → element_of o ≡ Some u → sum_by f (hamt_nodes h o (represented_pairs (whole h) rows u ps)) ≡ hamt_weight (beneath h rows f) o ps
  hamt_same None u ps e = refl
  hamt_same (Some (D.Map key key_at value at (MF.Hamt p))) u ps e =
      root_same key key_at value at p (represented_pairs (whole h) rows u ps) ∙ ap (λ s. sum_by f (beneath_of h p (represented_pairs (whole h) rows s ps))) (sym (same_Some value u e))
  hamt_same (Some (D.Map key key_at value at MF.Map)) u ps e = refl
  hamt_same (Some (D.Map key key_at value at MF.ListPairs)) u ps e = refl
  hamt_same (Some (D.Map key key_at value at (MF.StringPairs a b))) u ps e = refl
  hamt_same (Some (D.List elem at)) u ps e = refl
  hamt_same (Some D.Bool) u ps e = refl
  hamt_same (Some D.Text) u ps e = refl
  hamt_same (Some D.Bytes) u ps e = refl
  hamt_same (Some D.Int) u ps e = refl
  hamt_same (Some D.Any) u ps e = refl
  hamt_same (Some (D.Link t)) u ps e = refl
  hamt_same (Some (D.Unit g)) u ps e = refl
  hamt_same (Some (D.Struct s)) u ps e = refl
  hamt_same (Some (D.Union s)) u ps e = refl
  hamt_same (Some (D.Enum a)) u ps e = refl
  hamt_same (Some (D.Copy t)) u ps e = refl

  under : (o : Option Slot) (a : Slot → List (List ℕ)) (b : Slot → ℕ) → ((u : Slot) → sum_by f (a u) ≡ b u) → sum_by f (option_map_or a o []) ≡ option_map_or b o 0
  under None a b each = refl
  under (Some u) a b each = each u

  map_nodes : (o : Option TypeDef) (ps : Pairs) → ((u : Slot) → sum_by f (nodes_of_pairs h rows u ps) ≡ weigh_pairs (beneath h rows f) rows u ps) → (e : Option Slot) → element_of o ≡ e
      → sum_by f (option_map_or (λ u. hamt_nodes h o (represented_pairs (whole h) rows u ps) ++ nodes_of_pairs h rows u ps) e []) ≡ hamt_weight (beneath h rows f) o ps + option_map_or (λ u. weigh_pairs (beneath h rows f) rows u ps) e 0
  map_nodes o ps parts None is = let none = no_element (beneath h rows f) o ps is in omega (arith, none)
  map_nodes o ps parts (Some u) is =
      let here = hamt_same o u ps is in
      let more = parts u in
      sum_by-append f (hamt_nodes h o (represented_pairs (whole h) rows u ps)) (nodes_of_pairs h rows u ps) ∙ (λ i. here i + more i)

  mutual
    pub nodes_weigh : (s : Slot) (v : Value) → sum_by f (nodes h rows s v) ≡ weigh (beneath h rows f) rows s v
    nodes_weigh s V.null = refl
    nodes_weigh s (V.boolean b) = refl
    nodes_weigh s (V.integer n) = refl
    nodes_weigh s (V.text t) = refl
    nodes_weigh s (V.bytes t) = refl
    nodes_weigh s (V.link t) = refl
    nodes_weigh s (V.any d) = refl
    nodes_weigh s V.unit = refl
    nodes_weigh s (V.enum n) = refl
    nodes_weigh s (V.hamt d) = refl
    nodes_weigh s (V.list vs) = under (element_of (form_of rows s)) (λ u. nodes_of_values h rows u vs) (λ u. weigh_values (beneath h rows f) rows u vs) (λ u. values_nodes u vs)
    nodes_weigh s (V.map ps) = map_nodes (form_of rows s) ps (λ u. pairs_nodes u ps) (element_of (form_of rows s)) refl
    nodes_weigh s (V.struct os) = fields_nodes (fields_of (form_of rows s)) os
    nodes_weigh s (V.union n v) = under (member_of (form_of rows s) n) (λ u. nodes h rows u v) (λ u. weigh (beneath h rows f) rows u v) (λ u. nodes_weigh u v)

    values_nodes : (u : Slot) (vs : Values) → sum_by f (nodes_of_values h rows u vs) ≡ weigh_values (beneath h rows f) rows u vs
    values_nodes u V.no_values = refl
    values_nodes u (V.value v vs) = sum_by-append f (nodes h rows u v) (nodes_of_values h rows u vs) ∙ (λ i. nodes_weigh u v i + values_nodes u vs i)

    pub pairs_nodes : (u : Slot) (ps : Pairs) → sum_by f (nodes_of_pairs h rows u ps) ≡ weigh_pairs (beneath h rows f) rows u ps
    pairs_nodes u V.no_pairs = refl
    pairs_nodes u (V.pair k v ps) = sum_by-append f (nodes h rows u v) (nodes_of_pairs h rows u ps) ∙ (λ i. nodes_weigh u v i + pairs_nodes u ps i)

    fields_nodes : (fs : List Field) (os : Optionals) → sum_by f (nodes_of_fields h rows fs os) ≡ weigh_fields (beneath h rows f) rows fs os
    fields_nodes fs V.no_optionals = refl
    fields_nodes [] (V.absent os) = refl
    fields_nodes [] (V.present v os) = refl
    fields_nodes (g ∷ fs) (V.absent os) = fields_nodes fs os
    fields_nodes (g ∷ fs) (V.present v os) = sum_by-append f (nodes h rows g.slot v) (nodes_of_fields h rows fs os) ∙ (λ i. nodes_weigh g.slot v i + fields_nodes fs os i)

-- ---- a HAMT without a trie

sum_none : (a b : ℕ) → a + b ≡ 0 → (a ≡ 0) × (b ≡ 0)
sum_none a b e = (omega (arith, e), omega (arith, e))

module _ (h : List ℕ → List ℕ) (rows : List Row) where
  crowd_of : (p : HamtShape) (ps : Pairs) (es : List (List ℕ × Data)) (value : Slot) → represented_pairs (whole h) rows value ps ≡ Some es → is_some (trie h p (bare_keys (pairs_list ps)) 0) ≡ is_some (trie h p es 0)
  crowd_of p ps es value e = ap (λ xs. is_some (trie h p xs 0)) (sym (nulls_keys (whole h) rows value ps es e)) ∙ trie_nulls h p es

  some_or : {A : Type 0} (o : Option A) → ◌≡◌ {A = ℕ} (cond (is_none o) 1 0) 0 → is_some o ≡ true
  some_or None e = absurd (omega (arith, e))
  some_or (Some a) e = refl

  not_none : {A : Type 0} (o : Option A) → is_some o ≡ true → is_none o ≡ false
  not_none None e = absurd cc
  not_none (Some a) e = refl

  full_map : (p : HamtShape) (value : Slot) (ps : Pairs) (o : Option (List (List ℕ × Data))) → represented_pairs (whole h) rows value ps ≡ o → crowded h p value ps ≡ 0 → map_exhausts h (MF.Hamt p) o ≡ false
  full_map p value ps None is e = refl
  full_map p value ps (Some es) is e = not_none (trie h p es 0) (sym (crowd_of p ps es value is) ∙ some_or (trie h p (bare_keys (pairs_list ps)) 0) e)

  full_here : (o : Option TypeDef) (ps : Pairs) → hamt_weight (crowded h) o ps ≡ 0 → is_exhausted h rows o (V.map ps) ≡ false
  full_here (Some (D.Map key key_at value at (MF.Hamt p))) ps e = full_map p value ps (represented_pairs (whole h) rows value ps) refl e
  full_here (Some (D.Map key key_at value at MF.Map)) ps e = refl
  full_here (Some (D.Map key key_at value at MF.ListPairs)) ps e = refl
  full_here (Some (D.Map key key_at value at (MF.StringPairs a b))) ps e = refl
  full_here None ps e = refl
  full_here (Some D.Bool) ps e = refl
  full_here (Some D.Text) ps e = refl
  full_here (Some D.Bytes) ps e = refl
  full_here (Some D.Int) ps e = refl
  full_here (Some D.Any) ps e = refl
  full_here (Some (D.Link t)) ps e = refl
  full_here (Some (D.Unit f)) ps e = refl
  full_here (Some (D.List a at)) ps e = refl
  full_here (Some (D.Struct s)) ps e = refl
  full_here (Some (D.Union s)) ps e = refl
  full_here (Some (D.Enum a)) ps e = refl
  full_here (Some (D.Copy t)) ps e = refl

  no_list : (o : Option TypeDef) (vs : Values) → is_exhausted h rows o (V.list vs) ≡ false
  no_list None vs = refl
  no_list (Some (D.Map key key_at value at form)) vs = refl
  no_list (Some d) vs = refl

  no_struct : (o : Option TypeDef) (os : Optionals) → is_exhausted h rows o (V.struct os) ≡ false
  no_struct None os = refl
  no_struct (Some (D.Map key key_at value at form)) os = refl
  no_struct (Some d) os = refl

  no_union : (o : Option TypeDef) (n : ℕ) (v : Value) → is_exhausted h rows o (V.union n v) ≡ false
  no_union None n v = refl
  no_union (Some (D.Map key key_at value at form)) n v = refl
  no_union (Some d) n v = refl

  given : (a : Slot → ℕ) (b : Slot → Bool) (o : Option Slot) → ((u : Slot) → a u ≡ 0 → b u ≡ false) → option_map_or a o 0 ≡ 0 → option_map_or b o false ≡ false
  given a b None each e = refl
  given a b (Some u) each e = each u e

  -- where no keys are crowded, no HAMT lacks a trie
  mutual
    pub full : (s : Slot) (v : Value) → weigh (crowded h) rows s v ≡ 0 → exhausts h rows s v ≡ false
    full s V.null e = refl
    full s (V.boolean b) e = refl
    full s (V.integer n) e = refl
    full s (V.text t) e = refl
    full s (V.bytes t) e = refl
    full s (V.link t) e = refl
    full s (V.any d) e = refl
    full s V.unit e = refl
    full s (V.enum n) e = refl
    full s (V.hamt d) e = refl
    full s (V.list vs) e =
        or_from (is_exhausted h rows (form_of rows s) (V.list vs)) (option_map_or (λ u. some_value (is_exhausted h rows) rows u vs) (element_of (form_of rows s)) false) (no_list (form_of rows s) vs)
        (given (λ u. weigh_values (crowded h) rows u vs) (λ u. some_value (is_exhausted h rows) rows u vs) (element_of (form_of rows s)) (λ u k. full_values u vs k) e)
    full s (V.map ps) e =
        let both = sum_none (hamt_weight (crowded h) (form_of rows s) ps) (option_map_or (λ u. weigh_pairs (crowded h) rows u ps) (element_of (form_of rows s)) 0) e in
        or_from (is_exhausted h rows (form_of rows s) (V.map ps)) (option_map_or (λ u. some_pair (is_exhausted h rows) rows u ps) (element_of (form_of rows s)) false) (full_here (form_of rows s) ps both.0)
        (given (λ u. weigh_pairs (crowded h) rows u ps) (λ u. some_pair (is_exhausted h rows) rows u ps) (element_of (form_of rows s)) (λ u k. full_pairs u ps k) both.1)
    full s (V.struct os) e =
        or_from (is_exhausted h rows (form_of rows s) (V.struct os)) (some_field (is_exhausted h rows) rows (fields_of (form_of rows s)) os) (no_struct (form_of rows s) os) (full_fields (fields_of (form_of rows s)) os e)
    full s (V.union n v) e =
        or_from (is_exhausted h rows (form_of rows s) (V.union n v)) (option_map_or (λ u. some_layer (is_exhausted h rows) rows u v) (member_of (form_of rows s) n) false) (no_union (form_of rows s) n v)
        (given (λ u. weigh (crowded h) rows u v) (λ u. some_layer (is_exhausted h rows) rows u v) (member_of (form_of rows s) n) (λ u k. full u v k) e)

    full_values : (u : Slot) (vs : Values) → weigh_values (crowded h) rows u vs ≡ 0 → some_value (is_exhausted h rows) rows u vs ≡ false
    full_values u V.no_values e = refl
    full_values u (V.value v vs) e =
        let both = sum_none (weigh (crowded h) rows u v) (weigh_values (crowded h) rows u vs) e in
        or_from (some_layer (is_exhausted h rows) rows u v) (some_value (is_exhausted h rows) rows u vs) (full u v both.0) (full_values u vs both.1)

    full_pairs : (u : Slot) (ps : Pairs) → weigh_pairs (crowded h) rows u ps ≡ 0 → some_pair (is_exhausted h rows) rows u ps ≡ false
    full_pairs u V.no_pairs e = refl
    full_pairs u (V.pair k v ps) e =
        let both = sum_none (weigh (crowded h) rows u v) (weigh_pairs (crowded h) rows u ps) e in
        or_from (some_layer (is_exhausted h rows) rows u v) (some_pair (is_exhausted h rows) rows u ps) (full u v both.0) (full_pairs u ps both.1)

    full_fields : (fs : List Field) (os : Optionals) → weigh_fields (crowded h) rows fs os ≡ 0 → some_field (is_exhausted h rows) rows fs os ≡ false
    full_fields fs V.no_optionals e = refl
    full_fields [] (V.absent os) e = refl
    full_fields [] (V.present v os) e = refl
    full_fields (g ∷ fs) (V.absent os) e = full_fields fs os e
    full_fields (g ∷ fs) (V.present v os) e =
        let both = sum_none (weigh (crowded h) rows g.slot v) (weigh_fields (crowded h) rows fs os) e in
        or_from (some_layer (is_exhausted h rows) rows g.slot v) (some_field (is_exhausted h rows) rows fs os) (full g.slot v both.0) (full_fields fs os both.1)

  -- ---- and where there is a representation, none are crowded

  none_of : {A : Type 0} (o : Option A) → is_some o ≡ true → ◌≡◌ {A = ℕ} (cond (is_none o) 1 0) 0
  none_of o e = ap {B = ℕ} (λ b. cond b 1 0) (not_none o e)

  told_here : (d : TypeDef) (u : Slot) (ps : Pairs) (es : List (List ℕ × Data)) (t : Data) → element_of (Some d) ≡ Some u → represented_pairs (whole h) rows u ps ≡ Some es → composed (whole h) d (L.map es) ≡ Some t → hamt_weight (crowded h) (Some d) ps ≡ 0
  told_here (D.Map key key_at value at (MF.Hamt p)) u ps es t is e k =
      let x = map_from (root_map p) (trie h p es 0) t k in
      none_of (trie h p (bare_keys (pairs_list ps)) 0) (crowd_of p ps es u e ∙ ap is_some x.there)
  told_here (D.Map key key_at value at MF.Map) u ps es t is e k = refl
  told_here (D.Map key key_at value at MF.ListPairs) u ps es t is e k = refl
  told_here (D.Map key key_at value at (MF.StringPairs a b)) u ps es t is e k = refl
  told_here D.Bool u ps es t is e k = refl
  told_here D.Text u ps es t is e k = refl
  told_here D.Bytes u ps es t is e k = refl
  told_here D.Int u ps es t is e k = refl
  told_here D.Any u ps es t is e k = refl
  told_here (D.Link a) u ps es t is e k = refl
  told_here (D.Unit f) u ps es t is e k = refl
  told_here (D.List a at) u ps es t is e k = refl
  told_here (D.Struct s) u ps es t is e k = refl
  told_here (D.Union s) u ps es t is e k = refl
  told_here (D.Enum a) u ps es t is e k = refl
  told_here (D.Copy a) u ps es t is e k = refl

  under_slot : (a : Slot → ℕ) (o : Option Slot) (u : Slot) → o ≡ Some u → a u ≡ 0 → option_map_or a o 0 ≡ 0
  under_slot a o u is e = ap (λ p. option_map_or a p 0) is ∙ e

  list_case : (s : Slot) (vs : Values) (t : Data) → ((u : Slot) (ds : List Data) → represented_values (whole h) rows u vs ≡ Some ds → weigh_values (crowded h) rows u vs ≡ 0) → Way (whole h) rows s (V.list vs) t → weigh (crowded h) rows s (V.list vs) ≡ 0
  list_case s vs t later (as_null v_null nullable is_null) = absurd cc
  list_case s vs t later (as_layer d l is there made) =
      let x = map_from L.list (values_data (whole h) rows (element_of (Some d)) vs) l there in
      let z = then_from (λ u. represented_values (whole h) rows u vs) (element_of (Some d)) x.item x.there in
      under_slot (λ u. weigh_values (crowded h) rows u vs) (element_of (form_of rows s)) z.item (ap element_of is ∙ z.there) (later z.item x.item z.made)

  map_case : (s : Slot) (ps : Pairs) (t : Data) → ((u : Slot) (ds : List (List ℕ × Data)) → represented_pairs (whole h) rows u ps ≡ Some ds → weigh_pairs (crowded h) rows u ps ≡ 0) → Way (whole h) rows s (V.map ps) t → weigh (crowded h) rows s (V.map ps) ≡ 0
  map_case s ps t later (as_null v_null nullable is_null) = absurd cc
  map_case s ps t later (as_layer d l is there made) =
      let x = map_from L.map (pairs_data (whole h) rows (element_of (Some d)) ps) l there in
      let z = then_from (λ u. represented_pairs (whole h) rows u ps) (element_of (Some d)) x.item x.there in
      let here = ap (λ o. hamt_weight (crowded h) o ps) is ∙ told_here d z.item ps x.item t z.there z.made (ap (composed (whole h) d) (same_Some (L.map x.item) l x.made) ∙ made) in
      let parts = under_slot (λ u. weigh_pairs (crowded h) rows u ps) (element_of (form_of rows s)) z.item (ap element_of is ∙ z.there) (later z.item x.item z.made) in
      omega (arith, here, parts)

  struct_case : (s : Slot) (os : Optionals) (t : Data) → ((fs : List Field) (ds : List (Option Data)) → represented_fields (whole h) rows fs os ≡ Some ds → weigh_fields (crowded h) rows fs os ≡ 0) → Way (whole h) rows s (V.struct os) t → weigh (crowded h) rows s (V.struct os) ≡ 0
  struct_case s os t later (as_null v_null nullable is_null) = absurd cc
  struct_case s os t later (as_layer d l is there made) =
      let x = map_from L.struct (represented_fields (whole h) rows (fields_of (Some d)) os) l there in
      ap (λ o. weigh_fields (crowded h) rows (fields_of o) os) is ∙ later (fields_of (Some d)) x.item x.there

  union_case : (s : Slot) (n : ℕ) (v : Value) (t : Data) → ((u : Slot) (d : Data) → represented (whole h) rows u v ≡ Some d → weigh (crowded h) rows u v ≡ 0) → Way (whole h) rows s (V.union n v) t → weigh (crowded h) rows s (V.union n v) ≡ 0
  union_case s n v t later (as_null v_null nullable is_null) = absurd cc
  union_case s n v t later (as_layer d l is there made) =
      let x = map_from (L.union n) (member_data (whole h) rows (member_of (Some d) n) v) l there in
      let z = then_from (λ u. represented (whole h) rows u v) (member_of (Some d) n) x.item x.there in
      under_slot (λ u. weigh (crowded h) rows u v) (member_of (form_of rows s) n) z.item (ap (λ o. member_of o n) is ∙ z.there) (later z.item x.item z.made)

  mutual
    pub uncrowded : (s : Slot) (v : Value) (t : Data) → represented (whole h) rows s v ≡ Some t → weigh (crowded h) rows s v ≡ 0
    uncrowded s V.null t e = refl
    uncrowded s (V.boolean b) t e = refl
    uncrowded s (V.integer n) t e = refl
    uncrowded s (V.text x) t e = refl
    uncrowded s (V.bytes x) t e = refl
    uncrowded s (V.link x) t e = refl
    uncrowded s (V.any d) t e = refl
    uncrowded s V.unit t e = refl
    uncrowded s (V.enum n) t e = refl
    uncrowded s (V.hamt d) t e = refl
    uncrowded s (V.list vs) t e = list_case s vs t (λ u ds k. uncrowded_values u vs ds k) (way_of (whole h) rows s (V.list vs) t e)
    uncrowded s (V.map ps) t e = map_case s ps t (λ u ds k. uncrowded_pairs u ps ds k) (way_of (whole h) rows s (V.map ps) t e)
    uncrowded s (V.struct os) t e = struct_case s os t (λ fs ds k. uncrowded_fields fs os ds k) (way_of (whole h) rows s (V.struct os) t e)
    uncrowded s (V.union n v) t e = union_case s n v t (λ u d k. uncrowded u v d k) (way_of (whole h) rows s (V.union n v) t e)

    uncrowded_values : (u : Slot) (vs : Values) (ds : List Data) → represented_values (whole h) rows u vs ≡ Some ds → weigh_values (crowded h) rows u vs ≡ 0
    uncrowded_values u V.no_values ds e = refl
    uncrowded_values u (V.value v vs) ds e =
        let b = both_from (represented (whole h) rows u v) (represented_values (whole h) rows u vs) ds e in
        omega (arith, uncrowded u v b.item b.first, uncrowded_values u vs b.items b.rest)

    pub uncrowded_pairs : (u : Slot) (ps : Pairs) (ds : List (List ℕ × Data)) → represented_pairs (whole h) rows u ps ≡ Some ds → weigh_pairs (crowded h) rows u ps ≡ 0
    uncrowded_pairs u V.no_pairs ds e = refl
    uncrowded_pairs u (V.pair k v ps) ds e =
        let b = both_from (option_map {U = List ℕ × Data} (λ d. (k, d)) (represented (whole h) rows u v)) (represented_pairs (whole h) rows u ps) ds e in
        let z = map_from {B = List ℕ × Data} (λ d. (k, d)) (represented (whole h) rows u v) b.item b.first in
        omega (arith, uncrowded u v z.item z.there, uncrowded_pairs u ps b.items b.rest)

    uncrowded_fields : (fs : List Field) (os : Optionals) (ds : List (Option Data)) → represented_fields (whole h) rows fs os ≡ Some ds → weigh_fields (crowded h) rows fs os ≡ 0
    uncrowded_fields fs V.no_optionals ds e = refl
    uncrowded_fields [] (V.absent os) ds e = refl
    uncrowded_fields [] (V.present v os) ds e = refl
    uncrowded_fields (g ∷ fs) (V.absent os) ds e =
        let b = map_from (λ (xs : List (Option Data)). None ∷ xs) (represented_fields (whole h) rows fs os) ds e in
        uncrowded_fields fs os b.item b.there
    uncrowded_fields (g ∷ fs) (V.present v os) ds e =
        let b = both_from (option_map {U = Option Data} Some (represented (whole h) rows g.slot v)) (represented_fields (whole h) rows fs os) ds e in
        let z = map_from {B = Option Data} Some (represented (whole h) rows g.slot v) b.item b.first in
        omega (arith, uncrowded g.slot v z.item z.there, uncrowded_fields fs os b.items b.rest)
