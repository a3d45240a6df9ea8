-- A value that stands is kept: the entries of its HAMTs rise, and their nodes are trees whose blocks are held. So one value
-- at most stands under an id.
use Rattle.ild_typed.proofs.PartData.{values_data, pairs_data, member_data}
use Rattle.std.specs.Option.{option_map_or}
use Rattle.std.proofs.Common.{◌≡◌, ℕ, zero, suc, ◌+◌, ◌-◌, ◌^◌, ◌<◌, ◌≤◌, ◌==◌, nat_le, List, [], ◌∷◌, ◌++◌, length, Bool, true, false, cond, Option, Some, None, option_map, IsUtf8, refl, sym, ◌∙◌, ap, subst, arith, eqb-true, leb-true}
use Rattle.std.specs.Prelude.{is_some, IfSome}
use Rattle.std.specs.List.{AllByRecursion, flat_map, range_with_len}
use Rattle.std.proofs.lemmas.Option.{same_Some, none-some}
use Rattle.std.proofs.lemmas.Bool.{eqb-false}
use Rattle.ild_data.proofs.AllOf.{all_both, all_split, all_filter}
use Rattle.ild_data.specs.Data.{Data, depth}
use Rattle.ild_data.specs.Key.{Rises}
use Rattle.ild_data.specs.Tree.{IsTree}
use Rattle.ild_data.specs.Limits.{IsWithin}
use Rattle.ild_data.specs.Spell.{spell, id_of}
use Rattle.ild_schema.specs.declared.number.Slot.{Slot}
use Rattle.ild_schema.specs.declared.number.TypeNo.{TypeNo}
use Rattle.ild_schema.specs.declared.def.TypeDef.{TypeDef}
use Rattle.ild_schema.specs.declared.def.TypeDef.TheVariants as D
use Rattle.ild_schema.specs.declared.def.MapForm.TheVariants as MF
use Rattle.ild_schema.specs.declared.def.Field.{Field}
use Rattle.ild_schema.specs.declared.row.Row.{Row}
use Rattle.ild_schema.specs.Value as V
use Rattle.ild_schema.specs.Value.{Value, Values, Pairs, Optionals, values_list, pairs_list, optionals_list}
use Rattle.ild_data.specs.declared.hamt_shape.HamtShape.{HamtShape}
use Rattle.ild_data.specs.TrieShape.{trie_levels}
use Rattle.ild_data.specs.ByteOrder.{in_byte_order}
use Rattle.ild_data.specs.Trie.{part, at_depth, node_of, trie}
use Rattle.ild_data.specs.TrieBlocks.{nodes_beneath, node_and_beneath, none_or, block_of}
use Rattle.ild_schema.proofs.Legibly.{legible}
use Rattle.ild_typed.specs.Layer as L
use Rattle.ild_typed.specs.Layer.{Layer}
use Rattle.ild_schema.specs.Slots.{form_of, plainly}
use Rattle.ild_typed.specs.Slots.{slot_of, element_of, fields_of, member_of}
use Rattle.ild_typed.specs.Composed.{composed}
use Rattle.ild_typed.specs.Hamt.{root_map, whole}
use Rattle.ild_typed.specs.Represented.{represented, represented_values, represented_pairs, represented_fields}
use Rattle.ild_typed.specs.Levels.{levels_of}
use Rattle.ild_typed.specs.Fits.{FormFits, ValueFits, FitsPast, Fits}
use Rattle.ild_typed.specs.Layers.{FieldsFit}
use Rattle.ild_typed.specs.Known as G
use Rattle.ild_typed.specs.Known.{AreKnown, Kept, LayerOk, IsKept, HeldNode}
use Rattle.ild_typed.specs.Blocks.{hamt_nodes, nodes, nodes_of_values, nodes_of_pairs, nodes_of_fields}
use Rattle.ild_typed.specs.Stands.{Frame, IsFrame, blocks_of, Storable}
use Rattle.ild_typed.specs.Nested.{TreeIn, IsBlock}
use Rattle.ild_typed.specs.StandLaws.{OneStands}
use Rattle.ild_schema.specs.Spelled.{IsSpelled}
use Rattle.ild_schema.specs.Clear.{IsClear}
use Rattle.ild_typed.proofs.Basics.{map_from}
use Rattle.ild_typed.proofs.Entries.{both_from}
use Rattle.ild_typed.proofs.OneValue.{plain_safe, Way, as_null, as_layer, way_of, layer_data}
use Rattle.ild_typed.proofs.Wholes.{one_block, one_within, whole_law}
use Rattle.ild_hamt_trie.proofs.Index.{index_below}
use Rattle.ild_typed.proofs.Treed.{EntryIn}
use Rattle.ild_typed.proofs.TreeNodes.{sorted_in, node_of_in}
use Rattle.ild_typed.proofs.TreeParts.{KeysFit, list_fits, struct_fits, union_fits, map_fits, rises_pairs, pairs_in}
use Rattle.ild_typed.proofs.TreeValues.{form_fits, whole_past, whole_tree}
use Rattle.ild_typed.proofs.TreeBlocks.{blocks_within}

-- ---- the nodes beneath a root

range_at : {A : Type 0} (P : A → Type 0) (f : ℕ → List A) (a n i : ℕ) → a ≤ i → i < a + n → AllByRecursion P (flat_map f (range_with_len a n)) → AllByRecursion P (f i)
range_at P f a zero i le lt all = absurd (omega (arith, le, lt))
range_at P f a (suc n) i le lt all = by (i == a) refl (all_split P (f a) (flat_map f (range_with_len (a + 1) n)) all) (λ x rest. range_at P f (a + 1) n i x (omega (arith, lt)) rest)
  where
    further : i == a ≡ false → a + 1 ≤ i
    further e = let h = eqb-false i a e in omega (arith, le, h)

    by : (b : Bool) → i == a ≡ b → AllByRecursion P (f a) × AllByRecursion P (flat_map f (range_with_len (a + 1) n))
        → (a + 1 ≤ i → AllByRecursion P (flat_map f (range_with_len (a + 1) n)) → AllByRecursion P (f i)) → AllByRecursion P (f i)
    by true e both later = subst (λ j. AllByRecursion P (f j)) (sym (eqb-true i a e)) both.0
    by false e both later = later (further e) both.1

-- a part that isn't empty is that of an index
part_index : (at : List ℕ → ℕ) (n i : ℕ) (es : List (List ℕ × Data)) → ((k : List ℕ) → at k < n) → 0 < length (part at es i) → i < n
part_index at n i [] small some = absurd (omega (arith, some))
part_index at n i (e ∷ es) small some = by (at e.0 == i) refl (part_index at n i es small) some where
  by : (b : Bool) → at e.0 == i ≡ b → (0 < length (part at es i) → i < n) → 0 < length (cond b (e ∷ part at es i) (part at es i)) → i < n
  by true is later s = subst (λ j. j < n) (eqb-true (at e.0) i is) (small e.0)
  by false is later s = later s

many_test : (m n : ℕ) → m < n → nat_le n m ≡ false
many_test m n lt = by (nat_le n m) refl where
  by : (b : Bool) → nat_le n m ≡ b → nat_le n m ≡ false
  by true e = let h = leb-true n m e in absurd (omega (arith, lt, h))
  by false e = e

module _ (P : List ℕ → Type 0) (K : Data → Type 0) (known : (d : Data) → IsTree d → P (spell d) → K d) where
  one_node : (most : ℕ) (below : List (List ℕ × Data) → Option Data) (beneath : List (List ℕ × Data) → List (List ℕ)) (es : List (List ℕ × Data)) (d : Data)
      → most < length es → below es ≡ Some d → AllByRecursion P (node_and_beneath most below beneath es) → P (spell d) × AllByRecursion P (beneath es)
  one_node most below beneath es d big has all =
      let opened : AllByRecursion P (block_of (below es) ++ beneath es) = subst (λ b. AllByRecursion P (none_or b (λ fs. block_of (below fs) ++ beneath fs) es)) (many_test most (length es) big) all in
      let found : AllByRecursion P (spell d ∷ beneath es) = subst (λ o. AllByRecursion P (block_of o ++ beneath es)) has opened in
      (found.0, found.1)

  known_beneath : (n : ℕ) (h : List ℕ → List ℕ) (p : HamtShape) (left depth : ℕ) (es : List (List ℕ × Data)) → AllByRecursion (EntryIn n) es → AllByRecursion P (nodes_beneath h p left depth es) → AreKnown h p K left depth es
  unfolding nodes_beneath AreKnown
  known_beneath n h p zero depth es trees all = tt
  known_beneath n h p (suc left) depth es trees all = λ i d big has.
      let piece : List (List ℕ × Data) = part (at_depth h p depth) es i in
      let below = node_of h p left (depth + 1) in
      let beneath = nodes_beneath h p left (depth + 1) in
      let inside : i < 2 ^ p.width = part_index (at_depth h p depth) (2 ^ p.width) i es (λ k. index_below p (h k) depth) (omega (arith, big)) in
      let here = range_at P (λ j. node_and_beneath p.bucket below beneath (part (at_depth h p depth) es j)) 0 (2 ^ p.width) i (omega arith) (omega (arith, inside)) all in
      let x = one_node p.bucket below beneath piece d big has here in
      let good : AllByRecursion (EntryIn n) piece = all_filter (EntryIn n) (λ e. at_depth h p depth e.0 == i) es trees in
      (known d (node_of_in n h p left (depth + 1) piece d good has).tree x.0, known_beneath n h p left (depth + 1) piece good x.1)

  -- ---- the HAMTs of a value

  module _ (h : List ℕ → List ℕ) (rows : List Row) where
    abbrev Good : Slot → Value → Type 0
    Good s v = G.Good (whole h) (Kept h K) rows s v

    module _ (fits : Slot → Value → Type 0)
        (later : (s : Slot) (v : Value) (t : Data) → fits s v → represented (whole h) rows s v ≡ Some t → AllByRecursion P (nodes h rows s v) → Good s v) where
      goods : (s : Slot) (vs : Values) (ds : List Data) → AllByRecursion (fits s) (values_list vs) → represented_values (whole h) rows s vs ≡ Some ds → AllByRecursion P (nodes_of_values h rows s vs)
          → G.Goods (whole h) (Kept h K) rows s vs
      goods s V.no_values ds f e all = tt
      goods s (V.value v vs) ds f e all =
          let b = both_from (represented (whole h) rows s v) (represented_values (whole h) rows s vs) ds e in
          let x = all_split P (nodes h rows s v) (nodes_of_values h rows s vs) all in
          (later s v b.item f.0 b.first x.0, goods s vs b.items f.1 b.rest x.1)

      good_pairs : (s : Slot) (ps : Pairs) (ds : List (List ℕ × Data)) → AllByRecursion (λ p. IsUtf8 p.0 × fits s p.1) (pairs_list ps) → represented_pairs (whole h) rows s ps ≡ Some ds
          → AllByRecursion P (nodes_of_pairs h rows s ps) → G.GoodPairs (whole h) (Kept h K) rows s ps
      good_pairs s V.no_pairs ds f e all = tt
      good_pairs s (V.pair k v ps) ds f e all =
          let b = both_from (option_map {U = List ℕ × Data} (λ d. (k, d)) (represented (whole h) rows s v)) (represented_pairs (whole h) rows s ps) ds e in
          let y = map_from {B = List ℕ × Data} (λ d. (k, d)) (represented (whole h) rows s v) b.item b.first in
          let x = all_split P (nodes h rows s v) (nodes_of_pairs h rows s ps) all in
          (later s v y.item f.0.1 y.there x.0, good_pairs s ps b.items f.1 b.rest x.1)

      good_fields : (fs : List Field) (os : Optionals) (ds : List (Option Data)) → FieldsFit fits fs (optionals_list os) → represented_fields (whole h) rows fs os ≡ Some ds
          → AllByRecursion P (nodes_of_fields h rows fs os) → G.GoodFields (whole h) (Kept h K) rows fs os
      good_fields fs V.no_optionals ds f e all = tt
      good_fields [] (V.absent os) ds f e all = tt
      good_fields [] (V.present v os) ds f e all = tt
      good_fields (g ∷ fs) (V.absent os) ds f e all =
          let b = map_from (λ xs. None ∷ xs) (represented_fields (whole h) rows fs os) ds e in
          good_fields fs os b.item f.1 b.there all
      good_fields (g ∷ fs) (V.present v os) ds f e all =
          let b = both_from (option_map Some (represented (whole h) rows g.slot v)) (represented_fields (whole h) rows fs os) ds e in
          let y = map_from Some (represented (whole h) rows g.slot v) b.item b.first in
          let x = all_split P (nodes h rows g.slot v) (nodes_of_fields h rows fs os) all in
          (later g.slot v y.item f.0 y.there x.0, good_fields fs os b.items f.1 b.rest x.1)

    all_left : (n : ℕ) → n ≡ n - 0
    all_left n = omega arith

    -- entries with a trie
    kept_trie : (p : HamtShape) (n : ℕ) (es : List (List ℕ × Data)) (t : Data) → AllByRecursion (EntryIn n) es → Rises es → whole h p (L.map es) ≡ Some t
        → AllByRecursion P (cond (is_some (trie h p es 0)) (nodes_beneath h p (trie_levels p) 0 (in_byte_order es)) []) → Kept h K p es
    kept_trie p n es t trees up e all =
        let x = map_from (root_map p) (trie h p es 0) t e in
        let there : AllByRecursion P (nodes_beneath h p (trie_levels p) 0 (in_byte_order es))
        = subst (λ o. AllByRecursion P (cond (is_some o) (nodes_beneath h p (trie_levels p) 0 (in_byte_order es)) [])) x.there all in
        (up, subst (λ l. AreKnown h p K l 0 (in_byte_order es)) (all_left (trie_levels p)) (known_beneath n h p (trie_levels p) 0 (in_byte_order es) (sorted_in n es trees) there))

    kept_map : (n : ℕ) (d : TypeDef) (u : Slot) (ps : Pairs) (es : List (List ℕ × Data)) (t : Data) → KeysFit d (pairs_list ps) → represented_pairs (whole h) rows u ps ≡ Some es → AllByRecursion (EntryIn n) es
        → composed (whole h) d (L.map es) ≡ Some t → AllByRecursion P (hamt_nodes h (Some d) (Some es)) → LayerOk (Kept h K) d (L.map es)
    kept_map n (D.Map key key_at value place (MF.Hamt p)) u ps es t keys e trees made all = kept_trie p n es t trees (rises_pairs (whole h) rows u ps es keys e) made all
    kept_map n (D.Map key key_at value place MF.Map) u ps es t keys e trees made all = tt
    kept_map n (D.Map key key_at value place MF.ListPairs) u ps es t keys e trees made all = tt
    kept_map n (D.Map key key_at value place (MF.StringPairs i k)) u ps es t keys e trees made all = tt
    kept_map n d u ps es t keys e trees made all = tt

    module _ (room : ℕ) (below : ℕ → Slot → Value → Type 0)
        (good : (o : ℕ) (s : Slot) (v : Value) (t : Data) → below o s v → represented (whole h) rows s v ≡ Some t → IsTree t × (suc (depth t + o) ≤ room))
        (later : (o : ℕ) (s : Slot) (v : Value) (t : Data) → below o s v → represented (whole h) rows s v ≡ Some t → AllByRecursion P (nodes h rows s v) → Good s v) where
      good_part : (o : ℕ) (s : Slot) (v : Value) (t : Data) → below o s v → represented (whole h) rows s v ≡ Some t → TreeIn (room - suc o) t
      good_part o s v t b e = let g = good o s v t b e in record { tree = g.0; nested = omega (arith, g.1) }

      abbrev Nodes : Option TypeDef → Value → Type 0
      Nodes c (V.list vs) = AllByRecursion P (option_map_or (λ u. nodes_of_values h rows u vs) (element_of c) [])
      Nodes c (V.map ps) = AllByRecursion P (option_map_or (λ u. hamt_nodes h c (represented_pairs (whole h) rows u ps) ++ nodes_of_pairs h rows u ps) (element_of c) [])
      Nodes c (V.struct os) = AllByRecursion P (nodes_of_fields h rows (fields_of c) os)
      Nodes c (V.union i v) = AllByRecursion P (option_map_or (λ u. nodes h rows u v) (member_of c i) [])
      Nodes c v = Unit {0}

      not_null : (v : Value) (d : TypeDef) (l : Layer Data) → layer_data (whole h) rows (Some d) v ≡ Some l → v ≡ V.null → ⊥
      not_null v d l e is = none-some l (sym (ap (layer_data (whole h) rows (Some d)) is) ∙ e)

      -- a value with its layer
      by_layer : (s : Slot) (v : Value) (t : Data) (d : TypeDef) (l : Layer Data) → form_of rows s ≡ Some d → FormFits rows room below v d → layer_data (whole h) rows (Some d) v ≡ Some l
          → composed (whole h) d l ≡ Some t → Nodes (Some d) v → Good s v
      by_layer s (V.list vs) t d l is f there made all =
          let o = levels_of d (V.list vs) - 1 in
          let x = map_from L.list (values_data (whole h) rows (element_of (Some d)) vs) l there in
          let z = list_fits (below o) rows d (values_list vs) f.1 in
          subst (λ k. IfSome k (λ u. G.Goods (whole h) (Kept h K) rows u vs)) (sym (ap element_of is ∙ z.is))
          (goods (below o) (later o) z.slot vs x.item z.each (ap (λ k. values_data (whole h) rows k vs) (sym z.is) ∙ x.there)
          (subst (λ k. AllByRecursion P (option_map_or (λ u. nodes_of_values h rows u vs) k [])) z.is all))
      by_layer s (V.map ps) t d l is f there made all =
          let o = levels_of d (V.map ps) - 1 in
          let x = map_from L.map (pairs_data (whole h) rows (element_of (Some d)) ps) l there in
          let m = map_fits (below o) rows d (pairs_list ps) f.1 in
          let u = m.slot in
          let here_all = subst (λ k. AllByRecursion P (option_map_or (λ w. hamt_nodes h (Some d) (represented_pairs (whole h) rows w ps) ++ nodes_of_pairs h rows w ps) k [])) m.is all in
          let both = all_split P (hamt_nodes h (Some d) (represented_pairs (whole h) rows u ps)) (nodes_of_pairs h rows u ps) here_all in
          let own_pairs : represented_pairs (whole h) rows u ps ≡ Some x.item = ap (λ k. pairs_data (whole h) rows k ps) (sym m.is) ∙ x.there in
          let here : AllByRecursion P (hamt_nodes h (Some d) (Some x.item)) = subst (λ r. AllByRecursion P (hamt_nodes h (Some d) r)) own_pairs both.0 in
          let trees = pairs_in (whole h) rows (below o) (room - suc o) (good_part o) u ps x.item m.each own_pairs in
          let own : LayerOk (Kept h K) d (L.map x.item) = kept_map (room - suc o) d u ps x.item t m.keys own_pairs trees (ap (composed (whole h) d) (same_Some (L.map x.item) l x.made) ∙ made) here in (
            λ c w ds form element rep.
                let same : d ≡ c = same_Some d c (sym is ∙ form) in
                let pairs : pairs_data (whole h) rows (element_of (Some d)) ps ≡ Some ds = ap (λ k. pairs_data (whole h) rows k ps) (ap (λ a. element_of (Some a)) same ∙ element) ∙ rep in
                let items : x.item ≡ ds = same_Some x.item ds (sym x.there ∙ pairs) in
                subst (λ a. LayerOk (Kept h K) a (L.map ds)) same (subst (λ es. LayerOk (Kept h K) d (L.map es)) items own),
            subst (λ k. IfSome k (λ w. G.GoodPairs (whole h) (Kept h K) rows w ps)) (sym (ap element_of is ∙ m.is)) (good_pairs (below o) (later o) u ps x.item m.each own_pairs both.1),
          )
      by_layer s (V.struct os) t d l is f there made all =
          let o = levels_of d (V.struct os) - 1 in
          let x = map_from L.struct (represented_fields (whole h) rows (fields_of (Some d)) os) l there in
          subst (λ c. G.GoodFields (whole h) (Kept h K) rows (fields_of c) os) (sym is)
          (good_fields (below o) (later o) (fields_of (Some d)) os x.item (struct_fits (below o) rows d (optionals_list os) f.1) x.there all)
      by_layer s (V.union i v) t d l is f there made all =
          let o = levels_of d (V.union i v) - 1 in
          let x = map_from (L.union i) (member_data (whole h) rows (member_of (Some d) i) v) l there in
          let z = union_fits (below o) rows d i v f.1 in
          let has : member_of (Some d) i ≡ Some (slot_of z.member) = ap (option_map slot_of) z.is in
          subst (λ k. IfSome k (λ u. Good u v)) (sym (ap (λ c. member_of c i) is ∙ has))
          (later o (slot_of z.member) v x.item z.holds (ap (λ k. member_data (whole h) rows k v) (sym has) ∙ x.there)
          (subst (λ k. AllByRecursion P (option_map_or (λ u. nodes h rows u v) k [])) has all))
      by_layer s v t d l is f there made all = tt

      nodes_by : (s : Slot) (v : Value) (d : TypeDef) → form_of rows s ≡ Some d → AllByRecursion P (nodes h rows s v) → Nodes (Some d) v
      nodes_by s (V.list vs) d is all = subst (λ c. Nodes c (V.list vs)) is all
      nodes_by s (V.map ps) d is all = subst (λ c. Nodes c (V.map ps)) is all
      nodes_by s (V.struct os) d is all = subst (λ c. Nodes c (V.struct os)) is all
      nodes_by s (V.union i v) d is all = subst (λ c. Nodes c (V.union i v)) is all
      nodes_by s v d is all = tt

      kept_in : (s : Slot) (v : Value) (t : Data) → ValueFits rows room below s v → represented (whole h) rows s v ≡ Some t → AllByRecursion P (nodes h rows s v) → Good s v
      kept_in s v t f e all = by (way_of (whole h) rows s v t e) where
        by : Way (whole h) rows s v t → Good s v
        by (as_null v_null nullable is_null) = subst (Good s) (sym v_null) tt
        by (as_layer d l is there made) = by_layer s v t d l is (form_fits rows room below (whole h) s d v l is there f) there made (nodes_by s v d is all)

    kept_past : IsSpelled rows → (room over : ℕ) (s : Slot) (v : Value) (t : Data) → FitsPast rows room over s v → represented (whole h) rows s v ≡ Some t → AllByRecursion P (nodes h rows s v) → Good s v
    unfolding FitsPast
    kept_past spelled zero zero s v t f e all = kept_in zero (λ over u w. ⊥) (λ o u w d b k. absurd b) (λ o u w d b k more. absurd b) s v t f e all
    kept_past spelled zero (suc over) s v t f e all = absurd f
    kept_past spelled (suc room) zero s v t f e all =
        kept_in (suc room) (FitsPast rows room) (λ o u w d b k. let g = whole_past h rows spelled room o u w d b k in (g.0, omega (arith, g.1))) (λ o u w d b k more. kept_past spelled room o u w d b k more) s v t f e all
    kept_past spelled (suc room) (suc over) s v t f e all = kept_past spelled room over s v t f e all

    -- all HAMTs of a value whose nodes' blocks have a property
    pub kept_value : IsSpelled rows → (room : ℕ) (s : Slot) (v : Value) (t : Data) → Fits rows room s v → represented (whole h) rows s v ≡ Some t → AllByRecursion P (nodes h rows s v) → Good s v
    kept_value spelled room s v t f e all = kept_past spelled room zero s v t f e all

-- ---- one value stands

within_block : (n : Data) → IsTree n → IsBlock (spell n) → IsWithin n
within_block n tree b = subst IsWithin (one_within b.of n b.within tree (sym b.is)) b.within

module _ (f : Frame) (frame : IsFrame f) (block : List ℕ → Option (List ℕ)) (h : List ℕ → List ℕ) (rows : List Row) (spelled : IsSpelled rows) (n : TypeNo) where
  abbrev Held : List ℕ → Type 0
  Held b = block (id_of b) ≡ Some b

  -- the nodes of the HAMTs of a value that stands are held
  pub kept_storable : (v : Value) (d : Data) → Storable f h rows n v d → AllByRecursion Held (blocks_of f h rows n v d) → IsKept h (HeldNode block) rows (plainly n) v
  kept_storable v d st all =
      let s = plainly n in
      let within = all_split IsBlock (nodes h rows s v) f.beside (blocks_within f frame h rows spelled n v d st).1 in
      let held = all_split Held (nodes h rows s v) f.beside all.1 in
      kept_value (λ b. IsBlock b × Held b) (HeldNode block) (λ node tree x. record { within = within_block node tree x.0; there = x.1 }) h rows spelled f.room s v d st.fits st.tree
      (all_both IsBlock Held (nodes h rows s v) within.0 held.0)

  -- what a frame makes of the data of a value that fits
  root_tree : (v : Value) (d : Data) → Storable f h rows n v d → IsTree (f.wrap d)
  root_tree v d st = (frame.fits d (whole_tree h rows spelled f.room (plainly n) v d st.fits st.tree)).tree

  pub one_storable : IsClear rows → (v w : Value) (d e : Data) → Storable f h rows n v d → Storable f h rows n w e
      → AllByRecursion Held (blocks_of f h rows n v d) → AllByRecursion Held (blocks_of f h rows n w e) → id_of (spell (f.wrap d)) ≡ id_of (spell (f.wrap e)) → v ≡ w
  one_storable clear v w d e a b p q ids =
      let td : IsWithin (f.wrap d) = within_block (f.wrap d) (root_tree v d a) (blocks_within f frame h rows spelled n v d a).0 in
      let roots : f.wrap d ≡ f.wrap e = one_within (f.wrap d) (f.wrap e) td (root_tree w e b) (one_block block (spell (f.wrap d)) (spell (f.wrap e)) p.0 q.0 ids) in
      let same : d ≡ e = frame.apart d e roots in
      whole_law h block rows clear (plainly n) (plain_safe rows (plainly n) refl) v w d (kept_storable v d a p) (kept_storable w e b q) a.tree (b.tree ∙ ap Some (sym same))

pub one_stands : OneStands
one_stands = λ f frame block h rows schema n id v w a b.
    one_storable f frame block h rows schema.table.texts.spelled n (legible rows schema.accepted).clear v w a.tree b.tree a.storable b.storable a.all b.all (sym a.root ∙ b.root)
