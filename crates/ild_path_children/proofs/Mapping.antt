-- The places of a HAMT with an entry put or gone.
use Rattle.std.proofs.Common.{◌≡◌, ◌-◌, inl, ℕ, suc, cond, List, Option, Some, sym, ap, ◌∙◌, subst}
use Rattle.std.specs.Prelude.{is_some}
use Rattle.std.specs.FinMap.{put as insert}
use Rattle.std.specs.List.{AllByRecursion}
use Rattle.std.specs.Option.{option_map_or}
use Rattle.ild_data.proofs.AllOf.{all_split}
use Rattle.ild_data.specs.ByteOrder.{IsInOrder, bytewise, in_byte_order, without as remove}
use Rattle.ild_data.specs.Data.{Data}
use Rattle.ild_data.specs.Key.{put, without}
use Rattle.ild_data.specs.Trie.{node_of, trie}
use Rattle.ild_data.specs.TrieShape.{trie_levels}
use Rattle.ild_data.specs.declared.hamt_shape.HamtShape.{HamtShape}
use Rattle.ild_edges.specs.Store.{block_at}
use Rattle.ild_schema.specs.declared.def.MapForm.TheVariants as MF
use Rattle.ild_schema.specs.declared.def.TypeDef.{TypeDef}
use Rattle.ild_schema.specs.declared.def.TypeDef.TheVariants as D
use Rattle.ild_schema.specs.declared.number.Slot.{Slot}
use Rattle.ild_schema.specs.declared.row.Row.{Row}
use Rattle.ild_schema.specs.Value as V
use Rattle.ild_schema.specs.Value.{Pairs, pairs_of, pairs_list}
use Rattle.ild_hamt_trie.specs.Way.{way}
use Rattle.ild_hamt_trie.proofs.Node.{slots-node}
use Rattle.ild_hamt_trie.proofs.Parts.{in_order-sorted}
use Rattle.ild_typed.specs.Blocks.{nodes, nodes_of_pairs}
use Rattle.ild_typed.specs.Hamt.{root_map, whole}
use Rattle.ild_typed.specs.Represented.{represented, represented_pairs}
use Rattle.ild_typed.specs.Slots.{element_of}
use Rattle.ild_typed.proofs.Basics.{map_from}
use Rattle.ild_typed.proofs.Rooms.{all_more}
use Rattle.ild_typed.proofs.TreeNodes.{trie_node}
use Rattle.ild_typed_fronts.proofs.Pathing.{pairs_back}
use Rattle.ild_typed_places.specs.Places.{nowhere, at_key, map_places, places_beneath, places_in, places_in_pairs, places_over}
use Rattle.ild_typed_places.proofs.Keyed.{InEach, at_keys}
use Rattle.ild_typed_places.proofs.Listing.{all_from}
use Rattle.ild_typed_places.proofs.Values.{alike}
use Rattle.ild_hamt_trie.proofs.Levels.{levels-first}
use Rattle.ild_node_slots.proofs.Shapes.{levels_suc}
use Rattle.ild_bulk_walker.specs.Trees.{HoldsBelow}
use Rattle.ild_hamt_climb.specs.Rewriting.{DiffersAt}
use Rattle.ild_hamt_climb.proofs.Differing.{differs-put, differs-without}
use Rattle.ild_open_held.specs.Held.{IsHeld, IsHeldBlock}
use Rattle.ild_path_edits.proofs.Typing.{Each, each_put, each_without}
use Rattle.ild_path_nodes.specs.NodeLaws.{IsHamt}
use Rattle.ild_path_nodes.proofs.Changing.{to_entries}
use Rattle.ild_path_nodes.proofs.Having.{EntryHas, each_pairs}
use Rattle.ild_path_held.specs.Hamts.{IsTrieIn}
use Rattle.ild_path_held.proofs.Orders.{sorted_put, sorted_without}
use Rattle.ild_path_held.proofs.Tries.{cut_data, map_data, put_data}
use Rattle.ild_path_children.specs.Ways.{WayIn, WaysAreCut, WaysArePut}
use Rattle.ild_path_children.proofs.Topping.{Tops, all_tops}
use Rattle.ild_path_children.proofs.Wayward.{Held, way_in}

module _ (h : List ℕ → List ℕ) (rows : List Row) (was : List (List ℕ)) (s elem : Slot) (is : IsHamt rows s elem) where
  abbrev Own : TypeDef
  Own = D.Map is.0 is.1 elem is.2 (MF.Hamt is.3)

  -- the levels below the first
  abbrev Left : ℕ
  Left = trie_levels is.3 - 1

  own_places : (qs : Pairs) (es : List (List ℕ × Data)) (node : Data) → represented_pairs (whole h) rows elem qs ≡ Some es → trie h is.3 es 0 ≡ Some node
      → places_in h rows s (V.map qs) ≡ places_beneath (at_key (places_in_pairs h rows elem qs)) h is.3 (trie_levels is.3) 0 (in_byte_order es)
  own_places qs es node e tree =
      ap (λ o. option_map_or (λ u. map_places h o (represented_pairs (whole h) rows u qs) (places_in_pairs h rows u qs)) (element_of o) nowhere) is.4
      ∙ ap (λ o. map_places h (Some Own) o (places_in_pairs h rows elem qs)) e
      ∙ ap (λ (o : Option Data). cond (is_some o) (places_beneath (at_key (places_in_pairs h rows elem qs)) h is.3 (trie_levels is.3) 0 (in_byte_order es)) (places_over (λ p. p.1) (places_in_pairs h rows elem qs))) tree

  in_each : (qs : Pairs) → AllByRecursion (Held was) (nodes_of_pairs h rows elem qs) → InEach (Held was) (places_in_pairs h rows elem qs)
  in_each V.no_pairs all = tt
  in_each (V.pair k v qs) all =
      let x = all_split (Held was) (nodes h rows elem v) (nodes_of_pairs h rows elem qs) all in
      ((alike (Held was) h rows elem v).0 x.0, in_each qs x.1)

  placed : (k : List ℕ) (es fs pairs : List (List ℕ × Data)) (qs : Pairs) (old x : Data) → represented_pairs (whole h) rows elem qs ≡ Some pairs → fs ≡ in_byte_order pairs → represented (whole h) rows s (V.map qs) ≡ Some x
      → node_of h is.3 (trie_levels is.3) 0 es ≡ Some old → DiffersAt k es fs → HoldsBelow h is.3 was (trie_levels is.3) 0 es → AllByRecursion (Held was) (nodes_of_pairs h rows elem qs)
      → WayIn (places_in h rows s (V.map qs)) was (way h is.3 k (trie_levels is.3) 0 fs)
  placed k es fs pairs qs old x e order made before d below all =
      let y = map_from (root_map is.3) (trie h is.3 pairs 0) x (sym (map_data h rows s elem is qs pairs e) ∙ made) in
      let first = levels_suc is.3 in
      let tree : node_of h is.3 (suc Left) 0 fs ≡ Some y.item = ap (node_of h is.3 (suc Left) 0) order ∙ subst (λ n. node_of h is.3 n 0 (in_byte_order pairs) ≡ Some y.item) (levels-first is.3) (trie_node h is.3 pairs y.item y.there) in
      let new = slots-node h is.3 Left 0 fs y.item tree in
      let was_slots = slots-node h is.3 Left 0 es old (subst (λ n. node_of h is.3 n 0 es ≡ Some old) first before) in
      let each = in_each qs all in
      let inner = at_key (places_in_pairs h rows elem qs) in
      let inside = all_from (λ i. Tops (Held was) (inner i.0)) (λ i. all_tops (Held was) (inner i.0) (at_keys (Held was) (places_in_pairs h rows elem qs) each i.0)) fs in
      let home = own_places qs pairs y.item e y.there ∙ ap (places_beneath inner h is.3 (trie_levels is.3) 0) (sym order) in
      subst (λ ps. WayIn ps was (way h is.3 k (trie_levels is.3) 0 fs)) (sym home)
      (subst (λ n. WayIn (places_beneath inner h is.3 n 0 fs) was (way h is.3 k n 0 fs)) (sym first)
      (way_in inner h is.3 k was (places_beneath inner h is.3 (suc Left) 0 fs) Left 0 es fs new.0 d (inl (was_slots.0, was_slots.1)) new.1 (subst (λ n. HoldsBelow h is.3 was n 0 es) first below) inside (λ q here. here)))

  old_entries : (room : ℕ) (t : Data) (ps : Pairs) → IsHeld (block_at was) h rows room s t (V.map ps) → Each (EntryHas (Held was) h rows elem) (pairs_list ps)
  old_entries room t ps has = (to_entries (Held was) h rows s elem is ps (all_more (IsHeldBlock (block_at was)) (Held was) (λ b y. y.there) (nodes h rows s (V.map ps)) has.held)).1

in_order : (h : List ℕ → List ℕ) (p : HamtShape) (rows : List Row) (was : List (List ℕ)) (elem : Slot) (ps : Pairs) (t : Data) (es : List (List ℕ × Data)) → IsTrieIn h p rows was elem ps t es → IsInOrder es
in_order h p rows was elem ps t es x = subst IsInOrder (sym x.order) (in_order-sorted x.pairs)

pub are_put : WaysArePut
are_put = λ h rows was before less s elem t d x ps es k w is has tried new made.
    let xs = pairs_list ps in
    placed h rows was s elem is k es (insert bytewise k d es) (put k d tried.pairs) (pairs_of (put k w xs)) tried.node x
    (put_data h rows elem k w d xs tried.pairs new.tree (ap (represented_pairs (whole h) rows elem) (pairs_back ps) ∙ tried.represents))
    (ap (insert bytewise k d) tried.order ∙ sorted_put k d tried.pairs) made tried.is_node (differs-put k d es (in_order h is.3 rows was elem ps t es tried)) tried.holds
    (each_pairs (Held was) h rows elem (put k w xs)
    (each_put (EntryHas (Held was) h rows elem) k w xs (old_entries h rows was s elem is before t ps has) (all_more (IsHeldBlock (block_at was)) (Held was) (λ b y. y.there) (nodes h rows elem w) new.held)))

pub are_cut : WaysAreCut
are_cut = λ h rows was before s elem t x ps es k is has tried made.
    let xs = pairs_list ps in
    placed h rows was s elem is k es (remove k es) (without k tried.pairs) (pairs_of (without k xs)) tried.node x
    (cut_data h rows elem k xs tried.pairs (ap (represented_pairs (whole h) rows elem) (pairs_back ps) ∙ tried.represents))
    (ap (remove k) tried.order ∙ sorted_without k tried.pairs tried.rises) made tried.is_node (differs-without k es (in_order h is.3 rows was elem ps t es tried)) tried.holds
    (each_pairs (Held was) h rows elem (without k xs) (each_without (EntryHas (Held was) h rows elem) k xs (old_entries h rows was s elem is before t ps has)))
