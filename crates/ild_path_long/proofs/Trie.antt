-- Where the blocks of a HAMT's nodes are short, so are the data of its entries.
use Rattle.std.proofs.Common.{◌≡◌, ℕ, zero, suc, ◌+◌, ◌-◌, ◌^◌, ◌≤◌, nat_le, Bool, true, false, cond, List, [], ◌∷◌, ◌++◌, length, length-append, map, flat_map, Option, Some, None, refl, sym, ap, ◌∙◌, subst, arith}
use Rattle.std.proofs.Math.Nat.{sub-zero}
use Rattle.std.specs.List.{AllByRecursion, range_with_len}
use Rattle.std.proofs.lemmas.Option.{none-some, same_Some}
use Rattle.ild_data.proofs.AllOf.{all_split}
use Rattle.ild_data.specs.ByteOrder.{in_byte_order, no_key_twice}
use Rattle.ild_data.specs.Data as T
use Rattle.ild_data.specs.Data.{Data, items_list, items_of}
use Rattle.ild_data.specs.Spell.{head, spell, spell_items}
use Rattle.ild_data.specs.Trie.{TrieSlot, empty, bucket, child, all_some, at_depth, bucket_entries, bucket_or, elements_of, entry_data, link_to, map_of, node_data, node_of, part, slot_of, slots_at, trie}
use Rattle.ild_data.specs.TrieBlocks.{block_of, node_and_beneath, nodes_beneath, none_or}
use Rattle.ild_data.specs.declared.hamt_shape.HamtShape.{HamtShape}
use Rattle.ild_data.specs.TrieShape.{trie_levels}
use Rattle.ild_hamt_trie.proofs.Index.{index_below}
use Rattle.ild_hamt_trie.proofs.Slots.{some_cons}
use Rattle.ild_path_sizes.proofs.Sizes.{in_list}
use Rattle.ild_path_reroot.proofs.Among.{root_longer}
use Rattle.ild_typed.proofs.Basics.{map_from}
use Rattle.ild_typed.specs.Hamt.{root_map}
use Rattle.ild_typed_places.proofs.Listing.{in_range}
use Rattle.ild_typed_places.proofs.Ordered.{from_order, from_parts}

module _ (n : ℕ) where
  abbrev pub IsShort : List ℕ → Type 0
  IsShort b = length b ≤ n

  abbrev pub SpellsShort : Data → Type 0
  SpellsShort d = length (spell d) ≤ n

  abbrev pub HasShort : List ℕ × Data → Type 0
  HasShort e = length (spell e.1) ≤ n

  -- ---- a node

  items_short : (ds : List Data) → length (spell_items (items_of ds)) ≤ n → AllByRecursion SpellsShort ds
  items_short [] le = tt
  items_short (d ∷ ds) le =
      let more = length-append (spell d) (spell_items (items_of ds)) in
      (omega (arith, le, more), items_short ds (omega (arith, le, more)))

  list_short : (ds : List Data) → SpellsShort (T.list (items_of ds)) → AllByRecursion SpellsShort ds
  list_short ds le = items_short ds (omega (arith, le, length-append (head 4 (length (items_list (items_of ds)))) (spell_items (items_of ds))))

  entries_short : (es : List (List ℕ × Data)) → AllByRecursion SpellsShort (map entry_data es) → AllByRecursion HasShort es
  entries_short [] all = tt
  entries_short (e ∷ es) all =
      let own = in_list (T.bytes e.0 ∷ e.1 ∷ []) 1 e.1 refl in
      let le = all.0 in
      (omega (arith, own, le), entries_short es all.1)

  abbrev InSlotShort : TrieSlot → Type 0
  InSlotShort z = AllByRecursion HasShort (bucket_entries z)

  slots_short : (slots : List TrieSlot) → AllByRecursion SpellsShort (flat_map elements_of slots) → AllByRecursion InSlotShort slots
  slots_short [] all = tt
  slots_short (empty ∷ slots) all = (tt, slots_short slots all)
  slots_short (bucket es ∷ slots) all = (entries_short es (list_short (map entry_data es) all.0), slots_short slots all.1)
  slots_short (child id ∷ slots) all = (tt, slots_short slots all.1)

  node_short : (slots : List TrieSlot) → SpellsShort (node_data slots) → AllByRecursion InSlotShort slots
  node_short slots le =
      let elements = T.list (items_of (flat_map elements_of slots)) in
      let own = in_list (T.bytes (map_of slots) ∷ elements ∷ []) 1 elements refl in
      slots_short slots (list_short (flat_map elements_of slots) (omega (arith, own, le)))

  -- ---- the nodes beneath

  -- what is known of the node of a part that is more than a bucket takes
  abbrev Deep : (List (List ℕ × Data) → Option Data) → (List (List ℕ × Data) → List (List ℕ)) → List (List ℕ × Data) → Type 0
  Deep below beneath es = (d : Data) → below es ≡ Some d → SpellsShort d → AllByRecursion IsShort (beneath es) → AllByRecursion HasShort es

  one_part : (most : ℕ) (below : List (List ℕ × Data) → Option Data) (beneath : List (List ℕ × Data) → List (List ℕ)) (es : List (List ℕ × Data)) (z : TrieSlot) → slot_of most below es ≡ Some z → InSlotShort z
      → Deep below beneath es → AllByRecursion IsShort (node_and_beneath most below beneath es) → AllByRecursion HasShort es
  one_part most below beneath [] z e short deep on = tt
  one_part most below beneath (x ∷ es) z e short deep on = by (nat_le (length (x ∷ es)) most) e on where
    by : (b : Bool) → bucket_or b below (x ∷ es) ≡ Some z → AllByRecursion IsShort (none_or b (λ fs. block_of (below fs) ++ beneath fs) (x ∷ es)) → AllByRecursion HasShort (x ∷ es)
    by true g blocks = subst InSlotShort (sym (same_Some (bucket (x ∷ es)) z g)) short
    by false g blocks =
        let k = map_from link_to (below (x ∷ es)) z g in
        let here : AllByRecursion IsShort (spell k.item ∷ beneath (x ∷ es)) = subst (λ o. AllByRecursion IsShort (block_of o ++ beneath (x ∷ es))) k.there blocks in
        deep k.item k.there here.0 here.1

  all_parts : (most : ℕ) (below : List (List ℕ × Data) → Option Data) (beneath : List (List ℕ × Data) → List (List ℕ)) (at : List ℕ → ℕ) (es : List (List ℕ × Data)) (js : List ℕ) (slots : List TrieSlot)
      → all_some (map (λ i. slot_of most below (part at es i)) js) ≡ Some slots → AllByRecursion InSlotShort slots → ((i : ℕ) → Deep below beneath (part at es i))
      → AllByRecursion IsShort (flat_map (λ i. node_and_beneath most below beneath (part at es i)) js) → AllByRecursion (λ i. AllByRecursion HasShort (part at es i)) js
  all_parts most below beneath at es [] slots e short deep on = tt
  all_parts most below beneath at es (j ∷ js) slots e short deep on =
      by (slot_of most below (part at es j)) refl e (λ more g s. all_parts most below beneath at es js more g s deep parts.1) where
        parts : AllByRecursion IsShort (node_and_beneath most below beneath (part at es j)) × AllByRecursion IsShort (flat_map (λ i. node_and_beneath most below beneath (part at es i)) js)
        parts = all_split IsShort (node_and_beneath most below beneath (part at es j)) (flat_map (λ i. node_and_beneath most below beneath (part at es i)) js) on

        by : (o : Option TrieSlot) → slot_of most below (part at es j) ≡ o → all_some (o ∷ map (λ i. slot_of most below (part at es i)) js) ≡ Some slots
            → ((more : List TrieSlot) → all_some (map (λ i. slot_of most below (part at es i)) js) ≡ Some more → AllByRecursion InSlotShort more → AllByRecursion (λ i. AllByRecursion HasShort (part at es i)) js)
            → AllByRecursion (λ i. AllByRecursion HasShort (part at es i)) (j ∷ js)
        by None is g later = absurd (none-some slots g)
        by (Some z) is g later =
            let x = some_cons z (all_some (map (λ i. slot_of most below (part at es i)) js)) slots g in
            let both : AllByRecursion InSlotShort (z ∷ x.0) = subst (AllByRecursion InSlotShort) x.2 short in
            (one_part most below beneath (part at es j) z is both.0 (deep j) parts.0, later x.0 x.1 both.1)

  pub entries_of_node : (h : List ℕ → List ℕ) (p : HamtShape) (left depth : ℕ) (es : List (List ℕ × Data)) (d : Data) → node_of h p left depth es ≡ Some d → SpellsShort d
      → AllByRecursion IsShort (nodes_beneath h p left depth es) → AllByRecursion HasShort es
  unfolding nodes_beneath node_of
  entries_of_node h p zero depth es d e short on = absurd (none-some d e)
  entries_of_node h p (suc left) depth es d e short on =
      let x = map_from node_data (slots_at h p left depth es) d e in
      let here : SpellsShort (node_data x.item) = subst SpellsShort (sym (same_Some (node_data x.item) d x.made)) short in
      let pieces = all_parts p.bucket (node_of h p left (depth + 1)) (nodes_beneath h p left (depth + 1)) (at_depth h p depth) es (range_with_len 0 (2 ^ p.width)) x.item x.there (node_short x.item here)
      (λ i c has few more. entries_of_node h p left (depth + 1) (part (at_depth h p depth) es i) c has few more) on in
      from_parts HasShort (at_depth h p depth) (2 ^ p.width) es (λ k. index_below p (h k) depth)
      (λ j low. in_range (λ i. AllByRecursion HasShort (part (at_depth h p depth) es i)) 0 (2 ^ p.width) j pieces (omega arith) (omega (arith, low)))

  -- ---- a root map

  with_trie : (b : Bool) (o : Option Data) (d : Data) → cond b o None ≡ Some d → (b ≡ true) × (o ≡ Some d)
  with_trie true o d e = (refl, e)
  with_trie false o d e = absurd (none-some d e)

  pub entries_of_trie : (h : List ℕ → List ℕ) (p : HamtShape) (es : List (List ℕ × Data)) (d : Data) → trie h p es 0 ≡ Some d → SpellsShort (root_map p d)
      → AllByRecursion IsShort (nodes_beneath h p (trie_levels p) 0 (in_byte_order es)) → AllByRecursion HasShort es
  unfolding trie
  entries_of_trie h p es d e short on =
      let x = with_trie (no_key_twice es) (node_of h p (trie_levels p - 0) 0 (in_byte_order es)) d e in
      let node : node_of h p (trie_levels p) 0 (in_byte_order es) ≡ Some d = ap (λ l. node_of h p l 0 (in_byte_order es)) (sym (sub-zero (trie_levels p))) ∙ x.1 in
      let less = root_longer p d in
      from_order HasShort es x.0 (entries_of_node h p (trie_levels p) 0 (in_byte_order es) d node (omega (arith, less, short)) on)
