-- The blocks of the places beneath the node of entries are those of the nodes beneath it, and those in the values of its entries.
use Rattle.std.proofs.Common.{ℕ, zero, suc, ◌+◌, ◌^◌, ◌==◌, nat_le, Bool, true, false, List, [], ◌∷◌, ◌++◌, length, flat_map, Option, Some, None, arith}
use Rattle.std.specs.List.{AllByRecursion, range_with_len}
use Rattle.ild_data.proofs.AllOf.{all_append, all_split, all_filter}
use Rattle.ild_data.specs.Data.{Data}
use Rattle.ild_data.specs.Trie.{part, node_of, at_depth}
use Rattle.ild_data.specs.TrieBlocks.{block_of, node_and_beneath, nodes_beneath, none_or}
use Rattle.ild_data.specs.declared.hamt_shape.HamtShape.{HamtShape}
use Rattle.ild_hamt_trie.proofs.Index.{index_below}
use Rattle.ild_typed_places.specs.Places.{Places, blocks_in, node_place, bucket_or_node, places_beneath}
use Rattle.ild_typed_places.proofs.Joining.{All, over_each, each_over}
use Rattle.ild_typed_places.proofs.Listing.{all_over, in_range}
use Rattle.ild_typed_places.proofs.Ordered.{from_parts}

module _ (P : List ℕ → Type 0) (inner : List ℕ → Places) where
  abbrev On : List (List ℕ) → Type 0
  On bs = AllByRecursion P bs

  -- what is in the values of the entries
  abbrev pub Inside : List (List ℕ × Data) → Type 0
  Inside es = AllByRecursion (λ e. All P (inner e.0)) es

  with_node : (o : Option Data) (bs : List (List ℕ)) (ps : Places) → (On bs → All P ps) → On (block_of o ++ bs) → All P (node_place o ps)
  with_node None bs ps f on = f on
  with_node (Some n) bs ps f on = (on.0, all_append P (blocks_in ps) [] (f on.1) tt)

  node_with : (o : Option Data) (bs : List (List ℕ)) (ps : Places) {X : Type 0} → (All P ps → On bs × X) → All P (node_place o ps) → On (block_of o ++ bs) × X
  node_with None bs ps f all = f all
  node_with (Some n) bs ps f all = let x = f (all_split P (blocks_in ps) [] all.1).0 in ((all.0, x.0), x.1)

  module _ (below : List (List ℕ × Data) → Option Data) (bs : List (List ℕ × Data) → List (List ℕ)) (ps : List (List ℕ × Data) → Places) where
    one_to : (es : List (List ℕ × Data)) (b : Bool) → (On (bs es) → All P (ps es)) → Inside es → On (none_or b (λ fs. block_of (below fs) ++ bs fs) es) → All P (bucket_or_node b inner below ps es)
    one_to es true f inside on = over_each P (λ e. inner e.0) es inside
    one_to es false f inside on = with_node (below es) (bs es) (ps es) f on

    to_one : (es : List (List ℕ × Data)) (b : Bool) → (All P (ps es) → On (bs es) × Inside es) → All P (bucket_or_node b inner below ps es) → On (none_or b (λ fs. block_of (below fs) ++ bs fs) es) × Inside es
    to_one es true f all = (tt, each_over P (λ e. inner e.0) es all)
    to_one es false f all = node_with (below es) (bs es) (ps es) f all

    each_to : (most : ℕ) (at : List ℕ → ℕ) (es : List (List ℕ × Data)) → Inside es → ((fs : List (List ℕ × Data)) → Inside fs → On (bs fs) → All P (ps fs))
        → (js : List ℕ) → On (flat_map (λ i. node_and_beneath most below bs (part at es i)) js)
        → AllByRecursion (λ i. All P (bucket_or_node (nat_le (length (part at es i)) most) inner below ps (part at es i))) js
    each_to most at es inside f [] on = tt
    each_to most at es inside f (j ∷ js) on =
        let parts = all_split P (node_and_beneath most below bs (part at es j)) (flat_map (λ i. node_and_beneath most below bs (part at es i)) js) on in
        let mine : Inside (part at es j) = all_filter (λ e. All P (inner e.0)) (λ e. at e.0 == j) es inside in
        (one_to (part at es j) (nat_le (length (part at es j)) most) (f (part at es j) mine) mine parts.0, each_to most at es inside f js parts.1)

    to_each : (most : ℕ) (at : List ℕ → ℕ) (es : List (List ℕ × Data)) → ((fs : List (List ℕ × Data)) → All P (ps fs) → On (bs fs) × Inside fs)
        → (js : List ℕ) → AllByRecursion (λ i. All P (bucket_or_node (nat_le (length (part at es i)) most) inner below ps (part at es i))) js
        → AllByRecursion (λ i. On (node_and_beneath most below bs (part at es i))) js × AllByRecursion (λ i. Inside (part at es i)) js
    to_each most at es f [] all = (tt, tt)
    to_each most at es f (j ∷ js) all =
        let here = to_one (part at es j) (nat_le (length (part at es j)) most) (f (part at es j)) all.0 in
        let more = to_each most at es f js all.1 in
        ((here.0, more.0), (here.1, more.1))

  module _ (h : List ℕ → List ℕ) (p : HamtShape) where
    pub to_beneath : (left depth : ℕ) (es : List (List ℕ × Data)) → Inside es → On (nodes_beneath h p left depth es) → All P (places_beneath inner h p left depth es)
    unfolding nodes_beneath places_beneath
    to_beneath zero depth es inside on = over_each P (λ e. inner e.0) es inside
    to_beneath (suc left) depth es inside on =
        over_each P (λ i. bucket_or_node (nat_le (length (part (at_depth h p depth) es i)) p.bucket) inner (node_of h p left (depth + 1)) (places_beneath inner h p left (depth + 1)) (part (at_depth h p depth) es i)) (range_with_len 0 (2 ^ p.width))
        (each_to (node_of h p left (depth + 1)) (nodes_beneath h p left (depth + 1)) (places_beneath inner h p left (depth + 1)) p.bucket (at_depth h p depth) es inside (λ fs mine on. to_beneath left (depth + 1) fs mine on)
        (range_with_len 0 (2 ^ p.width)) on)

    pub from_beneath : (left depth : ℕ) (es : List (List ℕ × Data)) → All P (places_beneath inner h p left depth es) → On (nodes_beneath h p left depth es) × Inside es
    unfolding nodes_beneath places_beneath
    from_beneath zero depth es all = (tt, each_over P (λ e. inner e.0) es all)
    from_beneath (suc left) depth es all =
        let pieces = to_each (node_of h p left (depth + 1)) (nodes_beneath h p left (depth + 1)) (places_beneath inner h p left (depth + 1)) p.bucket (at_depth h p depth) es (λ fs a. from_beneath left (depth + 1) fs a)
        (range_with_len 0 (2 ^ p.width))
        (each_over P (λ i. bucket_or_node (nat_le (length (part (at_depth h p depth) es i)) p.bucket) inner (node_of h p left (depth + 1)) (places_beneath inner h p left (depth + 1)) (part (at_depth h p depth) es i)) (range_with_len 0 (2 ^ p.width)) all) in (
          all_over P (λ i. node_and_beneath p.bucket (node_of h p left (depth + 1)) (nodes_beneath h p left (depth + 1)) (part (at_depth h p depth) es i)) (range_with_len 0 (2 ^ p.width)) pieces.0,
          from_parts (λ e. All P (inner e.0)) (at_depth h p depth) (2 ^ p.width) es (λ k. index_below p (h k) depth)
              (λ j low. in_range (λ i. Inside (part (at_depth h p depth) es i)) 0 (2 ^ p.width) j pieces.1 (omega arith) (omega (arith, low))),
        )
