-- The way of a key in a HAMT that has changed at the key.
use Rattle.std.proofs.Common.{◌≡◌, ◌≢◌, inl, inr, ⊎_elim, ℕ, zero, suc, ◌+◌, ◌^◌, ◌<◌, ◌==◌, nat_le, Bool, true, false, List, [], ◌∷◌, ◌++◌, length, map, Some, refl, sym, ap, ◌∙◌, subst, arith}
use Rattle.std.specs.List.{AllByRecursion, range_with_len}
use Rattle.std.proofs.lemmas.Bool.{lt-leb, le-leb, cases_eq, cases_lt}
use Rattle.ild_hamt.proofs.Planned.{none-at}
use Rattle.ild_data.proofs.AllOf.{all_filter}
use Rattle.ild_data.specs.Data.{Data}
use Rattle.ild_data.specs.Spell.{spell, id_of}
use Rattle.ild_data.specs.declared.hamt_shape.HamtShape.{HamtShape}
use Rattle.ild_data.specs.Trie.{TrieSlot, part, slot_of, all_some, node_of, at_depth, slots_at}
use Rattle.ild_data.specs.TrieBlocks.{none_or, block_of}
use Rattle.ild_edges.specs.Store.{block_at}
use Rattle.ild_hamt_trie.specs.Way.{way}
use Rattle.ild_hamt_trie.proofs.Fold.{slot-many}
use Rattle.ild_hamt_trie.proofs.Index.{index_below}
use Rattle.ild_hamt_trie.proofs.Node.{slots-node, no_node}
use Rattle.ild_hamt_trie.proofs.Slots.{all_some-cons}
use Rattle.ild_hamt_trie.proofs.Way.{way_is}
use Rattle.ild_typed.proofs.Rooms.{all_more}
use Rattle.ild_typed_places.specs.Parts.{LieIn}
use Rattle.ild_typed_places.specs.Places.{Places, nowhere, place, places_over, tops, node_place, bucket_or_node, places_beneath}
use Rattle.ild_typed_places.proofs.Listing.{in_range}
use Rattle.ild_bulk_walker.specs.Trees.{HoldsBelow}
use Rattle.ild_hamt_climb.specs.Rewriting.{DiffersAt}
use Rattle.ild_hamt_climb.proofs.Differing.{part-differs, part-others}
use Rattle.ild_hamt.proofs.Holding.{Had, had-below, linked, part-there}
use Rattle.ild_path_children.specs.Ways.{IsNear, IsNext, WayIn}
use Rattle.ild_path_children.proofs.Topping.{Tops, at_top, beneath_top, each_lies, over_tops}

abbrev pub Held : List (List ℕ) → List ℕ → Type 0
Held was c = block_at was (id_of c) ≡ Some c

module _ (inner : List ℕ → Places) (h : List ℕ → List ℕ) (p : HamtShape) (k : List ℕ) (was : List (List ℕ)) where
  abbrev Part : ℕ → List (List ℕ × Data) → ℕ → List (List ℕ × Data)
  Part depth es i = part (at_depth h p depth) es i

  abbrev On : ℕ → List (List ℕ × Data) → List (List ℕ × Data)
  On depth es = part (at_depth h p depth) es (at_depth h p depth k)

  -- what stands beneath a slot
  abbrev Under : ℕ → ℕ → List (List ℕ × Data) → Places
  Under left depth gs = bucket_or_node (nat_le (length gs) p.bucket) inner (node_of h p left (depth + 1)) (places_beneath inner h p left (depth + 1)) gs

  -- the tops in the values of the entries are held
  abbrev pub Inside : List (List ℕ × Data) → Type 0
  Inside es = AllByRecursion (λ e. Tops (Held was) (inner e.0)) es

  node_stands : (left depth : ℕ) (gs : List (List ℕ × Data)) (node : Data) → p.bucket < length gs → node_of h p left (depth + 1) gs ≡ Some node
      → Under left depth gs ≡ place (spell node) (places_beneath inner h p left (depth + 1) gs) nowhere
  node_stands left depth gs node lots is =
      ap (λ b. bucket_or_node b inner (node_of h p left (depth + 1)) (places_beneath inner h p left (depth + 1)) gs) (lt-leb (length gs) p.bucket lots)
      ∙ ap (λ o. node_place o (places_beneath inner h p left (depth + 1) gs)) is

  -- the first block of a way that goes on
  way_first : (left depth : ℕ) (es : List (List ℕ × Data)) (node : Data) → p.bucket < length (On depth es) → node_of h p left (depth + 1) (On depth es) ≡ Some node
      → way h p k (suc left) depth es ≡ spell node ∷ way h p k left (depth + 1) (On depth es)
  way_first left depth es node lots is =
      let fs : List (List ℕ × Data) = On depth es in
      way_is h p k left depth es
      ∙ ap (λ b. none_or b (λ gs. block_of (node_of h p left (depth + 1) gs) ++ way h p k left (depth + 1) gs) fs) (lt-leb (length fs) p.bucket lots)
      ∙ ap (λ o. block_of o ++ way h p k left (depth + 1) fs) is

  -- ---- the children of one node

  module _ (left depth : ℕ) (es fs : List (List ℕ × Data)) (d : DiffersAt k es fs) (below : HoldsBelow h p was (suc left) depth es) (inside : Inside fs) where
    abbrev Near : List ℕ → Type 0
    Near c = IsNear was (way h p k (suc left) depth fs) c

    on_way : (i : ℕ) (node : Data) → at_depth h p depth k ≡ i → p.bucket < length (Part depth fs i) → node_of h p left (depth + 1) (Part depth fs i) ≡ Some node → IsNext (spell node) (way h p k (suc left) depth fs)
    on_way i node same lots there =
        let first = way_first left depth fs node (subst (λ (n : ℕ). p.bucket < length (Part depth fs n)) (sym same) lots) (subst (λ (n : ℕ). node_of h p left (depth + 1) (Part depth fs n) ≡ Some node) (sym same) there) in
        subst (λ (ws : List (List ℕ)). IsNext (spell node) ws) (sym first) refl

    off_way : (i : ℕ) (node : Data) → at_depth h p depth k ≢ i → p.bucket < length (Part depth fs i) → node_of h p left (depth + 1) (Part depth fs i) ≡ Some node → Held was (spell node)
    off_way i node apart lots there =
        let same = part-others (at_depth h p depth) k i es fs d apart in
        let held = below i node (subst (λ (gs : List (List ℕ × Data)). p.bucket < length gs) same lots) (subst (λ (gs : List (List ℕ × Data)). node_of h p left (depth + 1) gs ≡ Some node) same there) in
        held.0.here

    inside_near : AllByRecursion (λ e. Tops Near (inner e.0)) fs
    inside_near = all_more (λ e. Tops (Held was) (inner e.0)) (λ e. Tops Near (inner e.0)) (λ e all. all_more (Held was) Near (λ c is. inl is) (tops (inner e.0)) all) fs inside

    one_slot : (i : ℕ) (z : TrieSlot) → slot_of p.bucket (node_of h p left (depth + 1)) (Part depth fs i) ≡ Some z → Tops Near (Under left depth (Part depth fs i))
    one_slot i z is =
        ⊎_elim
        (λ lots.
        let node = linked (node_of h p left (depth + 1) (Part depth fs i)) z (sym (slot-many p.bucket (node_of h p left (depth + 1)) (Part depth fs i) lots) ∙ is) in
        let near : Near (spell node.0) = ⊎_elim (λ same. inr (on_way i node.0 same lots node.1)) (λ apart. inl (off_way i node.0 apart lots node.1)) (cases_eq (at_depth h p depth k) i) in
        subst (Tops Near) (sym (node_stands left depth (Part depth fs i) node.0 lots node.1)) (near, tt))
        (λ small.
        subst (Tops Near) (sym (ap (λ b. bucket_or_node b inner (node_of h p left (depth + 1)) (places_beneath inner h p left (depth + 1)) (Part depth fs i)) (le-leb (length (Part depth fs i)) p.bucket small)))
        (over_tops Near (λ e. inner e.0) (Part depth fs i) (all_filter (λ e. Tops Near (inner e.0)) (λ e. at_depth h p depth e.0 == i) fs inside_near)))
        (cases_lt p.bucket (length (Part depth fs i)))

    each_slot : (js : List ℕ) (slots : List TrieSlot) → all_some (map (λ i. slot_of p.bucket (node_of h p left (depth + 1)) (Part depth fs i)) js) ≡ Some slots → AllByRecursion (λ i. Tops Near (Under left depth (Part depth fs i))) js
    each_slot [] slots is = tt
    each_slot (j ∷ js) slots is =
        let parts = all_some-cons (slot_of p.bucket (node_of h p left (depth + 1)) (Part depth fs j)) (map (λ i. slot_of p.bucket (node_of h p left (depth + 1)) (Part depth fs i)) js) slots is in
        (one_slot j parts.0 parts.2, each_slot js parts.1 parts.3)

    near_tops : (ss : List TrieSlot) → slots_at h p left depth fs ≡ Some ss → Tops Near (places_beneath inner h p (suc left) depth fs)
    unfolding places_beneath
    near_tops ss is = over_tops Near (λ i. Under left depth (Part depth fs i)) (range_with_len 0 (2 ^ p.width)) (each_slot (range_with_len 0 (2 ^ p.width)) ss is)

  -- ---- the way

  node_lies : (left depth : ℕ) (fs : List (List ℕ × Data)) (node : Data) → p.bucket < length (On depth fs) → node_of h p left (depth + 1) (On depth fs) ≡ Some node
      → LieIn (place (spell node) (places_beneath inner h p left (depth + 1) (On depth fs)) nowhere) (places_beneath inner h p (suc left) depth fs)
  unfolding places_beneath
  node_lies left depth fs node lots there =
      let all : Places = places_over (λ i. Under left depth (Part depth fs i)) (range_with_len 0 (2 ^ p.width)) in
      subst (λ (ps : Places). LieIn ps all) (node_stands left depth (On depth fs) node lots there)
      (in_range (λ j. LieIn (Under left depth (Part depth fs j)) all) 0 (2 ^ p.width) (at_depth h p depth k) (each_lies (λ i. Under left depth (Part depth fs i)) (range_with_len 0 (2 ^ p.width))) (omega arith)
      (let low = index_below p (h k) depth in omega (arith, low)))

  ends : (home : Places) (left depth : ℕ) (fs : List (List ℕ × Data)) → (b : Bool) → nat_le (length (On depth fs)) p.bucket ≡ b → (b ≡ false → WayIn home was (block_of (node_of h p left (depth + 1) (On depth fs)) ++ way h p k left (depth + 1) (On depth fs)))
      → WayIn home was (way h p k (suc left) depth fs)
  ends home left depth fs b is rest =
      subst (WayIn home was) (sym (way_is h p k left depth fs ∙ ap (λ c. none_or c (λ gs. block_of (node_of h p left (depth + 1) gs) ++ way h p k left (depth + 1) gs) (On depth fs)) is)) (by b rest)
    where
      by : (c : Bool) → (c ≡ false → WayIn home was (block_of (node_of h p left (depth + 1) (On depth fs)) ++ way h p k left (depth + 1) (On depth fs)))
          → WayIn home was (none_or c (λ gs. block_of (node_of h p left (depth + 1) gs) ++ way h p k left (depth + 1) gs) (On depth fs))
      by true f = tt
      by false f = f refl

  pub way_in : (home : Places) (left depth : ℕ) (es fs : List (List ℕ × Data)) (ss : List TrieSlot) → DiffersAt k es fs → Had h p left depth es → slots_at h p left depth fs ≡ Some ss → HoldsBelow h p was (suc left) depth es → Inside fs
      → LieIn (places_beneath inner h p (suc left) depth fs) home → WayIn home was (way h p k (suc left) depth fs)
  way_in home zero depth es fs ss d had is below inside lies =
      ends home zero depth fs (nat_le (length (On depth fs)) p.bucket) refl
      (λ none. subst (WayIn home was) (sym (λ i. block_of (no_node h p (depth + 1) (On depth fs) i) ++ none-at h p k (depth + 1) (On depth fs) i)) tt)
  way_in home (suc left) depth es fs ss d had is below inside lies =
      let gs : List (List ℕ × Data) = On depth fs in
      let beneath = had-below h p k was left depth es had below in
      let deeper = part-differs (at_depth h p depth) k (at_depth h p depth k) es fs d in
      let mine : Inside gs = all_filter (λ e. Tops (Held was) (inner e.0)) (λ e. at_depth h p depth e.0 == at_depth h p depth k) fs inside in
      ⊎_elim
      (λ lots.
      let node = part-there h p k (suc left) depth fs ss is lots in
      let new = slots-node h p left (depth + 1) gs node.0 node.1 in
      let here : LieIn (place (spell node.0) (places_beneath inner h p (suc left) (depth + 1) gs) nowhere) home = λ q there. lies q (node_lies (suc left) depth fs node.0 lots node.1 q there) in
      subst (WayIn home was) (sym (way_first (suc left) depth fs node.0 lots node.1)) (
        record {
          at = (spell node.0, places_beneath inner h p (suc left) (depth + 1) gs);
          among = at_top (spell node.0) (places_beneath inner h p (suc left) (depth + 1) gs) home here;
          is = refl;
          children = near_tops left (depth + 1) (On depth es) gs deeper beneath.1 mine new.0 new.1;
        },
        way_in home left (depth + 1) (On depth es) gs new.0 deeper beneath.0 new.1 beneath.1 mine (beneath_top (spell node.0) (places_beneath inner h p (suc left) (depth + 1) gs) home here),
      ))
      (λ small. ends home (suc left) depth fs true (le-leb (length gs) p.bucket small) (λ none. absurd (let e : true ≡ false = none in cc)))
      (cases_lt p.bucket (length gs))
