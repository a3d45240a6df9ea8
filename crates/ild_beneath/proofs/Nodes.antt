-- The children that a node's data tell stand beneath its block.
use Rattle.std.proofs.Common.{◌≡◌, ℕ, zero, suc, ◌+◌, ◌^◌, ◌==◌, nat_le, Bool, true, false, List, [], ◌∷◌, ◌++◌, length, map, flat_map, Option, Some, None, refl, sym, ap, ◌∙◌, subst, arith, append-nil, append_assoc}
use Rattle.std.specs.List.{AllByRecursion, range_with_len}
use Rattle.std.proofs.lemmas.Bool.{le-leb}
use Rattle.std.proofs.lemmas.Option.{same_Some}
use Rattle.ild_data.proofs.AllOf.{all_filter}
use Rattle.ild_data.proofs.Lists.{items_list-items_of}
use Rattle.ild_data.specs.Data as T
use Rattle.ild_data.specs.Data.{Data}
use Rattle.ild_data.specs.Trie.{TrieSlot, empty, bucket, elements_of, entry_data, link_to, bucket_or, part, slot_of, all_some, node_of, at_depth}
use Rattle.ild_data.specs.declared.hamt_shape.HamtShape.{HamtShape}
use Rattle.ild_schema.specs.declared.number.TypeNo.{TypeNo}
use Rattle.ild_schema.specs.declared.row.Row.{Row}
use Rattle.ild_hamt_trie.proofs.Node.{slots-node, no_node}
use Rattle.ild_hamt_trie.proofs.Slots.{all_some-cons}
use Rattle.sha2.proofs.Facts256.{length-sha256}
use Rattle.std.specs.Option.{option_map_or}
use Rattle.ild_typed.proofs.NodeElements.{id-read}
use Rattle.ild_typed.proofs.Basics.{map_from}
use Rattle.ild_data.specs.Spell.{spell, id_of}
use Rattle.ild_data.specs.Tree.{IsTree}
use Rattle.ild_typed.proofs.Treed.{EntryIn}
use Rattle.ild_typed.proofs.TreeNodes.{node_of_in}
use Rattle.ild_typed_places.specs.Places.{Places, nowhere, place, joined, places_over, node_place, bucket_or_node, places_beneath}
use Rattle.ild_beneath.specs.Children.{AreOf, Child, children_in, element_children, entry_children, node_children}

pub joined_none : (ps : Places) → joined ps nowhere ≡ ps
joined_none nowhere = refl
joined_none (place b beneath ps) = ap (place b beneath) (joined_none ps)

pub flat_append : {X A : Type 0} (f : X → List A) (xs ys : List X) → flat_map f (xs ++ ys) ≡ flat_map f xs ++ flat_map f ys
flat_append f [] ys = refl
flat_append f (x ∷ xs) ys = ap (λ zs. f x ++ zs) (flat_append f xs ys) ∙ sym (append_assoc (f x) (flat_map f xs) (flat_map f ys))

module _ (rows : List Row) (ty : TypeNo) where
  abbrev pub Of : List Child → Places → Type 0
  Of cs ps = AreOf rows ty cs ps

  pub both : (cs ds : List Child) (ps qs : Places) → Of cs ps → Of ds qs → Of (cs ++ ds) (joined ps qs)
  both [] ds nowhere qs a b = b
  both [] ds (place p beneath ps) qs a b = absurd a
  both (c ∷ cs) ds nowhere qs a b = absurd a
  both (c ∷ cs) ds (place p beneath ps) qs a b = (a.0, a.1, both cs ds ps qs a.2 b)

  pub over_all : {X : Type 0} (f : X → List Child) (g : X → Places) (xs : List X) → AllByRecursion (λ x. Of (f x) (g x)) xs → Of (flat_map f xs) (places_over g xs)
  over_all f g [] all = tt
  over_all f g (x ∷ xs) all = both (f x) (flat_map f xs) (g x) (places_over g xs) all.0 (over_all f g xs all.1)

  module _ (inner : List ℕ → Places) (kind : ℕ) where
    -- the entries' values tell what is in them
    abbrev pub Inside : (Data → List Child) → List (List ℕ × Data) → Type 0
    Inside f es = AllByRecursion (λ e. Of (f e.1) (inner e.0)) es

    bucket_same : (f : Data → List Child) (es : List (List ℕ × Data)) → flat_map (entry_children f) (map entry_data es) ≡ flat_map (λ e. f e.1) es
    bucket_same f [] = refl
    bucket_same f (e ∷ es) = ap (λ xs. f e.1 ++ xs) (bucket_same f es)

    module _ (f : Data → List Child) (most : ℕ) (below : List (List ℕ × Data) → Option Data) (beneath : List (List ℕ × Data) → Places) where
      abbrev told : TrieSlot → List Child
      told z = flat_map (element_children f kind) (elements_of z)

      abbrev stand : List (List ℕ × Data) → Places
      stand es = bucket_or_node (nat_le (length es) most) inner below beneath es

      abbrev Deep : List (List ℕ × Data) → Type 0
      Deep es = (n : Data) → below es ≡ Some n → IsTree n × Of (children_in rows ty kind n) (beneath es)

      link_told : (m : Data) → told (link_to m) ≡ (id_of (spell m), kind) ∷ []
      link_told m = ap (λ o. option_map_or (λ id. (id, kind) ∷ []) o [] ++ []) (id-read (id_of (spell m)) (length-sha256 (spell m)))

      in_bucket : (es : List (List ℕ × Data)) → Inside f es → Of (told (bucket es)) (places_over (λ e. inner e.0) es)
      in_bucket es inside =
          let same : told (bucket es) ≡ flat_map (λ e. f e.1) es
          = append-nil (flat_map (entry_children f) (T.items_list (T.items_of (map entry_data es)))) ∙ ap (flat_map (entry_children f)) (items_list-items_of (map entry_data es)) ∙ bucket_same f es in
          subst (λ cs. Of cs (places_over (λ e. inner e.0) es)) (sym same) (over_all (λ e. f e.1) (λ e. inner e.0) es inside)

      one_slot : (es : List (List ℕ × Data)) (z : TrieSlot) → slot_of most below es ≡ Some z → Inside f es → Deep es → Of (told z) (stand es)
      one_slot [] z is inside deep =
          let few : nat_le 0 most ≡ true = le-leb 0 most (omega arith) in
          subst (λ b. Of (told z) (bucket_or_node b inner below beneath [])) (sym few) (subst (λ y. Of (told y) nowhere) (same_Some empty z is) tt)
      one_slot (e ∷ es) z is inside deep = by (nat_le (length (e ∷ es)) most) is where
        by : (b : Bool) → bucket_or b below (e ∷ es) ≡ Some z → Of (told z) (bucket_or_node b inner below beneath (e ∷ es))
        by true made = subst (λ y. Of (told y) (places_over (λ e. inner e.0) (e ∷ es))) (same_Some (bucket (e ∷ es)) z made) (in_bucket (e ∷ es) inside)
        by false made =
            let n = map_from link_to (below (e ∷ es)) z made in
            subst (λ y. Of (told y) (node_place (below (e ∷ es)) (beneath (e ∷ es)))) (same_Some (link_to n.item) z n.made)
            (subst (λ o. Of (told (link_to n.item)) (node_place o (beneath (e ∷ es)))) (sym n.there)
            (subst (λ cs. Of cs (node_place (Some n.item) (beneath (e ∷ es)))) (sym (link_told n.item)) (refl, (n.item, (deep n.item n.there).0, refl, (deep n.item n.there).1), tt)))

      each_slot : (at : List ℕ → ℕ) (es : List (List ℕ × Data)) → Inside f es → ((i : ℕ) → Deep (part at es i)) → (js : List ℕ) (slots : List TrieSlot)
          → all_some (map (λ i. slot_of most below (part at es i)) js) ≡ Some slots
          → Of (flat_map (element_children f kind) (flat_map elements_of slots)) (places_over (λ i. stand (part at es i)) js)
      each_slot at es inside deep [] slots is =
          subst (λ ys. Of (flat_map (element_children f kind) (flat_map elements_of ys)) nowhere) (same_Some [] slots is) tt
      each_slot at es inside deep (j ∷ js) slots is =
          let x = all_some-cons (slot_of most below (part at es j)) (map (λ i. slot_of most below (part at es i)) js) slots is in
          let all = both (told x.0) (flat_map (element_children f kind) (flat_map elements_of x.1)) (stand (part at es j)) (places_over (λ i. stand (part at es i)) js)
          (one_slot (part at es j) x.0 x.2 (all_filter (λ e. Of (f e.1) (inner e.0)) (λ e. at e.0 == j) es inside) (deep j)) (each_slot at es inside deep js x.1 x.3) in
          subst (λ ys. Of (flat_map (element_children f kind) (flat_map elements_of ys)) (places_over (λ i. stand (part at es i)) (j ∷ js))) (sym x.4)
          (subst (λ cs. Of cs (places_over (λ i. stand (part at es i)) (j ∷ js))) (sym (flat_append (element_children f kind) (elements_of x.0) (flat_map elements_of x.1))) all)

    module _ (deeper : Data → List Child) (told_is : (n : Data) → children_in rows ty kind n ≡ node_children deeper kind n) (h : List ℕ → List ℕ) (p : HamtShape) (room : ℕ) where
      pub node_tells : (f : Data → List Child) (left depth : ℕ) (es : List (List ℕ × Data)) (n : Data) → node_of h p left depth es ≡ Some n → Inside f es → Inside deeper es → AllByRecursion (EntryIn room) es
          → Of (node_children f kind n) (places_beneath inner h p left depth es)
      unfolding places_beneath
      node_tells f zero depth es n is inside more trees = absurd (let e : None ≡ Some n = sym (no_node h p depth es) ∙ is in cc)
      node_tells f (suc left) depth es n is inside more trees =
          let x = slots-node h p left depth es n is in
          let at = at_depth h p depth in
          let below = node_of h p left (depth + 1) in
          let beneath = places_beneath inner h p left (depth + 1) in
          let deep : (i : ℕ) → Deep f p.bucket below beneath (part at es i) = λ i m there.
          let mine : Inside deeper (part at es i) = all_filter (λ e. Of (deeper e.1) (inner e.0)) (λ e. at e.0 == i) es more in
          let standing : AllByRecursion (EntryIn room) (part at es i) = all_filter (EntryIn room) (λ e. at e.0 == i) es trees in
          let tree = node_of_in room h p left (depth + 1) (part at es i) m standing there in
          (tree.tree, subst (λ cs. Of cs (beneath (part at es i))) (sym (told_is m)) (node_tells deeper left (depth + 1) (part at es i) m there mine mine standing)) in
          let all = each_slot f p.bucket below beneath at es inside deep (range_with_len 0 (2 ^ p.width)) x.0 x.1 in
          let whole : Places = places_over (λ i. bucket_or_node (nat_le (length (part at es i)) p.bucket) inner below beneath (part at es i)) (range_with_len 0 (2 ^ p.width)) in
          subst (λ m. Of (node_children f kind m) whole) (sym x.2)
          (subst (λ ds. Of (flat_map (element_children f kind) ds) whole) (sym (items_list-items_of (flat_map elements_of x.0))) all)
