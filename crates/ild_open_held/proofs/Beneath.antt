-- The blocks beneath the node of entries, where each node beneath is known.
use Rattle.std.proofs.Common.{◌≡◌, ℕ, zero, suc, ◌+◌, ◌^◌, ◌<◌, nat_le, List, [], ◌∷◌, ◌++◌, length, map, flat_map, Bool, true, false, Option, Some, None, refl, sym, subst, arith}
use Rattle.std.specs.List.{AllByRecursion, range_with_len}
use Rattle.std.proofs.lemmas.Bool.{le-leb, leb-false}
use Rattle.ild_data.proofs.AllOf.{all_append}
use Rattle.ild_data.specs.Data.{Data}
use Rattle.ild_data.specs.Spell.{spell}
use Rattle.ild_data.specs.Trie.{TrieSlot, all_some, at_depth, bucket_or, link_to, node_data, node_of, part, slot_of, slots_at}
use Rattle.ild_data.specs.TrieBlocks.{block_of, node_and_beneath, nodes_beneath, none_or}
use Rattle.ild_data.specs.declared.hamt_shape.HamtShape.{HamtShape}
use Rattle.ild_typed.specs.Known.{AreKnown}
use Rattle.ild_typed.proofs.Basics.{map_from}
use Rattle.ild_hamt_trie.proofs.Slots.{some_cons}

false_true : false ≡ true → ⊥
false_true e = absurd cc

module _ (P : List ℕ → Type 0) (K : Data → Type 0) (spelled : (d : Data) → K d → P (spell d)) where
  -- what is asked of the node of a part that is more than a bucket takes
  abbrev Deep : ℕ → (List (List ℕ × Data) → Option Data) → (List (List ℕ × Data) → List (List ℕ)) → List (List ℕ × Data) → Type 0
  Deep most below beneath es = (d : Data) → most < length es → below es ≡ Some d → K d × AllByRecursion P (beneath es)

  one_part : (most : ℕ) (below : List (List ℕ × Data) → Option Data) (beneath : List (List ℕ × Data) → List (List ℕ)) (es : List (List ℕ × Data)) (z : TrieSlot) → slot_of most below es ≡ Some z
      → Deep most below beneath es → AllByRecursion P (node_and_beneath most below beneath es)
  one_part most below beneath [] z e deep = subst (λ b. AllByRecursion P (none_or b (λ fs. block_of (below fs) ++ beneath fs) [])) (sym (le-leb 0 most (omega arith))) tt
  one_part most below beneath (x ∷ es) z e deep = by (nat_le (length (x ∷ es)) most) refl e where
    by : (b : Bool) → nat_le (length (x ∷ es)) most ≡ b → bucket_or b below (x ∷ es) ≡ Some z → AllByRecursion P (none_or b (λ fs. block_of (below fs) ++ beneath fs) (x ∷ es))
    by true is h = tt
    by false is h =
        let n = map_from link_to (below (x ∷ es)) z h in
        let k = deep n.item (leb-false (length (x ∷ es)) most is) n.there in
        subst (λ o. AllByRecursion P (block_of o ++ beneath (x ∷ es))) (sym n.there) (spelled n.item k.0, k.1)

  all_parts : (most : ℕ) (below : List (List ℕ × Data) → Option Data) (beneath : List (List ℕ × Data) → List (List ℕ)) (at : List ℕ → ℕ) (es : List (List ℕ × Data)) (js : List ℕ) (slots : List TrieSlot)
      → all_some (map (λ i. slot_of most below (part at es i)) js) ≡ Some slots → ((i : ℕ) → Deep most below beneath (part at es i)) → AllByRecursion P (flat_map (λ i. node_and_beneath most below beneath (part at es i)) js)
  all_parts most below beneath at es [] slots e deep = tt
  all_parts most below beneath at es (j ∷ js) slots e deep = by (slot_of most below (part at es j)) refl e (λ slots' e'. all_parts most below beneath at es js slots' e' deep) where
    by : (o : Option TrieSlot) → slot_of most below (part at es j) ≡ o → all_some (o ∷ map (λ i. slot_of most below (part at es i)) js) ≡ Some slots
        → ((slots' : List TrieSlot) → all_some (map (λ i. slot_of most below (part at es i)) js) ≡ Some slots' → AllByRecursion P (flat_map (λ i. node_and_beneath most below beneath (part at es i)) js))
        → AllByRecursion P (node_and_beneath most below beneath (part at es j) ++ flat_map (λ i. node_and_beneath most below beneath (part at es i)) js)
    by None is h later = absurd cc
    by (Some z) is h later =
        let x = some_cons z (all_some (map (λ i. slot_of most below (part at es i)) js)) slots h in
        all_append P (node_and_beneath most below beneath (part at es j)) (flat_map (λ i. node_and_beneath most below beneath (part at es i)) js) (one_part most below beneath (part at es j) z is (deep j)) (later x.0 x.1)

  pub known_blocks : (h : List ℕ → List ℕ) (p : HamtShape) (left depth : ℕ) (es : List (List ℕ × Data)) (n : Data) → node_of h p left depth es ≡ Some n → AreKnown h p K left depth es → AllByRecursion P (nodes_beneath h p left depth es)
  unfolding nodes_beneath AreKnown node_of
  known_blocks h p zero depth es n e known = tt
  known_blocks h p (suc left) depth es n e known =
      let x = map_from node_data (slots_at h p left depth es) n e in
      all_parts p.bucket (node_of h p left (depth + 1)) (nodes_beneath h p left (depth + 1)) (at_depth h p depth) es (range_with_len 0 (2 ^ p.width)) x.item x.there
      (λ i d big has. let k = known i d big has in (k.0, known_blocks h p left (depth + 1) (part (at_depth h p depth) es i) d has k.1))
