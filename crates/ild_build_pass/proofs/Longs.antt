-- Where the blocks of a HAMT are short enough, so are the values of its entries.
use Rattle.std.proofs.Common.{◌≡◌, ℕ, zero, suc, ◌+◌, ◌^◌, ◌<◌, ◌≤◌, ◌==◌, Bool, true, false, cond, List, [], ◌∷◌, ◌++◌, length, map, Some, refl, sym, ap, ◌∙◌, subst, arith, flat_map}
use Rattle.std.specs.Prelude.{codes, pos}
use Rattle.std.specs.List.{AllByRecursion, range_with_len, sum_by}
use Rattle.std.proofs.lemmas.Bool.{lt-leb, eq-eqb}
use Rattle.std.proofs.lemmas.List.{length-append}
use Rattle.std.proofs.lemmas.List.Sums.{sum_by-append, sum_by-cons}
use Rattle.std.proofs.lemmas.Option.{none-some}
use Rattle.ild_data.specs.Data as T
use Rattle.ild_data.specs.Data.{Data}
use Rattle.ild_data.specs.Limits.{longest_block}
use Rattle.ild_data.specs.Spell.{head, spell, spell_items, spell_members, spell_text}
use Rattle.ild_data.specs.Trie.{TrieSlot, bucket, all_some, at_depth, elements_of, entry_data, map_of, node_data, node_of, part, slot_of}
use Rattle.ild_data.specs.TrieBlocks.{block_of, node_and_beneath, nodes_beneath, none_or}
use Rattle.ild_data.specs.declared.hamt_shape.HamtShape.{HamtShape}
use Rattle.ild_hamt_trie.proofs.Index.{index_below}
use Rattle.ild_hamt_trie.proofs.Node.{no_node, slots-node}
use Rattle.ild_hamt_trie.proofs.Slots.{all_some-cons}
use Rattle.ild_typed.specs.Hamt.{root_map}
use Rattle.ild_typed.proofs.TrieTells.{SlotWay, nothing, few, many, slot_way}
use Rattle.ild_build_entries.specs.Entries.{over}
use Rattle.ild_build_pass.proofs.Flow.{short_of}

abbrev pub IsShort : List ℕ × Data → Type 0
IsShort e = length (spell e.1) ≤ longest_block

abbrev items_size : List Data → ℕ
items_size ds = length (spell_items (T.items_of ds))

items_append : (xs ys : List Data) → items_size (xs ++ ys) ≡ items_size xs + items_size ys
items_append [] ys = omega arith
items_append (x ∷ xs) ys =
    let more = items_append xs ys in
    omega (arith, more, length-append (spell x) (spell_items (T.items_of (xs ++ ys))), length-append (spell x) (spell_items (T.items_of xs)))

list_size : (ds : List Data) → items_size ds ≤ length (spell (T.list (T.items_of ds)))
list_size ds = omega (arith, length-append (head 4 (length (T.items_list (T.items_of ds)))) (spell_items (T.items_of ds)))

first_size : (d : Data) (ds : List Data) → length (spell d) ≤ items_size (d ∷ ds)
first_size d ds = omega (arith, length-append (spell d) (spell_items (T.items_of ds)))

rest_size : (d : Data) (ds : List Data) → items_size ds ≤ items_size (d ∷ ds)
rest_size d ds = omega (arith, length-append (spell d) (spell_items (T.items_of ds)))

entry_size : (e : List ℕ × Data) → length (spell e.1) ≤ length (spell (entry_data e))
entry_size e =
    let a = first_size e.1 [] in
    let b = rest_size (T.bytes e.0) (e.1 ∷ []) in
    let c = list_size (T.bytes e.0 ∷ e.1 ∷ []) in
    omega (arith, a, b, c)

entries_short : (es : List (List ℕ × Data)) → items_size (map entry_data es) ≤ longest_block → AllByRecursion IsShort es
entries_short [] h = tt
entries_short (e ∷ es) h =
    let a = entry_size e in
    let b = first_size (entry_data e) (map entry_data es) in
    let c = rest_size (entry_data e) (map entry_data es) in
    (omega (arith, h, a, b), entries_short es (omega (arith, h, c)))

node_size : (slots : List TrieSlot) → items_size (flat_map elements_of slots) ≤ length (spell (node_data slots))
node_size slots =
    let a = list_size (flat_map elements_of slots) in
    let b = first_size (T.list (T.items_of (flat_map elements_of slots))) [] in
    let c = rest_size (T.bytes (map_of slots)) (T.list (T.items_of (flat_map elements_of slots)) ∷ []) in
    let d = list_size (T.bytes (map_of slots) ∷ T.list (T.items_of (flat_map elements_of slots)) ∷ []) in
    omega (arith, a, b, c, d)

pub root_size : (p : HamtShape) (node : Data) → length (spell node) ≤ length (spell (root_map p node))
root_size p node =
    let rest = spell_members (T.members_of ((codes "hashAlg", T.integer (pos 18)) ∷ (codes "bucketSize", T.integer (pos p.bucket)) ∷ [])) in
    let key = spell_text (codes "hamt") in
    omega (arith, length-append (head 5 3) (key ++ spell node ++ rest), length-append (key ++ spell node) rest, length-append key (spell node))

-- ---- entries in the parts of a node

part_all : (P : List ℕ × Data → Type 0) (at : List ℕ → ℕ) (n : ℕ) (es : List (List ℕ × Data)) → ((k : List ℕ) → at k < n) → ((j : ℕ) → j < n → AllByRecursion P (part at es j)) → AllByRecursion P es
part_all P at n [] below each = tt
part_all P at n (e ∷ es) below each = (first, part_all P at n es below rest)
  where
    first : P e
    first = (subst (λ b. AllByRecursion P (cond b (e ∷ part at es (at e.0)) (part at es (at e.0)))) (eq-eqb (at e.0) (at e.0) refl) (each (at e.0) (below e.0))).0

    rest : (j : ℕ) → j < n → AllByRecursion P (part at es j)
    rest j low = by (at e.0 == j) (each j low)
      where
        by : (b : Bool) → AllByRecursion P (cond b (e ∷ part at es j) (part at es j)) → AllByRecursion P (part at es j)
        by true all = all.1
        by false all = all

module _ (h : List ℕ → List ℕ) (p : HamtShape) where
  abbrev Below : ℕ → ℕ → Type 0
  Below left depth = (es : List (List ℕ × Data)) (node : Data) → node_of h p left depth es ≡ Some node → over (spell node) ≡ 0 → sum_by over (nodes_beneath h p left depth es) ≡ 0 → AllByRecursion IsShort es

  slot_short : (left depth : ℕ) → Below left depth → (es : List (List ℕ × Data)) (s : TrieSlot) → items_size (elements_of s) ≤ longest_block
      → sum_by over (node_and_beneath p.bucket (node_of h p left depth) (nodes_beneath h p left depth) es) ≡ 0 → SlotWay p.bucket (node_of h p left depth) es s → AllByRecursion IsShort es
  slot_short left depth below es s size none (nothing is e) = subst (AllByRecursion IsShort) (sym is) tt
  slot_short left depth below es s size none (few e) =
      let a = list_size (map entry_data es) in
      let b = first_size (T.list (T.items_of (map entry_data es))) [] in
      let c : items_size (elements_of (bucket es)) ≤ longest_block = subst (λ (z : TrieSlot). items_size (elements_of z) ≤ longest_block) e size in
      entries_short es (omega (arith, a, b, c))
  slot_short left depth below es s size none (many n long has e) =
      let plan : node_and_beneath p.bucket (node_of h p left depth) (nodes_beneath h p left depth) es ≡ spell n ∷ nodes_beneath h p left depth es
      = ap (λ b. none_or b (λ fs. block_of (node_of h p left depth fs) ++ nodes_beneath h p left depth fs) es) (lt-leb (length es) p.bucket long) ∙ ap (λ o. block_of o ++ nodes_beneath h p left depth es) has in
      let sum = ap (sum_by over) plan in
      let parts = sum_by-cons over (spell n) (nodes_beneath h p left depth es) in
      below es n has (omega (arith, none, sum, parts)) (omega (arith, none, sum, parts))

  slots_short : (left depth : ℕ) → Below left depth → (at : List ℕ → ℕ) (es : List (List ℕ × Data)) (from n : ℕ) (slots : List TrieSlot)
      → all_some (map (λ i. slot_of p.bucket (node_of h p left depth) (part at es i)) (range_with_len from n)) ≡ Some slots → items_size (flat_map elements_of slots) ≤ longest_block
      → sum_by over (flat_map (λ i. node_and_beneath p.bucket (node_of h p left depth) (nodes_beneath h p left depth) (part at es i)) (range_with_len from n)) ≡ 0
      → (j : ℕ) → from ≤ j → j < from + n → AllByRecursion IsShort (part at es j)
  slots_short left depth below at es from zero slots is size none j low high = absurd (omega (arith, low, high))
  slots_short left depth below at es from (suc n) slots is size none j low high =
      let parts = all_some-cons (slot_of p.bucket (node_of h p left depth) (part at es from)) (map (λ i. slot_of p.bucket (node_of h p left depth) (part at es i)) (range_with_len (from + 1) n)) slots is in
      let here = node_and_beneath p.bucket (node_of h p left depth) (nodes_beneath h p left depth) (part at es from) in
      let more = flat_map (λ i. node_and_beneath p.bucket (node_of h p left depth) (nodes_beneath h p left depth) (part at es i)) (range_with_len (from + 1) n) in
      let sum = sum_by-append over here more in
      let sizes = ap (λ ss. items_size (flat_map elements_of ss)) parts.4 ∙ items_append (elements_of parts.0) (flat_map elements_of parts.1) in
      by (λ ss l b d lo. slots_short left depth below at es (from + 1) n ss l b d j lo (omega (arith, high))) (from == j) refl parts.0 parts.1 (omega (arith, size, sizes)) (omega (arith, size, sizes)) (omega (arith, none, sum)) (omega (arith, none, sum)) parts.2 parts.3
    where
      by : ((ss : List TrieSlot) → all_some (map (λ i. slot_of p.bucket (node_of h p left depth) (part at es i)) (range_with_len (from + 1) n)) ≡ Some ss → items_size (flat_map elements_of ss) ≤ longest_block
          → sum_by over (flat_map (λ i. node_and_beneath p.bucket (node_of h p left depth) (nodes_beneath h p left depth) (part at es i)) (range_with_len (from + 1) n)) ≡ 0 → from + 1 ≤ j → AllByRecursion IsShort (part at es j))
          → (b : Bool) → (from == j) ≡ b → (s : TrieSlot) (ss : List TrieSlot) → items_size (elements_of s) ≤ longest_block → items_size (flat_map elements_of ss) ≤ longest_block
          → sum_by over (node_and_beneath p.bucket (node_of h p left depth) (nodes_beneath h p left depth) (part at es from)) ≡ 0
          → sum_by over (flat_map (λ i. node_and_beneath p.bucket (node_of h p left depth) (nodes_beneath h p left depth) (part at es i)) (range_with_len (from + 1) n)) ≡ 0
          → slot_of p.bucket (node_of h p left depth) (part at es from) ≡ Some s
          → all_some (map (λ i. slot_of p.bucket (node_of h p left depth) (part at es i)) (range_with_len (from + 1) n)) ≡ Some ss → AllByRecursion IsShort (part at es j)
      by more true e s ss a b c d k l =
          let same : from ≡ j = grind (arith, e) in
          subst (λ m. AllByRecursion IsShort (part at es m)) same (slot_short left depth below (part at es from) s a c (slot_way p.bucket (node_of h p left depth) (part at es from) s k))
      by more false e s ss a b c d k l = more ss l b d (grind (arith, e, low))

  beneath_is : (left depth : ℕ) (es : List (List ℕ × Data))
      → nodes_beneath h p (suc left) depth es ≡ flat_map (λ i. node_and_beneath p.bucket (node_of h p left (depth + 1)) (nodes_beneath h p left (depth + 1)) (part (at_depth h p depth) es i)) (range_with_len 0 (2 ^ p.width))
  unfolding nodes_beneath
  beneath_is left depth es = refl

  pub values_short : (left depth : ℕ) → Below left depth
  values_short zero depth es node is a b = absurd (none-some node (sym (no_node h p depth es) ∙ is))
  values_short (suc left) depth es node is a b =
      let n = slots-node h p left depth es node is in
      let size : items_size (flat_map elements_of n.0) ≤ longest_block = let x = node_size n.0 in let y = short_of (spell node) a in let z = ap (λ d. length (spell d)) n.2 in omega (arith, x, y, z) in
      part_all IsShort (at_depth h p depth) (2 ^ p.width) es (λ k. index_below p (h k) depth)
      (λ j low. slots_short left (depth + 1) (values_short left (depth + 1)) (at_depth h p depth) es 0 (2 ^ p.width) n.0 n.1 size (ap (sum_by over) (sym (beneath_is left depth es)) ∙ b) j (omega arith) (omega (arith, low)))
