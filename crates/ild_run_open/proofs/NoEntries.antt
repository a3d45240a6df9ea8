-- The HAMT of no entries: it has a trie, and the block of its root map is short.
use Rattle.std.proofs.Common.{◌≡◌, ◌≤◌, ◌+◌, ◌*◌, ◌-◌, ◌/◌, ◌^◌, ℕ, suc, List, [], ◌∷◌, ◌++◌, length, length-append, map, take, drop, flat_map, Option, Some, option_map, refl, ap, ◌∙◌, arith, pos, codes}
use Rattle.std.proofs.Math.Pow.{pow_mono}
use Rattle.std.proofs.lemmas.List.FromFn.{length-map-range_with_len}
use Rattle.std.proofs.lemmas.Nat.{le-div}
use Rattle.std.specs.List.{range_with_len}
use Rattle.ild_data.proofs.HeadSizes.{head_at_most_9}
use Rattle.ild_data.specs.Data as T
use Rattle.ild_data.specs.Data.{Data, items_list, items_of, members_list}
use Rattle.ild_data.specs.Limits.{longest_block}
use Rattle.ild_data.specs.Spell.{head, spell, spell_items, spell_members, spell_text}
use Rattle.ild_data.specs.Trie as Trie
use Rattle.ild_data.specs.Trie.{TrieSlot, all_some, byte_of, elements_of, is_used, map_of, node_data, node_of, trie}
use Rattle.ild_data.specs.TrieShape.{trie_levels}
use Rattle.ild_data.specs.declared.hamt_shape.HamtShape.{HamtShape}
use Rattle.ild_typed.specs.Hamt.{root_map}

-- ---- its trie

-- an index at which nothing stands
abbrev unused : ℕ → TrieSlot
unused i = Trie.empty

abbrev slot_unused : ℕ → Option TrieSlot
slot_unused i = Some Trie.empty

-- so many slots without entries
abbrev all_unused : ℕ → List TrieSlot
all_unused n = map unused (range_with_len 0 n)

-- the root node
abbrev pub empty_node : HamtShape → Data
empty_node p = node_data (all_unused (2 ^ p.width))

each_unused : (js : List ℕ) → all_some (map slot_unused js) ≡ Some (map unused js)
each_unused [] = refl
each_unused (j ∷ js) = ap (option_map (λ slots. Trie.empty ∷ slots)) (each_unused js)

node_of_none : (h : List ℕ → List ℕ) (p : HamtShape) (left depth : ℕ) → node_of h p (suc left) depth [] ≡ Some (empty_node p)
unfolding node_of
node_of_none h p left depth = ap (option_map node_data) (each_unused (range_with_len 0 (2 ^ p.width)))

first_level : (p : HamtShape) → trie_levels p - 0 ≡ suc (trie_levels p - 1)
first_level p = let some = le-div 1 256 p.width (omega (arith, p.wide)) (omega (arith, p.narrow)) in omega (arith, some)

pub trie_of_none : (h : List ℕ → List ℕ) (p : HamtShape) → trie h p [] 0 ≡ Some (empty_node p)
unfolding trie
trie_of_none h p = ap (λ n. node_of h p n 0 []) (first_level p) ∙ node_of_none h p (trie_levels p - 1) 0

-- ---- how long data are spelled

bytes_length : (s : List ℕ) → length (spell (T.bytes s)) ≤ 9 + length s
bytes_length s = omega (arith, head_at_most_9 2 (length s), length-append (head 2 (length s)) s)

text_length : (s : List ℕ) → length (spell_text s) ≤ 9 + length s
text_length s = omega (arith, head_at_most_9 3 (length s), length-append (head 3 (length s)) s)

list_length : (ds : T.Items) → length (spell (T.list ds)) ≤ 9 + length (spell_items ds)
list_length ds = omega (arith, head_at_most_9 4 (length (items_list ds)), length-append (head 4 (length (items_list ds))) (spell_items ds))

map_length : (ms : T.Members) → length (spell (T.map ms)) ≤ 9 + length (spell_members ms)
map_length ms = omega (arith, head_at_most_9 5 (length (members_list ms)), length-append (head 5 (length (members_list ms))) (spell_members ms))

item_length : (d : Data) (ds : T.Items) → length (spell_items (T.item d ds)) ≡ length (spell d) + length (spell_items ds)
item_length d ds = length-append (spell d) (spell_items ds)

member_length : (k : List ℕ) (d : Data) (ms : T.Members) → length (spell_members (T.member k d ms)) ≤ 9 + length k + length (spell d) + length (spell_members ms)
member_length k d ms = omega (arith, text_length k, length-append (spell_text k ++ spell d) (spell_members ms), length-append (spell_text k) (spell d))

-- the other forms of no entries
pub empty_list_short : length (spell (T.list T.no_items)) ≤ longest_block
empty_list_short = omega (arith, list_length T.no_items)

pub empty_map_short : length (spell (T.map T.no_members)) ≤ longest_block
empty_map_short = omega (arith, map_length T.no_members)

pub empty_text_short : length (spell (T.text [])) ≤ longest_block
empty_text_short = omega (arith, text_length [])

-- ---- its block

no_elements : (js : List ℕ) → flat_map elements_of (map unused js) ≡ []
no_elements [] = refl
no_elements (j ∷ js) = no_elements js

map_length_of : (slots : List TrieSlot) → length (map_of slots) ≡ length slots / 8
map_length_of slots = length-map-range_with_len (λ j. byte_of (map is_used (take 8 (drop (8 * j) slots)))) 0 (length slots / 8)

bitmap_short : (p : HamtShape) → length (map_of (all_unused (2 ^ p.width))) ≤ 32
bitmap_short p =
    let few : 2 ^ p.width ≤ 256 = pow_mono {i = p.width} {j = 8} p.narrow in
    omega (arith, few, map_length_of (all_unused (2 ^ p.width)), length-map-range_with_len unused 0 (2 ^ p.width))

elements_short : (n : ℕ) → length (spell (T.list (items_of (flat_map elements_of (all_unused n))))) ≤ 9
elements_short n =
    let none : length (spell_items (items_of (flat_map elements_of (all_unused n)))) ≡ 0 = ap (λ ds. length (spell_items (items_of ds))) (no_elements (range_with_len 0 n)) in
    omega (arith, none, list_length (items_of (flat_map elements_of (all_unused n))))

node_short : (p : HamtShape) → length (spell (empty_node p)) ≤ 59
node_short p =
    let bitmap : Data = T.bytes (map_of (all_unused (2 ^ p.width))) in
    let elements : Data = T.list (items_of (flat_map elements_of (all_unused (2 ^ p.width)))) in
    omega (
      arith,
      list_length (T.item bitmap (T.item elements T.no_items)),
      item_length bitmap (T.item elements T.no_items),
      item_length elements T.no_items,
      bytes_length (map_of (all_unused (2 ^ p.width))),
      bitmap_short p,
      elements_short (2 ^ p.width),
    )

number_short : (n : ℕ) → length (spell (T.integer (pos n))) ≤ 9
number_short n = head_at_most_9 0 n

pub root_short : (p : HamtShape) → length (spell (root_map p (empty_node p))) ≤ longest_block
root_short p =
    let size : T.Members = T.member (codes "bucketSize") (T.integer (pos p.bucket)) T.no_members in
    let hash : T.Members = T.member (codes "hashAlg") (T.integer (pos 18)) size in
    omega (
      arith,
      map_length (T.member (codes "hamt") (empty_node p) hash),
      member_length (codes "hamt") (empty_node p) hash,
      member_length (codes "hashAlg") (T.integer (pos 18)) size,
      member_length (codes "bucketSize") (T.integer (pos p.bucket)) T.no_members,
      node_short p,
      number_short 18,
      number_short p.bucket,
    )
