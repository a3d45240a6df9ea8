-- The nodes of a HAMT are trees where the values of its entries are, and so is its root map: five levels above the values
-- of the root block, and four in the block of a node beneath.
use Rattle.std.proofs.Common.{◌≡◌, ℕ, zero, suc, ◌+◌, ◌-◌, ◌*◌, ◌^◌, ◌<◌, ◌≤◌, pos, codes, List, [], ◌∷◌, length, map, take, drop, Bool, true, false, cond, Option, Some, None, IsUtf8, refl, sym, ap, subst, arith, le→leb, pow-suc, pow_pos}
use Rattle.std.specs.Prelude.{nat_eq, ◌/◌}
use Rattle.std.specs.List.{AllByRecursion, flat_map, range_with_len}
use Rattle.std.proofs.lemmas.Option.{same_Some, none-some}
use Rattle.std.proofs.Math.Utf8.{encode}
use Rattle.std.specs.FinMap.{put as insert}
use Rattle.std.specs.Ordering.{match_ordering}
use Rattle.std.specs.declared.cmp.Ordering.{Ordering}
use Rattle.std.specs.declared.cmp.Ordering.TheVariants.{Less, Equal, Greater}
use Rattle.ild_data.proofs.AllOf.{all_split, all_filter}
use Rattle.ild_data.specs.Data as T
use Rattle.ild_data.specs.Data.{Data}
use Rattle.ild_data.specs.Bytes.{AreBytes}
use Rattle.ild_data.specs.Tree.{IsTree}
use Rattle.ild_data.specs.Cid.{IsCid}
use Rattle.ild_data.specs.Spell.{spell, cid_of}
use Rattle.ild_data.specs.declared.hamt_shape.HamtShape.{HamtShape}
use Rattle.ild_data.specs.TrieShape.{trie_levels}
use Rattle.ild_data.specs.ByteOrder.{in_byte_order, bytewise, no_key_twice}
use Rattle.ild_data.specs.Trie.{TrieSlot, empty, bucket, child, is_used, bucket_entries, byte_of, map_of, entry_data, elements_of, node_data, part, slot_of, all_some, node_of, at_depth, slots_at, trie}
use Rattle.ild_typed.specs.Layer as L
use Rattle.ild_typed.specs.Hamt.{root_map, whole}
use Rattle.ild_typed.specs.Node.{IsSlot, IsRoot, entries_in}
use Rattle.ild_typed.specs.Nested.{TreeIn}
use Rattle.ild_typed.proofs.Basics.{map_from, if_from}
use Rattle.ild_typed.proofs.TrieTells.{SlotWay, nothing, few, many, slot_way}
use Rattle.ild_typed.proofs.Treed.{EntryIn, in_more, list_in, map_in}
use Rattle.ild_typed.proofs.Utf8Texts.{link_fits, id_fits, utf8_bytes}

-- ---- a node

abbrev pub SlotIn : ℕ → TrieSlot → Type 0
SlotIn n empty = Unit {0}
SlotIn n (bucket es) = AllByRecursion (EntryIn n) es
SlotIn n (child id) = IsCid (cid_of id) × AreBytes (cid_of id)

byte_below : (bs : List Bool) (k : ℕ) → length bs ≤ k → byte_of bs < 2 ^ k
byte_below [] k le = below_one k
  where
    below_one : (k : ℕ) → 0 < 2 ^ k
    below_one k = pow_pos k
byte_below (b ∷ bs) zero le = absurd (omega (arith, le))
byte_below (b ∷ bs) (suc k) le = by b (byte_below bs k (omega (arith, le))) where
  by : (b : Bool) → byte_of bs < 2 ^ k → cond b 1 0 + 2 * byte_of bs < 2 ^ suc k
  by true lt = let p = pow-suc 2 k in omega (arith, lt, p)
  by false lt = let p = pow-suc 2 k in omega (arith, lt, p)

map_bytes : (f : ℕ → ℕ) (xs : List ℕ) → ((j : ℕ) → f j < 256) → AreBytes (map f xs)
map_bytes f [] lt = tt
map_bytes f (x ∷ xs) lt = (lt x, map_bytes f xs lt)

used_length : (xs : List TrieSlot) → length (map is_used xs) ≡ length xs
used_length [] = refl
used_length (x ∷ xs) = ap suc (used_length xs)

take_length : {A : Type 0} (k : ℕ) (xs : List A) → length (take k xs) ≤ k
take_length zero xs = omega arith
take_length (suc k) [] = omega arith
take_length (suc k) (x ∷ xs) = let h = take_length k xs in omega (arith, h)

map_of_bytes : (slots : List TrieSlot) → AreBytes (map_of slots)
map_of_bytes slots = map_bytes (λ j. byte_of (map is_used (take 8 (drop (8 * j) slots)))) (range_with_len 0 (length slots / 8))
    (λ j. let row : List TrieSlot = take 8 (drop (8 * j) slots) in
    let n = used_length row in
    let le = take_length 8 (drop (8 * j) slots) in
    byte_below (map is_used row) 8 (omega (arith, n, le)))

entries_data : (n : ℕ) (es : List (List ℕ × Data)) → AllByRecursion (EntryIn n) es → AllByRecursion (TreeIn (n + 1)) (map entry_data es)
entries_data n [] all = tt
entries_data n (e ∷ es) all =
    (list_in n (T.bytes e.0 ∷ e.1 ∷ []) (record { tree = utf8_bytes e.0 all.0.0; nested = omega arith }, (all.0.1, tt)), entries_data n es all.1)

elements_in : (n : ℕ) (slots : List TrieSlot) → AllByRecursion (SlotIn n) slots → AllByRecursion (TreeIn (n + 2)) (flat_map elements_of slots)
elements_in n [] all = tt
elements_in n (empty ∷ slots) all = elements_in n slots all.1
elements_in n (bucket es ∷ slots) all =
    (in_more (n + 1 + 1) (n + 2) (T.list (T.items_of (map entry_data es))) (omega arith) (list_in (n + 1) (map entry_data es) (entries_data n es all.0)), elements_in n slots all.1)
elements_in n (child id ∷ slots) all = (record { tree = all.0; nested = omega arith }, elements_in n slots all.1)

pub node_in : (n : ℕ) (slots : List TrieSlot) → AllByRecursion (SlotIn n) slots → TreeIn (n + 4) (node_data slots)
node_in n slots all =
    let elements : TreeIn (n + 3) (T.list (T.items_of (flat_map elements_of slots)))
    = in_more (n + 2 + 1) (n + 3) (T.list (T.items_of (flat_map elements_of slots))) (omega arith) (list_in (n + 2) (flat_map elements_of slots) (elements_in n slots all)) in
    in_more (n + 3 + 1) (n + 4) (node_data slots) (omega arith)
    (list_in (n + 3) (T.bytes (map_of slots) ∷ T.list (T.items_of (flat_map elements_of slots)) ∷ [])
    (record { tree = map_of_bytes slots; nested = omega arith }, (elements, tt)))

-- ---- a root map

hamt_text : IsUtf8 (codes "hamt")
unfolding encode
hamt_text = (codes "hamt", (refl, refl))

hash_text : IsUtf8 (codes "hashAlg")
unfolding encode
hash_text = (codes "hashAlg", (refl, refl))

bucket_text : IsUtf8 (codes "bucketSize")
unfolding encode
bucket_text = (codes "bucketSize", (refl, refl))

bucket_number : (p : HamtShape) → IsTree (T.integer (pos p.bucket))
bucket_number p = (record { le = tt }, record { le = le→leb p.bucket (2 ^ 64 - 1) (omega (arith, p.small)) })

pub root_in : (p : HamtShape) (n : ℕ) (node : Data) → TreeIn (n + 4) node → TreeIn (n + 5) (root_map p node)
root_in p n node x =
    in_more (n + 4 + 1) (n + 5) (root_map p node) (omega arith)
    (map_in (n + 4) ((codes "hamt", node) ∷ (codes "hashAlg", T.integer (pos 18)) ∷ (codes "bucketSize", T.integer (pos p.bucket)) ∷ []) (
      (hamt_text, x),
      (
        (hash_text, record { tree = (record { le = tt }, record { le = tt }); nested = omega arith }),
        ((bucket_text, record { tree = bucket_number p; nested = omega arith }), tt),
      ),
    )
    (refl, (refl, (tt, tt))))

-- ---- the slots of a front

slot_in : (p : HamtShape) (n : ℕ) (z : TrieSlot) → IsSlot p z → AllByRecursion (λ e. TreeIn n e.1) (bucket_entries z) → SlotIn n z
slot_in p n empty is all = tt
slot_in p n (child id) is all = link_fits id is.0 is.1
slot_in p n (bucket es) is all = both es is.3 all where
  both : (es : List (List ℕ × Data)) → AllByRecursion (λ e. IsUtf8 e.0) es → AllByRecursion (λ e. TreeIn n e.1) es → AllByRecursion (EntryIn n) es
  both [] a b = tt
  both (e ∷ es) a b = ((a.0, b.0), both es a.1 b.1)

slots_in : (p : HamtShape) (n : ℕ) (slots : List TrieSlot) → AllByRecursion (IsSlot p) slots → AllByRecursion (λ e. TreeIn n e.1) (entries_in slots) → AllByRecursion (SlotIn n) slots
slots_in p n [] is all = tt
slots_in p n (z ∷ slots) is all =
    let x = all_split (λ e. TreeIn n e.1) (bucket_entries z) (entries_in slots) all in
    (slot_in p n z is.0 x.0, slots_in p n slots is.1 x.1)

-- the root map of a front
pub front_in : (p : HamtShape) (n : ℕ) (slots : List TrieSlot) (d : Data) → IsRoot p slots d → AllByRecursion (λ e. TreeIn n e.1) (entries_in slots) → TreeIn (n + 5) d
front_in p n slots d root all = subst (TreeIn (n + 5)) (sym root.tree) (root_in p n (node_data slots) (node_in n slots (slots_in p n slots root.each all)))

-- ---- the trie of entries

insert_in : (n : ℕ) (k : List ℕ) (d : Data) (ms : List (List ℕ × Data)) → EntryIn n (k, d) → AllByRecursion (EntryIn n) ms → AllByRecursion (EntryIn n) (insert bytewise k d ms)
insert_in n k d [] p all = (p, tt)
insert_in n k d (m ∷ ms) p all = by (bytewise k m.0) (insert_in n k d ms p all.1) where
  by : (o : Ordering) → AllByRecursion (EntryIn n) (insert bytewise k d ms) → AllByRecursion (EntryIn n) (match_ordering o ((k, d) ∷ m ∷ ms) ((m.0, d) ∷ ms) (m ∷ insert bytewise k d ms))
  by Less rest = (p, all)
  by Equal rest = ((all.0.0, p.1), all.1)
  by Greater rest = (all.0, rest)

pub sorted_in : (n : ℕ) (ms : List (List ℕ × Data)) → AllByRecursion (EntryIn n) ms → AllByRecursion (EntryIn n) (in_byte_order ms)
sorted_in n [] all = tt
sorted_in n (m ∷ ms) all = insert_in n m.0 m.1 (in_byte_order ms) all.0 (sorted_in n ms all.1)

way_in : (n most : ℕ) (below : List (List ℕ × Data) → Option Data) (es : List (List ℕ × Data)) (z : TrieSlot) → AllByRecursion (EntryIn n) es → SlotWay most below es z → SlotIn n z
way_in n most below es z all (nothing a b) = subst (SlotIn n) (sym b) tt
way_in n most below es z all (few b) = subst (SlotIn n) (sym b) all
way_in n most below es z all (many d big has b) = subst (SlotIn n) (sym b) (id_fits (spell d))

all_slots : (n most : ℕ) (at : List ℕ → ℕ) (below : List (List ℕ × Data) → Option Data) (es : List (List ℕ × Data)) (is : List ℕ) (slots : List TrieSlot) → AllByRecursion (EntryIn n) es
    → all_some (map (λ i. slot_of most below (part at es i)) is) ≡ Some slots → AllByRecursion (SlotIn n) slots
all_slots n most at below es [] slots all e = subst (AllByRecursion (SlotIn n)) (same_Some [] slots e) tt
all_slots n most at below es (i ∷ is) slots all e = by (slot_of most below (part at es i)) (λ zs k. all_slots n most at below es is zs all k) refl e where
  by : (o : Option TrieSlot) → ((zs : List TrieSlot) → all_some (map (λ j. slot_of most below (part at es j)) is) ≡ Some zs → AllByRecursion (SlotIn n) zs) → slot_of most below (part at es i) ≡ o → all_some (o ∷ map (λ j. slot_of most below (part at es j)) is) ≡ Some slots → AllByRecursion (SlotIn n) slots
  by None later h k = absurd (none-some slots k)
  by (Some z) later h k =
      let x = map_from (λ zs. z ∷ zs) (all_some (map (λ j. slot_of most below (part at es j)) is)) slots k in
      subst (AllByRecursion (SlotIn n)) (same_Some (z ∷ x.item) slots x.made)
      (way_in n most below (part at es i) z (all_filter (EntryIn n) (λ e. nat_eq (at e.0) i) es all) (slot_way most below (part at es i) z h), later x.item x.there)

pub node_of_in : (n : ℕ) (h : List ℕ → List ℕ) (p : HamtShape) (left depth : ℕ) (es : List (List ℕ × Data)) (d : Data) → AllByRecursion (EntryIn n) es → node_of h p left depth es ≡ Some d → TreeIn (n + 4) d
unfolding node_of
node_of_in n h p zero depth es d all e = absurd (none-some d e)
node_of_in n h p (suc left) depth es d all e =
    let x = map_from node_data (slots_at h p left depth es) d e in
    subst (TreeIn (n + 4)) (same_Some (node_data x.item) d x.made)
    (node_in n x.item (all_slots n p.bucket (at_depth h p depth) (node_of h p left (depth + 1)) es (range_with_len 0 (2 ^ p.width)) x.item all x.there))

pub trie_node : (h : List ℕ → List ℕ) (p : HamtShape) (es : List (List ℕ × Data)) (d : Data) → trie h p es 0 ≡ Some d → node_of h p (trie_levels p - 0) 0 (in_byte_order es) ≡ Some d
unfolding trie
trie_node h p es d e = (if_from (no_key_twice es) (node_of h p (trie_levels p - 0) 0 (in_byte_order es)) d e).1

-- the root map over a trie
pub whole_in : (h : List ℕ → List ℕ) (p : HamtShape) (n : ℕ) (es : List (List ℕ × Data)) (t : Data) → AllByRecursion (EntryIn n) es → whole h p (L.map es) ≡ Some t → TreeIn (n + 5) t
whole_in h p n es t all e =
    let x = map_from (root_map p) (trie h p es 0) t e in
    subst (TreeIn (n + 5)) (same_Some (root_map p x.item) t x.made)
    (root_in p n x.item (node_of_in n h p (trie_levels p - 0) 0 (in_byte_order es) x.item (sorted_in n es all) (trie_node h p es x.item x.there)))
