-- A trie tells its entries, where the nodes beneath are known by their ids.
use Rattle.std.proofs.Common.{◌≡◌, ℕ, zero, suc, ◌+◌, ◌-◌, ◌<◌, ◌^◌, ◌%◌, nat_le, Bool, true, false, cond, List, [], ◌∷◌, length, map, get_or, Option, Some, None, refl, sym, ◌∙◌, ap}
use Rattle.std.specs.List.{range_with_len}
use Rattle.std.specs.Ordering.{eq_by_cmp}
use Rattle.std.specs.FinMap.{find}
use Rattle.std.specs.Cmp.Lexicographic.{same_text as text_same, other_text}
use Rattle.std.proofs.lemmas.Option.{same_Some, none-some}
use Rattle.std.proofs.lemmas.Bool.{eq-eqb, leb-false}
use Rattle.std.proofs.lemmas.List.FromFn.{length-map-range_with_len}
use Rattle.ild_data.specs.Data.{Data}
use Rattle.ild_data.specs.Spell.{spell, id_of}
use Rattle.ild_data.specs.Key.{same_text, value_at, Rises}
use Rattle.ild_data.specs.declared.hamt_shape.HamtShape.{HamtShape}
use Rattle.ild_data.specs.TrieShape.{trie_levels}
use Rattle.ild_data.specs.ByteOrder.{bytewise, in_byte_order, no_key_twice, IsInOrder}
use Rattle.ild_data.specs.Trie.{part, TrieSlot, empty, bucket, child, is_used, is_child, bucket_entries, link_to, node_data, bucket_or, slot_of, node_of, at_depth, slots_at, trie}
use Rattle.ild_typed.specs.Known.{AreKnown}
use Rattle.ild_typed.proofs.Basics.{map_from}
use Rattle.ild_typed.proofs.Rising.{rising_same}
use Rattle.ild_hamt_trie.proofs.Parts.{same_by_find, in_order-part, find-part, in_order-sorted, find-sorted, same_key, key_itself}
use Rattle.ild_hamt_trie.proofs.Slots.{slot_at, all_some-length}
use Rattle.ild_hamt_trie.proofs.Index.{index_below}
use Rattle.ild_hamt_trie.proofs.Bits.{same_node}

-- what a slot says of its entries
pub data SlotWay (most : ℕ) (below : List (List ℕ × Data) → Option Data) (es : List (List ℕ × Data)) (z : TrieSlot) : Type 0 where
  nothing : es ≡ [] → z ≡ empty → SlotWay most below es z
  few : z ≡ bucket es → SlotWay most below es z
  many : (n : Data) → most < length es → below es ≡ Some n → z ≡ link_to n → SlotWay most below es z

pub slot_way : (most : ℕ) (below : List (List ℕ × Data) → Option Data) (es : List (List ℕ × Data)) (z : TrieSlot) → slot_of most below es ≡ Some z → SlotWay most below es z
slot_way most below [] z e = nothing refl (sym (same_Some empty z e))
slot_way most below (x ∷ es) z e = by (nat_le (length (x ∷ es)) most) refl e where
  by : (b : Bool) → b ≡ nat_le (length (x ∷ es)) most → bucket_or b below (x ∷ es) ≡ Some z → SlotWay most below (x ∷ es) z
  by true is h = few (sym (same_Some (bucket (x ∷ es)) z h))
  by false is h =
      let n = map_from link_to (below (x ∷ es)) z h in
      many n.item (leb-false (length (x ∷ es)) most (sym is)) n.there (sym (same_Some (link_to n.item) z n.made))

false_true : false ≡ true → ⊥
false_true e = absurd cc

abbrev child_id : TrieSlot → List ℕ
child_id empty = []
child_id (bucket es) = []
child_id (child id) = id

slots_same : (most : ℕ) (below : List (List ℕ × Data) → Option Data) (es fs : List (List ℕ × Data)) (z : TrieSlot) → SlotWay most below es z → SlotWay most below fs z
    → ((n m : Data) → most < length es → most < length fs → below es ≡ Some n → below fs ≡ Some m → id_of (spell n) ≡ id_of (spell m) → es ≡ fs) → es ≡ fs
slots_same most below es fs z (nothing a b) (nothing c d) deep = a ∙ sym c
slots_same most below es fs z (nothing a b) (few d) deep = absurd (false_true (ap is_used (sym b ∙ d)))
slots_same most below es fs z (nothing a b) (many n l t d) deep = absurd (false_true (ap is_used (sym b ∙ d)))
slots_same most below es fs z (few b) (nothing c d) deep = absurd (false_true (ap is_used (sym d ∙ b)))
slots_same most below es fs z (few b) (few d) deep = ap bucket_entries (sym b ∙ d)
slots_same most below es fs z (few b) (many n l t d) deep = absurd (false_true (ap is_child (sym b ∙ d)))
slots_same most below es fs z (many n l t b) (nothing c d) deep = absurd (false_true (ap is_used (sym d ∙ b)))
slots_same most below es fs z (many n l t b) (few d) deep = absurd (false_true (ap is_child (sym d ∙ b)))
slots_same most below es fs z (many n l t b) (many m k u d) deep = deep n m l k t u (ap child_id (sym b ∙ d))

pub record NodeSlots (h : List ℕ → List ℕ) (p : HamtShape) (left depth : ℕ) (es : List (List ℕ × Data)) (n : Data) : Type 0 where
  pub slots : List TrieSlot
  pub there : slots_at h p left depth es ≡ Some slots
  pub is : node_data slots ≡ n
  pub count : length slots ≡ 2 ^ p.width

pub node_slots : (h : List ℕ → List ℕ) (p : HamtShape) (left depth : ℕ) (es : List (List ℕ × Data)) (n : Data) → node_of h p (suc left) depth es ≡ Some n → NodeSlots h p left depth es n
unfolding node_of
node_slots h p left depth es n e =
    let x = map_from node_data (slots_at h p left depth es) n e in
    let piece : ℕ → Option TrieSlot = λ i. slot_of p.bucket (node_of h p left (depth + 1)) (part (at_depth h p depth) es i) in
    record {
      slots = x.item;
      there = x.there;
      is = same_Some (node_data x.item) n x.made;
      count = all_some-length (map piece (range_with_len 0 (2 ^ p.width))) x.item x.there ∙ length-map-range_with_len piece 0 (2 ^ p.width);
    }

no_node : (h : List ℕ → List ℕ) (p : HamtShape) (depth : ℕ) (es : List (List ℕ × Data)) (n : Data) → node_of h p zero depth es ≡ Some n → ⊥
unfolding node_of
no_node h p depth es n e = none-some n e

-- a look-up goes to the part of the key's index
find_there : (at : List ℕ → ℕ) (es : List (List ℕ × Data)) (q : List ℕ) → find bytewise q (part at es (at q)) ≡ find bytewise q es
find_there at es q = find-part at es (at q) q ∙ ap (λ b. cond b (find bytewise q es) None) (eq-eqb (at q) (at q) refl)

module _ (h : List ℕ → List ℕ) (p : HamtShape) (bytes : 2 ^ p.width % 8 ≡ 0) (Known : Data → Type 0)
    (one : (n m : Data) → Known n → Known m → id_of (spell n) ≡ id_of (spell m) → n ≡ m) where
  pub node_tells : (left depth : ℕ) (es fs : List (List ℕ × Data)) (n : Data) → IsInOrder es → IsInOrder fs → AreKnown h p Known left depth es → AreKnown h p Known left depth fs
      → node_of h p left depth es ≡ Some n → node_of h p left depth fs ≡ Some n → es ≡ fs
  unfolding AreKnown
  node_tells zero depth es fs n a b k l e f = absurd (no_node h p depth es n e)
  node_tells (suc left) depth es fs n a b k l e f =
      let x = node_slots h p left depth es n e in
      let y = node_slots h p left depth fs n f in
      let same : y.slots ≡ x.slots = same_node y.slots x.slots (ap (λ c. c % 8) y.count ∙ bytes) (x.count ∙ sym y.count) (y.is ∙ sym x.is) in
      let at = at_depth h p depth in
      let below = node_of h p left (depth + 1) in
      let parts : (i : ℕ) → i < 2 ^ p.width → part at es i ≡ part at fs i
      = λ i lt.
      slots_same p.bucket below (part at es i) (part at fs i) (get_or x.slots i empty)
      (slot_way p.bucket below (part at es i) (get_or x.slots i empty) (slot_at p at below es i x.slots empty lt x.there))
      (slot_way p.bucket below (part at fs i) (get_or x.slots i empty) (slot_at p at below fs i x.slots empty lt (y.there ∙ ap Some same)))
      (λ c d big large has also ids.
      let u = k i c big has in
      let v = l i d large also in
      let node : c ≡ d = one c d u.0 v.0 ids in
      node_tells left (depth + 1) (part at es i) (part at fs i) d (in_order-part at es i a) (in_order-part at fs i b) u.1 v.1 (has ∙ ap Some node) also) in
      same_by_find es fs a b
      (λ q. sym (find_there at es q) ∙ ap (find bytewise q) (parts (at q) (index_below p (h q) depth)) ∙ find_there at fs q)

  -- the trie of entries, in whatever order
  pub trie_tells : (es fs : List (List ℕ × Data)) (n : Data) → AreKnown h p Known (trie_levels p - 0) 0 (in_byte_order es) → AreKnown h p Known (trie_levels p - 0) 0 (in_byte_order fs) → trie h p es 0 ≡ Some n → trie h p fs 0 ≡ Some n
      → in_byte_order es ≡ in_byte_order fs
  unfolding trie
  trie_tells es fs n k l e f =
      node_tells (trie_levels p - 0) 0 (in_byte_order es) (in_byte_order fs) n (in_order-sorted es) (in_order-sorted fs) k l (by (no_key_twice es) (in_byte_order es) e) (by (no_key_twice fs) (in_byte_order fs) f)
    where
      by : (b : Bool) (gs : List (List ℕ × Data)) → cond b (node_of h p (trie_levels p - 0) 0 gs) None ≡ Some n → node_of h p (trie_levels p - 0) 0 gs ≡ Some n
      by true gs g = g
      by false gs g = absurd (none-some n g)

same_test : (q k : List ℕ) (a b : Bool) → a ≡ same_text q k → b ≡ eq_by_cmp bytewise q k → a ≡ b
same_test q k true true e f = refl
same_test q k false false e f = refl
same_test q k true false e f = sym (f ∙ ap (eq_by_cmp bytewise q) (sym (text_same q k e)) ∙ key_itself q)
same_test q k false true e f = absurd (other_text q k e (same_key q k (sym f)))

value_find : (q : List ℕ) (es : List (List ℕ × Data)) → value_at q es ≡ find bytewise q es
value_find q [] = refl
value_find q (x ∷ es) =
    ap (λ b. cond b (Some x.1) (value_at q es)) (same_test q x.0 (same_text q x.0) (eq_by_cmp bytewise q x.0) refl refl) ∙ ap (cond (eq_by_cmp bytewise q x.0) (Some x.1)) (value_find q es)

-- entries in the key order are known by their trie order
pub sorted_tells : (es fs : List (List ℕ × Data)) → Rises es → Rises fs → in_byte_order es ≡ in_byte_order fs → es ≡ fs
sorted_tells es fs a b e =
    rising_same es fs a b (λ q. value_find q es ∙ sym (find-sorted q es) ∙ ap (find bytewise q) e ∙ find-sorted q fs ∙ sym (value_find q fs))
