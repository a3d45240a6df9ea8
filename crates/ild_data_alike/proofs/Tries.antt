-- The tries of entries with alike values.
use Rattle.std.proofs.Common.{◌≡◌, ℕ, zero, suc, ◌+◌, ◌-◌, ◌*◌, ◌/◌, ◌^◌, Bool, true, false, cond, nat_le, List, [], ◌∷◌, ◌++◌, map, length, take, drop, Option, Some, None, option_map, refl, sym, ap, ◌∙◌}
use Rattle.std.specs.List.{range_with_len, flat_map}
use Rattle.std.proofs.lemmas.List.{length-map, map-append}
use Rattle.std.proofs.lemmas.Option.{same_Some, none-some}
use Rattle.sha2.proofs.Facts256.{length-sha256}
use Rattle.ild_data.specs.ByteOrder.{in_byte_order, no_key_twice}
use Rattle.ild_data.specs.Data.{Data, bytes, list, link, items_of, no_items, item}
use Rattle.ild_data.specs.Spell.{spell, id_of, cid_of}
use Rattle.ild_data.specs.Trie.{TrieSlot, is_used, byte_of, map_of, entry_data, elements_of, node_data, all_some, part, link_to, bucket_or, slot_of, slots_of, node_of, at_depth, trie}
use Rattle.ild_data.specs.TrieBlocks.{block_of, none_or, node_and_beneath, nodes_beneath}
use Rattle.ild_data.specs.TrieShape.{trie_levels, index}
use Rattle.ild_data.specs.declared.hamt_shape.HamtShape.{HamtShape}
use Rattle.ild_data_alike.specs.Blank.{blank, blank_items, blank_link, blank_entries}
use Rattle.ild_data_alike.specs.Laws.{TriesAlike}
use Rattle.ild_data_alike.proofs.Entries.{many_entries, order_alike, part_alike, twice_alike}
use Rattle.ild_data_alike.proofs.Lengths.{as_long, blank_same}

abbrev Entries : Type 0
Entries = List (List ℕ × Data)

-- ---- what a slot shows

-- whether it is used, and its element
abbrev slot_key : TrieSlot → Bool × List Data
slot_key s = (is_used s, map blank (elements_of s))

abbrev keys_of : List TrieSlot → List (Bool × List Data)
keys_of ss = map slot_key ss

blank_list : (ds : List Data) → blank_items (items_of ds) ≡ items_of (map blank ds)
blank_list [] = refl
blank_list (d ∷ ds) = ap (item (blank d)) (blank_list ds)

used_by : (ss : List TrieSlot) → map is_used ss ≡ map (λ (k : Bool × List Data). k.0) (keys_of ss)
used_by [] = refl
used_by (s ∷ ss) = ap (λ xs. is_used s ∷ xs) (used_by ss)

used_alike : (ss ts : List TrieSlot) → keys_of ss ≡ keys_of ts → map is_used ss ≡ map is_used ts
used_alike ss ts same = used_by ss ∙ ap (map (λ (k : Bool × List Data). k.0)) same ∙ sym (used_by ts)

elements_by : (ss : List TrieSlot) → map blank (flat_map elements_of ss) ≡ flat_map (λ (k : Bool × List Data). k.1) (keys_of ss)
elements_by [] = refl
elements_by (s ∷ ss) = map-append blank (elements_of s) (flat_map elements_of ss) ∙ ap (λ xs. map blank (elements_of s) ++ xs) (elements_by ss)

map_take : {X Y : Type 0} (f : X → Y) (n : ℕ) (xs : List X) → map f (take n xs) ≡ take n (map f xs)
map_take f zero xs = refl
map_take f (suc n) [] = refl
map_take f (suc n) (x ∷ xs) = ap (λ ys. f x ∷ ys) (map_take f n xs)

map_drop : {X Y : Type 0} (f : X → Y) (n : ℕ) (xs : List X) → map f (drop n xs) ≡ drop n (map f xs)
map_drop f zero xs = refl
map_drop f (suc n) [] = refl
map_drop f (suc n) (x ∷ xs) = map_drop f n xs

eight_by : (n : ℕ) (ss : List TrieSlot) → map is_used (take 8 (drop n ss)) ≡ take 8 (drop n (map is_used ss))
eight_by n ss = map_take is_used 8 (drop n ss) ∙ ap (take 8) (map_drop is_used n ss)

bytes_alike : (ss ts : List TrieSlot) → map is_used ss ≡ map is_used ts → (js : List ℕ)
    → map (λ j. byte_of (map is_used (take 8 (drop (8 * j) ss)))) js ≡ map (λ j. byte_of (map is_used (take 8 (drop (8 * j) ts)))) js
bytes_alike ss ts same [] = refl
bytes_alike ss ts same (j ∷ js) =
    ap (λ b. b ∷ map (λ i. byte_of (map is_used (take 8 (drop (8 * i) ss)))) js) (ap byte_of (eight_by (8 * j) ss ∙ ap (λ us. take 8 (drop (8 * j) us)) same ∙ sym (eight_by (8 * j) ts)))
    ∙ ap (λ xs. byte_of (map is_used (take 8 (drop (8 * j) ts))) ∷ xs) (bytes_alike ss ts same js)

map_alike : (ss ts : List TrieSlot) → map is_used ss ≡ map is_used ts → map_of ss ≡ map_of ts
map_alike ss ts same =
    bytes_alike ss ts same (range_with_len 0 (length ss / 8))
    ∙ ap (λ n. map (λ j. byte_of (map is_used (take 8 (drop (8 * j) ts)))) (range_with_len 0 (n / 8))) (sym (length-map ss is_used) ∙ ap length same ∙ length-map ts is_used)

node_alike : (ss ts : List TrieSlot) → keys_of ss ≡ keys_of ts → blank (node_data ss) ≡ blank (node_data ts)
node_alike ss ts same =
    let elements : blank_items (items_of (flat_map elements_of ss)) ≡ blank_items (items_of (flat_map elements_of ts)) =
    blank_list (flat_map elements_of ss) ∙ ap items_of (elements_by ss ∙ ap (flat_map (λ (k : Bool × List Data). k.1)) same ∙ sym (elements_by ts)) ∙ sym (blank_list (flat_map elements_of ts)) in
    ap (λ m. list (item (bytes m) (item (list (blank_items (items_of (flat_map elements_of ss)))) no_items))) (map_alike ss ts (used_alike ss ts same))
    ∙ ap (λ es. list (item (bytes (map_of ts)) (item (list es) no_items))) elements

-- ---- the slot of entries

blank_bucket : (es : Entries) → blank_items (items_of (map entry_data es)) ≡ items_of (map entry_data (blank_entries es))
blank_bucket [] = refl
blank_bucket (e ∷ es) = ap (item (list (item (bytes e.0) (item (blank e.1) no_items)))) (blank_bucket es)

child_same : (d e : Data) → blank_link (cid_of (id_of (spell d))) ≡ blank_link (cid_of (id_of (spell e)))
child_same d e = blank_same (cid_of (id_of (spell d))) (cid_of (id_of (spell e))) (ap (λ n. suc (suc (suc (suc n)))) (length-sha256 (spell d) ∙ sym (length-sha256 (spell e))))

child_alike : (o q : Option Data) → option_map blank o ≡ option_map blank q → option_map slot_key (option_map link_to o) ≡ option_map slot_key (option_map link_to q)
child_alike None None same = refl
child_alike None (Some e) same = absurd (none-some (blank e) same)
child_alike (Some d) None same = absurd (none-some (blank d) (sym same))
child_alike (Some d) (Some e) same = ap (λ s. Some (true, link s ∷ [])) (child_same d e)

-- the same of every two lists of alike entries
abbrev Alike : (Entries → Option Data) → Type 0
Alike below = (es fs : Entries) → blank_entries es ≡ blank_entries fs → option_map blank (below es) ≡ option_map blank (below fs)

bucket_alike : (b : Bool) (below : Entries → Option Data) → Alike below → (es fs : Entries) → blank_entries es ≡ blank_entries fs → option_map slot_key (bucket_or b below es) ≡ option_map slot_key (bucket_or b below fs)
bucket_alike true below rest es fs same = ap (λ xs. Some (true, list xs ∷ [])) (blank_bucket es ∙ ap (λ gs. items_of (map entry_data gs)) same ∙ sym (blank_bucket fs))
bucket_alike false below rest es fs same = child_alike (below es) (below fs) (rest es fs same)

slot_alike : (most : ℕ) (below : Entries → Option Data) → Alike below → (es fs : Entries) → blank_entries es ≡ blank_entries fs → option_map slot_key (slot_of most below es) ≡ option_map slot_key (slot_of most below fs)
slot_alike most below rest [] [] same = refl
slot_alike most below rest [] (f ∷ fs) same = absurd (cc same)
slot_alike most below rest (e ∷ es) [] same = absurd (cc same)
slot_alike most below rest (e ∷ es) (f ∷ fs) same =
    bucket_alike (nat_le (length (e ∷ es)) most) below rest (e ∷ es) (f ∷ fs) same ∙ ap (λ n. option_map slot_key (bucket_or (nat_le n most) below (f ∷ fs))) (many_entries (e ∷ es) (f ∷ fs) same)

-- ---- the slots of a node

abbrev joined : Option TrieSlot → Option (List TrieSlot) → Option (List TrieSlot)
joined None xs = None
joined (Some x) xs = option_map (λ ys. x ∷ ys) xs

some_first : (o : Option TrieSlot) (os : List (Option TrieSlot)) → all_some (o ∷ os) ≡ joined o (all_some os)
some_first None os = refl
some_first (Some x) os = refl

joined_alike : (a b : Option TrieSlot) (xs ys : Option (List TrieSlot)) → option_map slot_key a ≡ option_map slot_key b → option_map keys_of xs ≡ option_map keys_of ys → option_map keys_of (joined a xs) ≡ option_map keys_of (joined b ys)
joined_alike None None xs ys p q = refl
joined_alike None (Some y) xs ys p q = absurd (none-some (slot_key y) p)
joined_alike (Some x) None xs ys p q = absurd (none-some (slot_key x) (sym p))
joined_alike (Some x) (Some y) None None p q = refl
joined_alike (Some x) (Some y) None (Some ts) p q = absurd (none-some (keys_of ts) q)
joined_alike (Some x) (Some y) (Some ss) None p q = absurd (none-some (keys_of ss) (sym q))
joined_alike (Some x) (Some y) (Some ss) (Some ts) p q =
    ap (λ k. Some (k ∷ keys_of ss)) (same_Some (slot_key x) (slot_key y) p) ∙ ap (λ ks. Some (slot_key y ∷ ks)) (same_Some (keys_of ss) (keys_of ts) q)

all_alike : (F G : ℕ → Option TrieSlot) → ((i : ℕ) → option_map slot_key (F i) ≡ option_map slot_key (G i)) → (js : List ℕ) → option_map keys_of (all_some (map F js)) ≡ option_map keys_of (all_some (map G js))
all_alike F G each [] = refl
all_alike F G each (j ∷ js) =
    ap (option_map keys_of) (some_first (F j) (map F js)) ∙ joined_alike (F j) (G j) (all_some (map F js)) (all_some (map G js)) (each j) (all_alike F G each js)
    ∙ sym (ap (option_map keys_of) (some_first (G j) (map G js)))

over_nodes : (xs ys : Option (List TrieSlot)) → option_map keys_of xs ≡ option_map keys_of ys → option_map blank (option_map node_data xs) ≡ option_map blank (option_map node_data ys)
over_nodes None None same = refl
over_nodes None (Some ts) same = absurd (none-some (keys_of ts) same)
over_nodes (Some ss) None same = absurd (none-some (keys_of ss) (sym same))
over_nodes (Some ss) (Some ts) same = ap Some (node_alike ss ts (same_Some (keys_of ss) (keys_of ts) same))

module _ (h : List ℕ → List ℕ) (p : HamtShape) where
  pub nodes_alike : (left depth : ℕ) → Alike (node_of h p left depth)
  unfolding node_of
  nodes_alike zero depth es fs same = refl
  nodes_alike (suc left) depth es fs same =
      over_nodes (slots_of p (λ k. index p (h k) depth) (node_of h p left (depth + 1)) es) (slots_of p (λ k. index p (h k) depth) (node_of h p left (depth + 1)) fs)
      (all_alike (λ i. slot_of p.bucket (node_of h p left (depth + 1)) (part (λ k. index p (h k) depth) es i)) (λ i. slot_of p.bucket (node_of h p left (depth + 1)) (part (λ k. index p (h k) depth) fs i))
      (λ i. slot_alike p.bucket (node_of h p left (depth + 1)) (nodes_alike left (depth + 1)) (part (λ k. index p (h k) depth) es i) (part (λ k. index p (h k) depth) fs i) (part_alike (λ k. index p (h k) depth) es fs i same))
      (range_with_len 0 (2 ^ p.width)))

  trie_by : (b : Bool) (es fs : Entries) → blank_entries es ≡ blank_entries fs
      → option_map blank (cond b (node_of h p (trie_levels p - 0) 0 (in_byte_order es)) None) ≡ option_map blank (cond b (node_of h p (trie_levels p - 0) 0 (in_byte_order fs)) None)
  trie_by true es fs same = nodes_alike (trie_levels p - 0) 0 (in_byte_order es) (in_byte_order fs) (order_alike es fs same)
  trie_by false es fs same = refl

  trie_alike : (es fs : Entries) → blank_entries es ≡ blank_entries fs → option_map blank (trie h p es 0) ≡ option_map blank (trie h p fs 0)
  unfolding trie
  trie_alike es fs same = trie_by (no_key_twice es) es fs same ∙ ap (λ b. option_map blank (cond b (node_of h p (trie_levels p - 0) 0 (in_byte_order fs)) None)) (twice_alike es fs same)

  -- ---- the nodes beneath

  -- as many, each as long
  abbrev pub AsLong : (Entries → List (List ℕ)) → Type 0
  AsLong beneath = (es fs : Entries) → blank_entries es ≡ blank_entries fs → map length (beneath es) ≡ map length (beneath fs)

  block_alike : (o q : Option Data) → option_map blank o ≡ option_map blank q → map length (block_of o) ≡ map length (block_of q)
  block_alike None None same = refl
  block_alike None (Some e) same = absurd (none-some (blank e) same)
  block_alike (Some d) None same = absurd (none-some (blank d) (sym same))
  block_alike (Some d) (Some e) same = ap (λ n. n ∷ []) (as_long d e (same_Some (blank d) (blank e) same))

  more_alike : (a b c d : List (List ℕ)) → map length a ≡ map length c → map length b ≡ map length d → map length (a ++ b) ≡ map length (c ++ d)
  more_alike a b c d x y = map-append length a b ∙ ap (λ ns. ns ++ map length b) x ∙ ap (λ ns. map length c ++ ns) y ∙ sym (map-append length c d)

  none_alike : (b : Bool) (beneath : Entries → List (List ℕ)) → AsLong beneath → (es fs : Entries) → blank_entries es ≡ blank_entries fs → map length (none_or b beneath es) ≡ map length (none_or b beneath fs)
  none_alike true beneath rest es fs same = refl
  none_alike false beneath rest es fs same = rest es fs same

  pub here_alike : (below : Entries → Option Data) (beneath : Entries → List (List ℕ)) → Alike below → AsLong beneath → AsLong (node_and_beneath p.bucket below beneath)
  here_alike below beneath under rest es fs same =
      none_alike (nat_le (length es) p.bucket) (λ gs. block_of (below gs) ++ beneath gs)
      (λ gs ks is. more_alike (block_of (below gs)) (beneath gs) (block_of (below ks)) (beneath ks) (block_alike (below gs) (below ks) (under gs ks is)) (rest gs ks is)) es fs same
      ∙ ap (λ n. map length (none_or (nat_le n p.bucket) (λ gs. block_of (below gs) ++ beneath gs) fs)) (many_entries es fs same)

  over_all : (F G : ℕ → List (List ℕ)) → ((i : ℕ) → map length (F i) ≡ map length (G i)) → (js : List ℕ) → map length (flat_map F js) ≡ map length (flat_map G js)
  over_all F G each [] = refl
  over_all F G each (j ∷ js) = more_alike (F j) (flat_map F js) (G j) (flat_map G js) (each j) (over_all F G each js)

  beneath_alike : (left depth : ℕ) → AsLong (nodes_beneath h p left depth)
  unfolding nodes_beneath
  beneath_alike zero depth es fs same = refl
  beneath_alike (suc left) depth es fs same =
      over_all (λ i. node_and_beneath p.bucket (node_of h p left (depth + 1)) (nodes_beneath h p left (depth + 1)) (part (at_depth h p depth) es i))
      (λ i. node_and_beneath p.bucket (node_of h p left (depth + 1)) (nodes_beneath h p left (depth + 1)) (part (at_depth h p depth) fs i))
      (λ i. here_alike (node_of h p left (depth + 1)) (nodes_beneath h p left (depth + 1)) (nodes_alike left (depth + 1)) (beneath_alike left (depth + 1)) (part (at_depth h p depth) es i) (part (at_depth h p depth) fs i)
      (part_alike (at_depth h p depth) es fs i same))
      (range_with_len 0 (2 ^ p.width))

  pub tries : (es fs : Entries) → blank_entries es ≡ blank_entries fs → TriesAlike h p es fs
  tries es fs same = record { root = trie_alike es fs same; nodes = beneath_alike (trie_levels p) 0 (in_byte_order es) (in_byte_order fs) (order_alike es fs same) }

pub tries_alike : (h : List ℕ → List ℕ) (p : HamtShape) (es fs : Entries) → blank_entries es ≡ blank_entries fs → TriesAlike h p es fs
tries_alike h p es fs same = tries h p es fs same
