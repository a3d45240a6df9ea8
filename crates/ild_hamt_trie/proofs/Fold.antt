-- A node's entries by its slots, and the slot that it has in the node above.
use Rattle.std.proofs.Common.{◌≡◌, ℕ, zero, suc, ◌+◌, ◌<◌, ◌≤◌, ◌^◌, Bool, true, false, cond, ◌==◌, ◌||◌, nat_le, List, [], ◌∷◌, ◌++◌, length, map, Option, Some, None, option_map, refl, sym, ap, ◌∙◌, arith, ⊎_elim, flat_map}
use Rattle.std.specs.List.{range_with_len, list_any}
use Rattle.std.specs.Ordering.{eq_by_cmp}
use Rattle.std.specs.FinMap.{find}
use Rattle.std.proofs.lemmas.Bool.{lt-leb, le-leb, eq-eqb, cases_eq, cases_lt, cases_Bool, or_cases, or_parts}
use Rattle.ild_data.specs.Data.{Data}
use Rattle.ild_data.specs.declared.hamt_shape.HamtShape.{HamtShape}
use Rattle.ild_data.specs.ByteOrder.{bytewise, in_byte_order, IsInOrder}
use Rattle.ild_data.specs.Trie.{part, TrieSlot, empty, bucket, is_child, bucket_entries, link_to, node_data, slot_of, slots_of, all_some}
use Rattle.ild_hamt_trie.specs.Collapse.{sized, folded}
use Rattle.ild_hamt_trie.proofs.Parts.{same_by_find, in_order-sorted, find-sorted, find-part}
use Rattle.ild_hamt_trie.proofs.Slots.{all_some-cons}

-- the slot of few entries, and of many
pub slot-few : (most : ℕ) (below : List (List ℕ × Data) → Option Data) (es : List (List ℕ × Data)) (deeper : TrieSlot) → length es ≤ most → slot_of most below es ≡ Some (sized most deeper es)
slot-few most below [] deeper le = refl
slot-few most below (e ∷ es) deeper le = rw (le-leb (length (e ∷ es)) most le) refl

pub slot-many : (most : ℕ) (below : List (List ℕ × Data) → Option Data) (es : List (List ℕ × Data)) → most < length es → slot_of most below es ≡ option_map link_to (below es)
slot-many most below [] lt = absurd (omega arith)
slot-many most below (e ∷ es) lt = rw (lt-leb (length (e ∷ es)) most lt) refl

sized-many : (most : ℕ) (deeper : TrieSlot) (es : List (List ℕ × Data)) → most < length es → sized most deeper es ≡ deeper
sized-many most deeper [] lt = absurd (omega arith)
sized-many most deeper (e ∷ es) lt = rw (lt-leb (length (e ∷ es)) most lt) refl

pub length-part : (at : List ℕ → ℕ) (es : List (List ℕ × Data)) (i : ℕ) → length (part at es i) ≤ length es
length-part at [] i = omega arith
length-part at (e ∷ es) i =
    let rest = length-part at es i in
    elim (at e.0 == i) as (λ b. length (cond b (e ∷ part at es i) (part at es i)) ≤ suc (length es)) [ true ↦ omega arith | false ↦ omega arith ]

sized-no_child : (most : ℕ) (es : List (List ℕ × Data)) → is_child (sized most empty es) ≡ false
sized-no_child most [] = refl
sized-no_child most (e ∷ es) = elim (nat_le (length (e ∷ es)) most) as (λ b. is_child (cond b (bucket (e ∷ es)) empty) ≡ false) [ true ↦ refl | false ↦ refl ]

sized-held : (most : ℕ) (es : List (List ℕ × Data)) → length es ≤ most → bucket_entries (sized most empty es) ≡ es
sized-held most [] le = refl
sized-held most (e ∷ es) le = rw (le-leb (length (e ∷ es)) most le) refl

-- a child stands for more entries than a bucket takes
pub child-many : (most : ℕ) (below : List (List ℕ × Data) → Option Data) (es : List (List ℕ × Data)) (s : TrieSlot) → slot_of most below es ≡ Some s → is_child s ≡ true → most < length es
child-many most below es s is linked =
    ⊎_elim (λ lt. lt) (λ le. let same : sized most empty es ≡ s = let e = sym (slot-few most below es empty le) ∙ is in cc in
    let no = sized-no_child most es in absurd cc) (cases_lt most (length es))

-- and any other slot holds the part
child-node : (below : List (List ℕ × Data) → Option Data) (o : Option Data) (s : TrieSlot) → option_map link_to o ≡ Some s → is_child s ≡ true
child-node below None s is = absurd cc
child-node below (Some node) s is = let same : link_to node ≡ s = cc in ap is_child (sym same)

pub other-held : (most : ℕ) (below : List (List ℕ × Data) → Option Data) (es : List (List ℕ × Data)) (s : TrieSlot) → slot_of most below es ≡ Some s → is_child s ≡ false → bucket_entries s ≡ es
other-held most below es s is other =
    ⊎_elim (λ lt. let linked = child-node below (below es) s (sym (slot-many most below es lt) ∙ is) in absurd cc)
    (λ le. let same : sized most empty es ≡ s = let e = sym (slot-few most below es empty le) ∙ is in cc in ap bucket_entries (sym same) ∙ sized-held most es le) (cases_lt most (length es))

-- over some indices
pub any_child-many : (most : ℕ) (at : List ℕ → ℕ) (below : List (List ℕ × Data) → Option Data) (es : List (List ℕ × Data)) (js : List ℕ) (slots : List TrieSlot)
    → all_some (map (λ j. slot_of most below (part at es j)) js) ≡ Some slots → list_any is_child slots ≡ true → most < length es
any_child-many most at below es [] slots is some = let e : slots ≡ [] = cc in let no : list_any is_child slots ≡ false = ap (list_any is_child) e in absurd cc
any_child-many most at below es (j ∷ js) slots is some =
    let c = all_some-cons (slot_of most below (part at es j)) (map (λ i. slot_of most below (part at es i)) js) slots is in
    let here : (is_child c.0 || list_any is_child c.1) ≡ true = ap (list_any is_child) (sym c.4) ∙ some in
    ⊎_elim (λ linked. let lt : most < length (part at es j) = child-many most below (part at es j) c.0 c.2 linked in let le = length-part at es j in omega arith)
    (λ later. any_child-many most at below es js c.1 c.3 later) (or_cases (is_child c.0) (list_any is_child c.1) here)

pub no_child-held : (most : ℕ) (at : List ℕ → ℕ) (below : List (List ℕ × Data) → Option Data) (es : List (List ℕ × Data)) (js : List ℕ) (slots : List TrieSlot)
    → all_some (map (λ j. slot_of most below (part at es j)) js) ≡ Some slots → list_any is_child slots ≡ false → flat_map bucket_entries slots ≡ flat_map (part at es) js
no_child-held most at below es [] slots is childless = let e : slots ≡ [] = cc in ap (flat_map bucket_entries) e
no_child-held most at below es (j ∷ js) slots is childless =
    let c = all_some-cons (slot_of most below (part at es j)) (map (λ i. slot_of most below (part at es i)) js) slots is in
    let parts = or_parts (is_child c.0) (list_any is_child c.1) (ap (list_any is_child) (sym c.4) ∙ childless) in
    ap (flat_map bucket_entries) c.4 ∙ (λ i. other-held most below (part at es j) c.0 c.2 parts.0 i ++ no_child-held most at below es js c.1 c.3 parts.1 i)

-- a look-up among the parts over some indices
unfoldable pub or_else : Option Data → Option Data → Option Data
or_else None y = y
or_else (Some x) y = Some x

pub find-append : (q : List ℕ) (es fs : List (List ℕ × Data)) → find bytewise q (es ++ fs) ≡ or_else (find bytewise q es) (find bytewise q fs)
unfolding or_else
find-append q [] fs = refl
find-append q (e ∷ es) fs =
    elim (eq_by_cmp bytewise q e.0) as (λ b. cond b (Some e.1) (find bytewise q (es ++ fs)) ≡ or_else (cond b (Some e.1) (find bytewise q es)) (find bytewise q fs)) [
      | true ↦ refl
      | false ↦ find-append q es fs
    ]

pub either : (b c : Bool) (x : Option Data) → or_else (cond b x None) (cond c x None) ≡ cond (b || c) x None
unfolding or_else
either true true None = refl
either true false None = refl
either true c (Some x) = refl
either false c x = refl

find-parts : (at : List ℕ → ℕ) (es : List (List ℕ × Data)) (q : List ℕ) (js : List ℕ) → find bytewise q (flat_map (part at es) js) ≡ cond (list_any (λ j. at q == j) js) (find bytewise q es) None
find-parts at es q [] = refl
find-parts at es q (j ∷ js) =
    find-append q (part at es j) (flat_map (part at es) js)
    ∙ (λ i. or_else (find-part at es j q i) (find-parts at es q js i))
    ∙ either (at q == j) (list_any (λ j. at q == j) js) (find bytewise q es)

pub any-range : (x a n : ℕ) → a ≤ x → x < a + n → list_any (λ j. x == j) (range_with_len a n) ≡ true
any-range x a zero le lt = absurd (omega arith)
any-range x a (suc n) le lt =
    ⊎_elim (λ same. or_left_true (x == a) _ (eq-eqb x a same))
    (λ apart. or_right_true (x == a) _ (any-range x (a + 1) n (omega arith) (omega arith))) (cases_eq x a)
  where
    or_left_true : (b c : Bool) → b ≡ true → (b || c) ≡ true
    or_left_true b c e = rw e refl

    or_right_true : (b c : Bool) → c ≡ true → (b || c) ≡ true
    or_right_true true c e = refl
    or_right_true false c e = e

-- the entries of a node without children stand in its buckets
pub entries_held : (p : HamtShape) (at : List ℕ → ℕ) (below : List (List ℕ × Data) → Option Data) (es : List (List ℕ × Data)) (slots : List TrieSlot)
    → ((q : List ℕ) → at q < 2 ^ p.width) → IsInOrder es → slots_of p at below es ≡ Some slots → list_any is_child slots ≡ false
    → in_byte_order (flat_map bucket_entries slots) ≡ es
entries_held p at below es slots within h is childless =
    same_by_find _ _ (in_order-sorted (flat_map bucket_entries slots)) h (λ q.
    find-sorted q (flat_map bucket_entries slots) ∙ ap (find bytewise q) (no_child-held p.bucket at below es (range_with_len 0 (2 ^ p.width)) slots is childless)
    ∙ find-parts at es q (range_with_len 0 (2 ^ p.width))
    ∙ ap (λ b. cond b (find bytewise q es) None) (any-range (at q) 0 (2 ^ p.width) (omega arith) (omega (arith, within q))))

pub children_many : (p : HamtShape) (at : List ℕ → ℕ) (below : List (List ℕ × Data) → Option Data) (es : List (List ℕ × Data)) (slots : List TrieSlot)
    → slots_of p at below es ≡ Some slots → list_any is_child slots ≡ true → p.bucket < length es
children_many p at below es slots is some = any_child-many p.bucket at below es (range_with_len 0 (2 ^ p.width)) slots is some

sized-slot : (most : ℕ) (node : Data) (es : List (List ℕ × Data)) (below : List (List ℕ × Data) → Option Data) → below es ≡ Some node
    → slot_of most below es ≡ Some (sized most (link_to node) es)
sized-slot most node es below is =
    ⊎_elim (λ lt. slot-many most below es lt ∙ ap (option_map link_to) is ∙ ap Some (sym (sized-many most (link_to node) es lt)))
    (λ le. slot-few most below es (link_to node) le) (cases_lt most (length es))

-- the slot that a node of these slots has in the node above
pub slot-folded : (p : HamtShape) (at : List ℕ → ℕ) (below above : List (List ℕ × Data) → Option Data) (es : List (List ℕ × Data)) (slots : List TrieSlot)
    → ((q : List ℕ) → at q < 2 ^ p.width) → IsInOrder es → slots_of p at below es ≡ Some slots → above es ≡ Some (node_data slots)
    → slot_of p.bucket above es ≡ Some (folded p.bucket slots)
slot-folded p at below above es slots within h is node =
    ⊎_elim
    (λ some. let lt = children_many p at below es slots is some in
    sized-slot p.bucket (node_data slots) es above node ∙ ap Some (sized-many p.bucket (link_to (node_data slots)) es lt)
    ∙ ap (λ b. Some (cond b (link_to (node_data slots)) (sized p.bucket (link_to (node_data slots)) (in_byte_order (flat_map bucket_entries slots))))) (sym some))
    (λ childless. sized-slot p.bucket (node_data slots) es above node
    ∙ ap (λ fs. Some (sized p.bucket (link_to (node_data slots)) fs)) (sym (entries_held p at below es slots within h is childless))
    ∙ ap (λ b. Some (cond b (link_to (node_data slots)) (sized p.bucket (link_to (node_data slots)) (in_byte_order (flat_map bucket_entries slots))))) (sym childless))
    (cases_Bool (list_any is_child slots))
