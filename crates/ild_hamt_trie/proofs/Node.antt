-- Nodes: one step of a set and of a removal, and when a set exhausts the levels.
use Rattle.std.proofs.Common.{◌≡◌, ℕ, zero, suc, ◌+◌, ◌-◌, ◌<◌, ◌≤◌, ◌^◌, Bool, true, false, cond, not, ◌||◌, nat_le, List, [], ◌∷◌, length, map, set, get_or, Option, Some, None, option_map, is_some, refl, sym, ap, ◌∙◌, subst, arith, ⊎_elim}
use Rattle.std.specs.List.{range_with_len, list_any}
use Rattle.std.specs.Ordering.{eq_by_cmp}
use Rattle.std.specs.FinMap.{find, put}
use Rattle.std.proofs.lemmas.Bool.{le-leb, leb-true, cases_lt, cases_Bool, or_cases}
use Rattle.ild_data.specs.Data.{Data}
use Rattle.ild_data.specs.Spell.{spell, id_of}
use Rattle.ild_data.specs.declared.hamt_shape.HamtShape.{HamtShape}
use Rattle.ild_data.specs.TrieShape.{trie_levels}
use Rattle.ild_data.specs.ByteOrder.{bytewise, in_byte_order, without, IsInOrder, no_key_twice}
use Rattle.ild_data.specs.Trie.{part, TrieSlot, empty, child, link_to, node_data, bucket_or, is_child, bucket_entries, slot_of, all_some, node_of, at_depth, slots_at, trie}
use Rattle.ild_hamt_trie.specs.Collapse.{folded}
use Rattle.ild_hamt_trie.specs.Way.{along}
use Rattle.ild_hamt_trie.proofs.Parts.{in_order-part, in_order-put, part-put_same, in_order-without, sorted_alike}
use Rattle.ild_hamt_trie.proofs.Slots.{slots-put, slots-without, slot_at}
use Rattle.ild_hamt_trie.proofs.Index.{index_below}
use Rattle.ild_hamt_trie.proofs.Fold.{slot-few, slot-many, slot-folded, child-many, other-held, children_many, length-part}

pub node-slots : (h : List ℕ → List ℕ) (p : HamtShape) (left depth : ℕ) (es : List (List ℕ × Data)) → node_of h p (suc left) depth es ≡ option_map node_data (slots_at h p left depth es)
unfolding node_of
node-slots h p left depth es = refl

some_map : {X Y : Type 0} (f : X → Y) (o : Option X) (y : Y) → option_map f o ≡ Some y → (x : X) × (o ≡ Some x) × (y ≡ f x)
some_map f None y is = absurd cc
some_map f (Some x) y is = (x, refl, cc)

pub slots-node : (h : List ℕ → List ℕ) (p : HamtShape) (left depth : ℕ) (es : List (List ℕ × Data)) (node : Data) → node_of h p (suc left) depth es ≡ Some node
    → (slots : List TrieSlot) × (slots_at h p left depth es ≡ Some slots) × (node ≡ node_data slots)
slots-node h p left depth es node is = some_map node_data (slots_at h p left depth es) node (sym (node-slots h p left depth es) ∙ is)

-- one step of a set: the slot at the key's index is that of the part with the pair
pub set-step : (h : List ℕ → List ℕ) (p : HamtShape) (left depth : ℕ) (es : List (List ℕ × Data)) (k : List ℕ) (v : Data) (slots : List TrieSlot)
    → IsInOrder es → slots_at h p left depth es ≡ Some slots
    → slots_at h p left depth (put bytewise k v es)
    ≡ option_map (λ s. set slots (at_depth h p depth k) s) (slot_of p.bucket (node_of h p left (depth + 1)) (put bytewise k v (part (at_depth h p depth) es (at_depth h p depth k))))
set-step h p left depth es k v slots order is = slots-put p (at_depth h p depth) (node_of h p left (depth + 1)) es k v slots (index_below p (h k) depth) order is

pub remove-step : (h : List ℕ → List ℕ) (p : HamtShape) (left depth : ℕ) (es : List (List ℕ × Data)) (k : List ℕ) (slots : List TrieSlot)
    → IsInOrder es → slots_at h p left depth es ≡ Some slots
    → slots_at h p left depth (without k es)
    ≡ option_map (λ s. set slots (at_depth h p depth k) s) (slot_of p.bucket (node_of h p left (depth + 1)) (without k (part (at_depth h p depth) es (at_depth h p depth k))))
remove-step h p left depth es k slots order is = slots-without p (at_depth h p depth) (node_of h p left (depth + 1)) es k slots (index_below p (h k) depth) order is

-- the slot in the node above, by the slots of the node
pub fold-step : (h : List ℕ → List ℕ) (p : HamtShape) (left depth : ℕ) (es : List (List ℕ × Data)) (slots : List TrieSlot)
    → IsInOrder es → slots_at h p left depth es ≡ Some slots → slot_of p.bucket (node_of h p (suc left) depth) es ≡ Some (folded p.bucket slots)
fold-step h p left depth es slots order is =
    slot-folded p (at_depth h p depth) (node_of h p left (depth + 1)) (node_of h p (suc left) depth) es slots (λ q. index_below p (h q) depth) order is
    (node-slots h p left depth es ∙ ap (option_map node_data) is)

-- few entries have a node wherever a level is left
few-parts : (most : ℕ) (at : List ℕ → ℕ) (below : List (List ℕ × Data) → Option Data) (es : List (List ℕ × Data)) (js : List ℕ) → length es ≤ most
    → is_some (all_some (map (λ j. slot_of most below (part at es j)) js)) ≡ true
few-parts most at below es [] le = refl
few-parts most at below es (j ∷ js) le =
    let part_le = length-part at es j in
    let here : length (part at es j) ≤ most = omega arith in
    rw (slot-few most below (part at es j) empty here) (still _ _ (few-parts most at below es js le))
  where
    still : {X : Type 0} (x : X) (o : Option (List X)) → is_some o ≡ true → is_some (option_map (λ xs. x ∷ xs) o) ≡ true
    still x None is = is
    still x (Some xs) is = refl

pub is_some-map : {X Y : Type 0} (f : X → Y) (o : Option X) → is_some (option_map f o) ≡ is_some o
is_some-map f None = refl
is_some-map f (Some x) = refl

pub few-node : (h : List ℕ → List ℕ) (p : HamtShape) (left depth : ℕ) (es : List (List ℕ × Data)) → length es ≤ p.bucket → is_some (node_of h p (suc left) depth es) ≡ true
few-node h p left depth es le = ap is_some (node-slots h p left depth es) ∙ is_some-map node_data (slots_at h p left depth es) ∙ few-parts p.bucket (at_depth h p depth) (node_of h p left (depth + 1)) es (range_with_len 0 (2 ^ p.width)) le

is_some-bucket_or : (b : Bool) (below : List (List ℕ × Data) → Option Data) (es : List (List ℕ × Data)) → is_some (bucket_or b below es) ≡ (b || is_some (below es))
is_some-bucket_or true below es = refl
is_some-bucket_or false below es = is_some-map link_to (below es)

pub is_some-slot : (most : ℕ) (below : List (List ℕ × Data) → Option Data) (es : List (List ℕ × Data)) → is_some (slot_of most below es) ≡ (nat_le (length es) most || is_some (below es))
is_some-slot most below [] = sym (rw (le-leb zero most (omega arith)) refl)
is_some-slot most below (e ∷ es) = is_some-bucket_or (nat_le (length (e ∷ es)) most) below (e ∷ es)

pub no_node : (h : List ℕ → List ℕ) (p : HamtShape) (depth : ℕ) (es : List (List ℕ × Data)) → node_of h p zero depth es ≡ None
unfolding node_of
no_node h p depth es = refl

pub or_false : (b : Bool) → (b || false) ≡ b
or_false true = refl
or_false false = refl

pub or_true : (b : Bool) → (b || true) ≡ true
or_true true = refl
or_true false = refl

-- what is at most a bucket is so for the lesser of two lengths
le_or : (a c most : ℕ) → c ≤ a → (nat_le a most || nat_le c most) ≡ nat_le c most
le_or a c most le =
    ⊎_elim (λ few. let lesser : c ≤ most = (let le_a = leb-true a most few in omega arith) in rw (le-leb c most lesser) (or_true (nat_le a most)))
    (λ many. ap (λ b. b || nat_le c most) many) (cases_Bool (nat_le a most))

pub length-along : (h : List ℕ → List ℕ) (p : HamtShape) (k : List ℕ) (left depth : ℕ) (es : List (List ℕ × Data)) → length (along h p k left depth es) ≤ length es
length-along h p k zero depth es = omega arith
length-along h p k (suc left) depth es =
    let one = length-part (at_depth h p depth) es (at_depth h p depth k) in
    let rest = length-along h p k left (depth + 1) (part (at_depth h p depth) es (at_depth h p depth k)) in omega arith

pub along-put : (h : List ℕ → List ℕ) (p : HamtShape) (k : List ℕ) (v : Data) (left depth : ℕ) (es : List (List ℕ × Data)) → IsInOrder es
    → along h p k left depth (put bytewise k v es) ≡ put bytewise k v (along h p k left depth es)
along-put h p k v zero depth es order = refl
along-put h p k v (suc left) depth es order =
    ap (along h p k left (depth + 1)) (part-put_same (at_depth h p depth) k v es (at_depth h p depth k) order refl)
    ∙ along-put h p k v left (depth + 1) (part (at_depth h p depth) es (at_depth h p depth k)) (in_order-part (at_depth h p depth) es (at_depth h p depth k) order)

is_some-from : {X : Type 0} (o : Option X) → is_some o ≡ true → (x : X) × (o ≡ Some x)
is_some-from None is = absurd cc
is_some-from (Some x) is = (x, refl)

-- of entries with a node, the part at an index has one too where a level is left
pub part-node : (h : List ℕ → List ℕ) (p : HamtShape) (left depth : ℕ) (es : List (List ℕ × Data)) (k : List ℕ) (slots : List TrieSlot) → slots_at h p (suc left) depth es ≡ Some slots
    → is_some (node_of h p (suc left) (depth + 1) (part (at_depth h p depth) es (at_depth h p depth k))) ≡ true
part-node h p left depth es k slots is =
    let fs : List (List ℕ × Data) = part (at_depth h p depth) es (at_depth h p depth k) in
    let stands : (nat_le (length fs) p.bucket || is_some (node_of h p (suc left) (depth + 1) fs)) ≡ true =
    sym (is_some-slot p.bucket (node_of h p (suc left) (depth + 1)) fs)
    ∙ ap is_some (slot_at p (at_depth h p depth) (node_of h p (suc left) (depth + 1)) es (at_depth h p depth k) slots empty (index_below p (h k) depth) is) in
    ⊎_elim (λ few. few-node h p left (depth + 1) fs (leb-true (length fs) p.bucket few)) (λ one. one) (or_cases _ _ stands)

-- the node of entries with the pair stands or falls with the slot at the key's index
set-some : (h : List ℕ → List ℕ) (p : HamtShape) (left depth : ℕ) (es : List (List ℕ × Data)) (k : List ℕ) (v : Data) (slots : List TrieSlot) → IsInOrder es → slots_at h p left depth es ≡ Some slots
    → is_some (node_of h p (suc left) depth (put bytewise k v es))
    ≡ (nat_le (length (put bytewise k v (part (at_depth h p depth) es (at_depth h p depth k)))) p.bucket
    || is_some (node_of h p left (depth + 1) (put bytewise k v (part (at_depth h p depth) es (at_depth h p depth k)))))
set-some h p left depth es k v slots order is =
    let fs : List (List ℕ × Data) = part (at_depth h p depth) es (at_depth h p depth k) in
    ap is_some (node-slots h p left depth (put bytewise k v es)) ∙ is_some-map node_data (slots_at h p left depth (put bytewise k v es))
    ∙ ap is_some (set-step h p left depth es k v slots order is)
    ∙ is_some-map (λ s. set slots (at_depth h p depth k) s) (slot_of p.bucket (node_of h p left (depth + 1)) (put bytewise k v fs))
    ∙ is_some-slot p.bucket (node_of h p left (depth + 1)) (put bytewise k v fs)

remove-some : (h : List ℕ → List ℕ) (p : HamtShape) (left depth : ℕ) (es : List (List ℕ × Data)) (k : List ℕ) (slots : List TrieSlot) → IsInOrder es → slots_at h p left depth es ≡ Some slots
    → is_some (node_of h p (suc left) depth (without k es))
    ≡ (nat_le (length (without k (part (at_depth h p depth) es (at_depth h p depth k)))) p.bucket
    || is_some (node_of h p left (depth + 1) (without k (part (at_depth h p depth) es (at_depth h p depth k)))))
remove-some h p left depth es k slots order is =
    let fs : List (List ℕ × Data) = part (at_depth h p depth) es (at_depth h p depth k) in
    ap is_some (node-slots h p left depth (without k es)) ∙ is_some-map node_data (slots_at h p left depth (without k es))
    ∙ ap is_some (remove-step h p left depth es k slots order is)
    ∙ is_some-map (λ s. set slots (at_depth h p depth k) s) (slot_of p.bucket (node_of h p left (depth + 1)) (without k fs))
    ∙ is_some-slot p.bucket (node_of h p left (depth + 1)) (without k fs)

-- a set exhausts the levels exactly where too many entries agree with the key at each
pub set-exhausts : (h : List ℕ → List ℕ) (p : HamtShape) (left depth : ℕ) (es : List (List ℕ × Data)) (k : List ℕ) (v : Data) → IsInOrder es
    → is_some (node_of h p (suc left) depth es) ≡ true
    → is_some (node_of h p (suc left) depth (put bytewise k v es)) ≡ nat_le (length (put bytewise k v (along h p k (suc left) depth es))) p.bucket
set-exhausts h p zero depth es k v order some =
    let node = is_some-from (node_of h p 1 depth es) some in
    let parts = slots-node h p zero depth es node.0 node.1 in
    let fs : List (List ℕ × Data) = part (at_depth h p depth) es (at_depth h p depth k) in
    set-some h p zero depth es k v parts.0 order parts.1
    ∙ ap (λ o. nat_le (length (put bytewise k v fs)) p.bucket || is_some o) (no_node h p (depth + 1) (put bytewise k v fs)) ∙ or_false _
set-exhausts h p (suc left) depth es k v order some =
    let node = is_some-from (node_of h p (suc (suc left)) depth es) some in
    let parts = slots-node h p (suc left) depth es node.0 node.1 in
    let fs : List (List ℕ × Data) = part (at_depth h p depth) es (at_depth h p depth k) in
    let fs_order : IsInOrder fs = in_order-part (at_depth h p depth) es (at_depth h p depth k) order in
    let deeper = set-exhausts h p left (depth + 1) fs k v fs_order (part-node h p left depth es k parts.0 parts.1) in
    let le : length (put bytewise k v (along h p k (suc left) (depth + 1) fs)) ≤ length (put bytewise k v fs) =
    subst (λ (gs : List (List ℕ × Data)). length gs ≤ length (put bytewise k v fs)) (along-put h p k v (suc left) (depth + 1) fs fs_order) (length-along h p k (suc left) (depth + 1) (put bytewise k v fs)) in
    set-some h p (suc left) depth es k v parts.0 order parts.1
    ∙ ap (λ b. nat_le (length (put bytewise k v fs)) p.bucket || b) deeper
    ∙ le_or (length (put bytewise k v fs)) (length (put bytewise k v (along h p k (suc left) (depth + 1) fs))) p.bucket le

length-without : (k : List ℕ) (es : List (List ℕ × Data)) → length (without k es) ≤ length es
length-without k [] = omega arith
length-without k (e ∷ es) =
    let rest = length-without k es in
    elim (eq_by_cmp bytewise k e.0) as (λ b. length (cond (not b) (e ∷ without k es) (without k es)) ≤ suc (length es)) [ true ↦ omega arith | false ↦ omega arith ]

-- a removal never does
pub remove-stands : (h : List ℕ → List ℕ) (p : HamtShape) (left depth : ℕ) (es : List (List ℕ × Data)) (k : List ℕ) → IsInOrder es
    → is_some (node_of h p (suc left) depth es) ≡ true → is_some (node_of h p (suc left) depth (without k es)) ≡ true
remove-stands h p zero depth es k order some =
    let node = is_some-from (node_of h p 1 depth es) some in
    let parts = slots-node h p zero depth es node.0 node.1 in
    let fs : List (List ℕ × Data) = part (at_depth h p depth) es (at_depth h p depth k) in
    let few : nat_le (length fs) p.bucket ≡ true =
    sym (or_false (nat_le (length fs) p.bucket)) ∙ ap (λ o. nat_le (length fs) p.bucket || is_some o) (sym (no_node h p (depth + 1) fs))
    ∙ sym (is_some-slot p.bucket (node_of h p zero (depth + 1)) fs)
    ∙ ap is_some (slot_at p (at_depth h p depth) (node_of h p zero (depth + 1)) es (at_depth h p depth k) parts.0 empty (index_below p (h k) depth) parts.1) in
    let le : length (without k fs) ≤ p.bucket = (let a = length-without k fs in let b = leb-true (length fs) p.bucket few in omega arith) in
    remove-some h p zero depth es k parts.0 order parts.1 ∙ rw (le-leb (length (without k fs)) p.bucket le) refl
remove-stands h p (suc left) depth es k order some =
    let node = is_some-from (node_of h p (suc (suc left)) depth es) some in
    let parts = slots-node h p (suc left) depth es node.0 node.1 in
    let fs : List (List ℕ × Data) = part (at_depth h p depth) es (at_depth h p depth k) in
    remove-some h p (suc left) depth es k parts.0 order parts.1
    ∙ ap (λ b. nat_le (length (without k fs)) p.bucket || b)
    (remove-stands h p left (depth + 1) fs k (in_order-part (at_depth h p depth) es (at_depth h p depth k) order) (part-node h p left depth es k parts.0 parts.1))
    ∙ or_true (nat_le (length (without k fs)) p.bucket)

-- the trie of a list is that of any list with the same pairs
pub trie-alike : (h : List ℕ → List ℕ) (p : HamtShape) (es fs : List (List ℕ × Data)) (depth : ℕ) → no_key_twice es ≡ true → no_key_twice fs ≡ true
    → ((q : List ℕ) → find bytewise q es ≡ find bytewise q fs) → trie h p es depth ≡ trie h p fs depth
unfolding trie
trie-alike h p es fs depth one two is =
    rw (one, two) (ap (node_of h p (trie_levels p - depth) depth) (sorted_alike es fs is))

pub trie-sorted : (h : List ℕ → List ℕ) (p : HamtShape) (es : List (List ℕ × Data)) (depth : ℕ) → no_key_twice es ≡ true → trie h p es depth ≡ node_of h p (trie_levels p - depth) depth (in_byte_order es)
unfolding trie
trie-sorted h p es depth one = rw one refl

-- one level up on the key's way: what stands in the slot after a set, where the node holds many entries
pub set-up : (h : List ℕ → List ℕ) (p : HamtShape) (left depth : ℕ) (es : List (List ℕ × Data)) (k : List ℕ) (v : Data) (slots : List TrieSlot) (s : TrieSlot)
    → IsInOrder es → slots_at h p left depth es ≡ Some slots
    → slot_of p.bucket (node_of h p left (depth + 1)) (put bytewise k v (part (at_depth h p depth) es (at_depth h p depth k))) ≡ Some s
    → (slots_at h p left depth (put bytewise k v es) ≡ Some (set slots (at_depth h p depth k) s))
    × (slot_of p.bucket (node_of h p (suc left) depth) (put bytewise k v es) ≡ Some (folded p.bucket (set slots (at_depth h p depth k) s)))
set-up h p left depth es k v slots s order is new =
    let here : slots_at h p left depth (put bytewise k v es) ≡ Some (set slots (at_depth h p depth k) s) =
    set-step h p left depth es k v slots order is ∙ ap (option_map (λ t. set slots (at_depth h p depth k) t)) new in
    (here, fold-step h p left depth (put bytewise k v es) (set slots (at_depth h p depth k) s) (in_order-put k v es order) here)

pub remove-up : (h : List ℕ → List ℕ) (p : HamtShape) (left depth : ℕ) (es : List (List ℕ × Data)) (k : List ℕ) (slots : List TrieSlot) (s : TrieSlot)
    → IsInOrder es → slots_at h p left depth es ≡ Some slots
    → slot_of p.bucket (node_of h p left (depth + 1)) (without k (part (at_depth h p depth) es (at_depth h p depth k))) ≡ Some s
    → (slots_at h p left depth (without k es) ≡ Some (set slots (at_depth h p depth k) s))
    × (slot_of p.bucket (node_of h p (suc left) depth) (without k es) ≡ Some (folded p.bucket (set slots (at_depth h p depth k) s)))
remove-up h p left depth es k slots s order is new =
    let here : slots_at h p left depth (without k es) ≡ Some (set slots (at_depth h p depth k) s) =
    remove-step h p left depth es k slots order is ∙ ap (option_map (λ t. set slots (at_depth h p depth k) t)) new in
    (here, fold-step h p left depth (without k es) (set slots (at_depth h p depth k) s) (in_order-without k es order) here)

-- what stands in the key's slot
link-many : (below : List (List ℕ × Data) → Option Data) (most : ℕ) (es : List (List ℕ × Data)) (id : List ℕ) → slot_of most below es ≡ Some (child id)
    → (most < length es) × ((node : Data) × (below es ≡ Some node) × (id ≡ id_of (spell node)))
link-many below most es id is =
    let lt = child-many most below es (child id) is refl in
    let node = some_map link_to (below es) (child id) (sym (slot-many most below es lt) ∙ is) in
    (lt, (node.0, node.1, cc))

pub slot-child : (h : List ℕ → List ℕ) (p : HamtShape) (left depth : ℕ) (es : List (List ℕ × Data)) (k : List ℕ) (slots : List TrieSlot) (id : List ℕ)
    → slots_at h p left depth es ≡ Some slots → get_or slots (at_depth h p depth k) empty ≡ child id
    → (p.bucket < length (part (at_depth h p depth) es (at_depth h p depth k)))
    × ((node : Data) × (node_of h p left (depth + 1) (part (at_depth h p depth) es (at_depth h p depth k)) ≡ Some node) × (id ≡ id_of (spell node)))
slot-child h p left depth es k slots id is stands =
    link-many (node_of h p left (depth + 1)) p.bucket (part (at_depth h p depth) es (at_depth h p depth k)) id
    (slot_at p (at_depth h p depth) (node_of h p left (depth + 1)) es (at_depth h p depth k) slots empty (index_below p (h k) depth) is ∙ ap Some stands)

pub slot-held : (h : List ℕ → List ℕ) (p : HamtShape) (left depth : ℕ) (es : List (List ℕ × Data)) (k : List ℕ) (slots : List TrieSlot)
    → slots_at h p left depth es ≡ Some slots → is_child (get_or slots (at_depth h p depth k) empty) ≡ false
    → part (at_depth h p depth) es (at_depth h p depth k) ≡ bucket_entries (get_or slots (at_depth h p depth k) empty)
slot-held h p left depth es k slots is stands =
    sym (other-held p.bucket (node_of h p left (depth + 1)) (part (at_depth h p depth) es (at_depth h p depth k)) (get_or slots (at_depth h p depth k) empty)
    (slot_at p (at_depth h p depth) (node_of h p left (depth + 1)) es (at_depth h p depth k) slots empty (index_below p (h k) depth) is) stands)

pub many-children : (h : List ℕ → List ℕ) (p : HamtShape) (left depth : ℕ) (es : List (List ℕ × Data)) (slots : List TrieSlot)
    → slots_at h p left depth es ≡ Some slots → list_any is_child slots ≡ true → p.bucket < length es
many-children h p left depth es slots is some = children_many p (at_depth h p depth) (node_of h p left (depth + 1)) es slots is some

held_few : (most : ℕ) (below : List (List ℕ × Data) → Option Data) (es : List (List ℕ × Data)) (s : TrieSlot) → slot_of most below es ≡ Some s → is_child s ≡ false → length es ≤ most
held_few most below es s is other =
    ⊎_elim (λ lt. let node = some_map link_to (below es) s (sym (slot-many most below es lt) ∙ is) in
    let linked : is_child s ≡ true = ap is_child node.2 in absurd cc) (λ le. le) (cases_lt most (length es))

pub few-held : (h : List ℕ → List ℕ) (p : HamtShape) (left depth : ℕ) (es : List (List ℕ × Data)) (k : List ℕ) (slots : List TrieSlot)
    → slots_at h p left depth es ≡ Some slots → is_child (get_or slots (at_depth h p depth k) empty) ≡ false
    → length (part (at_depth h p depth) es (at_depth h p depth k)) ≤ p.bucket
few-held h p left depth es k slots is stands =
    held_few p.bucket (node_of h p left (depth + 1)) (part (at_depth h p depth) es (at_depth h p depth k)) (get_or slots (at_depth h p depth k) empty)
    (slot_at p (at_depth h p depth) (node_of h p left (depth + 1)) es (at_depth h p depth k) slots empty (index_below p (h k) depth) is) stands
