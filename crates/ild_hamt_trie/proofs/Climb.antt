-- From the end of a key's way up.
use Rattle.std.proofs.Common.{◌≡◌, ℕ, zero, suc, ◌+◌, ◌-◌, ◌<◌, ◌≤◌, Bool, true, false, cond, List, [], ◌∷◌, length, set, get_or, Some, is_some, sym, ap, ◌∙◌, subst, arith, option_map}
use Rattle.std.specs.FinMap.{find, put}
use Rattle.std.specs.FinMap.Entries.{length-put}
use Rattle.ild_data.specs.Data.{Data}
use Rattle.ild_data.specs.declared.hamt_shape.HamtShape.{HamtShape}
use Rattle.ild_data.specs.ByteOrder.{bytewise, without, IsInOrder}
use Rattle.ild_data.specs.Trie.{part, TrieSlot, link_to, node_data, slot_of, node_of, at_depth, slots_at}
use Rattle.ild_hamt_trie.specs.Collapse.{folded}
use Rattle.ild_hamt_trie.specs.Way.{along, IsBeneath, IsOnWay}
use Rattle.ild_hamt_trie.proofs.Parts.{total, in_order-part}
use Rattle.ild_hamt_trie.proofs.Fold.{slot-many}
use Rattle.ild_hamt_trie.proofs.Node.{set-step, node-slots, remove-up}
use Rattle.ild_hamt_trie.proofs.Way.{along-more}

pub length-put_le : (k : List ℕ) (v : Data) (es : List (List ℕ × Data)) → IsInOrder es → length es ≤ length (put bytewise k v es)
length-put_le k v es order =
    let e = length-put bytewise total k v es order in
    by_case (is_some (find bytewise k es)) (length es) (length (put bytewise k v es)) e
  where
    by_case : (b : Bool) (n m : ℕ) → m ≡ cond b n (n + 1) → n ≤ m
    by_case true n m e = omega arith
    by_case false n m e = omega arith

-- one level up: the node is a link still
pub set-link : (h : List ℕ → List ℕ) (p : HamtShape) (left depth : ℕ) (es : List (List ℕ × Data)) (k : List ℕ) (v : Data) (slots : List TrieSlot) (s : TrieSlot)
    → IsInOrder es → slots_at h p left depth es ≡ Some slots → p.bucket < length es
    → slot_of p.bucket (node_of h p left (depth + 1)) (put bytewise k v (part (at_depth h p depth) es (at_depth h p depth k))) ≡ Some s
    → slot_of p.bucket (node_of h p (suc left) depth) (put bytewise k v es) ≡ Some (link_to (node_data (set slots (at_depth h p depth k) s)))
set-link h p left depth es k v slots s order is many new =
    slot-many p.bucket (node_of h p (suc left) depth) (put bytewise k v es) (let le = length-put_le k v es order in omega arith)
    ∙ ap (option_map link_to) (node-slots h p left depth (put bytewise k v es) ∙ ap (option_map node_data) (set-step h p left depth es k v slots order is ∙ ap (option_map (λ t. set slots (at_depth h p depth k) t)) new))

pub set-top : (h : List ℕ → List ℕ) (p : HamtShape) (left depth : ℕ) (es : List (List ℕ × Data)) (k : List ℕ) (v : Data) (slots : List TrieSlot) (s : TrieSlot)
    → IsInOrder es → slots_at h p left depth es ≡ Some slots
    → slot_of p.bucket (node_of h p left (depth + 1)) (put bytewise k v (part (at_depth h p depth) es (at_depth h p depth k))) ≡ Some s
    → node_of h p (suc left) depth (put bytewise k v es) ≡ Some (node_data (set slots (at_depth h p depth k) s))
set-top h p left depth es k v slots s order is new =
    node-slots h p left depth (put bytewise k v es) ∙ ap (option_map node_data) (set-step h p left depth es k v slots order is ∙ ap (option_map (λ t. set slots (at_depth h p depth k) t)) new)

pub in_order-along : (h : List ℕ → List ℕ) (p : HamtShape) (k : List ℕ) (n depth : ℕ) (es : List (List ℕ × Data)) → IsInOrder es → IsInOrder (along h p k n depth es)
in_order-along h p k zero depth es order = order
in_order-along h p k (suc n) depth es order = in_order-along h p k n (depth + 1) (part (at_depth h p depth) es (at_depth h p depth k)) (in_order-part (at_depth h p depth) es (at_depth h p depth k) order)

-- the node at a place of the way beneath a node
pub beneath-at : (h : List ℕ → List ℕ) (p : HamtShape) (k : List ℕ) (left depth : ℕ) (es : List (List ℕ × Data)) (way : List (List TrieSlot)) (j : ℕ) (z : List TrieSlot)
    → IsBeneath h p k left depth es way → j < length way
    → (less : ℕ) × (left ≡ j + suc less) × (slots_at h p less (depth + j) (along h p k j depth es) ≡ Some (get_or way j z)) × (p.bucket < length (along h p k j depth es))
beneath-at h p k left depth es [] j z on lt = absurd (omega arith)
beneath-at h p k zero depth es (slots ∷ more) j z on lt = absurd on
beneath-at h p k (suc left) depth es (slots ∷ more) zero z on lt =
    let e : depth ≡ depth + 0 = omega arith in
    (left, omega arith, subst (λ (d : ℕ). slots_at h p left d es ≡ Some slots) e on.0, on.1)
beneath-at h p k (suc left) depth es (slots ∷ more) (suc j) z on lt =
    let rest = beneath-at h p k left (depth + 1) (part (at_depth h p depth) es (at_depth h p depth k)) more j z on.2 (omega arith) in
    let e : (depth + 1) + j ≡ depth + suc j = omega arith in
    (rest.0, omega (arith, rest.1), subst (λ (d : ℕ). slots_at h p rest.0 d (along h p k j (depth + 1) (part (at_depth h p depth) es (at_depth h p depth k))) ≡ Some (get_or more j z)) e rest.2, rest.3)

-- and of the way from a root down
pub on_way-at : (h : List ℕ → List ℕ) (p : HamtShape) (k : List ℕ) (left depth : ℕ) (es : List (List ℕ × Data)) (way : List (List TrieSlot)) (j : ℕ) (z : List TrieSlot)
    → IsOnWay h p k left depth es way → j < length way
    → (less : ℕ) × (left ≡ j + suc less) × (slots_at h p less (depth + j) (along h p k j depth es) ≡ Some (get_or way j z)) × (0 < j → p.bucket < length (along h p k j depth es))
on_way-at h p k left depth es [] j z on lt = absurd (omega arith)
on_way-at h p k zero depth es (slots ∷ more) j z on lt = absurd on
on_way-at h p k (suc left) depth es (slots ∷ more) zero z on lt =
    let e : depth ≡ depth + 0 = omega arith in
    (left, omega arith, subst (λ (d : ℕ). slots_at h p left d es ≡ Some slots) e on.0, λ below. absurd (omega arith))
on_way-at h p k (suc left) depth es (slots ∷ more) (suc j) z on lt =
    let rest = beneath-at h p k left (depth + 1) (part (at_depth h p depth) es (at_depth h p depth k)) more j z on.1 (omega arith) in
    let e : (depth + 1) + j ≡ depth + suc j = omega arith in
    (rest.0, omega (arith, rest.1), subst (λ (d : ℕ). slots_at h p rest.0 d (along h p k j (depth + 1) (part (at_depth h p depth) es (at_depth h p depth k))) ≡ Some (get_or more j z)) e rest.2, λ below. rest.3)

-- a loop's step, from level j + 1 to level j, which is not the root's
pub climb-step : (h : List ℕ → List ℕ) (p : HamtShape) (k : List ℕ) (v : Data) (left : ℕ) (es : List (List ℕ × Data)) (way : List (List TrieSlot)) (j : ℕ) (z : List TrieSlot) (s : TrieSlot)
    → IsInOrder es → IsOnWay h p k left 0 es way → 0 < j → j < length way
    → slot_of p.bucket (node_of h p (left - (j + 1)) (j + 1)) (put bytewise k v (along h p k (j + 1) 0 es)) ≡ Some s
    → slot_of p.bucket (node_of h p (left - j) j) (put bytewise k v (along h p k j 0 es)) ≡ Some (link_to (node_data (set (get_or way j z) (at_depth h p j k) s)))
climb-step h p k v left es way j z s order on below lt new =
    let here = on_way-at h p k left 0 es way j z on lt in
    let less : left - (j + 1) ≡ here.0 = omega (arith, here.1) in
    let more : left - j ≡ suc here.0 = omega (arith, here.1) in
    let zero_j : 0 + j ≡ j = omega arith in
    let slots : slots_at h p here.0 j (along h p k j 0 es) ≡ Some (get_or way j z) = subst (λ (d : ℕ). slots_at h p here.0 d (along h p k j 0 es) ≡ Some (get_or way j z)) zero_j here.2 in
    let along_j : along h p k (j + 1) 0 es ≡ part (at_depth h p j) (along h p k j 0 es) (at_depth h p j k) =
    subst (λ (d : ℕ). along h p k (j + 1) 0 es ≡ part (at_depth h p d) (along h p k j 0 es) (at_depth h p d k)) zero_j (along-more h p k j 0 es) in
    subst (λ (n : ℕ). slot_of p.bucket (node_of h p n j) (put bytewise k v (along h p k j 0 es)) ≡ Some (link_to (node_data (set (get_or way j z) (at_depth h p j k) s)))) (sym more)
    (set-link h p here.0 j (along h p k j 0 es) k v (get_or way j z) s (in_order-along h p k j 0 es order) slots (here.3 below)
    (subst (λ (fs : List (List ℕ × Data)). slot_of p.bucket (node_of h p here.0 (j + 1)) (put bytewise k v fs) ≡ Some s) along_j
    (subst (λ (n : ℕ). slot_of p.bucket (node_of h p n (j + 1)) (put bytewise k v (along h p k (j + 1) 0 es)) ≡ Some s) less new)))

-- the same for a removal, where a node may collapse on the way
pub remove-climb-step : (h : List ℕ → List ℕ) (p : HamtShape) (k : List ℕ) (left : ℕ) (es : List (List ℕ × Data)) (way : List (List TrieSlot)) (j : ℕ) (z : List TrieSlot) (s : TrieSlot)
    → IsInOrder es → IsOnWay h p k left 0 es way → j < length way
    → slot_of p.bucket (node_of h p (left - (j + 1)) (j + 1)) (without k (along h p k (j + 1) 0 es)) ≡ Some s
    → (slots_at h p (left - (j + 1)) j (without k (along h p k j 0 es)) ≡ Some (set (get_or way j z) (at_depth h p j k) s))
    × (slot_of p.bucket (node_of h p (left - j) j) (without k (along h p k j 0 es)) ≡ Some (folded p.bucket (set (get_or way j z) (at_depth h p j k) s)))
remove-climb-step h p k left es way j z s order on lt new =
    let here = on_way-at h p k left 0 es way j z on lt in
    let less : left - (j + 1) ≡ here.0 = omega (arith, here.1) in
    let more : left - j ≡ suc here.0 = omega (arith, here.1) in
    let zero_j : 0 + j ≡ j = omega arith in
    let slots : slots_at h p here.0 j (along h p k j 0 es) ≡ Some (get_or way j z) = subst (λ (d : ℕ). slots_at h p here.0 d (along h p k j 0 es) ≡ Some (get_or way j z)) zero_j here.2 in
    let along_j : along h p k (j + 1) 0 es ≡ part (at_depth h p j) (along h p k j 0 es) (at_depth h p j k) =
    subst (λ (d : ℕ). along h p k (j + 1) 0 es ≡ part (at_depth h p d) (along h p k j 0 es) (at_depth h p d k)) zero_j (along-more h p k j 0 es) in
    let up = remove-up h p here.0 j (along h p k j 0 es) k (get_or way j z) s (in_order-along h p k j 0 es order) slots
    (subst (λ (fs : List (List ℕ × Data)). slot_of p.bucket (node_of h p here.0 (j + 1)) (without k fs) ≡ Some s) along_j
    (subst (λ (n : ℕ). slot_of p.bucket (node_of h p n (j + 1)) (without k (along h p k (j + 1) 0 es)) ≡ Some s) less new)) in (
      subst (λ (n : ℕ). slots_at h p n j (without k (along h p k j 0 es)) ≡ Some (set (get_or way j z) (at_depth h p j k) s)) (sym less) up.0,
      subst (λ (n : ℕ). slot_of p.bucket (node_of h p n j) (without k (along h p k j 0 es)) ≡ Some (folded p.bucket (set (get_or way j z) (at_depth h p j k) s))) (sym more) up.1,
    )
