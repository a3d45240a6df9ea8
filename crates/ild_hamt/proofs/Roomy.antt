-- Where a key isn't exhausted, the slot at the end of its way can be written.
use Rattle.std.proofs.Common.{◌≡◌, ⊎_elim, ℕ, zero, suc, ◌+◌, ◌-◌, ◌≤◌, Bool, true, false, not, List, length, Option, Some, None, is_some, refl, sym, ap, ◌∙◌, arith}
use Rattle.std.specs.FinMap.{put}
use Rattle.std.proofs.lemmas.Bool.{cases_lt}
use Rattle.ild_data.specs.Data.{Data}
use Rattle.ild_data.specs.ByteOrder.{bytewise}
use Rattle.ild_data.specs.Trie.{TrieSlot, empty, part, slot_of, node_of, at_depth}
use Rattle.ild_data.specs.declared.hamt_shape.HamtShape.{HamtShape}
use Rattle.ild_data.specs.TrieShape.{trie_levels}
use Rattle.ild_hamt_trie.specs.Way.{along}
use Rattle.ild_hamt_trie.proofs.Fold.{slot-few}
use Rattle.ild_hamt_trie.proofs.Index.{index_below}
use Rattle.ild_hamt_trie.proofs.Node.{slots-node, along-put, length-along}
use Rattle.ild_hamt_trie.proofs.Slots.{slot_at}
use Rattle.ild_hamt.specs.Descending.{IsTrailOf, trail_blocks}
use Rattle.ild_hamt.specs.declared.trail.Trail.{Trail}
use Rattle.ild_hamt.proofs.Fulling.{full-is}
use Rattle.ild_hamt.proofs.Holding.{part-there}

some-of : (o : Option Data) → is_some o ≡ true → (node : Data) × (o ≡ Some node)
some-of None is = absurd cc
some-of (Some node) is = (node, refl)

-- a node has a slot at each place of a key's way through it
slot-down : (h : List ℕ → List ℕ) (p : HamtShape) (k : List ℕ) (n left depth : ℕ) (es : List (List ℕ × Data)) → n ≤ left → is_some (node_of h p (suc left) depth es) ≡ true
    → is_some (slot_of p.bucket (node_of h p (left - n) (depth + suc n)) (along h p k (suc n) depth es)) ≡ true
slot-down h p k zero left depth es le some =
    let node = some-of (node_of h p (suc left) depth es) some in
    let slots = slots-node h p left depth es node.0 node.1 in
    let e : left - 0 ≡ left = omega arith in
    rw e (ap is_some (slot_at p (at_depth h p depth) (node_of h p left (depth + 1)) es (at_depth h p depth k) slots.0 empty (index_below p (h k) depth) slots.1))
slot-down h p k (suc n) zero depth es le some = absurd (omega (arith, le))
slot-down h p k (suc n) (suc left) depth es le some =
    let fs : List (List ℕ × Data) = part (at_depth h p depth) es (at_depth h p depth k) in
    let node = some-of (node_of h p (suc (suc left)) depth es) some in
    let slots = slots-node h p (suc left) depth es node.0 node.1 in
    let e : suc left - suc n ≡ left - n = omega arith in
    let f : depth + suc (suc n) ≡ (depth + 1) + suc n = omega arith in
    rw (e, f) (⊎_elim
    (λ many.
    let deeper = part-there h p k (suc left) depth es slots.0 slots.1 many in
    slot-down h p k n left (depth + 1) fs (omega (arith, le)) (ap is_some deeper.1))
    (λ few.
    let le_all = length-along h p k (suc n) (depth + 1) fs in
    ap is_some (slot-few p.bucket (node_of h p (left - n) ((depth + 1) + suc n)) (along h p k (suc n) (depth + 1) fs) empty (omega (arith, le_all, few))))
    (cases_lt p.bucket (length fs)))

not-false : (b : Bool) → not b ≡ false → b ≡ true
not-false true is = refl
not-false false is = absurd cc

pub has-room : (h : List ℕ → List ℕ) (p : HamtShape) (k : List ℕ) (slots : List TrieSlot) (es : List (List ℕ × Data)) (v : Data) (t : Trail) → IsTrailOf h p k slots es t → t.exhausted ≡ false
    → is_some (slot_of p.bucket (node_of h p (trie_levels p - (length (trail_blocks t) + 1)) (length (trail_blocks t) + 1)) (put bytewise k v (along h p k (length (trail_blocks t) + 1) 0 es))) ≡ true
has-room h p k slots es v t trail room =
    let n : ℕ = length (trail_blocks t) in
    let whole : is_some (node_of h p (suc trail.root.left) 0 (put bytewise k v es)) ≡ true =
    ap (λ m. is_some (node_of h p m 0 (put bytewise k v es))) (sym trail.root.all)
    ∙ not-false (is_some (node_of h p (trie_levels p) 0 (put bytewise k v es))) (sym (full-is h p k slots es v t trail) ∙ room) in
    let down = slot-down h p k n trail.root.left 0 (put bytewise k v es) (let lt = trail.short in omega (arith, trail.root.all)) whole in
    let e : suc n ≡ n + 1 = omega arith in
    let f : trail.root.left - n ≡ trie_levels p - (n + 1) = omega (arith, trail.root.all) in
    let g : 0 + suc n ≡ n + 1 = omega arith in
    sym (λ i. is_some (slot_of p.bucket (node_of h p (f i) (g i)) (along-put h p k v (e i) 0 es trail.root.order i))) ∙ down
