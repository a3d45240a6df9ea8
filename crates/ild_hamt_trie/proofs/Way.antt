-- The nodes on a key's way.
use Rattle.std.proofs.Common.{◌≡◌, ℕ, zero, suc, ◌+◌, ◌<◌, ◌≤◌, true, false, cond, ◌==◌, List, [], ◌∷◌, ◌++◌, length, get_or, Option, Some, None, refl, ap, ◌∙◌, subst, arith, All}
use Rattle.std.specs.FinMap.{find, put}
use Rattle.std.proofs.lemmas.Bool.{lt-leb, le-leb, eq-eqb, eqb-true}
use Rattle.ild_data.specs.Data.{Data}
use Rattle.ild_data.specs.Spell.{spell, id_of}
use Rattle.ild_data.specs.declared.hamt_shape.HamtShape.{HamtShape}
use Rattle.ild_data.specs.ByteOrder.{bytewise, without, IsInOrder}
use Rattle.ild_data.specs.Trie.{part, slot_of, TrieSlot, empty, bucket, child, is_child, bucket_entries, node_of, at_depth, slots_at}
use Rattle.ild_data.specs.TrieBlocks.{node_and_beneath, none_or, block_of}
use Rattle.ild_hamt_trie.specs.Way.{along, way}
use Rattle.ild_hamt_trie.proofs.Parts.{find-part, part-put_same, part-without_same, in_order-part}
use Rattle.ild_hamt_trie.proofs.Slots.{slot_at}
use Rattle.ild_hamt_trie.proofs.Index.{index_below}
use Rattle.std.proofs.lemmas.List.Elements.{All-weaker, filter_passes}
use Rattle.ild_hamt_trie.proofs.Node.{slot-child, slot-held, few-held}

pub way_is : (h : List ℕ → List ℕ) (p : HamtShape) (k : List ℕ) (left depth : ℕ) (es : List (List ℕ × Data))
    → way h p k (suc left) depth es ≡ node_and_beneath p.bucket (node_of h p left (depth + 1)) (way h p k left (depth + 1)) (part (at_depth h p depth) es (at_depth h p depth k))
unfolding way
way_is h p k left depth es = refl

-- a child link at the key's index: its block is the next on the way
pub way-child : (h : List ℕ → List ℕ) (p : HamtShape) (k : List ℕ) (left depth : ℕ) (es : List (List ℕ × Data)) (slots : List TrieSlot) (id : List ℕ)
    → slots_at h p left depth es ≡ Some slots → get_or slots (at_depth h p depth k) empty ≡ child id
    → (node : Data) × (node_of h p left (depth + 1) (part (at_depth h p depth) es (at_depth h p depth k)) ≡ Some node) × (id ≡ id_of (spell node))
    × (way h p k (suc left) depth es ≡ spell node ∷ way h p k left (depth + 1) (part (at_depth h p depth) es (at_depth h p depth k)))
way-child h p k left depth es slots id is stands =
    let fs : List (List ℕ × Data) = part (at_depth h p depth) es (at_depth h p depth k) in
    let c = slot-child h p left depth es k slots id is stands in
    let next : List (List ℕ × Data) → List (List ℕ) = λ gs. block_of (node_of h p left (depth + 1) gs) ++ way h p k left (depth + 1) gs in (
      c.1.0,
      c.1.1,
      c.1.2,
      way_is h p k left depth es ∙ ap (λ b. none_or b next fs) (lt-leb (length fs) p.bucket c.0)
          ∙ ap (λ o. block_of o ++ way h p k left (depth + 1) fs) c.1.1,
    )

-- no link: the way ends, and the slot holds the entries that agree with the key so far
pub way-ends : (h : List ℕ → List ℕ) (p : HamtShape) (k : List ℕ) (left depth : ℕ) (es : List (List ℕ × Data)) (slots : List TrieSlot)
    → slots_at h p left depth es ≡ Some slots → is_child (get_or slots (at_depth h p depth k) empty) ≡ false → way h p k (suc left) depth es ≡ []
way-ends h p k left depth es slots is stands =
    let fs : List (List ℕ × Data) = part (at_depth h p depth) es (at_depth h p depth k) in
    let next : List (List ℕ × Data) → List (List ℕ) = λ gs. block_of (node_of h p left (depth + 1) gs) ++ way h p k left (depth + 1) gs in
    way_is h p k left depth es ∙ ap (λ b. none_or b next fs) (le-leb (length fs) p.bucket (few-held h p left depth es k slots is stands))

-- what a look-up of the key finds, it finds in the part
pub find-along : (h : List ℕ → List ℕ) (p : HamtShape) (k : List ℕ) (left depth : ℕ) (es : List (List ℕ × Data)) → find bytewise k (along h p k left depth es) ≡ find bytewise k es
find-along h p k zero depth es = refl
find-along h p k (suc left) depth es =
    find-along h p k left (depth + 1) (part (at_depth h p depth) es (at_depth h p depth k))
    ∙ find-part (at_depth h p depth) es (at_depth h p depth k) k
    ∙ ap (λ b. cond b (find bytewise k es) None) (eq-eqb (at_depth h p depth k) (at_depth h p depth k) refl)

-- one level further along the key
pub along-more : (h : List ℕ → List ℕ) (p : HamtShape) (k : List ℕ) (n depth : ℕ) (es : List (List ℕ × Data))
    → along h p k (n + 1) depth es ≡ part (at_depth h p (depth + n)) (along h p k n depth es) (at_depth h p (depth + n) k)
along-more h p k zero depth es = let e : depth + 0 ≡ depth = omega arith in rw e refl
along-more h p k (suc n) depth es =
    let e : suc n + 1 ≡ suc (n + 1) = omega arith in
    let f : depth + suc n ≡ (depth + 1) + n = omega arith in
    rw (e, f) (along-more h p k n (depth + 1) (part (at_depth h p depth) es (at_depth h p depth k)))

-- the way in the changed trie
pub way-put : (h : List ℕ → List ℕ) (p : HamtShape) (k : List ℕ) (v : Data) (left depth : ℕ) (es : List (List ℕ × Data)) → IsInOrder es
    → way h p k (suc left) depth (put bytewise k v es) ≡ node_and_beneath p.bucket (node_of h p left (depth + 1)) (way h p k left (depth + 1)) (put bytewise k v (part (at_depth h p depth) es (at_depth h p depth k)))
way-put h p k v left depth es order =
    way_is h p k left depth (put bytewise k v es)
    ∙ ap (node_and_beneath p.bucket (node_of h p left (depth + 1)) (way h p k left (depth + 1))) (part-put_same (at_depth h p depth) k v es (at_depth h p depth k) order refl)

pub way-without : (h : List ℕ → List ℕ) (p : HamtShape) (k : List ℕ) (left depth : ℕ) (es : List (List ℕ × Data)) → IsInOrder es
    → way h p k (suc left) depth (without k es) ≡ node_and_beneath p.bucket (node_of h p left (depth + 1)) (way h p k left (depth + 1)) (without k (part (at_depth h p depth) es (at_depth h p depth k)))
way-without h p k left depth es order =
    way_is h p k left depth (without k es)
    ∙ ap (node_and_beneath p.bucket (node_of h p left (depth + 1)) (way h p k left (depth + 1))) (part-without_same (at_depth h p depth) k es (at_depth h p depth k) order)

-- what a bucket is: the part, in order, of one entry to as many as a bucket takes, each of the index
all_at : (at : List ℕ → ℕ) (i : ℕ) (es : List (List ℕ × Data)) → All (λ e. (at e.0 == i) ≡ true) es → All (λ e. at e.0 ≡ i) es
all_at at i es h = All-weaker (λ e. (at e.0 == i) ≡ true) (λ e. at e.0 ≡ i) (λ e. eqb-true (at e.0) i) es h

bucket-full : (most : ℕ) (below : List (List ℕ × Data) → Option Data) (es fs : List (List ℕ × Data)) → slot_of most below es ≡ Some (bucket fs) → 0 < length es
bucket-full most below [] fs is = absurd cc
bucket-full most below (e ∷ es) fs is = omega arith

pub slot-bucket : (h : List ℕ → List ℕ) (p : HamtShape) (left depth : ℕ) (es : List (List ℕ × Data)) (k : List ℕ) (slots : List TrieSlot) (fs : List (List ℕ × Data))
    → IsInOrder es → slots_at h p left depth es ≡ Some slots → get_or slots (at_depth h p depth k) empty ≡ bucket fs
    → (part (at_depth h p depth) es (at_depth h p depth k) ≡ fs) × IsInOrder fs × (0 < length fs) × (length fs ≤ p.bucket) × All (λ e. at_depth h p depth e.0 ≡ at_depth h p depth k) fs
slot-bucket h p left depth es k slots fs order is stands =
    let at : List ℕ → ℕ = at_depth h p depth in
    let whole : List (List ℕ × Data) = part at es (at k) in
    let same : whole ≡ fs = slot-held h p left depth es k slots is (ap is_child stands) ∙ ap bucket_entries stands in
    let few = few-held h p left depth es k slots is (ap is_child stands) in
    let some : 0 < length whole = bucket-full p.bucket (node_of h p left (depth + 1)) whole fs (slot_at p at (node_of h p left (depth + 1)) es (at k) slots empty (index_below p (h k) depth) is ∙ ap Some stands) in (
      same,
      subst IsInOrder same (in_order-part at es (at k) order),
      subst (λ (gs : List (List ℕ × Data)). 0 < length gs) same some,
      subst (λ (gs : List (List ℕ × Data)). length gs ≤ p.bucket) same few,
      subst (λ (gs : List (List ℕ × Data)). All (λ e. at e.0 ≡ at k) gs) same (all_at at (at k) whole (filter_passes (λ e. at e.0 == at k) es)),
    )
