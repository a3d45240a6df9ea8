-- What holds of each block beneath a node, along a key and after a change.
use Rattle.std.proofs.Common.{◌≡◌, ◌≢◌, ℕ, suc, ◌+◌, ◌<◌, ◌^◌, Bool, true, ◌==◌, List, [], ◌∷◌, ◌++◌, length, refl, sym, ap, subst, arith, ⊎_elim, flat_map, All}
use Rattle.std.specs.List.{range_with_len, list_any}
use Rattle.std.proofs.lemmas.List.Elements.{All-nil, All-cons, All-head, All-tail, All-append}
use Rattle.std.proofs.lemmas.Bool.{lt-leb, eqb-true, cases_eq, or_cases}
use Rattle.std.specs.FinMap.{put}
use Rattle.ild_data.specs.Data.{Data}
use Rattle.ild_data.specs.declared.hamt_shape.HamtShape.{HamtShape}
use Rattle.ild_data.specs.ByteOrder.{bytewise, without, IsInOrder}
use Rattle.ild_data.specs.Trie.{part, node_of}
use Rattle.ild_data.specs.TrieBlocks.{nodes_beneath, node_and_beneath, block_of, none_or}
use Rattle.ild_hamt_trie.proofs.Parts.{part-put_same, part-put_other, part-without_same, part-without_other}
use Rattle.ild_hamt_trie.proofs.Index.{index_below}
use Rattle.ild_hamt_trie.proofs.Fold.{any-range}
use Rattle.ild_data.specs.Trie.{at_depth}

all_split : {X : Type 0} (P : X → Type 0) (xs ys : List X) → All P (xs ++ ys) → All P xs × All P ys
all_split P [] ys h = (All-nil P, h)
all_split P (x ∷ xs) ys h = let rest = all_split P xs ys (All-tail P x (xs ++ ys) h) in (All-cons P x xs (All-head P x (xs ++ ys) h) rest.0, rest.1)

-- of each piece, where it holds of all
all-piece : {X : Type 0} (P : X → Type 0) (f : ℕ → List X) (js : List ℕ) (i : ℕ) → list_any (λ j. i == j) js ≡ true → All P (flat_map f js) → All P (f i)
all-piece P f [] i member h = absurd cc
all-piece P f (j ∷ js) i member h =
    let parts = all_split P (f j) (flat_map f js) h in
    ⊎_elim (λ same. subst (λ (m : ℕ). All P (f m)) (sym (eqb-true i j same)) parts.0) (λ later. all-piece P f js i later parts.1) (or_cases (i == j) (list_any (λ m. i == m) js) member)

-- where one piece alone changes
all-changed : {X : Type 0} (P : X → Type 0) (f g : ℕ → List X) (js : List ℕ) (i : ℕ) → ((j : ℕ) → j ≢ i → g j ≡ f j) → All P (g i) → All P (flat_map f js) → All P (flat_map g js)
all-changed P f g [] i same here h = h
all-changed {X = X} P f g (j ∷ js) i same here h =
    let parts = all_split P (f j) (flat_map f js) h in
    All-append P (g j) (flat_map g js)
    (⊎_elim (λ e. subst (λ (m : ℕ). All P (g m)) (sym e) here) (λ apart. subst (λ (xs : List X). All P xs) (sym (same j apart)) parts.0) (cases_eq j i))
    (all-changed P f g js i same here parts.1)

-- the blocks at an index: the child's, and those beneath it
abbrev pub blocks_at : (List ℕ → List ℕ) → HamtShape → ℕ → ℕ → List (List ℕ × Data) → ℕ → List (List ℕ)
blocks_at h p left depth es i = node_and_beneath p.bucket (node_of h p left (depth + 1)) (nodes_beneath h p left (depth + 1)) (part (at_depth h p depth) es i)

beneath_is : (h : List ℕ → List ℕ) (p : HamtShape) (left depth : ℕ) (es : List (List ℕ × Data)) → nodes_beneath h p (suc left) depth es ≡ flat_map (blocks_at h p left depth es) (range_with_len 0 (2 ^ p.width))
unfolding nodes_beneath
beneath_is h p left depth es = refl

-- what holds of each block beneath holds of the key's child and of each block beneath that
pub beneath-child : (P : List ℕ → Type 0) (h : List ℕ → List ℕ) (p : HamtShape) (left depth : ℕ) (es : List (List ℕ × Data)) (k : List ℕ)
    → All P (nodes_beneath h p (suc left) depth es) → p.bucket < length (part (at_depth h p depth) es (at_depth h p depth k))
    → All P (block_of (node_of h p left (depth + 1) (part (at_depth h p depth) es (at_depth h p depth k)))
    ++ nodes_beneath h p left (depth + 1) (part (at_depth h p depth) es (at_depth h p depth k)))
beneath-child P h p left depth es k all many =
    let fs : List (List ℕ × Data) = part (at_depth h p depth) es (at_depth h p depth k) in
    let here = all-piece P (blocks_at h p left depth es) (range_with_len 0 (2 ^ p.width)) (at_depth h p depth k) (any-range (at_depth h p depth k) 0 (2 ^ p.width) (omega arith) (omega (arith, index_below p (h k) depth)))
    (subst (λ (bs : List (List ℕ)). All P bs) (beneath_is h p left depth es) all) in
    subst (λ (b : Bool). All P (none_or b (λ gs. block_of (node_of h p left (depth + 1) gs) ++ nodes_beneath h p left (depth + 1) gs) fs)) (lt-leb (length fs) p.bucket many) here

-- after a set and a removal: of the blocks at other indices it holds as before
pub beneath-put : (P : List ℕ → Type 0) (h : List ℕ → List ℕ) (p : HamtShape) (left depth : ℕ) (es : List (List ℕ × Data)) (k : List ℕ) (v : Data) → IsInOrder es
    → All P (nodes_beneath h p (suc left) depth es)
    → All P (node_and_beneath p.bucket (node_of h p left (depth + 1)) (nodes_beneath h p left (depth + 1)) (put bytewise k v (part (at_depth h p depth) es (at_depth h p depth k))))
    → All P (nodes_beneath h p (suc left) depth (put bytewise k v es))
beneath-put P h p left depth es k v order all here =
    let at : List ℕ → ℕ = at_depth h p depth in
    let blocks : List (List ℕ × Data) → List (List ℕ) = node_and_beneath p.bucket (node_of h p left (depth + 1)) (nodes_beneath h p left (depth + 1)) in
    subst (λ (bs : List (List ℕ)). All P bs) (sym (beneath_is h p left depth (put bytewise k v es)))
    (all-changed P (blocks_at h p left depth es) (blocks_at h p left depth (put bytewise k v es)) (range_with_len 0 (2 ^ p.width)) (at_depth h p depth k)
    (λ j apart. ap blocks (part-put_other at k v es j order (λ e. apart (sym e))))
    (subst (λ (fs : List (List ℕ × Data)). All P (blocks fs)) (sym (part-put_same at k v es (at_depth h p depth k) order refl)) here)
    (subst (λ (bs : List (List ℕ)). All P bs) (beneath_is h p left depth es) all))

pub beneath-without : (P : List ℕ → Type 0) (h : List ℕ → List ℕ) (p : HamtShape) (left depth : ℕ) (es : List (List ℕ × Data)) (k : List ℕ) → IsInOrder es
    → All P (nodes_beneath h p (suc left) depth es)
    → All P (node_and_beneath p.bucket (node_of h p left (depth + 1)) (nodes_beneath h p left (depth + 1)) (without k (part (at_depth h p depth) es (at_depth h p depth k))))
    → All P (nodes_beneath h p (suc left) depth (without k es))
beneath-without P h p left depth es k order all here =
    let at : List ℕ → ℕ = at_depth h p depth in
    let blocks : List (List ℕ × Data) → List (List ℕ) = node_and_beneath p.bucket (node_of h p left (depth + 1)) (nodes_beneath h p left (depth + 1)) in
    subst (λ (bs : List (List ℕ)). All P bs) (sym (beneath_is h p left depth (without k es)))
    (all-changed P (blocks_at h p left depth es) (blocks_at h p left depth (without k es)) (range_with_len 0 (2 ^ p.width)) (at_depth h p depth k)
    (λ j apart. ap blocks (part-without_other at k es j order (λ e. apart (sym e))))
    (subst (λ (fs : List (List ℕ × Data)). All P (blocks fs)) (sym (part-without_same at k es (at_depth h p depth k) order)) here)
    (subst (λ (bs : List (List ℕ)). All P bs) (beneath_is h p left depth es) all))
