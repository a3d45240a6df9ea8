-- A walk of the nodes gives the entries.
use Rattle.std.proofs.Common.{◌≡◌, ℕ, zero, suc, ◌+◌, ◌^◌, Bool, true, false, cond, ◌==◌, nat_le, List, [], ◌∷◌, length, None, refl, ap, ◌∙◌, arith, flat_map}
use Rattle.std.specs.List.{range_with_len, list_any}
use Rattle.std.specs.FinMap.{find}
use Rattle.ild_data.specs.Data.{Data}
use Rattle.ild_data.specs.declared.hamt_shape.HamtShape.{HamtShape}
use Rattle.ild_data.specs.ByteOrder.{bytewise, in_byte_order, IsInOrder}
use Rattle.ild_data.specs.Trie.{part, at_depth}
use Rattle.ild_hamt_trie.specs.Walk.{part_or, in_trie_order}
use Rattle.ild_hamt_trie.proofs.Parts.{same_by_find, in_order-sorted, find-sorted, find-part}
use Rattle.ild_hamt_trie.proofs.Fold.{any-range, or_else, find-append, either}
use Rattle.ild_hamt_trie.proofs.Index.{index_below}

find-pieces : (at : List ℕ → ℕ) (g : List (List ℕ × Data) → List (List ℕ × Data)) (es : List (List ℕ × Data)) (q : List ℕ) (js : List ℕ)
    → ((fs : List (List ℕ × Data)) → find bytewise q (g fs) ≡ find bytewise q fs)
    → find bytewise q (flat_map (λ j. g (part at es j)) js) ≡ cond (list_any (λ j. at q == j) js) (find bytewise q es) None
find-pieces at g es q [] same = refl
find-pieces at g es q (j ∷ js) same =
    find-append q (g (part at es j)) (flat_map (λ m. g (part at es m)) js)
    ∙ (λ i. or_else ((same (part at es j) ∙ find-part at es j q) i) (find-pieces at g es q js same i))
    ∙ either (at q == j) (list_any (λ m. at q == m) js) (find bytewise q es)

either_way : (g : List (List ℕ × Data) → List (List ℕ × Data)) (q : List ℕ) (b : Bool) (fs : List (List ℕ × Data)) → find bytewise q (g fs) ≡ find bytewise q fs
    → find bytewise q (part_or b g fs) ≡ find bytewise q fs
either_way g q true fs same = refl
either_way g q false fs same = same

walk_step : (h : List ℕ → List ℕ) (p : HamtShape) (left depth : ℕ) (es : List (List ℕ × Data))
    → in_trie_order h p (suc left) depth es ≡ flat_map (λ i. part_or (nat_le (length (part (at_depth h p depth) es i)) p.bucket) (in_trie_order h p left (depth + 1)) (part (at_depth h p depth) es i)) (range_with_len 0 (2 ^ p.width))
unfolding in_trie_order
walk_step h p left depth es = refl

pub find-walk : (h : List ℕ → List ℕ) (p : HamtShape) (left depth : ℕ) (es : List (List ℕ × Data)) (q : List ℕ) → find bytewise q (in_trie_order h p left depth es) ≡ find bytewise q es
unfolding in_trie_order
find-walk h p zero depth es q = refl
find-walk h p (suc left) depth es q =
    find-pieces (at_depth h p depth) (λ fs. part_or (nat_le (length fs) p.bucket) (in_trie_order h p left (depth + 1)) fs) es q (range_with_len 0 (2 ^ p.width))
    (λ fs. either_way (in_trie_order h p left (depth + 1)) q (nat_le (length fs) p.bucket) fs (find-walk h p left (depth + 1) fs q))
    ∙ ap (λ b. cond b (find bytewise q es) None) (any-range (at_depth h p depth q) 0 (2 ^ p.width) (omega arith) (omega (arith, index_below p (h q) depth)))

pub sorted-walk : (h : List ℕ → List ℕ) (p : HamtShape) (left depth : ℕ) (es : List (List ℕ × Data)) → IsInOrder es → in_byte_order (in_trie_order h p left depth es) ≡ es
sorted-walk h p left depth es order =
    same_by_find _ _ (in_order-sorted (in_trie_order h p left depth es)) order (λ q. find-sorted q (in_trie_order h p left depth es) ∙ find-walk h p left depth es q)
