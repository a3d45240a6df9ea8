-- Entries in the order of their trie: no key stands twice in it.
use Rattle.std.proofs.Common.{◌≡◌, ℕ, zero, suc, ◌+◌, ◌≤◌, ◌^◌, ◌==◌, nat_le, Bool, true, false, cond, not, ◌&&◌, List, [], ◌∷◌, ◌++◌, length, length-append, refl, sym, ap, ◌∙◌, subst, arith, flat_map}
use Rattle.std.specs.Prelude.{is_some}
use Rattle.std.specs.List.{filter, range_with_len}
use Rattle.std.specs.FinMap.{find}
use Rattle.std.specs.FinMap.Entries.{length-put}
use Rattle.std.proofs.lemmas.Bool.{eqb-true, le-leb, leb-true, lt-leb}
use Rattle.ild_data.specs.ByteOrder.{bytewise, in_byte_order, no_key_twice, IsInOrder}
use Rattle.ild_data.specs.Data.{Data}
use Rattle.ild_data.specs.Trie.{part, at_depth}
use Rattle.ild_data.specs.declared.hamt_shape.HamtShape.{HamtShape}
use Rattle.ild_hamt_trie.specs.Walk.{part_or, in_trie_order}
use Rattle.ild_hamt_trie.proofs.Parts.{total, find-sorted, in_order-sorted}
use Rattle.ild_hamt_trie.proofs.Walk.{sorted-walk}

-- ---- no key stands twice where sorting drops nothing

sorted_short : (es : List (List ℕ × Data)) → length (in_byte_order es) ≤ length es
sorted_short [] = omega arith
sorted_short (e ∷ es) = by (is_some (find bytewise e.0 (in_byte_order es))) (length-put bytewise total e.0 e.1 (in_byte_order es) (in_order-sorted es)) (sorted_short es) where
  by : (b : Bool) → length (in_byte_order (e ∷ es)) ≡ cond b (length (in_byte_order es)) (length (in_byte_order es) + 1) → length (in_byte_order es) ≤ length es → length (in_byte_order (e ∷ es)) ≤ suc (length es)
  by true long rest = omega (arith, long, rest)
  by false long rest = omega (arith, long, rest)

pub long_sorted_once : (es : List (List ℕ × Data)) → length es ≤ length (in_byte_order es) → no_key_twice es ≡ true
long_sorted_once [] le = refl
long_sorted_once (e ∷ es) le = by (is_some (find bytewise e.0 (in_byte_order es))) refl (length-put bytewise total e.0 e.1 (in_byte_order es) (in_order-sorted es)) (sorted_short es) (long_sorted_once es) where
  by : (b : Bool) → is_some (find bytewise e.0 (in_byte_order es)) ≡ b → length (in_byte_order (e ∷ es)) ≡ cond b (length (in_byte_order es)) (length (in_byte_order es) + 1) → length (in_byte_order es) ≤ length es
      → (length es ≤ length (in_byte_order es) → no_key_twice es ≡ true) → no_key_twice (e ∷ es) ≡ true
  by true is long rest once = absurd (omega (arith, le, long, rest))
  by false is long rest once =
      let few : length es ≤ length (in_byte_order es) = omega (arith, le, long) in
      let none : is_some (find bytewise e.0 es) ≡ false = ap is_some (sym (find-sorted e.0 es)) ∙ is in
      ap (λ b. not b && no_key_twice es) none ∙ once few

-- ---- the order of a trie drops nothing, and has nothing twice

-- the entries at an index, or at later ones
abbrev from : (List ℕ → ℕ) → ℕ → List (List ℕ × Data) → List (List ℕ × Data)
from at a es = filter (λ e. nat_le a (at e.0)) es

le_self : (a : ℕ) → nat_le a a ≡ true
le_self a = le-leb a a (omega arith)

not_less_self : (a : ℕ) → nat_le (suc a) a ≡ false
not_less_self a = lt-leb (suc a) a (omega arith)

le_later : (a x : ℕ) → nat_le (suc a) x ≡ true → nat_le a x ≡ true
le_later a x e = let le = leb-true (suc a) x e in le-leb a x (omega (arith, le))

part_and_later : (at : List ℕ → ℕ) (a : ℕ) (es : List (List ℕ × Data)) → length (part at es a) + length (from at (suc a) es) ≤ length (from at a es)
part_and_later at a [] = omega arith
part_and_later at a (e ∷ es) = by (at e.0 == a) (nat_le (suc a) (at e.0)) (nat_le a (at e.0)) refl refl refl (part_and_later at a es) where
  by : (b c d : Bool) → (at e.0 == a) ≡ b → nat_le (suc a) (at e.0) ≡ c → nat_le a (at e.0) ≡ d → length (part at es a) + length (from at (suc a) es) ≤ length (from at a es)
      → length (cond b (e ∷ part at es a) (part at es a)) + length (cond c (e ∷ from at (suc a) es) (from at (suc a) es)) ≤ length (cond d (e ∷ from at a es) (from at a es))
  by true true d is later le rest =
      let same : at e.0 ≡ a = eqb-true (at e.0) a is in
      let x : false ≡ true = sym (not_less_self a) ∙ ap (nat_le (suc a)) (sym same) ∙ later in absurd cc
  by true false true is later le rest = omega (arith, rest)
  by true false false is later le rest =
      let same : at e.0 ≡ a = eqb-true (at e.0) a is in
      let x : true ≡ false = sym (le_self a) ∙ ap (nat_le a) (sym same) ∙ le in absurd cc
  by false true true is later le rest = omega (arith, rest)
  by false true false is later le rest = let x : true ≡ false = sym (le_later a (at e.0) later) ∙ le in absurd cc
  by false false true is later le rest = omega (arith, rest)
  by false false false is later le rest = rest

filter_short : {X : Type 0} (f : X → Bool) (xs : List X) → length (filter f xs) ≤ length xs
filter_short f [] = omega arith
filter_short f (x ∷ xs) = by (f x) (filter_short f xs) where
  by : (b : Bool) → length (filter f xs) ≤ length xs → length (cond b (x ∷ filter f xs) (filter f xs)) ≤ suc (length xs)
  by true le = omega (arith, le)
  by false le = omega (arith, le)

module _ (at : List ℕ → ℕ) (g : List (List ℕ × Data) → List (List ℕ × Data)) (short : (fs : List (List ℕ × Data)) → length (g fs) ≤ length fs) (es : List (List ℕ × Data)) where
  pieces_short : (n a : ℕ) → length (flat_map (λ j. g (part at es j)) (range_with_len a n)) ≤ length (from at a es)
  pieces_short zero a = omega arith
  pieces_short (suc n) a =
      let here = short (part at es a) in
      let next : suc a ≡ a + 1 = omega arith in
      let rest = subst (λ b. length (flat_map (λ j. g (part at es j)) (range_with_len b n)) ≤ length (from at (suc a) es)) next (pieces_short n (suc a)) in
      let all = length-append (g (part at es a)) (flat_map (λ j. g (part at es j)) (range_with_len (a + 1) n)) in
      let both = part_and_later at a es in
      omega (arith, here, rest, all, both)

or_short : (b : Bool) (below : List (List ℕ × Data) → List (List ℕ × Data)) (es : List (List ℕ × Data)) → length (below es) ≤ length es → length (part_or b below es) ≤ length es
or_short true below es le = omega arith
or_short false below es le = le

walk_short : (h : List ℕ → List ℕ) (p : HamtShape) (left depth : ℕ) (es : List (List ℕ × Data)) → length (in_trie_order h p left depth es) ≤ length es
unfolding in_trie_order
walk_short h p zero depth es = omega arith
walk_short h p (suc left) depth es =
    let pieces = pieces_short (at_depth h p depth) (λ fs. part_or (nat_le (length fs) p.bucket) (in_trie_order h p left (depth + 1)) fs)
    (λ fs. or_short (nat_le (length fs) p.bucket) (in_trie_order h p left (depth + 1)) fs (walk_short h p left (depth + 1) fs)) es (2 ^ p.width) 0 in
    let less = filter_short (λ e. nat_le 0 (at_depth h p depth e.0)) es in
    omega (arith, pieces, less)

pub walk_once : (h : List ℕ → List ℕ) (p : HamtShape) (left depth : ℕ) (es : List (List ℕ × Data)) → IsInOrder es → no_key_twice (in_trie_order h p left depth es) ≡ true
walk_once h p left depth es order =
    let same : length (in_byte_order (in_trie_order h p left depth es)) ≡ length es = ap (λ (xs : List (List ℕ × Data)). length xs) (sorted-walk h p left depth es order) in
    let short = walk_short h p left depth es in
    long_sorted_once (in_trie_order h p left depth es) (omega (arith, same, short))
