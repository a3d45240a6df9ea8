-- The blocks on a key's way are blocks of the trie.
use Rattle.std.proofs.Common.{◌≡◌, ◌⊎◌, inl, inr, ⊎_elim, ℕ, zero, suc, ◌+◌, ◌^◌, ◌==◌, nat_le, Bool, true, false, List, [], ◌∷◌, ◌++◌, length, take, Option, refl, sym, ◌∙◌, subst, arith, flat_map}
use Rattle.std.specs.Prelude.{reverse}
use Rattle.std.specs.List.{range_with_len, list_any}
use Rattle.std.proofs.lemmas.Bool.{eqb-true, or_cases}
use Rattle.std.proofs.lemmas.List.{reverse-append}
use Rattle.ild_bulk.proofs.Plans.{beneath_is}
use Rattle.ild_data.specs.Data.{Data}
use Rattle.ild_data.specs.declared.hamt_shape.HamtShape.{HamtShape}
use Rattle.ild_data.specs.Trie.{part, node_of, at_depth}
use Rattle.ild_data.specs.TrieBlocks.{nodes_beneath, node_and_beneath, none_or, block_of}
use Rattle.ild_hamt_trie.specs.Way.{way}
use Rattle.ild_hamt_trie.proofs.Fold.{any-range}
use Rattle.ild_hamt_trie.proofs.Index.{index_below}
use Rattle.ild_hamt_trie.proofs.Way.{way_is}
use Rattle.ild_edges.specs.Among.{IsIn}
use Rattle.ild_edges.proofs.Among.{IsIn-left, IsIn-right, IsIn-append}

pub among-turned : (b : List ℕ) (xs : List (List ℕ)) → IsIn b (reverse xs) → IsIn b xs
among-turned b [] is = is
among-turned b (x ∷ xs) is =
    ⊎_elim (λ before. inr (among-turned b xs before)) (λ last. ⊎_elim (λ here. inl here) (λ none. absurd none) last)
    (IsIn-append b (reverse xs) (x ∷ []) (subst (λ (bs : List (List ℕ)). IsIn b bs) (reverse-append (x ∷ []) xs) is))

pub among-take : (b : List ℕ) (n : ℕ) (xs : List (List ℕ)) → IsIn b (take n xs) → IsIn b xs
among-take b zero xs is = absurd is
among-take b (suc n) [] is = absurd is
among-take b (suc n) (x ∷ xs) is = ⊎_elim (λ here. inl here) (λ more. inr (among-take b n xs more)) is

-- of one of the pieces
among-piece : (b : List ℕ) (f : ℕ → List (List ℕ)) (i : ℕ) (js : List ℕ) → list_any (λ j. i == j) js ≡ true → IsIn b (f i) → IsIn b (flat_map f js)
among-piece b f i [] member is = absurd cc
among-piece b f i (j ∷ js) member is =
    ⊎_elim (λ same. IsIn-left b (f j) (flat_map f js) (subst (λ (n : ℕ). IsIn b (f n)) (eqb-true i j same) is))
    (λ later. IsIn-right b (f j) (flat_map f js) (among-piece b f i js later is)) (or_cases (i == j) (list_any (λ n. i == n) js) member)

no-way : (h : List ℕ → List ℕ) (p : HamtShape) (k : List ℕ) (depth : ℕ) (es : List (List ℕ × Data)) (b : List ℕ) → IsIn b (way h p k zero depth es) → IsIn b (nodes_beneath h p zero depth es)
unfolding way nodes_beneath
no-way h p k depth es b is = is

among-next : (b : List ℕ) (c : Bool) (o : Option Data) (xs ys : List (List ℕ)) (fs : List (List ℕ × Data)) → (IsIn b xs → IsIn b ys) → IsIn b (none_or c (λ gs. block_of o ++ xs) fs) → IsIn b (none_or c (λ gs. block_of o ++ ys) fs)
among-next b true o xs ys fs more is = is
among-next b false o xs ys fs more is =
    ⊎_elim (λ own. IsIn-left b (block_of o) ys own) (λ beneath. IsIn-right b (block_of o) ys (more beneath)) (IsIn-append b (block_of o) xs is)

one-piece : (c : Bool) (below : List (List ℕ × Data) → Option Data) (beneath : List (List ℕ × Data) → List (List ℕ)) (fs : List (List ℕ × Data))
    → none_or c (λ gs. block_of (below gs) ++ beneath gs) fs ≡ none_or c (λ gs. block_of (below fs) ++ beneath fs) fs
one-piece true below beneath fs = refl
one-piece false below beneath fs = refl

pub way-beneath : (h : List ℕ → List ℕ) (p : HamtShape) (k : List ℕ) (left depth : ℕ) (es : List (List ℕ × Data)) (b : List ℕ) → IsIn b (way h p k left depth es) → IsIn b (nodes_beneath h p left depth es)
way-beneath h p k zero depth es b is = no-way h p k depth es b is
way-beneath h p k (suc left) depth es b is =
    let fs : List (List ℕ × Data) = part (at_depth h p depth) es (at_depth h p depth k) in
    let c : Bool = nat_le (length fs) p.bucket in
    let below : List (List ℕ × Data) → Option Data = node_of h p left (depth + 1) in
    let here : IsIn b (none_or c (λ gs. block_of (below fs) ++ way h p k left (depth + 1) fs) fs) =
    subst (λ (bs : List (List ℕ)). IsIn b bs) (way_is h p k left depth es ∙ one-piece c below (way h p k left (depth + 1)) fs) is in
    subst (λ (bs : List (List ℕ)). IsIn b bs) (sym (beneath_is h p left depth es))
    (among-piece b (λ i. node_and_beneath p.bucket below (nodes_beneath h p left (depth + 1)) (part (at_depth h p depth) es i)) (at_depth h p depth k) (range_with_len 0 (2 ^ p.width))
    (any-range (at_depth h p depth k) 0 (2 ^ p.width) (omega arith) (omega (arith, index_below p (h k) depth)))
    (subst (λ (bs : List (List ℕ)). IsIn b bs) (sym (one-piece c below (nodes_beneath h p left (depth + 1)) fs))
    (among-next b c (below fs) (way h p k left (depth + 1) fs) (nodes_beneath h p left (depth + 1) fs) fs (λ deeper. way-beneath h p k left (depth + 1) fs b deeper) here)))
