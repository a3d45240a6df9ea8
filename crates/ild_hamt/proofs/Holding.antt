-- The trie of the new entries is held, where that of the old ones is and the nodes on the new way are.
use Rattle.std.proofs.Common.{◌≡◌, ◌≢◌, ◌⊎◌, inl, inr, ⊎_elim, ℕ, zero, suc, ◌+◌, ◌≤◌, ◌<◌, List, length, get_or, Option, Some, None, option_map, refl, sym, ◌∙◌, subst, arith}
use Rattle.std.proofs.lemmas.Bool.{cases_eq, cases_lt}
use Rattle.ild_data.specs.Data.{Data}
use Rattle.ild_data.specs.Trie.{TrieSlot, empty, part, link_to, node_of, at_depth, slots_at}
use Rattle.ild_data.specs.declared.hamt_shape.HamtShape.{HamtShape}
use Rattle.ild_data.specs.TrieShape.{trie_levels}
use Rattle.ild_hamt_trie.proofs.Fold.{slot-many, length-part}
use Rattle.ild_hamt_trie.proofs.Index.{index_below}
use Rattle.ild_hamt_trie.proofs.Node.{slots-node, no_node}
use Rattle.ild_hamt_trie.proofs.Slots.{slot_at}
use Rattle.ild_data.specs.Spell.{spell, id_of}
use Rattle.ild_edges.specs.Store.{Keeps}
use Rattle.ild_bulk_walker.specs.Trees.{IsHeldNode, HoldsBelow}
use Rattle.ild_hamt_climb.specs.Way.{IsRootOf}
use Rattle.ild_hamt.specs.inside.Holding.{HoldsWay}
use Rattle.ild_hamt_climb.specs.Rewriting.{DiffersAt}
use Rattle.ild_hamt_climb.proofs.Differing.{part-differs, part-others}

-- entries that a bucket takes have no node beneath
holds-few : (h : List ℕ → List ℕ) (p : HamtShape) (held : List (List ℕ)) (left depth : ℕ) (es : List (List ℕ × Data)) → length es ≤ p.bucket → HoldsBelow h p held left depth es
holds-few h p held zero depth es few = tt
holds-few h p held (suc left) depth es few = λ i node many is. absurd (let le = length-part (at_depth h p depth) es i in omega (arith, le, few, many))

pub linked : (o : Option Data) (s : TrieSlot) → option_map link_to o ≡ Some s → (node : Data) × (o ≡ Some node)
linked None s is = absurd cc
linked (Some node) s is = (node, refl)

-- many entries at the key's index have a node
pub part-there : (h : List ℕ → List ℕ) (p : HamtShape) (k : List ℕ) (left depth : ℕ) (es : List (List ℕ × Data)) (slots : List TrieSlot) → slots_at h p left depth es ≡ Some slots
    → p.bucket < length (part (at_depth h p depth) es (at_depth h p depth k))
    → (node : Data) × (node_of h p left (depth + 1) (part (at_depth h p depth) es (at_depth h p depth k)) ≡ Some node)
part-there h p k left depth es slots is many =
    linked (node_of h p left (depth + 1) (part (at_depth h p depth) es (at_depth h p depth k))) (get_or slots (at_depth h p depth k) empty)
    (sym (slot-many p.bucket (node_of h p left (depth + 1)) (part (at_depth h p depth) es (at_depth h p depth k)) many)
    ∙ slot_at p (at_depth h p depth) (node_of h p left (depth + 1)) es (at_depth h p depth k) slots empty (index_below p (h k) depth) is)

-- the entries have slots at a depth, or a bucket takes them
abbrev pub Had : (List ℕ → List ℕ) → HamtShape → ℕ → ℕ → List (List ℕ × Data) → Type 0
Had h p left depth es = ((slots : List TrieSlot) × (slots_at h p left depth es ≡ Some slots)) ⊎ (length es ≤ p.bucket)

-- what holds of each part, told of the part at the key's index and of the others
each-part : (P : ℕ → Type 0) (j : ℕ) → P j → ((i : ℕ) → j ≢ i → P i) → (i : ℕ) → P i
each-part P j here others i = ⊎_elim (λ same. subst P same here) (λ apart. others i apart) (cases_eq j i)

-- the part at the key's index has slots too, or is few, and the trie beneath it is held
pub had-below : (h : List ℕ → List ℕ) (p : HamtShape) (k : List ℕ) (held : List (List ℕ)) (left depth : ℕ) (es : List (List ℕ × Data)) → Had h p (suc left) depth es → HoldsBelow h p held (suc (suc left)) depth es
    → Had h p left (depth + 1) (part (at_depth h p depth) es (at_depth h p depth k)) × HoldsBelow h p held (suc left) (depth + 1) (part (at_depth h p depth) es (at_depth h p depth k))
had-below h p k held left depth es had below =
    let old : List (List ℕ × Data) = part (at_depth h p depth) es (at_depth h p depth k) in
    ⊎_elim
    (λ many.
    let node = old-node many had in
    let slots = slots-node h p left (depth + 1) old node.0 node.1 in
    (inl (slots.0, slots.1), (below (at_depth h p depth k) node.0 many node.1).1))
    (λ few. (inr few, holds-few h p held (suc left) (depth + 1) old few))
    (cases_lt p.bucket (length old))
  where
    old-node : p.bucket < length (part (at_depth h p depth) es (at_depth h p depth k)) → Had h p (suc left) depth es
        → (node : Data) × (node_of h p (suc left) (depth + 1) (part (at_depth h p depth) es (at_depth h p depth k)) ≡ Some node)
    old-node many was = ⊎_elim
        (λ slots. part-there h p k (suc left) depth es slots.0 slots.1 many)
        (λ few. absurd (let le = length-part (at_depth h p depth) es (at_depth h p depth k) in omega (arith, le, few, many)))
        was

pub holds-differ : (h : List ℕ → List ℕ) (p : HamtShape) (k : List ℕ) (held : List (List ℕ)) (left depth : ℕ) (es fs : List (List ℕ × Data))
    → DiffersAt k es fs → Had h p left depth es → HoldsBelow h p held (suc left) depth es → HoldsWay h p k held (suc left) depth fs → HoldsBelow h p held (suc left) depth fs
holds-differ h p k held zero depth es fs d had below way =
    λ i node many is. absurd (let none : None ≡ Some node = sym (no_node h p (depth + 1) (part (at_depth h p depth) fs i)) ∙ is in cc)
holds-differ h p k held (suc left) depth es fs d had below way =
    let at : List ℕ → ℕ = at_depth h p depth in
    let old : List (List ℕ × Data) = part at es (at k) in
    let new : List (List ℕ × Data) = part at fs (at k) in
    let again : Had h p left (depth + 1) old → HoldsBelow h p held (suc left) (depth + 1) old → HoldsWay h p k held (suc left) (depth + 1) new → HoldsBelow h p held (suc left) (depth + 1) new =
    λ was beneath rest. holds-differ h p k held left (depth + 1) old new (part-differs at k (at k) es fs d) was beneath rest in
    each-part (λ i. (node : Data) → p.bucket < length (part at fs i) → node_of h p (suc left) (depth + 1) (part at fs i) ≡ Some node
    → IsHeldNode p held node × HoldsBelow h p held (suc left) (depth + 1) (part at fs i)) (at k)
    (λ node many is.
    let here = way node many is in
    let beneath = had-below h p k held left depth es had below in
    (here.0, again beneath.0 beneath.1 here.1))
    (λ i apart node.
    subst (λ (gs : List (List ℕ × Data)). p.bucket < length gs → node_of h p (suc left) (depth + 1) gs ≡ Some node → IsHeldNode p held node × HoldsBelow h p held (suc left) (depth + 1) gs)
    (sym (part-others at k i es fs d apart)) (below i node))

-- what was held is held
pub holds-later : (h : List ℕ → List ℕ) (p : HamtShape) (was now : List (List ℕ)) (left depth : ℕ) (es : List (List ℕ × Data)) → Keeps was now
    → HoldsBelow h p was left depth es → HoldsBelow h p now left depth es
holds-later h p was now zero depth es keeps below = tt
holds-later h p was now (suc left) depth es keeps below = λ i node many is.
    let old = below i node many is in (
      record { slots = old.0.slots; is = old.0.is; block = old.0.block; here = keeps (id_of (spell node)) (spell node) old.0.here },
      holds-later h p was now left (depth + 1) (part (at_depth h p depth) es i) keeps old.1,
    )

-- the whole trie: held before, with the nodes on the new way held now
pub all-holds : (h : List ℕ → List ℕ) (p : HamtShape) (k : List ℕ) (was now : List (List ℕ)) (es fs : List (List ℕ × Data)) (slots : List TrieSlot)
    → Keeps was now → IsRootOf h p es slots → DiffersAt k es fs → HoldsBelow h p was (trie_levels p) 0 es → HoldsWay h p k now (trie_levels p) 0 fs → HoldsBelow h p now (trie_levels p) 0 fs
all-holds h p k was now es fs slots keeps root d below way =
    subst (λ (n : ℕ). HoldsBelow h p now n 0 fs) (sym root.all)
    (holds-differ h p k now root.left 0 es fs d (inl (slots, root.node))
    (holds-later h p was now (suc root.left) 0 es keeps (subst (λ (n : ℕ). HoldsBelow h p was n 0 es) root.all below))
    (subst (λ (n : ℕ). HoldsWay h p k now n 0 fs) root.all way))
