-- The rows of a walk are the entries of a root: what a walk lists is what the root of a HAMT splits into.
use Rattle.std.proofs.Common.{◌≡◌, ℕ, zero, suc, ◌+◌, ◌-◌, List, [], ◌∷◌, map, Some, sym, ◌∙◌, ap, subst}
use Rattle.ild_data.specs.ByteOrder.{in_byte_order}
use Rattle.ild_data.specs.Data.{Data}
use Rattle.ild_data.specs.Key.{Rises}
use Rattle.ild_data.specs.Limits.{IsWithin}
use Rattle.ild_data.specs.Tree.{IsTree}
use Rattle.ild_data.specs.Trie.{at_depth, node_data, node_of, part, trie}
use Rattle.ild_data.specs.TrieShape.{trie_levels}
use Rattle.ild_data.specs.declared.hamt_shape.HamtShape.{HamtShape}
use Rattle.ild_edges.specs.Store.{block_at}
use Rattle.ild_node_slots.specs.Form.{IsNode}
use Rattle.ild_hamt_trie.proofs.Node.{trie-sorted}
use Rattle.ild_hamt_trie.proofs.Pairs.{find-permutation}
use Rattle.ild_hamt_trie.proofs.Parts.{sorted_alike}
use Rattle.ild_typed.specs.Known.{AreKnown, HeldNode}
use Rattle.ild_bulk_walker.specs.Checked.{row_pair, spelled_pair}
use Rattle.ild_bulk_walker.specs.Trees.{HoldsBelow}
use Rattle.ild_bulk_walker.proofs.Tried.{given-is-trie}
use Rattle.ild_open_held.proofs.Permuted.{lifted}
use Rattle.ild_open_held.proofs.Trieing.{root_of_trie}
use Rattle.ild_open_rows.specs.Rooted.{RowsAreEntries}
use Rattle.ild_open_rows.proofs.Trees.{all_moved, root_trees}

-- nodes that are held as blocks are known
pub holds_known : (h : List ℕ → List ℕ) (p : HamtShape) (held : List (List ℕ)) (left depth : ℕ) (es : List (List ℕ × Data)) → HoldsBelow h p held left depth es → AreKnown h p (HeldNode (block_at held)) left depth es
unfolding AreKnown
holds_known h p held zero depth es holds = tt
holds_known h p held (suc left) depth es holds = λ i node big has.
    let x = holds i node big has in
    (record { within = subst IsWithin (sym x.0.is) x.0.block.is.within; there = x.0.here }, holds_known h p held left (depth + 1) (part (at_depth h p depth) es i) x.1)

rises_spelled : (fs : List (List ℕ × Data)) → Rises (map spelled_pair fs) → Rises fs
rises_spelled [] up = tt
rises_spelled (f ∷ []) up = (tt, tt)
rises_spelled (f ∷ g ∷ fs) up = (up.0, rises_spelled (g ∷ fs) up.1)

pub rows_are_entries : RowsAreEntries
rows_are_entries = λ h p held t slots rows is tree x.
    let form : IsNode p slots = record { many = is.indices; each = is.each } in
    let y = given-is-trie p h held slots x.entries form x.gives in
    let l = lifted spelled_pair x.entries (map row_pair rows) x.same in
    let fs : List (List ℕ × Data) = l.elements in
    let both = find-permutation x.entries fs l.moved y.distinct in
    let same : in_byte_order x.entries ≡ in_byte_order fs = sorted_alike x.entries fs both.1 in
    let whole : trie h p fs 0 ≡ Some (node_data slots) =
    trie-sorted h p fs 0 both.0 ∙ ap (λ gs. node_of h p (trie_levels p - 0) 0 gs) (sym same) ∙ sym (trie-sorted h p x.entries 0 y.distinct) ∙ y.tree in
    let known = subst (λ gs. AreKnown h p (HeldNode (block_at held)) (trie_levels p) 0 gs) same (holds_known h p held (trie_levels p) 0 (in_byte_order x.entries) y.holds) in
    record {
      entries = fs;
      root = root_of_trie (block_at held) h p t (node_data slots) fs (rises_spelled fs (subst (λ ps. Rises ps) (sym l.made) x.rise)) known whole is.tree;
      made = l.made;
      trees = all_moved (λ e. IsTree e.1) x.entries fs l.moved (root_trees h p held t slots x.entries is tree x.gives);
    }
