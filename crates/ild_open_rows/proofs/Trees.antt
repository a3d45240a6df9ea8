-- What the blocks of a HAMT give are trees.
use Rattle.std.proofs.Common.{ℕ, zero, suc, ◌+◌, ◌-◌, List, [], ◌∷◌, map, flat_map, sym, subst}
use Rattle.std.specs.List.{AllByRecursion}
use Rattle.std.specs.List.Sorted.{IsPermutation}
use Rattle.std.proofs.lemmas.List.Elements.{All-from_recursion, recursion_from_All}
use Rattle.std.proofs.lemmas.List.Sorted.{All-permutation}
use Rattle.ild_data.proofs.AllOf.{all_append}
use Rattle.ild_data.specs.Data.{Data, items_of}
use Rattle.ild_data.specs.Tree.{AreTrees, IsTree}
use Rattle.ild_data.specs.Trie.{TrieSlot, empty, bucket, child, bucket_entries, elements_of, entry_data, node_data}
use Rattle.ild_data.specs.TrieShape.{trie_levels}
use Rattle.ild_data.specs.declared.hamt_shape.HamtShape.{HamtShape}
use Rattle.ild_typed.specs.Node.{IsRoot}
use Rattle.ild_bulk_walker.specs.Gives.{RootGives, SlotGives, SlotsGive, TreeGives}

abbrev pub IsTreed : List ℕ × Data → Type 0
IsTreed e = IsTree e.1

-- all entries in a bucket
abbrev pub IsTreedSlot : TrieSlot → Type 0
IsTreedSlot z = AllByRecursion IsTreed (bucket_entries z)

items_trees : (ds : List Data) → AreTrees (items_of ds) → AllByRecursion IsTree ds
items_trees [] all = tt
items_trees (d ∷ ds) all = (all.0, items_trees ds all.1)

entries_trees : (es : List (List ℕ × Data)) → AreTrees (items_of (map entry_data es)) → AllByRecursion IsTreed es
entries_trees [] all = tt
entries_trees (e ∷ es) all = (all.0.1.0, entries_trees es all.1)

slots_trees : (slots : List TrieSlot) → AllByRecursion IsTree (flat_map elements_of slots) → AllByRecursion IsTreedSlot slots
slots_trees [] all = tt
slots_trees (empty ∷ slots) all = (tt, slots_trees slots all)
slots_trees (bucket es ∷ slots) all = (entries_trees es all.0, slots_trees slots all.1)
slots_trees (child id ∷ slots) all = (tt, slots_trees slots all.1)

pub node_trees : (slots : List TrieSlot) → IsTree (node_data slots) → AllByRecursion IsTreedSlot slots
node_trees slots tree = slots_trees slots (items_trees (flat_map elements_of slots) tree.1.0)

abbrev Treed : (List ℕ → List (List ℕ × Data) → Type 0) → Type 0
Treed below = (id : List ℕ) (es : List (List ℕ × Data)) → below id es → AllByRecursion IsTreed es

slot_treed : (below : List ℕ → List (List ℕ × Data) → Type 0) → Treed below → (z : TrieSlot) (es : List (List ℕ × Data)) → IsTreedSlot z → SlotGives below z es → AllByRecursion IsTreed es
slot_treed below deep empty es own gives = subst (AllByRecursion IsTreed) (sym gives) tt
slot_treed below deep (bucket fs) es own gives = subst (AllByRecursion IsTreed) (sym gives) own
slot_treed below deep (child id) es own gives = deep id es gives

slots_treed : (h : List ℕ → List ℕ) (p : HamtShape) (depth i : ℕ) (below : List ℕ → List (List ℕ × Data) → Type 0) → Treed below → (slots : List TrieSlot) (es : List (List ℕ × Data)) → AllByRecursion IsTreedSlot slots
    → SlotsGive h p depth i below slots es → AllByRecursion IsTreed es
slots_treed h p depth i below deep [] es own gives = subst (AllByRecursion IsTreed) (sym gives) tt
slots_treed h p depth i below deep (z ∷ slots) es own gives =
    subst (AllByRecursion IsTreed) (sym gives.2)
    (all_append IsTreed gives.0 gives.1 (slot_treed below deep z gives.0 own.0 gives.4) (slots_treed h p depth (i + 1) below deep slots gives.1 own.1 gives.5))

tree_treed : (h : List ℕ → List ℕ) (p : HamtShape) (held : List (List ℕ)) (left depth : ℕ) → Treed (TreeGives h p held left depth)
tree_treed h p held zero depth = λ id es gives. absurd gives
tree_treed h p held (suc left) depth = λ id es gives. slots_treed h p depth 0 (TreeGives h p held left (depth + 1)) (tree_treed h p held left (depth + 1)) gives.slots es (node_trees gives.slots gives.node.is.within.tree) gives.gives

pub root_trees : (h : List ℕ → List ℕ) (p : HamtShape) (held : List (List ℕ)) (t : Data) (slots : List TrieSlot) (es : List (List ℕ × Data)) → IsRoot p slots t → IsTree t
    → RootGives h p held (trie_levels p - 1) slots es → AllByRecursion (λ e. IsTree e.1) es
root_trees h p held t slots es is tree gives =
    let own = subst IsTree is.tree tree in
    slots_treed h p 0 0 (TreeGives h p held (trie_levels p - 1) 1) (tree_treed h p held (trie_levels p - 1) 1) slots es (node_trees slots own.1) gives

pub all_moved : {X : Type 0} (P : X → Type 0) (xs ys : List X) → IsPermutation xs ys → AllByRecursion P xs → AllByRecursion P ys
all_moved P xs ys moved all = recursion_from_All P ys (All-permutation P xs ys moved (All-from_recursion P xs all))
