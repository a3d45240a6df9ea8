-- Laws for callers: which part of the whole tree a node is, and when the changed tree is one that a block can hold.
use Rattle.std.specs.Prelude.{◌≡◌, ◌≤◌, ℕ, ◌+◌, List, [], ◌∷◌, ◌++◌, length, Option, Some, IsUtf8}
use Rattle.ild_cbor.specs.declared.node.Node.{Node}
use Rattle.ild_cbor.specs.Block.{IsBlockOf}
use Rattle.ild_cbor.specs.Nodes.{IsRoot, Finds}
use Rattle.ild_cbor.specs.Span.{place_of, item_of, index_of, entry_of}
use Rattle.ild_splice_changes.specs.TreeChange.{TreeStep, nth, key, TreeChange, replace, insert_item, insert_entry, remove_item, remove_entry, part_at, changed}
use Rattle.ild_data.specs.Data.{Data, depth}
use Rattle.ild_data.specs.Limits.{IsWithin, deepest, longest_block}
use Rattle.ild_data.specs.Spell.{spell}
use Rattle.ild_data.specs.Tree.{IsTree}
use Rattle.ild_splice.specs.Splices.{IsAt}

-- the node of a whole block is the tree itself, at the place without a step
abbrev pub RootsAreAt : Type 0
RootsAreAt = (n : Node) (b : List ℕ) (t : Data) → IsBlockOf b t → IsRoot n b t → IsAt n t [] t

-- the node is the part that was sought, at this place
pub record IsFoundAt (n : Node) (t : Data) (q : List TreeStep) (sought : Option Data) : Type 0 where
  pub part : Data
  pub is : sought ≡ Some part
  pub at : IsAt n t q part

-- what is found of a node that is at a place is one step further
abbrev pub ItemsAreAt : Type 0
ItemsAreAt = (n m : Node) (t d : Data) (q : List TreeStep) (i : ℕ) → IsAt n t q d → Finds n (place_of d i) (item_of d i) (Some m) → IsFoundAt m t (q ++ nth i ∷ []) (item_of d i)

abbrev pub EntriesAreAt : Type 0
EntriesAreAt = (n m : Node) (t d : Data) (q : List TreeStep) (k : List ℕ) → IsAt n t q d → Finds n (place_of d (index_of k d)) (entry_of d k) (Some m) → IsFoundAt m t (q ++ key k ∷ []) (entry_of d k)

-- what a change puts in is a tree, and a text is its key
abbrev pub PutsIn : TreeChange → Type 0
PutsIn (replace e) = IsTree e
PutsIn (insert_item i e) = IsTree e
PutsIn (insert_entry k e) = IsUtf8 k × IsTree e
PutsIn (remove_item i) = Unit {0}
PutsIn (remove_entry k) = Unit {0}

-- how deep the part nests that is changed, as far as what is put in is concerned
abbrev pub depth_in : TreeChange → ℕ
depth_in (replace e) = depth e
depth_in (insert_item i e) = depth e + 1
depth_in (insert_entry k e) = depth e + 1
depth_in (remove_item i) = 0
depth_in (remove_entry k) = 0

-- a changed tree that nests no deeper than a block may, and is no longer, is one that a block can hold
abbrev pub ChangesStayWithin : Type 0
ChangesStayWithin = (t d : Data) (q : List TreeStep) (c : TreeChange) → IsWithin t → part_at q t ≡ Some d → PutsIn c → length q + depth_in c ≤ deepest → length (spell (changed q c t)) ≤ longest_block
    → IsWithin (changed q c t)
