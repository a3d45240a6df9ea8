use Rattle.std.proofs.Common.{◌≡◌, ◌-◌, ◌^◌, List}
use Rattle.ild_data.specs.Trie.{TrieSlot}
use Rattle.ild_data.specs.declared.hamt_shape.HamtShape.{HamtShape}
use Rattle.ild_node_slots.specs.Views.{HasSlots, view_shape}
use Rattle.ild_bulk_walker.specs.Checked.{HasWalked}
use Rattle.ild_bulk_walker.proofs.check.check_tree.Given as goal

abbrev pub decreases-loop-walker : goal.decreases-loop-walker
decreases-loop-walker g l = 2 ^ 64 - l.walker.given

abbrev pub invariant-loop-walker : goal.invariant-loop-walker
invariant-loop-walker g l =
    (l.walker.shape ≡ view_shape l.fn.root)
    × ((p : HamtShape) (slots : List TrieSlot) → HasSlots p l.fn.root slots → HasWalked g.H.KeyHash.hash_of p slots l.fn.at.0 (λ done. Unit {0}) (g.K.Store.moment l.initial.store) l.walker (g.K.Store.moment l.store))
