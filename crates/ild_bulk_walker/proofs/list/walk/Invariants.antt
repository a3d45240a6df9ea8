use Rattle.std.proofs.Common.{◌≡◌, ◌-◌, ◌^◌, List}
use Rattle.ild_data.specs.Trie.{TrieSlot}
use Rattle.ild_data.specs.declared.hamt_shape.HamtShape.{HamtShape}
use Rattle.ild_node_slots.specs.Views.{HasSlots, view_shape}
use Rattle.ild_bulk_walker.specs.Checked.{HasListed}
use Rattle.ild_bulk_walker.proofs.list.walk.Given as goal

abbrev pub decreases-loop-rows : goal.decreases-loop-rows
decreases-loop-rows g l = 2 ^ 64 - l.walker.given

abbrev pub invariant-loop-rows : goal.invariant-loop-rows
invariant-loop-rows g l =
    (l.walker.shape ≡ view_shape l.fn.root)
    × ((p : HamtShape) (slots : List TrieSlot) → HasSlots p l.fn.root slots → HasListed g.H.KeyHash.hash_of p slots l.fn.at.0 l.rows.items (g.K.Store.moment l.initial.store) l.walker (g.K.Store.moment l.store))
