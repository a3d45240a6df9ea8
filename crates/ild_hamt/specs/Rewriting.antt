-- The entry of one key exchanged along its trail, and what a store holds then.
use Rattle.std.specs.Prelude.{◌≡◌, ℕ, List, Result, IfOk}
use Rattle.ild_data.specs.declared.hamt_shape.HamtShape.{HamtShape}
use Rattle.ild_data.specs.Data.{Data}
use Rattle.ild_data.specs.TrieShape.{trie_levels}
use Rattle.ild_data.specs.Trie.{TrieSlot}
use Rattle.ild_data.specs.TrieBlocks.{nodes_beneath}
use Rattle.ild_node_slots.specs.Views.{HasSlots}
use Rattle.ild_node_slots.specs.declared.view.NodeView.{NodeView}
use Rattle.ild_node_slots.specs.declared.fault.HamtFault.{HamtFault}
use Rattle.ild_bulk.specs.Children.{AddsLinked}
use Rattle.ild_edges.specs.Gained.{CameFrom}
use Rattle.ild_edges.specs.Store.{Moment}
use Rattle.ild_bulk_walker.specs.Trees.{HoldsBelow}
use Rattle.ild_hamt_climb.specs.Rewriting.{ClimbState, DiffersAt, Rewrites}
use Rattle.ild_hamt_climb.specs.Way.{IsRootOf}
use Rattle.ild_hamt.specs.Descending.{IsTrailOf, trail_blocks, trail_shape}
use Rattle.ild_hamt.specs.Edits.{EditsFrom}
use Rattle.ild_hamt.specs.declared.trail.Trail.{Trail}

-- the trail is the way of a key from this root, through the trie of these entries
pub record IsTrailFrom (p : HamtShape) (root : NodeView) (t : Trail) (h : List ℕ → List ℕ) (k : List ℕ) (slots : List TrieSlot) (es : List (List ℕ × Data)) : Type 0 where
  pub has : HasSlots p root slots
  pub trail : IsTrailOf h p k slots es t

-- the new root where the entries differ at the trail's key, from the new slot at the end of its way on
abbrev pub RewritesTrail : NodeView → Trail → TrieSlot → List (List ℕ) → Moment → Result (List ℕ) HamtFault → Moment → Type 0
RewritesTrail root t s planned m result n =
    (h : List ℕ → List ℕ) (k : List ℕ) (slots : List TrieSlot) (es fs : List (List ℕ × Data)) → HasSlots (trail_shape t) root slots → IsRootOf h (trail_shape t) es slots → DiffersAt k es fs
    → t.hash ≡ h k → ClimbState h (trail_shape t) k es fs (trail_blocks t) t.depth s planned → Rewrites h (trail_shape t) k fs m result n

-- the edit from that slot on, of whatever trie the nodes are
abbrev pub EditsTrail : NodeView → Trail → TrieSlot → List (List ℕ) → Moment → Result (List ℕ) HamtFault → Moment → Type 0
EditsTrail root t s planned m result n = (slots : List TrieSlot) → HasSlots (trail_shape t) root slots → EditsFrom (trail_shape t) (trail_blocks t) s planned m result n

-- each block that was added is one of the trie of the new entries; where the trie of the old ones was held, that of the new ones
-- is, and each block that was added has all its children held
pub record HoldsAfter (h : List ℕ → List ℕ) (p : HamtShape) (es fs : List (List ℕ × Data)) (result : Result (List ℕ) HamtFault) (was now : List (List ℕ)) : Type 0 where
  pub nodes : CameFrom (nodes_beneath h p (trie_levels p) 0 fs) was now
  pub held : HoldsBelow h p was (trie_levels p) 0 es → IfOk result (λ root. HoldsBelow h p now (trie_levels p) 0 fs)
  pub whole : HoldsBelow h p was (trie_levels p) 0 es → AddsLinked was now
