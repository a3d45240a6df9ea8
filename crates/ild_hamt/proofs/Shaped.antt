-- What the calls of a trail say, where its shape is known by another name.
use Rattle.std.proofs.Common.{◌≡◌, ℕ, true, List, subst}
use Rattle.std.specs.Prelude.{is_some, Result}
use Rattle.std.specs.FinMap.{put}
use Rattle.ild_data.specs.ByteOrder.{bytewise}
use Rattle.ild_data.specs.Data.{Data}
use Rattle.ild_data.specs.Trie.{TrieSlot, node_of}
use Rattle.ild_data.specs.declared.hamt_shape.HamtShape.{HamtShape}
use Rattle.ild_data.specs.TrieShape.{trie_levels}
use Rattle.ild_edges.specs.Store.{Moment}
use Rattle.ild_node_slots.specs.declared.fault.HamtFault.{HamtFault}
use Rattle.ild_node_slots.specs.declared.view.NodeView.{NodeView}
use Rattle.ild_hamt.specs.Descending.{trail_blocks}
use Rattle.ild_hamt.specs.Edits.{SetsAlong, IsTrailAlong, RemovesAlong, entries_at_end, is_full_at_end}
use Rattle.ild_hamt.specs.Removing.{Removes}
use Rattle.ild_hamt.specs.Rewriting.{IsTrailFrom}
use Rattle.ild_hamt.specs.Setting.{Sets}
use Rattle.ild_hamt.specs.declared.trail.Trail.{Trail}

module _ (h : List ℕ → List ℕ) (p : HamtShape) (root : NodeView) (t : Trail) (k : List ℕ) (m : Moment) (r : Result (List ℕ) HamtFault) (n : Moment) where
  pub sets-at : (v : Data) (slots : List TrieSlot) (es : List (List ℕ × Data))
      → (IsTrailFrom t.shape root t h k slots es → is_some (node_of h t.shape (trie_levels t.shape) 0 (put bytewise k v es)) ≡ true → Sets h t.shape k v es m r n)
      → IsTrailFrom p root t h k slots es → is_some (node_of h p (trie_levels p) 0 (put bytewise k v es)) ≡ true → Sets h p k v es m r n
  sets-at v slots es sets from =
      subst (λ (q : HamtShape). IsTrailFrom q root t h k slots es → is_some (node_of h q (trie_levels q) 0 (put bytewise k v es)) ≡ true → Sets h q k v es m r n) from.trail.shape sets from

  pub edits-at : (slots last : List TrieSlot)
      → (IsTrailAlong t.shape root t h k slots last → SetsAlong t.shape (trail_blocks t) (is_full_at_end h t.shape k (trail_blocks t) last) m r n)
      → IsTrailAlong p root t h k slots last → SetsAlong p (trail_blocks t) (is_full_at_end h p k (trail_blocks t) last) m r n
  edits-at slots last edits leads =
      subst (λ (q : HamtShape). IsTrailAlong q root t h k slots last → SetsAlong q (trail_blocks t) (is_full_at_end h q k (trail_blocks t) last) m r n) leads.trail.shape edits leads

  pub removes-at : (slots : List TrieSlot) (es : List (List ℕ × Data)) → (IsTrailFrom t.shape root t h k slots es → Removes h t.shape k es m r n) → IsTrailFrom p root t h k slots es → Removes h p k es m r n
  removes-at slots es removes from = subst (λ (q : HamtShape). IsTrailFrom q root t h k slots es → Removes h q k es m r n) from.trail.shape removes from

  pub removes-along : (slots last : List TrieSlot)
      → (IsTrailAlong t.shape root t h k slots last → RemovesAlong t.shape k (entries_at_end h t.shape k (trail_blocks t) last) (trail_blocks t) m r n)
      → IsTrailAlong p root t h k slots last → RemovesAlong p k (entries_at_end h p k (trail_blocks t) last) (trail_blocks t) m r n
  removes-along slots last removes leads =
      subst (λ (q : HamtShape). IsTrailAlong q root t h k slots last → RemovesAlong q k (entries_at_end h q k (trail_blocks t) last) (trail_blocks t) m r n) leads.trail.shape removes leads
