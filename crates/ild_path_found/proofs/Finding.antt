-- What a key's trail finds in the last node on its way, whatever trie that is of.
use Rattle.std.proofs.Common.{ℕ, ◌<◌, List, length, Option, Ok, ap, sym, subst}
use Rattle.ild_cbor.specs.declared.node.Node.{Node}
use Rattle.ild_data.specs.Trie.{TrieSlot}
use Rattle.ild_data.specs.TrieShape.{trie_levels}
use Rattle.ild_data.specs.declared.hamt_shape.HamtShape.{HamtShape}
use Rattle.ild_edges.specs.Store.{Moment}
use Rattle.ild_hamt.specs.Descending.{Descends, IsTrail, trail_blocks}
use Rattle.ild_hamt.specs.Edits.{IsTrailAlong}
use Rattle.ild_hamt.specs.Found.{FoundInNode, FindsAtEnd}
use Rattle.ild_hamt.specs.declared.trail.Trail.{Trail}
use Rattle.ild_hamt_climb.specs.Way.{Leads}
use Rattle.ild_node_slots.specs.Views.{HasSlots}
use Rattle.ild_node_slots.specs.declared.view.NodeView.{NodeView}

module _ (h : List ℕ → List ℕ) (p : HamtShape) (k : List ℕ) (slots : List TrieSlot) (root : NodeView) (trail : Trail) (m n : Moment) (has : HasSlots p root slots) (d : Descends h p k slots m (Ok trail) n) where
  trail_along : IsTrailAlong p root trail h k slots d.last
  trail_along =
      let own = sym d.answer.blocks in
      record {
        has = has;
        leads = subst (λ (bs : List (List ℕ)). Leads p (h k) 0 slots bs d.last) own d.reads.leads;
        short = subst (λ (bs : List (List ℕ)). length bs < trie_levels p) own d.reads.short;
        trail = subst (λ (bs : List (List ℕ)). IsTrail h p k bs d.last trail) own d.answer;
      }

  pub finds_last : (r : Option Node) → FindsAtEnd trail root r → FoundInNode p (h k) (length d.bs) k d.last r
  finds_last r finds =
      let own = d.answer.shape in
      let at = finds h k slots d.last (subst (λ (q : HamtShape). IsTrailAlong q root trail h k slots d.last) (sym own) trail_along) in
      subst (λ (count : ℕ). FoundInNode p (h k) count k d.last r) (ap length d.answer.blocks) (subst (λ (q : HamtShape). FoundInNode q (h k) (length (trail_blocks trail)) k d.last r) own at)
