-- A descent fails by a fault of reading alone.
use Rattle.std.proofs.Common.{ℕ, List, Err}
use Rattle.std.proofs.Math.Logic.{∥∥₁_elim}
use Rattle.std.proofs.Props.{props}
use Rattle.ild_data.specs.Trie.{TrieSlot}
use Rattle.ild_data.specs.declared.hamt_shape.HamtShape.{HamtShape}
use Rattle.ild_edges.specs.Store.{Moment}
use Rattle.ild_hamt.specs.Descending.{Descends}
use Rattle.ild_node_slots.specs.Faults.{IsReadFault}
use Rattle.ild_node_slots.specs.Views.{HasSlots}
use Rattle.ild_node_slots.specs.declared.fault.HamtFault.{HamtFault}
use Rattle.ild_node_slots.specs.declared.fault.HamtFault.TheVariants as F
use Rattle.ild_node_slots.specs.declared.view.NodeView.{NodeView}

-- the way of a key beneath a root, of whatever shape
pub descent_reads : (h : List ℕ → List ℕ) (root : NodeView) (k : List ℕ) (m n : Moment) (e : HamtFault) → ((p : HamtShape) (slots : List TrieSlot) → HasSlots p root slots → Descends h p k slots m (Err e) n) → IsReadFault e
descent_reads h root k m n (F.Block id why) d = tt
descent_reads h root k m n F.Store d = tt
descent_reads h root k m n F.Memory d = tt
descent_reads h root k m n F.Exhausted d = ∥∥₁_elim root.stands (hlevel props) (λ s. absurd (d root.shape s.slots s.has).answer)
descent_reads h root k m n (F.Clash id kept new) d = ∥∥₁_elim root.stands (hlevel props) (λ s. absurd (d root.shape s.slots s.has).answer)
descent_reads h root k m n F.Size d = ∥∥₁_elim root.stands (hlevel props) (λ s. absurd (d root.shape s.slots s.has).answer)
descent_reads h root k m n F.NoKey d = ∥∥₁_elim root.stands (hlevel props) (λ s. absurd (d root.shape s.slots s.has).answer)
