-- Going over the nodes of a HAMT: what a slot that was read stands for, and what is answered of the node at the end of a way.
use Rattle.std.proofs.Common.{◌≡◌, ℕ, suc, ◌+◌, ◌<◌, List, [], ◌∷◌, ◌++◌, length, length-append, Option, Some, None, IsUtf8, refl, sym, ◌∙◌, ap, subst, arith}
use Rattle.std.specs.Prelude.{Result, Ok, Err, slice_get}
use Rattle.std.specs.Borrow.{Bor}
use Rattle.ild_cbor.specs.Nodes.{HasData}
use Rattle.ild_cbor.specs.declared.node.Node.{Node}
use Rattle.ild_cbor.specs.declared.why.BlockWhy.{BlockWhy}
use Rattle.ild_data.proofs.AllOf.{all_at}
use Rattle.ild_data.specs.Bytes.{AreBytes}
use Rattle.ild_data.specs.Data.{Data}
use Rattle.ild_data.specs.Trie.{TrieSlot, empty, bucket, child}
use Rattle.ild_data.specs.TrieShape.{trie_levels}
use Rattle.ild_data.specs.declared.hamt_shape.HamtShape.{HamtShape}
use Rattle.ild_data.specs.declared.id.BlockId.{BlockId}
use Rattle.ild_edges.specs.Gained.{FromBlocks}
use Rattle.ild_edges.specs.Store.{Moment}
use Rattle.ild_node_slots.specs.Views.{EntryIs, HasEntries, HasSlots, SlotHolds}
use Rattle.ild_node_slots.specs.declared.bucket.Bucket.{Bucket}
use Rattle.ild_node_slots.specs.declared.view.NodeSlot.TheVariants as S
use Rattle.ild_node_slots.specs.declared.view.NodeView.{NodeView}
use Rattle.ild_schema.specs.declared.number.Slot.{Slot}
use Rattle.ild_schema.specs.declared.number.TypeNo.{TypeNo}
use Rattle.ild_schema.specs.declared.row.Row.{Row}
use Rattle.ild_open_known.specs.declared.kind.ReadAs.{ReadAs}
use Rattle.ild_open_nodes.specs.inside.Beneath.{PassesChild, PassesSlot, PassesSlots}
use Rattle.ild_open_nodes.specs.Nodes.{SlotOwned}
use Rattle.ild_open_nodes.specs.Reading.{GetsBlock, IsNodeView, ReadsNode}
use Rattle.ild_open_nodes.proofs.Noding.{child_done, child_faulty, child_known, child_missing, child_stops}
use Rattle.ild_open_nodes.proofs.Slotting.{slot_empty}
use Rattle.ild_open_parts.specs.declared.fault.OpenFault.{OpenFault}
use Rattle.ild_open_parts.specs.declared.fault.OpenFault.TheVariants as F

-- ---- an entry that was read

pub record ReadsEntry (es : List (List ℕ × Data)) (j : ℕ) (r : Bor (List ℕ) × Node) : Type 0 where
  pub entry : List ℕ × Data
  pub is : slice_get es j ≡ Some entry
  pub key : r.0.now ≡ entry.0
  pub text : IsUtf8 entry.0
  pub stands : HasData r.1 entry.1

pub reads_entry : (b : Bucket) (es : List (List ℕ × Data)) (j : ℕ) (r : Bor (List ℕ) × Node) → HasEntries b es → EntryIs b es j (slice_get es j) (Some r) → ReadsEntry es j r
reads_entry b es j r has x = by (slice_get es j) refl x where
  by : (o : Option (List ℕ × Data)) → slice_get es j ≡ o → EntryIs b es j o (Some r) → ReadsEntry es j r
  by None is y = absurd y
  by (Some e) is y = record { entry = e; is = is; key = y.0; text = all_at (λ (q : List ℕ × Data). IsUtf8 q.0) es j e has.texts is; stands = y.1.stands }

module _ (h : List ℕ → List ℕ) (p : HamtShape) (rows : List Row) (room : ℕ) (key : TypeNo) (u : Slot) (way at : List ℕ) (slots : List TrieSlot) (i : ℕ) (v : NodeView) where
  abbrev Goes : TrieSlot → Moment → Result (Unit {0}) OpenFault → Moment → Type 0
  Goes s m r n = PassesSlot h p rows room key u way at slots i s m r n

  -- ---- a slot that was read

  pub at_empty : (s : TrieSlot) (m : Moment) → SlotHolds v slots i S.Empty s → Goes s m (Ok tt) m
  at_empty empty m x = slot_empty h p rows room key u way at slots i m
  at_empty (bucket es) m x = absurd x
  at_empty (child id) m x = absurd x

  pub at_bucket : (b : Bucket) (s : TrieSlot) (m n : Moment) (r : Result (Unit {0}) OpenFault) → slice_get slots i ≡ Some s → SlotHolds v slots i (S.Bucket b) s
      → ((es : List (List ℕ × Data)) → slice_get slots i ≡ Some (bucket es) → HasEntries b es → Goes (bucket es) m r n) → Goes s m r n
  at_bucket b empty m n r there x read = absurd x
  at_bucket b (bucket es) m n r there x read = read es there x.entries
  at_bucket b (child id) m n r there x read = absurd x

  pub at_child : (b : BlockId) (s : TrieSlot) (m n : Moment) (r : Result (Unit {0}) OpenFault) → slice_get slots i ≡ Some s → SlotHolds v slots i (S.Child b) s → (slice_get slots i ≡ Some (child b.0) → Goes (child b.0) m r n) → Goes s m r n
  at_child b empty m n r there x read = absurd x
  at_child b (bucket es) m n r there x read = absurd x
  at_child b (child id) m n r there x read = subst (λ c. Goes (child c) m r n) x (read (there ∙ ap (λ (c : List ℕ). Some (child c)) (sym x)))

-- ---- the node at the end of a way

module _ (h : List ℕ → List ℕ) (rows : List Row) (kind : ReadAs) (id way : List ℕ) (short : length way < trie_levels kind.shape) where
  abbrev Way : Moment → Result (Unit {0}) OpenFault → Moment → Type 0
  Way m r n = (above : List ℕ) (i : ℕ) → way ≡ above ++ i ∷ [] → PassesChild h kind.shape rows kind.room kind.key kind.value above i id m r n

  short_of : (above : List ℕ) (i : ℕ) → way ≡ above ++ i ∷ [] → suc (length above) < trie_levels kind.shape
  short_of above i is = let long = ap (λ (w : List ℕ). length w) is ∙ length-append above (i ∷ []) in omega (arith, short, long)

  pub node_known : (m : Moment) → ((above : List ℕ) (i : ℕ) → way ≡ above ++ i ∷ [] → FromBlocks m (λ held. SlotOwned h kind.shape rows kind.room kind.key kind.value held above i (child id))) → Way m (Ok tt) m
  node_known m own = λ above i is. child_known h kind.shape rows kind.room kind.key kind.value above i id (short_of above i is) m (own above i is)

  pub node_missing : (m n : Moment) (f : OpenFault) → GetsBlock m id (Err f) n → Way m (Err f) n
  node_missing m n f x = λ above i is. child_missing h kind.shape rows kind.room kind.key kind.value above i id (short_of above i is) m n f x

  pub node_faulty : (m n : Moment) (b : List ℕ) → GetsBlock m id (Ok b) n → (why : BlockWhy) (e : BlockId) → e.0 ≡ id → ReadsNode kind.shape b (Err why) → Way m (Err (F.Block e why)) n
  node_faulty m n b gets why e same reads = λ above i is. child_faulty h kind.shape rows kind.room kind.key kind.value above i id (short_of above i is) m n b gets why e same reads

  module _ (m k : Moment) (b : List ℕ) (gets : GetsBlock m id (Ok b) k) (v : NodeView) (x : IsNodeView kind.shape b v) where
    abbrev Slots : Moment → Result (Unit {0}) OpenFault → Moment → Type 0
    Slots o r n = (slots : List TrieSlot) → HasSlots kind.shape v slots → PassesSlots h kind.shape rows kind.room kind.key kind.value way id slots o r n

    down : (n : Moment) (r : Result (Unit {0}) OpenFault) → Slots k r n → (above : List ℕ) (i : ℕ) → way ≡ above ++ i ∷ [] → PassesSlots h kind.shape rows kind.room kind.key kind.value (above ++ i ∷ []) id x.slots k r n
    down n r read above i is = subst (λ w. PassesSlots h kind.shape rows kind.room kind.key kind.value w id x.slots k r n) is (read x.slots x.has)

    pub node_stops : (n : Moment) (e : OpenFault) → Slots k (Err e) n → Way m (Err e) n
    node_stops n e read = λ above i is. child_stops h kind.shape rows kind.room kind.key kind.value above i id (short_of above i is) m k b gets v x n e (down n (Err e) read above i is)

    pub node_done : AreBytes b → (n : Moment) → Slots k (Ok tt) n → Way m (Ok tt) n
    node_done bytes n read = λ above i is. child_done h kind.shape rows kind.room kind.key kind.value above i id (short_of above i is) m k b gets v x bytes n (down n (Ok tt) read above i is)
