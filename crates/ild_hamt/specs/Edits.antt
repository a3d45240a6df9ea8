-- What an edit along a trail leaves over every store, whether or not a trie stands beneath the root.
use Rattle.std.specs.Prelude.{◌≡◌, IfErr, ◌⊎◌, ℕ, ◌+◌, ◌≤◌, ◌<◌, Bool, true, false, All, IsSome, List, ◌∷◌, length, None, Result, Ok, Err}
use Rattle.std.specs.FinMap.{find}
use Rattle.std.specs.List.{AllByRecursion}
use Rattle.ild_data.specs.declared.hamt_shape.HamtShape.{HamtShape}
use Rattle.ild_data.specs.ByteOrder.{bytewise}
use Rattle.ild_data.specs.Data.{Data}
use Rattle.ild_data.specs.TrieShape.{trie_levels}
use Rattle.ild_data.specs.Trie.{TrieSlot, bucket_entries}
use Rattle.ild_edges.specs.Count.{Rose}
use Rattle.ild_edges.specs.Store.{Moment, Later}
use Rattle.ild_edges.specs.Told.{BothTold}
use Rattle.ild_node_slots.specs.Views.{HasSlots}
use Rattle.ild_node_slots.specs.declared.view.NodeView.{NodeView}
use Rattle.ild_node_slots.specs.declared.fault.HamtFault.{HamtFault}
use Rattle.ild_node_slots.specs.declared.fault.HamtFault.TheVariants.{Block, Clash, Exhausted, Memory, NoKey, Size, Store}
use Rattle.ild_bulk.specs.Build.{any_long}
use Rattle.ild_bulk.specs.Children.{AddsLinked}
use Rattle.ild_edges.specs.Gained.{CameFrom, Clashes}
use Rattle.ild_bulk.specs.Putting.{PutsAll}
use Rattle.ild_hamt_climb.specs.NodeBytes.{IsNodeBytes}
use Rattle.ild_hamt_climb.specs.Planning.{ClimbsOver, HoldsLinksOf, IsWritten, SpellsNode}
use Rattle.ild_hamt_climb.specs.Way.{Leads, slot_for}
use Rattle.ild_hamt.specs.Descending.{IsTrail, trail_blocks}
use Rattle.ild_hamt.specs.Ends.{is_full}
use Rattle.ild_hamt.specs.declared.trail.Trail.{Trail}

-- the trail is the way of a key from this root, through the blocks that it keeps to a node of the last slots
pub record IsTrailAlong (p : HamtShape) (root : NodeView) (t : Trail) (h : List ℕ → List ℕ) (k : List ℕ) (slots last : List TrieSlot) : Type 0 where
  pub has : HasSlots p root slots
  pub leads : Leads p (h k) 0 slots (trail_blocks t) last
  pub short : length (trail_blocks t) < trie_levels p
  pub trail : IsTrail h p k (trail_blocks t) last t

-- the entries of the bucket in which it ends, where the last node has these slots
abbrev pub entries_at_end : (List ℕ → List ℕ) → HamtShape → List ℕ → List (List ℕ) → List TrieSlot → List (List ℕ × Data)
entries_at_end h p k bs last = bucket_entries (slot_for p (h k) (length bs) last)

-- the bucket has no place for the key
abbrev pub is_full_at_end : (List ℕ → List ℕ) → HamtShape → List ℕ → List (List ℕ) → List TrieSlot → Bool
is_full_at_end h p k bs last = is_full h p k (h k) (length bs + 1) (entries_at_end h p k bs last)

-- a new root or a planned node is longer than a block may be
pub record IsLongPlan (p : HamtShape) (plan : List (List ℕ)) : Type 0 where
  pub root : List ℕ
  pub written : IsWritten p root
  pub long : any_long (root ∷ plan) ≡ true

-- the block of a new root, and the planned nodes put; or nothing was put, since one of them is too long, the key has no place or
-- memory was wanted; or why a put of them ended
abbrev pub EditAnswer : HamtShape → Bool → List (List ℕ) → Moment → Result (List ℕ) HamtFault → Moment → Type 0
EditAnswer p full plan m (Ok root) n = IsNodeBytes p root × (any_long (root ∷ plan) ≡ false) × PutsAll m plan (Ok tt) n
EditAnswer p full plan m (Err Size) n = IsLongPlan p plan × (n ≡ m)
EditAnswer p full plan m (Err Exhausted) n = (full ≡ true) × (n ≡ m)
EditAnswer p full plan m (Err NoKey) n = ⊥
EditAnswer p full plan m (Err Memory) n = (n ≡ m) ⊎ PutsAll m plan (Err Memory) n
EditAnswer p full plan m (Err e) n = PutsAll m plan (Err e) n

-- an edit along a trail of these blocks: nodes are planned, at most one for each level beneath the root. Each block that was added is
-- one of them, and has all its children held where the blocks of the trail had theirs held
pub record SetsAlong (p : HamtShape) (bs : List (List ℕ)) (full : Bool) (m : Moment) (result : Result (List ℕ) HamtFault) (n : Moment) : Type 0 where
  pub plan : List (List ℕ)
  pub nodes : AllByRecursion SpellsNode plan
  pub few : length plan < trie_levels p
  pub answer : EditAnswer p full plan m result n
  pub later : Later m n
  pub gets : n.gets ≡ m.gets
  pub puts : n.puts ≤ m.puts + length plan
  pub adds : BothTold m.blocks n.blocks (CameFrom plan)
  pub whole : BothTold m.blocks n.blocks (λ was now. All (HoldsLinksOf p was) bs → AddsLinked was now)

-- the removal of a key from among the entries at the end: it isn't there, and nothing is done, or such an edit
abbrev pub RemovesAlong : HamtShape → List ℕ → List (List ℕ × Data) → List (List ℕ) → Moment → Result (List ℕ) HamtFault → Moment → Type 0
RemovesAlong p k es bs m (Err NoKey) n = (find bytewise k es ≡ None) × (n ≡ m)
RemovesAlong p k es bs m result n = IsSome (find bytewise k es) × SetsAlong p bs false m result n

-- the same from a slot at the end on, with what is planned beneath it
pub record EditsFrom (p : HamtShape) (bs : List (List ℕ)) (s : TrieSlot) (begun : List (List ℕ)) (m : Moment) (result : Result (List ℕ) HamtFault) (n : Moment) : Type 0 where
  pub plan : List (List ℕ)
  pub climbs : ClimbsOver p bs s begun plan
  pub answer : EditAnswer p false plan m result n

-- ---- whatever the trail, the root and the store are

-- the store failed; or it holds a block under the id of another
abbrev pub FaultCause : Moment → HamtFault → Moment → Type 0
FaultCause m Store n = Rose m.faults n.faults
FaultCause m (Clash id kept new) n = Clashes n id.0 kept new
FaultCause m (Block id why) n = ⊥
FaultCause m e n = Unit {0}

pub record CausedBy (m : Moment) (result : Result (List ℕ) HamtFault) (n : Moment) : Type 0 where
  pub cause : IfErr result (λ e. FaultCause m e n)
  pub later : Later m n
