-- What exchanging the entry of one key gives and leaves.
use Rattle.std.specs.Prelude.{◌≡◌, ◌≢◌, ◌⊎◌, ℕ, suc, ◌+◌, ◌-◌, ◌<◌, nat_le, slice_index_or, true, false, List, [], ◌∷◌, ◌++◌, length, reverse, Option, Some, Result, Ok, Err}
use Rattle.std.specs.FinMap.{find}
use Rattle.ild_data.specs.Data.{Data}
use Rattle.ild_data.specs.Spell.{spell}
use Rattle.ild_edges.specs.Store.{Moment}
use Rattle.ild_data.specs.declared.hamt_shape.HamtShape.{HamtShape}
use Rattle.ild_data.specs.TrieShape.{trie_levels}
use Rattle.ild_data.specs.Trie.{TrieSlot, slot_of, node_of, slots_at}
use Rattle.ild_data.specs.ByteOrder.{bytewise, IsInOrder}
use Rattle.ild_data.specs.TrieBlocks.{node_and_beneath, none_or, block_of}
use Rattle.ild_hamt_trie.specs.Way.{along, way}
use Rattle.ild_bulk_walker.specs.Gives.{IsNodeOf}
use Rattle.ild_bulk.specs.Build.{any_long}
use Rattle.ild_bulk.specs.Putting.{PutsAll}
use Rattle.ild_node_slots.specs.declared.fault.HamtFault.{HamtFault}
use Rattle.ild_node_slots.specs.declared.fault.HamtFault.TheVariants.{Exhausted, Size, NoKey, Memory}

-- the second list has the same entries as the first, but for the key's; both are in order
pub record DiffersAt (k : List ℕ) (es fs : List (List ℕ × Data)) : Type 0 where
  pub was : IsInOrder es
  pub now : IsInOrder fs
  pub others : (q : List ℕ) → q ≢ k → find bytewise q fs ≡ find bytewise q es

-- the nodes beneath the root on the key's way in the trie of entries, each behind those beneath it
abbrev pub way_up : (List ℕ → List ℕ) → HamtShape → List ℕ → List (List ℕ × Data) → List (List ℕ)
way_up h p k es = reverse (way h p k (trie_levels p) 0 es)

-- the entries have a trie of this root node
pub record HasRoot (h : List ℕ → List ℕ) (p : HamtShape) (es : List (List ℕ × Data)) (root : List ℕ) : Type 0 where
  pub node : Data
  pub is : node_of h p (trie_levels p) 0 es ≡ Some node
  pub spelled : root ≡ spell node

-- no node on the way is too long, and a put of them ended so
pub record StopsAt (h : List ℕ → List ℕ) (p : HamtShape) (k : List ℕ) (es : List (List ℕ × Data)) (m : Moment) (e : HamtFault) (n : Moment) : Type 0 where
  pub root : List ℕ
  pub has : HasRoot h p es root
  pub short : any_long (root ∷ way_up h p k es) ≡ false
  pub puts : PutsAll m (way_up h p k es) (Err e) n

-- the root node or another one on the way is too long
pub record IsLongWay (h : List ℕ → List ℕ) (p : HamtShape) (k : List ℕ) (es : List (List ℕ × Data)) : Type 0 where
  pub root : List ℕ
  pub has : HasRoot h p es root
  pub long : any_long (root ∷ way_up h p k es) ≡ true

-- the root node of the trie of the new entries, and the other nodes on the key's way put; or why not
abbrev pub Rewrites : (List ℕ → List ℕ) → HamtShape → List ℕ → List (List ℕ × Data) → Moment → Result (List ℕ) HamtFault → Moment → Type 0
Rewrites h p k es m (Ok root) n = HasRoot h p es root × (any_long (root ∷ way_up h p k es) ≡ false) × PutsAll m (way_up h p k es) (Ok tt) n
Rewrites h p k es m (Err Exhausted) n = ⊥
Rewrites h p k es m (Err NoKey) n = ⊥
Rewrites h p k es m (Err Size) n = IsLongWay h p k es × (n ≡ m)
Rewrites h p k es m (Err Memory) n = (n ≡ m) ⊎ StopsAt h p k es m Memory n
Rewrites h p k es m (Err e) n = StopsAt h p k es m e n

-- ---- from the end of the way up

-- the block of the node of entries, where a bucket doesn't take them
abbrev pub own_block : ℕ → (List (List ℕ × Data) → Option Data) → List (List ℕ × Data) → List (List ℕ)
own_block most below es = none_or (nat_le (length es) most) (λ fs. block_of (below fs)) es

-- the slot that entries have in the node above, and the block of their own node, where they have one, behind those that were there
pub record Lifts (h : List ℕ → List ℕ) (p : HamtShape) (left depth : ℕ) (es : List (List ℕ × Data)) (slot : TrieSlot) (old new : List (List ℕ)) : Type 0 where
  pub slot_is : slot_of p.bucket (node_of h p left depth) es ≡ Some slot
  pub plan_is : new ≡ old ++ own_block p.bucket (node_of h p left depth) es

-- the blocks of the node of the entries along the key, and of those beneath it on the way
abbrev pub way_at : (List ℕ → List ℕ) → HamtShape → List ℕ → List (List ℕ × Data) → ℕ → List (List ℕ)
way_at h p k es n = node_and_beneath p.bucket (node_of h p (trie_levels p - (n + 1)) (n + 1)) (way h p k (trie_levels p - (n + 1)) (n + 1)) (along h p k (n + 1) 0 es)

-- from the bottom up to the slot of the node at a place of the way: the slot, and the blocks to be put beneath it
pub record ClimbedTo (h : List ℕ → List ℕ) (p : HamtShape) (k : List ℕ) (es : List (List ℕ × Data)) (n : ℕ) (slot : TrieSlot) (plan : List (List ℕ)) : Type 0 where
  pub slot_is : slot_of p.bucket (node_of h p (trie_levels p - (n + 1)) (n + 1)) (along h p k (n + 1) 0 es) ≡ Some slot
  pub plan_is : plan ≡ reverse (way_at h p k es n)

-- the node at a place of a way, whose block this is
pub record NodeAt (h : List ℕ → List ℕ) (p : HamtShape) (k : List ℕ) (left : ℕ) (es : List (List ℕ × Data)) (j : ℕ) (b : List ℕ) : Type 0 where
  pub slots : List TrieSlot
  pub node : IsNodeOf p b slots
  pub less : ℕ
  pub left_is : left ≡ suc (j + suc less)
  pub stands : slots_at h p less (j + 1) (along h p k (j + 1) 0 es) ≡ Some slots
  pub many : p.bucket < length (along h p k (j + 1) 0 es)

-- a climb's state: the blocks of the nodes above in the trie of the old entries, and what it is climbed to in that of the new ones
pub record ClimbState (h : List ℕ → List ℕ) (p : HamtShape) (k : List ℕ) (es fs : List (List ℕ × Data)) (bs : List (List ℕ)) (depth : ℕ) (slot : TrieSlot) (plan : List (List ℕ)) : Type 0 where
  pub deep : depth ≡ length bs
  pub nodes : (j : ℕ) → j < length bs → NodeAt h p k (trie_levels p) es j (slice_index_or bs j [])
  pub climbed : ClimbedTo h p k fs (length bs) slot plan
