-- What reading the nodes on a key's way gives.
use Rattle.std.specs.Prelude.{◌≡◌, ◌⊎◌, ℕ, ◌+◌, ◌≤◌, ◌<◌, suc, true, false, cond, List, [], length, slice_index_or, Some, Result, Ok, Err}
use Rattle.ild_data.specs.ByteOrder.{without}
use Rattle.ild_data.specs.Data.{Data}
use Rattle.ild_data.specs.Spell.{id_of}
use Rattle.ild_edges.specs.Count.{Rose}
use Rattle.ild_edges.specs.Store.{Moment, Later}
use Rattle.ild_edges.specs.Told.{IfTold}
use Rattle.ild_data.specs.declared.hamt_shape.HamtShape.{HamtShape}
use Rattle.ild_data.specs.TrieShape.{trie_levels}
use Rattle.ild_data.specs.Trie.{TrieSlot, child, is_child, bucket_entries}
use Rattle.ild_hamt_trie.specs.Way.{along, way}
use Rattle.ild_cbor.specs.declared.why.Why.TheVariants.{Trie}
use Rattle.ild_cbor.specs.declared.why.BlockWhy.{BlockWhy}
use Rattle.ild_cbor.specs.declared.why.BlockWhy.TheVariants.{Shape as NoNode}
use Rattle.ild_node_slots.specs.declared.fault.HamtFault.{HamtFault}
use Rattle.ild_node_slots.specs.declared.fault.HamtFault.TheVariants.{Block, Store, Memory}
use Rattle.ild_hamt.specs.declared.trail.Trail.{Trail}
use Rattle.ild_hamt.specs.Fetching.{BlockCause}
use Rattle.ild_hamt.specs.Ends.{hashes_of, is_full}
use Rattle.ild_edges.specs.Gained.{AreHeld}
use Rattle.ild_bulk_walker.specs.Trees.{HoldsBelow}
use Rattle.ild_hamt_climb.specs.Rewriting.{NodeAt}
use Rattle.ild_hamt_climb.specs.Way.{Leads, slot_for, IsRootOf}

abbrev pub trail_blocks : Trail → List (List ℕ)
trail_blocks t = t.blocks.items

abbrev pub trail_shape : Trail → HamtShape
trail_shape t = t.shape

-- the child on the way is refused: a level is left for it, and its block has this wrong in it
pub record IsBadChild (p : HamtShape) (hash : List ℕ) (m : Moment) (bs : List (List ℕ)) (last : List TrieSlot) (id : List ℕ) (why : BlockWhy) (n : Moment) : Type 0 where
  pub link : slot_for p hash (length bs) last ≡ child id
  pub room : length bs + 1 < trie_levels p
  pub cause : BlockCause p m id why n

-- the last node that was read has a child on the way, for which no level is left
pub record LinksBeyond (p : HamtShape) (hash : List ℕ) (bs : List (List ℕ)) (last : List TrieSlot) (id : List ℕ) : Type 0 where
  pub at : ℕ
  pub is_last : suc at ≡ length bs
  pub named : id_of (slice_index_or bs at []) ≡ id
  pub none_left : trie_levels p ≤ length bs + 1
  pub link : is_child (slot_for p hash (length bs) last) ≡ true

-- the trail of a key
pub record IsTrail (h : List ℕ → List ℕ) (p : HamtShape) (k : List ℕ) (bs : List (List ℕ)) (last : List TrieSlot) (t : Trail) : Type 0 where
  pub shape : t.shape ≡ p
  pub blocks : trail_blocks t ≡ bs
  pub key : t.key ≡ k
  pub hash : t.hash ≡ h k
  pub depth : t.depth ≡ length bs
  pub ends : is_child (slot_for p (h k) (length bs) last) ≡ false
  pub full : t.exhausted ≡ is_full h p k (h k) (length bs + 1) (bucket_entries (slot_for p (h k) (length bs) last))
  pub others : t.others.items ≡ hashes_of h (without k (bucket_entries (slot_for p (h k) (length bs) last)))

-- the trail is the way of a key through the trie of these entries, whose root node has these slots
pub record IsTrailOf (h : List ℕ → List ℕ) (p : HamtShape) (k : List ℕ) (slots : List TrieSlot) (es : List (List ℕ × Data)) (t : Trail) : Type 0 where
  pub shape : t.shape ≡ p
  pub root : IsRootOf h p es slots
  pub key : t.key ≡ k
  pub hash : t.hash ≡ h k
  pub depth : t.depth ≡ length (trail_blocks t)
  pub short : length (trail_blocks t) < trie_levels p
  pub way : trail_blocks t ≡ way h p k (trie_levels p) 0 es
  pub nodes : (j : ℕ) → j < length (trail_blocks t) → NodeAt h p k (trie_levels p) es j (slice_index_or (trail_blocks t) j [])
  pub ends : length (along h p k (length (trail_blocks t) + 1) 0 es) ≤ p.bucket
  pub full : t.exhausted ≡ is_full h p k (h k) (length (trail_blocks t) + 1) (along h p k (length (trail_blocks t) + 1) 0 es)
  pub others : t.others.items ≡ hashes_of h (without k (along h p k (length (trail_blocks t) + 1) 0 es))

abbrev pub DescendAnswer : (List ℕ → List ℕ) → HamtShape → List ℕ → Moment → List (List ℕ) → List TrieSlot → Result Trail HamtFault → Moment → Type 0
DescendAnswer h p k m bs last (Ok t) n = IsTrail h p k bs last t
DescendAnswer h p k m bs last (Err (Block id why)) n = IsBadChild p (h k) m bs last id.0 why n ⊎ ((why ≡ NoNode Trie) × LinksBeyond p (h k) bs last id.0)
DescendAnswer h p k m bs last (Err Store) n = Rose m.faults n.faults
DescendAnswer h p k m bs last (Err Memory) n = Unit {0}
DescendAnswer h p k m bs last (Err e) n = ⊥

-- the blocks that were read, each reached from the one before it; at most the next child was asked for too, where a level is
-- left for it
pub record Reads (p : HamtShape) (hash : List ℕ) (slots : List TrieSlot) (m : Moment) (bs : List (List ℕ)) (last : List TrieSlot) (n : Moment) : Type 0 where
  pub leads : Leads p hash 0 slots bs last
  pub short : length bs < trie_levels p
  pub held : IfTold m.blocks (AreHeld bs)
  pub gets : n.gets ≤ m.gets + length bs + cond (is_child (slot_for p hash (length bs) last)) 1 0
  pub deep : trie_levels p ≤ length bs + 1 → n.gets ≤ m.gets + length bs
  pub later : Later m n
  pub blocks : n.blocks ≡ m.blocks
  pub given : n.given ≡ m.given
  pub puts : n.puts ≡ m.puts

abbrev pub TrailIs : (List ℕ → List ℕ) → HamtShape → List ℕ → List TrieSlot → List (List ℕ × Data) → Result Trail HamtFault → Type 0
TrailIs h p k slots es (Ok t) = IsTrailOf h p k slots es t
TrailIs h p k slots es (Err Store) = Unit {0}
TrailIs h p k slots es (Err Memory) = Unit {0}
TrailIs h p k slots es (Err e) = ⊥

-- where the trie of these entries is held: the blocks are the nodes on the way, no block is refused, and no other is read
pub record DescendsTrie (h : List ℕ → List ℕ) (p : HamtShape) (k : List ℕ) (slots : List TrieSlot) (es : List (List ℕ × Data)) (m : Moment) (result : Result Trail HamtFault) (n : Moment) : Type 0 where
  pub trail : TrailIs h p k slots es result
  pub gets : n.gets ≤ m.gets + length (way h p k (trie_levels p) 0 es)

-- a descent along a key
pub record Descends (h : List ℕ → List ℕ) (p : HamtShape) (k : List ℕ) (slots : List TrieSlot) (m : Moment) (result : Result Trail HamtFault) (n : Moment) : Type 0 where
  pub bs : List (List ℕ)
  pub last : List TrieSlot
  pub reads : Reads p (h k) slots m bs last n
  pub answer : DescendAnswer h p k m bs last result n
  pub trie : (es : List (List ℕ × Data)) (held : List (List ℕ)) → IsRootOf h p es slots → m.blocks ≡ Some held → HoldsBelow h p held (trie_levels p) 0 es
      → DescendsTrie h p k slots es m result n
