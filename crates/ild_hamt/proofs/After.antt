-- What a store holds after the rewriting of a way.
use Rattle.std.proofs.Common.{◌≡◌, inl, inr, ⊎_elim, ℕ, ◌+◌, false, List, [], ◌∷◌, take, Option, Some, None, sym, ap, ◌∙◌, subst}
use Rattle.std.specs.Prelude.{Result, Ok, Err, IsUtf8}
use Rattle.std.specs.List.{AllByRecursion}
use Rattle.std.specs.Prelude.{not}
use Rattle.std.specs.Ordering.{eq_by_cmp}
use Rattle.std.specs.FinMap.{put}
use Rattle.ild_data.proofs.AllOf.{all_filter}
use Rattle.ild_data.specs.declared.hamt_shape.HamtShape.{HamtShape}
use Rattle.ild_data.specs.ByteOrder.{bytewise, without}
use Rattle.ild_data.specs.Data.{Data}
use Rattle.ild_data.specs.Trie.{TrieSlot, node_of}
use Rattle.ild_data.specs.TrieShape.{trie_levels}
use Rattle.ild_edges.specs.Store.{Moment, Keeps}
use Rattle.ild_edges.specs.Told.{BothTold}
use Rattle.ild_hamt_trie.specs.Way.{way}
use Rattle.ild_hamt_trie.proofs.Node.{slots-node}
use Rattle.ild_typed.specs.Nested.{TreeIn}
use Rattle.ild_typed.proofs.Treed.{EntryIn}
use Rattle.ild_node.proofs.Placing.{all-put}
use Rattle.ild_node_slots.specs.Views.{HasSlots}
use Rattle.ild_node_slots.specs.declared.view.NodeView.{NodeView}
use Rattle.ild_node_slots.specs.declared.fault.HamtFault.{HamtFault}
use Rattle.ild_node_slots.specs.declared.fault.HamtFault.TheVariants as F
use Rattle.ild_bulk.specs.Build.{any_long}
use Rattle.ild_bulk.specs.Children.{AddsLinked}
use Rattle.ild_edges.specs.Gained.{CameFrom, AreHeld}
use Rattle.ild_edges.proofs.Among.{IsIn-contains, IsIn-of}
use Rattle.ild_bulk.specs.Putting.{PutsAll, StopsAfter}
use Rattle.ild_data.specs.TrieBlocks.{nodes_beneath}
use Rattle.ild_hamt.proofs.Beneath.{way-beneath, among-turned, among-take}
use Rattle.ild_bulk.proofs.Puts.{told-map, told-same}
use Rattle.ild_bulk_walker.specs.Trees.{HoldsBelow}
use Rattle.ild_hamt_climb.specs.Way.{IsRootOf}
use Rattle.ild_hamt.specs.Removing.{Removes}
use Rattle.ild_hamt_climb.proofs.Differing.{differs-without}
use Rattle.ild_hamt_climb.specs.Rewriting.{DiffersAt, HasRoot, Rewrites, way_up}
use Rattle.ild_hamt.specs.Rewriting.{HoldsAfter}
use Rattle.ild_hamt.proofs.Holding.{all-holds}
use Rattle.ild_hamt.proofs.Sound.{way-holds}
use Rattle.ild_hamt.proofs.Sounded.{entries-sound, way-short}
use Rattle.ild_hamt_climb.specs.Planning.{Rising}
use Rattle.ild_hamt.proofs.Whole.{WayOver, rising-way, way-over, stopped-whole}

-- the entries of the trie with the change are sound, where those of the old one are
abbrev pub KeepsSound : List (List ℕ × Data) → List (List ℕ × Data) → Type 0
KeepsSound es fs = AllByRecursion (EntryIn 92) es → AllByRecursion (EntryIn 92) fs

pub told-both : {A : Type 0} (o q : Option A) (P Q R : A → A → Type 0) → ((a b : A) → P a b → Q a b → R a b) → BothTold o q P → BothTold o q Q → BothTold o q R
told-both None None P Q R f t u = tt
told-both None (Some b) P Q R f t u = absurd t
told-both (Some a) None P Q R f t u = absurd t
told-both (Some a) (Some b) P Q R f t u = f a b t u

-- nothing was put
unchanged : (p : HamtShape) (h : List ℕ → List ℕ) (es fs : List (List ℕ × Data)) (e : HamtFault) (m n : Moment) → n ≡ m → BothTold m.blocks n.blocks (HoldsAfter h p es fs (Err e))
unchanged p h es fs e m n is = told-same m.blocks n.blocks (HoldsAfter h p es fs (Err e)) (ap (λ (x : Moment). x.blocks) is) (λ a. record { nodes = λ id b held. inl held; held = λ below. tt; whole = λ below id b held. inl held })

rises : (p : HamtShape) (h : List ℕ → List ℕ) (k : List ℕ) (slots : List TrieSlot) (es fs : List (List ℕ × Data)) (root : List ℕ) (was : List (List ℕ)) → IsRootOf h p es slots → DiffersAt k es fs → HasRoot h p fs root
    → HoldsBelow h p was (trie_levels p) 0 es → Rising was [] (way_up h p k fs)
rises p h k slots es fs root was is d has below =
    let new = slots-node h p is.left 0 fs has.node (sym (ap (λ n. node_of h p n 0 fs) is.all) ∙ has.is) in
    rising-way was (way h p k (trie_levels p) 0 fs)
    (subst (λ (n : ℕ). WayOver was (way h p k n 0 fs)) (sym is.all)
    (way-over h p k was is.left 0 es fs new.0 d (inl (slots, is.node)) new.1 (subst (λ (n : ℕ). HoldsBelow h p was n 0 es) is.all below)))

whole-after : (p : HamtShape) (h : List ℕ → List ℕ) (k : List ℕ) (slots : List TrieSlot) (es fs : List (List ℕ × Data)) (root : List ℕ) (m n : Moment) (r : Result (Unit {0}) HamtFault) → IsRootOf h p es slots → DiffersAt k es fs
    → HasRoot h p fs root → PutsAll m (way_up h p k fs) r n → BothTold m.blocks n.blocks (λ was now. HoldsBelow h p was (trie_levels p) 0 es → AddsLinked was now)
whole-after p h k slots es fs root m n r is d has puts =
    told-both m.blocks n.blocks Keeps (StopsAfter (way_up h p k fs) puts.stops.0) (λ was now. HoldsBelow h p was (trie_levels p) 0 es → AddsLinked was now)
    (λ was now keeps stops below. stopped-whole (way_up h p k fs) puts.stops.0 was now keeps (rises p h k slots es fs root was is d has below) stops) puts.later.keeps puts.stops.1

-- what was added is on the way
nodes-after : (p : HamtShape) (h : List ℕ → List ℕ) (k : List ℕ) (fs : List (List ℕ × Data)) (m n : Moment) (r : Result (Unit {0}) HamtFault) → PutsAll m (way_up h p k fs) r n
    → BothTold m.blocks n.blocks (CameFrom (nodes_beneath h p (trie_levels p) 0 fs))
nodes-after p h k fs m n r puts =
    told-map m.blocks n.blocks (StopsAfter (way_up h p k fs) puts.stops.0) (CameFrom (nodes_beneath h p (trie_levels p) 0 fs))
    (λ was now stops id b held. ⊎_elim (λ before. inl before)
    (λ among. inr (IsIn-contains b (nodes_beneath h p (trie_levels p) 0 fs) (way-beneath h p k (trie_levels p) 0 fs b (among-turned b (way h p k (trie_levels p) 0 fs) (among-take b (puts.stops.0 + 1) (way_up h p k fs)
    (IsIn-of b (take (puts.stops.0 + 1) (way_up h p k fs)) among))))))
    (stops.adds id b held)) puts.stops.1

-- a put that stopped
stops-after : (p : HamtShape) (h : List ℕ → List ℕ) (k : List ℕ) (slots : List TrieSlot) (es fs : List (List ℕ × Data)) (root : List ℕ) (m n : Moment) (e : HamtFault) → IsRootOf h p es slots → DiffersAt k es fs
    → HasRoot h p fs root → PutsAll m (way_up h p k fs) (Err e) n → BothTold m.blocks n.blocks (HoldsAfter h p es fs (Err e))
stops-after p h k slots es fs root m n e is d has puts =
    told-both m.blocks n.blocks (CameFrom (nodes_beneath h p (trie_levels p) 0 fs)) (λ was now. HoldsBelow h p was (trie_levels p) 0 es → AddsLinked was now) (HoldsAfter h p es fs (Err e))
    (λ was now a f. record { nodes = a; held = λ below. tt; whole = f }) (nodes-after p h k fs m n (Err e) puts) (whole-after p h k slots es fs root m n (Err e) is d has puts)

-- all was put
done-after : (p : HamtShape) (h : List ℕ → List ℕ) (k : List ℕ) (view : NodeView) (slots : List TrieSlot) (es fs : List (List ℕ × Data)) (root : List ℕ) (m n : Moment) → HasSlots p view slots → IsRootOf h p es slots → DiffersAt k es fs → KeepsSound es fs
    → HasRoot h p fs root → any_long (root ∷ way_up h p k fs) ≡ false → PutsAll m (way_up h p k fs) (Ok tt) n → BothTold m.blocks n.blocks (HoldsAfter h p es fs (Ok root))
done-after p h k view slots es fs root m n has_slots is d sound has short puts =
    told-both m.blocks n.blocks (λ was now. Keeps was now × AreHeld (way_up h p k fs) now) (λ was now. CameFrom (nodes_beneath h p (trie_levels p) 0 fs) was now × (HoldsBelow h p was (trie_levels p) 0 es → AddsLinked was now)) (HoldsAfter h p es fs (Ok root))
    (λ was now kept f. record {
      nodes = f.0;
      held = λ below.
          let all = sound (entries-sound p h was is.left 0 es slots is.node has_slots.stands.within has_slots.form.each (subst (λ (l : ℕ). HoldsBelow h p was l 0 es) is.all below)) in
          all-holds h p k was now es fs slots kept.0 is d below
          (way-holds p h k now (trie_levels p) 0 fs d.now all (way-short (way h p k (trie_levels p) 0 fs) now root short kept.1));
      whole = f.1;
    })
    (told-both m.blocks n.blocks Keeps (λ was now. AreHeld (way_up h p k fs) now) (λ was now. Keeps was now × AreHeld (way_up h p k fs) now) (λ was now a b. (a, b)) puts.later.keeps puts.answer.0)
    (told-both m.blocks n.blocks (CameFrom (nodes_beneath h p (trie_levels p) 0 fs)) (λ was now. HoldsBelow h p was (trie_levels p) 0 es → AddsLinked was now)
    (λ was now. CameFrom (nodes_beneath h p (trie_levels p) 0 fs) was now × (HoldsBelow h p was (trie_levels p) 0 es → AddsLinked was now)) (λ was now a b. (a, b))
    (nodes-after p h k fs m n (Ok tt) puts) (whole-after p h k slots es fs root m n (Ok tt) is d has puts))

pub holds-after : (p : HamtShape) (h : List ℕ → List ℕ) (k : List ℕ) (view : NodeView) (slots : List TrieSlot) (es fs : List (List ℕ × Data)) (m n : Moment) (r : Result (List ℕ) HamtFault) → HasSlots p view slots → IsRootOf h p es slots
    → DiffersAt k es fs → KeepsSound es fs → Rewrites h p k fs m r n → BothTold m.blocks n.blocks (HoldsAfter h p es fs r)
holds-after p h k view slots es fs m n (Ok root) has is d sound done = done-after p h k view slots es fs root m n has is d sound done.0 done.1 done.2
holds-after p h k view slots es fs m n (Err F.Exhausted) has is d sound done = absurd done
holds-after p h k view slots es fs m n (Err F.NoKey) has is d sound done = absurd done
holds-after p h k view slots es fs m n (Err F.Size) has is d sound done = unchanged p h es fs F.Size m n done.1
holds-after p h k view slots es fs m n (Err F.Memory) has is d sound done =
    ⊎_elim (λ same. unchanged p h es fs F.Memory m n same) (λ stops. stops-after p h k slots es fs stops.root m n F.Memory is d stops.has stops.puts) done
holds-after p h k view slots es fs m n (Err (F.Block id why)) has is d sound done = stops-after p h k slots es fs done.root m n (F.Block id why) is d done.has done.puts
holds-after p h k view slots es fs m n (Err F.Store) has is d sound done = stops-after p h k slots es fs done.root m n F.Store is d done.has done.puts
holds-after p h k view slots es fs m n (Err (F.Clash id kept new)) has is d sound done = stops-after p h k slots es fs done.root m n (F.Clash id kept new) is d done.has done.puts

-- ---- of a set and of a removal

pub sound-put : (k : List ℕ) (v : Data) (es : List (List ℕ × Data)) → IsUtf8 k → TreeIn 92 v → KeepsSound es (put bytewise k v es)
sound-put k v es utf8 nested all = all-put (EntryIn 92) k v es (λ q d is. (is.0, nested)) all (utf8, nested)

pub removes-after : (p : HamtShape) (h : List ℕ → List ℕ) (k : List ℕ) (view : NodeView) (slots : List TrieSlot) (es : List (List ℕ × Data)) (m n : Moment) (r : Result (List ℕ) HamtFault) → HasSlots p view slots → IsRootOf h p es slots
    → Removes h p k es m r n → BothTold m.blocks n.blocks (HoldsAfter h p es (without k es) r)
removes-after p h k view slots es m n r has is done = by r done
  where
    other : (r : Result (List ℕ) HamtFault) → Rewrites h p k (without k es) m r n → BothTold m.blocks n.blocks (HoldsAfter h p es (without k es) r)
    other r rewrites = holds-after p h k view slots es (without k es) m n r has is (differs-without k es is.order) (all_filter (EntryIn 92) (λ e. not (eq_by_cmp bytewise k e.0)) es) rewrites

    by : (r : Result (List ℕ) HamtFault) → Removes h p k es m r n → BothTold m.blocks n.blocks (HoldsAfter h p es (without k es) r)
    by (Ok root) done = other (Ok root) done.1
    by (Err F.NoKey) done = unchanged p h es (without k es) F.NoKey m n done.1
    by (Err F.Exhausted) done = other (Err F.Exhausted) done.1
    by (Err F.Size) done = other (Err F.Size) done.1
    by (Err F.Memory) done = other (Err F.Memory) done.1
    by (Err (F.Block id why)) done = other (Err (F.Block id why)) done.1
    by (Err F.Store) done = other (Err F.Store) done.1
    by (Err (F.Clash id kept new)) done = other (Err (F.Clash id kept new)) done.1
