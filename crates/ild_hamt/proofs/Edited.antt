-- What an edit along a trail leaves.
use Rattle.std.proofs.Common.{◌≡◌, inl, inr, ⊎_elim, ℕ, suc, ◌+◌, ◌-◌, ◌≤◌, ◌<◌, Bool, true, false, List, [], ◌∷◌, length, take, refl, sym, ap, subst, arith}
use Rattle.std.specs.Prelude.{All, IsSome, Result, Ok, Err}
use Rattle.std.specs.FinMap.{find, put}
use Rattle.std.specs.List.{AllByRecursion}
use Rattle.std.proofs.lemmas.Bool.{or_parts, leb-false}
use Rattle.ild_data.specs.declared.hamt_shape.HamtShape.{HamtShape}
use Rattle.ild_data.specs.ByteOrder.{bytewise, IsInOrder}
use Rattle.ild_data.specs.Data.{Data}
use Rattle.ild_data.specs.Limits.{longest_block}
use Rattle.ild_data.specs.TrieShape.{trie_levels}
use Rattle.ild_data.specs.Trie.{TrieSlot, is_child}
use Rattle.ild_edges.specs.Store.{Moment, Later, Keeps}
use Rattle.ild_edges.specs.Told.{BothTold}
use Rattle.ild_edges.proofs.Later.{Later-refl}
use Rattle.ild_node_slots.proofs.Shapes.{levels_some}
use Rattle.ild_node_slots.specs.declared.fault.HamtFault.{HamtFault}
use Rattle.ild_node_slots.specs.declared.fault.HamtFault.TheVariants as F
use Rattle.ild_bulk.specs.Build.{is_long, any_long}
use Rattle.ild_bulk.specs.Children.{AddsLinked}
use Rattle.ild_bulk.specs.Faults.{plan_fault}
use Rattle.ild_bulk.specs.Planned.{PlansSlot}
use Rattle.ild_bulk.specs.declared.fault.PlanFault.{PlanFault}
use Rattle.ild_bulk.specs.declared.fault.PlanFault.TheVariants as P
use Rattle.ild_edges.specs.Gained.{CameFrom}
use Rattle.ild_edges.proofs.Among.{IsIn-contains, IsIn-of}
use Rattle.ild_bulk.specs.Putting.{PutsAll, StopsAfter}
use Rattle.ild_bulk.proofs.Puts.{told-map, told-same}
use Rattle.ild_hamt_climb.specs.NodeBytes.{IsNodeBytes}
use Rattle.ild_hamt_climb.specs.Planning.{HoldsLinksOf, IsWritten, PutsWay, Rising, SpellsNode, ClimbsOver}
use Rattle.ild_hamt_climb.proofs.NodeTests.{node-tested}
use Rattle.ild_hamt_climb.proofs.Planning.{planned-bare}
use Rattle.ild_hamt.specs.Edits.{EditAnswer, SetsAlong, EditsFrom, RemovesAlong, entries_at_end, is_full_at_end}
use Rattle.ild_hamt.proofs.After.{told-both}
use Rattle.ild_hamt.proofs.Beneath.{among-take}
use Rattle.ild_hamt.proofs.Planned.{BegunAt, full-at-end}
use Rattle.ild_hamt.proofs.Whole.{stopped-whole}

-- ---- a root

written-bytes : (p : HamtShape) (root : List ℕ) (plan : List (List ℕ)) → IsWritten p root → any_long (root ∷ plan) ≡ false → IsNodeBytes p root
written-bytes p root plan is short =
    let parts = or_parts (is_long root) (any_long plan) short in
    let le = leb-false (suc longest_block) (length root) parts.0 in
    node-tested p root (record {
      slots = is.slots;
      is = record {
        within = record { tree = is.block.tree.tree; nested = is.block.tree.nested; sized = subst (λ (s : List ℕ). length s ≤ longest_block) is.block.spelled (omega (arith, le)) };
        spelled = is.block.spelled;
      };
      form = is.block.form;
    })

pub edits-from : (p : HamtShape) (bs : List (List ℕ)) (s : TrieSlot) (begun : List (List ℕ)) (root : List ℕ) (plan blocks : List (List ℕ)) (m : Moment) (r : Result (List ℕ) HamtFault) (n : Moment) → ClimbsOver p bs s begun plan → IsWritten p root → blocks ≡ plan
    → PutsWay root blocks m r n → EditsFrom p bs s begun m r n
edits-from p bs s begun root plan blocks m r n climbs written same puts = record { plan = plan; climbs = climbs; answer = by r (subst (λ (xs : List (List ℕ)). PutsWay root xs m r n) same puts) }
  where
    by : (r : Result (List ℕ) HamtFault) → PutsWay root plan m r n → EditAnswer p false plan m r n
    by (Ok b) puts = (subst (λ (x : List ℕ). IsNodeBytes p x) (sym puts.0) (written-bytes p root plan written puts.1), subst (λ (x : List ℕ). any_long (x ∷ plan) ≡ false) (sym puts.0) puts.1, puts.2)
    by (Err F.Size) puts = (record { root = root; written = written; long = puts.0 }, puts.1)
    by (Err F.Exhausted) puts = absurd puts.1.answer
    by (Err F.NoKey) puts = absurd puts.1.answer
    by (Err F.Memory) puts = inr puts.1
    by (Err (F.Block id why)) puts = puts.1
    by (Err F.Store) puts = puts.1
    by (Err (F.Clash id kept new)) puts = puts.1

-- ---- what is left

-- what puts of planned nodes leave
pub record Leaves (p : HamtShape) (bs plan : List (List ℕ)) (m n : Moment) : Type 0 where
  pub later : Later m n
  pub gets : n.gets ≡ m.gets
  pub puts : n.puts ≤ m.puts + length plan
  pub adds : BothTold m.blocks n.blocks (CameFrom plan)
  pub whole : BothTold m.blocks n.blocks (λ was now. All (HoldsLinksOf p was) bs → AddsLinked was now)

leaves-all : (p : HamtShape) (bs plan : List (List ℕ)) (m : Moment) → Leaves p bs plan m m
leaves-all p bs plan m = record {
  later = Later-refl m;
  gets = refl;
  puts = omega arith;
  adds = told-same m.blocks m.blocks (CameFrom plan) refl (λ was id b held. inl held);
  whole = told-same m.blocks m.blocks (λ was now. All (HoldsLinksOf p was) bs → AddsLinked was now) refl (λ was all id b held. inl held);
}

leaves-same : (p : HamtShape) (bs plan : List (List ℕ)) (m n : Moment) → n ≡ m → Leaves p bs plan m n
leaves-same p bs plan m n same = subst (λ (x : Moment). Leaves p bs plan m x) (sym same) (leaves-all p bs plan m)

leaves-puts : (p : HamtShape) (bs plan : List (List ℕ)) (m : Moment) (r : Result (Unit {0}) HamtFault) (n : Moment) → ((held : List (List ℕ)) → All (HoldsLinksOf p held) bs → Rising held [] plan) → PutsAll m plan r n → Leaves p bs plan m n
leaves-puts p bs plan m r n rises puts = record {
  later = puts.later;
  gets = puts.gets;
  puts = puts.puts;
  adds = told-map m.blocks n.blocks (StopsAfter plan puts.stops.0) (CameFrom plan)
      (λ was now stops id b held. ⊎_elim (λ before. inl before) (λ among. inr (IsIn-contains b plan (among-take b (puts.stops.0 + 1) plan (IsIn-of b (take (puts.stops.0 + 1) plan) among)))) (stops.adds id b held)) puts.stops.1;
  whole = told-both m.blocks n.blocks Keeps (StopsAfter plan puts.stops.0) (λ was now. All (HoldsLinksOf p was) bs → AddsLinked was now)
      (λ was now keeps stops all. stopped-whole plan puts.stops.0 was now keeps (rises was all) stops) puts.later.keeps puts.stops.1;
}

leaves : (p : HamtShape) (bs plan : List (List ℕ)) (full : Bool) (m : Moment) (r : Result (List ℕ) HamtFault) (n : Moment) → ((held : List (List ℕ)) → All (HoldsLinksOf p held) bs → Rising held [] plan) → EditAnswer p full plan m r n → Leaves p bs plan m n
leaves p bs plan full m (Ok root) n rises is = leaves-puts p bs plan m (Ok tt) n rises is.2
leaves p bs plan full m (Err F.Size) n rises is = leaves-same p bs plan m n is.1
leaves p bs plan full m (Err F.Exhausted) n rises is = leaves-same p bs plan m n is.1
leaves p bs plan full m (Err F.NoKey) n rises is = absurd is
leaves p bs plan full m (Err F.Memory) n rises is = ⊎_elim (λ same. leaves-same p bs plan m n same) (λ puts. leaves-puts p bs plan m (Err F.Memory) n rises puts) is
leaves p bs plan full m (Err (F.Block id why)) n rises is = leaves-puts p bs plan m (Err (F.Block id why)) n rises is
leaves p bs plan full m (Err F.Store) n rises is = leaves-puts p bs plan m (Err F.Store) n rises is
leaves p bs plan full m (Err (F.Clash id kept new)) n rises is = leaves-puts p bs plan m (Err (F.Clash id kept new)) n rises is

edits : (p : HamtShape) (bs plan : List (List ℕ)) (full : Bool) (m : Moment) (r : Result (List ℕ) HamtFault) (n : Moment) → AllByRecursion SpellsNode plan → length plan < trie_levels p → EditAnswer p full plan m r n → Leaves p bs plan m n → SetsAlong p bs full m r n
edits p bs plan full m r n nodes few answer left = record {
  plan = plan;
  nodes = nodes;
  few = few;
  answer = answer;
  later = left.later;
  gets = left.gets;
  puts = left.puts;
  adds = left.adds;
  whole = left.whole;
}

-- whatever is said of a key that has no place
fuller : (p : HamtShape) (full : Bool) (plan : List (List ℕ)) (m : Moment) (r : Result (List ℕ) HamtFault) (n : Moment) → EditAnswer p false plan m r n → EditAnswer p full plan m r n
fuller p full plan m (Ok root) n is = is
fuller p full plan m (Err F.Size) n is = is
fuller p full plan m (Err F.Exhausted) n is = absurd (let e : false ≡ true = is.0 in cc)
fuller p full plan m (Err F.NoKey) n is = is
fuller p full plan m (Err F.Memory) n is = is
fuller p full plan m (Err (F.Block id why)) n is = is
fuller p full plan m (Err F.Store) n is = is
fuller p full plan m (Err (F.Clash id kept new)) n is = is

pub edits-begun : (p : HamtShape) (bs : List (List ℕ)) (full : Bool) (left : ℕ) (s : TrieSlot) (begun : List (List ℕ)) (m : Moment) (r : Result (List ℕ) HamtFault) (n : Moment) → left + length bs < trie_levels p → BegunAt left s begun → EditsFrom p bs s begun m r n
    → SetsAlong p bs full m r n
edits-begun p bs full left s begun m r n short start from =
    edits p bs from.plan full m r n (from.climbs.nodes start.nodes) (let a = from.climbs.few in let b = start.few in omega (arith, a, b, short)) (fuller p full from.plan m r n from.answer)
    (leaves p bs from.plan false m r n (λ held all. from.climbs.rises held all (start.planned held)) from.answer)

pub bare-at : (s : TrieSlot) (plan : List (List ℕ)) → is_child s ≡ false → plan ≡ [] → BegunAt 0 s plan
bare-at s plan bare none = record {
  nodes = subst (λ (bs : List (List ℕ)). AllByRecursion SpellsNode bs) (sym none) tt;
  few = omega (arith, ap length none);
  planned = λ held. planned-bare held s plan bare none;
}

pub edits-none : (p : HamtShape) (bs : List (List ℕ)) (full : Bool) (m : Moment) (r : Result (List ℕ) HamtFault) → EditAnswer p full [] m r m → SetsAlong p bs full m r m
edits-none p bs full m r answer = edits p bs [] full m r m tt (levels_some p) answer (leaves-all p bs [] m)

-- ---- a removal

pub removes-along : (p : HamtShape) (k : List ℕ) (es : List (List ℕ × Data)) (bs : List (List ℕ)) (m : Moment) (r : Result (List ℕ) HamtFault) (n : Moment) → IsSome (find bytewise k es) → SetsAlong p bs false m r n → RemovesAlong p k es bs m r n
removes-along p k es bs m (Ok root) n some is = (some, is)
removes-along p k es bs m (Err F.NoKey) n some is = absurd is.answer
removes-along p k es bs m (Err F.Exhausted) n some is = (some, is)
removes-along p k es bs m (Err F.Size) n some is = (some, is)
removes-along p k es bs m (Err F.Memory) n some is = (some, is)
removes-along p k es bs m (Err (F.Block id why)) n some is = (some, is)
removes-along p k es bs m (Err F.Store) n some is = (some, is)
removes-along p k es bs m (Err (F.Clash id kept new)) n some is = (some, is)

-- ---- the end of a trail

-- no slot is planned there
pub slot-stopped : (p : HamtShape) (h : List ℕ → List ℕ) (k : List ℕ) (v : Data) (bs : List (List ℕ)) (last : List TrieSlot) (depth : ℕ) (rows : List (List ℕ × Data)) (e : PlanFault) (old plan : List (List ℕ)) (m : Moment)
    → IsInOrder (entries_at_end h p k bs last) → length (entries_at_end h p k bs last) ≤ p.bucket → depth ≡ length bs + 1 → rows ≡ put bytewise k v (entries_at_end h p k bs last)
    → PlansSlot h p (trie_levels p - depth) depth rows (Err e) old plan → SetsAlong p bs (is_full_at_end h p k bs last) m (Err (plan_fault e)) m
slot-stopped p h k v bs last depth rows P.Exhausted old plan m order small deep same plans = edits-none p bs (is_full_at_end h p k bs last) m (Err F.Exhausted) (full-at-end p h k v bs last depth rows order small deep same plans, refl)
slot-stopped p h k v bs last depth rows P.Memory old plan m order small deep same plans = edits-none p bs (is_full_at_end h p k bs last) m (Err F.Memory) (inl refl)
