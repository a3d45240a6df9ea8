-- Over every store: a fault of the store comes only where it failed.
use Rattle.std.proofs.Common.{ℕ, List, Result, Ok, Err, sym, subst, arith}
use Rattle.std.proofs.Math.Logic.{∥∥₁_elim}
use Rattle.std.proofs.Props.{props}
use Rattle.ild_edges.specs.Store.{Moment}
use Rattle.ild_node_slots.specs.declared.fault.HamtFault.{HamtFault}
use Rattle.ild_node_slots.specs.declared.fault.HamtFault.TheVariants as H
use Rattle.ild_open_parts.specs.Reads.{OnlyReads}
use Rattle.ild_path_enter.specs.Enters.{FailsOnly as HamtFailsOnly}
use Rattle.ild_path_place.specs.inside.Endings.{EndsIn, fault_at}
use Rattle.ild_path_place.specs.Faults.{hamt_fault}
use Rattle.ild_path_place.specs.Places.{LocatesWhole}
use Rattle.ild_path_place.specs.Rooted.{FailsOnly}
use Rattle.ild_path_place.specs.declared.ending.Found.{Found}
use Rattle.ild_path_place.specs.declared.fault.PathFault.{PathFault}
use Rattle.ild_path_place.specs.declared.fault.PathFault.TheVariants as F
use Rattle.ild_path_place.specs.declared.place.Place.{Place}
use Rattle.ild_path_rules.specs.declared.delete.Refusal.{Refusal}
use Rattle.ild_path_rules.specs.declared.delete.Refusal.TheVariants as R
use Rattle.ild_path_place.specs.declared.verb.Verb.{Verb}
use Rattle.ild_path_place.specs.declared.verb.Verb.TheVariants as V
use Rattle.ild_schema.specs.Value.{Value}
use Rattle.ild_schema.specs.declared.number.Slot.{Slot}
use Rattle.ild_view.specs.View.{IsView, slot_of, table_of}
use Rattle.ild_view.specs.declared.view.View.{View}

-- as the fault of a path
pub path_fails : (A B : Type 0) (m n : Moment) (e : HamtFault) → HamtFailsOnly {A = A} m (Err e) n → FailsOnly {A = B} m (Err (hamt_fault e)) n
path_fails A B m n H.Store f = f
path_fails A B m n H.Memory f = tt
path_fails A B m n (H.Block id why) f = tt
path_fails A B m n H.Exhausted f = absurd f
path_fails A B m n H.NoKey f = absurd f
path_fails A B m n H.Size f = absurd f
path_fails A B m n (H.Clash id kept new) f = absurd f

-- the fault alone is told of
pub same_fails : (A B : Type 0) (m n : Moment) (e : PathFault) → FailsOnly {A = A} m (Err e) n → FailsOnly {A = B} m (Err e) n
same_fails A B m n F.Store f = f
same_fails A B m n F.Memory f = tt
same_fails A B m n F.Mismatch f = tt
same_fails A B m n (F.Path k) f = tt
same_fails A B m n (F.Block id why) f = tt

-- behind reads
pub later_fails : (A : Type 0) (m k n : Moment) → OnlyReads m k → (r : Result A PathFault) → FailsOnly k r n → FailsOnly m r n
later_fails A m k n reads (Ok x) f = tt
later_fails A m k n reads (Err F.Store) f = let le = reads.later.faults in omega (arith, f, le)
later_fails A m k n reads (Err F.Memory) f = tt
later_fails A m k n reads (Err F.Mismatch) f = tt
later_fails A m k n reads (Err (F.Path i)) f = tt
later_fails A m k n reads (Err (F.Block id why)) f = tt

-- nothing is asked of the store
pub refused_fails : (A : Type 0) (m n : Moment) (k : ℕ) (r : Refusal) → FailsOnly {A = A} m (Err (fault_at k r)) n
refused_fails A m n k R.Path = tt
refused_fails A m n k R.Mismatch = tt

pub block_fails : (v : View) (front : List (List ℕ)) (s : List ℕ) (k : ℕ) (verb : Verb) (m n : Moment) (r : Result Found PathFault) → ((f : Value) → IsView v f → EndsIn (table_of v) (slot_of v, f) front s k verb r) → FailsOnly m r n
block_fails v front s k verb m n (Ok x) all = tt
block_fails v front s k verb m n (Err F.Store) all =
    ∥∥₁_elim v.stands (hlevel props) (λ x. absurd (all x.value (record { room = x.room; tree = x.tree; stands = x.stands; front = x.front })))
block_fails v front s k verb m n (Err F.Memory) all = tt
block_fails v front s k verb m n (Err F.Mismatch) all = tt
block_fails v front s k verb m n (Err (F.Path i)) all = tt
block_fails v front s k verb m n (Err (F.Block id why)) all = tt

pub whole_fails : (slot : Slot) (verb : Verb) (m n : Moment) (r : Result Place PathFault) → LocatesWhole slot verb r → FailsOnly m r n
whole_fails slot verb m n (Ok place) x = tt
whole_fails slot V.Ins m n (Err e) x = subst (λ (z : PathFault). FailsOnly {A = Place} m (Err z) n) (sym x) tt
whole_fails slot V.Del m n (Err e) x = subst (λ (z : PathFault). FailsOnly {A = Place} m (Err z) n) (sym x) tt
whole_fails slot V.Set m n (Err e) x = absurd x
