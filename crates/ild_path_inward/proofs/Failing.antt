-- Over every store: a fault of the store comes only where it failed, through calls and after reads; and entries are under the schema.
use Rattle.std.proofs.Common.{◌≡◌, ◌-◌, List, length, Some, Result, Ok, Err, slice_get, sym, subst, arith}
use Rattle.std.specs.List.{All}
use Rattle.std.proofs.lemmas.Option.{get_or_from_slice_get, slice_get_within}
use Rattle.ild_edges.specs.Store.{Moment}
use Rattle.ild_node_slots.specs.declared.fault.HamtFault.{HamtFault}
use Rattle.ild_node_slots.specs.declared.fault.HamtFault.TheVariants as F
use Rattle.ild_open_parts.specs.Reads.{OnlyReads}
use Rattle.ild_path_enter.specs.Enters.{FailsOnly}
use Rattle.ild_path_hops.specs.declared.hop.Hop.{Hop}
use Rattle.ild_path_inward.specs.Levels.{IsUnder}
use Rattle.ild_schema.specs.declared.row.Row.{Row}

-- the fault alone is told of
pub same_fails : (A B : Type 0) (m n : Moment) (e : HamtFault) → FailsOnly {A = A} m (Err e) n → FailsOnly {A = B} m (Err e) n
same_fails A B m n F.Store f = f
same_fails A B m n F.Memory f = tt
same_fails A B m n (F.Block id why) f = tt
same_fails A B m n F.Exhausted f = absurd f
same_fails A B m n F.NoKey f = absurd f
same_fails A B m n F.Size f = absurd f
same_fails A B m n (F.Clash id kept new) f = absurd f

-- behind reads
pub later_fails : (A : Type 0) (m k n : Moment) → OnlyReads m k → (r : Result A HamtFault) → FailsOnly k r n → FailsOnly m r n
later_fails A m k n reads (Ok x) f = tt
later_fails A m k n reads (Err F.Store) f = let le = reads.later.faults in omega (arith, f, le)
later_fails A m k n reads (Err F.Memory) f = tt
later_fails A m k n reads (Err (F.Block id why)) f = tt
later_fails A m k n reads (Err F.Exhausted) f = absurd f
later_fails A m k n reads (Err F.NoKey) f = absurd f
later_fails A m k n reads (Err F.Size) f = absurd f
later_fails A m k n reads (Err (F.Clash id kept new)) f = absurd f

-- the last of hops under a schema
pub last_under : (rows : List Row) (hops : List Hop) (hop : Hop) → Some hop ≡ slice_get hops (length hops - 1) → All (IsUnder rows) hops → IsUnder rows hop
last_under rows hops hop is all =
    let k = length hops - 1 in
    subst (IsUnder rows) (get_or_from_slice_get hops k hop hop (sym is)) (all k hop (slice_get_within hops k hop (sym is)))
