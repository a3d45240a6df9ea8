-- The faults of making a proof, as those of reading a part.
use Rattle.std.specs.Prelude.{Bool, Result, Ok, Err}
use Rattle.ild_data.specs.declared.tree.Tree.{Tree}
use Rattle.ild_data.specs.declared.tree.Tree.TheVariants as T
use Rattle.ild_node_slots.specs.Faults.{IsReadFault}
use Rattle.ild_node_slots.specs.declared.fault.HamtFault.{HamtFault}
use Rattle.ild_run_follow.specs.declared.fault.ReadFault.{ReadFault}
use Rattle.ild_run_follow.specs.inside.Faults.{hamt_fault}
use Rattle.ild_view.specs.declared.view.View.{View}

-- whether a part is there
abbrev pub told_as : Result Bool HamtFault → Result Tree ReadFault
told_as (Ok b) = Ok (T.Bool b)
told_as (Err e) = Err (hamt_fault e)

abbrev pub viewed_as : Result View HamtFault → Result View ReadFault
viewed_as (Ok v) = Ok v
viewed_as (Err e) = Err (hamt_fault e)

-- a fault is one of reading
abbrev pub IsAlone : {A : Type 0} → Result A HamtFault → Type 0
IsAlone (Ok x) = Unit {0}
IsAlone (Err e) = IsReadFault e
