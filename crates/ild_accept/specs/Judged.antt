-- How a call answers that judges a table.
use Rattle.std.specs.Prelude.{◌≡◌, ◌⊎◌, List, Option, Some, None, Result, Ok, Err}
use Rattle.ild_schema.specs.declared.row.Row.{Row}
use Rattle.ild_schema.specs.Accept.{Fault, IsFirstFault}
use Rattle.ild_accept.specs.declared.error.AcceptErr.{AcceptErr}
use Rattle.ild_accept.specs.declared.error.AcceptErr.TheVariants as E

-- the fault that an error tells, if it isn't want of memory
abbrev pub told : AcceptErr → Option Fault
told (E.Fault rule ty at) = Some (record { rule = rule; ty = ty.0; at = at })
told E.Memory = None

-- where there is a fault, it is told, or want of memory
abbrev pub Tells : {A : Type 0} → Option Fault → Result A AcceptErr → Type 0
Tells fault (Ok a) = fault ≡ None
Tells fault (Err e) = (e ≡ E.Memory) ⊎ ((f : Fault) × (told e ≡ Some f) × (fault ≡ Some f))

-- want of memory, or the first fault of a table
abbrev pub IsFaultOf : List Row → AcceptErr → Type 0
IsFaultOf rows e = (e ≡ E.Memory) ⊎ ((f : Fault) × (told e ≡ Some f) × IsFirstFault rows f)
