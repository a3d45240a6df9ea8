-- What accepting a table says of it.
use Rattle.std.specs.Prelude.{◌≡◌, List}
use Rattle.ild_schema.specs.declared.row.Row.{Row}
use Rattle.ild_schema.specs.Accept.{Fault, IsFirstFault}

-- a table has one first fault
abbrev pub HasOneFault : List Row → Type 0
HasOneFault rows = (f g : Fault) → IsFirstFault rows f → IsFirstFault rows g → f ≡ g

-- an accepted table has none
abbrev pub HasNoFault : List Row → Type 0
HasNoFault rows = (f : Fault) → IsFirstFault rows f → ⊥
