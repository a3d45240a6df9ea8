-- Children that are appended.
use Rattle.std.specs.Prelude.{◌≡◌, ℕ, ◌++◌, List, map, OnOk, Result}
use Rattle.ild_beneath.specs.Children.{Child, found}
use Rattle.ild_dirty.specs.Beneath.{child_seen}
use Rattle.ild_dirty.specs.declared.beneath.Child.{Child as Found}
use Rattle.ild_open_held.specs.Splits.{Part}
use Rattle.ild_schema.specs.declared.row.Row.{Row}

-- where memory sufficed, these were appended
abbrev pub Pushes : {T E : Type 0} → Result T E → List Found → List Found → List Child → Type 0
Pushes r old new cs = OnOk r (map child_seen new ≡ map child_seen old ++ cs)

-- what a part tells, with so many steps to parts left
abbrev pub told : List Row → ℕ → Part → List Child
told rows steps p = found rows steps p.0 p.1
