-- What counting the types and parts of events gives.
use Rattle.std.specs.Prelude.{◌≡◌, ℕ, ◌+◌, List, Some, None, Result, Ok, Err, option_map}
use Rattle.ild_resolve.specs.Events.{Event, types_in}
use Rattle.ild_resolve.specs.Faults.{first_above}
use Rattle.ild_resolve.specs.declared.error.ResolveErr.{ResolveErr}
use Rattle.ild_resolve.specs.declared.error.ResolveErr.TheVariants as E

-- Behind so many types these events count up to the new number, where no limit is passed; else the fault is the first one.
abbrev pub Counts : ℕ → List Event → Result (Unit {0}) ResolveErr → ℕ → Type 0
Counts old es (Ok done) new = (first_above old es ≡ None) × (new ≡ old + types_in es)
Counts old es (Err e) new = option_map E.Many (first_above old es) ≡ Some e
