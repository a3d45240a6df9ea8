-- What stands against a value while it is written.
use Rattle.std.specs.Prelude.{◌≡◌, ℕ, ◌+◌, ◌≤◌, Bool, true, false}
use Rattle.ild_build_entries.specs.declared.nodes.Nodes.{Nodes}

abbrev pub told : Bool → ℕ
told true = 1
told false = 0

-- the flag is set where it was, or where some are counted
pub record SetWhere (was : Bool) (count : ℕ) (now : Bool) : Type 0 where
  pub set : 1 ≤ told was + count → 1 ≤ told now
  pub only : 1 ≤ told now → 1 ≤ told was + count

-- nothing stands against the value so far
pub record IsFine (n : Nodes) : Type 0 where
  pub exhausted : n.exhausted ≡ false
  pub long : n.long ≡ false
