-- What may stand in a folder of which it is known what was put, or nothing at all.
use Rattle.std.specs.Prelude.{ℕ, Bool, true, Option, Some, None}
use Rattle.std.specs.BTreeSet.{BTreeSet, contains}
use Rattle.std.specs.Ordering.{nat_cmp}

-- a block whose id has this front may stand there: one was put, or nothing is known
abbrev pub may_stand : Option (BTreeSet ℕ) → ℕ → Bool
may_stand None front = true
may_stand (Some fronts) front = contains nat_cmp fronts front
