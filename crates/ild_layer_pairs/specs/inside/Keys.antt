-- The keys that were met.
use Rattle.std.specs.Prelude.{ℕ, List, map}
use Rattle.std.specs.Borrow.{Bor}
use Rattle.std.specs.BTreeSet.{BTreeSet}

abbrev pub texts : BTreeSet (Bor (List ℕ)) → List (List ℕ)
texts s = map (λ (k : Bor (List ℕ)). k.now) s.keys
