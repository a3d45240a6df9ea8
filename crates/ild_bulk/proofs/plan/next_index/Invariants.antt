use Rattle.std.proofs.Common.{◌≡◌, ◌≤◌, ◌<◌, ◌^◌, ℕ, [], take}
use Rattle.ild_bulk.specs.Keyed.{hashed_part}
use Rattle.ild_bulk.proofs.plan.next_index.Given as goal

abbrev pub invariant-loop-entry : goal.invariant-loop-entry
invariant-loop-entry l = record {
  most : l.least ≤ 2 ^ l.shape.width;
  from : l.from ≤ 2 ^ l.shape.width → l.from ≤ l.least;
  none : (i : ℕ) → l.from ≤ i → i < l.least → hashed_part l.shape l.depth (take l.entry-index l.entries) i ≡ [];
}
