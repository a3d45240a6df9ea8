use Rattle.std.proofs.Common.{◌≡◌, map}
use Rattle.ild_data.specs.Data.{bytes}
use Rattle.ild_data.specs.Seen.{data_of}
use Rattle.ild_run_verify.proofs.input.proof_of_items.Given as goal

abbrev pub invariant-loop-item : goal.invariant-loop-item
invariant-loop-item l = map data_of l.yielded ≡ map bytes l.proof
