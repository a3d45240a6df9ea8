use Rattle.std.proofs.Common.{◌≡◌, drop}
use Rattle.ild_schema.specs.Accept.{first_failing}
use Rattle.ild_accept.proofs.table.judge_types.Given as goal

abbrev pub invariant-loop-n : goal.invariant-loop-n
invariant-loop-n l = first_failing l.schema 0 l.schema ≡ first_failing l.schema l.n (drop l.n l.schema)
