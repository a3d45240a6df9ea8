use Rattle.std.proofs.Common.{◌≡◌, ◌≤◌, ◌+◌, ◌-◌, ◌^◌, length, drop, min}
use Rattle.ild_path_marked.specs.inside.Parts.{bytes_of}
use Rattle.ild_path_marked.proofs.size.size_of.Given as goal

abbrev pub invariant-loop-part : goal.invariant-loop-part
invariant-loop-part l = (l.size ≤ 2 ^ 128 - 1) × (min (l.size + length (bytes_of (drop l.part-index l.parts))) (2 ^ 128 - 1) ≡ min (length (bytes_of l.parts)) (2 ^ 128 - 1))
