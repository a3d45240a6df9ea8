use Rattle.std.proofs.Common.{◌≡◌, ◌++◌, drop}
use Rattle.ild_path_marked.specs.inside.Parts.{bytes_of}
use Rattle.ild_path_marked.proofs.write.joined.Given as goal

abbrev pub invariant-loop-part : goal.invariant-loop-part
invariant-loop-part l = l.out ++ bytes_of (drop l.part-index l.parts) ≡ bytes_of l.parts
