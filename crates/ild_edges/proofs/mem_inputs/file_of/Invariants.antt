use Rattle.std.proofs.Common.{◌≡◌, map, drop}
use Rattle.ild_edges.specs.Inputs.{file_at}
use Rattle.ild_edges.specs.MemInputs.{file_pair}
use Rattle.ild_edges.proofs.mem_inputs.file_of.Given as goal

abbrev pub invariant-loop-file : goal.invariant-loop-file
invariant-loop-file l = file_at (map file_pair l.files) l.name ≡ file_at (map file_pair (drop l.file-index l.files)) l.name
