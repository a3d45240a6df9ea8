use Rattle.std.proofs.Common.{◌≤◌, take}
use Rattle.std.specs.List.{flat_map}
use Rattle.ild_edges.specs.Sink.{Appends}
use Rattle.ild_heads_run.specs.Ends.{end_of}
use Rattle.ild_heads_run.proofs.ending.write_heads.Given as goal

abbrev pub invariant-loop-name : goal.invariant-loop-name
invariant-loop-name g l = record {
  written : Appends (g.W.Sink.output l.initial.out).written (g.W.Sink.output l.out).written (flat_map (end_of l.heads) (take l.name-index l.name-items));
  faults : (g.W.Sink.output l.initial.out).faults ≤ (g.W.Sink.output l.out).faults;
}
