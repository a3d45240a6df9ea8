use Rattle.std.proofs.Common.{length}
use denote.Text.{Utf8}
use denote.Shadow.{shadow}
use Rattle.ild_script.proofs.Segments.{SoFar}
use Rattle.ild_script.proofs.path.segments_of.Given as goal

abbrev pub invariant-loop-segment : goal.invariant-loop-segment
invariant-loop-segment l = record {
  utf8 : shadow (Utf8 l.rest);
  so_far : SoFar l.text l.path l.rest;
}

abbrev pub decreases-loop-segment : goal.decreases-loop-segment
decreases-loop-segment l = length l.rest
