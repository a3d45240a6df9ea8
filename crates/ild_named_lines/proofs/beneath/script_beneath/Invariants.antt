use Rattle.std.proofs.Common.{◌≡◌, ◌++◌, length}
use Rattle.ild_named_lines.specs.Beneath.{script_beneath}
use Rattle.ild_named_lines.proofs.beneath.script_beneath.Given as goal

-- what was made, before what is still to be made
abbrev pub invariant-loop-at : goal.invariant-loop-at
invariant-loop-at l = l.text.items ++ script_beneath l.rest ≡ script_beneath l.script

abbrev pub decreases-loop-at : goal.decreases-loop-at
decreases-loop-at l = length l.rest
