use Rattle.std.proofs.Common.{◌≡◌, length}
use denote.Text.{Utf8}
use denote.Shadow.{shadow}
use Rattle.ild_text.specs.Cut.{cut}
use Rattle.ild_text.specs.Pairs.{are_keyed}
use Rattle.ild_text.proofs.place.are_keyed.Given as goal

abbrev pub invariant-loop-first : goal.invariant-loop-first
invariant-loop-first l = shadow (Utf8 l.rest) × (are_keyed l.inner (cut l.entry l.rest) ≡ are_keyed l.inner (cut l.entry l.text))

abbrev pub decreases-loop-first : goal.decreases-loop-first
decreases-loop-first l = length l.rest
