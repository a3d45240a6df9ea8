use denote.Text.{Utf8}
use denote.Shadow.{shadow}
use Rattle.ild_text.proofs.Walks.{Walks}
use Rattle.ild_text.proofs.place.part_at.Given as goal

abbrev pub invariant-loop : goal.invariant-loop
invariant-loop l = shadow (Utf8 l.rest) × Walks l.delim l.text l.rest l.i l.counter
