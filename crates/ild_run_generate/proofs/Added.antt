-- Blocks that came between moments.
use Rattle.std.proofs.Common.{ℕ, List, refl, arith}
use Rattle.std.specs.Prelude.{Contains}
use Rattle.ild_edges.specs.Count.{Rose}
use Rattle.ild_edges.specs.Store.{Moment, Later}
use Rattle.ild_script_session.specs.Step.{AddsOnly, Collides}
use Rattle.ild_script_session.proofs.Came.{adds_none}

pub collides_wider : (n : Moment) (few many : List (List ℕ)) → ((b : List ℕ) → Contains few b → Contains many b) → Collides n few → Collides n many
collides_wider n few many among hit = record { kept = hit.kept; new = hit.new; held = hit.held; among = among hit.new hit.among; collide = hit.collide }

pub rose_later : (m k n : Moment) → Later m k → Rose k.faults n.faults → Rose m.faults n.faults
rose_later m k n later rose = let low = later.faults in omega (arith, low, rose)

pub adds_same : (m : Moment) (bs : List (List ℕ)) → AddsOnly m m bs
adds_same m bs = adds_none m m bs refl
