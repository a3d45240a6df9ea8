use Rattle.ild_data.specs.Data as T
use Rattle.ild_schema.specs.Slots.{plainly}
use Rattle.ild_schema.specs.Value.{pairs_list}
use Rattle.ild_typed.specs.Fits.{Fits}
use Rattle.ild_typed.specs.Layers.{RepresentsSome}
use Rattle.ild_typed.specs.OfType.{OfType}
use Rattle.ild_build.proofs.EachKey.{AllBefore}
use Rattle.ild_build.proofs.room.keys_fit.Given as goal

abbrev pub invariant-loop-i : goal.invariant-loop-i
invariant-loop-i l = AllBefore (λ p. RepresentsSome (OfType l.acc) l.acc (plainly l.key) (T.text p.0) → RepresentsSome (Fits l.acc l.room) l.acc (plainly l.key) (T.text p.0)) (pairs_list l.pairs) l.i
