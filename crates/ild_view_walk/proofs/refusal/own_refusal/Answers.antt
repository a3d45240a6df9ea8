use Rattle.std.proofs.Common.{subst}
use Rattle.ild_view_walk.specs.inside.Opens.{IsStopped}
use Rattle.ild_view_walk.proofs.Walking.{stopped_faults}
use Rattle.ild_view_walk.proofs.Telling.{stopped_place}
use Rattle.ild_view_walk.proofs.refusal.own_refusal.Goals as goal

pub returns-in-Why-clause-faults : goal.returns-in-Why-clause-faults
returns-in-Why-clause-faults c = λ rows room t h. stopped_faults rows room c.args.slot t c.in-Why.why (subst (IsStopped rows room c.args.slot t) c.in-Why.is h)

pub returns-in-Why-clause-place : goal.returns-in-Why-clause-place
returns-in-Why-clause-place c = λ rows room t y schema h. stopped_place rows schema room c.args.slot t y c.in-Why.why (subst (IsStopped rows room c.args.slot t) c.in-Why.is h)
