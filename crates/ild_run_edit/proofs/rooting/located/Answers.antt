use Rattle.std.proofs.Common.{subst, sym}
use Rattle.std.specs.Prelude.{Err}
use Rattle.ild_run_edit.specs.inside.Roots.{PlaceIsFound}
use Rattle.ild_run_edit.proofs.Finding.{finds_none, finds_place}
use Rattle.ild_run_edit.proofs.rooting.located.Goals as goal

pub returns-in-Ok : goal.returns-in-Ok
returns-in-Ok g c = finds_place _ _ _ _ _ _ c.places_tell.ensures _ c.in-Ok.ensures.only c.in-Ok.ensures.of c.in-Ok.ensures.done c.in-Ok.ensures.rooted c.in-Ok.ensures.stands

pub returns-in-Err : goal.returns-in-Err
returns-in-Err g c =
    subst (λ r. PlaceIsFound g.H.KeyHash.hash_of c.args.doc.now c.args.verb c.args.path.now (g.K.Store.moment c.args.store.now) (Err r) (g.K.Store.moment c.locate.new.store)) (sym c.no_place.ensures)
    (finds_none _ _ _ _ _ _ c.faults_are_refusals.ensures c.in-Err.fault c.in-Err.ensures.only c.in-Err.ensures.failed c.in-Err.ensures.refused c.in-Err.ensures.stands)
