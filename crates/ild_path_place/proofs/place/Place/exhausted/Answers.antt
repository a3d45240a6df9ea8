use Rattle.std.proofs.Common.{sym, subst}
use Rattle.std.specs.Prelude.{◌&&◌}
use Rattle.ild_path_inward.proofs.Passing.{some_slots}
use Rattle.ild_path_place.specs.Exhausting.{Exhausts}
use Rattle.ild_path_place.specs.declared.place.End.{End}
use Rattle.ild_path_place.proofs.place.Place.exhausted.Goals as goal

pub returns-in-AtKey : goal.returns-in-AtKey
returns-in-AtKey c =
    subst (λ (e : End). Exhausts c.args.self.now.verb e (c.exhausted.result && c.comes.result)) (sym c.in-AtKey.is)
    (λ h rows was room q x d.
    let s = some_slots h x.entered.hamt.3 rows was x.elem x.ps x.root x.es x.trie in
    λ i. c.exhausted.ensures.trie h x.entered.hamt.3 c.in-AtKey.trail.key s.0 x.es d (x.found s.0 s.1) i && c.comes.ensures i)
