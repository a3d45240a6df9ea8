use Rattle.std.proofs.Common.{map, take, ap, ◌∙◌, sym, subst, List, arith}
use Rattle.std.proofs.lemmas.List.{map-append, take_more, take_all}
use Rattle.ild_beneath.specs.Children.{Child as Told}
use Rattle.ild_dirty.specs.Beneath.{child_seen}
use Rattle.ild_dirty.specs.declared.beneath.Child.{Child}
use Rattle.ild_compare.specs.inside.Spots.{Grows}
use Rattle.ild_compare.proofs.Growing.{grows_then}
use Rattle.ild_compare.proofs.spots.add_all.Goals as goal

pub loop-child-preserved : goal.loop-child-preserved
loop-child-preserved c =
    subst (λ (cs : List Told). Grows cs (map child_seen c.args.list.now.items) (map child_seen c.add.new.list.items))
    (sym (ap (map child_seen) (take_more c.args.found.now c.loop-child.child-index _ (omega arith)) ∙ map-append child_seen (take c.loop-child.child-index c.args.found.now) _))
    (grows_then _ _ _ _ _ c.loop-child.invariant c.in_ok-add.ensures)

pub returns : goal.returns
returns c =
    subst (λ (cs : List Child). Grows (map child_seen cs) (map child_seen c.args.list.now.items) (map child_seen c.loop-child.list.items))
    (take_all c.loop-child.child-index c.args.found.now c.loop-child-test.false) c.loop-child.invariant
