use Rattle.std.proofs.Common.{sym, ap, ◌∙◌}
use Rattle.std.specs.Borrow.{Bor}
use Rattle.std.specs.Prelude.{option_map}
use Rattle.ild_dirty.proofs.Indexed.{lent_at}
use Rattle.ild_dirty.specs.declared.beneath.Child.{Child}
use Rattle.ild_compare.proofs.Growing.{contains_got}
use Rattle.ild_compare.proofs.spots.is_at.Goals as goal

pub returns-in-Some : goal.returns-in-Some
returns-in-Some c = λ same.
    contains_got c.args.list.now c.args.number c.in-Some.spot.now c.args.child.now
    (ap (option_map (λ (b : Bor Child). b.now)) (sym c.in-Some.is) ∙ lent_at c.get.result c.args.list.now c.args.number c.get.ensures.lookup.3) (c.is_same.ensures same)
