use Rattle.std.proofs.Common.{Some, set, sym, ap, ◌∙◌, arith}
use Rattle.ild_node.specs.NewSlots.{slot_seen}
use Rattle.ild_hamt_climb.proofs.lifting.lift_block.Goals as goal

pub returns-clause-lifts : goal.returns-clause-lifts
returns-clause-lifts c = λ h left ss gs n lt order is.
    c.lift.ensures.lifts h left c.args.depth ss gs (c.view_in-view.ensures.only ss n) (let e = n.form.many in let small = c.index_at-i.ensures.slot in omega arith) order
    (is ∙ ap (λ m. Some (set ss m (slot_seen c.args.slot))) (sym (c.index_at-i.ensures.index lt)))

pub returns-clause-over : goal.returns-clause-over
returns-clause-over c = λ ss n. c.lift.ensures.over ss (c.view_in-view.ensures.only ss n) (let e = n.form.many in let small = c.index_at-i.ensures.slot in omega arith)
