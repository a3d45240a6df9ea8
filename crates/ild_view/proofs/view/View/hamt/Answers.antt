use Rattle.std.proofs.Common.{Some, sym, ◌∙◌, ap, subst}
use Rattle.ild_view.proofs.Reading.{root_front}
use Rattle.ild_view.specs.Forms.{shape_in}
use Rattle.ild_view.specs.Roots.{RootIs, root_in}
use Rattle.ild_view.proofs.view.View.hamt.Goals as goal

pub returns-in-Some : goal.returns-in-Some
returns-in-Some c = λ f v.
    let s = c.args.self.now in
    let some = sym (c.is_null_there.ensures v.tree v.stands) ∙ c.if-is_null_there.false in
    let own = sym c.in-Some.ensures in
    let shape = ap shape_in c.def.ensures.same ∙ own in
    let x = root_front s.acc.now c.recall.ensures.legible s.slot s.safe v.room f v.tree v.front some c.def.result.now c.def.ensures.same c.in-Some.shape own in
    subst (λ o. RootIs o (root_in f) c.node_of.result) (sym shape)
    (subst (λ o. RootIs (Some c.in-Some.shape) o c.node_of.result) (sym x.is) (c.node_of.ensures s.acc.now x.slots v.tree (x.outer s.body s.placed) v.stands x.root))
