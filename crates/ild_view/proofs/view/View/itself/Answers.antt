use Rattle.std.proofs.Common.{Some, sym, ◌∙◌, subst}
use Rattle.ild_view.proofs.Opening.{itself_null, itself_plain}
use Rattle.ild_view.specs.Itself.{Embodies}
use Rattle.ild_view.proofs.view.View.itself.Goals as goal

pub returns-then-is_null_there : goal.returns-then-is_null_there
returns-then-is_null_there c = λ f v.
    let s = c.args.self.now in
    let is = sym (c.is_null_there.ensures v.tree v.stands) ∙ c.if-is_null_there.true in
    subst (λ o. Embodies s.acc.now o (Some s.body)) (sym (itself_null s.acc.now c.recall.ensures.legible.clear s.slot s.safe v.room f v.tree v.front is)) v.stands

pub returns-then-is_plain : goal.returns-then-is_plain
returns-then-is_plain c = λ f v.
    let s = c.args.self.now in
    let some = sym (c.is_null_there.ensures v.tree v.stands) ∙ c.if-is_null_there.false in
    let plain = sym c.is_plain.ensures ∙ c.if-is_plain.true in
    subst (λ o. Embodies s.acc.now o (Some s.body))
    (sym (itself_plain s.acc.now c.recall.ensures.legible.clear s.slot s.safe v.room f v.tree v.front some c.def.result.now c.def.ensures.same plain)) v.stands
