use Rattle.std.proofs.Common.{◌≡◌, ◌+◌, ◌<◌, ◌≤◌, length, sym, ◌∙◌, ap, subst, arith}
use Rattle.std.proofs.lemmas.Bool.{eq-eqb, eqb-true, false≢true}
use Rattle.ild_data.proofs.Gets.{there_at}
use Rattle.ild_data.specs.declared.hamt_shape.HamtShape.{HamtShape}
use Rattle.ild_node_slots.specs.Views.{HasSlots}
use Rattle.ild_open_nodes.specs.Weights.{weight}
use Rattle.ild_open_nodes.proofs.Weighing.{weighs_begin, weighs_few, weighs_many, weighs_more}
use Rattle.ild_open_nodes.proofs.weigh.is_many.Goals as goal

pub loop-init : goal.loop-init
loop-init c = λ p ss has. (c.slots-slots.ensures p ss has, weighs_begin p ss (c.shape-shape.result.bucket + 1) (ap (λ (q : HamtShape). q.bucket + 1) (c.shape-shape.ensures ∙ has.shape)))

pub loop-preserved : goal.loop-preserved
loop-preserved c = λ p ss has.
    let own : c.shape-shape.result ≡ p = c.shape-shape.ensures ∙ has.shape in
    let here : HasSlots c.shape-shape.result c.args.view ss = subst (λ q. HasSlots q c.args.view ss) (sym own) has in
    let x = c.loop.invariant p ss has in
    let less : c.loop.counter < length ss = (let many = here.form.many in omega arith) in
    let s = there_at ss c.loop.counter less in (
      c.next_weight.ensures.walks c.args.view ss c.loop.counter here x.0 less,
      weighs_more p ss c.loop.counter c.loop.left c.saturating_sub-left.result c.next_weight.result s.0 s.1 (c.next_weight.ensures.weighs c.args.view ss c.loop.counter s.0 here x.0 s.1 ∙ ap (λ q. weight q s.0) own) c.saturating_sub-left.ensures x.1,
    )

pub returns-clause-many : goal.returns-clause-many
returns-clause-many c = λ p ss has none.
    let own : c.shape-shape.result ≡ p = c.shape-shape.ensures ∙ has.shape in
    let here : HasSlots c.shape-shape.result c.args.view ss = subst (λ q. HasSlots q c.args.view ss) (sym own) has in
    let most : length ss ≤ c.loop.counter = (let many = here.form.many in omega arith) in
    weighs_many p ss c.loop.counter c.loop.left most (c.loop.invariant p ss has).1 (eqb-true c.loop.left 0 none)

pub returns-clause-few : goal.returns-clause-few
returns-clause-few c = λ p ss has some.
    let own : c.shape-shape.result ≡ p = c.shape-shape.ensures ∙ has.shape in
    let here : HasSlots c.shape-shape.result c.args.view ss = subst (λ q. HasSlots q c.args.view ss) (sym own) has in
    let most : length ss ≤ c.loop.counter = (let many = here.form.many in omega arith) in
    weighs_few p ss c.loop.counter c.loop.left most (c.loop.invariant p ss has).1 (λ none. false≢true (sym some ∙ eq-eqb c.loop.left 0 none))
