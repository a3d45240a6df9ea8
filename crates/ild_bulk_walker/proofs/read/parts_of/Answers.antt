use Rattle.ild_bulk_walker.proofs.Adding.{parts-in, no-parts}
use Rattle.ild_bulk_walker.proofs.read.parts_of.Goals as goal

pub returns-in_err-elements : goal.returns-in_err-elements
returns-in_err-elements c = λ t h. rw c.from_residual-in_err-elements.ensures (λ p. no-parts p c.args.node.now t c.in_ok-ones.ones c.in_ok-ones.data (c.in_ok-ones.ensures t h) c.in_err-elements.ensures)

pub returns : goal.returns
returns c = λ t h. parts-in c.args.node.now t c.in_ok-ones.ones c.in_ok-ones.data c.in_ok-map.map c.in_ok-elements.elements (c.in_ok-ones.ensures t h) c.in_ok-map.ensures c.in_ok-elements.ensures
