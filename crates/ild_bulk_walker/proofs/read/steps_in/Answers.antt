use Rattle.std.proofs.Common.{arith}
use Rattle.ild_bulk_walker.proofs.Adding.{no-node, is-node, steps-done}
use Rattle.ild_bulk_walker.proofs.read.steps_in.Goals as goal

pub returns-then-not-branch : goal.returns-then-not-branch
returns-then-not-branch c = λ t h.
    let p = c.in-Some.ensures t h in
    let e = c.in_ok-add_elements.ensures p.parts p.has in
    no-node c.args.shape t c.in-Some.map.now p.parts c.in_ok-add_elements.field-0 p.pair e.same c.if-not-branch.true

pub returns : goal.returns
returns c = λ t h.
    let p = c.in-Some.ensures t h in
    let e = c.in_ok-add_elements.ensures p.parts p.has in (
      is-node c.args.shape t c.in-Some.map.now p.parts c.in_ok-add_elements.field-0 p.pair (omega arith) e.same c.if-not-branch.false,
      λ slots is form.
          steps-done c.args.shape t c.in-Some.map.now p.parts slots c.new-steps.result.items c.add_elements.new.steps.items c.reverse.new.self.items p.pair c.new-steps.ensures.items (e.added c.if-not-branch.false) c.reverse.ensures.items is form,
    )
