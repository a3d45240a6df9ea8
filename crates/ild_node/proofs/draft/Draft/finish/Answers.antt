use Rattle.std.proofs.Common.{◌++◌, ◌/◌, take, ap, ◌∙◌}
use Rattle.ild_node.proofs.Drafting.{written-done}
use Rattle.ild_node.proofs.draft.Draft.finish.Goals as goal

pub returns : goal.returns
returns c = λ p slots was many.
    written-done p c.args.self slots (take (c.slots.result / 8) c.args.self.map) c.in_ok-out.out c.finish-2.result was many (ap (λ n. take (n / 8) c.args.self.map) c.slots.ensures) c.in_ok-out.ensures
    (c.finish-2.ensures ∙ c.in_ok-spelled.ensures.ok ∙ ap (λ s. c.in_ok-out.out ++ s) (c.as_slice-2.ensures.same ∙ c.finish.ensures))
