use Rattle.std.proofs.Common.{◌∙◌, ◌++◌, ap}
use Rattle.ild_data.specs.Spell.{head}
use Rattle.ild_named.proofs.Writing.{named_done}
use Rattle.ild_named.proofs.write.named_block.Goals as goal

pub returns : goal.returns
returns c = λ d is.
    c.finish.ensures
    ∙ named_done c.args.name.now c.args.schema.now.0 d _ _ _ _ _ _ _ (c.in_ok-head.ensures.ok ∙ ap (λ x. x ++ head 5 3) c.new-out.ensures) c.in_ok-text.ensures.ok c.in_ok-text-2.ensures.ok c.in_ok-text-3.ensures.ok
    (c.in_ok-spelled.ensures.ok ∙ ap (λ x. c.text-3.new.self ++ x) is) c.in_ok-text-4.ensures.ok c.in_ok-block_link.ensures.ok
