use Rattle.std.proofs.Common.{◌∙◌, ◌++◌, ap}
use Rattle.ild_data.specs.Spell.{head}
use Rattle.ild_node.proofs.Writing.{root-done}
use Rattle.ild_path_reroot.proofs.root.written.Goals as goal

pub returns : goal.returns
returns c = λ t is.
    c.finish.ensures
    ∙ root-done c.args.shape t _ _ _ _ _ _ _ (c.in_ok-head.ensures.ok ∙ ap (λ x. x ++ head 5 3) c.in_ok-out.ensures) c.in_ok-text.ensures.ok (c.in_ok-spelled.ensures.ok ∙ ap (λ x. c.text.new.self ++ x) is) c.in_ok-text-2.ensures.ok c.in_ok-head-2.ensures.ok
    c.in_ok-text-3.ensures.ok c.in_ok-head-3.ensures.ok
