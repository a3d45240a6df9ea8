use Rattle.std.proofs.Common.{◌++◌, ◌∙◌, ap}
use Rattle.ild_build_entries.proofs.Marked.{root_behind}
use Rattle.ild_build_entries.proofs.Marked.{on_ok}
use Rattle.ild_build_entries.proofs.hamt.add_root_map.Goals as goal

pub returns-clause-ok : goal.returns-clause-ok
returns-clause-ok c = λ node is.
    on_ok c.head-3.result _ _
    (λ e. root_behind c.args.shape c.args.out.now node _ _ _ _ _ _ _ c.in_ok-head.ensures.ok c.in_ok-text.ensures.ok (c.in_ok-spelled.ensures.ok ∙ ap (λ x. c.text.new.self ++ x) is) c.in_ok-text-2.ensures.ok c.in_ok-head-2.ensures.ok c.in_ok-text-3.ensures.ok e)
    c.head-3.ensures.ok
