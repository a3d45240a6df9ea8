use Rattle.std.proofs.Common.{append-nil, ◌∙◌}
use Rattle.ild_splice.proofs.Joining.{splices}
use Rattle.ild_splice.proofs.change.replace_with.Goals as goal

pub returns : goal.returns
returns c = λ e is. splices c.args.part.now _ _ _ _ c.made.result c.made.ensures c.around.ensures.front c.around.ensures.behind (λ d here. append-nil _ ∙ is)
