use Rattle.std.proofs.Common.{Some, sym, ap, ◌∙◌}
use Rattle.ild_inclusion.proofs.Copied.{copy_shown}
use Rattle.ild_inclusion.proofs.writing.spelling.Goals as goal

pub returns-in-Some-Node : goal.returns-in-Some-Node
returns-in-Some-Node c =
    copy_shown (λ b. b) c.args.view.now c.in-Some-Node.node c.spelling.result.now (sym c.piece.ensures ∙ c.in-Some-Node.is ∙ ap Some c.in-Some-Node.field-0-is) c.spelling.ensures c.of.result c.of.ensures
