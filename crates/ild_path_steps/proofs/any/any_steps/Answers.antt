use Rattle.std.proofs.Common.{sym, ◌∙◌}
use Rattle.ild_path_steps.proofs.Listing.{inside_list}
use Rattle.ild_path_steps.proofs.Standing.{list_inside}
use Rattle.ild_path_steps.proofs.any.any_steps.Goals as goal

pub returns-in-List-clause-lifts : goal.returns-in-List-clause-lifts
returns-in-List-clause-lifts c = λ rows t q stands there.
    inside_list rows c.args.piece.now t c.args.segment.now q c.item_steps.result stands (sym c.in-List.is ∙ c.kind.ensures rows t stands) there c.item_steps.ensures

pub returns-in-List-clause-leads : goal.returns-in-List-clause-leads
returns-in-List-clause-leads c = λ rows t d stands there.
    list_inside rows c.args.piece.now t d c.args.segment.now c.item_steps.result stands (sym c.in-List.is ∙ c.kind.ensures rows t stands) there c.item_steps.ensures
