use Rattle.std.proofs.Common.{◌∙◌, ap, sym, length}
use Rattle.ild_splice.specs.Made.{head_bytes}
use Rattle.ild_splice.proofs.size.new_head_size.Goals as goal

pub returns-in-List-clause-size : goal.returns-in-List-clause-size
returns-in-List-clause-size c = c.head_size.ensures.size 4 ∙ ap (λ h. length (head_bytes h)) (sym c.in-List.is)

pub returns-in-Map-clause-size : goal.returns-in-Map-clause-size
returns-in-Map-clause-size c = c.head_size-in-Map.ensures.size 5 ∙ ap (λ h. length (head_bytes h)) (sym c.in-Map.is)
