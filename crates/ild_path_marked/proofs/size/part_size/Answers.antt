use Rattle.std.proofs.Common.{length, sym, ap, ◌∙◌}
use Rattle.ild_path_marked.specs.inside.Parts.{part_bytes}
use Rattle.ild_path_marked.proofs.size.part_size.Goals as goal

pub returns-in-Map : goal.returns-in-Map
returns-in-Map c = c.head_size.ensures.size 5 ∙ ap (λ p. length (part_bytes p)) (sym c.in-Map.is)

pub returns-in-TextHead : goal.returns-in-TextHead
returns-in-TextHead c = c.head_size-in-TextHead.ensures.size 3 ∙ ap (λ p. length (part_bytes p)) (sym c.in-TextHead.is)

pub returns-in-BytesHead : goal.returns-in-BytesHead
returns-in-BytesHead c = c.head_size-in-BytesHead.ensures.size 2 ∙ ap (λ p. length (part_bytes p)) (sym c.in-BytesHead.is)
