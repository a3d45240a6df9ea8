use Rattle.std.proofs.Common.{sym, ◌∙◌}
use Rattle.ild_path_last.proofs.Counting.{end_place, index_place}
use Rattle.ild_path_last.proofs.items.new_place.Goals as goal

pub returns-then-is_end : goal.returns-then-is_end
returns-then-is_end c = λ rows ds i stands new. c.count.ensures rows ds stands ∙ end_place rows c.args.piece.now ds stands c.args.segment.now i (sym c.is_end.ensures ∙ c.if-is_end.true) new

pub returns-else-is_end : goal.returns-else-is_end
returns-else-is_end c = λ rows ds i stands new. index_place rows c.args.piece.now ds stands c.args.segment.now i c.index.result (sym c.is_end.ensures ∙ c.if-is_end.false) new c.index.ensures
