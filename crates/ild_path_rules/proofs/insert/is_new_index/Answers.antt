use Rattle.std.proofs.Common.{sym, ◌∙◌, arith}
use Rattle.ild_path_rules.proofs.Allowing.{end_is_new, far_is_none, index_is_new}
use Rattle.ild_path_rules.proofs.insert.is_new_index.Goals as goal

pub returns-then-is_end : goal.returns-then-is_end
returns-then-is_end c = end_is_new c.args.count c.args.segment.now (sym c.is_end.ensures ∙ c.if-is_end.true)

pub returns-in-Some : goal.returns-in-Some
returns-in-Some c = index_is_new c.args.count c.args.segment.now c.in-Some.i (sym c.is_end.ensures ∙ c.if-is_end.false) c.in-Some.ensures

pub returns-in-None : goal.returns-in-None
returns-in-None c = far_is_none c.args.count c.args.segment.now (omega (arith, c.ranges.count)) (sym c.is_end.ensures ∙ c.if-is_end.false) c.in-None.ensures
