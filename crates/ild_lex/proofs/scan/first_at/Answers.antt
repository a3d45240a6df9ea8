use Rattle.std.proofs.Common.{sym}
use Rattle.ild_lex.proofs.First.{gap_within, found_within}
use Rattle.ild_lex.specs.inside.Scan.{token, wrong}
use Rattle.ild_lex.proofs.scan.first_at.Goals as goal

pub overflow_sub-at : goal.overflow_sub-at
overflow_sub-at c = gap_within _ _ _ c.after_gap-rest.ensures c.requires

pub overflow_sub-end : goal.overflow_sub-end
overflow_sub-end c = found_within c.args.end c.args.bytes.now c.after_gap-rest.result.now (token c.in-Token.kind c.in-Token.after.now) c.after_gap-rest.ensures (sym c.if-is_empty.ensures) c.in-Token.ensures c.requires

pub overflow_sub-result : goal.overflow_sub-result
overflow_sub-result c = found_within c.args.end c.args.bytes.now c.after_gap-rest.result.now (wrong c.in-Wrong.from.now) c.after_gap-rest.ensures (sym c.if-is_empty.ensures) c.in-Wrong.ensures c.requires
