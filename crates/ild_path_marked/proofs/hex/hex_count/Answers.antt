use Rattle.std.proofs.Common.{sym, ◌∙◌}
use Rattle.ild_path_marked.proofs.Hexing.{hex_counted, hex_uncounted}
use Rattle.ild_path_marked.proofs.hex.hex_count.Goals as goal

pub returns-then-is_hex : goal.returns-then-is_hex
returns-then-is_hex c = hex_counted c.args.text.now (sym c.is_hex.ensures ∙ c.if-is_hex.true)

pub returns-else-is_hex : goal.returns-else-is_hex
returns-else-is_hex c = hex_uncounted c.args.text.now (sym c.is_hex.ensures ∙ c.if-is_hex.false)
