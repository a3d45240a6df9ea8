use Rattle.std.proofs.Common.{sym, ◌∙◌}
use Rattle.ild_path_marked.proofs.Hexing.{no_hex}
use Rattle.ild_path_marked.proofs.hex.add_hex.Goals as goal

pub returns-else-is_hex : goal.returns-else-is_hex
returns-else-is_hex c = no_hex c.args.out.now c.args.text.now (sym c.is_hex.ensures ∙ c.if-is_hex.false)
