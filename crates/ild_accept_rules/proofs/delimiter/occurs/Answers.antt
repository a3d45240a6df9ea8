use Rattle.std.proofs.Common.{◌∙◌}
use Rattle.ild_accept_rules.proofs.Occurring.{occurs_is}
use Rattle.ild_accept_rules.proofs.delimiter.occurs.Goals as goal

pub returns : goal.returns
returns c = c.is_some.ensures ∙ occurs_is c.args.part.now c.args.text.now c.find.result c.find.ensures
