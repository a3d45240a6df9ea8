use Rattle.std.proofs.Common.{sym, ap, ◌∙◌}
use Rattle.ild_script.specs.declared.reply.Reply.TheVariants as R
use Rattle.ild_run_document.proofs.Settings.{null_is}
use Rattle.ild_run_document.proofs.inside.told_inside.Goals as goal

pub returns-in-Root : goal.returns-in-Root
returns-in-Root c = rw c.in-Root.is (ap R.Ok c.requires ∙ sym null_is)
