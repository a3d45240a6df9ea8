use Rattle.ild_text.proofs.Firsts.{first_part, only_part}
use Rattle.ild_path_text.proofs.left.first.Goals as goal

pub returns-in-Some : goal.returns-in-Some
returns-in-Some c = first_part c.args.delim.now c.args.text.now c.in-Some.part.now c.in-Some.behind.now c.requires c.in-Some.ensures

pub returns-in-None : goal.returns-in-None
returns-in-None c = only_part c.args.delim.now c.args.text.now c.requires c.in-None.ensures
