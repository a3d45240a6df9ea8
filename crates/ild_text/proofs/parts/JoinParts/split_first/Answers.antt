use Rattle.ild_text.proofs.Firsts.{first_part, only_part}
use Rattle.ild_text.proofs.parts.JoinParts.split_first.Goals as goal

pub returns-in-Some : goal.returns-in-Some
returns-in-Some c =
    let s = c.args.self.now in
    first_part s.delim.now s.text.now c.in-Some.part.now c.in-Some.behind.now s.some c.in-Some.ensures

pub returns-in-None : goal.returns-in-None
returns-in-None c =
    let s = c.args.self.now in
    only_part s.delim.now s.text.now s.some c.in-None.ensures
