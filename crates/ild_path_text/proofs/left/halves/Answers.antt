use Rattle.std.proofs.Common.{rules}
use Rattle.ild_text.proofs.Steps.{halves_from}
use Rattle.ild_path_text.proofs.left.halves.Goals as goal

pub returns : goal.returns
returns c = search (rules, halves_from)
