use Rattle.ild_links_lines.proofs.OneWalks.{walks_are_one}
use Rattle.ild_links_lines.proofs.walks_are_one.Goals as goal

pub returns : goal.returns
returns c = walks_are_one
