use Rattle.ild_script_meaning.proofs.PlainLines.{says_plain_map}
use Rattle.ild_script_meaning.proofs.laws.lines_say_what_a_plain_map_says.Goals as goal

pub returns : goal.returns
returns c = says_plain_map
