use Rattle.ild_json.proofs.Back.{back}
use Rattle.ild_json.proofs.Depths.{json_depth}
use Rattle.ild_json.proofs.law.printed_is_read.Goals as goal

pub returns : goal.returns
returns c = record { back = back; depth = json_depth }
