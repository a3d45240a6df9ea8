use Rattle.ild_script.proofs.Spelled.{read_back, segments_one}
use Rattle.ild_script.proofs.laws.segments_write_texts.Goals as goal

pub returns-clause-back : goal.returns-clause-back
returns-clause-back c = read_back

pub returns-clause-one : goal.returns-clause-one
returns-clause-one c = segments_one
