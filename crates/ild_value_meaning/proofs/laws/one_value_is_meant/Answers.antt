use Rattle.ild_value_meaning.proofs.Meanings.{meant_is_read, one_meant}
use Rattle.ild_value_meaning.proofs.Reading.{read_is_meant}
use Rattle.ild_value_meaning.proofs.laws.one_value_is_meant.Goals as goal

pub returns : goal.returns
returns c = record { read = meant_is_read; sound = read_is_meant; one = one_meant }
