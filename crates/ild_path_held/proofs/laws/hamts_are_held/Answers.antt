use Rattle.ild_path_held.proofs.Tries.{hamts_are_tries, hamts_are_put, hamts_are_cut, hamts_have_tries}
use Rattle.ild_path_held.proofs.laws.hamts_are_held.Goals as goal

pub returns : goal.returns
returns c = record { tries = hamts_are_tries; put = hamts_are_put; cut = hamts_are_cut; have = hamts_have_tries }
