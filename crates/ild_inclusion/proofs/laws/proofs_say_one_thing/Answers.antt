use Rattle.std.proofs.Common.{Ok, Err}
use Rattle.ild_inclusion.proofs.Single.{one_outcome}
use Rattle.ild_inclusion.proofs.laws.proofs_say_one_thing.Goals as goal

pub returns : goal.returns
returns c = λ h rows schema n id path blocks. record {
  answers = λ a b x y. let same = one_outcome h rows schema n id path blocks (Ok a) (Ok b) x y in cc;
  rejects = λ r q x y. let same = one_outcome h rows schema n id path blocks (Err r) (Err q) x y in cc;
  apart = λ a r x y. let same = one_outcome h rows schema n id path blocks (Ok a) (Err r) x y in absurd cc;
}
