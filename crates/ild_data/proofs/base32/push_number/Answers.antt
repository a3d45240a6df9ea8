use Rattle.std.proofs.Common.{subst, sym}
use Rattle.ild_data.specs.Bytes.{AreBytes}
use Rattle.ild_data.proofs.Bytes.{AreBytes-push}
use Rattle.ild_data.proofs.base32.push_number.Goals as goal

pub returns-in_ok-push-clause-bytes : goal.returns-in_ok-push-clause-bytes
returns-in_ok-push-clause-bytes c = λ all. subst AreBytes (sym c.in_ok-push.ensures.items) (AreBytes-push c.args.out.now.items c.pull.result all c.pull.ensures.small)
