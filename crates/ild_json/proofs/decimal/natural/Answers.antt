use Rattle.ild_json.proofs.Numbers.{natural_parsed}
use Rattle.ild_json.proofs.decimal.natural.Goals as goal

pub returns-in-Ok : goal.returns-in-Ok
returns-in-Ok c = natural_parsed c.args.text.now c.in-Ok.n (c.has_plus.ensures c.if-not-has_plus.true) c.in-Ok.ensures.value.0.0 c.in-Ok.ensures.value.0.1
