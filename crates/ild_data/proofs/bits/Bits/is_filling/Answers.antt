use Rattle.std.proofs.Common.{◌≡◌, length, arith, ◌∙◌}
use Rattle.ild_data.proofs.Regroup.{bits_len}
use Rattle.ild_data.proofs.TextBits.{filling_short, filling_long, not_less}
use Rattle.ild_data.proofs.bits.Bits.is_filling.Goals as goal

pub returns-then-self-lt5 : goal.returns-then-self-lt5
returns-then-self-lt5 c = filling_short c.self.inside.count c.self.inside.number c.args.self.now c.self.view_is c.self.invariant.1 c.if-self-lt5.true

pub returns-else-self-lt5 : goal.returns-else-self-lt5
returns-else-self-lt5 c =
    let e : length c.args.self.now ≡ c.self.inside.count = bits_len c.self.inside.count c.self.inside.number c.args.self.now c.self.view_is in
    not_less c.self.inside.count 5 (omega arith) ∙ filling_long c.args.self.now (omega (arith, e))
