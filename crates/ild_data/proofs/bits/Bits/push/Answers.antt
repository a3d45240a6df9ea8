use Rattle.std.proofs.Common.{◌≡◌, ◌<◌, ◌+◌, length, arith}
use Rattle.ild_data.proofs.Regroup.{bits_len, pushed, pushed_below}
use Rattle.ild_data.proofs.TextBits.{pushed_len}
use Rattle.ild_data.proofs.bits.Bits.push.Goals as goal

pub invariant_of-self : goal.invariant_of-self
invariant_of-self c =
    let e : length c.args.self.now ≡ c.self.inside.count = bits_len c.self.inside.count c.self.inside.number c.args.self.now c.self.view_is in
    let short : c.self.inside.count + c.args.width < 16 = omega (arith, e, c.requires.short) in
    (short, pushed_below c.self.inside.count c.self.inside.number c.args.width c.args.number c.self.invariant.1 c.requires.fits short)

pub returns-clause-bits : goal.returns-clause-bits
returns-clause-bits c = pushed c.self.inside.count c.self.inside.number c.args.width c.args.number c.args.self.now c.self.view_is c.self.invariant.1 c.requires.fits c.requires.short

pub returns-clause-len : goal.returns-clause-len
returns-clause-len c = pushed_len c.args.width c.args.number c.args.self.now _ (returns-clause-bits c)
