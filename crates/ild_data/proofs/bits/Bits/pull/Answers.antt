use Rattle.std.proofs.Common.{◌≡◌, ◌≤◌, ◌-◌, ◌/◌, ◌^◌, length, arith}
use Rattle.ild_data.proofs.Regroup.{bits_len, pulled, pulled_len, pull_small}
use Rattle.ild_data.proofs.bits.Bits.pull.Goals as goal

pub overflow_sub-self : goal.overflow_sub-self
overflow_sub-self c = let e : length c.args.self.now ≡ c.self.inside.count = bits_len c.self.inside.count c.self.inside.number c.args.self.now c.self.view_is in omega (arith, e, c.requires)

pub returns-clause-bits : goal.returns-clause-bits
returns-clause-bits c = pulled c.args.width c.self.inside.count c.self.inside.number c.args.self.now c.self.view_is c.requires c.self.invariant.1 c.self.invariant.0

pub returns-clause-small : goal.returns-clause-small
returns-clause-small c =
    let e : length c.args.self.now ≡ c.self.inside.count = bits_len c.self.inside.count c.self.inside.number c.args.self.now c.self.view_is in
    let le : c.args.width ≤ c.self.inside.count = omega (arith, e, c.requires) in
    pull_small c.args.width c.self.inside.count c.self.inside.number le c.self.invariant.1

pub returns-clause-len : goal.returns-clause-len
returns-clause-len c = pulled_len c.args.width (c.self.inside.number / 2 ^ (c.self.inside.count - c.args.width)) c.args.self.now _ (returns-clause-bits c)
