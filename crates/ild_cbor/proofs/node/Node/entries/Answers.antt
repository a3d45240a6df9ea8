use Rattle.std.proofs.Common.{refl, ap, arith}
use Rattle.std.specs.Coded.{le_prop}
use Rattle.std.proofs.Math.Logic.{∥∥₁_elim, ∥∥₁_map}
use Rattle.ild_cbor.specs.Steps.{members_of}
use Rattle.ild_cbor.proofs.Iterations.{entries_in}
use Rattle.ild_cbor.proofs.node.Node.entries.Goals as goal

pub overflow_sub-result : goal.overflow_sub-result
overflow_sub-result c = ∥∥₁_elim c.args.self.now.stands le_prop
    (λ s. (entries_in c.args.self.now c.start-start.result s.of s.spells (c.start-start.ensures s.of s.spells) (omega arith)).fits)

pub invariant_of-result-clause-stands : goal.invariant_of-result-clause-stands
invariant_of-result-clause-stands c = ∥∥₁_map c.args.self.now.stands
    (λ s. let i = entries_in c.args.self.now c.start-start.result s.of s.spells (c.start-start.ensures s.of s.spells) (omega arith) in record { of = i.members; spells = i.spells })

pub returns : goal.returns
returns c = λ t h.
    let i = entries_in c.args.self.now c.start-start.result t h (c.start-start.ensures t h) (omega arith) in
    let e = ap members_of i.is in
    rw e (record { left = i.spells; block_is = refl; place = i.place })
