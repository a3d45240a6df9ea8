use Rattle.std.proofs.Common.{refl, ap, arith}
use Rattle.std.proofs.Math.Logic.{∥∥₁_map}
use Rattle.ild_cbor.specs.Steps.{items_of}
use Rattle.ild_cbor.proofs.Iterations.{items_in}
use Rattle.ild_cbor.proofs.node.Node.items.Goals as goal

pub invariant_of-result-clause-stands : goal.invariant_of-result-clause-stands
invariant_of-result-clause-stands c = ∥∥₁_map c.args.self.now.stands
    (λ s. let i = items_in c.args.self.now c.start-start.result s.of s.spells (c.start-start.ensures s.of s.spells) (omega arith) in record { of = i.items; spells = i.spells })

pub returns : goal.returns
returns c = λ t h.
    let i = items_in c.args.self.now c.start-start.result t h (c.start-start.ensures t h) (omega arith) in
    let e = ap items_of i.is in
    rw e (record { left = i.spells; block_is = refl; place = i.place })
