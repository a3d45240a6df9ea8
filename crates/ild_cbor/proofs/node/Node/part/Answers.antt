use Rattle.std.proofs.Common.{refl}
use Rattle.std.specs.Coded.{le_prop}
use Rattle.std.proofs.Math.Logic.{∥∥₁_elim, ∥∥₁_map}
use Rattle.ild_cbor.proofs.Insides.{part_inside}
use Rattle.ild_cbor.proofs.node.Node.part.Goals as goal

pub overflow_sub-result-2 : goal.overflow_sub-result-2
overflow_sub-result-2 c = ∥∥₁_elim c.requires le_prop (λ h. (part_inside c.args.self.now c.args.rest.now c.skip-after.result.now h c.skip-after.ensures).after_fits)

pub invariant_of-result-clause-order : goal.invariant_of-result-clause-order
invariant_of-result-clause-order c = ∥∥₁_elim c.requires le_prop (λ h. (part_inside c.args.self.now c.args.rest.now c.skip-after.result.now h c.skip-after.ensures).order)

pub invariant_of-result-clause-stands : goal.invariant_of-result-clause-stands
invariant_of-result-clause-stands c = ∥∥₁_map c.requires (λ h. record { of = h.of; spells = (part_inside c.args.self.now c.args.rest.now c.skip-after.result.now h c.skip-after.ensures).spells })

pub returns : goal.returns
returns c = λ h.
    let p = part_inside c.args.self.now c.args.rest.now c.skip-after.result.now h c.skip-after.ensures in
    record { stands = p.spells; block_is = refl; start_is = p.place }
