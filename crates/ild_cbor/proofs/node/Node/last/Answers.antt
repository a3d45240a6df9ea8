use Rattle.std.proofs.Common.{refl}
use Rattle.std.specs.Coded.{le_prop}
use Rattle.std.proofs.Math.Logic.{∥∥₁_elim, ∥∥₁_map}
use Rattle.ild_cbor.proofs.Around.{last_inside, last_spells}
use Rattle.ild_cbor.proofs.node.Node.last.Goals as goal

pub overflow_sub-result : goal.overflow_sub-result
overflow_sub-result c = ∥∥₁_elim c.requires le_prop (λ h. (last_inside c.args.self.now c.args.rest.now h).rest_fits)

pub invariant_of-result-clause-stands : goal.invariant_of-result-clause-stands
invariant_of-result-clause-stands c = ∥∥₁_map c.requires (λ h. record { of = h.part.of; spells = last_spells c.args.self.now c.args.rest.now h })

pub returns : goal.returns
returns c = λ h.
    let p = last_inside c.args.self.now c.args.rest.now h in
    record { stands = last_spells c.args.self.now c.args.rest.now h; block_is = refl; start_is = p.place }
