use Rattle.std.proofs.Common.{refl, arith}
use Rattle.std.specs.Coded.{le_prop}
use Rattle.std.proofs.Math.Logic.{∥∥₁_elim, ∥∥₁_map}
use Rattle.ild_cbor.proofs.Iterations.{next_item}
use Rattle.ild_cbor.proofs.iterate.ItemsIterator.next.Goals as goal

pub overflow_sub-behind : goal.overflow_sub-behind
overflow_sub-behind c = ∥∥₁_elim c.args.self.now.stands le_prop (λ s. (next_item _ _ c.args.self.now.left c.skip-after.result.now s.of s.spells (omega arith) (omega arith) c.skip-after.ensures).fits)

pub invariant_of-self-clause-stands : goal.invariant_of-self-clause-stands
invariant_of-self-clause-stands c = ∥∥₁_map c.args.self.now.stands
    (λ s. let f = next_item _ _ c.args.self.now.left c.skip-after.result.now s.of s.spells (omega arith) (omega arith) c.skip-after.ensures in record { of = f.more; spells = f.others })

pub invariant_of-node-clause-order : goal.invariant_of-node-clause-order
invariant_of-node-clause-order c = ∥∥₁_elim c.args.self.now.stands le_prop (λ s. (next_item _ _ c.args.self.now.left c.skip-after.result.now s.of s.spells (omega arith) (omega arith) c.skip-after.ensures).order)

pub invariant_of-node-clause-stands : goal.invariant_of-node-clause-stands
invariant_of-node-clause-stands c = ∥∥₁_map c.args.self.now.stands
    (λ s. let f = next_item _ _ c.args.self.now.left c.skip-after.result.now s.of s.spells (omega arith) (omega arith) c.skip-after.ensures in record { of = f.d; spells = f.first })

pub returns-clause-steps : goal.returns-clause-steps
returns-clause-steps c = λ ds h.
    let f = next_item _ _ c.args.self.now.left c.skip-after.result.now ds h (omega arith) (omega arith) c.skip-after.ensures in
    rw f.is (record { stands = f.first; block_is = refl; start_is = refl; left = f.others; same_block = refl; place = f.place })
