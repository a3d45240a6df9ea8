use Rattle.std.proofs.Common.{refl, arith}
use Rattle.std.specs.Coded.{le_prop}
use Rattle.std.proofs.Math.Logic.{∥∥₁_elim, ∥∥₁_map}
use Rattle.ild_cbor.proofs.Insides.{part_inside, found}
use Rattle.ild_cbor.proofs.Around.{has_last}
use Rattle.ild_cbor.proofs.Halves.{has_first, two_there, no_two}
use Rattle.ild_cbor.proofs.node.Node.pair.Goals as goal

pub overflow_sub-first : goal.overflow_sub-first
overflow_sub-first c = ∥∥₁_elim c.args.self.now.stands le_prop
    (λ s. (part_inside c.args.self.now c.start-start.result.rest.now c.skip-rest.result.now (has_first c.args.self.now c.start-start.result s.of s.spells (c.start-start.ensures s.of s.spells) (omega arith) (omega arith)).part c.skip-rest.ensures).rest_fits)

pub overflow_sub-first-2 : goal.overflow_sub-first-2
overflow_sub-first-2 c = ∥∥₁_elim c.args.self.now.stands le_prop
    (λ s. (part_inside c.args.self.now c.start-start.result.rest.now c.skip-rest.result.now (has_first c.args.self.now c.start-start.result s.of s.spells (c.start-start.ensures s.of s.spells) (omega arith) (omega arith)).part c.skip-rest.ensures).after_fits)

pub invariant_of-first-clause-order : goal.invariant_of-first-clause-order
invariant_of-first-clause-order c = ∥∥₁_elim c.args.self.now.stands le_prop
    (λ s. (part_inside c.args.self.now c.start-start.result.rest.now c.skip-rest.result.now (has_first c.args.self.now c.start-start.result s.of s.spells (c.start-start.ensures s.of s.spells) (omega arith) (omega arith)).part c.skip-rest.ensures).order)

pub invariant_of-first-clause-stands : goal.invariant_of-first-clause-stands
invariant_of-first-clause-stands c = ∥∥₁_map c.args.self.now.stands
    (λ s. let p = (has_first c.args.self.now c.start-start.result s.of s.spells (c.start-start.ensures s.of s.spells) (omega arith) (omega arith)).part in record { of = p.of; spells = (part_inside c.args.self.now c.start-start.result.rest.now c.skip-rest.result.now p c.skip-rest.ensures).spells })

pub last-requires : goal.last-requires
last-requires c = ∥∥₁_map c.args.self.now.stands
    (λ s. let p = has_last c.args.self.now c.start-start.result 1 c.skip-rest.result.now s.of s.spells (c.start-start.ensures s.of s.spells) (omega arith) (omega arith) c.skip-rest.ensures in record { part = p.sought.part; end = p.end })

pub returns-then-start-ne4 : goal.returns-then-start-ne4
returns-then-start-ne4 c = λ t h. no_two c.args.self.now c.start-start.result t (c.start-start.ensures t h) (λ four two. omega arith)

pub returns : goal.returns
returns c = λ t h.
    let st = c.start-start.ensures t h in
    let a = has_first c.args.self.now c.start-start.result t h st (omega arith) (omega arith) in
    let i = part_inside c.args.self.now c.start-start.result.rest.now c.skip-rest.result.now a.part c.skip-rest.ensures in
    let b = has_last c.args.self.now c.start-start.result 1 c.skip-rest.result.now t h st (omega arith) (omega arith) c.skip-rest.ensures in (
      two_there c.start-start.result t st (omega arith) (omega arith),
      found c.args.self.now _ c.start-start.result.rest.now _ _ a (record { stands = i.spells; block_is = refl; start_is = i.place }),
      found c.args.self.now c.last.result c.skip-rest.result.now _ _ b.sought (c.last.ensures (record { part = b.sought.part; end = b.end })),
    )
