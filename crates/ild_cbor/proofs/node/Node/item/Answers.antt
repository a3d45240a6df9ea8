use Rattle.std.proofs.Common.{arith}
use Rattle.std.proofs.Math.Logic.{∥∥₁_map}
use Rattle.ild_cbor.proofs.Insides.{has_item, found}
use Rattle.ild_cbor.proofs.Around.{has_last}
use Rattle.ild_cbor.proofs.node.Node.item.Goals as goal

pub part-requires : goal.part-requires
part-requires c = ∥∥₁_map c.args.self.now.stands
    (λ s. (has_item c.args.self.now c.start-start.result c.args.i c.skip-rest.result.now s.of s.spells (c.start-start.ensures s.of s.spells) (omega arith) (omega arith) c.skip-rest.ensures).part)

pub last-requires : goal.last-requires
last-requires c = ∥∥₁_map c.args.self.now.stands
    (λ s. let p = has_last c.args.self.now c.start-start.result c.args.i c.skip-rest.result.now s.of s.spells (c.start-start.ensures s.of s.spells) (omega arith) (omega arith) c.skip-rest.ensures in record { part = p.sought.part; end = p.end })

pub returns : goal.returns
returns c = λ t h.
    let p = has_item c.args.self.now c.start-start.result c.args.i c.skip-rest.result.now t h (c.start-start.ensures t h) (omega arith) (omega arith) c.skip-rest.ensures in
    found c.args.self.now c.part.result c.skip-rest.result.now _ _ p (c.part.ensures p.part)

pub returns-then-i-start-2 : goal.returns-then-i-start-2
returns-then-i-start-2 c = λ t h.
    let p = has_last c.args.self.now c.start-start.result c.args.i c.skip-rest.result.now t h (c.start-start.ensures t h) (omega arith) (omega arith) c.skip-rest.ensures in
    found c.args.self.now c.last.result c.skip-rest.result.now _ _ p.sought (c.last.ensures (record { part = p.sought.part; end = p.end }))
