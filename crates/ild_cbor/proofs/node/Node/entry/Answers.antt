use Rattle.std.proofs.Common.{arith, sym, subst, None, Option}
use Rattle.std.proofs.Math.Logic.{∥∥₁_map}
use Rattle.ild_data.specs.Data.{Data}
use Rattle.ild_cbor.specs.Nodes.{Finds}
use Rattle.ild_cbor.specs.Span.{place_of, index_of}
use Rattle.ild_cbor.proofs.Insides.{has_entry, no_entry, found}
use Rattle.ild_cbor.proofs.node.Node.entry.Goals as goal

pub part-requires : goal.part-requires
part-requires c = ∥∥₁_map c.args.self.now.stands
    (λ s. (has_entry c.args.self.now c.start-start.result c.in-Some.value.now c.args.key.now s.of s.spells (c.start-start.ensures s.of s.spells) (omega arith) c.in-Some.ensures).part)

pub returns-in-Some : goal.returns-in-Some
returns-in-Some c = λ t h.
    let p = has_entry c.args.self.now c.start-start.result c.in-Some.value.now c.args.key.now t h (c.start-start.ensures t h) (omega arith) c.in-Some.ensures in
    found c.args.self.now c.part.result c.in-Some.value.now _ _ p (c.part.ensures p.part)

pub returns-in-None : goal.returns-in-None
returns-in-None c = λ t h.
    let e = no_entry c.args.self.now c.start-start.result c.args.key.now t h (c.start-start.ensures t h) (omega arith) c.in-None.ensures in
    subst (λ (o : Option Data). Finds c.args.self.now (place_of t (index_of c.args.key.now t)) o None) (sym e) tt
