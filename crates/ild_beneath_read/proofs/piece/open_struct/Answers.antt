use Rattle.std.proofs.Common.{sym, subst}
use Rattle.ild_beneath_read.specs.inside.Left.{FieldsIn}
use Rattle.ild_schema.specs.declared.def.TypeDef.TheVariants as D
use Rattle.ild_beneath_read.proofs.Opening.{clear_listed, clear_named, fields_in, listed_parted, named_parted, tuple_parted}
use Rattle.ild_beneath_read.proofs.piece.open_struct.Goals as goal

pub returns-in-Some-clause-parted : goal.returns-in-Some-clause-parted
returns-in-Some-clause-parted c = λ t stands. named_parted c.args.def.now.form c.args.def.now.fields t c.in-Some.entries c.in-Map.is (c.in-Some.ensures t stands)

pub returns-in-Some-clause-ready : goal.returns-in-Some-clause-ready
returns-in-Some-clause-ready c =
    (clear_named c.args.def.now c.in-Map.is (c.recall.ensures.legible.clear.types c.args.base.0 (D.Struct c.args.def.now) c.requires.known), fields_in c.args.acc.now c.args.def.now c.requires.parts)

pub returns-in-Some-items-clause-parted : goal.returns-in-Some-items-clause-parted
returns-in-Some-items-clause-parted c = λ t stands. listed_parted c.args.def.now.form c.args.def.now.fields t c.in-Some-items.items c.in-ListPairs.is (c.in-Some-items.ensures c.args.acc.now t stands)

pub returns-in-Some-items-clause-ready : goal.returns-in-Some-items-clause-ready
returns-in-Some-items-clause-ready c =
    (clear_listed c.args.def.now c.in-ListPairs.is (c.recall.ensures.legible.clear.types c.args.base.0 (D.Struct c.args.def.now) c.requires.known), fields_in c.args.acc.now c.args.def.now c.requires.parts)

pub returns-in-Some-items-2-clause-parted : goal.returns-in-Some-items-2-clause-parted
returns-in-Some-items-2-clause-parted c = λ t stands.
    tuple_parted c.args.def.now.form c.args.def.now.fields t c.in-Some-items-2.items c.in-Tuple.is (c.in-Some-items-2.ensures c.args.acc.now t stands) c.as_slice.result.now c.as_slice.ensures

pub returns-in-Some-items-2-clause-ready : goal.returns-in-Some-items-2-clause-ready
returns-in-Some-items-2-clause-ready c = subst (FieldsIn c.args.acc.now) (sym c.as_slice.ensures) (fields_in c.args.acc.now c.args.def.now c.requires.parts)
