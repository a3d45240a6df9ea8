use Rattle.std.proofs.Common.{sym, ap, ◌∙◌, arith}
use Rattle.ild_data.specs.ByteOrder.{bytewise}
use Rattle.ild_node.proofs.Placing.{passed-less, passed-equal, passed-more, passed-all}
use Rattle.ild_node.proofs.placed.place_of.Goals as goal

pub returns-in-Less-clause-none : goal.returns-in-Less-clause-none
returns-in-Less-clause-none c = λ v. (
  omega arith,
  passed-less c.args.key.now c.args.rows.now c.loop-i.i c.index-rows-i.result v c.loop-i.invariant (omega arith) c.index-rows-i.is
      (ap (bytewise c.args.key.now) (sym c.as_str.ensures.same) ∙ sym c.cmp.ensures ∙ c.in-Less.is),
)

pub returns-in-Equal-clause-found : goal.returns-in-Equal-clause-found
returns-in-Equal-clause-found c = λ v. (
  omega arith,
  passed-equal c.args.key.now c.args.rows.now c.loop-i.i c.index-rows-i.result v c.loop-i.invariant (omega arith) c.index-rows-i.is
      (ap (bytewise c.args.key.now) (sym c.as_str.ensures.same) ∙ sym c.cmp.ensures ∙ c.in-Equal.is),
)

pub returns-clause-none : goal.returns-clause-none
returns-clause-none c = λ v. (omega arith, passed-all c.args.key.now c.args.rows.now v c.loop-i.i c.loop-i.invariant (omega arith))

pub loop-i-preserved : goal.loop-i-preserved
loop-i-preserved c =
    passed-more c.args.key.now c.args.rows.now c.loop-i.i c.index-rows-i.result c.loop-i.invariant (omega arith) c.index-rows-i.is
    (ap (bytewise c.args.key.now) (sym c.as_str.ensures.same) ∙ sym c.cmp.ensures ∙ c.in-Greater.is)
