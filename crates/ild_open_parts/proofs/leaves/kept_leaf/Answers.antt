use Rattle.std.proofs.Common.{List, sym, subst}
use Rattle.ild_schema.specs.Slots.{form_of}
use Rattle.ild_schema.specs.declared.row.Row.{Row}
use Rattle.ild_schema.specs.declared.val.Val.TheVariants as W
use Rattle.ild_typed.specs.Schema.{IsSchema}
use Rattle.ild_open_parts.specs.Leaf.{HasLeaf}
use Rattle.ild_open_parts.proofs.Leaving.{leaf_answer, leaf_passed}
use Rattle.ild_open_parts.proofs.Typing.{some_leaf}
use Rattle.ild_open_parts.proofs.leaves.kept_leaf.Goals as goal

pub returns-then-keep-clause-ok : goal.returns-then-keep-clause-ok
returns-then-keep-clause-ok c = λ t room stands front. leaf_answer c.args.acc.now room c.args.slot t c.args.keep c.leaf.result (c.leaf.ensures.ok t stands) front

pub returns-clause-ok : goal.returns-clause-ok
returns-clause-ok c = λ t room stands front.
    let rows : List Row = c.args.acc.now in
    let schema : IsSchema rows = record { table = c.recall.ensures.table; accepted = c.recall.ensures.accepted } in
    let x = some_leaf (form_of rows c.args.slot) c.requires.plain in
    subst (λ k. HasLeaf rows room c.args.slot t k W.Null) (sym c.if-keep.false) (leaf_passed rows schema room c.args.slot t x.0 x.1 x.2 W.Null front)
