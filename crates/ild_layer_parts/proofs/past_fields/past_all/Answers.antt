use Rattle.std.proofs.Common.{List}
use Rattle.ild_schema.specs.declared.row.Row.{Row}
use Rattle.ild_typed.specs.Schema.{IsSchema}
use Rattle.ild_layer_parts.proofs.ToldFields.{told_pass}
use Rattle.ild_layer_parts.proofs.past_fields.past_all.Goals as goal

pub returns-clause-passes : goal.returns-clause-passes
returns-clause-passes c = λ ps h.
    let rows : List Row = c.args.acc.now in
    let schema : IsSchema rows = record { table = c.recall.ensures.table; accepted = c.recall.ensures.accepted } in
    told_pass rows schema c.recall.ensures.legible c.args.fields.def.now c.requires.low c.args.fields.parts c.requires.told c.args.fields.next c.requires.begun _ ps h
