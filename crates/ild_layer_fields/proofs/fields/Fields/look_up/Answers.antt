use Rattle.std.proofs.Common.{length, sym, ◌∙◌, ap}
use Rattle.std.specs.Prelude.{unwrap_or}
use Rattle.ild_schema.specs.Table.{def_at}
use Rattle.ild_layer_fields.proofs.Placing.{spelled_place}
use Rattle.ild_layer_fields.proofs.fields.Fields.look_up.Goals as goal

pub returns-in-Some-clause-place : goal.returns-in-Some-clause-place
returns-in-Some-clause-place c =
    let s = c.args.self.now in
    ap (λ r. unwrap_or r (length s.def.now.fields)) (sym c.in-Some.is)
    ∙ spelled_place (def_at s.acc.now s.base.0) s.def.now c.args.name.now c.part_spelled.result c.part_spelled.ensures.same s.is

pub returns-in-None-clause-place : goal.returns-in-None-clause-place
returns-in-None-clause-place c =
    let s = c.args.self.now in
    c.len.ensures ∙ ap (λ r. unwrap_or r (length s.def.now.fields)) (sym c.in-None.is)
    ∙ spelled_place (def_at s.acc.now s.base.0) s.def.now c.args.name.now c.part_spelled.result c.part_spelled.ensures.same s.is
