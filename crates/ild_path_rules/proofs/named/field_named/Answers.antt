use Rattle.std.proofs.Common.{Some, None, ◌∙◌, ap}
use Rattle.std.specs.Prelude.{slice_get}
use Rattle.ild_schema.specs.Slots.{form_of}
use Rattle.ild_view.specs.View.{slot_of, table_of}
use Rattle.ild_path_rules.proofs.Naming.{field_found}
use Rattle.ild_path_rules.proofs.named.field_named.Goals as goal

pub returns-in-Some : goal.returns-in-Some
returns-in-Some c = λ known.
    let d = form_of (table_of c.args.view.now) (slot_of c.args.view.now) in
    c.field_at.ensures ∙ ap (λ fs. slice_get fs c.in-Some.number) c.as_slice.ensures ∙ field_found c.args.name.now d (Some c.in-Some.number) c.in-Some.ensures c.args.def.now known

pub returns-in-None : goal.returns-in-None
returns-in-None c = λ known.
    let d = form_of (table_of c.args.view.now) (slot_of c.args.view.now) in
    field_found c.args.name.now d None c.in-None.ensures c.args.def.now known
