use Rattle.std.proofs.Common.{Some, None, ◌∙◌, ap}
use Rattle.std.specs.Prelude.{slice_get}
use Rattle.ild_schema.specs.Slots.{form_of}
use Rattle.ild_view.specs.View.{slot_of, table_of}
use Rattle.ild_path_rules.proofs.Naming.{member_found}
use Rattle.ild_path_rules.proofs.named.member_called.Goals as goal

pub returns-in-Some : goal.returns-in-Some
returns-in-Some c = λ known.
    let d = form_of (table_of c.args.view.now) (slot_of c.args.view.now) in
    c.member_at.ensures ∙ ap (λ ms. slice_get ms c.in-Some.number) c.as_slice.ensures ∙ member_found c.args.name.now d (Some c.in-Some.number) c.in-Some.ensures c.args.def.now known

pub returns-in-None : goal.returns-in-None
returns-in-None c = λ known.
    let d = form_of (table_of c.args.view.now) (slot_of c.args.view.now) in
    member_found c.args.name.now d None c.in-None.ensures c.args.def.now known
