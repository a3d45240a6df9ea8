use Rattle.std.proofs.Common.{◌≡◌, Some, sym, ◌∙◌, ap}
use Rattle.ild_schema.specs.Slots.{form_of}
use Rattle.ild_schema.specs.Table.{def_at}
use Rattle.ild_path_steps.proofs.Holding.{held_by}
use Rattle.ild_typed.specs.At.{seen}
use Rattle.ild_path_last.proofs.Verbs.{list_tells, others_tell}
use Rattle.ild_path_last.proofs.items.is_listed.Goals as goal

pub returns-in-List-clause-told : goal.returns-in-List-clause-told
returns-in-List-clause-told c = λ f t made stands.
    let known : form_of c.args.acc.now c.args.slot ≡ Some c.def.result.now = ap (def_at c.args.acc.now) (sym c.base.ensures.same) ∙ c.def.ensures.same in
    list_tells c.args.acc.now t c.def.result.now (seen c.args.acc.now (c.args.slot, f)) (held_by c.args.acc.now c.args.slot t c.def.result.now known f made) c.in-List.elem c.in-List.at c.in-List.is

pub returns-in_default-clause-told : goal.returns-in_default-clause-told
returns-in_default-clause-told c = λ f t made stands.
    let known : form_of c.args.acc.now c.args.slot ≡ Some c.def.result.now = ap (def_at c.args.acc.now) (sym c.base.ensures.same) ∙ c.def.ensures.same in
    others_tell c.args.acc.now t c.def.result.now (seen c.args.acc.now (c.args.slot, f)) (held_by c.args.acc.now c.args.slot t c.def.result.now known f made) c.in_default.not-Any c.in_default.not-List
