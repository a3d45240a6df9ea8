use Rattle.std.proofs.Common.{◌∙◌, ap, Some}
use Rattle.std.specs.Prelude.{pos}
use Rattle.ild_data.specs.Data.{integer}
use Rattle.ild_data.specs.Seen.{data_of}
use Rattle.ild_schema.specs.ValueSeen.{value_of}
use Rattle.ild_value_parts.proofs.Lists.{list_counted}
use Rattle.ild_value_parts.proofs.counting.count.Goals as goal

pub returns-in-List-form : goal.returns-in-List-form
returns-in-List-form c =
    list_counted c.args.acc.now c.args.slot c.in-List-form.elem c.in-List-form.at (value_of c.args.val.now) c.in-List.vals (data_of c.number.result)
    (c.form.ensures.form ∙ ap Some c.in-List-form.is) (ap value_of c.in-List.is) (c.number.ensures ∙ ap (λ n. integer (pos n)) c.len.ensures)
