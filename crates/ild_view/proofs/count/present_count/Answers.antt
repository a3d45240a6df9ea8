use Rattle.std.proofs.Common.{◌<◌, ◌≤◌, ◌^◌, List, length, arith, subst}
use Rattle.ild_schema.specs.declared.def.Field.{Field}
use Rattle.ild_view.proofs.Counting.{counted_few, fields_counted}
use Rattle.ild_view.proofs.count.present_count.Goals as goal

pub required-requires : goal.required-requires
required-requires c = subst (λ (fs : List Field). length fs ≤ 1024) c.requires c.args.parts.now.fields.most

pub returns : goal.returns
returns c = λ rows ty t os are lack.
    let most : length c.args.fields.now ≤ 1024 = subst (λ (fs : List Field). length fs ≤ 1024) c.requires c.args.parts.now.fields.most in
    let few : length c.args.fields.now < 2 ^ 64 = omega (arith, most) in
    let sum = fields_counted c.args.fields.now c.args.parts.now os c.present.result c.required.result c.optional_written.result few c.requires lack (c.present.ensures rows ty t os are) c.required.ensures c.optional_written.ensures in
    let less = counted_few c.args.fields.now os few lack in
    omega (arith, sum, less, c.saturating_add.ensures)
