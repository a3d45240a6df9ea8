use Rattle.std.proofs.Common.{Some, ◌∙◌, ap, length}
use Rattle.ild_schema.specs.ValueSeen.{value_of}
use Rattle.ild_value_shown.proofs.Forms.{fields_low}
use Rattle.ild_value_parts.proofs.Lists.{map_listed}
use Rattle.ild_value_parts.proofs.listed.listed.Goals as goal

pub fields-requires : goal.fields-requires
fields-requires c = fields_low (length c.args.acc.now) c.form-in-Struct.result.now c.in-Struct-form.def c.as_slice.result.now c.form-in-Struct.ensures.within c.in-Struct-form.is c.as_slice.ensures

pub returns-in_ok-pairs-in-Map-form : goal.returns-in_ok-pairs-in-Map-form
returns-in_ok-pairs-in-Map-form c =
    map_listed c.args.acc.now c.args.slot c.in-Map-form.key c.in-Map-form.key_at c.in-Map-form.value c.in-Map-form.at c.in-Map-form.form (value_of c.args.val.now) c.in-Map.vals c.in_ok-pairs-in-Map-form.pairs
    (c.form-in-Map.ensures.form ∙ ap Some c.in-Map-form.is) (ap value_of c.in-Map.is) c.in_ok-pairs-in-Map-form.ensures
