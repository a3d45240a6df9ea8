use Rattle.ild_path_pairs.proofs.Becoming.{struct_form_told}
use Rattle.ild_path_pairs.proofs.form.in_struct.Goals as goal
use Rattle.ild_path_pairs.specs.Pairs.{borrowed_text}

pub returns-in-StringPairs : goal.returns-in-StringPairs
returns-in-StringPairs c = λ ds k g form made clear named place gone.
    struct_form_told c.args.def.now.fields c.as_slice.result.now c.args.number c.in-StringPairs.inner c.in-StringPairs.entry c.as_str.result.now c.as_str-in-StringPairs.result.now c.args.text.now (borrowed_text c.args.new) c.struct_text.result c.struct_text.ensures
    c.as_str.ensures.same c.as_str-in-StringPairs.ensures.same c.as_slice.ensures c.args.def.now.form c.in-StringPairs.is ds k g made clear named place gone
