use Rattle.std.proofs.Common.{◌≡◌, List, get_or, Some, sym, ◌∙◌, ap, subst, arith}
use Rattle.std.specs.Prelude.{slice_get}
use Rattle.std.proofs.lemmas.Option.{same_Some}
use Rattle.ild_data.proofs.Gets.{got_at}
use Rattle.ild_schema.specs.declared.def.Field.{Field}
use Rattle.ild_typed.specs.Fits.{Fits}
use Rattle.ild_typed.specs.Layers.{RepresentsSome}
use Rattle.ild_layer_parts.proofs.past_fields.least.Goals as goal

pub returns-then-is_leaf-clause-fits : goal.returns-then-is_leaf-clause-fits
returns-then-is_leaf-clause-fits c = λ low t stands f known tree room.
    let fs : List Field = c.args.def.now.fields in
    let g : Field = c.index-fields-i.result in
    let is : g ≡ get_or fs c.args.i g = c.index-fields-i.is ∙ ap (λ (gs : List Field). get_or gs c.args.i g) c.as_slice-fields.ensures in
    let there : slice_get fs c.args.i ≡ Some g = got_at fs c.args.i g (omega (arith, low, c.requires.within)) is in
    let same : g ≡ f = same_Some g f (sym there ∙ known) in
    subst (λ (x : Field). RepresentsSome (Fits c.args.acc.now room) c.args.acc.now x.slot t) same (c.is_leaf.ensures c.if-is_leaf.true t stands tree room)
