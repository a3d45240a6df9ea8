use Rattle.std.proofs.Common.{◌∙◌}
use Rattle.ild_path_place.specs.Parts.{ArePartsOf}
use Rattle.ild_schema.specs.Value.{null}
use Rattle.ild_path_place.specs.declared.verb.Verb.TheVariants as V
use Rattle.ild_path.proofs.Placing.{erased, linked_of, swaps_of, takes_del}
use Rattle.ild_path.proofs.edit.erase.Goals as goal

pub returns-clause-swaps : goal.returns-clause-swaps
returns-clause-swaps g c = λ n slot.
    let at = c.into_parts.ensures in
    let are : ArePartsOf c.args.place c.into_parts.result = record { root = at.root; verb = at.verb; hops = at.hops; end = at.end } in
    swaps_of c.args.place c.into_parts.result are c.edited.result n c.edited.ensures.root slot

pub returns-clause-erases : goal.returns-clause-erases
returns-clause-erases g c = λ held n v x u path told place changed.
    let at = c.into_parts.ensures in
    let are : ArePartsOf c.args.place c.into_parts.result = record { root = at.root; verb = at.verb; hops = at.hops; end = at.end } in
    erased g.H.KeyHash.hash_of held n v null x u path V.Del c.args.place c.into_parts.result are place (g.K.Store.moment c.args.store.now) (g.K.Store.moment c.edited.new.store) told c.edited.result changed c.edited.ensures.edits

pub edited-requires-clause-ends : goal.edited-requires-clause-ends
edited-requires-clause-ends g c =
    let at = c.into_parts.ensures in
    let are : ArePartsOf c.args.place c.into_parts.result = record { root = at.root; verb = at.verb; hops = at.hops; end = at.end } in
    takes_del c.args.place c.into_parts.result are (at.verb ∙ c.requires)

pub edited-requires-clause-linked : goal.edited-requires-clause-linked
edited-requires-clause-linked g c =
    let at = c.into_parts.ensures in
    let are : ArePartsOf c.args.place c.into_parts.result = record { root = at.root; verb = at.verb; hops = at.hops; end = at.end } in
    linked_of c.args.place c.into_parts.result are
