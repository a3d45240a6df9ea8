use Rattle.std.proofs.Common.{sym, true≢false}
use Rattle.ild_path_place.specs.declared.verb.Verb.TheVariants as V
use Rattle.ild_path_place.specs.Parts.{ArePartsOf}
use Rattle.ild_path.proofs.Placing.{brought_ins, brought_set, comes_by, linked_of, swaps_of, takes_ins, takes_set}
use Rattle.ild_path.proofs.edit.replace.Goals as goal

pub returns-in-Set-clause-swaps : goal.returns-in-Set-clause-swaps
returns-in-Set-clause-swaps g c = λ n slot.
    let at = c.into_parts-parts.ensures in
    let are : ArePartsOf c.args.place c.into_parts-parts.result = record { root = at.root; verb = at.verb; hops = at.hops; end = at.end } in
    swaps_of c.args.place c.into_parts-parts.result are c.edited.result n c.edited.ensures.root slot

pub returns-in-Ins-clause-swaps : goal.returns-in-Ins-clause-swaps
returns-in-Ins-clause-swaps g c = λ n slot.
    let at = c.into_parts-parts.ensures in
    let are : ArePartsOf c.args.place c.into_parts-parts.result = record { root = at.root; verb = at.verb; hops = at.hops; end = at.end } in
    swaps_of c.args.place c.into_parts-parts.result are c.edited-in-Ins.result n c.edited-in-Ins.ensures.root slot

pub returns-in-Set-clause-brings : goal.returns-in-Set-clause-brings
returns-in-Set-clause-brings g c = λ held n v w x u path verb e told place comes brings changed.
    let at = c.into_parts-parts.ensures in
    let are : ArePartsOf c.args.place c.into_parts-parts.result = record { root = at.root; verb = at.verb; hops = at.hops; end = at.end } in
    brought_set g.H.KeyHash.hash_of held n v w x u path verb c.args.place c.into_parts-parts.result are place (g.K.Store.moment c.args.store.now) (g.K.Store.moment c.edited.new.store) told c.edited.result
    c.args.part.now e c.in-Set.is comes brings changed c.edited.ensures.edits

pub returns-in-Ins-clause-brings : goal.returns-in-Ins-clause-brings
returns-in-Ins-clause-brings g c = λ held n v w x u path verb e told place comes brings changed.
    let at = c.into_parts-parts.ensures in
    let are : ArePartsOf c.args.place c.into_parts-parts.result = record { root = at.root; verb = at.verb; hops = at.hops; end = at.end } in
    brought_ins g.H.KeyHash.hash_of held n v w x u path verb c.args.place c.into_parts-parts.result are place (g.K.Store.moment c.args.store.now) (g.K.Store.moment c.edited-in-Ins.new.store) told c.edited-in-Ins.result
    c.args.part.now e c.in-Ins.is comes brings changed c.edited-in-Ins.ensures.edits

pub edited-requires-clause-ends : goal.edited-requires-clause-ends
edited-requires-clause-ends g c =
    let at = c.into_parts-parts.ensures in
    let are : ArePartsOf c.args.place c.into_parts-parts.result = record { root = at.root; verb = at.verb; hops = at.hops; end = at.end } in
    takes_set c.args.place c.into_parts-parts.result are c.args.part.now

pub edited-requires-clause-linked : goal.edited-requires-clause-linked
edited-requires-clause-linked g c =
    let at = c.into_parts-parts.ensures in
    let are : ArePartsOf c.args.place c.into_parts-parts.result = record { root = at.root; verb = at.verb; hops = at.hops; end = at.end } in
    linked_of c.args.place c.into_parts-parts.result are

pub edited-requires-in-Ins-clause-ends : goal.edited-requires-in-Ins-clause-ends
edited-requires-in-Ins-clause-ends g c =
    let at = c.into_parts-parts.ensures in
    let are : ArePartsOf c.args.place c.into_parts-parts.result = record { root = at.root; verb = at.verb; hops = at.hops; end = at.end } in
    takes_ins c.args.place c.into_parts-parts.result are c.args.part.now c.in-Ins.is

pub edited-requires-in-Ins-clause-linked : goal.edited-requires-in-Ins-clause-linked
edited-requires-in-Ins-clause-linked g c =
    let at = c.into_parts-parts.ensures in
    let are : ArePartsOf c.args.place c.into_parts-parts.result = record { root = at.root; verb = at.verb; hops = at.hops; end = at.end } in
    linked_of c.args.place c.into_parts-parts.result are

pub unreachable-requires : goal.unreachable-requires
unreachable-requires g c =
    let at = c.into_parts-parts.ensures in
    let are : ArePartsOf c.args.place c.into_parts-parts.result = record { root = at.root; verb = at.verb; hops = at.hops; end = at.end } in
    true≢false (sym (comes_by c.args.place c.into_parts-parts.result are V.Del c.in-Del.is c.requires))
