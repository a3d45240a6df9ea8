use Rattle.std.proofs.Common.{ap, ◌∙◌}
use Rattle.ild_path_place.specs.Comes.{comes}
use Rattle.ild_run_edit.proofs.Composing.{refused_root, come_root, go_root, swaps_as}
use Rattle.ild_run_edit.proofs.Naming.{nowhere_unclashed}
use Rattle.ild_run_edit.proofs.rooting.new_root.Goals as goal

pub returns-in-Err-clause-makes : goal.returns-in-Err-clause-makes
returns-in-Err-clause-makes g c =
    refused_root c.held_are_standing.ensures _ _ c.args.verb c.args.path.now c.args.json.now c.are_texts.ensures _ _ _ c.in-Err.ensures

pub returns-in-Err-clause-named : goal.returns-in-Err-clause-named
returns-in-Err-clause-named g c = λ e. absurd (nowhere_unclashed g.H.KeyHash.hash_of c.args.doc.now (g.K.Store.moment c.args.store.now) (g.K.Store.moment c.located.new.store) c.in-Err.refusal c.in-Err.ensures.fails e)

pub returns-in-Set : goal.returns-in-Set
returns-in-Set g c = record {
  swaps = swaps_as c.args.doc.now c.in-Ok.place c.bring.result c.in-Ok.ensures.of c.bring.ensures.swaps;
  makes = come_root c.held_are_standing.ensures _ _ c.args.path.now c.args.json.now c.are_texts.ensures c.args.verb (ap comes c.in-Set.is) _ _ _ c.in-Ok.place _ c.in-Ok.ensures c.bring.ensures.comes;
  named = c.bring.ensures.named;
}

pub returns-in-Ins : goal.returns-in-Ins
returns-in-Ins g c = record {
  swaps = swaps_as c.args.doc.now c.in-Ok.place c.bring-in-Ins.result c.in-Ok.ensures.of c.bring-in-Ins.ensures.swaps;
  makes = come_root c.held_are_standing.ensures _ _ c.args.path.now c.args.json.now c.are_texts.ensures c.args.verb (ap comes c.in-Ins.is) _ _ _ c.in-Ok.place _ c.in-Ok.ensures c.bring-in-Ins.ensures.comes;
  named = c.bring-in-Ins.ensures.named;
}

pub returns-in-Del-clause-makes : goal.returns-in-Del-clause-makes
returns-in-Del-clause-makes g c =
    go_root c.held_are_standing.ensures _ _ c.args.path.now c.args.json.now c.are_texts.ensures c.args.verb c.in-Del.is _ _ _ c.in-Ok.place _ c.in-Ok.ensures c.erase_part.ensures.goes

pub bring-requires-clause-brings : goal.bring-requires-clause-brings
bring-requires-clause-brings g c = ap comes (c.in-Ok.ensures.done ∙ c.in-Set.is)

pub bring-requires-in-Ins-clause-brings : goal.bring-requires-in-Ins-clause-brings
bring-requires-in-Ins-clause-brings g c = ap comes (c.in-Ok.ensures.done ∙ c.in-Ins.is)

pub erase_part-requires-clause-done : goal.erase_part-requires-clause-done
erase_part-requires-clause-done g c = c.in-Ok.ensures.done ∙ c.in-Del.is
