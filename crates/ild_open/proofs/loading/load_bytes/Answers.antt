use Rattle.std.proofs.Common.{sym, ◌∙◌, subst}
use Rattle.std.proofs.lemmas.Bool.{false≢true}
use Rattle.ild_cbor.specs.Nodes.{HasData}
use Rattle.ild_data.specs.Seen.{data_of}
use Rattle.ild_typed.proofs.Wholes.{one_within}
use Rattle.ild_open.proofs.Carrying.{loads_spelled, spelled_flat, spelled_tree}
use Rattle.ild_open.proofs.Shortly.{flat_block}
use Rattle.ild_open.proofs.loading.load_bytes.Goals as goal

pub load_flat-requires-clause-tree : goal.load_flat-requires-clause-tree
load_flat-requires-clause-tree g c =
    let d = data_of c.args.tree.now in
    let x = c.in-Ok.ensures.found in
    let stands : HasData c.in-Ok.node d = subst (HasData c.in-Ok.node) (one_within x.0 d x.1.within c.requires.is_tree (sym x.1.spelled ∙ c.requires.spelled)) x.2.stands in
    spelled_tree c.args.acc.now c.args.room c.args.slot c.in-Ok.node d stands c.requires.front

pub load_flat-requires-clause-flat : goal.load_flat-requires-clause-flat
load_flat-requires-clause-flat g c =
    let d = data_of c.args.tree.now in
    let x = c.in-Ok.ensures.found in
    let stands : HasData c.in-Ok.node d = subst (HasData c.in-Ok.node) (one_within x.0 d x.1.within c.requires.is_tree (sym x.1.spelled ∙ c.requires.spelled)) x.2.stands in
    spelled_flat c.in-Ok.node d stands c.requires.flat

pub returns : goal.returns
returns g c =
    let d = data_of c.args.tree.now in
    let x = c.in-Ok.ensures.found in
    let stands : HasData c.in-Ok.node d = subst (HasData c.in-Ok.node) (one_within x.0 d x.1.within c.requires.is_tree (sym x.1.spelled ∙ c.requires.spelled)) x.2.stands in
    loads_spelled g.H.KeyHash.hash_of c.args.acc.now c.args.room c.args.slot c.in-Ok.node d (g.K.Store.moment c.args.store.now) (g.K.Store.moment c.load_flat.new.store) c.load_flat.result stands c.load_flat.ensures

pub unreachable-requires : goal.unreachable-requires
unreachable-requires g c =
    let d = data_of c.args.tree.now in
    false≢true (c.in-Err.ensures.only d (flat_block c.args.bytes.now d c.requires.is_tree c.requires.flat c.requires.short c.requires.spelled)).0
