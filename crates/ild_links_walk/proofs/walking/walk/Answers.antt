use Rattle.std.proofs.Common.{Ok, Err, ap, sym, subst, ◌∙◌}
use Rattle.ild_data.specs.Spell.{id_of}
use Rattle.ild_links_lines.specs.Walks.{WalksAlong}
use Rattle.ild_links_walk.proofs.Walked.{over_doc, walks_err, walks_ok}
use Rattle.ild_run_links.specs.Trees.{Over}
use Rattle.ild_script.specs.declared.reply.No.{No}
use Rattle.ild_links_walk.proofs.walking.walk.Goals as goal

pub returns-in-Ok : goal.returns-in-Ok
returns-in-Ok g c =
    let m = g.K.Store.moment c.args.store.now in
    let x = g.K.Store.moment c.over-trees.result.store.now in
    let n = g.K.Store.moment c.store-1.given.0 in
    let y = g.K.Store.moment c.follow.new.trees.store.now in
    let name = ap (λ (o : Over). o.store) c.in-Ok.ensures.same ∙ c.over-trees.ensures.same_store.0 in
    walks_ok id_of c.args.doc.now c.args.path.now m n c.over-trees.result.lacks c.follow.new.trees.lacks c.in-Ok.hops
    (over_doc id_of c.args.doc.now c.over-trees.result.doc.now c.args.path.now m x n y c.over-trees.result.lacks c.follow.new.trees.lacks (Ok c.in-Ok.hops) c.over-trees.ensures.same_doc (ap g.K.Store.moment c.over-trees.ensures.same_store.1)
    (ap g.K.Store.moment (c.store-1.given.1 (sym name))) c.in-Ok.ensures.follows)

pub returns-in-Err : goal.returns-in-Err
returns-in-Err g c =
    let m = g.K.Store.moment c.args.store.now in
    let x = g.K.Store.moment c.over-trees.result.store.now in
    let n = g.K.Store.moment c.store-1.given.0 in
    let y = g.K.Store.moment c.follow.new.trees.store.now in
    let name = ap (λ (o : Over). o.store) c.in-Err.ensures.same ∙ c.over-trees.ensures.same_store.0 in
    subst (λ (r : No). WalksAlong id_of c.args.doc.now c.args.path.now m (Err r) n) (sym c.link_refusal.ensures)
    (walks_err id_of c.args.doc.now c.args.path.now m n c.over-trees.result.lacks c.follow.new.trees.lacks c.in-Err.fault
    (over_doc id_of c.args.doc.now c.over-trees.result.doc.now c.args.path.now m x n y c.over-trees.result.lacks c.follow.new.trees.lacks (Err c.in-Err.fault) c.over-trees.ensures.same_doc (ap g.K.Store.moment c.over-trees.ensures.same_store.1)
    (ap g.K.Store.moment (c.store-1.given.1 (sym name))) c.in-Err.ensures.follows))
