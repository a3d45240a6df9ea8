use Rattle.std.proofs.Common.{Ok, Err, length, ap, sym, subst, ◌∙◌}
use Rattle.ild_data.specs.Spell.{id_of}
use Rattle.ild_links.specs.Carries.{HasWalk}
use Rattle.ild_links.specs.Follows.{AreTyped, BeginAt}
use Rattle.ild_links.specs.Trees.{first_tree}
use Rattle.ild_links_edit.proofs.Carried.{raises}
use Rattle.ild_links_edit.specs.inside.Raises.{Raises}
use Rattle.ild_links_lines.specs.Walks.{trees_of}
use Rattle.ild_run_links.specs.Trees.{Over, Storable, trees}
use Rattle.ild_script.specs.declared.reply.No.{No}
use Rattle.ild_view_doc.specs.Docs.{table_in}
use Rattle.ild_view_doc.specs.declared.doc.Doc.{Doc}
use Rattle.ild_links_edit.proofs.raising.raise.Goals as goal

pub carry-requires-clause-first : goal.carry-requires-clause-first
carry-requires-clause-first g c = subst (λ (d : Doc). BeginAt (first_tree (trees (trees_of id_of d))) c.args.hops.now) (sym c.over-trees.ensures.same_doc) c.requires.first

pub carry-requires-clause-typed : goal.carry-requires-clause-typed
carry-requires-clause-typed g c = subst (λ (d : Doc). AreTyped (length (table_in d)) c.args.hops.now) (sym c.over-trees.ensures.same_doc) c.requires.typed

pub carry-requires-clause-walk : goal.carry-requires-clause-walk
carry-requires-clause-walk g c = λ held told.
    subst (λ (d : Doc). ∥ HasWalk (Storable (trees_of id_of d)) (trees (trees_of id_of d)) held c.args.path.now c.args.hops.now ∥₁) (sym c.over-trees.ensures.same_doc)
    (c.requires.walk held ((λ i. (g.K.Store.moment (sym c.over-trees.ensures.same_store.1 i)).blocks) ∙ told))

pub returns-in-Ok : goal.returns-in-Ok
returns-in-Ok g c =
    let m = g.K.Store.moment c.args.store.now in
    let x = g.K.Store.moment c.over-trees.result.store.now in
    let n = g.K.Store.moment c.store-1.given.0 in
    let y = g.K.Store.moment c.carry.new.trees.store.now in
    let name = ap (λ (o : Over). o.store) c.in-Ok.ensures.same ∙ c.over-trees.ensures.same_store.0 in
    raises c.args.path.now c.args.hops.now c.args.new.now.0 c.over-trees.result.lacks c.carry.new.trees.lacks c.args.doc.now c.over-trees.result.doc.now m x n y (Ok c.in-Ok.root) c.over-trees.ensures.same_doc
    (ap g.K.Store.moment c.over-trees.ensures.same_store.1) (ap g.K.Store.moment (c.store-1.given.1 (sym name))) c.in-Ok.ensures.carries

pub returns-in-Err : goal.returns-in-Err
returns-in-Err g c =
    let m = g.K.Store.moment c.args.store.now in
    let x = g.K.Store.moment c.over-trees.result.store.now in
    let n = g.K.Store.moment c.store-1.given.0 in
    let y = g.K.Store.moment c.carry.new.trees.store.now in
    let name = ap (λ (o : Over). o.store) c.in-Err.ensures.same ∙ c.over-trees.ensures.same_store.0 in
    subst (λ (r : No). Raises (trees_of id_of c.args.doc.now) c.args.path.now c.args.hops.now c.args.new.now.0 m (Err r) n) (sym c.tree_refusal.ensures)
    (raises c.args.path.now c.args.hops.now c.args.new.now.0 c.over-trees.result.lacks c.carry.new.trees.lacks c.args.doc.now c.over-trees.result.doc.now m x n y (Err c.in-Err.err) c.over-trees.ensures.same_doc
    (ap g.K.Store.moment c.over-trees.ensures.same_store.1) (ap g.K.Store.moment (c.store-1.given.1 (sym name))) c.in-Err.ensures.carries)
