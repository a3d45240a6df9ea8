use Rattle.std.proofs.Common.{◌≤◌, ℕ, Err, sym, subst}
use Rattle.ild_data.specs.Spell.{id_of}
use Rattle.ild_links.specs.Relinks.{Relinks}
use Rattle.ild_links.specs.declared.error.TreeErr.{TreeErr}
use Rattle.ild_run_links.proofs.Relinked.{relinks_err, relinks_ok, still_held, still_stands}
use Rattle.ild_run_links.specs.Moments.{with_lacks}
use Rattle.ild_run_links.specs.Trees.{Setting, Storable, trees}
use Rattle.ild_run_links.specs.inside.Faults.{lacks_after}
use Rattle.ild_typed.specs.Schema.{IsSchema}
use Rattle.ild_view_doc.specs.Docs.{block_in, table_in, type_in}
use Rattle.ild_run_links.proofs.trees.LinkedDocsLinked.relink.Goals as goal

pub relink_tree-requires-clause-names : goal.relink_tree-requires-clause-names
relink_tree-requires-clause-names g c = λ first. let is = c.requires.names first in (sym is.0, sym is.1)

pub returns-in-Ok-clause-relinks : goal.returns-in-Ok-clause-relinks
returns-in-Ok-clause-relinks g c =
    let own = c.args.self.now in
    let d = own.doc.now in
    let w : Setting = record { hash = g.H.KeyHash.hash_of; rows = table_in d; ty = type_in d; id = id_of (block_in d) } in
    let schema = subst IsSchema c.schema.ensures (record { table = c.recall.ensures.table; accepted = c.recall.ensures.accepted }) in
    relinks_ok w schema c.args.path.now c.args.hop.now c.args.new.now.0 (g.K.Store.moment own.store.now) (g.K.Store.moment c.relink_tree.new.store) own.lacks c.requires.link c.in-Ok.root c.in-Ok.ensures

pub returns-in-Err-clause-relinks : goal.returns-in-Err-clause-relinks
returns-in-Err-clause-relinks g c =
    let own = c.args.self.now in
    let d = own.doc.now in
    let w : Setting = record { hash = g.H.KeyHash.hash_of; rows = table_in d; ty = type_in d; id = id_of (block_in d) } in
    let m = g.K.Store.moment own.store.now in
    let n = g.K.Store.moment c.relink_tree.new.store in
    let schema = subst IsSchema c.schema.ensures (record { table = c.recall.ensures.table; accepted = c.recall.ensures.accepted }) in
    let grows = subst (λ (l : ℕ). own.lacks ≤ l) c.told.ensures.counted c.told.ensures.grows in
    let here = relinks_err w schema c.args.path.now c.args.hop.now c.args.new.now.0 m n own.lacks c.requires.link c.in-Err.fault c.in-Err.ensures grows in
    subst (λ (l : ℕ). Relinks (Storable w) (trees w) (with_lacks m own.lacks) c.args.path.now c.args.hop.now c.args.new.now.0 (Err c.told.result) (with_lacks n l)) (sym c.told.ensures.counted)
    (subst (λ (e : TreeErr). Relinks (Storable w) (trees w) (with_lacks m own.lacks) c.args.path.now c.args.hop.now c.args.new.now.0 (Err e) (with_lacks n (lacks_after own.lacks c.in-Err.fault))) (sym c.told.ensures.same) here)

pub invariant_of-self : goal.invariant_of-self
invariant_of-self g c =
    let m = g.K.Store.moment c.args.self.now.store.now in
    let n = g.K.Store.moment c.relink_tree.new.store in
    record {
      held = still_held c.args.self.now.doc.now m n c.relink_tree.ensures.later c.args.self.now.held;
      stands = still_stands g.H.KeyHash.hash_of c.args.self.now.doc.now m n c.relink_tree.ensures.later c.args.self.now.stands;
    }

pub invariant_of-self-in-Err-clause-held : goal.invariant_of-self-in-Err-clause-held
invariant_of-self-in-Err-clause-held g c = still_held c.args.self.now.doc.now (g.K.Store.moment c.args.self.now.store.now) (g.K.Store.moment c.relink_tree.new.store) c.relink_tree.ensures.later c.args.self.now.held

pub invariant_of-self-in-Err-clause-stands : goal.invariant_of-self-in-Err-clause-stands
invariant_of-self-in-Err-clause-stands g c = still_stands g.H.KeyHash.hash_of c.args.self.now.doc.now (g.K.Store.moment c.args.self.now.store.now) (g.K.Store.moment c.relink_tree.new.store) c.relink_tree.ensures.later c.args.self.now.stands
