use Rattle.std.proofs.Common.{◌≡◌, ℕ, ◌≤◌, List, Ok, Err, refl, sym, subst, ap, ◌∙◌}
use Rattle.ild_data.specs.Spell.{id_of}
use Rattle.ild_links.specs.Stops.{Stops}
use Rattle.ild_links.specs.Trees.{Tree}
use Rattle.ild_links.specs.declared.error.TreeErr.{TreeErr}
use Rattle.ild_run_links.proofs.Stopped.{first_at_hand, opened_at_hand, stops_closed, stops_err, stops_ok}
use Rattle.ild_run_links.specs.Moments.{with_lacks}
use Rattle.ild_run_links.specs.Trees.{Setting, Storable, trees}
use Rattle.ild_run_links.specs.inside.Faults.{lacks_after, open_fault, tree_err}
use Rattle.ild_open.specs.Opened.{HasOpened, Opens}
use Rattle.ild_schema.specs.declared.row.Row.{Row}
use Rattle.ild_view_doc.specs.Docs.{block_in, table_in, type_in}
use Rattle.ild_run_links.proofs.trees.LinkedDocsLinked.stop.Goals as goal

pub returns-in-Ok-clause-stops : goal.returns-in-Ok-clause-stops
returns-in-Ok-clause-stops g c =
    let own = c.args.self.now in
    let d = own.doc.now in
    let w : Setting = record { hash = g.H.KeyHash.hash_of; rows = table_in d; ty = type_in d; id = id_of (block_in d) } in
    let t : Tree = record { first = c.args.first; ty = c.args.ty; id = c.args.id.now.0 } in
    let m = g.K.Store.moment own.store.now in
    let n = g.K.Store.moment c.stop_in.new.store in
    let is = c.requires.names c.if-first.true in
    let at_hand = first_at_hand w t d m refl (sym is.0) (sym is.1) c.if-first.true own.held own.stands in
    stops_ok w t d m m n own.lacks at_hand c.args.path.now c.args.from c.in-Ok.stop c.in-Ok.ensures

pub returns-in-Err-clause-stops : goal.returns-in-Err-clause-stops
returns-in-Err-clause-stops g c =
    let own = c.args.self.now in
    let d = own.doc.now in
    let w : Setting = record { hash = g.H.KeyHash.hash_of; rows = table_in d; ty = type_in d; id = id_of (block_in d) } in
    let t : Tree = record { first = c.args.first; ty = c.args.ty; id = c.args.id.now.0 } in
    let m = g.K.Store.moment own.store.now in
    let n = g.K.Store.moment c.stop_in.new.store in
    let is = c.requires.names c.if-first.true in
    let at_hand = first_at_hand w t d m refl (sym is.0) (sym is.1) c.if-first.true own.held own.stands in
    let grows = subst (λ (l : ℕ). own.lacks ≤ l) c.told.ensures.counted c.told.ensures.grows in
    let here = stops_err w t d m m n own.lacks at_hand c.args.path.now c.args.from c.in-Err.fault c.in-Err.ensures c.args.id.now refl grows in
    subst (λ (l : ℕ). Stops (Storable w) (trees w) (with_lacks m own.lacks) t c.args.path.now c.args.from (Err c.told.result) (with_lacks n l)) (sym c.told.ensures.counted)
    (subst (λ (e : TreeErr). Stops (Storable w) (trees w) (with_lacks m own.lacks) t c.args.path.now c.args.from (Err e) (with_lacks n (lacks_after own.lacks c.in-Err.fault))) (sym c.told.ensures.same) here)

pub returns-in-Ok-stop_in-clause-stops : goal.returns-in-Ok-stop_in-clause-stops
returns-in-Ok-stop_in-clause-stops g c =
    let own = c.args.self.now in
    let first = own.doc.now in
    let h = g.H.KeyHash.hash_of in
    let w : Setting = record { hash = h; rows = table_in first; ty = type_in first; id = id_of (block_in first) } in
    let t : Tree = record { first = c.args.first; ty = c.args.ty; id = c.args.id.now.0 } in
    let m = g.K.Store.moment own.store.now in
    let k = g.K.Store.moment c.open_root.new.store in
    let n = g.K.Store.moment c.stop_in-in-Ok-open_root.new.store in
    let d = c.in-Ok-open_root.doc in
    let opens = subst (λ (rows : List Row). Opens (HasOpened h rows t.ty t.id k) h rows t.ty t.id m (Ok d) k) c.schema.ensures c.in-Ok-open_root.ensures in
    stops_ok w t d m k n own.lacks (opened_at_hand w t m k d c.if-first.false opens) c.args.path.now c.args.from c.in-Ok-stop_in.stop c.in-Ok-stop_in.ensures

pub returns-in-Ok-open_root-clause-stops : goal.returns-in-Ok-open_root-clause-stops
returns-in-Ok-open_root-clause-stops g c =
    let own = c.args.self.now in
    let first = own.doc.now in
    let h = g.H.KeyHash.hash_of in
    let w : Setting = record { hash = h; rows = table_in first; ty = type_in first; id = id_of (block_in first) } in
    let t : Tree = record { first = c.args.first; ty = c.args.ty; id = c.args.id.now.0 } in
    let m = g.K.Store.moment own.store.now in
    let k = g.K.Store.moment c.open_root.new.store in
    let n = g.K.Store.moment c.stop_in-in-Ok-open_root.new.store in
    let d = c.in-Ok-open_root.doc in
    let opens = subst (λ (rows : List Row). Opens (HasOpened h rows t.ty t.id k) h rows t.ty t.id m (Ok d) k) c.schema.ensures c.in-Ok-open_root.ensures in
    let grows = subst (λ (l : ℕ). own.lacks ≤ l) c.told-in-Err-stop_in.ensures.counted c.told-in-Err-stop_in.ensures.grows in
    let here = stops_err w t d m k n own.lacks (opened_at_hand w t m k d c.if-first.false opens) c.args.path.now c.args.from c.in-Err-stop_in.fault c.in-Err-stop_in.ensures c.args.id.now refl grows in
    subst (λ (l : ℕ). Stops (Storable w) (trees w) (with_lacks m own.lacks) t c.args.path.now c.args.from (Err c.told-in-Err-stop_in.result) (with_lacks n l)) (sym c.told-in-Err-stop_in.ensures.counted)
    (subst (λ (e : TreeErr). Stops (Storable w) (trees w) (with_lacks m own.lacks) t c.args.path.now c.args.from (Err e) (with_lacks n (lacks_after own.lacks c.in-Err-stop_in.fault))) (sym c.told-in-Err-stop_in.ensures.same) here)

pub returns-clause-stops : goal.returns-clause-stops
returns-clause-stops g c =
    let own = c.args.self.now in
    let first = own.doc.now in
    let h = g.H.KeyHash.hash_of in
    let w : Setting = record { hash = h; rows = table_in first; ty = type_in first; id = id_of (block_in first) } in
    let t : Tree = record { first = c.args.first; ty = c.args.ty; id = c.args.id.now.0 } in
    let m = g.K.Store.moment own.store.now in
    let k = g.K.Store.moment c.open_root.new.store in
    let e = c.in-Err-open_root.fault in
    let opens = subst (λ (rows : List Row). Opens (HasOpened h rows t.ty t.id k) h rows t.ty t.id m (Err e) k) c.schema.ensures c.in-Err-open_root.ensures in
    let same : tree_err c.args.id.now c.of_open.result ≡ tree_err c.args.id.now (open_fault e) = ap (tree_err c.args.id.now) c.of_open.ensures in
    let many : lacks_after own.lacks c.of_open.result ≡ lacks_after own.lacks (open_fault e) = ap (lacks_after own.lacks) c.of_open.ensures in
    let counted = c.told-in-Err-open_root.ensures.counted ∙ many in
    let grows = subst (λ (l : ℕ). own.lacks ≤ l) counted c.told-in-Err-open_root.ensures.grows in
    let here = stops_closed w t m k own.lacks c.args.path.now c.args.from e c.if-first.false opens c.args.id.now refl grows in
    subst (λ (l : ℕ). Stops (Storable w) (trees w) (with_lacks m own.lacks) t c.args.path.now c.args.from (Err c.told-in-Err-open_root.result) (with_lacks k l)) (sym counted)
    (subst (λ (x : TreeErr). Stops (Storable w) (trees w) (with_lacks m own.lacks) t c.args.path.now c.args.from (Err x) (with_lacks k (lacks_after own.lacks (open_fault e)))) (sym (c.told-in-Err-open_root.ensures.same ∙ same)) here)
