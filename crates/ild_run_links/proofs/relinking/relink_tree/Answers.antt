use Rattle.std.proofs.Common.{◌≡◌, List, ℕ, Some, refl, sym, subst, ◌∙◌, arith, rules}
use Rattle.ild_data.specs.Spell.{id_of}
use Rattle.ild_edges.specs.Store.{block_at}
use Rattle.ild_edges.specs.Told.{IfTold}
use Rattle.ild_run_links.proofs.Relinked.{no_memory, no_tree, sets_tree}
use Rattle.ild_run_links.proofs.Setting.{no_reads}
use Rattle.ild_run_links.specs.inside.Sets.{RootAnswer, SetsLink}
use Rattle.ild_schema.specs.declared.row.Row.{Row}
use Rattle.ild_view_doc.specs.Docs.{block_in, table_in}
use Rattle.std.specs.Prelude.{Err}
use Rattle.ild_run_links.proofs.relinking.relink_tree.Goals as goal

pub returns-in_err-segments : goal.returns-in_err-segments
returns-in_err-segments g c = no_memory g.H.KeyHash.hash_of (table_in c.args.doc.now) c.args.hop.now c.args.path.now c.args.new.now.0 (g.K.Store.moment c.args.store.now) c.from_residual.result (search rules)

pub returns-then-hop : goal.returns-then-hop
returns-then-hop g c =
    let h = g.H.KeyHash.hash_of in
    let doc = c.args.doc.now in
    let hop = c.args.hop.now in
    let m = g.K.Store.moment c.args.store.now in
    let o = g.K.Store.moment c.relink_in.new.store in
    let is = c.requires.names c.if-hop.true in
    sets_tree h doc (table_in doc) hop c.args.path.now c.args.new.now.0 m m o c.relink_in.result refl is.0 is.1 c.requires.own (no_reads m) (omega arith)
    (subst (λ (p : List (List ℕ)). SetsLink h doc p c.args.new.now.0 m c.relink_in.result o) c.in_ok-segments.ensures c.relink_in.ensures)

pub returns-in-Ok : goal.returns-in-Ok
returns-in-Ok g c =
    let h = g.H.KeyHash.hash_of in
    let doc = c.args.doc.now in
    let hop = c.args.hop.now in
    let m = g.K.Store.moment c.args.store.now in
    let k = g.K.Store.moment c.root_of.new.store in
    let o = g.K.Store.moment c.relink_in-in-Ok.new.store in
    let x = c.in-Ok.ensures in
    let d = c.in-Ok.read in
    let own : (was : List (List ℕ)) → m.blocks ≡ Some was → block_at was (id_of (block_in d)) ≡ Some (block_in d) = λ was told.
    subst (λ (i : List ℕ). block_at was i ≡ Some (block_in d)) (sym x.answer.2) (subst (λ b. IfTold b (λ held. block_at held hop.id.0 ≡ Some (block_in d))) told x.answer.3) in
    sets_tree h d (table_in doc) hop c.args.path.now c.args.new.now.0 m k o c.relink_in-in-Ok.result (x.answer.0 ∙ c.schema.ensures) x.answer.1 x.answer.2 own x.reads x.gets
    (subst (λ (p : List (List ℕ)). SetsLink h d p c.args.new.now.0 k c.relink_in-in-Ok.result o) c.in_ok-segments.ensures c.relink_in-in-Ok.ensures)

pub returns : goal.returns
returns g c =
    let h = g.H.KeyHash.hash_of in
    let doc = c.args.doc.now in
    let hop = c.args.hop.now in
    let m = g.K.Store.moment c.args.store.now in
    let k = g.K.Store.moment c.root_of.new.store in
    let x = c.in-Err.ensures in
    no_tree h (table_in doc) hop c.args.path.now c.args.new.now.0 m k x.reads x.gets c.in-Err.fault (subst (λ (r : List Row). RootAnswer r hop.ty hop.id.0 m (Err c.in-Err.fault) k) c.schema.ensures x.answer)
