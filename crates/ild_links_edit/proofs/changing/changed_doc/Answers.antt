use Rattle.std.proofs.Common.{◌<◌, List, Ok, Err, drop, length, sym, subst}
use Rattle.std.proofs.Math.Logic.{∥∥₁_map}
use Rattle.ild_data.specs.Spell.{id_of}
use Rattle.ild_links.proofs.Linking.{before}
use Rattle.ild_links.proofs.OneWalk.{stays}
use Rattle.ild_links_edit.proofs.Upward.{changes, not_ended, not_up}
use Rattle.ild_links_edit.specs.inside.Ends.{EditsIn}
use Rattle.ild_links_edit.specs.inside.Finds.{FindsRoot}
use Rattle.ild_links_lines.specs.Walks.{trees_of}
use Rattle.ild_links_walk.proofs.Lasts.{crossed_typed}
use Rattle.ild_run_edit.specs.Edits.{edit_of}
use Rattle.ild_run_links.proofs.Relinked.{still_stands}
use Rattle.ild_run_links.specs.Trees.{Storable, trees}
use Rattle.ild_schema.specs.declared.number.TypeNo.{TypeNo}
use Rattle.ild_schema.specs.declared.row.Row.{Row}
use Rattle.ild_view_doc.specs.Docs.{table_in}
use Rattle.ild_links_edit.proofs.changing.changed_doc.Goals as goal

pub edit_tree-requires : goal.edit_tree-requires
edit_tree-requires g c =
    subst (λ (rows : List Row). c.args.last.now.ty.0 < length rows) (sym c.schema-acc.ensures) (crossed_typed (length (table_in c.args.doc.now)) c.args.hops.now c.args.last.now c.requires.typed c.requires.last)

pub returns-in-Err : goal.returns-in-Err
returns-in-Err g c =
    let k = g.K.Store.moment c.edit_tree.new.store in
    let m = g.K.Store.moment c.args.store.now in
    let x = subst (λ (rows : List Row). EditsIn rows c.args.last.now (edit_of c.args.verb (drop c.args.last.now.from c.args.path.now) c.args.json.now) m (Err c.in-Err.refusal) k) c.schema-acc.ensures c.in-Err.ensures in
    not_ended c.standing_are_at.ensures c.held_are_standing.ensures c.args.doc.now c.args.verb c.args.path.now c.args.json.now c.args.hops.now c.args.last.now c.requires.last m k c.in-Err.refusal x

pub raise-requires-clause-stands : goal.raise-requires-clause-stands
raise-requires-clause-stands g c = still_stands id_of c.args.doc.now (g.K.Store.moment c.args.store.now) (g.K.Store.moment c.edit_tree.new.store) c.edit_tree.ensures.later c.requires.stands

pub raise-requires-clause-walk : goal.raise-requires-clause-walk
raise-requires-clause-walk g c = λ held told.
    let r = trees_of id_of c.args.doc.now in
    let b = before (g.K.Store.moment c.args.store.now) (g.K.Store.moment c.edit_tree.new.store) held c.edit_tree.ensures.later told in
    ∥∥₁_map (c.requires.walk b.was b.told) (stays (Storable r) (trees r) b.was held c.args.path.now c.args.hops.now b.keeps)

pub returns-in-Err-raise : goal.returns-in-Err-raise
returns-in-Err-raise g c =
    let k = g.K.Store.moment c.edit_tree.new.store in
    let l = g.K.Store.moment c.raise.new.store in
    let m = g.K.Store.moment c.args.store.now in
    let x = subst (λ (rows : List Row). EditsIn rows c.args.last.now (edit_of c.args.verb (drop c.args.last.now.from c.args.path.now) c.args.json.now) m (Ok c.in-Ok.new) k) c.schema-acc.ensures c.in-Ok.ensures in
    not_up c.standing_are_at.ensures c.held_are_standing.ensures c.args.doc.now c.args.verb c.args.path.now c.args.json.now c.args.hops.now c.args.last.now c.requires.last m c.places_are_blocks.ensures k l c.in-Ok.new x c.in-Err-raise.refusal
    c.in-Err-raise.ensures

pub returns-in-Ok-find_root : goal.returns-in-Ok-find_root
returns-in-Ok-find_root g c =
    let k = g.K.Store.moment c.edit_tree.new.store in
    let l = g.K.Store.moment c.raise.new.store in
    let n = g.K.Store.moment c.find_root.new.store in
    let m = g.K.Store.moment c.args.store.now in
    let d = c.args.doc.now in
    let x = subst (λ (rows : List Row). EditsIn rows c.args.last.now (edit_of c.args.verb (drop c.args.last.now.from c.args.path.now) c.args.json.now) m (Ok c.in-Ok.new) k) c.schema-acc.ensures c.in-Ok.ensures in
    let f = subst (λ (ty : TypeNo). FindsRoot (table_in d) ty c.in-Ok-raise.root.0 l (Ok c.in-Ok-find_root.changed) n) c.ty.ensures
    (subst (λ (rows : List Row). FindsRoot rows c.ty.result c.in-Ok-raise.root.0 l (Ok c.in-Ok-find_root.changed) n) c.schema-acc.ensures c.in-Ok-find_root.ensures) in
    changes c.standing_are_at.ensures c.held_are_standing.ensures d c.args.verb c.args.path.now c.args.json.now c.args.hops.now c.args.last.now c.requires.last m c.places_are_blocks.ensures k l c.in-Ok.new x c.in-Ok-raise.root n
    c.in-Ok-raise.ensures (Ok c.in-Ok-find_root.changed) f

pub returns-in-Err-find_root : goal.returns-in-Err-find_root
returns-in-Err-find_root g c =
    let k = g.K.Store.moment c.edit_tree.new.store in
    let l = g.K.Store.moment c.raise.new.store in
    let n = g.K.Store.moment c.find_root.new.store in
    let m = g.K.Store.moment c.args.store.now in
    let d = c.args.doc.now in
    let x = subst (λ (rows : List Row). EditsIn rows c.args.last.now (edit_of c.args.verb (drop c.args.last.now.from c.args.path.now) c.args.json.now) m (Ok c.in-Ok.new) k) c.schema-acc.ensures c.in-Ok.ensures in
    let f = subst (λ (ty : TypeNo). FindsRoot (table_in d) ty c.in-Ok-raise.root.0 l (Err c.in-Err-find_root.refusal) n) c.ty.ensures
    (subst (λ (rows : List Row). FindsRoot rows c.ty.result c.in-Ok-raise.root.0 l (Err c.in-Err-find_root.refusal) n) c.schema-acc.ensures c.in-Err-find_root.ensures) in
    changes c.standing_are_at.ensures c.held_are_standing.ensures d c.args.verb c.args.path.now c.args.json.now c.args.hops.now c.args.last.now c.requires.last m c.places_are_blocks.ensures k l c.in-Ok.new x c.in-Ok-raise.root n
    c.in-Ok-raise.ensures (Err c.in-Err-find_root.refusal) f
