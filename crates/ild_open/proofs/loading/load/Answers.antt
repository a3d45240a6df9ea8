use Rattle.std.proofs.Common.{List, sym, subst}
use Rattle.ild_open.proofs.Shortly.{implicit_short}
use Rattle.ild_data.specs.Seen.{data_of}
use Rattle.ild_data.specs.Spell.{id_of}
use Rattle.ild_schema.specs.declared.number.Slot.{Slot}
use Rattle.ild_schema.specs.declared.row.Row.{Row}
use Rattle.ild_open_held.specs.Splits.{HasFront}
use Rattle.ild_open_parts.specs.Checked.{IsChecked}
use Rattle.ild_open.specs.inside.Item.{LoadsAlone, LoadsPiece}
use Rattle.ild_open.specs.Blocks.{bytes_in}
use Rattle.ild_open.proofs.Carrying.{loads_scalar, loads_view, scalar_flat, scalar_front, scalar_is, shown_tree}
use Rattle.ild_open.proofs.loading.load.Goals as goal

pub returns-in-Some : goal.returns-in-Some
returns-in-Some g c =
    let h = g.H.KeyHash.hash_of in
    let m = g.K.Store.moment c.args.store.now in
    let n = g.K.Store.moment c.load_piece.new.store in
    let at = id_of (bytes_in c.args.at) in
    loads_view h c.args.room c.args.view.now at m n c.in-Some.piece (sym c.in-Some.ensures) c.load_piece.result
    (subst (λ (s : Slot). LoadsPiece h c.args.view.now.acc.now c.args.room s at c.in-Some.piece m c.load_piece.result n) c.slot.ensures
    (subst (λ (rows : List Row). LoadsPiece h rows c.args.room c.slot.result at c.in-Some.piece m c.load_piece.result n) c.schema.ensures c.load_piece.ensures))

pub returns-in_ok-tree-in-None : goal.returns-in_ok-tree-in-None
returns-in_ok-tree-in-None g c =
    let h = g.H.KeyHash.hash_of in
    let m = g.K.Store.moment c.args.store.now in
    let n = g.K.Store.moment c.load_alone.new.store in
    let d = data_of c.in_ok-tree-in-None.tree in
    loads_scalar h c.args.room c.args.view.now (id_of (bytes_in c.args.at)) m n d (scalar_is c.args.view.now d (sym c.in-None.ensures) c.args.view.now.stands c.in_ok-tree-in-None.ensures) c.load_alone.result
    (subst (λ (s : Slot). LoadsAlone h c.args.view.now.acc.now c.args.room s d m c.load_alone.result n) c.slot-in-None.ensures
    (subst (λ (rows : List Row). LoadsAlone h rows c.args.room c.slot-in-None.result d m c.load_alone.result n) c.schema-in-None.ensures c.load_alone.ensures))

pub load_piece-requires-clause-tree : goal.load_piece-requires-clause-tree
load_piece-requires-clause-tree g c =
    subst (λ (rows : List Row). ∥ IsChecked rows c.args.room c.slot.result c.in-Some.piece ∥₁) (sym c.schema.ensures)
    (subst (λ (s : Slot). ∥ IsChecked c.args.view.now.acc.now c.args.room s c.in-Some.piece ∥₁) (sym c.slot.ensures) (shown_tree c.args.room c.args.view.now c.in-Some.piece (sym c.in-Some.ensures) c.requires.shallow))

pub load_alone-requires-clause-front : goal.load_alone-requires-clause-front
load_alone-requires-clause-front g c =
    let d = data_of c.in_ok-tree-in-None.tree in
    let same = scalar_is c.args.view.now d (sym c.in-None.ensures) c.args.view.now.stands c.in_ok-tree-in-None.ensures in
    subst (λ (rows : List Row). ∥ HasFront rows c.args.room (c.slot-in-None.result, d) ∥₁) (sym c.schema-in-None.ensures)
    (subst (λ (s : Slot). ∥ HasFront c.args.view.now.acc.now c.args.room (s, d) ∥₁) (sym c.slot-in-None.ensures) (scalar_front c.args.room c.args.view.now d same c.requires.shallow))

pub load_alone-requires-clause-flat : goal.load_alone-requires-clause-flat
load_alone-requires-clause-flat g c =
    let d = data_of c.in_ok-tree-in-None.tree in
    scalar_flat c.args.view.now d (sym c.in-None.ensures) (scalar_is c.args.view.now d (sym c.in-None.ensures) c.args.view.now.stands c.in_ok-tree-in-None.ensures)

pub load_alone-requires-clause-short : goal.load_alone-requires-clause-short
load_alone-requires-clause-short g c =
    let d = data_of c.in_ok-tree-in-None.tree in
    implicit_short c.args.view.now d (sym c.in-None.ensures) (scalar_is c.args.view.now d (sym c.in-None.ensures) c.args.view.now.stands c.in_ok-tree-in-None.ensures) c.args.view.now.placed
