use Rattle.std.proofs.Common.{refl, sym, ◌∙◌, ap, subst}
use Rattle.ild_layer_piece.specs.Pieces.{StandsFor}
use Rattle.ild_path_block.specs.Items.{MakesItem, becoming}
use Rattle.ild_path_holder.proofs.Written.{piece_stands}
use Rattle.ild_path_item.proofs.Changing.{one_change, there, within}
use Rattle.ild_path_item.proofs.Viewing.{has_piece}
use Rattle.ild_path_item.proofs.changed.changed_item.Goals as goal
use Rattle.ild_path_last.specs.Change.{NewIs}
use Rattle.ild_schema.specs.Accept.{IsAccepted}
use Rattle.ild_schema.specs.Table.{IsTable}
use Rattle.ild_splice_changes.specs.TreeChange.{applied}
use Rattle.ild_typed.specs.At.{InSlot}
use Rattle.ild_typed.specs.Schema.{IsSchema}
use Rattle.ild_view.specs.View.{slot_of, table_of}

pub returns-in_default : goal.returns-in_default
returns-in_default c = λ d known plain f w view holds allows. absurd (has_piece c.args.view.now f d known view holds (sym c.in_default.is ∙ c.piece.ensures))

pub returns-in_default-change_of : goal.returns-in_default-change_of
returns-in_default-change_of c = λ d known plain f w view holds allows.
    let v = c.args.view.now in
    absurd (rw c.in_default-change_of.is at (c.change_of.ensures (table_of v) (slot_of v, f) w (record { table = refl; slot = refl; view = view }) holds allows))

pub returns : goal.returns
returns c = λ d known plain f w view holds allows.
    let v = c.args.view.now in
    let rows = table_of v in
    let q : InSlot = (slot_of v, f) in
    let s = c.args.segment.now in
    let edit = c.args.edit.now in
    let tree = view.tree in
    let is = c.in-Some-change_of.ensures rows q w (record { table = refl; slot = refl; view = view }) holds allows in
    let schema : IsSchema rows = record { table = subst IsTable c.schema-acc.ensures c.recall.ensures.table; accepted = subst IsAccepted c.schema-acc.ensures c.recall.ensures.accepted } in
    let stands = subst (λ rs. StandsFor rs c.in-Some.piece tree) (sym c.schema-acc.ensures) (piece_stands v f view c.in-Some.piece (sym c.in-Some.is ∙ c.piece.ensures)) in
    let new = subst (λ o. NewIs o is.part) (sym c.node_of.ensures) is.part_is in
    let parts = there rows q s d known plain tree view.front.tree holds in
    record {
      made = λ u now.
          let same = one_change rows q s schema edit w tree u (view.room, view.front.fits) allows view.front.tree now ∙ ap (λ e. applied e tree) is.of_part in
          subst (λ y. MakesItem y c.in_piece.result) (sym same) (c.in_piece.ensures tree stands parts is.part (becoming rows edit w q s) (within rows q s d known plain tree view.front.tree edit w c.in-Some-change_of.change u is now) new);
      refused = λ e none. absurd cc;
    }
