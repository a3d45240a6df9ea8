-- What changes in the last holder of a path, of which there is a view.
use Rattle.std.proofs.Common.{◌≡◌, ℕ, List, Some, None, sym, ◌∙◌, subst}
use Rattle.ild_cbor.specs.Nodes.{HasData}
use Rattle.ild_cbor.specs.declared.node.Node.{Node}
use Rattle.ild_cbor.specs.declared.piece.Piece.{Piece}
use Rattle.ild_data.specs.Data.{Data, null}
use Rattle.ild_path_last.specs.Change.{DeleteIs, InsertIs, SetIs}
use Rattle.ild_path_last.specs.declared.change.LastChange.{LastChange}
use Rattle.ild_path_block.specs.Changes.{Allows, IsChange, in_last, node_of}
use Rattle.ild_path_block.specs.declared.edit.PartEdit.{PartEdit}
use Rattle.ild_path_block.specs.declared.edit.PartEdit.TheVariants as E
use Rattle.ild_layer_piece.specs.Pieces.{StandsFor}
use Rattle.ild_path_holder.proofs.Written.{piece_stands}
use Rattle.ild_schema.specs.Value.{Value}
use Rattle.ild_schema.specs.declared.number.Slot.{Slot}
use Rattle.ild_schema.specs.declared.row.Row.{Row}
use Rattle.ild_typed.specs.At.{InSlot, seen}
use Rattle.ild_typed.specs.Hamt.{alone}
use Rattle.ild_typed.specs.Represented.{represented}
use Rattle.ild_view.specs.Parts.{IsPartView}
use Rattle.ild_view.specs.View.{piece_of, slot_of, table_of}
use Rattle.ild_view.specs.declared.view.View.{View}

module _ (rows : List Row) (q : InSlot) (v : View) (view : IsPartView rows q v) (acc : List Row) (slot : Slot) (piece : Piece) (acc_is : acc ≡ table_of v) (slot_is : slot ≡ slot_of v) (piece_is : Some piece ≡ piece_of v) (s : List ℕ) (change : LastChange) where
  abbrev tree : Data
  tree = view.view.tree

  made : represented alone rows q.0 q.1 ≡ Some tree
  made = subst (λ u. represented alone rows u q.1 ≡ Some tree) view.slot (subst (λ rs. represented alone rs (slot_of v) q.1 ≡ Some tree) view.table view.view.front.tree)

  stands : StandsFor rows piece tree
  stands = subst (λ rs. StandsFor rs piece tree) view.table (piece_stands v q.1 view.view piece piece_is)

  pub sets : (n : Node) (w : Value) → SetIs acc (StandsFor acc piece) (HasData n) slot s change → Allows rows (E.Set n) (seen rows q) s w → IsChange rows (in_last (E.Set n) w) q s (node_of (E.Set n)) change
  sets n w all h =
      let there : SetIs rows (StandsFor rows piece) (HasData n) q.0 s change =
      subst (λ u. SetIs rows (StandsFor rows piece) (HasData n) u s change) (slot_is ∙ view.slot) (subst (λ rs. SetIs rs (StandsFor rs piece) (HasData n) slot s change) (acc_is ∙ view.table) all) in
      let is = there q.1 w tree h.2.tree h.0 made stands h.1 h.2.tree_is h.2.stands in
      record { some = h.2.tree; part = Some h.2.tree; part_is = h.2.stands; of_some = is; of_part = is }

  pub inserts : (n : Node) (w : Value) → InsertIs acc (StandsFor acc piece) (HasData n) slot s change → Allows rows (E.Insert n) (seen rows q) s w → IsChange rows (in_last (E.Insert n) w) q s (node_of (E.Insert n)) change
  inserts n w all h =
      let there : InsertIs rows (StandsFor rows piece) (HasData n) q.0 s change =
      subst (λ u. InsertIs rows (StandsFor rows piece) (HasData n) u s change) (slot_is ∙ view.slot) (subst (λ rs. InsertIs rs (StandsFor rs piece) (HasData n) slot s change) (acc_is ∙ view.table) all) in
      let is = there q.1 w tree h.2.tree h.0 made stands h.1 h.2.tree_is h.2.stands in
      record { some = h.2.tree; part = Some h.2.tree; part_is = h.2.stands; of_some = is; of_part = is }

  pub deletes : (w : Value) → DeleteIs acc (StandsFor acc piece) slot s change → Allows rows E.Delete (seen rows q) s w → IsChange rows (in_last E.Delete w) q s (node_of E.Delete) change
  deletes w all h =
      let there : DeleteIs rows (StandsFor rows piece) q.0 s change =
      subst (λ u. DeleteIs rows (StandsFor rows piece) u s change) (slot_is ∙ view.slot) (subst (λ rs. DeleteIs rs (StandsFor rs piece) slot s change) (acc_is ∙ view.table) all) in
      record { some = null; part = None; part_is = tt; of_some = there q.1 tree (Some null) made stands h; of_part = there q.1 tree None made stands h }

  -- of the edit that it is
  pub told_so : (a b : PartEdit) (w : Value) → a ≡ b → (Allows rows b (seen rows q) s w → IsChange rows (in_last b w) q s (node_of b) change) → Allows rows a (seen rows q) s w → IsChange rows (in_last a w) q s (node_of a) change
  told_so a b w is all = subst (λ e. Allows rows e (seen rows q) s w → IsChange rows (in_last e w) q s (node_of e) change) (sym is) all
