-- The data that a row spells: those that its bytes have, which were spelled before.
use Rattle.std.proofs.Common.{◌≡◌, ◌∙◌, ap, sym, subst, ℕ, List, true, None}
use Rattle.std.specs.Prelude.{IsUtf8, is_none}
use Rattle.std.proofs.Math.Bool.{Bool-set}
use Rattle.std.proofs.Math.Logic.{∥∥₁_elim}
use Rattle.ild_cbor.specs.Block.{IsBlockOf}
use Rattle.ild_cbor.specs.Nodes.{HasData, IsRoot}
use Rattle.ild_cbor.specs.Reading.{fault_of}
use Rattle.ild_cbor.specs.declared.node.Node.{Node}
use Rattle.ild_cbor.proofs.Blocks.{block_again}
use Rattle.ild_data.specs.Bytes.{AreBytes}
use Rattle.ild_data.specs.Data.{Data, text}
use Rattle.ild_data.proofs.Options.{none_is}
use Rattle.ild_node_slots.specs.Spelled.{IsFaultless, tree_in}
use Rattle.ild_node_slots.proofs.Trees.{spelling-of}
use Rattle.ild_schema.specs.Slots.{plainly}
use Rattle.ild_schema.specs.declared.number.Slot.{Slot}
use Rattle.ild_schema.specs.declared.number.TypeNo.{TypeNo}
use Rattle.ild_schema.specs.declared.row.Row.{Row}
use Rattle.ild_typed.specs.Fits.{Fits}
use Rattle.ild_typed.specs.Layers.{RepresentsSome}
use Rattle.ild_bulk_walker.specs.declared.row.Row.{Row as Listed}
use Rattle.ild_open_held.specs.Splits.{HasFront}
use Rattle.ild_open_parts.specs.Hamts.{IsItemOf, IsSpelledRow}

module _ (row : Listed) (spelled : ∥ IsSpelledRow row ∥₁) where
  sound : IsFaultless row.value
  sound = ∥∥₁_elim spelled (Bool-set (is_none (fault_of row.value)) true) (λ x. ap is_none (block_again row.value x.tree x.is))

  -- its bytes have no fault
  pub row_faultless : (seen : List ℕ) → seen ≡ row.value → fault_of seen ≡ None
  row_faultless seen same = ap fault_of same ∙ none_is (fault_of row.value) sound

  -- and are the spelling of these data
  pub row_block : AreBytes row.value → IsBlockOf row.value (tree_in row.value)
  row_block bytes = spelling-of row.value bytes sound

  -- for which the node of those bytes stands
  pub row_stands : (seen : List ℕ) (item : Node) → seen ≡ row.value → AreBytes row.value → ((d : Data) → IsBlockOf seen d → IsRoot item seen d) → HasData item (tree_in row.value)
  row_stands seen item same bytes root = (root (tree_in row.value) (subst (λ b. IsBlockOf b (tree_in row.value)) (sym same) (row_block bytes))).stands

  -- so the node is that of the row, where the key fits and there is a front
  pub row_is : (rows : List Row) (room : ℕ) (key : TypeNo) (value : Slot) (item : Node) (k : List ℕ) → AreBytes row.value → HasData item (tree_in row.value) → k ≡ row.key → IsUtf8 row.key
      → RepresentsSome (Fits rows room) rows (plainly key) (text k) → HasFront rows room (value, tree_in row.value) → IsItemOf rows room key value row item
  row_is rows room key value item k bytes stands same utf8 keyed front = record {
    tree = tree_in row.value;
    spelled = row_block bytes;
    stands = stands;
    keyed = (utf8, subst (λ t. RepresentsSome (Fits rows room) rows (plainly key) (text t)) same keyed);
    front = front;
  }
