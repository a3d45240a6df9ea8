-- The view of the innermost block leads to the HAMT, and so does its slot say what its values are.
use Rattle.std.proofs.Common.{◌≡◌, ⊎_elim, ℕ, List, [], ◌∷◌, ◌++◌, Option, Some, sym, subst}
use Rattle.std.specs.Prelude.{IfSome}
use Rattle.std.proofs.Math.Logic.{∥∥₁_elim}
use Rattle.std.proofs.Props.{props}
use Rattle.ild_cbor.specs.Nodes.{HasData}
use Rattle.ild_cbor.specs.declared.node.Node.{Node}
use Rattle.ild_data.specs.Data.{Data}
use Rattle.ild_path_block.proofs.Allowing.{view_of}
use Rattle.ild_path_entry.specs.Entry.{IsEntry, data_in, room_in, slot_in, table_in}
use Rattle.ild_path_entry.specs.declared.entry.Entry.{Entry}
use Rattle.ild_path_hops.proofs.Linking.{none_or_last}
use Rattle.ild_path_hops.specs.Links.{RootBehind}
use Rattle.ild_path_hops.specs.declared.hop.Hop.{Hop}
use Rattle.ild_path_outward.proofs.Stepping.{leads_entry, leads_root}
use Rattle.ild_path_outward.specs.Level.{LeadsToHamt}
use Rattle.ild_path_ends.specs.Steps.{IsViewOfEntry}
use Rattle.ild_schema.specs.Value.{Value}
use Rattle.ild_schema.specs.declared.number.Slot.{Slot}
use Rattle.ild_schema.specs.declared.row.Row.{Row}
use Rattle.ild_typed.specs.Fits.{Front}
use Rattle.ild_view.specs.View.{IsView, table_of}
use Rattle.ild_view.specs.declared.view.View.{View}

-- what is a front of the data is one of the view
viewed : (e : Entry) (view : View) → IsViewOfEntry e view → (f : Value) (room : ℕ) → Front (table_in e) room (slot_in e) f (data_in e) → IsView view f
viewed e view x f room front =
    view_of view f (data_in e)
    (record {
      node = x.whole.node;
      piece = x.whole.piece;
      block = x.whole.block;
      spelled = x.whole.spelled;
      root = x.whole.root;
      room = room;
      front = subst (λ (s : Slot). Front (table_of view) room s f (data_in e)) (sym x.slot) (subst (λ (r : List Row). Front r room (slot_in e) f (data_in e)) (sym x.table) front);
    })

module _ (root : View) (hops : List Hop) (path : List (List ℕ)) (view : View) (x : RootBehind root hops path) where
  pub inner_leads : (hops ≡ [] → view ≡ root) → ((before : List Hop) (last : Hop) → hops ≡ before ++ last ∷ [] → IsViewOfEntry last.entry view) → ∥ LeadsToHamt view path ∥₁
  inner_leads top entry =
      ⊎_elim (λ none. subst (λ (v : View). ∥ LeadsToHamt v path ∥₁) (sym (top none)) (leads_root root hops path none x))
      (λ z. let own = entry z.0 z.1 z.2 in leads_entry z.1.entry path view own.table own.slot (viewed z.1.entry view own) (x.inner z.0 z.1 z.2)) (none_or_last hops)

pub entry_room : (rows : List Row) (s : Slot) (room : ℕ) (node : Node) (e : Entry) → ((d : Data) → HasData node d → IsEntry rows s room d e) → room_in e ≡ room
entry_room rows s room node e says = ∥∥₁_elim node.stands (hlevel props) (λ st. (says st.of st.spells).room_is)

pub room_of : (o : Option Entry) (e : Entry) (n : ℕ) → o ≡ Some e → IfSome o (λ x. room_in x ≡ n) → room_in e ≡ n
room_of o e n is x = subst (λ (y : Option Entry). IfSome y (λ z. room_in z ≡ n)) is x
