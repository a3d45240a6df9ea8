-- Over every store: a descent fails as it is told, and an entry is one under the schema.
use Rattle.std.proofs.Common.{◌≡◌, ℕ, List, Option, Some, None, Result, Ok, Err, ap, sym, ◌∙◌}
use Rattle.std.specs.Option.{ForSome}
use Rattle.std.proofs.lemmas.Option.{none-some, same_Some}
use Rattle.std.proofs.Math.Logic.{∥∥₁_elim}
use Rattle.std.proofs.Props.{props}
use Rattle.ild_cbor.specs.Nodes.{HasData}
use Rattle.ild_cbor.specs.declared.node.Node.{Node}
use Rattle.ild_data.specs.Data.{Data}
use Rattle.ild_data.specs.Trie.{TrieSlot}
use Rattle.ild_data.specs.declared.hamt_shape.HamtShape.{HamtShape}
use Rattle.ild_edges.specs.Store.{Moment}
use Rattle.ild_hamt.specs.Descending.{DescendAnswer, Descends}
use Rattle.ild_node_slots.specs.Faults.{IsReadFault}
use Rattle.ild_node_slots.specs.declared.fault.HamtFault.{HamtFault}
use Rattle.ild_node_slots.specs.declared.fault.HamtFault.TheVariants as F
use Rattle.ild_path_enter.specs.Enters.{EntryAnswer, FailsOnly}
use Rattle.ild_path_enter.specs.declared.lookup.Entered.{Entered}
use Rattle.ild_path_entry.specs.Entry.{IsEntry, room_in, table_in}
use Rattle.ild_path_entry.specs.declared.entry.Entry.{Entry}
use Rattle.ild_schema.specs.Value.{Value}
use Rattle.ild_schema.specs.declared.number.Slot.{Slot}
use Rattle.ild_schema.specs.declared.row.Row.{Row}
use Rattle.ild_view.specs.View.{IsView}
use Rattle.ild_view.specs.declared.view.View.{View}

-- there is no other fault
pub fails_read : (A : Type 0) (m n : Moment) (e : HamtFault) → FailsOnly {A = A} m (Err e) n → IsReadFault e
fails_read A m n (F.Block id why) f = tt
fails_read A m n F.Store f = tt
fails_read A m n F.Memory f = tt
fails_read A m n F.Exhausted f = absurd f
fails_read A m n F.NoKey f = absurd f
fails_read A m n F.Size f = absurd f
fails_read A m n (F.Clash id kept new) f = absurd f

-- whatever the view stands for
pub fails_viewed : (A : Type 0) (v : View) (m n : Moment) (r : Result A HamtFault) → ((f : Value) → IsView v f → FailsOnly m r n) → FailsOnly m r n
fails_viewed A v m n (Ok x) all = tt
fails_viewed A v m n (Err F.Store) all = ∥∥₁_elim v.stands (hlevel props) (λ s. all s.value (record { room = s.room; tree = s.tree; stands = s.stands; front = s.front }))
fails_viewed A v m n (Err F.Memory) all = tt
fails_viewed A v m n (Err (F.Block id why)) all = tt
fails_viewed A v m n (Err F.Exhausted) all = ∥∥₁_elim v.stands (hlevel props) (λ s. absurd (all s.value (record { room = s.room; tree = s.tree; stands = s.stands; front = s.front })))
fails_viewed A v m n (Err F.NoKey) all = ∥∥₁_elim v.stands (hlevel props) (λ s. absurd (all s.value (record { room = s.room; tree = s.tree; stands = s.stands; front = s.front })))
fails_viewed A v m n (Err F.Size) all = ∥∥₁_elim v.stands (hlevel props) (λ s. absurd (all s.value (record { room = s.room; tree = s.tree; stands = s.stands; front = s.front })))
fails_viewed A v m n (Err (F.Clash id kept new)) all = ∥∥₁_elim v.stands (hlevel props) (λ s. absurd (all s.value (record { room = s.room; tree = s.tree; stands = s.stands; front = s.front })))

pub trail_fails : (h : List ℕ → List ℕ) (p : HamtShape) (k : List ℕ) (slots : List TrieSlot) (m n : Moment) (e : HamtFault) → Descends h p k slots m (Err e) n → FailsOnly {A = Entered} m (Err e) n
trail_fails h p k slots m n e d = by e d.answer where
  by : (f : HamtFault) → DescendAnswer h p k m d.bs d.last (Err f) n → FailsOnly {A = Entered} m (Err f) n
  by F.Store a = a
  by F.Memory a = tt
  by (F.Block id why) a = tt
  by F.Exhausted a = absurd a
  by F.NoKey a = absurd a
  by F.Size a = absurd a
  by (F.Clash id kept new) a = absurd a

-- the item of an entry asks nothing of the store
pub entry_fails : (rows : List Row) (s : Slot) (room : ℕ) (node : Node) (m n : Moment) (e : HamtFault) → ((d : Data) → HasData node d → EntryAnswer rows s room d (Err e)) → FailsOnly {A = Entered} m (Err e) n
entry_fails rows s room node m n F.Store says = ∥∥₁_elim node.stands (hlevel props) (λ s. absurd (says s.of s.spells))
entry_fails rows s room node m n F.Memory says = tt
entry_fails rows s room node m n (F.Block id why) says = tt
entry_fails rows s room node m n F.Exhausted says = ∥∥₁_elim node.stands (hlevel props) (λ s. absurd (says s.of s.spells))
entry_fails rows s room node m n F.NoKey says = ∥∥₁_elim node.stands (hlevel props) (λ s. absurd (says s.of s.spells))
entry_fails rows s room node m n F.Size says = ∥∥₁_elim node.stands (hlevel props) (λ s. absurd (says s.of s.spells))
entry_fails rows s room node m n (F.Clash id kept new) says = ∥∥₁_elim node.stands (hlevel props) (λ s. absurd (says s.of s.spells))

pub entry_table : (rows : List Row) (s : Slot) (room : ℕ) (node : Node) (e : Entry) → ((d : Data) → HasData node d → IsEntry rows s room d e) → table_in e ≡ rows
entry_table rows s room node e says = ∥∥₁_elim node.stands (hlevel props) (λ st. (says st.of st.spells).table)

pub entry_room : (rows : List Row) (s : Slot) (room : ℕ) (node : Node) (e : Entry) → ((d : Data) → HasData node d → IsEntry rows s room d e) → room_in e ≡ room
entry_room rows s room node e says = ∥∥₁_elim node.stands (hlevel props) (λ st. (says st.of st.spells).room_is)

pub some_room : (room : ℕ) (o : Option Entry) (e : Entry) → o ≡ Some e → room_in e ≡ room → ForSome o (λ x. room_in x ≡ room)
some_room room o e is own = λ x there. ap room_in (same_Some x e (sym there ∙ is)) ∙ own

pub none_room : (room : ℕ) (o : Option Entry) → o ≡ None → ForSome o (λ x. room_in x ≡ room)
none_room room o is = λ x there. absurd (none-some x (sym is ∙ there))

pub some_table : (rows : List Row) (o : Option Entry) (e : Entry) → o ≡ Some e → table_in e ≡ rows → ForSome o (λ x. table_in x ≡ rows)
some_table rows o e is own = λ x there. ap table_in (same_Some x e (sym there ∙ is)) ∙ own

pub none_table : (rows : List Row) (o : Option Entry) → o ≡ None → ForSome o (λ x. table_in x ≡ rows)
none_table rows o is = λ x there. absurd (none-some x (sym is ∙ there))
