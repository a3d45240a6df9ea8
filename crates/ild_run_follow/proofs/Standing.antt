-- What stands at the views to which a path leads.
use Rattle.std.proofs.Common.{◌≡◌, ℕ, ◌≤◌, List, Some, sym, ap, ◌∙◌, subst}
use Rattle.std.proofs.lemmas.Option.{same_Some}
use Rattle.ild_data.specs.Data.{Data}
use Rattle.ild_edges.specs.Store.{Moment, block_at}
use Rattle.ild_typed_fronts.proofs.Representing.{fronts_are_fronts, fronts_represent}
use Rattle.ild_typed_fronts.specs.Front.{front}
use Rattle.ild_open_held.specs.Held.{IsHeld}
use Rattle.ild_open_held_parts.specs.Leads.{IsFrontOf}
use Rattle.ild_schema.specs.Clear.{IsSafe}
use Rattle.ild_schema.specs.Value.{Value}
use Rattle.ild_schema.specs.declared.number.Slot.{Slot}
use Rattle.ild_schema.specs.declared.row.Row.{Row}
use Rattle.ild_typed.specs.At.{InSlot}
use Rattle.ild_typed.specs.Hamt.{alone}
use Rattle.ild_typed.specs.Represented.{represented}
use Rattle.ild_typed.specs.Schema.{IsSchema}
use Rattle.ild_view.specs.Body.{BodyStands}
use Rattle.ild_view.specs.Parts.{IsPartView}
use Rattle.ild_view.specs.View.{IsView, body_of, slot_of, table_of}
use Rattle.ild_view.specs.declared.view.View.{View}
use Rattle.ild_run_follow.specs.Tells.{ViewHolds}
use Rattle.ild_run_follow.proofs.Rooms.{IsLeft, held_in}
use Rattle.ild_view.proofs.Opening.{safe_is}

-- ---- values at views

-- the front of a value that is held at a view is what the view stands for
pub viewed : (h : List ℕ → List ℕ) (room : ℕ) (view : View) (m : Moment) (t : Data) (v : Value) → IsSchema (table_of view) → ViewHolds h room view m t v → IsView view (front h (table_of view) (slot_of view) v)
viewed h room view m t v schema at = record {
  room = room;
  tree = t;
  stands = at.stands;
  front = fronts_are_fronts h (table_of view) schema room (slot_of view) v t (safe_is (table_of view) (slot_of view) view.safe) at.value.fits at.value.tree;
}

-- and a view of the front of a value that is held is one of its data
at_view : (h : List ℕ → List ℕ) (held : List (List ℕ)) (room : ℕ) (m : Moment) → m.blocks ≡ Some held → (view : View) (p : InSlot) (f : Value) → slot_of view ≡ p.0 → f ≡ front h (table_of view) p.0 p.1 → IsView view f
    → (tree : Data) → IsHeld (block_at held) h (table_of view) room p.0 tree p.1 → ViewHolds h room view m tree p.1
at_view h held room m told view p f is_slot is_front v tree has =
    let rows = table_of view in
    let same : v.tree ≡ tree =
    same_Some v.tree tree (sym v.front.tree ∙ ap (λ (s : Slot). represented alone rows s f) is_slot ∙ ap (represented alone rows p.0) is_front ∙ fronts_represent h rows p.0 p.1 ∙ has.tree) in
    record {
      held = held;
      told = told;
      stands = subst (BodyStands rows (body_of view)) same v.stands;
      value = subst (λ (s : Slot). IsHeld (block_at held) h rows room s tree p.1) (sym is_slot) has;
    }

-- which nests no deeper than what is left of the room
pub part_at : (h : List ℕ → List ℕ) (rows : List Row) → IsSchema rows → (held : List (List ℕ)) (m : Moment) → m.blocks ≡ Some held → (room less : ℕ) → room ≤ 96 → less ≤ room → (q p : InSlot) (view : View) → IsPartView rows q view
    → IsLeft (block_at held) h rows less q → (x : IsFrontOf (block_at held) h rows room q p) → ViewHolds h less view m x.tree p.1
part_at h rows schema held m told room less low le q p view w left x =
    let slot : slot_of view ≡ p.0 = w.slot ∙ ap (λ (y : InSlot). y.0) x.front in
    let own : q.1 ≡ front h rows p.0 p.1 = ap (λ (y : InSlot). y.1) x.front in
    let safe : IsSafe rows p.0 = subst (λ (s : Slot). IsSafe rows s) slot (subst (λ (r : List Row). IsSafe r (slot_of view)) w.table (safe_is (table_of view) (slot_of view) view.safe)) in
    let has = held_in (block_at held) h rows schema room less low le q p safe left x in
    at_view h held less m told view p q.1 slot (subst (λ (r : List Row). q.1 ≡ front h r p.0 p.1) (sym w.table) own) w.view x.tree
    (subst (λ (r : List Row). IsHeld (block_at held) h r less p.0 x.tree p.1) (sym w.table) has)
