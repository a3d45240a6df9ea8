-- Where a path stops in a block, in the terms of what is reached.
use Rattle.std.proofs.Common.{◌≡◌, ℕ, ◌+◌, ◌-◌, ◌≤◌, List, [], ◌∷◌, length, drop, Option, Some, None, Ok, Err, refl, sym, ap, ◌∙◌, subst, arith}
use Rattle.std.specs.Option.{option_map_or}
use Rattle.std.proofs.lemmas.Option.{none-some}
use Rattle.std.proofs.Math.Logic.{∥∥₁_elim}
use Rattle.std.proofs.Props.{props}
use Rattle.ild_data.specs.Data.{Data}
use Rattle.ild_data.specs.declared.hamt_shape.HamtShape.{HamtShape}
use Rattle.ild_inclusion_prove.proofs.Stops.{left_ends}
use Rattle.ild_inclusion_prove.specs.inside.Adds.{RootsAre}
use Rattle.ild_node_slots.specs.declared.view.NodeView.{NodeView}
use Rattle.ild_path_edits.proofs.Stops.{stops_tell}
use Rattle.ild_path_edits.specs.Along.{room_below}
use Rattle.ild_path_edits.specs.Stop.{reach_at, stopped}
use Rattle.ild_path_inward.specs.Halts.{HaltsAt, room_stopped}
use Rattle.ild_path_inward.specs.declared.halt.Halt.{Halt}
use Rattle.ild_run_follow.proofs.Rooms.{room_low}
use Rattle.ild_run_follow.specs.inside.Rooms.{LeavesRoom, Steps, room_reached}
use Rattle.ild_schema.specs.Value as V
use Rattle.ild_schema.specs.Value.{Value}
use Rattle.ild_schema.specs.declared.number.Slot.{Slot}
use Rattle.ild_schema.specs.declared.row.Row.{Row}
use Rattle.ild_typed.specs.At.{InSlot, no_path, or_enter, reached, seen}
use Rattle.ild_typed.specs.Segment.{part}
use Rattle.ild_view.specs.Parts.{IsPartView}
use Rattle.ild_view.specs.Reaches.{Reaches}
use Rattle.ild_view.specs.Roots.{RootIs, root_in}
use Rattle.ild_view.specs.View.{IsView, slot_of, table_of}
use Rattle.ild_view.specs.declared.step.Step.TheVariants as S
use Rattle.ild_view.specs.declared.view.View.{View}

-- ---- roots

pub rooted : (o : Option HamtShape) (v : Value) (root : NodeView) → RootIs o (root_in v) (Some root) → (d : Data) × (v ≡ V.hamt d)
rooted o (V.hamt d) root x = (d, refl)
rooted o v root x = absurd x

pub unrooted : (o : Option HamtShape) (d : Option Data) → RootIs o d None → d ≡ None
unrooted o None x = refl
unrooted o (Some d) x = absurd x

none_entered : (k : ℕ) (slot : Slot) (v : Value) → root_in v ≡ None → or_enter k slot v ≡ no_path k
none_entered k slot (V.hamt d) e = absurd (none-some d (sym e))
none_entered k slot v e = refl

-- ---- rooms

module _ (rows : List Row) where
  pub same_room : (path : List (List ℕ)) (room : ℕ) (p : InSlot) → room_stopped rows room p path ≡ room_reached rows room p path
  same_room [] room p = refl
  same_room (s ∷ ss) room p = by (part (seen rows p) s) (λ q. same_room ss (room_below rows room p s) q) where
    by : (o : Option InSlot) → ((q : InSlot) → room_stopped rows (room_below rows room p s) q ss ≡ room_reached rows (room_below rows room p s) q ss)
        → option_map_or (λ q. room_stopped rows (room_below rows room p s) q ss) o room ≡ option_map_or (λ q. room_reached rows (room_below rows room p s) q ss) o room
    by None on = refl
    by (Some q) on = on q

-- ---- of one front

module _ (rows : List Row) (room : ℕ) (p : InSlot) (path : List (List ℕ)) (r : Halt) (x : HaltsAt rows room p path r) where
  abbrev Part : InSlot
  Part = (stopped rows p path).part

  stops : (left : List (List ℕ)) → r.left.now ≡ left → reached rows 0 p path ≡ reach_at (0 + length path) Part left
  stops left e = (stops_tell rows 0 p path).1 ∙ ap (reach_at (0 + length path) Part) (sym x.left ∙ e)

  at_end : r.left.now ≡ [] → Reaches rows (reached rows 0 p path) (Ok (S.Here r.view))
  at_end none = subst (λ z. Reaches rows z (Ok (S.Here r.view))) (sym (stops [] none)) x.view

  module _ (s : List ℕ) (ss : List (List ℕ)) (left : r.left.now ≡ s ∷ ss) (j : ℕ) (at : j + length (s ∷ ss) ≡ length path) where
    place : 0 + length path - length (s ∷ ss) ≡ j
    place = omega (arith, at)

    at_root : (d : Data) → Part.1 ≡ V.hamt d → Reaches rows (reached rows 0 p path) (Ok (S.Enter r.view j))
    at_root d is =
        subst (λ z. Reaches rows z (Ok (S.Enter r.view j))) (sym (stops (s ∷ ss) left ∙ ap (or_enter (0 + length path - length (s ∷ ss)) Part.0) is))
        (subst (λ (v : Value). IsPartView rows (Part.0, v) r.view) is x.view, sym place)

    at_none : root_in Part.1 ≡ None → Reaches rows (reached rows 0 p path) (Err (record { k = j }))
    at_none plain =
        subst (λ z. Reaches rows z (Err (record { k = j }))) (sym (stops (s ∷ ss) left ∙ none_entered (0 + length path - length (s ∷ ss)) Part.0 Part.1 plain)) (sym place)

-- ---- of a view

module _ (view : View) (room : ℕ) (path : List (List ℕ)) (r : Halt) (halts : (f : Value) → IsView view f → HaltsAt (table_of view) room (slot_of view, f) path r) where
  pub leaves : LeavesRoom view room path r.room
  leaves = λ f is. (halts f is).room_is ∙ same_room (table_of view) path room (slot_of view, f)

  -- no more is left than there was
  pub room_kept : r.room ≤ room
  room_kept = ∥∥₁_elim view.stands (hlevel props) (λ y.
      let same = leaves y.value (record { room = y.room; tree = y.tree; stands = y.stands; front = y.front }) in
      let low = room_low (table_of view) room (slot_of view, y.value) path in
      omega (arith, same, low))

  pub steps_here : r.left.now ≡ [] → Steps view 0 path (Ok (S.Here r.view))
  steps_here none = λ f is. at_end (table_of view) room (slot_of view, f) path r (halts f is) none

  -- the segments that are left, by how many stand before them
  pub record IsLeft (s : List ℕ) (ss : List (List ℕ)) : Type 0 where
    pub many : (length path - length (s ∷ ss)) + length (s ∷ ss) ≡ length path
    pub is : drop (length path - length (s ∷ ss)) path ≡ s ∷ ss

  one_left : (s : List ℕ) (ss : List (List ℕ)) → r.left.now ≡ s ∷ ss → (f : Value) → IsView view f → IsLeft s ss
  one_left s ss left f is =
      let x = left_ends (table_of view) path (slot_of view, f) in
      let own : (stopped (table_of view) (slot_of view, f) path).left ≡ s ∷ ss = sym (halts f is).left ∙ left in
      let many : x.before + length (s ∷ ss) ≡ length path = ap (λ (xs : List (List ℕ)). x.before + length xs) (sym own) ∙ x.many in
      let same : length path - length (s ∷ ss) ≡ x.before = omega (arith, many) in
      record { many = omega (arith, many); is = ap (λ n. drop n path) same ∙ x.is ∙ own }

  pub many_left : (s : List ℕ) (ss : List (List ℕ)) → r.left.now ≡ s ∷ ss → (length path - length (s ∷ ss)) + length (s ∷ ss) ≡ length path
  many_left s ss left = ∥∥₁_elim view.stands (hlevel props) (λ y. (one_left s ss left y.value (record { room = y.room; tree = y.tree; stands = y.stands; front = y.front })).many)

  pub left_is : (s : List ℕ) (ss : List (List ℕ)) → r.left.now ≡ s ∷ ss → drop (length path - length (s ∷ ss)) path ≡ s ∷ ss
  left_is s ss left = ∥∥₁_elim view.stands (hlevel props) (λ y. (one_left s ss left y.value (record { room = y.room; tree = y.tree; stands = y.stands; front = y.front })).is)

  -- the part's front, of which the root's view tells
  root_there : (root : NodeView) → RootsAre r.view (Some root) → (f : Value) (is : IsView view f) → (d : Data) × ((stopped (table_of view) (slot_of view, f) path).part.1 ≡ V.hamt d)
  root_there root roots f is =
      let x = (halts f is).view in
      rooted _ (stopped (table_of view) (slot_of view, f) path).part.1 root (roots (stopped (table_of view) (slot_of view, f) path).part.1 x.view)

  none_there : RootsAre r.view None → (f : Value) (is : IsView view f) → root_in (stopped (table_of view) (slot_of view, f) path).part.1 ≡ None
  none_there roots f is = let x = (halts f is).view in unrooted _ _ (roots (stopped (table_of view) (slot_of view, f) path).part.1 x.view)

  pub steps_in : (root : NodeView) → RootsAre r.view (Some root) → (s : List ℕ) (ss : List (List ℕ)) → r.left.now ≡ s ∷ ss → Steps view 0 path (Ok (S.Enter r.view (length path - length (s ∷ ss))))
  steps_in root roots s ss left = λ f is.
      let d = root_there root roots f is in
      at_root (table_of view) room (slot_of view, f) path r (halts f is) s ss left (length path - length (s ∷ ss)) (many_left s ss left) d.0 d.1

  pub steps_none : RootsAre r.view None → (s : List ℕ) (ss : List (List ℕ)) → r.left.now ≡ s ∷ ss → Steps view 0 path (Err (record { k = length path - length (s ∷ ss) }))
  steps_none roots s ss left = λ f is.
      at_none (table_of view) room (slot_of view, f) path r (halts f is) s ss left (length path - length (s ∷ ss)) (many_left s ss left) (none_there roots f is)
