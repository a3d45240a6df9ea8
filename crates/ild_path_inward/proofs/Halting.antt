-- A walk over the segments of a path in one block.
use Rattle.std.proofs.Common.{◌≡◌, ◌-◌, ℕ, List, [], ◌∷◌, length, Option, Some, None, refl, sym, ◌∙◌, ap, subst, arith}
use Rattle.std.specs.Option.{option_map_or}
use Rattle.std.proofs.Math.Logic.{∥∥₁_elim}
use Rattle.std.proofs.Props.{props}
use Rattle.ild_path_edits.specs.Along.{room_below, taken}
use Rattle.ild_path_edits.specs.Stop.{Stop, stopped}
use Rattle.ild_path_inward.specs.Halts.{HaltsAt, room_stopped}
use Rattle.ild_path_inward.specs.declared.halt.Halt.{Halt}
use Rattle.ild_schema.specs.Slots.{form_of}
use Rattle.ild_schema.specs.Value.{Value}
use Rattle.ild_schema.specs.declared.row.Row.{Row}
use Rattle.ild_typed.specs.At.{InSlot, seen}
use Rattle.ild_typed.specs.Segment.{part}
use Rattle.ild_view.specs.Parts.{HandsOut, IsPartView}
use Rattle.ild_view.specs.View.{IsView, slot_of, table_of}
use Rattle.ild_view.specs.declared.view.View.{View}

-- The walk stands at this view, with these segments left: where it stops from here, it stops on the whole path.
pub record GoesOn (rows : List Row) (limit : ℕ) (p : InSlot) (path : List (List ℕ)) (v : View) (left : List (List ℕ)) (room : ℕ) : Type 0 where
  pub to : InSlot
  pub view : IsPartView rows to v
  pub stops : stopped rows p path ≡ stopped rows to left
  pub leaves : room_stopped rows limit p path ≡ room_stopped rows room to left

pub begins : (v : View) (f : Value) (path : List (List ℕ)) (room : ℕ) → IsView v f → GoesOn (table_of v) room (slot_of v, f) path v path room
begins v f path room is = record { to = (slot_of v, f); view = record { table = refl; slot = refl; view = is }; stops = refl; leaves = refl }

module _ (rows : List Row) (limit : ℕ) (p : InSlot) (path : List (List ℕ)) (v : View) (room : ℕ) where
  -- what the view hands out, in the terms of the path
  handed : (q : InSlot) → IsPartView rows q v → (x : List ℕ) (o : Option View) → ((f : Value) → IsView v f → HandsOut (table_of v) (part (seen (table_of v) (slot_of v, f)) x) o) → HandsOut rows (part (seen rows q) x) o
  handed q is x o all =
      subst (λ u. HandsOut rows (part (seen rows (u, q.1)) x) o) is.slot
      (subst (λ t. HandsOut t (part (seen t (slot_of v, q.1)) x) o) is.table (all q.1 is.view))

  none_handed : (o : Option InSlot) → HandsOut rows o None → o ≡ None
  none_handed None h = refl
  none_handed (Some q) h = absurd h

  levels_same : (q : InSlot) → IsPartView rows q v → (x : List ℕ) → room - taken (form_of (table_of v) (slot_of v)) ≡ room_below rows room q x
  levels_same q is x = (λ i. room - taken (form_of (is.table i) (is.slot i)))

  halts_here : (left : List (List ℕ)) (r : Halt) → r.view ≡ v → r.left.now ≡ left → r.room ≡ room → (w : GoesOn rows limit p path v left room) → stopped rows w.to left ≡ record { part = w.to; left = left } → room_stopped rows room w.to left ≡ room
      → HaltsAt rows limit p path r
  halts_here left r a b c w s n =
      let all : stopped rows p path ≡ record { part = w.to; left = left } = w.stops ∙ s in
      record {
        view = subst (λ (x : View). IsPartView rows (stopped rows p path).part x) (sym a) (subst (λ (q : InSlot). IsPartView rows q v) (sym (ap (λ (x : Stop). x.part) all)) w.view);
        left = b ∙ sym (ap (λ (x : Stop). x.left) all);
        room_is = c ∙ sym (w.leaves ∙ n);
      }

  -- at its end
  pub halts_end : (left : List (List ℕ)) (r : Halt) → r.view ≡ v → r.left.now ≡ left → r.room ≡ room → left ≡ [] → GoesOn rows limit p path v left room → HaltsAt rows limit p path r
  halts_end left r a b c none w =
      halts_here left r a b c w
      (subst (λ (xs : List (List ℕ)). stopped rows w.to xs ≡ record { part = w.to; left = xs }) (sym none) refl)
      (subst (λ (xs : List (List ℕ)). room_stopped rows room w.to xs ≡ room) (sym none) refl)

  -- where a segment leads to no part
  pub halts_at : (x : List ℕ) (behind left : List (List ℕ)) (r : Halt) → r.view ≡ v → r.left.now ≡ left → r.room ≡ room → left ≡ x ∷ behind
      → ((f : Value) → IsView v f → HandsOut (table_of v) (part (seen (table_of v) (slot_of v, f)) x) None) → GoesOn rows limit p path v left room → HaltsAt rows limit p path r
  halts_at x behind left r a b c e all w =
      let gone = none_handed (part (seen rows w.to) x) (handed w.to w.view x None all) in
      halts_here left r a b c w
      (subst (λ (xs : List (List ℕ)). stopped rows w.to xs ≡ record { part = w.to; left = xs }) (sym e) (ap (λ o. option_map_or (λ q. stopped rows q behind) o (record { part = w.to; left = x ∷ behind })) gone))
      (subst (λ (xs : List (List ℕ)). room_stopped rows room w.to xs ≡ room) (sym e) (ap (λ o. option_map_or (λ q. room_stopped rows (room_below rows room w.to x) q behind) o room) gone))

  part_there : (o : Option InSlot) (w : View) → HandsOut rows o (Some w) → (q : InSlot) × (o ≡ Some q) × IsPartView rows q w
  part_there None w h = absurd h
  part_there (Some q) w h = (q, refl, h)

  pub goes : (x : List ℕ) (behind left : List (List ℕ)) → left ≡ x ∷ behind → (w : View) (n : ℕ) → n ≡ room - taken (form_of (table_of v) (slot_of v))
      → ((f : Value) → IsView v f → HandsOut (table_of v) (part (seen (table_of v) (slot_of v, f)) x) (Some w)) → GoesOn rows limit p path v left room → GoesOn rows limit p path w behind n
  goes x behind left e w n same all way =
      let t = part_there (part (seen rows way.to) x) w (handed way.to way.view x (Some w) all) in
      record {
        to = t.0;
        view = t.2;
        stops = way.stops ∙ ap (stopped rows way.to) e ∙ ap (λ o. option_map_or (λ q. stopped rows q behind) o (record { part = way.to; left = x ∷ behind })) t.1;
        leaves = way.leaves ∙ ap (room_stopped rows room way.to) e ∙ ap (λ o. option_map_or (λ q. room_stopped rows (room_below rows room way.to x) q behind) o room) t.1
            ∙ ap (λ m. room_stopped rows m t.0 behind) (sym (same ∙ levels_same way.to way.view x));
      }

pub none_left : (xs : List (List ℕ)) → length xs ≡ 0 → xs ≡ []
none_left [] e = refl
none_left (x ∷ xs) e = absurd (omega (arith, e))

-- a part's view is under the same schema
table_there : (rows : List Row) (o : Option InSlot) (w : View) → HandsOut rows o (Some w) → table_of w ≡ rows
table_there rows None w h = absurd h
table_there rows (Some q) w h = h.table

pub table_kept : (v : View) (x : List ℕ) (w : View) → ((f : Value) → IsView v f → HandsOut (table_of v) (part (seen (table_of v) (slot_of v, f)) x) (Some w)) → table_of w ≡ table_of v
table_kept v x w all =
    ∥∥₁_elim v.stands (hlevel props) (λ s. table_there (table_of v) _ w (all s.value (record { room = s.room; tree = s.tree; stands = s.stands; front = s.front })))
