-- A walk over the segments of a path in one block, and what it leaves of a room.
use Rattle.std.proofs.Common.{◌≡◌, ◌<◌, ◌≤◌, ◌+◌, ◌-◌, ℕ, zero, suc, List, [], ◌∷◌, length, drop, get_or, Option, Some, None, refl, sym, ap, ◌∙◌, subst, arith}
use Rattle.std.specs.Option.{option_map_or}
use Rattle.std.specs.Prelude.{Result, Ok}
use Rattle.ild_path_edits.specs.Along.{room_below, taken}
use Rattle.ild_run_follow.specs.inside.Rooms.{room_reached}
use Rattle.ild_schema.specs.Slots.{form_of}
use Rattle.ild_schema.specs.Value.{Value}
use Rattle.ild_schema.specs.declared.number.Slot.{Slot}
use Rattle.ild_schema.specs.declared.row.Row.{Row}
use Rattle.ild_typed.specs.At.{InSlot, or_enter, reached, seen}
use Rattle.ild_typed.specs.Segment.{part}
use Rattle.ild_view.specs.Parts.{HandsOut, IsPartView}
use Rattle.ild_view.specs.Reaches.{Reaches}
use Rattle.ild_view.specs.View.{IsView, slot_of, table_of}
use Rattle.ild_view.specs.declared.step.NoPath.{NoPath}
use Rattle.ild_view.specs.declared.step.Step.{Step}
use Rattle.ild_view.specs.declared.step.Step.TheVariants as S
use Rattle.ild_view.specs.declared.view.View.{View}

-- ---- segments

pub segment_at : (all path : List (List ℕ)) (k : ℕ) (x y : List ℕ) → x ≡ y → y ≡ get_or all k y → all ≡ path → x ≡ get_or path k x
segment_at all path k x y same is whole = same ∙ is ∙ ap (λ (zs : List (List ℕ)). get_or zs k y) whole ∙ ap (get_or path k) (sym same)

drop_got : (xs : List (List ℕ)) (k : ℕ) (x : List ℕ) → k < length xs → x ≡ get_or xs k x → drop k xs ≡ x ∷ drop (suc k) xs
drop_got [] k x less e = absurd (omega (arith, less))
drop_got (y ∷ ys) zero x less e = ap (λ z. z ∷ ys) (sym e)
drop_got (y ∷ ys) (suc k) x less e = drop_got ys k x (omega (arith, less)) e

drop_past : (xs : List (List ℕ)) (k : ℕ) → length xs ≤ k → drop k xs ≡ []
drop_past [] zero far = refl
drop_past [] (suc k) far = refl
drop_past (x ∷ xs) zero far = absurd (omega (arith, far))
drop_past (x ∷ xs) (suc k) far = drop_past xs k (omega (arith, far))

-- ---- what a view hands out

handed : (rows : List Row) (q : InSlot) (v : View) → IsPartView rows q v → (x : List ℕ) (o : Option View) → ((f : Value) → IsView v f → HandsOut (table_of v) (part (seen (table_of v) (slot_of v, f)) x) o)
    → HandsOut rows (part (seen rows q) x) o
handed rows q v is x o all =
    subst (λ (u : Slot). HandsOut rows (part (seen rows (u, q.1)) x) o) is.slot (subst (λ (t : List Row). HandsOut t (part (seen t (slot_of v, q.1)) x) o) is.table (all q.1 is.view))

none_handed : (rows : List Row) (o : Option InSlot) → HandsOut rows o None → o ≡ None
none_handed rows None h = refl
none_handed rows (Some q) h = absurd h

some_handed : (rows : List Row) (o : Option InSlot) (w : View) → HandsOut rows o (Some w) → (q : InSlot) × (o ≡ Some q) × IsPartView rows q w
some_handed rows None w h = absurd h
some_handed rows (Some q) w h = (q, refl, h)

-- ---- the walk

-- It stands at this view, with so much left of the room: what is reached from here is reached on the whole path.
pub record Walked (rows : List Row) (from k limit room : ℕ) (p : InSlot) (path : List (List ℕ)) (v : View) : Type 0 where
  pub to : InSlot
  pub view : IsPartView rows to v
  pub same : reached rows from p (drop from path) ≡ reached rows k to (drop k path)
  pub leaves : room_reached rows limit p (drop from path) ≡ room_reached rows room to (drop k path)

pub walked_begins : (v : View) (f : Value) (from limit : ℕ) (path : List (List ℕ)) → IsView v f → Walked (table_of v) from from limit limit (slot_of v, f) path v
walked_begins v f from limit path is = record { to = (slot_of v, f); view = record { table = refl; slot = refl; view = is }; same = refl; leaves = refl }

module _ (rows : List Row) (from k limit room : ℕ) (p : InSlot) (path : List (List ℕ)) (v : View) (w : Walked rows from k limit room p path v) where
  -- at the end of the path
  pub ends_here : length path ≤ k → Reaches rows (reached rows from p (drop from path)) (Ok (S.Here v))
  ends_here far = subst (λ r. Reaches rows r (Ok (S.Here v))) (sym (w.same ∙ ap (reached rows k w.to) (drop_past path k far))) w.view

  pub left_here : length path ≤ k → room ≡ room_reached rows limit p (drop from path)
  left_here far = sym (w.leaves ∙ ap (room_reached rows room w.to) (drop_past path k far))

  -- what is told of the path from here on
  pub stops_as : (r : Result Step NoPath) → ((f : Value) → IsView v f → Reaches (table_of v) (reached (table_of v) k (slot_of v, f) (drop k path)) r) → Reaches rows (reached rows from p (drop from path)) r
  stops_as r told =
      subst (λ z. Reaches rows z r) (sym w.same)
      (subst (λ (u : Slot). Reaches rows (reached rows k (u, w.to.1) (drop k path)) r) w.view.slot
      (subst (λ (t : List Row). Reaches t (reached t k (slot_of v, w.to.1) (drop k path)) r) w.view.table (told w.to.1 w.view.view)))

  module _ (x : List ℕ) (less : k < length path) (is : x ≡ get_or path k x) where
    -- where the segment leads to no part
    pub left_there : ((f : Value) → IsView v f → HandsOut (table_of v) (part (seen (table_of v) (slot_of v, f)) x) None) → room ≡ room_reached rows limit p (drop from path)
    left_there all =
        let none = none_handed rows (part (seen rows w.to) x) (handed rows w.to v w.view x None all) in
        sym (w.leaves ∙ ap (room_reached rows room w.to) (drop_got path k x less is) ∙ ap (λ o. option_map_or (λ q. room_reached rows (room_below rows room w.to x) q (drop (suc k) path)) o room) none)

    -- one segment further
    pub walked_on : (next : View) (n : ℕ) → n ≡ k + 1 → (left : ℕ) → left ≡ room - taken (form_of (table_of v) (slot_of v))
        → ((f : Value) → IsView v f → HandsOut (table_of v) (part (seen (table_of v) (slot_of v, f)) x) (Some next)) → Walked rows from n limit left p path next
    walked_on next n e left lower all =
        let g = some_handed rows (part (seen rows w.to) x) next (handed rows w.to v w.view x (Some next) all) in
        let step : suc k ≡ n = omega (arith, e) in
        let own : left ≡ room_below rows room w.to x = lower ∙ (λ i. room - taken (form_of (w.view.table i) (w.view.slot i))) in
        record {
          to = g.0;
          view = g.2;
          same = w.same ∙ ap (reached rows k w.to) (drop_got path k x less is) ∙ ap (λ o. option_map_or (λ q. reached rows (suc k) q (drop (suc k) path)) o (or_enter k w.to.0 w.to.1)) g.1
              ∙ ap (λ (m : ℕ). reached rows m g.0 (drop m path)) step;
          leaves =
              w.leaves ∙ ap (room_reached rows room w.to) (drop_got path k x less is) ∙ ap (λ o. option_map_or (λ q. room_reached rows (room_below rows room w.to x) q (drop (suc k) path)) o room) g.1
              ∙ ap (λ (i : ℕ). room_reached rows i g.0 (drop (suc k) path)) (sym own) ∙ ap (λ (m : ℕ). room_reached rows left g.0 (drop m path)) step;
        }
