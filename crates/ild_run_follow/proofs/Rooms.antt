-- What the holders on a path leave of a room: the parts of what fits in it fit in that.
use Rattle.std.proofs.Common.{◌≡◌, ℕ, suc, ◌-◌, ◌≤◌, List, [], ◌∷◌, Bool, true, false, Option, Some, None, refl, sym, ap, ◌∙◌, subst, arith}
use Rattle.std.specs.Option.{option_map_or}
use Rattle.std.specs.Prelude.{option_map}
use Rattle.std.proofs.lemmas.Option.{none-some, same_Some}
use Rattle.ild_data.specs.Data.{Data}
use Rattle.ild_open_held.specs.Held.{IsHeld}
use Rattle.ild_open_held_parts.proofs.Holding.{one_is_held}
use Rattle.ild_open_held_parts.proofs.Parting.{parts_are_held}
use Rattle.ild_open_held_parts.specs.Leads.{IsFrontOf}
use Rattle.ild_open_held_roots.proofs.Entering.{root_front}
use Rattle.ild_path_edits.proofs.Depth.{room_is_layered}
use Rattle.ild_path_edits.proofs.RoomTests.{schemas_have_tests}
use Rattle.ild_path_edits.specs.Along.{room_below, taken}
use Rattle.ild_run_follow.specs.inside.Rooms.{room_reached}
use Rattle.ild_schema.specs.Clear.{IsSafe}
use Rattle.ild_schema.specs.Slots.{form_of}
use Rattle.ild_schema.specs.Value as V
use Rattle.ild_schema.specs.Value.{Value}
use Rattle.ild_schema.specs.declared.number.Slot.{Slot}
use Rattle.ild_schema.specs.declared.row.Row.{Row}
use Rattle.ild_typed.proofs.Rooms.{fits_more}
use Rattle.ild_typed.specs.At.{InSlot, Reach, here, enter, no_path, or_enter, reached, seen}
use Rattle.ild_typed.specs.Fits.{Fits}
use Rattle.ild_typed.specs.Hamt.{alone}
use Rattle.ild_typed.specs.OfType.{OfType}
use Rattle.ild_typed.specs.Represented.{represented}
use Rattle.ild_typed.specs.Schema.{IsSchema}
use Rattle.ild_typed.specs.Segment.{part}
use Rattle.ild_typed_fronts.proofs.Representing.{fronts_represent}
use Rattle.ild_typed_fronts.proofs.Seeing.{parts_of_fronts}
use Rattle.ild_typed_fronts.specs.Front.{front, front_in, is_root}

-- ---- what is reached

-- the part, or the HAMT that has to be entered
abbrev pub reach_part : Reach → Option InSlot
reach_part (here q) = Some q
reach_part (enter q k) = Some q
reach_part (no_path k) = None

pub or_part : (k : ℕ) (slot : Slot) (v : Value) (q : InSlot) → reach_part (or_enter k slot v) ≡ Some q → (slot, v) ≡ q
or_part k slot (V.hamt d) q e = same_Some (slot, V.hamt d) q e
or_part k slot v q e = absurd (none-some q e)

-- ---- rooms

pub fewer : (room n : ℕ) → room - n ≤ room
fewer room n = omega arith

pub room_low : (rows : List Row) (room : ℕ) (p : InSlot) (path : List (List ℕ)) → room_reached rows room p path ≤ room
room_low rows room p [] = omega arith
room_low rows room p (s ∷ ss) = by (part (seen rows p) s) (λ q. room_low rows (room_below rows room p s) q ss) where
  by : (o : Option InSlot) → ((q : InSlot) → room_reached rows (room_below rows room p s) q ss ≤ room_below rows room p s)
      → option_map_or (λ q. room_reached rows (room_below rows room p s) q ss) o room ≤ room
  by None rest = omega arith
  by (Some q) rest = let le = rest q in let own = fewer room (taken (form_of rows p.0)) in omega (arith, le, own)

-- what is left where the levels of a form are taken away
pub left_behind : (room less n m : ℕ) → less ≡ room - n → n ≡ m → less ≡ room - m
left_behind room less n m own same = own ∙ ap (λ i. room - i) same

-- a part fits in what its holder leaves
pub part_in : (rows : List Row) → IsSchema rows → (room : ℕ) (p q : InSlot) (s : List ℕ) → Fits rows room p.0 p.1 → part (seen rows p) s ≡ Some q → Fits rows (room_below rows room p s) q.0 q.1
part_in rows schema room p q s fits is =
    let tests = schemas_have_tests rows schema in
    let typed : OfType rows p.0 p.1 = (room, fits) in
    (room_is_layered rows tests.0.is_key schema tests.1.keys).parts room p q s typed fits is

-- ---- of a value that is held

-- it is the front of a value that is held
abbrev pub IsLeft : (List ℕ → Option (List ℕ)) → (List ℕ → List ℕ) → List Row → ℕ → InSlot → Type 0
IsLeft block h rows room f = (q : InSlot) × IsFrontOf block h rows room f q

module _ (block : List ℕ → Option (List ℕ)) (h : List ℕ → List ℕ) (rows : List Row) (schema : IsSchema rows) where
  part_held : (room : ℕ) (p q : InSlot) (t : Data) (s : List ℕ) → IsHeld block h rows room p.0 t p.1 → part (seen rows p) s ≡ Some q → (d : Data) × IsHeld block h rows (room_below rows room p s) q.0 d q.1
  part_held room p q t s held is =
      let d = parts_are_held block h rows schema room p q t s held is in
      (d.0, record { fits = part_in rows schema room p q s held.fits is; tree = d.1.tree; held = d.1.held })

  at_once : (room : ℕ) (p f : InSlot) (t : Data) → IsHeld block h rows room p.0 t p.1 → front_in h rows p ≡ f → IsLeft block h rows room f
  at_once room p f t held is = (p, record { tree = t; held = held; front = sym is })

  abbrev Onward : ℕ → List (List ℕ) → InSlot → Type 0
  Onward room ss f =
      (k : ℕ) (q : InSlot) (d : Data) → IsHeld block h rows room q.0 d q.1 → reach_part (reached rows k (front_in h rows q) ss) ≡ Some f → IsLeft block h rows (room_reached rows room (front_in h rows q) ss) f

  module _ (room k : ℕ) (p : InSlot) (t : Data) (f : InSlot) (s : List ℕ) (ss : List (List ℕ)) (held : IsHeld block h rows room p.0 t p.1) (on : Onward (room_below rows room p s) ss f) where
    abbrev ReachOf : Option InSlot → Value → Reach
    ReachOf o v = option_map_or (λ q. reached rows (suc k) q ss) o (or_enter k p.0 v)

    abbrev RoomOf : Option InSlot → ℕ
    RoomOf o = option_map_or (λ q. room_reached rows (room_below rows room p s) q ss) o room

    by_part : (o : Option InSlot) → part (seen rows p) s ≡ o → reach_part (ReachOf (option_map (front_in h rows) o) (front h rows p.0 p.1)) ≡ Some f → IsLeft block h rows (RoomOf (option_map (front_in h rows) o)) f
    by_part None e is = at_once room p f t held (or_part k p.0 (front h rows p.0 p.1) f is)
    by_part (Some q) e is = let d = part_held room p q t s held e in on (suc k) q d.0 d.1 is

    by_root : (b : Bool) → is_root rows p ≡ b → reach_part (reached rows k (front_in h rows p) (s ∷ ss)) ≡ Some f → IsLeft block h rows (room_reached rows room (front_in h rows p) (s ∷ ss)) f
    by_root true root is =
        let same : front h rows p.0 p.1 ≡ V.hamt t = root_front h rows p.0 p.1 t held.tree root in
        subst (λ (v : Value). reach_part (reached rows k (p.0, v) (s ∷ ss)) ≡ Some f → IsLeft block h rows (room_reached rows room (p.0, v) (s ∷ ss)) f) (sym same)
        (λ e. at_once room p f t held (ap (λ (v : Value). (p.0, v)) same ∙ same_Some (p.0, V.hamt t) f e)) is
    by_root false plain is =
        let tests = schemas_have_tests rows schema in
        let same = parts_of_fronts h rows tests.0.is_key schema tests.1.keys p s (room, held.fits) plain in
        subst (λ (o : Option InSlot). reach_part (ReachOf o (front h rows p.0 p.1)) ≡ Some f → IsLeft block h rows (RoomOf o) f) (sym same) (by_part (part (seen rows p) s) refl) is

  -- what a path reaches in its front is the front of a part in what is left of the room
  pub is_left : (path : List (List ℕ)) (room : ℕ) (f : InSlot) (k : ℕ) (p : InSlot) (t : Data) → IsHeld block h rows room p.0 t p.1 → reach_part (reached rows k (front_in h rows p) path) ≡ Some f
      → IsLeft block h rows (room_reached rows room (front_in h rows p) path) f
  is_left [] room f k p t held is = at_once room p f t held (same_Some (front_in h rows p) f is)
  is_left (s ∷ ss) room f k p t held is = by_root room k p t f s ss held (is_left ss (room_below rows room p s) f) (is_root rows p) refl is

  -- which is the one part that has this front
  pub held_in : (room less : ℕ) → room ≤ 96 → less ≤ room → (f p : InSlot) → IsSafe rows p.0 → IsLeft block h rows less f → (x : IsFrontOf block h rows room f p) → IsHeld block h rows less p.0 x.tree p.1
  held_in room less low le f p safe own x =
      let q = own.0 in
      let y = own.1 in
      let fronts : front_in h rows q ≡ front_in h rows p = sym y.front ∙ x.front in
      let slots : q.0 ≡ p.0 = ap (λ (z : InSlot). z.0) fronts in
      let seen_as : represented alone rows q.0 (front h rows q.0 q.1) ≡ represented alone rows p.0 (front h rows p.0 p.1) = ap (λ (z : InSlot). represented alone rows z.0 z.1) fronts in
      let trees : y.tree ≡ x.tree =
      same_Some y.tree x.tree (sym y.held.tree ∙ sym (fronts_represent h rows q.0 q.1) ∙ seen_as ∙ fronts_represent h rows p.0 p.1 ∙ x.held.tree) in
      let there : IsHeld block h rows less p.0 x.tree q.1 =
      subst (λ (s : Slot). IsHeld block h rows less s x.tree q.1) slots (subst (λ (d : Data). IsHeld block h rows less q.0 d q.1) trees y.held) in
      let wide : IsHeld block h rows room p.0 x.tree q.1 = record { fits = fits_more rows less room le p.0 q.1 there.fits; tree = there.tree; held = there.held } in
      let one : q.1 ≡ p.1 = one_is_held block h rows schema room low p.0 x.tree q.1 p.1 safe wide x.held in
      subst (λ (v : Value). IsHeld block h rows less p.0 x.tree v) one there
