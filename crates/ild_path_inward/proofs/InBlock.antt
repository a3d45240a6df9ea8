-- How far a path leads in the block of a value that is held.
use Rattle.std.proofs.Common.{◌≡◌, ℕ, ◌+◌, List, [], ◌∷◌, ◌++◌, Bool, true, false, true≢false, Option, Some, None, refl, ap, sym, ◌∙◌, arith}
use Rattle.std.specs.Prelude.{◌&&◌, not, option_map, option_and_then}
use Rattle.std.specs.Option.{option_map_or}
use Rattle.ild_data.specs.Data.{Data}
use Rattle.ild_open_held.specs.Held.{IsHeld}
use Rattle.ild_open_held_parts.proofs.Parting.{parts_are_held}
use Rattle.ild_open_held_parts.specs.Leads.{CountsHamts}
use Rattle.ild_open_held_roots.proofs.Entering.{root_front}
use Rattle.ild_path_edits.proofs.RoomTests.{schemas_have_tests}
use Rattle.ild_path_edits.specs.Along.{room_below}
use Rattle.ild_path_edits.specs.Stop.{stopped}
use Rattle.ild_path_held.specs.HeldEdits.{room_at}
use Rattle.ild_path_inward.specs.Halts.{room_stopped}
use Rattle.ild_schema.specs.Value as V
use Rattle.ild_schema.specs.declared.row.Row.{Row}
use Rattle.ild_typed.specs.At.{InSlot, at, met, seen}
use Rattle.ild_typed.specs.Schema.{IsSchema}
use Rattle.ild_typed.specs.Segment.{part}
use Rattle.ild_typed_fronts.proofs.Seeing.{parts_of_fronts}
use Rattle.ild_typed_fronts.specs.Front.{front, front_in, in_one_block, is_root}

-- where the walk stops that is done on the front
pub record IsIn (h : List ℕ → List ℕ) (rows : List Row) (room : ℕ) (p : InSlot) (path : List (List ℕ)) : Type 0 where
  pub holder : InSlot
  pub before : List (List ℕ)
  pub left : List (List ℕ)
  pub split : path ≡ before ++ left
  pub front : stopped rows (front_in h rows p) path ≡ record { part = front_in h rows holder; left = left }
  pub there : at rows p before ≡ Some holder
  pub inside : in_one_block rows p before ≡ true
  pub room_is : room_stopped rows room (front_in h rows p) path ≡ room_at rows room p before
  pub goes : stopped rows p path ≡ stopped rows holder left
  pub ends : is_root rows holder ≡ false → stopped rows holder left ≡ record { part = holder; left = left }
  pub free : (count : InSlot → List ℕ → ℕ) → CountsHamts rows count → met rows count p path ≡ met rows count holder left

zero_plus : (n : ℕ) → 0 + n ≡ n
zero_plus n = omega arith

module _ (block : List ℕ → Option (List ℕ)) (h : List ℕ → List ℕ) (rows : List Row) (schema : IsSchema rows) (limit : ℕ) where
  -- the root of a HAMT shows no part
  no_part : (p : InSlot) (t : Data) (s : List ℕ) → IsHeld block h rows limit p.0 t p.1 → is_root rows p ≡ true → part (seen rows (front_in h rows p)) s ≡ None
  no_part p t s has root = ap (λ (f : V.Value). part (seen rows (p.0, f)) s) (root_front h rows p.0 p.1 t has.tree root)

  some_part : (p : InSlot) (t : Data) (s : List ℕ) → IsHeld block h rows limit p.0 t p.1 → is_root rows p ≡ false → part (seen rows (front_in h rows p)) s ≡ option_map (front_in h rows) (part (seen rows p) s)
  some_part p t s has plain =
      let x = schemas_have_tests rows schema in
      parts_of_fronts h rows x.0.is_key schema x.1.keys p s (limit, has.fits) plain

  stop_here : (room : ℕ) (p : InSlot) (path : List (List ℕ)) → stopped rows (front_in h rows p) path ≡ record { part = front_in h rows p; left = path } → room_stopped rows room (front_in h rows p) path ≡ room
      → (is_root rows p ≡ false → stopped rows p path ≡ record { part = p; left = path }) → IsIn h rows room p path
  stop_here room p path front left ends = record {
    holder = p;
    before = [];
    left = path;
    split = refl;
    front = front;
    there = refl;
    inside = refl;
    room_is = left;
    goes = refl;
    ends = ends;
    free = λ count hamts. refl;
  }

  -- where a segment leads to no part
  none_there : (room : ℕ) (p : InSlot) (s : List ℕ) (ss : List (List ℕ)) → part (seen rows (front_in h rows p)) s ≡ None → (is_root rows p ≡ false → part (seen rows p) s ≡ None) → IsIn h rows room p (s ∷ ss)
  none_there room p s ss none own =
      stop_here room p (s ∷ ss)
      (ap (λ o. option_map_or (λ q. stopped rows q ss) o (record { part = front_in h rows p; left = s ∷ ss })) none)
      (ap (λ o. option_map_or (λ q. room_stopped rows (room_below rows room (front_in h rows p) s) q ss) o room) none)
      (λ plain. ap (λ o. option_map_or (λ q. stopped rows q ss) o (record { part = p; left = s ∷ ss })) (own plain))

  one_more : (room : ℕ) (p q : InSlot) (s : List ℕ) (ss : List (List ℕ)) → is_root rows p ≡ false → part (seen rows p) s ≡ Some q → part (seen rows (front_in h rows p)) s ≡ Some (front_in h rows q)
      → IsIn h rows (room_below rows room p s) q ss → IsIn h rows room p (s ∷ ss)
  one_more room p q s ss plain own shown x = record {
    holder = x.holder;
    before = s ∷ x.before;
    left = x.left;
    split = ap (λ xs. s ∷ xs) x.split;
    front = ap (λ o. option_map_or (λ r. stopped rows r ss) o (record { part = front_in h rows p; left = s ∷ ss })) shown ∙ x.front;
    there = ap (option_and_then (λ r. at rows r x.before)) own ∙ x.there;
    inside = (λ i. not (plain i) && option_map_or (λ r. in_one_block rows r x.before) (own i) true) ∙ x.inside;
    room_is =
        ap (λ o. option_map_or (λ r. room_stopped rows (room_below rows room p s) r ss) o room) shown ∙ x.room_is
        ∙ sym (ap (λ o. option_map_or (λ r. room_at rows (room_below rows room p s) r x.before) o (room_below rows room p s)) own);
    goes = ap (λ o. option_map_or (λ r. stopped rows r ss) o (record { part = p; left = s ∷ ss })) own ∙ x.goes;
    ends = x.ends;
    free = λ count hamts. (λ i. hamts p s plain i + option_map_or (λ r. met rows count r ss) (own i) 0) ∙ zero_plus (met rows count q ss) ∙ x.free count hamts;
  }

  step : (room : ℕ) (p : InSlot) (t : Data) (s : List ℕ) (ss : List (List ℕ)) → IsHeld block h rows limit p.0 t p.1 → is_root rows p ≡ false
      → ((q : InSlot) (d : Data) → IsHeld block h rows limit q.0 d q.1 → IsIn h rows (room_below rows room p s) q ss) → (o : Option InSlot) → part (seen rows p) s ≡ o → IsIn h rows room p (s ∷ ss)
  step room p t s ss has plain rest None e = none_there room p s ss (some_part p t s has plain ∙ ap (option_map (front_in h rows)) e) (λ same. e)
  step room p t s ss has plain rest (Some q) e =
      let d = parts_are_held block h rows schema limit p q t s has e in
      one_more room p q s ss plain e (some_part p t s has plain ∙ ap (option_map (front_in h rows)) e) (rest q d.0 d.1)

  by : (room : ℕ) (p : InSlot) (t : Data) (s : List ℕ) (ss : List (List ℕ)) → IsHeld block h rows limit p.0 t p.1
      → ((q : InSlot) (d : Data) → IsHeld block h rows limit q.0 d q.1 → IsIn h rows (room_below rows room p s) q ss) → (b : Bool) → is_root rows p ≡ b → IsIn h rows room p (s ∷ ss)
  by room p t s ss has rest true root = none_there room p s ss (no_part p t s has root) (λ plain. absurd (true≢false (sym root ∙ plain)))
  by room p t s ss has rest false plain = step room p t s ss has plain rest (part (seen rows p) s) refl

  pub in_block : (path : List (List ℕ)) (room : ℕ) (p : InSlot) (t : Data) → IsHeld block h rows limit p.0 t p.1 → IsIn h rows room p path
  in_block [] room p t has = stop_here room p [] refl refl (λ plain. refl)
  in_block (s ∷ ss) room p t has = by room p t s ss has (λ q d own. in_block ss (room_below rows room p s) q d own) (is_root rows p) refl
