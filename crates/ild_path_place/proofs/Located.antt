-- A path followed to its place.
use Rattle.std.proofs.Common.{◌≡◌, ℕ, suc, ◌+◌, ◌-◌, ◌≤◌, List, [], ◌∷◌, ◌++◌, length, take, slice_get, nat_eq, Bool, true, false, true≢false, Option, Some, None, Ok, Err, refl, ap, sym, ◌∙◌, subst, arith}
use Rattle.std.specs.Option.{option_map_or}
use Rattle.std.proofs.lemmas.Option.{none-some, same_Some}
use Rattle.ild_data.specs.Data.{Data}
use Rattle.ild_edges.specs.Count.{Rose}
use Rattle.ild_edges.specs.Store.{Moment, block_at}
use Rattle.ild_node_slots.specs.declared.fault.HamtFault.{HamtFault}
use Rattle.ild_node_slots.specs.declared.fault.HamtFault.TheVariants as H
use Rattle.ild_open_parts.specs.Reads.{OnlyReads}
use Rattle.ild_open_held.specs.Held.{IsHeld}
use Rattle.ild_path_edits.proofs.RoomTests.{schemas_have_tests}
use Rattle.ild_path_edits.proofs.Stops.{stops_tell}
use Rattle.ild_path_edits.specs.Along.{taken}
use Rattle.ild_path_edits.specs.Stop.{Stop, part_along}
use Rattle.ild_path_held.proofs.Holding.{held_parts}
use Rattle.ild_path_held.specs.HeldEdits.{room_at}
use Rattle.ild_path_hops.specs.Hops.{AreHops}
use Rattle.ild_path_inward.proofs.Inwarding.{can_go_on}
use Rattle.ild_path_inward.specs.Inwards.{CanGoOn, GoesInward, through}
use Rattle.ild_path_inward.specs.Levels.{CanGo, counts, met_on}
use Rattle.ild_path_inward.specs.declared.inward.Inward.{Inward}
use Rattle.ild_path_place.proofs.Holing.{hole_is}
use Rattle.ild_path_place.proofs.Lasting.{holder_last, is_allowed, is_kept, is_nowhere, stops_before}
use Rattle.ild_path_place.proofs.Rooming.{at_last, hops_room, room_is, room_split}
use Rattle.ild_path_place.specs.Faults.{hamt_fault}
use Rattle.ild_path_place.specs.Holes.{HoleIs, VerbHole}
use Rattle.ild_path_place.specs.inside.Inner.{EndsThere, LeadsTo}
use Rattle.ild_path_place.specs.Places.{EndsAt, Locates, SlotIs}
use Rattle.ild_path_place.specs.Rooms.{HasRoom, RoomIs}
use Rattle.ild_path_place.specs.declared.ending.Found.{Found}
use Rattle.ild_path_place.specs.declared.fault.PathFault.{PathFault}
use Rattle.ild_path_place.specs.declared.fault.PathFault.TheVariants as F
use Rattle.ild_path_place.specs.declared.place.Place.{Place}
use Rattle.ild_path_place.specs.declared.verb.Verb.{Verb}
use Rattle.ild_path_room.proofs.Telling.{none_behind}
use Rattle.ild_path_within.proofs.Splitting.{ways_split}
use Rattle.ild_schema.specs.declared.row.Row.{Row}
use Rattle.ild_schema.specs.Slots.{form_of}
use Rattle.ild_typed.specs.At.{InSlot, at, met, seen}
use Rattle.ild_path_edits.specs.Table.{key_fits}
use Rattle.ild_typed.specs.Holder.{Holder}
use Rattle.ild_typed.specs.Segment.{part}
use Rattle.ild_view.specs.declared.view.View.{View}

less : (n : ℕ) → suc n - 1 ≡ n
less n = omega arith

last_of : (x y : List ℕ) (ys : List (List ℕ)) → Some x ≡ slice_get (y ∷ ys) (length ys) → take (length ys) (y ∷ ys) ++ x ∷ [] ≡ y ∷ ys
last_of x y [] e = ap (λ z. z ∷ []) (same_Some x y e)
last_of x y (z ∷ zs) e = ap (λ ws. y ∷ ws) (last_of x z zs e)

pub split_last : (xs : List (List ℕ)) (x : List ℕ) → Some x ≡ slice_get xs (length xs - 1) → take (length xs - 1) xs ++ x ∷ [] ≡ xs
split_last [] x e = absurd (none-some x (sym e))
split_last (y ∷ ys) x e = ap (λ n. take n (y ∷ ys) ++ x ∷ []) (less (length ys)) ∙ last_of x y ys (e ∙ ap (slice_get (y ∷ ys)) (less (length ys)))

abbrev last_is : List ℕ → List (List ℕ) → List ℕ
last_is y [] = y
last_is y (z ∷ zs) = last_is z zs

-- no last one
pub empty : (xs : List (List ℕ)) → None ≡ slice_get xs (length xs - 1) → xs ≡ []
empty [] e = refl
empty (y ∷ ys) e = absurd (none-some (last_is y ys) (e ∙ ap (slice_get (y ∷ ys)) (less (length ys)) ∙ sym (last_there y ys))) where
  last_there : (y : List ℕ) (ys : List (List ℕ)) → Some (last_is y ys) ≡ slice_get (y ∷ ys) (length ys)
  last_there y [] = refl
  last_there y (z ∷ zs) = last_there z zs

met_more : (rows : List Row) (count : InSlot → List ℕ → ℕ) (front ss : List (List ℕ)) (p : InSlot) → met rows count p front ≤ met rows count p (front ++ ss)
met_more rows count [] ss p = omega arith
met_more rows count (t ∷ ts) ss p = by (part (seen rows p) t) (λ q. met_more rows count ts ss q) where
  by : (o : Option InSlot) → ((q : InSlot) → met rows count q ts ≤ met rows count q (ts ++ ss))
      → count p t + option_map_or (λ q. met rows count q ts) o 0 ≤ count p t + option_map_or (λ q. met rows count q (ts ++ ss)) o 0
  by None rest = omega arith
  by (Some q) rest = let le = rest q in omega (arith, le)

nil_right : (xs : List (List ℕ)) → xs ++ [] ≡ xs
nil_right [] = refl
nil_right (x ∷ xs) = ap (λ ys. x ∷ ys) (nil_right xs)

assoc : (xs ys zs : List (List ℕ)) → (xs ++ ys) ++ zs ≡ xs ++ (ys ++ zs)
assoc [] ys zs = refl
assoc (x ∷ xs) ys zs = ap (λ ws. x ∷ ws) (assoc xs ys zs)

some_left : (front : List (List ℕ)) (s : List ℕ) → front ++ s ∷ [] ≡ [] → ⊥
some_left [] s e = absurd cc
some_left (t ∷ front) s e = absurd cc

module _ (h : List ℕ → List ℕ) (rows : List Row) (was : List (List ℕ)) (p : InSlot) (d : Data) (root : View) (x : CanGo h rows was 96 p d root) (front : List (List ℕ)) (s : List ℕ) (verb : Verb) (m k : Moment) where
  abbrev path : List (List ℕ)
  path = front ++ s ∷ []

  more : met_on h rows p front ≤ met_on h rows p path
  more = met_more rows (counts h rows) front (s ∷ []) p

  pub fails : (e : HamtFault) → GoesInward h rows was 96 p [] p front m (Err e) k → Locates h rows was p path verb m (Err (hamt_fault e)) k
  fails H.Store a = record { answer = a.0; gets = (let own = a.1 in let le = more in omega (arith, own, le)) }
  fails H.Memory a = record { answer = tt; gets = (let le = more in omega (arith, a, le)) }
  fails (H.Block id why) a = absurd a
  fails H.Exhausted a = absurd a
  fails H.NoKey a = absurd a
  fails H.Size a = absurd a
  fails (H.Clash id kept new) a = absurd a

  module _ (i : Inward) (a : GoesInward h rows was 96 p [] p front m (Ok i) k) where
    -- before the last segment
    nowhere_by : (left : List (List ℕ)) (b : Bool) → b ≡ nat_eq (length left) 0 → b ≡ false → left ≡ i.left.now → (n : ℕ) → n ≡ length front - length left → Locates h rows was p path verb m (Err (F.Path n)) k
    nowhere_by [] b e some is n many = absurd (true≢false (sym e ∙ some))
    nowhere_by (y ∷ ys) b e some is n many = record {
      answer = stops_before rows front s p a.0.holder (y ∷ ys) y ys refl (a.0.stops ∙ ap (λ xs. record { part = a.0.holder; left = xs }) (sym is)) verb ∙ ap (λ (z : ℕ). Some z) (sym many);
      gets = (let own = a.1 in let le = more in omega (arith, own, le));
    }

    pub nowhere : (b : Bool) → b ≡ nat_eq (length i.left.now) 0 → b ≡ false → (n : ℕ) → n ≡ length front - length i.left.now → Locates h rows was p path verb m (Err (F.Path n)) k
    nowhere b e some n many = nowhere_by i.left.now b e some refl n many

    -- at the holder of the last segment
    pub nil_by : (b : Bool) → b ≡ nat_eq (length i.left.now) 0 → b ≡ true → i.left.now ≡ []
    nil_by b e none = none_behind i.left.now b e none

    module _ (none : i.left.now ≡ []) where
      there : at rows p front ≡ Some a.0.holder
      there = (stops_tell rows 0 p front).0 ∙ ap (λ (z : Stop). part_along z.part z.left) (a.0.stops ∙ ap (λ xs. record { part = a.0.holder; left = xs }) none)

      pub leads : LeadsTo rows a.0.less a.0.inner i.front i.room a.0.holder
      leads = record { there = a.0.there; inside = a.0.inside; room_is = a.0.room_is }

      pub goes_on : (t : Data) × CanGoOn h rows was a.0.less a.0.inner t root i.hops.items
      goes_on = can_go_on h rows was i.hops.items 96 p a.0.inner a.0.less d root x a.0.hops_are

      whole : path ≡ through i.hops.items ++ (i.front ++ s ∷ [])
      whole =
          ap (λ xs. xs ++ s ∷ []) (a.0.split ∙ ap (λ xs. through i.hops.items ++ (i.front ++ xs)) none ∙ ap (λ xs. through i.hops.items ++ xs) (nil_right i.front))
          ∙ assoc (through i.hops.items) i.front (s ∷ [])

      holder_held : (t : Data) × IsHeld (block_at was) h rows (room_at rows 96 p front) (a.0.holder).0 t (a.0.holder).1
      holder_held = let tests = schemas_have_tests rows x.schema in held_parts (block_at was) h rows tests.0.is_key x.schema tests.1.keys 96 p a.0.holder d front x.held there

      room_left : room_at rows 96 p path ≡ i.room - taken (form_of rows (a.0.holder).0)
      room_left =
          ap (room_at rows 96 p) whole ∙ hops_room rows h was i.hops.items 96 p a.0.inner a.0.less a.0.hops_are (i.front ++ s ∷ []) ∙ room_split rows i.front (s ∷ []) a.0.less a.0.inner a.0.holder a.0.there
          ∙ at_last rows (room_at rows a.0.less a.0.inner i.front) a.0.holder s ∙ ap (λ n. n - taken (form_of rows (a.0.holder).0)) (sym a.0.room_is)

      room_there : (o : Option ℕ) → HasRoom rows (a.0.holder).0 i.room s o → RoomIs rows p path o
      room_there o has = room_is rows x.schema p a.0.holder front s i.room o x.held.fits there (room_at rows 96 p front, holder_held.1.fits) room_left has

      module _ (reads : OnlyReads m k) (n : Moment) where
        within : n.gets ≤ k.gets + counts h rows a.0.holder s → n.gets ≤ m.gets + met_on h rows p path
        within own =
            let first = a.1 in
            let all = ways_split rows (counts h rows) p a.0.holder front (s ∷ []) there in
            omega (arith, own, first, all)

        rose : Rose k.faults n.faults → Rose m.faults n.faults
        rose r = let le = reads.later.faults in omega (arith, r, le)

        pub ends_wrong : (number : ℕ) → number ≡ length front → (e : PathFault) → EndsThere h rows was a.0.less a.0.inner i.front a.0.holder s number verb k (Err e) n → Locates h rows was p path verb m (Err e) n
        ends_wrong number is (F.Path j) z = record { answer = is_nowhere rows front s p a.0.holder there verb z.answer.1 ∙ ap (λ (w : ℕ). Some w) (sym (z.answer.0 ∙ is)); gets = within z.gets }
        ends_wrong number is F.Mismatch z = record { answer = is_kept rows front s p a.0.holder there verb z.answer; gets = within z.gets }
        ends_wrong number is (F.Block id why) z = absurd z.answer
        ends_wrong number is F.Store z = record { answer = rose z.answer; gets = within z.gets }
        ends_wrong number is F.Memory z = record { answer = tt; gets = within z.gets }

        pub ends_there : (number : ℕ) (found : Found) (place : Place) → place.verb ≡ verb → place.hops.items ≡ i.hops.items → place.end ≡ found.end → place.slot ≡ found.slot → place.key_fits ≡ found.key_fits → place.room ≡ found.room → place.hole ≡ found.hole
            → HasRoom rows (a.0.holder).0 i.room s found.room → VerbHole rows a.0.holder s verb found.hole → EndsThere h rows was a.0.less a.0.inner i.front a.0.holder s number verb k (Ok found) n → Locates h rows was p path verb m (Ok place) n
        ends_there number found place b c e f fits nests holed has left_hole z =
            let own = is_allowed rows front s p a.0.holder there verb found.slot z.answer.0 in
            record {
              answer = record {
                verb_is = b;
                allowed = own.allowed;
                may_go = own.may_go;
                inner = a.0.inner;
                less = a.0.less;
                hops_are = subst (λ gs. AreHops h rows was 96 p gs a.0.inner a.0.less) (sym c) a.0.hops_are;
                rest = i.front ++ s ∷ [];
                split = whole ∙ ap (λ gs. through gs ++ (i.front ++ s ∷ [])) (sym c);
                ends = subst (EndsAt h rows was a.0.less a.0.inner (i.front ++ s ∷ [])) (sym e) z.answer.1;
                top = λ end. absurd (some_left i.front s (subst (EndsAt h rows was a.0.less a.0.inner (i.front ++ s ∷ [])) (sym e ∙ end) z.answer.1));
                slot_is = subst (SlotIs rows p path verb) (sym f) own.slot_is;
                room_is = subst (RoomIs rows p path) (sym nests) (room_there found.room has);
                hole_is = subst (HoleIs rows p path verb) (sym holed) (hole_is rows p a.0.holder front s verb found.hole there left_hole);
                key = λ is_key tests. fits ∙ z.answer.2 is_key tests ∙ sym (ap (λ o. option_map_or (λ (l : Holder × List ℕ). key_fits is_key l.0 l.1) o true) (holder_last rows front s p a.0.holder there));
              };
              gets = within z.gets;
            }
