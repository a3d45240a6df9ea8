-- The room that is left along a path, through HAMTs, and at the holder of its last segment.
use Rattle.std.proofs.Common.{◌≡◌, ◌-◌, ℕ, ◌+◌, List, [], ◌∷◌, ◌++◌, Option, Some, None, option_map, refl, ap, sym, ◌∙◌, subst, arith}
use Rattle.std.specs.Prelude.{option_and_then}
use Rattle.std.specs.Option.{option_map_or}
use Rattle.std.proofs.lemmas.Option.{none-some, same_Some}
use Rattle.ild_data.specs.Key.{value_at}
use Rattle.ild_path_edits.specs.Along.{room_below, taken}
use Rattle.ild_path_held.specs.HeldEdits.{room_at}
use Rattle.ild_path_hops.specs.Hops.{AreHops, IsHop, front_of, key_of}
use Rattle.ild_path_hops.specs.declared.hop.Hop.{Hop}
use Rattle.ild_path_inward.specs.Inwards.{through}
use Rattle.ild_path_nodes.specs.NodeLaws.{IsHamt}
use Rattle.ild_path_place.proofs.Lasting.{ends, holder_last}
use Rattle.ild_path_place.specs.Places.{holder_of_path}
use Rattle.ild_path_place.specs.Rooms.{FormRoom, HasRoom, RoomIs}
use Rattle.ild_path_room.proofs.Telling.{key_is, room_tells}
use Rattle.ild_path_room.specs.Room.{FormKeyFits, HasPlace, IsRoom, TellsRoom, room_left}
use Rattle.ild_schema.specs.declared.def.TypeDef.{TypeDef}
use Rattle.ild_schema.specs.declared.number.Slot.{Slot}
use Rattle.ild_schema.specs.declared.row.Row.{Row}
use Rattle.ild_schema.specs.Slots.{form_of}
use Rattle.ild_schema.specs.Value.{Value, Pairs, map, pairs_list}
use Rattle.ild_typed.specs.At.{InSlot, at, seen}
use Rattle.ild_typed.specs.Fits.{Fits}
use Rattle.ild_typed.specs.Holder.{Holder, map_holder}
use Rattle.ild_typed.specs.OfType.{OfType}
use Rattle.ild_typed.specs.Schema.{IsSchema}
use Rattle.ild_typed.specs.Segment.{part}

assoc : (xs ys zs : List (List ℕ)) → (xs ++ ys) ++ zs ≡ xs ++ (ys ++ zs)
assoc [] ys zs = refl
assoc (x ∷ xs) ys zs = ap (λ ws. x ∷ ws) (assoc xs ys zs)

module _ (rows : List Row) where
  -- ---- along a path

  split_by : (room : ℕ) (q : InSlot) (ts ys : List (List ℕ)) (o : Option InSlot) → option_and_then (λ r. at rows r ts) o ≡ Some q
      → ((r : InSlot) → at rows r ts ≡ Some q → room_at rows room r (ts ++ ys) ≡ room_at rows (room_at rows room r ts) q ys)
      → option_map_or (λ r. room_at rows room r (ts ++ ys)) o room ≡ room_at rows (option_map_or (λ r. room_at rows room r ts) o room) q ys
  split_by room q ts ys None e rest = absurd (none-some q e)
  split_by room q ts ys (Some r) e rest = rest r e

  pub room_split : (xs ys : List (List ℕ)) (room : ℕ) (p q : InSlot) → at rows p xs ≡ Some q → room_at rows room p (xs ++ ys) ≡ room_at rows (room_at rows room p xs) q ys
  room_split [] ys room p q e = ap (λ r. room_at rows room r ys) (same_Some p q e)
  room_split (t ∷ ts) ys room p q e = split_by (room_below rows room p t) q ts ys (part (seen rows p) t) e (λ r own. room_split ts ys (room_below rows room p t) r q own)

  same_rooms : (path : List (List ℕ)) (room : ℕ) (p : InSlot) → room_left rows room p path ≡ room_at rows room p path
  same_rooms [] room p = refl
  same_rooms (s ∷ ss) room p = (λ i. option_map_or (λ q. same_rooms ss (room_below rows room p s) q i) (part (seen rows p) s) (room_below rows room p s))

  one_by : (n : ℕ) (o : Option InSlot) → option_map_or (λ (q : InSlot). n) o n ≡ n
  one_by n None = refl
  one_by n (Some q) = refl

  pub at_last : (room : ℕ) (q : InSlot) (s : List ℕ) → room_at rows room q (s ∷ []) ≡ room - taken (form_of rows q.0)
  at_last room q s = one_by (room_below rows room q s) (part (seen rows q) s)

  -- ---- through a HAMT

  part_there : (slot elem : Slot) (ps : Pairs) (is : IsHamt rows slot elem) (k : List ℕ) (w : Value) → value_at k (pairs_list ps) ≡ Some w → part (seen rows (slot, map ps)) k ≡ Some (elem, w)
  part_there slot elem ps is k w e = ap (λ G. part (map_holder G ps) k) is.4 ∙ ap (option_map (λ v. (elem, v))) e

  entry_room : (slot elem : Slot) (ps : Pairs) (is : IsHamt rows slot elem) (k : List ℕ) (w : Value) → value_at k (pairs_list ps) ≡ Some w → (room : ℕ) (rest : List (List ℕ))
      → room_at rows (room + 5) (slot, map ps) (k ∷ rest) ≡ room_at rows room (elem, w) rest
  entry_room slot elem ps is k w e room rest =
      let n = room_below rows (room + 5) (slot, map ps) k in
      let below : n ≡ room = ap (λ (o : Option TypeDef). (room + 5) - taken o) is.4 ∙ omega arith in
      ap (λ o. option_map_or (λ q. room_at rows n q rest) o n) (part_there slot elem ps is k w e) ∙ ap (λ i. room_at rows i (elem, w) rest) below

  module _ (h : List ℕ → List ℕ) (was : List (List ℕ)) where
    hop_room : (room : ℕ) (p : InSlot) (hop : Hop) (q : InSlot) (less : ℕ) → IsHop h rows was room p hop q less → (rest : List (List ℕ)) → room_at rows room p (front_of hop ++ (key_of hop ∷ rest)) ≡ room_at rows less q rest
    hop_room room p hop q less x rest =
        room_split (front_of hop) (key_of hop ∷ rest) room p (x.slot, map x.ps) x.entered.at ∙ ap (λ n. room_at rows n (x.slot, map x.ps) (key_of hop ∷ rest)) x.left
        ∙ entry_room x.slot q.0 x.ps x.entered.hamt (key_of hop) q.1 x.value less rest

    pub hops_room : (hops : List Hop) (room : ℕ) (p q : InSlot) (less : ℕ) → AreHops h rows was room p hops q less → (rest : List (List ℕ)) → room_at rows room p (through hops ++ rest) ≡ room_at rows less q rest
    hops_room [] room p q less x rest = (λ i. room_at rows (x.1 i) (x.0 i) rest)
    hops_room (hop ∷ hops) room p q less x rest =
        ap (room_at rows room p) (assoc (front_of hop) (key_of hop ∷ through hops) rest) ∙ hop_room room p hop x.0 x.1 x.2 (through hops ++ rest) ∙ hops_room hops x.1 x.0 q less x.3 rest

  -- ---- at the holder of the last segment

  is_room : (q : InSlot) (s : List ℕ) (room target : ℕ) (d : TypeDef) → form_of rows q.0 ≡ Some d → OfType rows q.0 q.1 → HasPlace (seen rows q) s → target ≡ room - taken (Some d) → (o : Option ℕ) → FormRoom rows d room s o → IsRoom rows target (seen rows q) s o
  is_room q s room target d form typed free same None is = λ k. is (subst (λ n. FormKeyFits rows n d s) same ((key_is rows target q.0 q.1 d s typed form free).1 k))
  is_room q s room target d form typed free same (Some n) is =
      let so : n ≡ target = is.0 ∙ sym same in
      (so, (key_is rows target q.0 q.1 d s typed form free).0 (subst (λ i. FormKeyFits rows i d s) so is.1))

  -- the holder of the last segment, behind the HAMTs
  pub room_is : (schema : IsSchema rows) (p holder : InSlot) (front : List (List ℕ)) (s : List ℕ) (room : ℕ) (o : Option ℕ) → Fits rows 96 p.0 p.1 → at rows p front ≡ Some holder → OfType rows holder.0 holder.1
      → room_at rows 96 p (front ++ s ∷ []) ≡ room - taken (form_of rows holder.0) → HasRoom rows holder.0 room s o → RoomIs rows p (front ++ s ∷ []) o
  room_is schema p holder front s room o fits there typed left has =
      let x = ends rows front s in
      let path = front ++ s ∷ [] in
      let target = room_left rows 96 p path in
      let same : target ≡ room - taken (Some has.form) = same_rooms path 96 p ∙ left ∙ ap (λ d. room - taken d) has.form_is in
      let tells : TellsRoom rows 96 p path o = room_tells rows schema 96 p path o fits (λ t ts l e last free.
      let own : (seen rows holder, s) ≡ l = same_Some (seen rows holder, s) l (sym (holder_last rows front s p holder there) ∙ ap (holder_of_path rows p) e ∙ last) in
      subst (λ (k : Holder × List ℕ). IsRoom rows target k.0 k.1 o) own
      (is_room holder s room target has.form has.form_is typed (subst (λ (k : Holder × List ℕ). HasPlace k.0 k.1) (sym own) free) same o has.is)) in
      subst (λ (ys : List (List ℕ)). RoomIs rows p ys o) (sym x.is) (subst (λ (ys : List (List ℕ)). TellsRoom rows 96 p ys o) x.is tells)
