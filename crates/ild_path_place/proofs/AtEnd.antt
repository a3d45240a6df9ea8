-- The end of a path in a block whose value is held.
use Rattle.std.proofs.Common.{◌≡◌, ℕ, ◌+◌, ◌≤◌, List, [], ◌∷◌, ◌++◌, Bool, true, false, true≢false, Option, Some, None, Result, Ok, Err, option_map, refl, ap, sym, ◌∙◌, subst, arith}
use Rattle.std.specs.Prelude.{◌&&◌, IfOk, not, option_and_then}
use Rattle.std.specs.Option.{option_map_or}
use Rattle.std.proofs.lemmas.Option.{none-some, same_Some}
use Rattle.ild_data.specs.Data.{Data}
use Rattle.ild_data.specs.declared.hamt_shape.HamtShape.{HamtShape}
use Rattle.ild_edges.specs.Store.{Moment, block_at}
use Rattle.ild_node_slots.specs.declared.view.NodeView.{NodeView}
use Rattle.ild_open_held.specs.Held.{IsHeld}
use Rattle.ild_open_held_roots.proofs.Entering.{root_front}
use Rattle.ild_path_edits.proofs.RoomTests.{schemas_have_tests}
use Rattle.ild_path_edits.proofs.Stops.{stops_tell}
use Rattle.ild_path_edits.specs.Stop.{Stop, part_along, stopped}
use Rattle.ild_path_held.proofs.Holding.{held_parts}
use Rattle.ild_path_held.specs.HeldEdits.{room_at}
use Rattle.ild_path_inward.proofs.Hamts.{HamtOf, hamt_of, plain_root, room_less}
use Rattle.ild_path_inward.specs.Halts.{HaltsAt}
use Rattle.ild_path_inward.specs.Levels.{CanGo, counts}
use Rattle.ild_path_inward.specs.declared.halt.Halt.{Halt}
use Rattle.ild_path_place.proofs.Holing.{hole_of_front, no_hole_in_front}
use Rattle.ild_path_place.proofs.Lasting.{ends}
use Rattle.ild_path_place.specs.inside.Endings.{CanEndAt, EndsIn, EndsKey, KeyAnswer}
use Rattle.ild_path_place.specs.Holes.{VerbHole}
use Rattle.ild_path_place.specs.inside.Inner.{EndAnswer, EndsThere, LeadsTo}
use Rattle.ild_path_place.specs.Places.{EndsAt}
use Rattle.ild_path_place.specs.Rooms.{HasRoom}
use Rattle.ild_path_place.specs.inside.Slots.{SlotAnswer, part_slot}
use Rattle.ild_path_place.specs.declared.ending.Found.{Found}
use Rattle.ild_path_place.specs.declared.fault.PathFault.{PathFault}
use Rattle.ild_path_place.specs.declared.fault.PathFault.TheVariants as F
use Rattle.ild_path_rules.specs.declared.delete.Refusal.{Refusal}
use Rattle.ild_path_rules.specs.declared.delete.Refusal.TheVariants as R
use Rattle.ild_path_place.specs.declared.verb.Verb.{Verb}
use Rattle.ild_path_place.specs.declared.verb.Verb.TheVariants as V
use Rattle.ild_path_room.proofs.Telling.{view_typed}
use Rattle.ild_schema.specs.declared.def.TypeDef.{TypeDef}
use Rattle.ild_schema.specs.declared.number.Slot.{Slot}
use Rattle.ild_schema.specs.declared.row.Row.{Row}
use Rattle.ild_schema.specs.Slots.{form_of}
use Rattle.ild_schema.specs.Value.{Value, map}
use Rattle.ild_typed.proofs.Judging.{tree_sound}
use Rattle.ild_typed.specs.At.{InSlot, at, seen}
use Rattle.ild_typed.specs.Judged.{is_hole}
use Rattle.ild_typed.specs.OfType.{OfType}
use Rattle.ild_typed.specs.Segment.{part}
use Rattle.ild_typed_fronts.proofs.Pathing.{paths_of_fronts}
use Rattle.ild_typed_fronts.proofs.Seeing.{parts_of_fronts, tables_of_fronts}
use Rattle.ild_typed_fronts.specs.FrontLaws.{AllowsAlike}
use Rattle.ild_typed_fronts.specs.Front.{front as front_of, front_in, in_one_block, is_root}
use Rattle.ild_view.specs.Parts.{IsPartView}
use Rattle.ild_view.specs.Roots.{RootIs, root_in}
use Rattle.ild_view.specs.View.{IsView, slot_of, table_of}
use Rattle.ild_view.specs.declared.view.View.{View}

-- a path that leads to a part stops there
stops_at : (x : Stop) (q : InSlot) → part_along x.part x.left ≡ Some q → x.part ≡ q
stops_at x q e = by x.part x.left e where
  by : (p : InSlot) (left : List (List ℕ)) → part_along p left ≡ Some q → p ≡ q
  by p [] e = same_Some p q e
  by p (s ∷ ss) e = absurd (none-some q e)

-- what was found before
pub room_kept : {E : Type 0} (rows : List Row) (slot : Slot) (room : ℕ) (s : List ℕ) (left : Option ℕ) (r : Result Found E) → IfOk r (λ found. found.room ≡ left) → HasRoom rows slot room s left → IfOk r (λ found. HasRoom rows slot room s found.room)
room_kept rows slot room s left (Ok found) e has = subst (HasRoom rows slot room s) (sym e) has
room_kept rows slot room s left (Err z) e has = tt

pub hole_kept : {E : Type 0} (rows : List Row) (q : InSlot) (s : List ℕ) (verb : Verb) (hole : Bool) (r : Result Found E) → IfOk r (λ found. found.hole ≡ hole) → VerbHole rows q s verb hole → IfOk r (λ found. VerbHole rows q s verb found.hole)
hole_kept rows q s verb hole (Ok found) e has = subst (VerbHole rows q s verb) (sym e) has
hole_kept rows q s verb hole (Err z) e has = tt

in_more : (rows : List Row) (front ss : List (List ℕ)) (p q : InSlot) → at rows p front ≡ Some q → in_one_block rows p front ≡ true → in_one_block rows p (front ++ ss) ≡ in_one_block rows q ss
in_more rows [] ss p q e inside = ap (λ r. in_one_block rows r ss) (same_Some p q e)
in_more rows (t ∷ ts) ss p q e inside = by (is_root rows p) (part (seen rows p) t) e inside (λ r own more. in_more rows ts ss r q own more) where
  by : (b : Bool) (o : Option InSlot) → option_and_then (λ r. at rows r ts) o ≡ Some q → (not b && option_map_or (λ r. in_one_block rows r ts) o true) ≡ true
      → ((r : InSlot) → at rows r ts ≡ Some q → in_one_block rows r ts ≡ true → in_one_block rows r (ts ++ ss) ≡ in_one_block rows q ss) → (not b && option_map_or (λ r. in_one_block rows r (ts ++ ss)) o true) ≡ in_one_block rows q ss
  by true o e inside rest = absurd (true≢false (sym inside))
  by false None e inside rest = absurd (none-some q e)
  by false (Some r) e inside rest = rest r e inside

module _ (h : List ℕ → List ℕ) (rows : List Row) (was : List (List ℕ)) (limit : ℕ) (q : InSlot) (d : Data) (view : View) (x : CanGo h rows was limit q d view) (front : List (List ℕ)) (room : ℕ) (holder : InSlot) (to : LeadsTo rows limit q front room holder)
    (halt : Halt) (halts : (f : Value) → IsView view f → HaltsAt (table_of view) room (slot_of view, f) front halt) where
  abbrev Key : ℕ → List ℕ → Bool
  Key = (schemas_have_tests rows x.schema).0.is_key

  stands : HaltsAt rows room (front_in h rows q) front halt
  stands =
      subst (λ (s : Slot). HaltsAt rows room (s, front_of h rows q.0 q.1) front halt) x.stands.slot
      (subst (λ r. HaltsAt r room (slot_of view, front_of h rows q.0 q.1) front halt) x.stands.table (halts (front_of h rows q.0 q.1) x.stands.view))

  pub holder_view : IsPartView rows (front_in h rows holder) halt.view
  holder_view =
      let there : at rows (front_in h rows q) front ≡ Some (front_in h rows holder) =
      paths_of_fronts h rows Key x.schema (schemas_have_tests rows x.schema).1.keys q front (limit, x.held.fits) to.inside ∙ ap (option_map (front_in h rows)) to.there in
      let stop = stops_at (stopped rows (front_in h rows q) front) (front_in h rows holder) (sym (stops_tell rows 0 (front_in h rows q) front).0 ∙ there) in
      subst (λ (p : InSlot). IsPartView rows p halt.view) stop stands.view

  held : (t : Data) × IsHeld (block_at was) h rows (room_at rows limit q front) holder.0 t holder.1
  held = held_parts (block_at was) h rows Key x.schema (schemas_have_tests rows x.schema).1.keys limit q holder d front x.held to.there

  pub room_low : room ≤ 96
  room_low = let le = room_less rows front limit q in let low = x.low in let e = to.room_is in omega (arith, low, e, le)

  pub of_holder : (s : List ℕ) (o : Option ℕ) → HasRoom rows (slot_of halt.view) room s o → HasRoom rows holder.0 room s o
  of_holder s o has = subst (λ (z : Slot). HasRoom rows z room s o) holder_view.slot has

  -- the hole that is left in the holder, by what is told of its front
  pub hole_there : (s : List ℕ) (verb : Verb) (b : Bool) (form : TypeDef) → form_of rows holder.0 ≡ Some form
      → ((f : Value) → IsView halt.view f → is_hole (form_of (table_of halt.view) (slot_of halt.view)) f ≡ false → VerbHole (table_of halt.view) (slot_of halt.view, f) s verb b) → VerbHole rows holder s verb b
  hole_there s verb b form form_is told =
      let f = front_of h rows holder.0 holder.1 in
      let tests = schemas_have_tests rows x.schema in
      let sound = tree_sound h rows holder.0 holder.1 held.0 held.1.tree in
      let typed : OfType rows holder.0 f =
      subst (λ (z : Slot). OfType rows z f) holder_view.slot (subst (λ r. OfType r (slot_of halt.view) f) holder_view.table (view_typed halt.view f holder_view.view)) in
      let own : is_hole (form_of rows holder.0) f ≡ false → VerbHole rows (front_in h rows holder) s verb b =
      subst (λ (z : Slot). is_hole (form_of rows z) f ≡ false → VerbHole rows (z, f) s verb b) holder_view.slot
      (subst (λ r. is_hole (form_of r (slot_of halt.view)) f ≡ false → VerbHole r (slot_of halt.view, f) s verb b) holder_view.table (told f holder_view.view)) in
      hole_of_front h rows tests.0.is_key tests.1.keys holder (room_at rows limit q front, held.1.fits) typed sound.0 sound.1 s form form_is verb b
      (own (no_hole_in_front h rows holder.0 holder.1 form form_is sound.1))

  -- ---- at a HAMT

  is_hamt : (w : Option HamtShape) (n : NodeView) (b : Bool) → is_root rows holder ≡ b → RootIs w (root_in (front_of h rows holder.0 holder.1)) (Some n) → is_root rows holder ≡ true
  is_hamt w n true e root = e
  is_hamt w n false e root = absurd (subst (λ o. RootIs w o (Some n)) (plain_root h rows holder.0 holder.1 e) root)

  module _ (w : Option HamtShape) (n : NodeView) (roots : (f : Value) → IsView halt.view f → RootIs w (root_in f) (Some n)) where
    root : is_root rows holder ≡ true
    root = is_hamt w n (is_root rows holder) refl (roots (front_of h rows holder.0 holder.1) holder_view.view)

    slot : holder.0 ≡ slot_of halt.view
    slot = sym holder_view.slot

    pub can_end_at : CanEndAt h rows was limit q front room halt.view
    can_end_at =
        let m = hamt_of h rows holder.0 holder.1 held.0 held.1.tree root in
        let le = room_less rows front limit q in
        let low = x.low in
        let e = to.room_is in
        let is : holder ≡ (slot_of halt.view, map m.pairs) = (λ i. (slot i, m.is i)) in
        record {
          elem = m.elem;
          ps = m.pairs;
          tree = held.0;
          schema = x.schema;
          low = omega (arith, le, low, e);
          stands = subst (IsView halt.view) (root_front h rows holder.0 holder.1 held.0 held.1.tree root) holder_view.view;
          entered = record { inside = to.inside; at = to.there ∙ ap (λ (p : InSlot). Some p) is; hamt = subst (λ (s : Slot). HamtOf rows s m.elem) slot m.type };
          held = subst (λ (p : InSlot). IsHeld (block_at was) h rows room p.0 held.0 p.1) is (subst (λ i. IsHeld (block_at was) h rows i holder.0 held.0 holder.1) (sym to.room_is) held.1);
          room_is = to.room_is;
        }

    same_holder : (slot_of halt.view, map can_end_at.ps) ≡ holder
    same_holder = same_Some (slot_of halt.view, map can_end_at.ps) holder (sym can_end_at.entered.at ∙ to.there)

    key_ends : (s : List ℕ) (k : ℕ) (verb : Verb) (m n : Moment) (r : Result Found PathFault) → KeyAnswer h rows was limit q front s k verb holder m r n → EndAnswer h rows was limit q front holder s k verb m r n
    key_ends s k verb m n (Ok found) a = (
      a.0,
      subst (EndsAt h rows was limit q (front ++ s ∷ [])) (sym a.1.2) ((a.1.4, ap (λ i. front ++ i ∷ []) (sym a.1.3))),
      a.2,
    )
    key_ends s k verb m n (Err (F.Path i)) a = a
    key_ends s k verb m n (Err F.Mismatch) a = a
    key_ends s k verb m n (Err (F.Block id why)) a = a
    key_ends s k verb m n (Err F.Store) a = a
    key_ends s k verb m n (Err F.Memory) a = a

    pub ends_at_key : (s : List ℕ) (k : ℕ) (verb : Verb) (m n : Moment) (r : Result Found PathFault) → EndsKey h rows was limit q front room halt.view can_end_at s k verb m r n → EndsThere h rows was limit q front holder s k verb m r n
    ends_at_key s k verb m n r a = record {
      answer = key_ends s k verb m n r (subst (λ (p : InSlot). KeyAnswer h rows was limit q front s k verb p m r n) same_holder a.0);
      gets = subst (λ (p : InSlot). n.gets ≤ m.gets + counts h rows p s) same_holder a.1;
    }

  -- ---- at another holder

  no_hamt : (w : Option HamtShape) (b : Bool) → is_root rows holder ≡ b → RootIs w (root_in (front_of h rows holder.0 holder.1)) None → is_root rows holder ≡ false
  no_hamt w false e none = e
  no_hamt w true e none = absurd (subst (λ (f : Value). RootIs w (root_in f) None) (root_front h rows holder.0 holder.1 held.0 held.1.tree e) none)

  module _ (w : Option HamtShape) (roots : (f : Value) → IsView halt.view f → RootIs w (root_in f) None) where
    plain : is_root rows holder ≡ false
    plain = no_hamt w (is_root rows holder) refl (roots (front_of h rows holder.0 holder.1) holder_view.view)

    module _ (s : List ℕ) where
      alike : AllowsAlike Key rows holder (front_in h rows holder) s
      alike = tables_of_fronts h rows Key x.schema (schemas_have_tests rows x.schema).1.keys holder s (room_at rows limit q front, held.1.fits) plain

      part_front : part (seen rows (front_in h rows holder)) s ≡ option_map (front_in h rows) (part (seen rows holder) s)
      part_front = parts_of_fronts h rows Key x.schema (schemas_have_tests rows x.schema).1.keys holder s (room_at rows limit q front, held.1.fits) plain

      slots_same : (o : Option InSlot) → option_map (λ (r : InSlot). r.0) (option_map (front_in h rows) o) ≡ option_map (λ (r : InSlot). r.0) o
      slots_same None = refl
      slots_same (Some r) = refl

      part_same : part_slot rows (front_in h rows holder) s ≡ part_slot rows holder s
      part_same = ap (option_map (λ (r : InSlot). r.0)) part_front ∙ slots_same (part (seen rows holder) s)

      of_value : (verb : Verb) (r : Result Slot Refusal) → SlotAnswer rows (front_in h rows holder) s verb r → SlotAnswer rows holder s verb r
      of_value V.Set (Ok there) a = sym alike.set ∙ a
      of_value V.Set (Err R.Path) a = sym alike.set ∙ a
      of_value V.Set (Err R.Mismatch) a = a
      of_value V.Ins (Ok there) a = sym alike.inserted ∙ a
      of_value V.Ins (Err R.Path) a = sym alike.inserted ∙ a
      of_value V.Ins (Err R.Mismatch) a = a
      of_value V.Del (Ok there) a = (sym alike.deleted ∙ a.0, sym part_same ∙ a.1)
      of_value V.Del (Err refusal) a = sym alike.deleted ∙ a

      last_inside : (o : Option InSlot) → option_map_or (λ (r : InSlot). in_one_block rows r []) o true ≡ true
      last_inside None = refl
      last_inside (Some r) = refl

      inside : in_one_block rows q (front ++ s ∷ []) ≡ true
      inside = in_more rows front (s ∷ []) q holder to.there to.inside ∙ ap (λ b. not b && option_map_or (λ (r : InSlot). in_one_block rows r []) (part (seen rows holder) s) true) plain ∙ last_inside (part (seen rows holder) s)

      block_ends : (k : ℕ) (verb : Verb) (m n : Moment) (r : Result Found PathFault) → EndsIn rows (front_in h rows holder) front s k verb r → EndAnswer h rows was limit q front holder s k verb m r n
      block_ends k verb m n (Ok found) a = (
        of_value verb (Ok found.slot) a.0,
        subst (EndsAt h rows was limit q (front ++ s ∷ [])) (sym a.1) (refl, inside, (let e = ends rows front s in (e.first, e.more, e.is))),
        (λ is_key tests. a.2 is_key tests ∙ (tables_of_fronts h rows is_key x.schema tests holder s (room_at rows limit q front, held.1.fits) plain).key),
      )
      block_ends k verb m n (Err (F.Path i)) a = (a.0, of_value verb (Err R.Path) a.1)
      block_ends k verb m n (Err F.Mismatch) a = of_value verb (Err R.Mismatch) a
      block_ends k verb m n (Err (F.Block id why)) a = absurd a
      block_ends k verb m n (Err F.Store) a = absurd a
      block_ends k verb m n (Err F.Memory) a = tt

      pub ends_in_block : (k : ℕ) (verb : Verb) (m n : Moment) (r : Result Found PathFault) → n ≡ m → ((f : Value) → IsView halt.view f → EndsIn (table_of halt.view) (slot_of halt.view, f) front s k verb r) → EndsThere h rows was limit q front holder s k verb m r n
      ends_in_block k verb m n r same all =
          let f = front_of h rows holder.0 holder.1 in
          let own : EndsIn rows (front_in h rows holder) front s k verb r =
          subst (λ (z : Slot). EndsIn rows (z, f) front s k verb r) holder_view.slot (subst (λ t. EndsIn t (slot_of halt.view, f) front s k verb r) holder_view.table (all f holder_view.view)) in
          let gets : n.gets ≡ m.gets = ap (λ (o : Moment). o.gets) same in
          record { answer = block_ends k verb m n r own; gets = omega (arith, gets) }
