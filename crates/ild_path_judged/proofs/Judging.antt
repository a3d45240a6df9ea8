-- What is asked of a changed value is asked of the part that comes, and of the last holder.
use Rattle.std.proofs.Common.{◌≡◌, ℕ, List, [], ◌∷◌, Bool, true, false, ◌||◌, Option, Some, None, refl, ap, sym, subst, ◌∙◌}
use Rattle.std.specs.Prelude.{◌↔◌, IsUtf8, Result, Ok, option_and_then}
use Rattle.std.specs.List.{AllByRecursion}
use Rattle.std.specs.Option.{option_map_or}
use Rattle.std.proofs.lemmas.Option.{same_Some, none-some}
use Rattle.ild_data.specs.Data.{Data}
use Rattle.ild_schema.proofs.Legibly.{legible}
use Rattle.ild_schema.specs.declared.def.TypeDef.{TypeDef}
use Rattle.ild_schema.specs.declared.number.Slot.{Slot}
use Rattle.ild_schema.specs.declared.row.Row.{Row}
use Rattle.ild_schema.specs.Slots.{form_of}
use Rattle.ild_schema.specs.Value as V
use Rattle.ild_schema.specs.Value.{Value}
use Rattle.ild_script.specs.declared.reply.No.{No}
use Rattle.ild_typed.specs.At.{InSlot, seen, last_holder, changed_in}
use Rattle.ild_typed.specs.Fits.{Fits}
use Rattle.ild_typed.specs.Hamt.{whole}
use Rattle.ild_typed.specs.Holder.{Holder, fields, member, entries, elements, any_entries, any_elements, nothing, value_of}
use Rattle.ild_typed.specs.Judged.{is_hole, breaks, has_hole, breaks_delimiter, is_exhausted, exhausts}
use Rattle.ild_typed.specs.OfType.{OfType, TestsKeys}
use Rattle.ild_typed.specs.Represented.{represented}
use Rattle.ild_typed.specs.Schema.{IsSchema}
use Rattle.ild_typed.specs.Segment.{part, set_part}
use Rattle.ild_typed.proofs.Judging.{tree_sound}
use Rattle.ild_value_meaning.proofs.Told.{told}
use Rattle.ild_path_edits.specs.Along.{IsFree, LayerPasses}
use Rattle.ild_path_edits.specs.Edit.{del_at, path_of, new_slot, set_in, ins_in, del_in, change}
use Rattle.ild_path_edits.specs.Table.{slot_to_set, slot_to_insert, key_fits, MayStand, insert_part, refusal_to_delete, delete_part}
use Rattle.ild_path_edits.proofs.HeldTyped.{IsBare}
use Rattle.ild_path_edits.proofs.Paths.{may_stand, last_text, placed_typed, kept_typed, set_typed, inserted_typed, deleted_typed}
use Rattle.ild_path_edits.proofs.Holders.{set_part-seen}
use Rattle.ild_path_edits.proofs.Seen.{insert_part-seen, delete_part-seen}
use Rattle.ild_path_changes.specs.LiftLaws.{of_values}
use Rattle.ild_path_changes.proofs.HaveTrees.{has_trees}
use Rattle.ild_path_changes.proofs.Represented.{represents}
use Rattle.ild_path_room.specs.Room.{Coming, by_set, by_insert, slot_for, brought, FitsIn}
use Rattle.ild_path_room.proofs.AlongPaths.{deleted_fits}
use Rattle.ild_path_judged.specs.Place.{bringing, made_by, made_at, last_in, last_of}
use Rattle.ild_path_judged.specs.Laws.{IsSound, IsJudgedBy, ComingIsJudged, IsJudgedWithout, GoingIsJudged}
use Rattle.ild_path_judged.proofs.Along.{last_seen, at_last, down, up}
use Rattle.ild_path_judged.proofs.Filled.{no_map, steady_full, gone_full}
use Rattle.ild_path_judged.proofs.Holes.{no_hole, steady_hole}
use Rattle.ild_path_judged.proofs.Last.{Of, kept, HeldBy, held_of, held_as, parts_of, came, went}

-- ---- tests as Bools

-- one test where both of two are none
or_is : (a b c : Bool) → (a ≡ false) ↔ ((b ≡ false) × (c ≡ false)) → a ≡ (c || b)
or_is true true true h = refl
or_is true false true h = refl
or_is true true false h = refl
or_is true false false h = h.1 (refl, refl)
or_is false true c h = absurd (wrong (h.0 refl).0)
  where
    wrong : true ≡ false → ⊥
    wrong e = absurd cc
or_is false false true h = absurd (wrong (h.0 refl).1)
  where
    wrong : true ≡ false → ⊥
    wrong e = absurd cc
or_is false false false h = refl

same_bool : (a b : Bool) → (a ≡ false) ↔ (b ≡ false) → a ≡ b
same_bool true true h = refl
same_bool true false h = h.1 refl
same_bool false true h = sym (h.0 refl)
same_bool false false h = refl

pub or_none : (a : Bool) → a ≡ (a || false)
or_none true = refl
or_none false = refl

-- a test that is passed on
passed_on : (a b : Bool) → (b ≡ false → a ≡ false) → a ≡ true → b ≡ true
passed_on a true h e = refl
passed_on a false h e = sym (h refl) ∙ e

-- a value that holds no parts of a type
abbrev IsPlain : Value → Type 0
IsPlain (V.list vs) = ⊥
IsPlain (V.map ps) = ⊥
IsPlain (V.struct os) = ⊥
IsPlain (V.union n v) = ⊥
IsPlain v = Unit {0}

bare_plain : (v : Value) → IsBare v → IsPlain v
bare_plain V.null t = tt
bare_plain (V.boolean b) t = tt
bare_plain (V.integer n) t = tt
bare_plain (V.text s) t = tt
bare_plain (V.bytes s) t = tt
bare_plain (V.link s) t = tt
bare_plain (V.list vs) t = t
bare_plain (V.map ps) t = t
bare_plain (V.struct os) t = t
bare_plain (V.union n v) t = t
bare_plain (V.enum n) t = tt
bare_plain V.unit t = tt
bare_plain (V.any d) t = tt
bare_plain (V.hamt d) t = tt

plain_hole : (F : Option TypeDef) (v : Value) → IsPlain v → is_hole F v ≡ false
plain_hole F (V.list vs) t = absurd t
plain_hole F (V.map ps) t = absurd t
plain_hole F (V.struct os) t = absurd t
plain_hole F (V.union n v) t = absurd t
plain_hole F V.null t = no_hole F V.null tt
plain_hole F (V.boolean b) t = no_hole F (V.boolean b) tt
plain_hole F (V.integer n) t = no_hole F (V.integer n) tt
plain_hole F (V.text s) t = no_hole F (V.text s) tt
plain_hole F (V.bytes s) t = no_hole F (V.bytes s) tt
plain_hole F (V.link s) t = no_hole F (V.link s) tt
plain_hole F (V.enum n) t = no_hole F (V.enum n) tt
plain_hole F V.unit t = no_hole F V.unit tt
plain_hole F (V.any d) t = no_hole F (V.any d) tt
plain_hole F (V.hamt d) t = no_hole F (V.hamt d) tt

plain_full : (h : List ℕ → List ℕ) (rows : List Row) (F : Option TypeDef) (v : Value) → IsPlain v → is_exhausted h rows F v ≡ false
plain_full h rows F (V.list vs) t = absurd t
plain_full h rows F (V.map ps) t = absurd t
plain_full h rows F (V.struct os) t = absurd t
plain_full h rows F (V.union n v) t = absurd t
plain_full h rows F V.null t = no_map h rows F V.null tt
plain_full h rows F (V.boolean b) t = no_map h rows F (V.boolean b) tt
plain_full h rows F (V.integer n) t = no_map h rows F (V.integer n) tt
plain_full h rows F (V.text s) t = no_map h rows F (V.text s) tt
plain_full h rows F (V.bytes s) t = no_map h rows F (V.bytes s) tt
plain_full h rows F (V.link s) t = no_map h rows F (V.link s) tt
plain_full h rows F (V.enum n) t = no_map h rows F (V.enum n) tt
plain_full h rows F V.unit t = no_map h rows F V.unit tt
plain_full h rows F (V.any d) t = no_map h rows F (V.any d) tt
plain_full h rows F (V.hamt d) t = no_map h rows F (V.hamt d) tt

module _ (h : List ℕ → List ℕ) (rows : List Row) (is_key : ℕ → List ℕ → Bool) (schema : IsSchema rows) (keys : TestsKeys rows is_key) where
  abbrev OfT : InSlot → Type 0
  OfT p = OfType rows p.0 p.1

  -- a value of its type with data
  abbrev Whole : InSlot → Type 0
  Whole p = OfT p × ((d : Data) × (represented (whole h) rows p.0 p.1 ≡ Some d))

  whole_typed : (p : InSlot) → Whole p → Of rows is_key schema keys p
  whole_typed p w = w.0

  whole_part : (p q : InSlot) (s : List ℕ) → Whole p → part (seen rows p) s ≡ Some q → Whole q
  whole_part p q s w e =
      let k = kept rows is_key schema keys in
      let r = represents rows is_key (told rows schema).apart (told rows schema).any_there keys (legible rows schema.accepted).clear (whole h) (has_trees (whole h) rows (of_values h refl) schema.table.texts.spelled) k in
      let d = r.parts p q s (w.1).0 w.0 e (w.1).1 in
      (k.parts p q s w.0 e, (d.0, d.1))

  -- a holder passes a test exactly where its value does
  passes_is : (test : Option TypeDef → Value → Bool) → ((F : Option TypeDef) (v : Value) → IsPlain v → test F v ≡ false) → (slot : Slot) (k : Holder) → HeldBy rows is_key schema keys slot k
      → LayerPasses test rows slot k ↔ (test (form_of rows slot) (value_of k) ≡ false)
  passes_is test quiet slot (fields fs os) t = (λ x. x, λ x. x)
  passes_is test quiet slot (member ms n v) t = (λ x. x, λ x. x)
  passes_is test quiet slot (entries key elem paired ps) t = (λ x. x, λ x. x)
  passes_is test quiet slot (elements elem vs) t = (λ x. x, λ x. x)
  passes_is test quiet slot (any_entries ms) t = (λ x. quiet (form_of rows slot) (value_of (any_entries ms)) tt, λ x. tt)
  passes_is test quiet slot (any_elements ds) t = (λ x. quiet (form_of rows slot) (value_of (any_elements ds)) tt, λ x. tt)
  passes_is test quiet slot (nothing v) t = (λ x. quiet (form_of rows slot) v (bare_plain v t.1), λ x. tt)

  abbrev Steady : (Option TypeDef → Value → Bool) → Type 0
  Steady test = (p q : InSlot) (s : List ℕ) (c : Value) → Whole p → IsFree test rows p.0 p.1 → part (seen rows p) s ≡ Some q → OfT (q.0, c) → LayerPasses test rows p.0 (set_part (seen rows p) s c)

  hole_steady : Steady is_hole
  hole_steady p q s c w free e new = steady_hole rows p.0 (seen rows p) s q c (parts_of rows is_key schema keys is_hole p.0 p.1 w.0 free).0 e

  full_steady : Steady (is_exhausted h rows)
  full_steady p q s c w free e new =
      steady_full h rows is_key schema keys p.0 p.1 (w.1).0 (seen rows p) s q c (w.1).1 refl (held_of rows is_key schema keys p.0 p.1 w.0) (parts_of rows is_key schema keys (is_exhausted h rows) p.0 p.1 w.0 free).0 e

  -- ---- a part that comes to the end of a path

  module _ (how : Coming) (p : InSlot) (s : List ℕ) (ss : List (List ℕ)) (slot : Slot) (w : Value) (is : Whole p) (m : InSlot × List ℕ) (last : last_in rows p s ss ≡ Some m)
      (there : slot_for how (seen rows m.0) m.1 ≡ Some slot) (stands : MayStand is_key (seen rows m.0) m.1) (new : OfType rows slot w) where
    abbrev C : Value
    C = changed_in rows (brought how w) p s ss

    abbrev K : Holder
    K = brought how w (seen rows m.0) m.1

    typed_by : (how : Coming) → slot_for how (seen rows m.0) m.1 ≡ Some slot → (q : InSlot) → OfT q → seen rows q ≡ seen rows m.0 → OfType rows q.0 (value_of (brought how w (seen rows m.0) m.1))
    typed_by by_set e q is same = set_typed rows is_key (λ slot v. OfType rows slot v) (kept rows is_key schema keys) (seen rows m.0, m.1) slot w e stands new q is same
    typed_by by_insert e q is same = inserted_typed rows is_key (λ slot v. OfType rows slot v) (kept rows is_key schema keys) (seen rows m.0, m.1) slot w e stands new q is same

    at_m : (test : Option TypeDef → Value → Bool) → IsFree test rows p.0 p.1 → Whole m.0 × IsFree test rows (m.0).0 (m.0).1
    at_m test free = at_last rows is_key schema keys test Whole whole_typed whole_part ss p s m is free last

    held_by : (how : Coming) → OfType rows (m.0).0 (value_of (brought how w (seen rows m.0) m.1)) → HeldBy rows is_key schema keys (m.0).0 (brought how w (seen rows m.0) m.1)
    held_by by_set t = held_as rows is_key schema keys (m.0).0 (set_part (seen rows m.0) m.1 w) (set_part-seen rows (m.0).0 (m.0).1 m.1 w) t
    held_by by_insert t = held_as rows is_key schema keys (m.0).0 (insert_part (seen rows m.0) m.1 w) (insert_part-seen rows (m.0).0 (m.0).1 m.1 w) t

    came_at : (test : Option TypeDef → Value → Bool) → IsFree test rows p.0 p.1 → IsFree test rows (m.0).0 (value_of K) ↔ (LayerPasses test rows (m.0).0 K × IsFree test rows slot w)
    came_at test free = let x = at_m test free in came rows is_key schema keys test how m.0 m.1 slot w (x.0).0 x.1 there stands new

    came_down : (test : Option TypeDef → Value → Bool) → IsFree test rows p.0 p.1 → IsFree test rows p.0 C → IsFree test rows slot w
    came_down test free c = ((came_at test free).0 (down rows is_key schema keys test Whole whole_typed whole_part (brought how w) m (λ q it same. typed_by how there q it same) ss p s is free last c)).1

    came_is : (test : Option TypeDef → Value → Bool) → ((F : Option TypeDef) (v : Value) → IsPlain v → test F v ≡ false) → Steady test → IsFree test rows p.0 p.1
        → (IsFree test rows p.0 C) ↔ ((test (form_of rows (m.0).0) (value_of K) ≡ false) × IsFree test rows slot w)
    came_is test quiet steady free =
        let typed = λ (q : InSlot) (it : OfT q) (same : seen rows q ≡ seen rows m.0). typed_by how there q it same in
        let x = came_at test free in
        let own = passes_is test quiet (m.0).0 K (held_by how (typed m.0 ((at_m test free).0).0 refl)) in (
          λ c. let y = x.0 (down rows is_key schema keys test Whole whole_typed whole_part (brought how w) m typed ss p s is free last c) in (own.0 y.0, y.1),
          λ t. up rows is_key schema keys test Whole whole_typed whole_part (brought how w) m typed steady ss p s is free last (x.1 (own.1 t.0, t.1)),
        )

  made_is : (how : Coming) (path : List (List ℕ)) (w : Value) (k : Holder) (s : List ℕ) → made_by (bringing how path w) k s ≡ brought how w k s
  made_is by_set path w k s = refl
  made_is by_insert path w k s = refl

  path_is : (how : Coming) (path : List (List ℕ)) (w : Value) → path_of (bringing how path w) ≡ path
  path_is by_set path w = refl
  path_is by_insert path w = refl

  -- what the place tells, by its last holder
  told_at : (test : Option TypeDef → Value → Bool) (how : Coming) (p : InSlot) (s : List ℕ) (ss : List (List ℕ)) (w : Value) (m : InSlot × List ℕ) → last_in rows p s ss ≡ Some m
      → option_map_or (λ l. test (form_of rows (l.0).0) (made_at rows (bringing how (s ∷ ss) w) l)) (last_of rows p (path_of (bringing how (s ∷ ss) w))) false
      ≡ test (form_of rows (m.0).0) (value_of (brought how w (seen rows m.0) m.1))
  told_at test how p s ss w m last =
      (λ i. option_map_or (λ l. test (form_of rows (l.0).0) (made_at rows (bringing how (s ∷ ss) w) l)) (last_of rows p (path_is how (s ∷ ss) w i)) false)
      ∙ ap (λ o. option_map_or (λ l. test (form_of rows (l.0).0) (made_at rows (bringing how (s ∷ ss) w) l)) o false) last
      ∙ ap (λ k. test (form_of rows (m.0).0) (value_of k)) (made_is how (s ∷ ss) w (seen rows m.0) m.1)

  module _ (limit : ℕ) (p : InSlot) (sound : IsSound h rows limit p) where
    it : Whole p
    it = ((limit, sound.fits), (sound.tree, sound.represents))

    free : (IsFree is_hole rows p.0 p.1) × (IsFree (breaks rows) rows p.0 p.1) × (IsFree (is_exhausted h rows) rows p.0 p.1)
    free = let x = tree_sound h rows p.0 p.1 sound.tree sound.represents in (x.1, x.2, x.3)

    coming_at : (how : Coming) (s : List ℕ) (ss : List (List ℕ)) (slot : Slot) (w : Value) (l : Holder × List ℕ) → last_holder rows p s ss ≡ Some l → slot_for how l.0 l.1 ≡ Some slot → MayStand is_key l.0 l.1 → OfType rows slot w
        → IsJudgedBy h rows limit p how (s ∷ ss) slot w (changed_in rows (brought how w) p s ss)
    coming_at how s ss slot w l last there stands new =
        let m = last_seen rows p s ss l last in
        let there' = subst (λ (k : Holder × List ℕ). slot_for how k.0 k.1 ≡ Some slot) (sym m.2) there in
        let stands' = subst (λ (k : Holder × List ℕ). MayStand is_key k.0 k.1) (sym m.2) stands in
        record {
          hole = or_is _ _ _ (came_is how p s ss slot w it m.0 m.1 there' stands' new is_hole plain_hole hole_steady free.0) ∙ ap (λ b. has_hole rows slot w || b) (sym (told_at is_hole how p s ss w m.0 m.1));
          delimiter = passed_on _ _ (λ c. came_down how p s ss slot w it m.0 m.1 there' stands' new (breaks rows) free.1 c);
          depth = λ o room. room is_key keys how s ss l slot w refl last there stands new;
          exhausted = or_is _ _ _ (came_is how p s ss slot w it m.0 m.1 there' stands' new (is_exhausted h rows) (plain_full h rows) full_steady free.2)
              ∙ ap (λ b. exhausts h rows slot w || b) (sym (told_at (is_exhausted h rows) how p s ss w m.0 m.1));
        }

    -- the changed value in the place of a part of the whole
    at_top : (slot : Slot) (w c : Value) → p.0 ≡ slot → w ≡ c → IsJudgedBy h rows limit p by_set [] slot w c
    at_top slot w c e f = record {
      hole = (λ i. has_hole rows (e i) (sym f i)) ∙ or_none (has_hole rows slot w);
      delimiter = λ b. (λ i. breaks_delimiter rows (e i) (sym f i)) ∙ b;
      depth = λ o room. subst (λ o. Fits rows limit p.0 c ↔ FitsIn rows slot w o) (sym room) (λ x. fits_so x, λ x. fits_back x);
      exhausted = (λ i. exhausts h rows (e i) (sym f i)) ∙ or_none (exhausts h rows slot w);
    } where
      fits_so : Fits rows limit p.0 c → Fits rows limit slot w
      fits_so x = subst (λ s. Fits rows limit s w) e (subst (λ v. Fits rows limit p.0 v) (sym f) x)

      fits_back : Fits rows limit slot w → Fits rows limit p.0 c
      fits_back x = subst (λ v. Fits rows limit p.0 v) f (subst (λ s. Fits rows limit s w) (sym e) x)

    slot_by : {X : Type 0} (g : X → Option Slot) (o : Option X) (l : X) (u slot : Slot) → o ≡ Some l → g l ≡ Some u → option_and_then g o ≡ Some slot → u ≡ slot
    slot_by g o l u slot e f there = same_Some u slot (sym (ap (option_and_then g) e ∙ f) ∙ there)

    stands_there : (s : List ℕ) (ss : List (List ℕ)) (l : Holder × List ℕ) → AllByRecursion IsUtf8 (s ∷ ss) → last_holder rows p s ss ≡ Some l → key_fits is_key l.0 l.1 ≡ true → MayStand is_key l.0 l.1
    stands_there s ss l texts last fits = may_stand is_key l.0 l.1 (last_text rows is_key (λ slot v. OfType rows slot v) (kept rows is_key schema keys) p s ss l texts last) fits

    coming : (how : Coming) (path : List (List ℕ)) (slot : Slot) (w c : Value) → AllByRecursion IsUtf8 path → new_slot rows p (bringing how path w) ≡ Some slot → OfType rows slot w → change rows is_key p (bringing how path w) ≡ Ok c
        → IsJudgedBy h rows limit p how path slot w c
    coming by_set [] slot w c texts there new made = at_top slot w c (same_Some p.0 slot there) (ok_same w c made)
      where
        ok_same : (v w : Value) → ◌≡◌ {A = Result Value No} (Ok v) (Ok w) → v ≡ w
        ok_same v w e = cc
    coming by_set (s ∷ ss) slot w c texts there new made = by (last_holder rows p s ss) refl made where
      by : (o : Option (Holder × List ℕ)) → last_holder rows p s ss ≡ o → set_in is_key (changed_in rows (λ k t. set_part k t w) p s ss) o ≡ Ok c → IsJudgedBy h rows limit p by_set (s ∷ ss) slot w c
      by None e m = absurd cc
      by (Some l) e m =
          placed_typed (IsJudgedBy h rows limit p by_set (s ∷ ss) slot w) (key_fits is_key l.0 l.1) (changed_in rows (λ k t. set_part k t w) p s ss) (slot_to_set l.0 l.1) c m
          (λ u at fits.
          coming_at by_set s ss slot w l e (at ∙ ap Some (slot_by (λ (l : Holder × List ℕ). slot_to_set l.0 l.1) (last_holder rows p s ss) l u slot e at there)) (stands_there s ss l texts e fits) new)
    coming by_insert [] slot w c texts there new made = absurd (none-some slot there)
    coming by_insert (s ∷ ss) slot w c texts there new made = by (last_holder rows p s ss) refl made where
      by : (o : Option (Holder × List ℕ)) → last_holder rows p s ss ≡ o → ins_in is_key (changed_in rows (λ k t. insert_part k t w) p s ss) o ≡ Ok c → IsJudgedBy h rows limit p by_insert (s ∷ ss) slot w c
      by None e m = absurd cc
      by (Some l) e m =
          placed_typed (IsJudgedBy h rows limit p by_insert (s ∷ ss) slot w) (key_fits is_key l.0 l.1) (changed_in rows (λ k t. insert_part k t w) p s ss) (slot_to_insert l.0 l.1) c m
          (λ u at fits.
          coming_at by_insert s ss slot w l e (at ∙ ap Some (slot_by (λ (l : Holder × List ℕ). slot_to_insert l.0 l.1) (last_holder rows p s ss) l u slot e at there)) (stands_there s ss l texts e fits) new)

    -- ---- the part at the end of a path goes

    module _ (s : List ℕ) (ss : List (List ℕ)) (m : InSlot × List ℕ) (last : last_in rows p s ss ≡ Some m) (gone : refusal_to_delete (seen rows m.0) m.1 ≡ None) where
      gone_typed : (q : InSlot) → OfT q → seen rows q ≡ seen rows m.0 → OfType rows q.0 (value_of (delete_part (seen rows m.0) m.1))
      gone_typed q is same = deleted_typed rows is_key (λ slot v. OfType rows slot v) (kept rows is_key schema keys) (seen rows m.0, m.1) gone q is same

      at_gone : (test : Option TypeDef → Value → Bool) → IsFree test rows p.0 p.1 → Whole m.0 × IsFree test rows (m.0).0 (m.0).1
      at_gone test free = at_last rows is_key schema keys test Whole whole_typed whole_part ss p s m it free last

      went_is : (test : Option TypeDef → Value → Bool) → ((F : Option TypeDef) (v : Value) → IsPlain v → test F v ≡ false) → Steady test → IsFree test rows p.0 p.1
          → (IsFree test rows p.0 (changed_in rows delete_part p s ss)) ↔ (test (form_of rows (m.0).0) (value_of (delete_part (seen rows m.0) m.1)) ≡ false)
      went_is test quiet steady free =
          let x = at_gone test free in
          let y = went rows is_key schema keys test m.0 m.1 (x.0).0 x.1 gone in
          let own = passes_is test quiet (m.0).0 (delete_part (seen rows m.0) m.1) (held_as rows is_key schema keys (m.0).0 (delete_part (seen rows m.0) m.1) (delete_part-seen rows (m.0).0 (m.0).1 m.1) (gone_typed m.0 (x.0).0 refl)) in (
            λ c. own.0 (y.0 (down rows is_key schema keys test Whole whole_typed whole_part delete_part m gone_typed ss p s it free last c)),
            λ t. up rows is_key schema keys test Whole whole_typed whole_part delete_part m gone_typed steady ss p s it free last (y.1 (own.1 t)),
          )

      went_full : exhausts h rows p.0 (changed_in rows delete_part p s ss) ≡ false
      went_full =
          let x = at_gone (is_exhausted h rows) free.2 in
          let y = went rows is_key schema keys (is_exhausted h rows) m.0 m.1 (x.0).0 x.1 gone in
          let own = gone_full h rows is_key schema keys (m.0).0 (m.0).1 ((x.0).1).0 (seen rows m.0) m.1 ((x.0).1).1 refl (held_of rows is_key schema keys (m.0).0 (m.0).1 (x.0).0)
          (parts_of rows is_key schema keys (is_exhausted h rows) (m.0).0 (m.0).1 (x.0).0 x.1).0 in
          up rows is_key schema keys (is_exhausted h rows) Whole whole_typed whole_part delete_part m gone_typed full_steady ss p s it free.2 last (y.1 own)

    going_at : (s : List ℕ) (ss : List (List ℕ)) (l : Holder × List ℕ) → last_holder rows p s ss ≡ Some l → refusal_to_delete l.0 l.1 ≡ None → IsJudgedWithout h rows limit p (s ∷ ss) (changed_in rows delete_part p s ss)
    going_at s ss l last gone =
        let m = last_seen rows p s ss l last in
        let gone' : refusal_to_delete (seen rows (m.0).0) (m.0).1 ≡ None = subst (λ (k : Holder × List ℕ). refusal_to_delete k.0 k.1 ≡ None) (sym m.2) gone in
        record {
          hole = same_bool _ _ (went_is s ss m.0 m.1 gone' is_hole plain_hole hole_steady free.0) ∙ sym (ap (λ o. option_map_or (λ l. is_hole (form_of rows (l.0).0) (made_at rows (del_at (s ∷ ss)) l)) o false) m.1);
          depth = deleted_fits rows is_key schema keys limit p s ss l sound.fits last gone;
          exhausted = went_full s ss m.0 m.1 gone';
        }

    going : (path : List (List ℕ)) (c : Value) → AllByRecursion IsUtf8 path → change rows is_key p (del_at path) ≡ Ok c → IsJudgedWithout h rows limit p path c
    going [] c texts made = absurd cc
    going (s ∷ ss) c texts made = by (last_holder rows p s ss) refl made where
      by : (o : Option (Holder × List ℕ)) → last_holder rows p s ss ≡ o → del_in (changed_in rows delete_part p s ss) o ≡ Ok c → IsJudgedWithout h rows limit p (s ∷ ss) c
      by None e m = absurd cc
      by (Some l) e m = kept_typed (IsJudgedWithout h rows limit p (s ∷ ss)) (changed_in rows delete_part p s ss) (refusal_to_delete l.0 l.1) c m (λ gone. going_at s ss l e gone)

pub coming_is_judged : ComingIsJudged
coming_is_judged = λ h rows is_key schema keys limit p sound how path slot w c texts there new made. coming h rows is_key schema keys limit p sound how path slot w c texts there new made

pub going_is_judged : GoingIsJudged
going_is_judged = λ h rows is_key schema keys limit p sound path c texts made. going h rows is_key schema keys limit p sound path c texts made
