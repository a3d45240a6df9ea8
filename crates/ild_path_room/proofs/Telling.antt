-- The room that a walk along a path tells.
use Rattle.std.proofs.Common.{◌≡◌, ◌-◌, ℕ, List, [], ◌∷◌, length, nat_eq, Bool, true, false, true≢false, Option, Some, None, refl, sym, ◌∙◌, ap, subst, arith}
use Rattle.std.specs.Prelude.{◌↔◌, IfOk, Result, Ok, Err, option_and_then}
use Rattle.std.specs.Option.{option_map_or}
use Rattle.std.proofs.lemmas.Bool.Decides.{nat_tests}
use Rattle.std.proofs.lemmas.Option.{same_Some, none-some}
use Rattle.ild_data.specs.Data as T
use Rattle.ild_schema.specs.declared.def.TypeDef.{TypeDef}
use Rattle.ild_schema.specs.declared.def.TypeDef.TheVariants as D
use Rattle.ild_schema.specs.declared.number.Slot.{Slot}
use Rattle.ild_schema.specs.declared.number.TypeNo.{TypeNo}
use Rattle.ild_schema.specs.declared.row.Row.{Row}
use Rattle.ild_schema.specs.Accept.{IsAccepted}
use Rattle.ild_schema.specs.Prelude.{number}
use Rattle.ild_schema.specs.Slots.{form_of, plainly}
use Rattle.ild_schema.specs.Table.{IsTable}
use Rattle.ild_schema.specs.Value.{Value, null, boolean, integer, text, bytes, link, list, map, struct, union, enum, unit, any, hamt, values_list, pairs_list, optionals_list}
use Rattle.ild_typed.specs.Fits.{Fits}
use Rattle.ild_typed.specs.Holder.{Holder, fields, member, entries, elements, any_entries, any_elements, nothing, list_holder, map_holder, struct_holder, union_holder, holder_of}
use Rattle.ild_typed.specs.Layer as L
use Rattle.ild_typed.specs.Layers.{RepresentsSome}
use Rattle.ild_typed.specs.OfType.{OfType}
use Rattle.ild_typed.specs.At.{InSlot, seen, last_holder}
use Rattle.ild_typed.specs.Schema.{IsSchema}
use Rattle.ild_typed.specs.Segment.{part}
use Rattle.ild_typed.proofs.FormOf.{list_form, map_form, struct_form, union_form, any_form}
use Rattle.ild_typed.proofs.OneLayer.{in_layer}
use Rattle.ild_path_edits.specs.Along.{taken, room_below}
use Rattle.ild_view.specs.Parts.{HandsOut, IsPartView}
use Rattle.ild_view.specs.View.{IsView, slot_of, table_of}
use Rattle.ild_view.specs.declared.view.View.{View}
use Rattle.ild_path_room.specs.Room.{by_set, by_insert, room_left, KeyFits, FormKeyFits, HasPlace, IsRoom, FitsIn, TellsRoom}
use Rattle.ild_path_room.proofs.AlongPaths.{brought_fits, same_left}

-- ---- keys by the holder and by the form

abbrev pub key_of : Option TypeDef → Option TypeNo
key_of (Some (D.Map key key_at slot at form)) = Some key
key_of d = None

abbrev pub KeyAgrees : Option TypeDef → Holder → Type 0
KeyAgrees d (entries key slot paired ps) = key_of d ≡ Some (number key)
KeyAgrees d (nothing v) = Unit {0}
KeyAgrees d h = key_of d ≡ None

keys_agree : (rows : List Row) (slot : Slot) (v : Value) → OfType rows slot v → KeyAgrees (form_of rows slot) (holder_of rows slot v)
keys_agree rows slot null h = tt
keys_agree rows slot (boolean b) h = tt
keys_agree rows slot (integer n) h = tt
keys_agree rows slot (text x) h = tt
keys_agree rows slot (bytes x) h = tt
keys_agree rows slot (link x) h = tt
keys_agree rows slot (enum n) h = tt
keys_agree rows slot unit h = tt
keys_agree rows slot (hamt d) h = tt
keys_agree rows slot (any T.null) h = tt
keys_agree rows slot (any (T.boolean b)) h = tt
keys_agree rows slot (any (T.integer n)) h = tt
keys_agree rows slot (any (T.text x)) h = tt
keys_agree rows slot (any (T.bytes x)) h = tt
keys_agree rows slot (any (T.link x)) h = tt
keys_agree rows slot (any (T.list ds)) h =
    let x = in_layer rows slot (any (T.list ds)) (L.any (T.list ds)) refl h in
    ap key_of (x.form ∙ ap Some (any_form rows (OfType rows) x.ty (T.list ds) x.holds).0)
keys_agree rows slot (any (T.map ms)) h =
    let x = in_layer rows slot (any (T.map ms)) (L.any (T.map ms)) refl h in
    ap key_of (x.form ∙ ap Some (any_form rows (OfType rows) x.ty (T.map ms) x.holds).0)
keys_agree rows slot (list vs) h =
    let x = in_layer rows slot (list vs) (L.list (values_list vs)) refl h in
    let k = list_form rows (OfType rows) x.ty (values_list vs) x.holds in
    subst (λ d. KeyAgrees d (list_holder d vs)) (sym (x.form ∙ ap Some k.2)) refl
keys_agree rows slot (map ps) h =
    let x = in_layer rows slot (map ps) (L.map (pairs_list ps)) refl h in
    let k = map_form rows (OfType rows) x.ty (pairs_list ps) x.holds in
    subst (λ d. KeyAgrees d (map_holder d ps)) (sym (x.form ∙ ap Some k.5)) refl
keys_agree rows slot (struct os) h =
    let x = in_layer rows slot (struct os) (L.struct (optionals_list os)) refl h in
    let k = struct_form rows (OfType rows) x.ty (optionals_list os) x.holds in
    subst (λ d. KeyAgrees d (struct_holder d os)) (sym (x.form ∙ ap Some k.1)) refl
keys_agree rows slot (union n v) h =
    let x = in_layer rows slot (union n v) (L.union n v) refl h in
    let k = union_form rows (OfType rows) x.ty n v x.holds in
    subst (λ d. KeyAgrees d (union_holder d n v)) (sym (x.form ∙ ap Some k.2)) refl

-- as a function of the key type
abbrev KeyShows : List Row → ℕ → List ℕ → Option TypeNo → Type 0
KeyShows rows room s None = Unit {0}
KeyShows rows room s (Some key) = RepresentsSome (Fits rows room) rows (plainly key) (T.text s)

form_shows : (rows : List Row) (room : ℕ) (d : TypeDef) (s : List ℕ) → FormKeyFits rows room d s ↔ KeyShows rows room s (key_of (Some d))
form_shows rows room (D.Map key key_at slot at form) s = (λ h. h, λ h. h)
form_shows rows room d s = (λ h. h, λ h. h)

no_place : (v : Value) (s : List ℕ) → HasPlace (nothing v) s → ⊥
no_place v s (by_set, slot, e) = none-some slot e
no_place v s (by_insert, slot, e) = none-some slot e

holder_shows : (rows : List Row) (room : ℕ) (d : Option TypeDef) (h : Holder) (s : List ℕ) → KeyAgrees d h → HasPlace h s → KeyFits rows room h s ↔ KeyShows rows room s (key_of d)
holder_shows rows room d (fields fs os) s e free = subst (λ o. Unit {0} ↔ KeyShows rows room s o) (sym e) (λ h. h, λ h. h)
holder_shows rows room d (member ms n v) s e free = subst (λ o. Unit {0} ↔ KeyShows rows room s o) (sym e) (λ h. h, λ h. h)
holder_shows rows room d (entries key slot paired ps) s e free =
    subst (λ o. RepresentsSome (Fits rows room) rows (plainly (number key)) (T.text s) ↔ KeyShows rows room s o) (sym e) (λ h. h, λ h. h)
holder_shows rows room d (elements slot vs) s e free = subst (λ o. Unit {0} ↔ KeyShows rows room s o) (sym e) (λ h. h, λ h. h)
holder_shows rows room d (any_entries ms) s e free = subst (λ o. Unit {0} ↔ KeyShows rows room s o) (sym e) (λ h. h, λ h. h)
holder_shows rows room d (any_elements ds) s e free = subst (λ o. Unit {0} ↔ KeyShows rows room s o) (sym e) (λ h. h, λ h. h)
holder_shows rows room d (nothing v) s e free = absurd (no_place v s free)

pub key_is : (rows : List Row) (room : ℕ) (slot : Slot) (v : Value) (d : TypeDef) (s : List ℕ) → OfType rows slot v → form_of rows slot ≡ Some d → HasPlace (holder_of rows slot v) s
    → FormKeyFits rows room d s ↔ KeyFits rows room (holder_of rows slot v) s
key_is rows room slot v d s typed form free =
    let a = form_shows rows room d s in
    let b = holder_shows rows room (form_of rows slot) (holder_of rows slot v) s (keys_agree rows slot v typed) free in
    let e : key_of (form_of rows slot) ≡ key_of (Some d) = ap key_of form in
    (λ h. b.1 (subst (KeyShows rows room s) (sym e) (a.0 h)), λ h. a.1 (subst (KeyShows rows room s) e (b.0 h)))

-- ---- the last holder

pub view_typed : (v : View) (f : Value) → IsView v f → OfType (table_of v) (slot_of v) f
view_typed v f h = (h.room, h.front.fits)

module _ (v : View) (f : Value) (d : TypeDef) (s : List ℕ) (left room : ℕ) (is : IsView v f) (form : form_of (table_of v) (slot_of v) ≡ Some d) (free : HasPlace (seen (table_of v) (slot_of v, f)) s)
    (same : left ≡ room - taken (form_of (table_of v) (slot_of v))) where
  abbrev Below : ℕ
  Below = room - taken (form_of (table_of v) (slot_of v))

  pub room_there : FormKeyFits (table_of v) left d s → IsRoom (table_of v) Below (seen (table_of v) (slot_of v, f)) s (Some left)
  room_there h = (same, (key_is (table_of v) Below (slot_of v) f d s (view_typed v f is) form free).0 (subst (λ n. FormKeyFits (table_of v) n d s) same h))

  pub no_room : (FormKeyFits (table_of v) left d s → ⊥) → IsRoom (table_of v) Below (seen (table_of v) (slot_of v, f)) s None
  no_room none h = none (subst (λ n. FormKeyFits (table_of v) n d s) (sym same) ((key_is (table_of v) Below (slot_of v) f d s (view_typed v f is) form free).1 h))

-- ---- along the path

abbrev pub path_holder : List Row → InSlot → List (List ℕ) → Option (Holder × List ℕ)
path_holder rows p [] = None
path_holder rows p (s ∷ ss) = last_holder rows p s ss

-- what is left of the path, from the view at which the walk stands
pub record OnWay (rows : List Row) (l : Holder × List ℕ) (target : ℕ) (left : List (List ℕ)) (v : View) (room : ℕ) : Type 0 where
  pub to : InSlot
  pub view : IsPartView rows to v
  pub last : path_holder rows to left ≡ Some l
  pub leaves : room_left rows room to left ≡ target

pub way_begins : (v : View) (f : Value) (path : List (List ℕ)) (s : List ℕ) (ss : List (List ℕ)) (l : Holder × List ℕ) (limit : ℕ) → IsView v f → path ≡ s ∷ ss → last_holder (table_of v) (slot_of v, f) s ss ≡ Some l
    → OnWay (table_of v) l (room_left (table_of v) limit (slot_of v, f) path) path v limit
way_begins v f path s ss l limit is e last = record {
  to = (slot_of v, f);
  view = record { table = refl; slot = refl; view = is };
  last = ap (path_holder (table_of v) (slot_of v, f)) e ∙ last;
  leaves = refl;
}

pub none_left : (xs : List (List ℕ)) → length xs ≡ 0 → xs ≡ []
none_left [] e = refl
none_left (x ∷ xs) e = absurd (omega (arith, e))

-- whether a segment is the last one
is_zero : (n : ℕ) (b : Bool) → b ≡ nat_eq n 0 → b ≡ true → n ≡ 0
is_zero n b e h = grind (arith, nat_tests)

pub none_behind : (xs : List (List ℕ)) (b : Bool) → b ≡ nat_eq (length xs) 0 → b ≡ true → xs ≡ []
none_behind xs b e h = none_left xs (is_zero (length xs) b e h)

pub some_behind : (xs : List (List ℕ)) (b : Bool) → b ≡ nat_eq (length xs) 0 → b ≡ false → xs ≡ [] → ⊥
some_behind xs b e h is = true≢false (ap (λ (ys : List (List ℕ)). nat_eq (length ys) 0) (sym is) ∙ sym e ∙ h)

if_ok : {X E : Type 0} (r : Result X E) (P Q : X → Type 0) → ((x : X) → P x → Q x) → IfOk r P → IfOk r Q
if_ok (Ok x) P Q f h = f x h
if_ok (Err e) P Q f h = tt

module _ (rows : List Row) (l : Holder × List ℕ) (target : ℕ) (v : View) (room : ℕ) where
  pub way_ends : (left : List (List ℕ)) → left ≡ [] → OnWay rows l target left v room → ⊥
  way_ends left e w = none-some l (sym (ap (path_holder rows w.to) e) ∙ w.last)

  -- what the view hands out, in the terms of the path
  handed : (x : List ℕ) (left : List (List ℕ)) (o : Option View) (w : OnWay rows l target left v room) → ((f : Value) → IsView v f → HandsOut (table_of v) (part (seen (table_of v) (slot_of v, f)) x) o)
      → HandsOut rows (part (seen rows w.to) x) o
  handed x left o w all =
      let q = w.to in
      subst (λ u. HandsOut rows (part (seen rows (u, q.1)) x) o) w.view.slot
      (subst (λ t. HandsOut t (part (seen t (slot_of v, q.1)) x) o) w.view.table (all q.1 w.view.view))

  levels_same : (left : List (List ℕ)) (w : OnWay rows l target left v room) (x : List ℕ) → room - taken (form_of (table_of v) (slot_of v)) ≡ room_below rows room w.to x
  levels_same left w x = (λ i. room - taken (form_of (w.view.table i) (w.view.slot i)))

  stepped : (x y : List ℕ) (ys : List (List ℕ)) (q : InSlot) (o : Option InSlot) (r : Option View) → part (seen rows q) x ≡ o → HandsOut rows o r → option_and_then (λ p. last_holder rows p y ys) o ≡ Some l
      → room_left rows room q (x ∷ y ∷ ys) ≡ target → (n : ℕ) → n ≡ room_below rows room q x → (w : View) → r ≡ Some w → OnWay rows l target (y ∷ ys) w n
  stepped x y ys q None r e h last is n same w there = absurd (none-some l last)
  stepped x y ys q (Some p) None e h last is n same w there = absurd h
  stepped x y ys q (Some p) (Some u) e h last is n same w there = record {
    to = p;
    view = subst (IsPartView rows p) (same_Some u w there) h;
    last = last;
    leaves = ap (λ m. room_left rows m p (y ∷ ys)) same ∙ sym (ap (λ o. option_map_or (λ p. room_left rows (room_below rows room q x) p (y ∷ ys)) o (room_below rows room q x)) e) ∙ is;
  }

  pub way_goes : (x : List ℕ) (behind left : List (List ℕ)) → left ≡ x ∷ behind → (behind ≡ [] → ⊥) → (w : View) (n : ℕ) → n ≡ room - taken (form_of (table_of v) (slot_of v))
      → ((f : Value) → IsView v f → HandsOut (table_of v) (part (seen (table_of v) (slot_of v, f)) x) (Some w)) → OnWay rows l target left v room → OnWay rows l target behind w n
  way_goes x [] left e some w n same all way = absurd (some refl)
  way_goes x (y ∷ ys) left e some w n same all way =
      let q = way.to in
      stepped x y ys q (part (seen rows q) x) (Some w) refl (handed x left (Some w) way all) (sym (ap (path_holder rows q) e) ∙ way.last) (ap (room_left rows room q) (sym e) ∙ way.leaves) n (same ∙ levels_same left way x) w refl

  no_step : (o : Option InSlot) (y : List ℕ) (ys : List (List ℕ)) → HandsOut rows o None → option_and_then (λ p. last_holder rows p y ys) o ≡ Some l → ⊥
  no_step None y ys h last = none-some l last
  no_step (Some p) y ys h last = h

  pub way_stops : (x : List ℕ) (behind left : List (List ℕ)) → left ≡ x ∷ behind → (behind ≡ [] → ⊥)
      → ((f : Value) → IsView v f → HandsOut (table_of v) (part (seen (table_of v) (slot_of v, f)) x) None) → OnWay rows l target left v room → ⊥
  way_stops x [] left e some all way = some refl
  way_stops x (y ∷ ys) left e some all way =
      let q = way.to in
      no_step (part (seen rows q) x) y ys (handed x left None way all) (sym (ap (path_holder rows q) e) ∙ way.last)

  pub way_tells : {E : Type 0} (x : List ℕ) (behind left : List (List ℕ)) (r : Result (Option ℕ) E) → left ≡ x ∷ behind → behind ≡ [] → HasPlace l.0 l.1
      → ((f : Value) → IsView v f → HasPlace (seen (table_of v) (slot_of v, f)) x → IfOk r (IsRoom (table_of v) (room - taken (form_of (table_of v) (slot_of v))) (seen (table_of v) (slot_of v, f)) x))
      → OnWay rows l target left v room → IfOk r (IsRoom rows target l.0 l.1)
  way_tells x behind left r e none free all way =
      let q = way.to in
      let one : left ≡ x ∷ [] = e ∙ ap (λ b. x ∷ b) none in
      let at : (seen rows q, x) ≡ l = same_Some (seen rows q, x) l (sym (ap (path_holder rows q) one) ∙ way.last) in
      let same : seen (table_of v) (slot_of v, q.1) ≡ seen rows q = (λ i. seen (way.view.table i) (way.view.slot i, q.1)) in
      let place : HasPlace (seen (table_of v) (slot_of v, q.1)) x = subst (λ h. HasPlace h x) (sym same) (subst (λ (k : Holder × List ℕ). HasPlace k.0 k.1) (sym at) free) in
      let told = all q.1 way.view.view place in
      let left_so : room - taken (form_of (table_of v) (slot_of v)) ≡ target =
      levels_same left way x ∙ sym (same_left (part (seen rows q) x) (room_below rows room q x)) ∙ ap (room_left rows room q) (sym one) ∙ way.leaves in
      subst (λ (k : Holder × List ℕ). IfOk r (IsRoom rows target k.0 k.1)) at
      (if_ok r (IsRoom (table_of v) (room - taken (form_of (table_of v) (slot_of v))) (seen (table_of v) (slot_of v, q.1)) x) (IsRoom rows target (seen rows q) x) (λ o h. carried o h way.view.table left_so same) told)
    where
      carried : (o : Option ℕ) → IsRoom (table_of v) (room - taken (form_of (table_of v) (slot_of v))) (seen (table_of v) (slot_of v, way.to.1)) x o → table_of v ≡ rows → room - taken (form_of (table_of v) (slot_of v)) ≡ target
          → seen (table_of v) (slot_of v, way.to.1) ≡ seen rows way.to → IsRoom rows target (seen rows way.to) x o
      carried o h a b c = subst (λ k. IsRoom rows target k x o) c (subst (λ n. IsRoom rows n (seen (table_of v) (slot_of v, way.to.1)) x o) b (subst (λ t. IsRoom t (room - taken (form_of (table_of v) (slot_of v))) (seen (table_of v) (slot_of v, way.to.1)) x o) a h))

-- ---- what the answer tells of the changed value

fits_in : (rows : List Row) (room : ℕ) (h : Holder) (s : List ℕ) (slot : Slot) (w : Value) (o : Option ℕ) → IsRoom rows room h s o → (KeyFits rows room h s × Fits rows room slot w) ↔ FitsIn rows slot w o
fits_in rows room h s slot w None is = (λ k. is k.0, λ k. absurd k)
fits_in rows room h s slot w (Some n) is = (λ k. subst (λ m. Fits rows m slot w) (sym is.0) k.1, λ k. (is.1, subst (λ m. Fits rows m slot w) is.0 k))

pub room_tells : (rows : List Row) → IsSchema rows → (limit : ℕ) (p : InSlot) (path : List (List ℕ)) (o : Option ℕ) → Fits rows limit p.0 p.1
    → ((s : List ℕ) (ss : List (List ℕ)) (l : Holder × List ℕ) → path ≡ s ∷ ss → last_holder rows p s ss ≡ Some l → HasPlace l.0 l.1 → IsRoom rows (room_left rows limit p path) l.0 l.1 o)
    → TellsRoom rows limit p path o
room_tells rows schema limit p path o fits all is_key keys how s ss l slot w e last free stands new =
    let a = brought_fits rows is_key schema keys how limit p s ss l slot w fits last free stands new in
    let room = room_left rows limit p (s ∷ ss) in
    let is : IsRoom rows room l.0 l.1 o = subst (λ q. IsRoom rows (room_left rows limit p q) l.0 l.1 o) e (all s ss l e last (how, slot, free)) in
    let b = fits_in rows room l.0 l.1 slot w o is in
    (λ k. b.0 (a.0 k), λ k. a.1 (b.1 k))

-- what a walk along a path answers for each value of the view
abbrev pub Walked : {E : Type 0} → View → ℕ → List (List ℕ) → Result (Option ℕ) E → Type 0
Walked v limit path r =
    (f : Value) (s : List ℕ) (ss : List (List ℕ)) (l : Holder × List ℕ) → IsView v f → path ≡ s ∷ ss → last_holder (table_of v) (slot_of v, f) s ss ≡ Some l → HasPlace l.0 l.1
    → IfOk r (IsRoom (table_of v) (room_left (table_of v) limit (slot_of v, f) path) l.0 l.1)

pub walked_same : {E : Type 0} (v : View) (limit : ℕ) (all path : List (List ℕ)) (r : Result (Option ℕ) E) → all ≡ path → Walked v limit all r → Walked v limit path r
walked_same v limit all path r same h = subst (λ p. Walked v limit p r) same h

pub walked_tells : {E : Type 0} (v : View) (limit : ℕ) (path : List (List ℕ)) (r : Result (Option ℕ) E) → IsSchema (table_of v) → Walked v limit path r
    → (f : Value) → IsView v f → Fits (table_of v) limit (slot_of v) f → IfOk r (TellsRoom (table_of v) limit (slot_of v, f) path)
walked_tells v limit path (Ok o) schema h f is fits = room_tells (table_of v) schema limit (slot_of v, f) path o fits (λ s ss l e last free. h f s ss l is e last free)
walked_tells v limit path (Err e) schema h f is fits = tt

pub schema_of : (all rows : List Row) → all ≡ rows → IsTable all → IsAccepted all → IsSchema rows
schema_of all rows same table accepted = record { table = subst IsTable same table; accepted = subst IsAccepted same accepted }
