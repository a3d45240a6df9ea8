-- A link of a type of links to a block: it may be any other. So the value with another fits where the value does.
use Rattle.std.proofs.Common.{◌≡◌, ◌≤◌, ℕ, zero, suc, List, [], ◌∷◌, drop, length, Bool, true, false, cond, Option, Some, None, IsSome, refl, ap, sym, subst, ◌∙◌, arith}
use Rattle.std.specs.Option.{option_map_or}
use Rattle.std.specs.Prelude.{IsSomeAnd, option_map, option_and_then}
use Rattle.std.proofs.lemmas.Option.{same_Some}
use Rattle.ild_data.specs.Bytes.{AreBytes}
use Rattle.ild_data.specs.Cid.{IsCid}
use Rattle.ild_data.specs.Data as T
use Rattle.ild_data.specs.Spell.{cid_of}
use Rattle.ild_data_alike.proofs.Lengths.{blank_same}
use Rattle.ild_path_edits.proofs.Holders.{set_part-seen}
use Rattle.ild_path_edits.proofs.KeepTyped.{of_type_is_kept}
use Rattle.ild_path_edits.proofs.Kept.{IsKept}
use Rattle.ild_path_edits.proofs.Paths.{last_there}
use Rattle.ild_path_edits.specs.Along.{room_below}
use Rattle.ild_path_edits.specs.Edit.{new_slot, set_at}
use Rattle.ild_path_edits.specs.Table.{slot_to_set}
use Rattle.ild_path_room.proofs.Edited.{key_there, part_left, set_in}
use Rattle.ild_path_room.proofs.Roomy.{IsRoomy, roomy, roomy_fits}
use Rattle.ild_path_within.proofs.Splitting.{first_of_path}
use Rattle.ild_path_within.specs.Within.{with_part}
use Rattle.ild_run_links.proofs.Typing.{form_is}
use Rattle.ild_run_links.specs.Links.{leads_to, link_in, link_to, target_of}
use Rattle.ild_schema.specs.Slots.{form_of}
use Rattle.ild_schema.specs.Value as V
use Rattle.ild_schema.specs.Value.{Value}
use Rattle.ild_schema.specs.declared.def.TypeDef.TheVariants as D
use Rattle.ild_schema.specs.declared.number.Slot.{Slot}
use Rattle.ild_schema.specs.declared.number.TypeNo.{TypeNo}
use Rattle.ild_schema.specs.declared.row.Row.{Row}
use Rattle.ild_typed.proofs.NodeElements.{block-link}
use Rattle.ild_typed.specs.At.{InSlot, at, seen}
use Rattle.ild_typed.specs.Fits.{Fits, FitsPast, FormFits, ValueFits}
use Rattle.ild_typed.specs.Hamt.{whole}
use Rattle.ild_typed.specs.Holder.{Holder, value_of}
use Rattle.ild_typed.specs.NodeReading.{links_block}
use Rattle.ild_typed.specs.OfType.{OfType, TestsKeys}
use Rattle.ild_typed.specs.Represented.{layered, represented}
use Rattle.ild_typed.specs.Layer as L
use Rattle.ild_typed.specs.Schema.{IsSchema}
use Rattle.ild_typed.specs.Segment.{part, set_part}
use Rattle.ild_typed_alike.specs.Blank.{blank_value}

-- ---- a typed link to a block

pub record IsTypedLink (rows : List Row) (q : InSlot) : Type 0 where
  pub cid : List ℕ
  pub target : TypeNo
  pub is : q.1 ≡ V.link cid
  pub form : form_of rows q.0 ≡ Some (D.Link target)
  pub long : length cid ≡ 36

id_long : (cid : List ℕ) (target : TypeNo) → IsSome (leads_to cid target) → length cid ≡ 36
id_long cid target some = by (links_block cid) refl some where
  by : (b : Bool) → links_block cid ≡ b → IsSome (option_map {U = TypeNo × List ℕ} (λ i. (target, i)) (cond b (Some (drop 4 cid)) None)) → length cid ≡ 36
  by true is some =
      let parts = block-link cid is in
      let long = parts.1 in
      ap length parts.0 ∙ ap (λ n. suc (suc (suc (suc n)))) long
  by false is some = absurd (cc some)

of_target : (rows : List Row) (s : Slot) (cid : List ℕ) (o : Option TypeNo) → target_of (form_of rows s) ≡ o → IsSome (option_and_then (leads_to cid) o) → IsTypedLink rows (s, V.link cid)
of_target rows s cid None is some = absurd (cc some)
of_target rows s cid (Some target) is some = record { cid = cid; target = target; is = refl; form = form_is (form_of rows s) target is; long = id_long cid target some }

pub typed_link_is : (rows : List Row) (q : InSlot) → IsSome (link_to rows q) → IsTypedLink rows q
typed_link_is rows q some = by q.1 some where
  by : (v : Value) → IsSome (link_in rows q.0 v) → IsTypedLink rows (q.0, v)
  by V.null some = absurd (cc some)
  by (V.boolean b) some = absurd (cc some)
  by (V.integer n) some = absurd (cc some)
  by (V.text s) some = absurd (cc some)
  by (V.bytes s) some = absurd (cc some)
  by (V.link cid) some = of_target rows q.0 cid (target_of (form_of rows q.0)) refl some
  by (V.list vs) some = absurd (cc some)
  by (V.map ps) some = absurd (cc some)
  by (V.struct os) some = absurd (cc some)
  by (V.union n v) some = absurd (cc some)
  by (V.enum n) some = absurd (cc some)
  by V.unit some = absurd (cc some)
  by (V.any d) some = absurd (cc some)
  by (V.hamt d) some = absurd (cc some)

-- ---- another link in its place

pub link_blank : (rows : List Row) (q : InSlot) (l : IsTypedLink rows q) (id : List ℕ) → length id ≡ 32 → blank_value (V.link (cid_of id)) ≡ blank_value q.1
link_blank rows q l id long = ap V.link (blank_same (cid_of id) l.cid (ap (λ n. suc (suc (suc (suc n)))) long ∙ sym l.long)) ∙ ap blank_value (sym l.is)

value_fits : (rows : List Row) (s : Slot) (target : TypeNo) (cid : List ℕ) (room : ℕ) (below : ℕ → Slot → Value → Type 0) → form_of rows s ≡ Some (D.Link target) → IsCid cid × AreBytes cid → ValueFits rows room below s (V.link cid)
value_fits rows s target cid room below form is =
    let none : 0 ≤ room = omega arith in
    subst (λ o. IsSomeAnd o (FormFits rows room below (V.link cid))) (sym form) (none, is)

pub link_fits_in : (rows : List Row) (s : Slot) (target : TypeNo) (cid : List ℕ) (room : ℕ) → form_of rows s ≡ Some (D.Link target) → IsCid cid × AreBytes cid → Fits rows room s (V.link cid)
unfolding FitsPast
link_fits_in rows s target cid zero form is = value_fits rows s target cid zero (λ over t w. ⊥) form is
link_fits_in rows s target cid (suc room) form is = value_fits rows s target cid (suc room) (FitsPast rows room) form is

pub link_data : (h : List ℕ → List ℕ) (rows : List Row) (s : Slot) (target : TypeNo) (cid : List ℕ) → form_of rows s ≡ Some (D.Link target) → represented (whole h) rows s (V.link cid) ≡ Some (T.link cid)
link_data h rows s target cid form = ap (λ o. layered (whole h) o (Some (L.link cid))) form

-- ---- what fits

module _ (rows : List Row) (is_key : ℕ → List ℕ → Bool) (schema : IsSchema rows) (keys : TestsKeys rows is_key) where
  kept : IsKept rows is_key (λ slot v. OfType rows slot v)
  kept = of_type_is_kept rows is_key schema keys

  next_fits : (room : ℕ) (p q : InSlot) (s : List ℕ) → Fits rows room p.0 p.1 → part (seen rows p) s ≡ Some q → Fits rows (room_below rows room p s) q.0 q.1
  next_fits room p q s fits e = part_left rows room p.0 (seen rows p) s q (roomy rows room p.0 p.1 fits) e (kept.parts p q s (room, fits) e)

  whole_fits : (room : ℕ) (p q : InSlot) (s : List ℕ) (c : Value) → Fits rows room p.0 p.1 → part (seen rows p) s ≡ Some q → Fits rows (room_below rows room p s) q.0 c → Fits rows room p.0 (value_of (set_part (seen rows p) s c))
  whole_fits room p q s c fits e left =
      let is : OfType rows p.0 p.1 = (room, fits) in
      let free = kept.slots p q s is e in
      let h = roomy rows room p.0 p.1 fits in
      roomy_fits rows room p.0 (value_of (set_part (seen rows p) s c)) (kept.set p s q.0 c is free (kept.there p q s is e) (room_below rows room p s, left))
      (subst (λ k. IsRoomy rows room p.0 k) (sym (set_part-seen rows p.0 p.1 s c)) (set_in rows room p.0 (seen rows p) s q.0 c h free (key_there rows room p.0 (seen rows p) s q h e) left))

  -- a part of its slot at the end of a path that fits in every room
  pub fits_with : (path : List (List ℕ)) (room : ℕ) (p q : InSlot) (m : Value) → Fits rows room p.0 p.1 → at rows p path ≡ Some q → ((n : ℕ) → Fits rows n q.0 m) → Fits rows room p.0 (with_part rows p path m)
  fits_with [] room p q m fits h each = subst (λ (r : InSlot). Fits rows room r.0 m) (sym (same_Some p q h)) (each room)
  fits_with (s ∷ ss) room p q m fits h each =
      let x = first_of_path rows p q s ss h in
      let left = fits_with ss (room_below rows room p s) x.item q m (next_fits room p x.item s fits x.there) x.made each in
      subst (λ o. Fits rows room p.0 (option_map_or (λ r. value_of (set_part (seen rows p) s (with_part rows r ss m))) o p.1)) (sym x.there) (whole_fits room p x.item s (with_part rows x.item ss m) fits x.there left)

  -- its slot is the one to which such a part comes
  pub slot_there : (path : List (List ℕ)) (p q : InSlot) (m : Value) (slot : Slot) → OfType rows p.0 p.1 → at rows p path ≡ Some q → new_slot rows p (set_at path m) ≡ Some slot → slot ≡ q.0
  slot_there [] p q m slot is h new = sym (same_Some p.0 slot new) ∙ ap (λ (r : InSlot). r.0) (same_Some p q h)
  slot_there (s ∷ ss) p q m slot is h new =
      let l = last_there rows is_key (λ t v. OfType rows t v) kept s ss p q h is in
      same_Some slot q.0 (sym new ∙ ap (option_and_then (λ (k : Holder × List ℕ). slot_to_set k.0 k.1)) l.1 ∙ l.3)
