-- A judgement that tests each holder is one by layers.
use Rattle.std.proofs.Common.{cond, ◌≡◌, ℕ, List, [], ◌∷◌, slice_get, Bool, true, false, Option, Some, None, refl, ap, sym, subst, ◌∙◌}
use Rattle.std.specs.Prelude.{◌↔◌, IfSome, slice_set, option_map, option_and_then}
use Rattle.std.specs.Option.{option_map_or}
use Rattle.std.proofs.lemmas.Option.{same_Some, none-some}
use Rattle.ild_data.specs.Data as D
use Rattle.ild_data.specs.Data.{Data, items_of, members_of}
use Rattle.ild_data.specs.Key.{same_text, value_at}
use Rattle.ild_data.proofs.Lists.{items_list-items_of, members_list-members_of}
use Rattle.ild_schema.specs.declared.def.Field.{Field}
use Rattle.ild_schema.specs.declared.def.Member.{Member}
use Rattle.ild_schema.specs.declared.number.Slot.{Slot}
use Rattle.ild_schema.specs.declared.row.Row.{Row}
use Rattle.ild_schema.specs.Prelude.{anything}
use Rattle.ild_schema.specs.Slots.{plainly}
use Rattle.ild_schema.specs.Value.{Value, null, boolean, integer, text, bytes, link, list, map, struct, union, enum, unit, any, hamt, Values, no_values, value, values_of, values_list, Pairs, no_pairs, pair, pairs_of, pairs_list, Optionals, no_optionals, absent, present, optionals_of, optionals_list}
use Rattle.ild_typed.specs.At.{InSlot, seen}
use Rattle.ild_typed.specs.Holder.{Holder, fields, member, entries, elements, any_entries, any_elements, nothing, list_holder, map_holder, struct_holder, union_holder, any_holder, holder_of, value_of, of_any}
use Rattle.ild_typed.specs.OfType.{OfType, TestsKeys}
use Rattle.ild_typed.specs.Schema.{IsSchema}
use Rattle.ild_typed.specs.Segment.{part, set_part, set_field, field_at, index_of, member_named}
use Rattle.ild_typed.specs.Slots.{element_of, fields_of, member_of, slot_of}
use Rattle.ild_value_meaning.proofs.ByParts.{ByParts}
use Rattle.ild_value_meaning.proofs.Members.{member-named}
use Rattle.ild_value_meaning.proofs.Told.{told}
use Rattle.ild_value_meaning.proofs.TypedByParts.{to_parts}
use Rattle.ild_path_edits.specs.Table.{declared_slot, slot_to_set, MayStand}
use Rattle.ild_path_edits.proofs.HeldTyped.{IsHeld, held, held_named, with_slot, inside_any, indexed, slot_given}
use Rattle.ild_path_edits.proofs.Holders.{set_part-there, set_part-seen}
use Rattle.ild_path_edits.proofs.KeepTyped.{of_type_is_kept}
use Rattle.ild_path_edits.proofs.Layered.{IsGood, AllGood, EntriesGood, FieldsGood, GoesInside}
use Rattle.ild_path_edits.proofs.Layering.{IsLayered}
use Rattle.ild_path_edits.proofs.Typing.{Each, each_got, each_with, each_at, each_by, each_found}

module _ (rows : List Row) (is_key : ℕ → List ℕ → Bool) (schema : IsSchema rows) (I : Type 0) (below : I → Slot → I) (L : I → Slot → Holder → Type 0) (goes : GoesInside rows I below L) where
  abbrev G : I → Slot → Value → Type 0
  G i slot v = IsGood rows I below L i slot v

  abbrev Held : Slot → Holder → Type 0
  Held slot k = IsHeld rows is_key (told rows schema).apart (told rows schema).any_there slot k

  -- plain lists
  values_each : (i : I) (slot : Slot) (vs : Values) → AllGood rows I below L i slot vs → Each (λ v. G i slot v) (values_list vs)
  values_each i slot no_values h = tt
  values_each i slot (value v vs) h = (h.0, values_each i slot vs h.1)

  each_values : (i : I) (slot : Slot) (xs : List Value) → Each (λ v. G i slot v) xs → AllGood rows I below L i slot (values_of xs)
  each_values i slot [] h = tt
  each_values i slot (x ∷ xs) h = (h.0, each_values i slot xs h.1)

  abbrev EntryGood : I → Slot → List ℕ × Value → Type 0
  EntryGood i slot p = G i slot p.1

  pairs_each : (i : I) (slot : Slot) (ps : Pairs) → EntriesGood rows I below L i slot ps → Each (EntryGood i slot) (pairs_list ps)
  pairs_each i slot no_pairs h = tt
  pairs_each i slot (pair k v ps) h = (h.0, pairs_each i slot ps h.1)

  each_pairs : (i : I) (slot : Slot) (xs : List (List ℕ × Value)) → Each (EntryGood i slot) xs → EntriesGood rows I below L i slot (pairs_of xs)
  each_pairs i slot [] h = tt
  each_pairs i slot (x ∷ xs) h = (h.0, each_pairs i slot xs h.1)

  abbrev MayGood : I → Field → Option Value → Type 0
  MayGood i f None = Unit {0}
  MayGood i f (Some v) = G i f.slot v

  abbrev EachGood : I → List Field → List (Option Value) → Type 0
  EachGood i [] os = Unit {0}
  EachGood i (f ∷ fs) [] = Unit {0}
  EachGood i (f ∷ fs) (o ∷ os) = MayGood i f o × EachGood i fs os

  fields_each : (i : I) (fs : List Field) (os : Optionals) → FieldsGood rows I below L i fs os → EachGood i fs (optionals_list os)
  fields_each i [] os h = tt
  fields_each i (f ∷ fs) no_optionals h = tt
  fields_each i (f ∷ fs) (absent os) h = (tt, fields_each i fs os h)
  fields_each i (f ∷ fs) (present v os) h = (h.0, fields_each i fs os h.1)

  each_fields : (i : I) (fs : List Field) (xs : List (Option Value)) → EachGood i fs xs → FieldsGood rows I below L i fs (optionals_of xs)
  each_fields i fs [] h = tt
  each_fields i [] (None ∷ xs) h = tt
  each_fields i [] (Some v ∷ xs) h = tt
  each_fields i (f ∷ fs) (None ∷ xs) h = each_fields i fs xs h.1
  each_fields i (f ∷ fs) (Some v ∷ xs) h = (h.0, each_fields i fs xs h.1)

  -- ---- a holder whose parts are good

  abbrev PartsGood : I → Holder → Type 0
  PartsGood i (fields fs os) = EachGood i fs os
  PartsGood i (member ms n v) = IfSome (slice_get ms n) (λ m. G i (plainly m.ty) v)
  PartsGood i (entries key elem paired ps) = Each (EntryGood i elem) ps
  PartsGood i (elements elem vs) = Each (λ v. G i elem v) vs
  PartsGood i (any_entries ms) = Unit {0}
  PartsGood i (any_elements ds) = Unit {0}
  PartsGood i (nothing v) = Unit {0}

  own_of : (i : I) (slot : Slot) (v : Value) → G i slot v → L i slot (holder_of rows slot v)
  own_of i slot null h = h
  own_of i slot (boolean b) h = h
  own_of i slot (integer n) h = h
  own_of i slot (text s) h = h
  own_of i slot (bytes s) h = h
  own_of i slot (link s) h = h
  own_of i slot (list vs) h = h.0
  own_of i slot (map ps) h = h.0
  own_of i slot (struct os) h = h.0
  own_of i slot (union n v) h = h.0
  own_of i slot (enum n) h = h
  own_of i slot unit h = h
  own_of i slot (any d) h = h
  own_of i slot (hamt d) h = h

  member_good : (i : I) (o : Option Member) (v : Value) → IfSome (option_map slot_of o) (λ u. G i u v) → IfSome o (λ m. G i (plainly m.ty) v)
  member_good i None v h = tt
  member_good i (Some m) v h = h

  good_member : (i : I) (o : Option Member) (v : Value) → IfSome o (λ m. G i (plainly m.ty) v) → IfSome (option_map slot_of o) (λ u. G i u v)
  good_member i None v h = tt
  good_member i (Some m) v h = h

  good_parts : (i : I) (v : Value) (slot : Slot) → ByParts rows is_key slot v → G i slot v → PartsGood (below i slot) (holder_of rows slot v)
  good_parts i null slot t h = tt
  good_parts i (boolean b) slot t h = tt
  good_parts i (integer n) slot t h = tt
  good_parts i (text s) slot t h = tt
  good_parts i (bytes s) slot t h = tt
  good_parts i (link s) slot t h = tt
  good_parts i (list vs) slot t h =
      subst (λ f. PartsGood (below i slot) (list_holder f vs)) (sym t.2) (values_each (below i slot) t.0 vs (subst (λ f. IfSome (element_of f) (λ u. AllGood rows I below L (below i slot) u vs)) t.2 h.1))
  good_parts i (map ps) slot t h =
      subst (λ f. PartsGood (below i slot) (map_holder f ps)) (sym t.5) (pairs_each (below i slot) t.2 ps (subst (λ f. IfSome (element_of f) (λ u. EntriesGood rows I below L (below i slot) u ps)) t.5 h.1))
  good_parts i (struct os) slot t h =
      subst (λ f. PartsGood (below i slot) (struct_holder f os)) (sym t.1) (fields_each (below i slot) (t.0).fields os (subst (λ f. FieldsGood rows I below L (below i slot) (fields_of f) os) t.1 h.1))
  good_parts i (union n v) slot t h =
      subst (λ f. PartsGood (below i slot) (union_holder f n v)) (sym t.2)
      (member_good (below i slot) (slice_get (t.0).members n) v (subst (λ f. IfSome (member_of f n) (λ u. G (below i slot) u v)) t.2 h.1))
  good_parts i (enum n) slot t h = tt
  good_parts i unit slot t h = tt
  good_parts i (any D.null) slot t h = tt
  good_parts i (any (D.boolean b)) slot t h = tt
  good_parts i (any (D.integer n)) slot t h = tt
  good_parts i (any (D.text s)) slot t h = tt
  good_parts i (any (D.bytes s)) slot t h = tt
  good_parts i (any (D.list ds)) slot t h = tt
  good_parts i (any (D.map ms)) slot t h = tt
  good_parts i (any (D.link s)) slot t h = tt
  good_parts i (hamt d) slot t h = tt

  bare_good : (i : I) (v : Value) (slot : Slot) → Held slot (nothing v) → L i slot (holder_of rows slot v) → G i slot v
  bare_good i null slot t h = h
  bare_good i (boolean b) slot t h = h
  bare_good i (integer n) slot t h = h
  bare_good i (text s) slot t h = h
  bare_good i (bytes s) slot t h = h
  bare_good i (link s) slot t h = h
  bare_good i (list vs) slot t h = absurd t.1
  bare_good i (map ps) slot t h = absurd t.1
  bare_good i (struct os) slot t h = absurd t.1
  bare_good i (union n v) slot t h = absurd t.1
  bare_good i (enum n) slot t h = h
  bare_good i unit slot t h = h
  bare_good i (any d) slot t h = h
  bare_good i (hamt d) slot t h = h

  -- a typed holder whose parts are good, and which passes its own test
  parts_good : (i : I) (k : Holder) (slot : Slot) → Held slot k → L i slot (holder_of rows slot (value_of k)) → PartsGood (below i slot) k → G i slot (value_of k)
  parts_good i (fields fs os) slot t l h =
      (l, subst (λ f. FieldsGood rows I below L (below i slot) (fields_of f) (optionals_of os)) (sym t.1) (each_fields (below i slot) (t.0).fields os (subst (λ gs. EachGood (below i slot) gs os) t.2 h)))
  parts_good i (member ms n v) slot t l h =
      (l, subst (λ f. IfSome (member_of f n) (λ u. G (below i slot) u v)) (sym t.2) (good_member (below i slot) (slice_get (t.0).members n) v (subst (λ ns. IfSome (slice_get ns n) (λ m. G (below i slot) (plainly m.ty) v)) t.3 h)))
  parts_good i (entries key elem paired ps) slot t l h =
      (l, subst (λ f. IfSome (element_of f) (λ u. EntriesGood rows I below L (below i slot) u (pairs_of ps))) (sym t.4) (each_pairs (below i slot) elem ps h))
  parts_good i (elements elem vs) slot t l h =
      (l, subst (λ f. IfSome (element_of f) (λ u. AllGood rows I below L (below i slot) u (values_of vs))) (sym t.1) (each_values (below i slot) elem vs h))
  parts_good i (any_entries ms) slot t l h = l
  parts_good i (any_elements ds) slot t l h = l
  parts_good i (nothing v) slot t l h = bare_good i v slot t l

  -- ---- parts

  field_at_first : (i : I) (s : List ℕ) (f : Field) (fs : List Field) (o : Option Value) (os : List (Option Value)) (q : InSlot) (b : Bool) → EachGood i (f ∷ fs) (o ∷ os)
      → cond b (option_map (λ v. (f.slot, v)) o) (field_at s fs os) ≡ Some q → (field_at s fs os ≡ Some q → G i q.0 q.1) → G i q.0 q.1
  field_at_first i s f fs None os q true h e rest = absurd (none-some q e)
  field_at_first i s f fs (Some v) os q true h e rest = subst (λ (r : InSlot). G i r.0 r.1) (same_Some (f.slot, v) q e) h.0
  field_at_first i s f fs o os q false h e rest = rest e

  field_good : (i : I) (s : List ℕ) (fs : List Field) (os : List (Option Value)) (q : InSlot) → EachGood i fs os → field_at s fs os ≡ Some q → G i q.0 q.1
  field_good i s [] os q h e = absurd (none-some q e)
  field_good i s (f ∷ fs) [] q h e = absurd (none-some q e)
  field_good i s (f ∷ fs) (o ∷ os) q h e = field_at_first i s f fs o os q (same_text s f.name) h e (λ g. field_good i s fs os q h.1 g)

  any_part : (i : I) (slot : Slot) (d : Data) (k : Holder) (s : List ℕ) (q : InSlot) (o : Option Data) → any_holder d ≡ k → part k s ≡ option_map (λ e. (anything, of_any e)) o → L i slot k
      → option_map (λ e. (anything, of_any e)) o ≡ Some q → G (below i slot) q.0 q.1
  any_part i slot d k s q o is at l e =
      let y = inside_any o q e in
      subst (λ (r : InSlot). G (below i slot) r.0 r.1) y.2 (goes i slot d y.0 s (subst (λ h. L i slot h) (sym is) l) (ap (λ h. part h s) is ∙ at ∙ e ∙ ap Some (sym y.2)))

  part_of : (i : I) (k : Holder) (slot : Slot) (s : List ℕ) (q : InSlot) → Held slot k → L i slot k → PartsGood (below i slot) k → part k s ≡ Some q → G (below i slot) q.0 q.1
  part_of i (fields fs os) slot s q t l h e = field_good (below i slot) s fs os q h e
  part_of i (member ms n v) slot s q t l h e =
      let x = held_named rows is_key (told rows schema).apart (told rows schema).any_there slot ms n v s q t e in
      subst (λ (r : InSlot). G (below i slot) r.0 r.1) x.1 (subst (λ o. IfSome o (λ m. G (below i slot) (plainly m.ty) v)) t.4 h)
  part_of i (entries key elem paired ps) slot s q t l h e =
      let x = with_slot elem (value_at s ps) q e in
      subst (λ (r : InSlot). G (below i slot) r.0 r.1) x.2 (each_found (EntryGood (below i slot) elem) s x.0 ps h x.1)
  part_of i (elements elem vs) slot s q t l h e =
      let x = with_slot elem (option_and_then (λ i. slice_get vs i) (index_of s)) q e in
      let j = indexed vs (index_of s) x.0 x.1 in
      subst (λ (r : InSlot). G (below i slot) r.0 r.1) x.2 (each_got (λ v. G (below i slot) elem v) vs j.0 x.0 h j.1)
  part_of i (any_entries ms) slot s q t l h e = any_part i slot (D.map (members_of ms)) (any_entries ms) s q (value_at s ms) (ap (λ xs. any_entries xs) (members_list-members_of ms)) refl l e
  part_of i (any_elements ds) slot s q t l h e =
      any_part i slot (D.list (items_of ds)) (any_elements ds) s q (option_and_then (λ i. slice_get ds i) (index_of s)) (ap (λ xs. any_elements xs) (items_list-items_of ds)) refl l e
  part_of i (nothing v) slot s q t l h e = absurd (none-some q e)

  -- ---- what is set, there before or not

  declared_first : (i : I) (s : List ℕ) (c : Value) (f : Field) (fs : List Field) (o : Option Value) (os : List (Option Value)) (r : Slot) (b : Bool) → EachGood i (f ∷ fs) (o ∷ os)
      → cond b (Some f.slot) (declared_slot s fs os) ≡ Some r → G i r c → (declared_slot s fs os ≡ Some r → EachGood i fs (set_field s (Some c) fs os))
      → EachGood i (f ∷ fs) (cond b (Some c ∷ os) (o ∷ set_field s (Some c) fs os))
  declared_first i s c f fs o os r true h e n rest = (subst (λ r. G i r c) (sym (same_Some f.slot r e)) n, h.1)
  declared_first i s c f fs o os r false h e n rest = (h.0, rest e)

  declared_good : (i : I) (s : List ℕ) (c : Value) (fs : List Field) (os : List (Option Value)) (r : Slot) → EachGood i fs os → declared_slot s fs os ≡ Some r → G i r c → EachGood i fs (set_field s (Some c) fs os)
  declared_good i s c [] os r h e n = absurd (none-some r e)
  declared_good i s c (f ∷ fs) [] r h e n = absurd (none-some r e)
  declared_good i s c (f ∷ fs) (o ∷ os) r h e n = declared_first i s c f fs o os r (same_text s f.name) h e n (λ w. declared_good i s c fs os r h.1 w n)

  other_member : (i : I) (ms : List Member) (n : ℕ) (v c : Value) (s : List ℕ) (r : Slot) (o : Option (ℕ × Member)) → member_named s ms ≡ o → option_map (λ (p : ℕ × Member). plainly (p.1).ty) o ≡ Some r → G i r c
      → PartsGood i (option_map_or (λ (p : ℕ × Member). member ms p.0 c) o (member ms n v))
  other_member i ms n v c s r None e h g = absurd (none-some r h)
  other_member i ms n v c s r (Some p) e h g =
      let m = member-named s ms p e in
      subst (λ o. IfSome o (λ m. G i (plainly m.ty) c)) (sym m.placed) (subst (λ r. G i r c) (sym (same_Some (plainly (p.1).ty) r h)) g)

  set_of : (i : I) (k : Holder) (s : List ℕ) (r : Slot) (c : Value) → PartsGood i k → slot_to_set k s ≡ Some r → G i r c → PartsGood i (set_part k s c)
  set_of i (fields fs os) s r c h e g = declared_good i s c fs os r h e g
  set_of i (member ms n v) s r c h e g = other_member i ms n v c s r (member_named s ms) refl e g
  set_of i (entries key elem paired ps) s r c h e g = each_by (EntryGood i elem) paired s c ps h (subst (λ r. G i r c) (sym (same_Some elem r e)) g)
  set_of i (elements elem vs) s r c h e g =
      let x = slot_given elem (option_and_then (λ i. slice_get vs i) (index_of s)) r e in
      each_at (λ v. G i elem v) (λ i xs. slice_set xs i c) (index_of s) vs h (λ j. each_with (λ v. G i elem v) vs j c h (subst (λ r. G i r c) (sym x) g))
  set_of i (any_entries ms) s r c h e g = tt
  set_of i (any_elements ds) s r c h e g = tt
  set_of i (nothing v) s r c h e g = tt

  module _ (keys : TestsKeys rows is_key) where
    typed : (p : InSlot) → OfType rows p.0 p.1 → Held p.0 (seen rows p)
    typed p is = held rows is_key (told rows schema).apart (told rows schema).any_there p.1 p.0 (to_parts rows is_key keys p.1 p.0 is)

    good_of : (i : I) (p : InSlot) → OfType rows p.0 p.1 → G i p.0 p.1 → PartsGood (below i p.0) (seen rows p)
    good_of i p is h = good_parts i p.1 p.0 (to_parts rows is_key keys p.1 p.0 is) h

    -- a changed holder that passes its own test, with a good part
    whole_of : (i : I) (p : InSlot) (s : List ℕ) (r : Slot) (c : Value) → OfType rows p.0 p.1 → G i p.0 p.1 → OfType rows p.0 (value_of (set_part (seen rows p) s c)) → slot_to_set (seen rows p) s ≡ Some r
        → L i p.0 (set_part (seen rows p) s c) → G (below i p.0) r c → G i p.0 (value_of (set_part (seen rows p) s c))
    whole_of i p s r c is h new e l g =
        let k = set_part (seen rows p) s c in
        let seen_so = set_part-seen rows p.0 p.1 s c in
        parts_good i k p.0 (subst (λ k. Held p.0 k) seen_so (typed (p.0, value_of k) new)) (subst (λ k. L i p.0 k) (sym seen_so) l) (set_of (below i p.0) (seen rows p) s r c (good_of i p is h) e g)

    pub good_is_layered : IsLayered rows (λ slot v. OfType rows slot v) I (λ i p s. below i p.0) (λ i slot v. IsGood rows I below L i slot v) L
    good_is_layered =
        let kept = of_type_is_kept rows is_key schema keys in
        record {
          own = λ i p is h. own_of i p.0 p.1 h;
          parts = λ i p q s is h e. part_of i (seen rows p) p.0 s q (typed p is) (own_of i p.0 p.1 h) (good_of i p is h) e;
          steady = λ i p q s c is e new. refl;
          whole = λ i p q s c is h e new l g.
              let slot = kept.slots p q s is e in
              whole_of i p s q.0 c is h (kept.set p s q.0 c is slot (kept.there p q s is e) new) slot l g;
        }

    -- what is set at the last segment, there before or not: its holder's own test, and its own judgement
    pub good_where_set : (i : I) (p : InSlot) (s : List ℕ) (slot : Slot) (w : Value) → OfType rows p.0 p.1 → IsGood rows I below L i p.0 p.1 → slot_to_set (seen rows p) s ≡ Some slot → MayStand is_key (seen rows p) s → OfType rows slot w
        → IsGood rows I below L i p.0 (value_of (set_part (seen rows p) s w)) ↔ (L i p.0 (set_part (seen rows p) s w) × IsGood rows I below L (below i p.0) slot w)
    good_where_set i p s slot w is good free stands new =
        let kept = of_type_is_kept rows is_key schema keys in
        let c = value_of (set_part (seen rows p) s w) in
        let whole : OfType rows p.0 c = kept.set p s slot w is free stands new in
        let seen_so = set_part-seen rows p.0 p.1 s w in
        let there : part (seen rows (p.0, c)) s ≡ Some (slot, w) =
        ap (λ h. part h s) seen_so ∙ set_part-there (seen rows p) s slot w free (λ e. kept.inside w (subst (λ r. OfType rows r w) e new)) in (
          λ j. (
            subst (λ h. L i p.0 h) seen_so (own_of i p.0 c j),
            part_of i (seen rows (p.0, c)) p.0 s (slot, w) (typed (p.0, c) whole) (own_of i p.0 c j) (good_of i (p.0, c) whole j) there,
          ),
          λ tests. whole_of i p s slot w is good whole free tests.0 tests.1,
        )
