-- A test of layers that no part of a holder meets: of the parts, and of what a part that is set, inserted or deleted makes of the holder.
use Rattle.std.proofs.Common.{◌≡◌, ℕ, zero, suc, cond, List, [], ◌∷◌, length, slice_get, insert, Bool, true, false, Option, Some, None, refl, ap, sym, ◌∙◌, subst}
use Rattle.std.specs.Prelude.{IfSome, slice_set, remove, option_map, option_and_then}
use Rattle.std.specs.Option.{option_map_or}
use Rattle.std.proofs.lemmas.Option.{same_Some, none-some}
use Rattle.std.proofs.lemmas.Bool.{or_parts, or_from}
use Rattle.ild_data.specs.Data as D
use Rattle.ild_data.specs.Data.{Data}
use Rattle.ild_data.specs.Key.{same_text, value_at}
use Rattle.ild_schema.specs.declared.def.Field.{Field}
use Rattle.ild_schema.specs.declared.def.Member.{Member}
use Rattle.ild_schema.specs.declared.def.TypeDef.{TypeDef}
use Rattle.ild_schema.specs.declared.def.TypeDef.TheVariants as T
use Rattle.ild_schema.specs.declared.number.Slot.{Slot}
use Rattle.ild_schema.specs.declared.row.Row.{Row}
use Rattle.ild_schema.specs.Prelude.{anything}
use Rattle.ild_schema.specs.Slots.{form_of, plainly}
use Rattle.ild_schema.specs.Value as V
use Rattle.ild_schema.specs.Value.{Value, Values, Pairs, Optionals, values_of, values_list, pairs_of, pairs_list, optionals_of, optionals_list}
use Rattle.ild_typed.specs.At.{InSlot, seen}
use Rattle.ild_typed.specs.EachLayer.{some_layer, some_value, some_pair, some_field}
use Rattle.ild_typed.specs.Holder.{Holder, fields, member, entries, elements, any_entries, any_elements, nothing, list_holder, map_holder, struct_holder, union_holder, value_of, of_any, data_in}
use Rattle.ild_typed.specs.Segment.{part, set_part, field_at, set_field, held_as, member_named, index_of, at_index, put_by}
use Rattle.ild_typed.specs.Slots.{element_of, fields_of, member_of, slot_of}
use Rattle.ild_value_meaning.proofs.ByParts.{ByParts}
use Rattle.ild_value_meaning.proofs.Members.{member-named}
use Rattle.ild_value_meaning.proofs.Told.{AreToldApart}
use Rattle.ild_path_edits.specs.Along.{IsFree, LayerPasses}
use Rattle.ild_path_edits.specs.Table.{declared_slot, slot_to_set, new_index, slot_to_insert, insert_part, delete_part}
use Rattle.ild_path_edits.proofs.HeldTyped.{IsHeld, IsBare, with_slot, inside_any, indexed, slot_given}
use Rattle.ild_path_edits.proofs.Typing.{Each, each_got, each_with, each_inserted, each_removed, each_at, each_by, each_without, each_found}
use Rattle.ild_path_edits.proofs.Entries.{field-there, put_by-there}
use Rattle.ild_typed_fronts.proofs.Holding.{to_declared, unless_some}
use Rattle.ild_typed_fronts.proofs.Pathing.{holder_back}

module _ (test : Option TypeDef → Value → Bool) (rows : List Row) where
  abbrev pub Free : Slot → Value → Type 0
  Free s v = IsFree test rows s v

  abbrev pub EntryFree : Slot → List ℕ × Value → Type 0
  EntryFree s p = Free s p.1

  abbrev pub MayFree : Field → Option Value → Type 0
  MayFree f None = Unit {0}
  MayFree f (Some v) = Free f.slot v

  abbrev pub EachFree : List Field → List (Option Value) → Type 0
  EachFree [] os = Unit {0}
  EachFree (f ∷ fs) [] = Unit {0}
  EachFree (f ∷ fs) (o ∷ os) = MayFree f o × EachFree fs os

  -- no part of a holder meets the test
  abbrev pub PartsFree : Holder → Type 0
  PartsFree (fields fs os) = EachFree fs os
  PartsFree (member ms n v) = IfSome (slice_get ms n) (λ m. Free (plainly m.ty) v)
  PartsFree (entries key elem paired ps) = Each (EntryFree elem) ps
  PartsFree (elements elem vs) = Each (Free elem) vs
  PartsFree (any_entries ms) = Unit {0}
  PartsFree (any_elements ds) = Unit {0}
  PartsFree (nothing v) = Unit {0}

  -- ---- plain lists

  values_each : (u : Slot) (vs : Values) → some_value test rows u vs ≡ false → Each (Free u) (values_list vs)
  values_each u V.no_values a = tt
  values_each u (V.value v vs) a = let x = or_parts (some_layer test rows u v) (some_value test rows u vs) a in (x.0, values_each u vs x.1)

  each_values : (u : Slot) (xs : List Value) → Each (Free u) xs → some_value test rows u (values_of xs) ≡ false
  each_values u [] a = refl
  each_values u (x ∷ xs) a = or_from (some_layer test rows u x) (some_value test rows u (values_of xs)) a.0 (each_values u xs a.1)

  pairs_each : (u : Slot) (ps : Pairs) → some_pair test rows u ps ≡ false → Each (EntryFree u) (pairs_list ps)
  pairs_each u V.no_pairs a = tt
  pairs_each u (V.pair k v ps) a = let x = or_parts (some_layer test rows u v) (some_pair test rows u ps) a in (x.0, pairs_each u ps x.1)

  each_pairs : (u : Slot) (xs : List (List ℕ × Value)) → Each (EntryFree u) xs → some_pair test rows u (pairs_of xs) ≡ false
  each_pairs u [] a = refl
  each_pairs u (x ∷ xs) a = or_from (some_layer test rows u x.1) (some_pair test rows u (pairs_of xs)) a.0 (each_pairs u xs a.1)

  fields_each : (fs : List Field) (os : Optionals) → some_field test rows fs os ≡ false → EachFree fs (optionals_list os)
  fields_each [] os a = tt
  fields_each (f ∷ fs) V.no_optionals a = tt
  fields_each (f ∷ fs) (V.absent os) a = (tt, fields_each fs os a)
  fields_each (f ∷ fs) (V.present v os) a = let x = or_parts (some_layer test rows f.slot v) (some_field test rows fs os) a in (x.0, fields_each fs os x.1)

  each_fields : (fs : List Field) (xs : List (Option Value)) → EachFree fs xs → some_field test rows fs (optionals_of xs) ≡ false
  each_fields fs [] a = refl
  each_fields [] (None ∷ xs) a = refl
  each_fields [] (Some v ∷ xs) a = refl
  each_fields (f ∷ fs) (None ∷ xs) a = each_fields fs xs a.1
  each_fields (f ∷ fs) (Some v ∷ xs) a = or_from (some_layer test rows f.slot v) (some_field test rows fs (optionals_of xs)) a.0 (each_fields fs xs a.1)

  -- ---- a value and its holder

  -- its own test, seen as that of the holder
  own_of : (slot : Slot) (k : Holder) → test (form_of rows slot) (value_of k) ≡ false → LayerPasses test rows slot k
  own_of slot (fields fs os) a = a
  own_of slot (member ms n v) a = a
  own_of slot (entries key elem paired ps) a = a
  own_of slot (elements elem vs) a = a
  own_of slot (any_entries ms) a = tt
  own_of slot (any_elements ds) a = tt
  own_of slot (nothing v) a = tt

  own_seen : (slot : Slot) (v : Value) → test (form_of rows slot) v ≡ false → LayerPasses test rows slot (seen rows (slot, v))
  own_seen slot v a = own_of slot (seen rows (slot, v)) (ap (test (form_of rows slot)) (holder_back rows slot v) ∙ a)

  member_parts : (o : Option Member) (v : Value) → option_map_or (λ u. some_layer test rows u v) (option_map slot_of o) false ≡ false → IfSome o (λ m. Free (plainly m.ty) v)
  member_parts None v a = tt
  member_parts (Some m) v a = a

  parts_member : (o : Option Member) (v : Value) → IfSome o (λ m. Free (plainly m.ty) v) → option_map_or (λ u. some_layer test rows u v) (option_map slot_of o) false ≡ false
  parts_member None v a = refl
  parts_member (Some m) v a = a

  pub parts_seen : (is_key : ℕ → List ℕ → Bool) (slot : Slot) (v : Value) → ByParts rows is_key slot v → Free slot v → LayerPasses test rows slot (seen rows (slot, v)) × PartsFree (seen rows (slot, v))
  parts_seen is_key slot V.null t a = (tt, tt)
  parts_seen is_key slot (V.boolean b) t a = (tt, tt)
  parts_seen is_key slot (V.integer n) t a = (tt, tt)
  parts_seen is_key slot (V.text s) t a = (tt, tt)
  parts_seen is_key slot (V.bytes s) t a = (tt, tt)
  parts_seen is_key slot (V.link s) t a = (tt, tt)
  parts_seen is_key slot (V.list vs) t a =
      let x = or_parts (test (form_of rows slot) (V.list vs)) (option_map_or (λ u. some_value test rows u vs) (element_of (form_of rows slot)) false) a in (
        own_seen slot (V.list vs) x.0,
        subst (λ G. option_map_or (λ u. some_value test rows u vs) (element_of G) false ≡ false → PartsFree (list_holder G vs)) (sym t.2) (λ b. values_each t.0 vs b) x.1,
      )
  parts_seen is_key slot (V.map ps) t a =
      let x = or_parts (test (form_of rows slot) (V.map ps)) (option_map_or (λ u. some_pair test rows u ps) (element_of (form_of rows slot)) false) a in (
        own_seen slot (V.map ps) x.0,
        subst (λ G. option_map_or (λ u. some_pair test rows u ps) (element_of G) false ≡ false → PartsFree (map_holder G ps)) (sym t.5) (λ b. pairs_each t.2 ps b) x.1,
      )
  parts_seen is_key slot (V.struct os) t a =
      let x = or_parts (test (form_of rows slot) (V.struct os)) (some_field test rows (fields_of (form_of rows slot)) os) a in (
        own_seen slot (V.struct os) x.0,
        subst (λ G. some_field test rows (fields_of G) os ≡ false → PartsFree (struct_holder G os)) (sym t.1) (λ b. fields_each (t.0).fields os b) x.1,
      )
  parts_seen is_key slot (V.union n v) t a =
      let x = or_parts (test (form_of rows slot) (V.union n v)) (option_map_or (λ u. some_layer test rows u v) (member_of (form_of rows slot) n) false) a in (
        own_seen slot (V.union n v) x.0,
        subst (λ G. option_map_or (λ u. some_layer test rows u v) (member_of G n) false ≡ false → PartsFree (union_holder G n v)) (sym t.2) (λ b. member_parts (slice_get (t.0).members n) v b) x.1,
      )
  parts_seen is_key slot (V.enum n) t a = (tt, tt)
  parts_seen is_key slot V.unit t a = (tt, tt)
  parts_seen is_key slot (V.any D.null) t a = (tt, tt)
  parts_seen is_key slot (V.any (D.boolean b)) t a = (tt, tt)
  parts_seen is_key slot (V.any (D.integer n)) t a = (tt, tt)
  parts_seen is_key slot (V.any (D.text s)) t a = (tt, tt)
  parts_seen is_key slot (V.any (D.bytes s)) t a = (tt, tt)
  parts_seen is_key slot (V.any (D.list ds)) t a = (tt, tt)
  parts_seen is_key slot (V.any (D.map ms)) t a = (tt, tt)
  parts_seen is_key slot (V.any (D.link s)) t a = (tt, tt)
  parts_seen is_key slot (V.hamt d) t a = (tt, tt)

  bare : (slot : Slot) (v : Value) → IsBare v → Free slot v
  bare slot V.null t = refl
  bare slot (V.boolean b) t = refl
  bare slot (V.integer n) t = refl
  bare slot (V.text s) t = refl
  bare slot (V.bytes s) t = refl
  bare slot (V.link s) t = refl
  bare slot (V.list vs) t = absurd t
  bare slot (V.map ps) t = absurd t
  bare slot (V.struct os) t = absurd t
  bare slot (V.union n v) t = absurd t
  bare slot (V.enum n) t = refl
  bare slot V.unit t = refl
  bare slot (V.any d) t = refl
  bare slot (V.hamt d) t = refl

  module _ (is_key : ℕ → List ℕ → Bool) (apart : AreToldApart rows) (any_there : form_of rows anything ≡ Some T.Any) where
    abbrev Held : Slot → Holder → Type 0
    Held slot k = IsHeld rows is_key apart any_there slot k

    pub from_parts : (slot : Slot) (k : Holder) → Held slot k → LayerPasses test rows slot k → PartsFree k → Free slot (value_of k)
    from_parts slot (fields fs os) t o a =
        or_from (test (form_of rows slot) (V.struct (optionals_of os))) (some_field test rows (fields_of (form_of rows slot)) (optionals_of os)) o
        (subst (λ G. some_field test rows (fields_of G) (optionals_of os) ≡ false) (sym t.1) (each_fields (t.0).fields os (subst (λ gs. EachFree gs os) t.2 a)))
    from_parts slot (member ms n v) t o a =
        or_from (test (form_of rows slot) (V.union n v)) (option_map_or (λ u. some_layer test rows u v) (member_of (form_of rows slot) n) false) o
        (subst (λ G. option_map_or (λ u. some_layer test rows u v) (member_of G n) false ≡ false) (sym t.2)
        (parts_member (slice_get (t.0).members n) v (subst (λ ns. IfSome (slice_get ns n) (λ m. Free (plainly m.ty) v)) t.3 a)))
    from_parts slot (entries key elem paired ps) t o a =
        or_from (test (form_of rows slot) (V.map (pairs_of ps))) (option_map_or (λ u. some_pair test rows u (pairs_of ps)) (element_of (form_of rows slot)) false) o
        (subst (λ G. option_map_or (λ u. some_pair test rows u (pairs_of ps)) (element_of G) false ≡ false) (sym t.4) (each_pairs elem ps a))
    from_parts slot (elements elem vs) t o a =
        or_from (test (form_of rows slot) (V.list (values_of vs))) (option_map_or (λ u. some_value test rows u (values_of vs)) (element_of (form_of rows slot)) false) o
        (subst (λ G. option_map_or (λ u. some_value test rows u (values_of vs)) (element_of G) false ≡ false) (sym t.1) (each_values elem vs a))
    from_parts slot (any_entries ms) t o a = refl
    from_parts slot (any_elements ds) t o a = refl
    from_parts slot (nothing v) t o a = bare slot v t.1

  -- ---- parts

  data_free : (d : Data) → Free anything (of_any d)
  data_free D.null = refl
  data_free (D.boolean b) = refl
  data_free (D.integer n) = refl
  data_free (D.text s) = refl
  data_free (D.bytes s) = refl
  data_free (D.list ds) = refl
  data_free (D.map ms) = refl
  data_free (D.link s) = refl

  inside_free : (o : Option Data) (q : InSlot) → option_map (λ d. (anything, of_any d)) o ≡ Some q → Free q.0 q.1
  inside_free o q e = let x = inside_any o q e in subst (λ (r : InSlot). Free r.0 r.1) x.2 (data_free x.0)

  field_free : (s : List ℕ) (fs : List Field) (os : List (Option Value)) (q : InSlot) → EachFree fs os → field_at s fs os ≡ Some q → Free q.0 q.1
  field_free s [] os q a e = absurd (none-some q e)
  field_free s (f ∷ fs) [] q a e = absurd (none-some q e)
  field_free s (f ∷ fs) (o ∷ os) q a e = by (same_text s f.name) o a.0 e (λ g. field_free s fs os q a.1 g) where
    by : (b : Bool) (o : Option Value) → MayFree f o → cond b (option_map (λ v. (f.slot, v)) o) (field_at s fs os) ≡ Some q → (field_at s fs os ≡ Some q → Free q.0 q.1) → Free q.0 q.1
    by true None m g rest = absurd (none-some q g)
    by true (Some v) m g rest = subst (λ (r : InSlot). Free r.0 r.1) (same_Some (f.slot, v) q g) m
    by false o m g rest = rest g

  member_free : (s : List ℕ) (v : Value) (o : Option Member) (q : InSlot) → IfSome o (λ m. Free (plainly m.ty) v) → held_as s v o ≡ Some q → Free q.0 q.1
  member_free s v None q a e = absurd (none-some q e)
  member_free s v (Some m) q a e = by (same_text s m.name) e where
    by : (b : Bool) → cond b (Some (plainly m.ty, v)) None ≡ Some q → Free q.0 q.1
    by true g = subst (λ (r : InSlot). Free r.0 r.1) (same_Some (plainly m.ty, v) q g) a
    by false g = absurd (none-some q g)

  pub part_free : (k : Holder) (s : List ℕ) (q : InSlot) → PartsFree k → part k s ≡ Some q → Free q.0 q.1
  part_free (fields fs os) s q a e = field_free s fs os q a e
  part_free (member ms n v) s q a e = member_free s v (slice_get ms n) q a e
  part_free (entries key elem paired ps) s q a e =
      let x = with_slot elem (value_at s ps) q e in
      subst (λ (r : InSlot). Free r.0 r.1) x.2 (each_found (EntryFree elem) s x.0 ps a x.1)
  part_free (elements elem vs) s q a e =
      let x = with_slot elem (option_and_then (λ i. slice_get vs i) (index_of s)) q e in
      let j = indexed vs (index_of s) x.0 x.1 in
      subst (λ (r : InSlot). Free r.0 r.1) x.2 (each_got (Free elem) vs j.0 x.0 a j.1)
  part_free (any_entries ms) s q a e = inside_free (value_at s ms) q e
  part_free (any_elements ds) s q a e = inside_free (option_and_then (λ i. slice_get ds i) (index_of s)) q e
  part_free (nothing v) s q a e = absurd (none-some q e)

  -- ---- what becomes of a holder

  declared_free : (s : List ℕ) (c : Value) (fs : List Field) (os : List (Option Value)) (r : Slot) → EachFree fs os → declared_slot s fs os ≡ Some r → Free r c → EachFree fs (set_field s (Some c) fs os)
  declared_free s c [] os r a e n = absurd (none-some r e)
  declared_free s c (f ∷ fs) [] r a e n = absurd (none-some r e)
  declared_free s c (f ∷ fs) (o ∷ os) r a e n = by (same_text s f.name) e (λ g. declared_free s c fs os r a.1 g n) where
    by : (b : Bool) → cond b (Some f.slot) (declared_slot s fs os) ≡ Some r → (declared_slot s fs os ≡ Some r → EachFree fs (set_field s (Some c) fs os)) → EachFree (f ∷ fs) (cond b (Some c ∷ os) (o ∷ set_field s (Some c) fs os))
    by true g rest = (subst (λ r. Free r c) (sym (same_Some f.slot r g)) n, a.1)
    by false g rest = (a.0, rest g)

  gone_free : (s : List ℕ) (fs : List Field) (os : List (Option Value)) → EachFree fs os → EachFree fs (set_field s None fs os)
  gone_free s [] os a = tt
  gone_free s (f ∷ fs) [] a = tt
  gone_free s (f ∷ fs) (o ∷ os) a = by (same_text s f.name) (gone_free s fs os a.1) where
    by : (b : Bool) → EachFree fs (set_field s None fs os) → EachFree (f ∷ fs) (cond b (None ∷ os) (o ∷ set_field s None fs os))
    by true rest = (tt, a.1)
    by false rest = (a.0, rest)

  other_member : (ms : List Member) (n : ℕ) (v c : Value) (s : List ℕ) (r : Slot) (o : Option (ℕ × Member)) → member_named s ms ≡ o → option_map (λ (p : ℕ × Member). plainly (p.1).ty) o ≡ Some r → Free r c
      → PartsFree (option_map_or (λ (p : ℕ × Member). member ms p.0 c) o (member ms n v))
  other_member ms n v c s r None e h g = absurd (none-some r h)
  other_member ms n v c s r (Some p) e h g =
      let m = member-named s ms p e in
      subst (λ o. IfSome o (λ m. Free (plainly m.ty) c)) (sym m.placed) (subst (λ r. Free r c) (sym (same_Some (plainly (p.1).ty) r h)) g)

  pub set_free : (k : Holder) (s : List ℕ) (r : Slot) (c : Value) → PartsFree k → slot_to_set k s ≡ Some r → Free r c → PartsFree (set_part k s c)
  set_free (fields fs os) s r c a e n = declared_free s c fs os r a e n
  set_free (member ms k v) s r c a e n = other_member ms k v c s r (member_named s ms) refl e n
  set_free (entries key elem paired ps) s r c a e n = each_by (EntryFree elem) paired s c ps a (subst (λ r. Free r c) (sym (same_Some elem r e)) n)
  set_free (elements elem vs) s r c a e n =
      let x = slot_given elem (option_and_then (λ i. slice_get vs i) (index_of s)) r e in
      each_at (Free elem) (λ i xs. slice_set xs i c) (index_of s) vs a (λ j. each_with (Free elem) vs j c a (subst (λ r. Free r c) (sym x) n))
  set_free (any_entries ms) s r c a e n = tt
  set_free (any_elements ds) s r c a e n = tt
  set_free (nothing v) s r c a e n = tt

  pub insert_free : (k : Holder) (s : List ℕ) (r : Slot) (c : Value) → PartsFree k → slot_to_insert k s ≡ Some r → Free r c → PartsFree (insert_part k s c)
  insert_free (fields fs os) s r c a e n = declared_free s c fs os r a (to_declared (λ x. x) rows s fs os r e) n
  insert_free (member ms k v) s r c a e n = absurd (none-some r e)
  insert_free (entries key elem paired ps) s r c a e n = each_by (EntryFree elem) paired s c ps a (subst (λ r. Free r c) (sym (unless_some (λ x. x) rows _ elem r e)) n)
  insert_free (elements elem vs) s r c a e n =
      let x = slot_given elem (new_index (length vs) s) r e in
      each_at (Free elem) (λ i xs. insert xs i c) (new_index (length vs) s) vs a (λ j. each_inserted (Free elem) vs j c a (subst (λ r. Free r c) (sym x) n))
  insert_free (any_entries ms) s r c a e n = tt
  insert_free (any_elements ds) s r c a e n = tt
  insert_free (nothing v) s r c a e n = tt

  pub delete_free : (k : Holder) (s : List ℕ) → PartsFree k → PartsFree (delete_part k s)
  delete_free (fields fs os) s a = gone_free s fs os a
  delete_free (member ms n v) s a = a
  delete_free (entries key elem paired ps) s a = each_without (EntryFree elem) s ps a
  delete_free (elements elem vs) s a = each_at (Free elem) (λ i xs. remove xs i) (index_of s) vs a (λ j. each_removed (Free elem) vs j a)
  delete_free (any_entries ms) s a = tt
  delete_free (any_elements ds) s a = tt
  delete_free (nothing v) s a = tt

  -- ---- and what came is free where the parts then are

  inserted_each : {X : Type 0} (P : X → Type 0) (xs : List X) (i : ℕ) (x : X) → Each P (insert xs i x) → P x
  inserted_each P [] zero x h = h.0
  inserted_each P [] (suc i) x h = h.0
  inserted_each P (y ∷ ys) zero x h = h.0
  inserted_each P (y ∷ ys) (suc i) x h = inserted_each P ys i x h.1

  inserted_at : {X : Type 0} (P : X → Type 0) (xs : List X) (o : Option ℕ) (x : X) (elem r : Slot) → option_map (λ i. elem) o ≡ Some r → Each P (at_index (λ i ys. insert ys i x) o xs) → P x
  inserted_at P xs None x elem r e h = absurd (none-some r e)
  inserted_at P xs (Some i) x elem r e h = inserted_each P xs i x h

  pub came_free : (k : Holder) (s : List ℕ) (r : Slot) (w : Value) → (r ≡ anything → of_any (data_in w) ≡ w) → PartsFree (insert_part k s w) → slot_to_insert k s ≡ Some r → Free r w
  came_free (fields fs os) s r w inside h e = field_free s fs (set_field s (Some w) fs os) (r, w) h (field-there s w fs os r (to_declared (λ x. x) rows s fs os r e))
  came_free (member ms n v) s r w inside h e = absurd (none-some r e)
  came_free (entries key elem paired ps) s r w inside h e =
      subst (λ r. Free r w) (unless_some (λ x. x) rows _ elem r e) (each_found (EntryFree elem) s w (put_by paired s w ps) h (put_by-there paired s w ps))
  came_free (elements elem vs) s r w inside h e = subst (λ r. Free r w) (slot_given elem (new_index (length vs) s) r e) (inserted_at (Free elem) vs (new_index (length vs) s) w elem r e h)
  came_free (any_entries ms) s r w inside h e =
      let same : anything ≡ r = unless_some (λ x. x) rows _ anything r e in
      subst (λ r. Free r w) same (subst (λ v. Free anything v) (inside (sym same)) (data_free (data_in w)))
  came_free (any_elements ds) s r w inside h e =
      let same : anything ≡ r = slot_given anything (new_index (length ds) s) r e in
      subst (λ r. Free r w) same (subst (λ v. Free anything v) (inside (sym same)) (data_free (data_in w)))
  came_free (nothing v) s r w inside h e = absurd (none-some r e)
