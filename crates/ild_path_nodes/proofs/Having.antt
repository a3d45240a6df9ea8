-- A property of all nodes of a value, by what holds its parts.
use Rattle.std.proofs.Common.{◌≡◌, ℕ, cond, List, [], ◌∷◌, ◌++◌, length, slice_get, insert, Bool, true, false, Option, Some, None, refl, sym, subst}
use Rattle.std.specs.Prelude.{IfSome, slice_set, remove, option_map, option_and_then}
use Rattle.std.specs.List.{AllByRecursion}
use Rattle.std.specs.Option.{option_map_or}
use Rattle.std.proofs.lemmas.Option.{same_Some, none-some}
use Rattle.ild_data.proofs.AllOf.{all_split, all_append}
use Rattle.ild_data.specs.Data as T
use Rattle.ild_data.specs.Data.{Data}
use Rattle.ild_data.specs.Key.{same_text, value_at}
use Rattle.ild_schema.specs.declared.def.Field.{Field}
use Rattle.ild_schema.specs.declared.def.MapForm.{MapForm}
use Rattle.ild_schema.specs.declared.def.MapForm.TheVariants as MF
use Rattle.ild_schema.specs.declared.def.Member.{Member}
use Rattle.ild_schema.specs.declared.def.TypeDef.{TypeDef}
use Rattle.ild_schema.specs.declared.def.TypeDef.TheVariants as D
use Rattle.ild_schema.specs.declared.number.Slot.{Slot}
use Rattle.ild_schema.specs.declared.row.Row.{Row}
use Rattle.ild_schema.specs.Prelude.{anything}
use Rattle.ild_schema.specs.Slots.{form_of, plainly}
use Rattle.ild_schema.specs.Value as V
use Rattle.ild_schema.specs.Value.{Value, Values, Pairs, Optionals, values_of, values_list, pairs_of, pairs_list, optionals_of, optionals_list}
use Rattle.ild_typed.specs.At.{InSlot, seen}
use Rattle.ild_typed.specs.Blocks.{nodes, nodes_of_values, nodes_of_pairs, nodes_of_fields, hamt_nodes}
use Rattle.ild_typed.specs.Hamt.{whole}
use Rattle.ild_typed.specs.Holder.{Holder, fields, member, entries, elements, any_entries, any_elements, nothing, list_holder, map_holder, struct_holder, union_holder, value_of, of_any}
use Rattle.ild_typed.specs.Represented.{represented_pairs}
use Rattle.ild_typed.specs.Segment.{part, set_part, field_at, set_field, held_as, member_named, index_of}
use Rattle.ild_typed.specs.Slots.{element_of, fields_of, member_of, slot_of}
use Rattle.ild_value_meaning.proofs.ByParts.{ByParts}
use Rattle.ild_value_meaning.proofs.Members.{member-named}
use Rattle.ild_value_meaning.proofs.Told.{AreToldApart}
use Rattle.ild_path_edits.specs.Table.{declared_slot, slot_to_set, new_index, slot_to_insert, insert_part, delete_part}
use Rattle.ild_path_edits.proofs.HeldTyped.{IsHeld, IsBare, with_slot, inside_any, indexed, slot_given}
use Rattle.ild_path_edits.proofs.Typing.{Each, each_got, each_with, each_inserted, each_removed, each_at, each_by, each_without, each_found}
use Rattle.ild_typed_fronts.specs.Front.{is_hamt, stands_as_root}
use Rattle.ild_typed_fronts.proofs.Holding.{to_declared, unless_some}
use Rattle.ild_typed_fronts.proofs.Pathing.{pairs_back}

module _ (P : List ℕ → Type 0) (h : List ℕ → List ℕ) (rows : List Row) where
  abbrev pub N : Slot → Value → Type 0
  N s v = AllByRecursion P (nodes h rows s v)

  abbrev pub EntryHas : Slot → List ℕ × Value → Type 0
  EntryHas s p = N s p.1

  abbrev pub MayHave : Field → Option Value → Type 0
  MayHave f None = Unit {0}
  MayHave f (Some v) = N f.slot v

  abbrev pub EachHas : List Field → List (Option Value) → Type 0
  EachHas [] os = Unit {0}
  EachHas (f ∷ fs) [] = Unit {0}
  EachHas (f ∷ fs) (o ∷ os) = MayHave f o × EachHas fs os

  -- the parts of a holder have it
  abbrev pub PartsHave : Holder → Type 0
  PartsHave (fields fs os) = EachHas fs os
  PartsHave (member ms n v) = IfSome (slice_get ms n) (λ m. N (plainly m.ty) v)
  PartsHave (entries key elem paired ps) = Each (EntryHas elem) ps
  PartsHave (elements elem vs) = Each (N elem) vs
  PartsHave (any_entries ms) = Unit {0}
  PartsHave (any_elements ds) = Unit {0}
  PartsHave (nothing v) = Unit {0}

  -- the nodes of the HAMT that a holder is
  abbrev pub own : Slot → Holder → List (List ℕ)
  own s (entries key elem paired ps) = hamt_nodes h (form_of rows s) (represented_pairs (whole h) rows elem (pairs_of ps))
  own s k = []

  abbrev pub Own : Slot → Holder → Type 0
  Own s k = AllByRecursion P (own s k)

  -- ---- plain lists

  values_each : (u : Slot) (vs : Values) → AllByRecursion P (nodes_of_values h rows u vs) → Each (N u) (values_list vs)
  values_each u V.no_values a = tt
  values_each u (V.value v vs) a = let x = all_split P (nodes h rows u v) (nodes_of_values h rows u vs) a in (x.0, values_each u vs x.1)

  each_values : (u : Slot) (xs : List Value) → Each (N u) xs → AllByRecursion P (nodes_of_values h rows u (values_of xs))
  each_values u [] a = tt
  each_values u (x ∷ xs) a = all_append P (nodes h rows u x) (nodes_of_values h rows u (values_of xs)) a.0 (each_values u xs a.1)

  pub pairs_each : (u : Slot) (ps : Pairs) → AllByRecursion P (nodes_of_pairs h rows u ps) → Each (EntryHas u) (pairs_list ps)
  pairs_each u V.no_pairs a = tt
  pairs_each u (V.pair k v ps) a = let x = all_split P (nodes h rows u v) (nodes_of_pairs h rows u ps) a in (x.0, pairs_each u ps x.1)

  pub each_pairs : (u : Slot) (xs : List (List ℕ × Value)) → Each (EntryHas u) xs → AllByRecursion P (nodes_of_pairs h rows u (pairs_of xs))
  each_pairs u [] a = tt
  each_pairs u (x ∷ xs) a = all_append P (nodes h rows u x.1) (nodes_of_pairs h rows u (pairs_of xs)) a.0 (each_pairs u xs a.1)

  fields_each : (fs : List Field) (os : Optionals) → AllByRecursion P (nodes_of_fields h rows fs os) → EachHas fs (optionals_list os)
  fields_each [] os a = tt
  fields_each (f ∷ fs) V.no_optionals a = tt
  fields_each (f ∷ fs) (V.absent os) a = (tt, fields_each fs os a)
  fields_each (f ∷ fs) (V.present v os) a = let x = all_split P (nodes h rows f.slot v) (nodes_of_fields h rows fs os) a in (x.0, fields_each fs os x.1)

  each_fields : (fs : List Field) (xs : List (Option Value)) → EachHas fs xs → AllByRecursion P (nodes_of_fields h rows fs (optionals_of xs))
  each_fields fs [] a = tt
  each_fields [] (None ∷ xs) a = tt
  each_fields [] (Some v ∷ xs) a = tt
  each_fields (f ∷ fs) (None ∷ xs) a = each_fields fs xs a.1
  each_fields (f ∷ fs) (Some v ∷ xs) a = all_append P (nodes h rows f.slot v) (nodes_of_fields h rows fs (optionals_of xs)) a.0 (each_fields fs xs a.1)

  -- ---- a value and its holder

  list_parts : (G : Option TypeDef) (elem : Slot) (place : ℕ) (vs : Values) → G ≡ Some (D.List elem place) → AllByRecursion P (option_map_or (λ u. nodes_of_values h rows u vs) (element_of G) []) → PartsHave (list_holder G vs)
  list_parts G elem place vs e = subst (λ G. AllByRecursion P (option_map_or (λ u. nodes_of_values h rows u vs) (element_of G) []) → PartsHave (list_holder G vs)) (sym e) (λ a. values_each elem vs a)

  abbrev pub of_map : Option TypeDef → Pairs → List (List ℕ)
  of_map G ps = option_map_or (λ u. hamt_nodes h G (represented_pairs (whole h) rows u ps) ++ nodes_of_pairs h rows u ps) (element_of G) []

  map_parts : (slot : Slot) (G : Option TypeDef) (key : _) (key_at : ℕ) (elem : Slot) (place : ℕ) (form : MapForm) (ps : Pairs) → G ≡ Some (D.Map key key_at elem place form) → form_of rows slot ≡ G
      → AllByRecursion P (of_map G ps) → Own slot (map_holder G ps) × PartsHave (map_holder G ps)
  map_parts slot G key key_at elem place form ps e is =
      subst (λ G. form_of rows slot ≡ G → AllByRecursion P (of_map G ps) → Own slot (map_holder G ps) × PartsHave (map_holder G ps)) (sym e)
      (λ is a.
      let x = all_split P (hamt_nodes h (Some (D.Map key key_at elem place form)) (represented_pairs (whole h) rows elem ps)) (nodes_of_pairs h rows elem ps) a in
      (subst (λ qs. AllByRecursion P (hamt_nodes h (form_of rows slot) (represented_pairs (whole h) rows elem qs))) (sym (pairs_back ps)) (subst (λ G. AllByRecursion P (hamt_nodes h G (represented_pairs (whole h) rows elem ps))) (sym is) x.0), pairs_each elem ps x.1)) is

  member_parts : (o : Option Member) (v : Value) → AllByRecursion P (option_map_or (λ u. nodes h rows u v) (option_map slot_of o) []) → IfSome o (λ m. N (plainly m.ty) v)
  member_parts None v a = tt
  member_parts (Some m) v a = a

  parts_member : (o : Option Member) (v : Value) → IfSome o (λ m. N (plainly m.ty) v) → AllByRecursion P (option_map_or (λ u. nodes h rows u v) (option_map slot_of o) [])
  parts_member None v a = tt
  parts_member (Some m) v a = a

  pub to_holder : (is_key : ℕ → List ℕ → Bool) (slot : Slot) (v : Value) → ByParts rows is_key slot v → N slot v → Own slot (seen rows (slot, v)) × PartsHave (seen rows (slot, v))
  to_holder is_key slot V.null t a = (tt, tt)
  to_holder is_key slot (V.boolean b) t a = (tt, tt)
  to_holder is_key slot (V.integer n) t a = (tt, tt)
  to_holder is_key slot (V.text s) t a = (tt, tt)
  to_holder is_key slot (V.bytes s) t a = (tt, tt)
  to_holder is_key slot (V.link s) t a = (tt, tt)
  to_holder is_key slot (V.list vs) t a = (subst (λ G. Own slot (list_holder G vs)) (sym t.2) tt, list_parts (form_of rows slot) t.0 t.1 vs t.2 a)
  to_holder is_key slot (V.map ps) t a = map_parts slot (form_of rows slot) t.0 t.1 t.2 t.3 t.4 ps t.5 refl a
  to_holder is_key slot (V.struct os) t a =
      (subst (λ G. Own slot (struct_holder G os)) (sym t.1) tt, subst (λ G. AllByRecursion P (nodes_of_fields h rows (fields_of G) os) → PartsHave (struct_holder G os)) (sym t.1) (λ b. fields_each (t.0).fields os b) a)
  to_holder is_key slot (V.union n v) t a =
      (subst (λ G. Own slot (union_holder G n v)) (sym t.2) tt, subst (λ G. AllByRecursion P (option_map_or (λ u. nodes h rows u v) (member_of G n) []) → PartsHave (union_holder G n v)) (sym t.2) (λ b. member_parts (slice_get (t.0).members n) v b) a)
  to_holder is_key slot (V.enum n) t a = (tt, tt)
  to_holder is_key slot V.unit t a = (tt, tt)
  to_holder is_key slot (V.any T.null) t a = (tt, tt)
  to_holder is_key slot (V.any (T.boolean b)) t a = (tt, tt)
  to_holder is_key slot (V.any (T.integer n)) t a = (tt, tt)
  to_holder is_key slot (V.any (T.text s)) t a = (tt, tt)
  to_holder is_key slot (V.any (T.bytes s)) t a = (tt, tt)
  to_holder is_key slot (V.any (T.list ds)) t a = (tt, tt)
  to_holder is_key slot (V.any (T.map ms)) t a = (tt, tt)
  to_holder is_key slot (V.any (T.link s)) t a = (tt, tt)
  to_holder is_key slot (V.hamt d) t a = (tt, tt)

  bare : (slot : Slot) (v : Value) → IsBare v → N slot v
  bare slot V.null t = tt
  bare slot (V.boolean b) t = tt
  bare slot (V.integer n) t = tt
  bare slot (V.text s) t = tt
  bare slot (V.bytes s) t = tt
  bare slot (V.link s) t = tt
  bare slot (V.list vs) t = absurd t
  bare slot (V.map ps) t = absurd t
  bare slot (V.struct os) t = absurd t
  bare slot (V.union n v) t = absurd t
  bare slot (V.enum n) t = tt
  bare slot V.unit t = tt
  bare slot (V.any d) t = tt
  bare slot (V.hamt d) t = tt

  module _ (is_key : ℕ → List ℕ → Bool) (apart : AreToldApart rows) (any_there : form_of rows anything ≡ Some D.Any) where
    abbrev Held : Slot → Holder → Type 0
    Held slot k = IsHeld rows is_key apart any_there slot k

    pub from_holder : (slot : Slot) (k : Holder) → Held slot k → Own slot k → PartsHave k → N slot (value_of k)
    from_holder slot (fields fs os) t o a =
        subst (λ G. AllByRecursion P (nodes_of_fields h rows (fields_of G) (optionals_of os))) (sym t.1) (each_fields (t.0).fields os (subst (λ gs. EachHas gs os) t.2 a))
    from_holder slot (member ms n v) t o a =
        subst (λ G. AllByRecursion P (option_map_or (λ u. nodes h rows u v) (member_of G n) [])) (sym t.2) (parts_member (slice_get (t.0).members n) v (subst (λ ns. IfSome (slice_get ns n) (λ m. N (plainly m.ty) v)) t.3 a))
    from_holder slot (entries key elem paired ps) t o a =
        subst (λ G. AllByRecursion P (hamt_nodes h G (represented_pairs (whole h) rows elem (pairs_of ps))) → AllByRecursion P (of_map G (pairs_of ps))) (sym t.4)
        (λ b. all_append P (hamt_nodes h (Some (D.Map t.0 t.1 elem t.2 t.3)) (represented_pairs (whole h) rows elem (pairs_of ps))) (nodes_of_pairs h rows elem (pairs_of ps)) b (each_pairs elem ps a)) o
    from_holder slot (elements elem vs) t o a = subst (λ G. AllByRecursion P (option_map_or (λ u. nodes_of_values h rows u (values_of vs)) (element_of G) [])) (sym t.1) (each_values elem vs a)
    from_holder slot (any_entries ms) t o a = tt
    from_holder slot (any_elements ds) t o a = tt
    from_holder slot (nothing v) t o a = bare slot v t.1

  -- what is no HAMT has no nodes of its own
  plain_nodes : (G : Option TypeDef) (o : Option (List (List ℕ × Data))) → is_hamt G ≡ false → hamt_nodes h G o ≡ []
  plain_nodes None o e = refl
  plain_nodes (Some d) o e = by d o e where
    by : (d : TypeDef) (o : Option (List (List ℕ × Data))) → is_hamt (Some d) ≡ false → hamt_nodes h (Some d) o ≡ []
    by (D.Map key key_at elem place MF.Map) o e = refl
    by (D.Map key key_at elem place MF.ListPairs) o e = refl
    by (D.Map key key_at elem place (MF.StringPairs inner entry)) o e = refl
    by (D.Map key key_at elem place (MF.Hamt p)) o e = absurd cc
    by d o e = refl

  pub own_plain : (slot : Slot) (k : Holder) → stands_as_root (form_of rows slot) (value_of k) ≡ false → Own slot k
  own_plain slot (fields fs os) e = tt
  own_plain slot (member ms n v) e = tt
  own_plain slot (entries key elem paired ps) e = subst (AllByRecursion P) (sym (plain_nodes (form_of rows slot) (represented_pairs (whole h) rows elem (pairs_of ps)) e)) tt
  own_plain slot (elements elem vs) e = tt
  own_plain slot (any_entries ms) e = tt
  own_plain slot (any_elements ds) e = tt
  own_plain slot (nothing v) e = tt

  -- ---- parts

  data_has : (d : Data) → N anything (of_any d)
  data_has T.null = tt
  data_has (T.boolean b) = tt
  data_has (T.integer n) = tt
  data_has (T.text s) = tt
  data_has (T.bytes s) = tt
  data_has (T.list ds) = tt
  data_has (T.map ms) = tt
  data_has (T.link s) = tt

  inside_has : (o : Option Data) (q : InSlot) → option_map (λ d. (anything, of_any d)) o ≡ Some q → N q.0 q.1
  inside_has o q e = let x = inside_any o q e in subst (λ (r : InSlot). N r.0 r.1) x.2 (data_has x.0)

  field_has : (s : List ℕ) (fs : List Field) (os : List (Option Value)) (q : InSlot) → EachHas fs os → field_at s fs os ≡ Some q → N q.0 q.1
  field_has s [] os q a e = absurd (none-some q e)
  field_has s (f ∷ fs) [] q a e = absurd (none-some q e)
  field_has s (f ∷ fs) (o ∷ os) q a e = by (same_text s f.name) o a.0 e (λ g. field_has s fs os q a.1 g) where
    by : (b : Bool) (o : Option Value) → MayHave f o → cond b (option_map (λ v. (f.slot, v)) o) (field_at s fs os) ≡ Some q → (field_at s fs os ≡ Some q → N q.0 q.1) → N q.0 q.1
    by true None m g rest = absurd (none-some q g)
    by true (Some v) m g rest = subst (λ (r : InSlot). N r.0 r.1) (same_Some (f.slot, v) q g) m
    by false o m g rest = rest g

  member_has : (s : List ℕ) (v : Value) (o : Option Member) (q : InSlot) → IfSome o (λ m. N (plainly m.ty) v) → held_as s v o ≡ Some q → N q.0 q.1
  member_has s v None q a e = absurd (none-some q e)
  member_has s v (Some m) q a e = by (same_text s m.name) e where
    by : (b : Bool) → cond b (Some (plainly m.ty, v)) None ≡ Some q → N q.0 q.1
    by true g = subst (λ (r : InSlot). N r.0 r.1) (same_Some (plainly m.ty, v) q g) a
    by false g = absurd (none-some q g)

  pub part_has : (k : Holder) (s : List ℕ) (q : InSlot) → PartsHave k → part k s ≡ Some q → N q.0 q.1
  part_has (fields fs os) s q a e = field_has s fs os q a e
  part_has (member ms n v) s q a e = member_has s v (slice_get ms n) q a e
  part_has (entries key elem paired ps) s q a e =
      let x = with_slot elem (value_at s ps) q e in
      subst (λ (r : InSlot). N r.0 r.1) x.2 (each_found (EntryHas elem) s x.0 ps a x.1)
  part_has (elements elem vs) s q a e =
      let x = with_slot elem (option_and_then (λ i. slice_get vs i) (index_of s)) q e in
      let j = indexed vs (index_of s) x.0 x.1 in
      subst (λ (r : InSlot). N r.0 r.1) x.2 (each_got (N elem) vs j.0 x.0 a j.1)
  part_has (any_entries ms) s q a e = inside_has (value_at s ms) q e
  part_has (any_elements ds) s q a e = inside_has (option_and_then (λ i. slice_get ds i) (index_of s)) q e
  part_has (nothing v) s q a e = absurd (none-some q e)

  -- ---- what becomes of a holder

  declared_has : (s : List ℕ) (c : Value) (fs : List Field) (os : List (Option Value)) (r : Slot) → EachHas fs os → declared_slot s fs os ≡ Some r → N r c → EachHas fs (set_field s (Some c) fs os)
  declared_has s c [] os r a e n = absurd (none-some r e)
  declared_has s c (f ∷ fs) [] r a e n = absurd (none-some r e)
  declared_has s c (f ∷ fs) (o ∷ os) r a e n = by (same_text s f.name) e (λ g. declared_has s c fs os r a.1 g n) where
    by : (b : Bool) → cond b (Some f.slot) (declared_slot s fs os) ≡ Some r → (declared_slot s fs os ≡ Some r → EachHas fs (set_field s (Some c) fs os)) → EachHas (f ∷ fs) (cond b (Some c ∷ os) (o ∷ set_field s (Some c) fs os))
    by true g rest = (subst (λ r. N r c) (sym (same_Some f.slot r g)) n, a.1)
    by false g rest = (a.0, rest g)

  gone_has : (s : List ℕ) (fs : List Field) (os : List (Option Value)) → EachHas fs os → EachHas fs (set_field s None fs os)
  gone_has s [] os a = tt
  gone_has s (f ∷ fs) [] a = tt
  gone_has s (f ∷ fs) (o ∷ os) a = by (same_text s f.name) (gone_has s fs os a.1) where
    by : (b : Bool) → EachHas fs (set_field s None fs os) → EachHas (f ∷ fs) (cond b (None ∷ os) (o ∷ set_field s None fs os))
    by true rest = (tt, a.1)
    by false rest = (a.0, rest)

  other_member : (ms : List Member) (n : ℕ) (v c : Value) (s : List ℕ) (r : Slot) (o : Option (ℕ × Member)) → member_named s ms ≡ o → option_map (λ (p : ℕ × Member). plainly (p.1).ty) o ≡ Some r → N r c
      → PartsHave (option_map_or (λ (p : ℕ × Member). member ms p.0 c) o (member ms n v))
  other_member ms n v c s r None e h g = absurd (none-some r h)
  other_member ms n v c s r (Some p) e h g =
      let m = member-named s ms p e in
      subst (λ o. IfSome o (λ m. N (plainly m.ty) c)) (sym m.placed) (subst (λ r. N r c) (sym (same_Some (plainly (p.1).ty) r h)) g)

  pub set_has : (k : Holder) (s : List ℕ) (r : Slot) (c : Value) → PartsHave k → slot_to_set k s ≡ Some r → N r c → PartsHave (set_part k s c)
  set_has (fields fs os) s r c a e n = declared_has s c fs os r a e n
  set_has (member ms k v) s r c a e n = other_member ms k v c s r (member_named s ms) refl e n
  set_has (entries key elem paired ps) s r c a e n = each_by (EntryHas elem) paired s c ps a (subst (λ r. N r c) (sym (same_Some elem r e)) n)
  set_has (elements elem vs) s r c a e n =
      let x = slot_given elem (option_and_then (λ i. slice_get vs i) (index_of s)) r e in
      each_at (N elem) (λ i xs. slice_set xs i c) (index_of s) vs a (λ j. each_with (N elem) vs j c a (subst (λ r. N r c) (sym x) n))
  set_has (any_entries ms) s r c a e n = tt
  set_has (any_elements ds) s r c a e n = tt
  set_has (nothing v) s r c a e n = tt

  pub insert_has : (k : Holder) (s : List ℕ) (r : Slot) (c : Value) → PartsHave k → slot_to_insert k s ≡ Some r → N r c → PartsHave (insert_part k s c)
  insert_has (fields fs os) s r c a e n = declared_has s c fs os r a (to_declared h rows s fs os r e) n
  insert_has (member ms k v) s r c a e n = absurd (none-some r e)
  insert_has (entries key elem paired ps) s r c a e n = each_by (EntryHas elem) paired s c ps a (subst (λ r. N r c) (sym (unless_some h rows _ elem r e)) n)
  insert_has (elements elem vs) s r c a e n =
      let x = slot_given elem (new_index (length vs) s) r e in
      each_at (N elem) (λ i xs. insert xs i c) (new_index (length vs) s) vs a (λ j. each_inserted (N elem) vs j c a (subst (λ r. N r c) (sym x) n))
  insert_has (any_entries ms) s r c a e n = tt
  insert_has (any_elements ds) s r c a e n = tt
  insert_has (nothing v) s r c a e n = tt

  pub delete_has : (k : Holder) (s : List ℕ) → PartsHave k → PartsHave (delete_part k s)
  delete_has (fields fs os) s a = gone_has s fs os a
  delete_has (member ms n v) s a = a
  delete_has (entries key elem paired ps) s a = each_without (EntryHas elem) s ps a
  delete_has (elements elem vs) s a = each_at (N elem) (λ i xs. remove xs i) (index_of s) vs a (λ j. each_removed (N elem) vs j a)
  delete_has (any_entries ms) s a = tt
  delete_has (any_elements ds) s a = tt
  delete_has (nothing v) s a = tt
