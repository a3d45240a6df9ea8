-- One holder whose part is set or inserted, or goes: a HAMT, where the nodes on the segment's way are given, or another.
use Rattle.std.proofs.Common.{◌≡◌, ℕ, List, [], ◌∷◌, Bool, true, false, Option, Some, None, refl, ap, sym, subst, ◌∙◌}
use Rattle.std.specs.Prelude.{option_and_then}
use Rattle.std.specs.List.{AllByRecursion}
use Rattle.std.proofs.lemmas.Option.{same_Some, none-some}
use Rattle.ild_data.specs.Data.{Data}
use Rattle.ild_data.specs.declared.hamt_shape.HamtShape.{HamtShape}
use Rattle.ild_schema.specs.declared.def.MapForm.TheVariants as MF
use Rattle.ild_schema.specs.declared.def.TypeDef.{TypeDef}
use Rattle.ild_schema.specs.declared.def.TypeDef.TheVariants as D
use Rattle.ild_schema.specs.declared.number.Slot.{Slot}
use Rattle.ild_schema.specs.declared.number.TypeNo.{TypeNo}
use Rattle.ild_schema.specs.declared.row.Row.{Row}
use Rattle.ild_schema.specs.Slots.{form_of}
use Rattle.ild_schema.specs.Value as V
use Rattle.ild_schema.specs.Value.{Value, Pairs, pairs_list}
use Rattle.ild_typed.specs.At.{InSlot, at, seen}
use Rattle.ild_typed.specs.Hamt.{whole}
use Rattle.ild_typed.specs.Holder.{Holder, entries, holder_of, map_holder, value_of}
use Rattle.ild_typed.specs.OfType.{OfType, TestsKeys}
use Rattle.ild_typed.specs.Represented.{represented}
use Rattle.ild_typed.specs.Schema.{IsSchema}
use Rattle.ild_typed.specs.Segment.{part, set_part}
use Rattle.ild_typed_places.specs.Places.{Place, Places, places_in}
use Rattle.ild_path_places.proofs.Along.{places_of_parts}
use Rattle.ild_value_meaning.proofs.Told.{told}
use Rattle.ild_value_meaning.proofs.TypedByParts.{to_parts}
use Rattle.ild_path_edits.specs.Table.{slot_to_set, slot_to_insert, insert_part, refusal_to_delete, delete_part}
use Rattle.ild_path_edits.proofs.HeldTyped.{IsHeld, held}
use Rattle.ild_path_edits.proofs.Holders.{set_part-seen}
use Rattle.ild_path_edits.proofs.Seen.{insert_part-seen, delete_part-seen}
use Rattle.ild_typed_fronts.specs.Front.{is_hamt, stands_as_root, is_root}
use Rattle.ild_typed_fronts.proofs.Holding.{unless_some}
use Rattle.ild_typed_fronts.proofs.Pathing.{holder_back, set_root, insert_root, delete_root}
use Rattle.ild_path_nodes.specs.NodeLaws.{IsHamt}
use Rattle.ild_path_way.specs.Way.{nodes_for}
use Rattle.ild_path_passed.proofs.Joined.{lying}
use Rattle.ild_path_passed.proofs.Mapping.{entry_put, entry_gone}
use Rattle.ild_path_passed.proofs.Parting.{set_has, insert_has, delete_has}
use Rattle.ild_path_passed.proofs.Holding.{N, Parts, to_holder, from_holder}

hamt_is : (G : Option TypeDef) → is_hamt G ≡ true → (elem : Slot) × (key : TypeNo) × (key_at : ℕ) × (place : ℕ) × (p : HamtShape) × (G ≡ Some (D.Map key key_at elem place (MF.Hamt p)))
hamt_is None e = absurd cc
hamt_is (Some d) e = by d e where
  by : (d : TypeDef) → is_hamt (Some d) ≡ true → (elem : Slot) × (key : TypeNo) × (key_at : ℕ) × (place : ℕ) × (p : HamtShape) × (Some d ≡ Some (D.Map key key_at elem place (MF.Hamt p)))
  by (D.Map key key_at elem place (MF.Hamt p)) e = (elem, key, key_at, place, p, refl)
  by (D.Map key key_at elem place MF.Map) e = absurd cc
  by (D.Map key key_at elem place MF.ListPairs) e = absurd cc
  by (D.Map key key_at elem place (MF.StringPairs inner entry)) e = absurd cc
  by d e = absurd cc

module _ (Q : Place → Type 0) (Given : List ℕ → Type 0) (gives : (b : List ℕ) (ps : Places) → Given b → Q (b, ps)) (h : List ℕ → List ℕ) (rows : List Row) (is_key : ℕ → List ℕ → Bool)
    (schema : IsSchema rows) (keys : TestsKeys rows is_key) where
  abbrev Of : Slot → Value → Type 0
  Of slot v = OfType rows slot v

  abbrev pub Has : Slot → Value → Type 0
  Has slot v = N Q Given gives h rows slot v

  -- the nodes on a segment's way are given
  abbrev pub OnWay : Slot → Value → List ℕ → Type 0
  OnWay slot c s = AllByRecursion Given (nodes_for h rows (form_of rows slot) c s)

  pub part_step : (p q : InSlot) (s : List ℕ) → Has p.0 p.1 → part (seen rows p) s ≡ Some q → Has q.0 q.1
  part_step p q s a e = lying Q (places_in h rows q.0 q.1) (places_in h rows p.0 p.1) (places_of_parts h rows p q (s ∷ []) (ap (λ o. option_and_then (λ r. at rows r []) o) e)) a

  -- ---- a holder that is no HAMT

  has_parts : (p : InSlot) → Of p.0 p.1 → Has p.0 p.1 → Parts Q Given gives h rows (seen rows p)
  has_parts p is a = to_holder Q Given gives h rows is_key p.0 p.1 (to_parts rows is_key keys p.1 p.0 is) a

  whole_has : (slot : Slot) (k : Holder) → holder_of rows slot (value_of k) ≡ k → Of slot (value_of k) → stands_as_root (form_of rows slot) (value_of k) ≡ false → Parts Q Given gives h rows k → Has slot (value_of k)
  whole_has slot k same is plain a =
      let ok = told rows schema in
      from_holder Q Given gives h rows is_key ok.apart ok.any_there slot k
      (subst (λ k. IsHeldIn slot k) same (held rows is_key ok.apart ok.any_there (value_of k) slot (to_parts rows is_key keys (value_of k) slot is))) plain a
    where
      IsHeldIn : Slot → Holder → Type 0
      IsHeldIn slot k = IsHeld rows is_key (told rows schema).apart (told rows schema).any_there slot k

  still_plain : (p : InSlot) → is_root rows p ≡ false → stands_as_root (form_of rows p.0) (value_of (seen rows p)) ≡ false
  still_plain p plain = ap (stands_as_root (form_of rows p.0)) (holder_back rows p.0 p.1) ∙ plain

  plain_set : (p : InSlot) (s : List ℕ) (u : Slot) (w : Value) → Of p.0 p.1 → is_root rows p ≡ false → slot_to_set (seen rows p) s ≡ Some u → Of p.0 (value_of (set_part (seen rows p) s w)) → Has p.0 p.1 → Has u w
      → Has p.0 (value_of (set_part (seen rows p) s w))
  plain_set p s u w is plain slot new a b =
      whole_has p.0 (set_part (seen rows p) s w) (set_part-seen rows p.0 p.1 s w) new (set_root (form_of rows p.0) (seen rows p) s w (still_plain p plain))
      (set_has (N Q Given gives h rows) (seen rows p) s u w (has_parts p is a) slot b)

  plain_insert : (p : InSlot) (s : List ℕ) (u : Slot) (w : Value) → Of p.0 p.1 → is_root rows p ≡ false → slot_to_insert (seen rows p) s ≡ Some u → Of p.0 (value_of (insert_part (seen rows p) s w)) → Has p.0 p.1 → Has u w
      → Has p.0 (value_of (insert_part (seen rows p) s w))
  plain_insert p s u w is plain slot new a b =
      whole_has p.0 (insert_part (seen rows p) s w) (insert_part-seen rows p.0 p.1 s w) new (insert_root (form_of rows p.0) (seen rows p) s w (still_plain p plain))
      (insert_has (N Q Given gives h rows) h rows (seen rows p) s u w (has_parts p is a) slot b)

  plain_delete : (p : InSlot) (s : List ℕ) → Of p.0 p.1 → is_root rows p ≡ false → Of p.0 (value_of (delete_part (seen rows p) s)) → Has p.0 p.1 → Has p.0 (value_of (delete_part (seen rows p) s))
  plain_delete p s is plain new a =
      whole_has p.0 (delete_part (seen rows p) s) (delete_part-seen rows p.0 p.1 s) new (delete_root (form_of rows p.0) (seen rows p) s (still_plain p plain))
      (delete_has (N Q Given gives h rows) (seen rows p) s (has_parts p is a))

  -- ---- a HAMT

  module _ (slot elem : Slot) (ps : Pairs) (is : IsHamt rows slot elem) (t : Data) (made : represented (whole h) rows slot (V.map ps) ≡ Some t) (a : Has slot (V.map ps)) where
    abbrev Held : Holder
    Held = map_holder (form_of rows slot) ps

    held_is : Held ≡ entries is.0.0 elem false (pairs_list ps)
    held_is = ap (λ G. map_holder G ps) is.4

    hamt_set : (s : List ℕ) (u : Slot) (w : Value) → slot_to_set Held s ≡ Some u → Has u w → OnWay slot (value_of (set_part Held s w)) s → Has slot (value_of (set_part Held s w))
    hamt_set s u w slot_is b given =
        let same : elem ≡ u = same_Some elem u (sym (ap (λ k. slot_to_set k s) held_is) ∙ slot_is) in
        subst (λ k. OnWay slot (value_of (set_part k s w)) s → Has slot (value_of (set_part k s w))) (sym held_is)
        (entry_put Q Given gives h rows slot elem is s ps t made a w (subst (λ r. Has r w) (sym same) b)) given

    hamt_insert : (s : List ℕ) (u : Slot) (w : Value) → slot_to_insert Held s ≡ Some u → Has u w → OnWay slot (value_of (insert_part Held s w)) s → Has slot (value_of (insert_part Held s w))
    hamt_insert s u w slot_is b given =
        let same : elem ≡ u = unless_some h rows _ elem u (sym (ap (λ k. slot_to_insert k s) held_is) ∙ slot_is) in
        subst (λ k. OnWay slot (value_of (insert_part k s w)) s → Has slot (value_of (insert_part k s w))) (sym held_is)
        (entry_put Q Given gives h rows slot elem is s ps t made a w (subst (λ r. Has r w) (sym same) b)) given

    hamt_delete : (s : List ℕ) → OnWay slot (value_of (delete_part Held s)) s → Has slot (value_of (delete_part Held s))
    hamt_delete s given =
        subst (λ k. OnWay slot (value_of (delete_part k s)) s → Has slot (value_of (delete_part k s))) (sym held_is)
        (entry_gone Q Given gives h rows slot elem is s ps t made a) given

  -- ---- a root of a HAMT alone has no parts, and what is no root is no HAMT

  abbrev Rep : Slot → Value → Data → Type 0
  Rep slot v t = represented (whole h) rows slot v ≡ Some t

  root_set : (slot : Slot) (v : Value) (s : List ℕ) (u : Slot) (w : Value) (t : Data) → is_root rows (slot, v) ≡ true → Rep slot v t → slot_to_set (seen rows (slot, v)) s ≡ Some u → Has slot v → Has u w
      → OnWay slot (value_of (set_part (seen rows (slot, v)) s w)) s → Has slot (value_of (set_part (seen rows (slot, v)) s w))
  root_set slot (V.map ps) s u w t root made slot_is a b given = let k = hamt_is (form_of rows slot) root in hamt_set slot k.0 ps (k.1, k.2, k.3, k.4, k.5) t made a s u w slot_is b given
  root_set slot (V.hamt d) s u w t root made slot_is a b given = absurd (none-some u slot_is)
  root_set slot v s u w t root made slot_is a b given = let wrong : false ≡ true = root in absurd cc

  root_insert : (slot : Slot) (v : Value) (s : List ℕ) (u : Slot) (w : Value) (t : Data) → is_root rows (slot, v) ≡ true → Rep slot v t → slot_to_insert (seen rows (slot, v)) s ≡ Some u → Has slot v → Has u w
      → OnWay slot (value_of (insert_part (seen rows (slot, v)) s w)) s → Has slot (value_of (insert_part (seen rows (slot, v)) s w))
  root_insert slot (V.map ps) s u w t root made slot_is a b given = let k = hamt_is (form_of rows slot) root in hamt_insert slot k.0 ps (k.1, k.2, k.3, k.4, k.5) t made a s u w slot_is b given
  root_insert slot (V.hamt d) s u w t root made slot_is a b given = absurd (none-some u slot_is)
  root_insert slot v s u w t root made slot_is a b given = let wrong : false ≡ true = root in absurd cc

  root_delete : (slot : Slot) (v : Value) (s : List ℕ) (t : Data) → is_root rows (slot, v) ≡ true → Rep slot v t → refusal_to_delete (seen rows (slot, v)) s ≡ None → Has slot v
      → OnWay slot (value_of (delete_part (seen rows (slot, v)) s)) s → Has slot (value_of (delete_part (seen rows (slot, v)) s))
  root_delete slot (V.map ps) s t root made free a given = let k = hamt_is (form_of rows slot) root in hamt_delete slot k.0 ps (k.1, k.2, k.3, k.4, k.5) t made a s given
  root_delete slot (V.hamt d) s t root made free a given = absurd cc
  root_delete slot v s t root made free a given = let wrong : false ≡ true = root in absurd cc

  -- ---- any holder

  pub set_step : (p : InSlot) (s : List ℕ) (u : Slot) (w : Value) (t : Data) → Of p.0 p.1 → Rep p.0 p.1 t → slot_to_set (seen rows p) s ≡ Some u → Of p.0 (value_of (set_part (seen rows p) s w)) → Has p.0 p.1 → Has u w
      → OnWay p.0 (value_of (set_part (seen rows p) s w)) s → Has p.0 (value_of (set_part (seen rows p) s w))
  set_step p s u w t is made slot new a b given = by (is_root rows p) refl where
    by : (x : Bool) → is_root rows p ≡ x → Has p.0 (value_of (set_part (seen rows p) s w))
    by false plain = plain_set p s u w is plain slot new a b
    by true root = root_set p.0 p.1 s u w t root made slot a b given

  pub insert_step : (p : InSlot) (s : List ℕ) (u : Slot) (w : Value) (t : Data) → Of p.0 p.1 → Rep p.0 p.1 t → slot_to_insert (seen rows p) s ≡ Some u → Of p.0 (value_of (insert_part (seen rows p) s w)) → Has p.0 p.1 → Has u w
      → OnWay p.0 (value_of (insert_part (seen rows p) s w)) s → Has p.0 (value_of (insert_part (seen rows p) s w))
  insert_step p s u w t is made slot new a b given = by (is_root rows p) refl where
    by : (x : Bool) → is_root rows p ≡ x → Has p.0 (value_of (insert_part (seen rows p) s w))
    by false plain = plain_insert p s u w is plain slot new a b
    by true root = root_insert p.0 p.1 s u w t root made slot a b given

  pub delete_step : (p : InSlot) (s : List ℕ) (t : Data) → Of p.0 p.1 → Rep p.0 p.1 t → refusal_to_delete (seen rows p) s ≡ None → Of p.0 (value_of (delete_part (seen rows p) s)) → Has p.0 p.1
      → OnWay p.0 (value_of (delete_part (seen rows p) s)) s → Has p.0 (value_of (delete_part (seen rows p) s))
  delete_step p s t is made free new a given = by (is_root rows p) refl where
    by : (x : Bool) → is_root rows p ≡ x → Has p.0 (value_of (delete_part (seen rows p) s))
    by false plain = plain_delete p s is plain new a
    by true root = root_delete p.0 p.1 s t root made free a given
