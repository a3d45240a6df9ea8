-- Types without parts: nothing is found in their values, and these take no level.
use Rattle.std.proofs.Common.{◌≡◌, ℕ, List, [], Bool, true, false, Option, Some, None, option_map, slice_get, refl, sym, ◌∙◌, ap, subst, arith}
use Rattle.std.specs.Prelude.{is_none}
use Rattle.std.proofs.lemmas.Option.{same_Some, none-some}
use Rattle.ild_schema.specs.declared.number.Slot.{Slot}
use Rattle.ild_schema.specs.declared.def.TypeDef.{TypeDef}
use Rattle.ild_schema.specs.declared.def.TypeDef.TheVariants as D
use Rattle.ild_schema.specs.declared.def.Field.{Field}
use Rattle.ild_schema.specs.declared.row.Row.{Row}
use Rattle.ild_schema.specs.Slots.{form_of}
use Rattle.ild_schema.specs.Value as V
use Rattle.ild_schema.specs.Value.{Value, values_list, pairs_list, optionals_list}
use Rattle.ild_typed.specs.EachLayer.{some_layer}
use Rattle.ild_typed.specs.Fits.{Fits}
use Rattle.ild_typed.specs.Judged.{is_hole, breaks}
use Rattle.ild_typed.specs.Layer.{Layer}
use Rattle.ild_typed.specs.Layers.{layer_of}
use Rattle.ild_typed.specs.Levels.{levels_of}
use Rattle.ild_typed.specs.OfType.{OfType}
use Rattle.ild_typed.specs.Slots.{element_of, fields_of, member_of}
use Rattle.ild_typed.proofs.OneLayer.{in_layer, null_in}
use Rattle.ild_build.specs.inside.Leaf.{IsLeaf, HasLeaves, is_bare}
use Rattle.ild_build.specs.PartAt.{field_at, member_at, value_part_at, places}
use Rattle.ild_build.proofs.PartTests.{at_of, by_parts}
use Rattle.ild_build.proofs.RoomParts.{null_room, to_leaf}

-- ---- types of scalars and of enums

-- a type that names no other
record IsBare (rows : List Row) (d : TypeDef) : Type 0 where
  element : element_of (Some d) ≡ None
  fields : fields_of (Some d) ≡ []
  member : (n : ℕ) → member_of (Some d) n ≡ None
  hole : (v : Value) → is_hole (Some d) v ≡ false
  delimiter : (v : Value) → breaks rows (Some d) v ≡ false
  levels : (v : Value) → levels_of d v ≡ 0

no_field : (d : TypeDef) → fields_of (Some d) ≡ [] → (i : ℕ) → option_map (λ (f : Field). f.slot) (slice_get (fields_of (Some d)) i) ≡ None
no_field d e i = ap (λ fs. option_map (λ (f : Field). f.slot) (slice_get fs i)) e

false_true : false ≡ true → ⊥
false_true e = absurd cc

bare : (rows : List Row) (d : TypeDef) → is_bare d ≡ true → IsBare rows d
bare rows D.Bool e = record { element = refl; fields = refl; member = λ n. refl; hole = λ v. refl; delimiter = λ v. refl; levels = λ v. refl }
bare rows D.Text e = record { element = refl; fields = refl; member = λ n. refl; hole = λ v. refl; delimiter = λ v. refl; levels = λ v. refl }
bare rows D.Bytes e = record { element = refl; fields = refl; member = λ n. refl; hole = λ v. refl; delimiter = λ v. refl; levels = λ v. refl }
bare rows D.Int e = record { element = refl; fields = refl; member = λ n. refl; hole = λ v. refl; delimiter = λ v. refl; levels = λ v. refl }
bare rows (D.Link target) e = record { element = refl; fields = refl; member = λ n. refl; hole = λ v. refl; delimiter = λ v. refl; levels = λ v. refl }
bare rows (D.Enum en) e = record { element = refl; fields = refl; member = λ n. refl; hole = λ v. refl; delimiter = λ v. refl; levels = λ v. refl }
bare rows d e = absurd (false_true e)

null_of : (v : Value) → layer_of v ≡ None → v ≡ V.null
null_of V.null e = refl
null_of v e = absurd (false_true (ap is_none e))

module _ (rows : List Row) (s : Slot) (d : TypeDef) (form : form_of rows s ≡ Some d) (is : is_bare d ≡ true) where
  own : IsBare rows d
  own = bare rows d is

  no_part : (v : Value) (i : ℕ) (u : Slot) (w : Value) → value_part_at (Some d) v i ≡ Some (u, w) → ⊥
  no_part (V.list vs) i u w e = none-some u (sym own.element ∙ (at_of (element_of (Some d)) (slice_get (values_list vs) i) u w e).slot)
  no_part (V.map ps) i u w e = none-some u (sym own.element ∙ (at_of (element_of (Some d)) (option_map (λ (p : List ℕ × Value). p.1) (slice_get (pairs_list ps) i)) u w e).slot)
  no_part (V.struct os) i u w e = none-some u (sym (no_field d own.fields i) ∙ (at_of (option_map (λ (f : Field). f.slot) (slice_get (fields_of (Some d)) i)) (field_at (optionals_list os) i) u w e).slot)
  no_part (V.union n v) i u w e = none-some u (sym (own.member n) ∙ (at_of (member_of (Some d) n) (member_at v i) u w e).slot)
  no_part v i u w e = none-some {A = Slot × Value} (u, w) e

  nothing_found : (test : Option TypeDef → Value → Bool) (v : Value) → test (Some d) v ≡ false → some_layer test rows s v ≡ false
  nothing_found test v here = by_parts test rows s v d form here (places v) (omega arith) (λ i u w less e. absurd (no_part v i u w e))

  -- in a layer without levels nothing takes room
  layer_room : (room : ℕ) (v : Value) (l : Layer Value) → layer_of v ≡ Some l → OfType rows s v → Fits rows room s v
  layer_room room v l is typed =
      let x = in_layer rows s v l is typed in
      to_leaf rows room s v l x.ty (OfType rows) (ap (λ c. levels_of c v) (same_Some x.ty d (sym x.form ∙ form)) ∙ own.levels v) is x.form x.holds

  room_left : (room : ℕ) (v : Value) → OfType rows s v → Fits rows room s v
  room_left room v typed = by (layer_of v) refl
    where
      by : (o : Option (Layer Value)) → layer_of v ≡ o → Fits rows room s v
      by None is = let null = null_of v is in subst (Fits rows room s) (sym null) (null_room rows room s (null_in rows s (subst (OfType rows s) null typed)))
      by (Some l) is = layer_room room v l is typed

  pub leaf_value : (v : Value) → IsLeaf rows s v
  leaf_value v = record { hole = nothing_found is_hole v (own.hole v); delimiter = nothing_found (breaks rows) v (own.delimiter v); room = λ room typed. room_left room v typed }

-- ---- parts of a list and of a map

-- a type with elements has no other parts
record OnlyElements (d : TypeDef) : Type 0 where
  fields : fields_of (Some d) ≡ []
  member : (n : ℕ) → member_of (Some d) n ≡ None

only_elements : (d : TypeDef) (u : Slot) → element_of (Some d) ≡ Some u → OnlyElements d
only_elements (D.List elem at) u e = record { fields = refl; member = λ n. refl }
only_elements (D.Map key key_at value at form) u e = record { fields = refl; member = λ n. refl }
only_elements d u e = absurd (none-some u e)

pub leaves_of : (rows : List Row) (d : TypeDef) (u : Slot) → element_of (Some d) ≡ Some u → ((w : Value) → IsLeaf rows u w) → HasLeaves rows d
leaves_of rows d u is leaf = record { each = λ v i s w e. subst (λ t. IsLeaf rows t w) (slot_is v i s w e) (leaf w) }
  where
    slot_is : (v : Value) (i : ℕ) (s : Slot) (w : Value) → value_part_at (Some d) v i ≡ Some (s, w) → u ≡ s
    slot_is (V.list vs) i s w e = same_Some u s (sym is ∙ (at_of (element_of (Some d)) (slice_get (values_list vs) i) s w e).slot)
    slot_is (V.map ps) i s w e = same_Some u s (sym is ∙ (at_of (element_of (Some d)) (option_map (λ (p : List ℕ × Value). p.1) (slice_get (pairs_list ps) i)) s w e).slot)
    slot_is (V.struct os) i s w e =
        let a = at_of (option_map (λ (f : Field). f.slot) (slice_get (fields_of (Some d)) i)) (field_at (optionals_list os) i) s w e in
        absurd (none-some s (sym (no_field d (only_elements d u is).fields i) ∙ a.slot))
    slot_is (V.union n v) i s w e = absurd (none-some s (sym ((only_elements d u is).member n) ∙ (at_of (member_of (Some d) n) (member_at v i) s w e).slot))
    slot_is v i s w e = absurd (none-some {A = Slot × Value} (s, w) e)
