-- The front of a value that is no HAMT is seen as the front of its holder, and so is what an edit makes of it.
use Rattle.std.proofs.Common.{◌≡◌, ℕ, List, [], ◌∷◌, map, slice_get, Bool, false, Option, Some, None, option_map, refl, ap, sym, subst, ◌∙◌}
use Rattle.std.specs.Option.{option_map_or}
use Rattle.ild_data.specs.Data as T
use Rattle.ild_data.specs.Data.{Data}
use Rattle.ild_schema.specs.declared.def.Field.{Field}
use Rattle.ild_schema.specs.declared.def.MapForm.{MapForm}
use Rattle.ild_schema.specs.declared.def.Member.{Member}
use Rattle.ild_schema.specs.declared.def.StructDef.{StructDef}
use Rattle.ild_schema.specs.declared.def.TypeDef.{TypeDef}
use Rattle.ild_schema.specs.declared.def.TypeDef.TheVariants as D
use Rattle.ild_schema.specs.declared.def.UnionDef.{UnionDef}
use Rattle.ild_schema.specs.declared.number.Slot.{Slot}
use Rattle.ild_schema.specs.declared.number.TypeNo.{TypeNo}
use Rattle.ild_schema.specs.declared.row.Row.{Row}
use Rattle.ild_schema.specs.Slots.{form_of, plainly}
use Rattle.ild_schema.specs.Value as V
use Rattle.ild_schema.specs.Value.{Value, Values, Pairs, Optionals, values_list, pairs_list, optionals_list}
use Rattle.ild_typed.specs.At.{InSlot, seen}
use Rattle.ild_typed.specs.Hamt.{whole}
use Rattle.ild_typed.specs.Holder.{fields, member, entries, elements, is_paired, list_holder, map_holder, struct_holder, union_holder, any_holder, holder_of}
use Rattle.ild_typed.specs.OfType.{OfType, TestsKeys}
use Rattle.ild_typed.specs.Represented.{represented}
use Rattle.ild_typed.specs.Segment.{part}
use Rattle.ild_typed.specs.Slots.{element_of, fields_of, member_of, slot_of}
use Rattle.ild_path_edits.specs.Table.{slot_to_set, slot_to_insert, key_fits, refusal_to_delete}
use Rattle.ild_value_meaning.proofs.ByParts.{ByParts}
use Rattle.ild_value_meaning.proofs.TypedByParts.{to_parts}
use Rattle.ild_typed_fronts.specs.Front.{is_hamt, is_root, root_or_map, front, fronts_of_values, fronts_of_pairs, fronts_of_fields, front_in}
use Rattle.ild_typed_fronts.specs.FrontLaws.{PartsOfFronts, TablesOfFronts}
use Rattle.ild_typed_fronts.proofs.Holding.{front_of, fronts_of, entry_front, part_front, set_alike, insert_alike, key_alike, delete_alike}

module _ (h : List ℕ → List ℕ) (rows : List Row) where
  values_front : (u : Slot) (vs : Values) → values_list (fronts_of_values h rows u vs) ≡ map (front h rows u) (values_list vs)
  values_front u V.no_values = refl
  values_front u (V.value v vs) = ap (λ xs. front h rows u v ∷ xs) (values_front u vs)

  pairs_front : (u : Slot) (ps : Pairs) → pairs_list (fronts_of_pairs h rows u ps) ≡ map (entry_front h rows u) (pairs_list ps)
  pairs_front u V.no_pairs = refl
  pairs_front u (V.pair k v ps) = ap (λ xs. (k, front h rows u v) ∷ xs) (pairs_front u ps)

  fields_front : (fs : List Field) (os : Optionals) → optionals_list (fronts_of_fields h rows fs os) ≡ fronts_of h rows fs (optionals_list os)
  fields_front [] V.no_optionals = refl
  fields_front (f ∷ fs) V.no_optionals = refl
  fields_front [] (V.absent os) = refl
  fields_front [] (V.present v os) = refl
  fields_front (f ∷ fs) (V.absent os) = ap (λ xs. None ∷ xs) (fields_front fs os)
  fields_front (f ∷ fs) (V.present v os) = ap (λ xs. Some (front h rows f.slot v) ∷ xs) (fields_front fs os)

  list_seen : (vs : Values) (G : Option TypeDef) (elem : Slot) (place : ℕ) → G ≡ Some (D.List elem place)
      → list_holder G (option_map_or (λ u. fronts_of_values h rows u vs) (element_of G) vs) ≡ front_of h rows (list_holder G vs)
  list_seen vs G elem place e =
      subst (λ G. list_holder G (option_map_or (λ u. fronts_of_values h rows u vs) (element_of G) vs) ≡ front_of h rows (list_holder G vs)) (sym e) (ap (elements elem) (values_front elem vs))

  map_seen : (slot : Slot) (ps : Pairs) (G : Option TypeDef) (o : Option Data) (key : TypeNo) (key_at : ℕ) (elem : Slot) (place : ℕ) (form : MapForm) → G ≡ Some (D.Map key key_at elem place form) → is_hamt G ≡ false → form_of rows slot ≡ G
      → holder_of rows slot (root_or_map (is_hamt G) o (option_map_or (λ u. fronts_of_pairs h rows u ps) (element_of G) ps)) ≡ front_of h rows (map_holder G ps)
  map_seen slot ps G o key key_at elem place form e plain is =
      ap (λ b. holder_of rows slot (root_or_map b o (option_map_or (λ u. fronts_of_pairs h rows u ps) (element_of G) ps))) plain
      ∙ ap (λ g. map_holder g (option_map_or (λ u. fronts_of_pairs h rows u ps) (element_of G) ps)) is
      ∙ subst (λ G. map_holder G (option_map_or (λ u. fronts_of_pairs h rows u ps) (element_of G) ps) ≡ front_of h rows (map_holder G ps)) (sym e) (ap (entries key.0 elem (is_paired form)) (pairs_front elem ps))

  struct_seen : (os : Optionals) (G : Option TypeDef) (def : StructDef) → G ≡ Some (D.Struct def) → struct_holder G (fronts_of_fields h rows (fields_of G) os) ≡ front_of h rows (struct_holder G os)
  struct_seen os G def e = subst (λ G. struct_holder G (fronts_of_fields h rows (fields_of G) os) ≡ front_of h rows (struct_holder G os)) (sym e) (ap (fields def.fields) (fields_front def.fields os))

  member_seen : (v : Value) (o : Option Member) → option_map_or (λ u. front h rows u v) (option_map slot_of o) v ≡ option_map_or (λ (m : Member). front h rows (plainly m.ty) v) o v
  member_seen v None = refl
  member_seen v (Some m) = refl

  union_seen : (n : ℕ) (v : Value) (G : Option TypeDef) (u : UnionDef) → G ≡ Some (D.Union u) → union_holder G n (option_map_or (λ u. front h rows u v) (member_of G n) v) ≡ front_of h rows (union_holder G n v)
  union_seen n v G u e =
      subst (λ G. union_holder G n (option_map_or (λ u. front h rows u v) (member_of G n) v) ≡ front_of h rows (union_holder G n v)) (sym e) (ap (member u.members n) (member_seen v (slice_get u.members n)))

  any_seen : (slot : Slot) (d : Data) → any_holder d ≡ front_of h rows (any_holder d)
  any_seen slot T.null = refl
  any_seen slot (T.boolean b) = refl
  any_seen slot (T.integer n) = refl
  any_seen slot (T.text s) = refl
  any_seen slot (T.bytes s) = refl
  any_seen slot (T.list ds) = refl
  any_seen slot (T.map ms) = refl
  any_seen slot (T.link s) = refl

  pub front_seen : (is_key : ℕ → List ℕ → Bool) (slot : Slot) (v : Value) → ByParts rows is_key slot v → is_root rows (slot, v) ≡ false → seen rows (front_in h rows (slot, v)) ≡ front_of h rows (seen rows (slot, v))
  front_seen is_key slot V.null t plain = refl
  front_seen is_key slot (V.boolean b) t plain = refl
  front_seen is_key slot (V.integer n) t plain = refl
  front_seen is_key slot (V.text s) t plain = refl
  front_seen is_key slot (V.bytes s) t plain = refl
  front_seen is_key slot (V.link s) t plain = refl
  front_seen is_key slot (V.list vs) t plain = list_seen vs (form_of rows slot) t.0 t.1 t.2
  front_seen is_key slot (V.map ps) t plain = map_seen slot ps (form_of rows slot) (represented (whole h) rows slot (V.map ps)) t.0 t.1 t.2 t.3 t.4 t.5 plain refl
  front_seen is_key slot (V.struct os) t plain = struct_seen os (form_of rows slot) t.0 t.1
  front_seen is_key slot (V.union n v) t plain = union_seen n v (form_of rows slot) t.0 t.2
  front_seen is_key slot (V.enum n) t plain = refl
  front_seen is_key slot V.unit t plain = refl
  front_seen is_key slot (V.any d) t plain = any_seen slot d
  front_seen is_key slot (V.hamt d) t plain = absurd cc

  -- a typed value
  pub typed_seen : (is_key : ℕ → List ℕ → Bool) → TestsKeys rows is_key → (p : InSlot) → OfType rows p.0 p.1 → is_root rows p ≡ false → seen rows (front_in h rows p) ≡ front_of h rows (seen rows p)
  typed_seen is_key keys p is plain = front_seen is_key p.0 p.1 (to_parts rows is_key keys p.1 p.0 is) plain

pub parts_of_fronts : PartsOfFronts
parts_of_fronts = λ h rows is_key schema keys p s is plain. ap (λ k. part k s) (typed_seen h rows is_key keys p is plain) ∙ part_front h rows (seen rows p) s

pub tables_of_fronts : TablesOfFronts
tables_of_fronts = λ h rows is_key schema keys p s is plain.
    let e = typed_seen h rows is_key keys p is plain in
    record {
      set = ap (λ k. slot_to_set k s) e ∙ set_alike h rows (seen rows p) s;
      inserted = ap (λ k. slot_to_insert k s) e ∙ insert_alike h rows (seen rows p) s;
      deleted = ap (λ k. refusal_to_delete k s) e ∙ delete_alike h rows (seen rows p) s;
      key = ap (λ k. key_fits is_key k s) e ∙ key_alike h rows is_key (seen rows p) s;
    }
