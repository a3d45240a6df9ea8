-- The shown form of a value is a tree too, nested no deeper than the room in which the value fits.
use Rattle.std.specs.Option.{option_map_or}
use Rattle.std.proofs.Common.{◌≡◌, ℕ, zero, suc, ◌+◌, ◌-◌, ◌≤◌, List, [], ◌∷◌, Option, Some, None, IsUtf8, refl, sym, ◌∙◌, ap, subst, arith}
use Rattle.std.specs.Prelude.{slice_get}
use Rattle.std.specs.List.{AllByRecursion}
use Rattle.std.proofs.lemmas.Option.{none-some}
use Rattle.std.proofs.lemmas.Str.{IsUtf8-nil}
use Rattle.ild_data.proofs.AllOf.{all_at}
use Rattle.ild_data.specs.Data as T
use Rattle.ild_data.specs.Data.{Data, depth, items_depth}
use Rattle.ild_data.specs.Tree.{IsTree, AreTrees}
use Rattle.ild_schema.specs.declared.number.Slot.{Slot}
use Rattle.ild_schema.specs.declared.def.TypeDef.{TypeDef}
use Rattle.ild_schema.specs.declared.def.TypeDef.TheVariants as D
use Rattle.ild_schema.specs.declared.def.MapForm.{MapForm}
use Rattle.ild_schema.specs.declared.def.MapForm.TheVariants as MF
use Rattle.ild_schema.specs.declared.def.StructForm.{StructForm}
use Rattle.ild_schema.specs.declared.def.StructForm.TheVariants as S
use Rattle.ild_schema.specs.declared.def.Field.{Field}
use Rattle.ild_schema.specs.declared.def.Member.{Member}
use Rattle.ild_schema.specs.declared.def.EnumMember.{EnumMember}
use Rattle.ild_schema.specs.declared.row.Row.{Row}
use Rattle.ild_schema.specs.Copies.{base}
use Rattle.ild_schema.specs.Value as V
use Rattle.ild_schema.specs.Value.{Value, Values, Pairs, Optionals, values_list, pairs_list, optionals_list}
use Rattle.ild_typed.specs.Layer as L
use Rattle.ild_schema.specs.Slots.{form_of}
use Rattle.ild_typed.specs.Slots.{slot_of, element_of, fields_of, member_at, enum_member_at}
use Rattle.ild_typed.specs.Strings.{map_data, in_key_order}
use Rattle.ild_typed.specs.Composed.{composed}
use Rattle.ild_typed.specs.Hamt.{alone, a_map, root_map}
use Rattle.ild_data.specs.Trie.{node_data, TrieSlot as Slots}
use Rattle.ild_data.specs.declared.hamt_shape.HamtShape.{HamtShape}
use Rattle.ild_typed.specs.Represented.{layered, represented}
use Rattle.ild_typed.specs.Levels.{map_levels, struct_levels, levels_of}
use Rattle.ild_typed.specs.Fits.{FormFits, ValueFits, FitsPast, Fits}
use Rattle.ild_typed.specs.Layers.{FieldsFit, LayerFits}
use Rattle.ild_typed.specs.Shown.{shown, shown_values, shown_pairs, shown_fields}
use Rattle.ild_typed.specs.Nested.{TreeIn}
use Rattle.ild_schema.specs.Spelled.{IsSpelled, NamedType, IsNamed}
use Rattle.ild_typed.proofs.Rising.{rises_sorted}
use Rattle.ild_typed.proofs.Treed.{EntryIn, all_sorted, in_more, map_in, text_is}
use Rattle.ild_typed.proofs.TreeParts.{RootOf, list_fits, struct_fits, union_fits, map_fits, hamt_fits, no_type_map, text_fits, bytes_fit, link_fits, int_fits}
use Rattle.ild_typed.proofs.TreeBlocks.{formed}
use Rattle.ild_typed.proofs.TreeValues.{alone_tree}

-- ---- names

named_at : {X : Type 0} (P : X → Type 0) (xs : List X) (n : ℕ) (Q : Option X → Type 0) → AllByRecursion P xs → Q None → ((x : X) → P x → Q (Some x)) → Q (slice_get xs n)
named_at P [] n Q all none some = none
named_at P (x ∷ xs) zero Q all none some = some x all.0
named_at P (x ∷ xs) (suc n) Q all none some = named_at P xs n Q all.1 none some

-- ---- one layer

module _ (fits : Slot → Value → Type 0) (rows : List Row) where
  pub list_level : (d : TypeDef) (v : Value) (xs : List Value) → LayerFits fits rows d (L.list xs) → 1 ≤ levels_of d v
  list_level (D.List elem place) v xs f = omega arith
  list_level (D.Map key key_at value place form) v xs f = absurd (no_type_map fits rows (D.Map key key_at value place form) (L.list xs) refl refl f key key_at value place form refl)
  list_level d v xs f = absurd f

  form_level : (form : MapForm) → 1 ≤ map_levels form
  form_level MF.Map = omega arith
  form_level MF.ListPairs = omega arith
  form_level (MF.StringPairs i e) = omega arith
  form_level (MF.Hamt p) = omega arith

  pub map_level : (d : TypeDef) (v : Value) (ps : List (List ℕ × Value)) → LayerFits fits rows d (L.map ps) → 1 ≤ levels_of d v
  map_level (D.Map key key_at value place form) v ps f = form_level form
  map_level d v ps f = absurd f

  struct_form_level : (form : StructForm) → 1 ≤ struct_levels form
  struct_form_level S.Map = omega arith
  struct_form_level S.Tuple = omega arith
  struct_form_level S.ListPairs = omega arith
  struct_form_level (S.StringPairs i e) = omega arith
  struct_form_level (S.StringJoin e) = omega arith

  pub struct_level : (d : TypeDef) (v : Value) (os : List (Option Value)) → LayerFits fits rows d (L.struct os) → 1 ≤ levels_of d v
  struct_level (D.Struct s) v os f = struct_form_level s.form
  struct_level (D.Map key key_at value place form) v os f = absurd (no_type_map fits rows (D.Map key key_at value place form) (L.struct os) refl refl f key key_at value place form refl)
  struct_level d v os f = absurd f

  pub union_level : (d : TypeDef) (v : Value) (n : ℕ) (w : Value) → LayerFits fits rows d (L.union n w) → 1 ≤ levels_of d v
  union_level (D.Union u) v n w f = omega arith
  union_level (D.Map key key_at value place form) v n w f = absurd (no_type_map fits rows (D.Map key key_at value place form) (L.union n w) refl refl f key key_at value place form refl)
  union_level d v n w f = absurd f

  unit_level : (d : TypeDef) (v : Value) → LayerFits fits rows d L.unit → 1 ≤ levels_of d v
  unit_level (D.Unit form) v f = omega arith
  unit_level (D.Map key key_at value place form) v f = absurd (no_type_map fits rows (D.Map key key_at value place form) L.unit refl refl f key key_at value place form refl)
  unit_level d v f = absurd f

  any_level : (d : TypeDef) (x : Data) → LayerFits fits rows d (L.any x) → IsTree x × (depth x ≤ levels_of d (V.any x))
  any_level D.Any x f = (f.0, omega arith)
  any_level (D.Map key key_at value place form) x f = absurd (no_type_map fits rows (D.Map key key_at value place form) (L.any x) refl refl f key key_at value place form refl)
  any_level d x f = absurd f

  -- the data of a front's HAMT are its root map
  root_itself : (p : HamtShape) (x : Data) (slots : List Slots) → x ≡ root_map p (node_data slots) → a_map x ≡ Some x
  root_itself p x slots is = subst (λ y. a_map y ≡ Some y) (sym is) refl

  hamt_data : (d : TypeDef) (x : Data) → RootOf fits rows d x → composed alone d (L.hamt x) ≡ Some x
  hamt_data (D.Map key key_at value place (MF.Hamt p)) x (slots, root, all) = root_itself p x slots root.tree
  hamt_data (D.Map key key_at value place MF.Map) x f = absurd f
  hamt_data (D.Map key key_at value place MF.ListPairs) x f = absurd f
  hamt_data (D.Map key key_at value place (MF.StringPairs i e)) x f = absurd f
  hamt_data d x f = absurd f

  union_name : (d : TypeDef) (n : ℕ) (m : Member) → NamedType d → member_at (Some d) n ≡ Some m → IsUtf8 m.name
  union_name (D.Union u) n m named is = all_at (λ k. IsUtf8 k.name) u.members n m named is
  union_name d n m named is = absurd (none-some m is)

  enum_text : (d : TypeDef) (n : ℕ) → NamedType d → IsUtf8 (option_map_or (λ (m : EnumMember). m.name) (enum_member_at (Some d) n) [])
  enum_text (D.Enum en) n named = by (slice_get en.members n) refl where
    by : (o : Option EnumMember) → slice_get en.members n ≡ o → IsUtf8 (option_map_or (λ (m : EnumMember). m.name) o [])
    by None is = IsUtf8-nil
    by (Some m) is = all_at (λ k. IsUtf8 k.name) en.members n m named is
  enum_text d n named = IsUtf8-nil

  struct_names : (d : TypeDef) (os : List (Option Value)) → NamedType d → LayerFits fits rows d (L.struct os) → AllByRecursion (λ f. IsUtf8 f.name) (fields_of (Some d))
  struct_names (D.Struct s) os named f = named
  struct_names (D.Map key key_at value place form) os named f = absurd (no_type_map fits rows (D.Map key key_at value place form) (L.struct os) refl refl f key key_at value place form refl)
  struct_names d os named f = absurd f

-- ---- the parts

module _ (rows : List Row) (fits : Slot → Value → Type 0) (n : ℕ) (good : (s : Slot) (v : Value) → fits s v → TreeIn n (shown rows s v)) where
  values_shown : (s : Slot) (vs : Values) → AllByRecursion (fits s) (values_list vs) → AreTrees (shown_values rows s vs) × (items_depth (shown_values rows s vs) ≤ n)
  values_shown s V.no_values f = (tt, omega arith)
  values_shown s (V.value v vs) f =
      let x = good s v f.0 in
      let first = x.nested in
      let rest = values_shown s vs f.1 in
      ((x.tree, rest.0), omega (arith, first, rest.1))

  pairs_shown : (s : Slot) (ps : Pairs) → AllByRecursion (λ p. IsUtf8 p.0 × fits s p.1) (pairs_list ps) → AllByRecursion (EntryIn n) (shown_pairs rows s ps)
  pairs_shown s V.no_pairs f = tt
  pairs_shown s (V.pair k v ps) f = ((f.0.0, good s v f.0.1), pairs_shown s ps f.1)

  fields_shown : (fs : List Field) (os : Optionals) → AllByRecursion (λ g. IsUtf8 g.name) fs → FieldsFit fits fs (optionals_list os) → AllByRecursion (EntryIn n) (shown_fields rows fs os)
  fields_shown fs V.no_optionals named f = tt
  fields_shown [] (V.absent os) named f = tt
  fields_shown [] (V.present v os) named f = tt
  fields_shown (g ∷ fs) (V.absent os) named f = fields_shown fs os named.1 f.1
  fields_shown (g ∷ fs) (V.present v os) named f = ((named.0, good g.slot v f.0), fields_shown fs os named.1 f.1)

above : (room levels : ℕ) → 1 ≤ levels → levels ≤ room → (room - suc (levels - 1)) + 1 ≤ room
above room levels a b = omega (arith, a, b)

-- ---- values

module _ (rows : List Row) (named : IsNamed rows) (room : ℕ) (below : ℕ → Slot → Value → Type 0)
    (good : (o : ℕ) (s : Slot) (v : Value) → below o s v → IsTree (shown rows s v) × (suc (depth (shown rows s v) + o) ≤ room))
    (front : (s : Slot) (x : Data) → ValueFits rows room below s (V.hamt x) → TreeIn room x) where
  good_part : (o : ℕ) (s : Slot) (v : Value) → below o s v → TreeIn (room - suc o) (shown rows s v)
  good_part o s v b = let g = good o s v b in record { tree = g.0; nested = omega (arith, g.1) }

  scalar : (d : Data) → IsTree d → depth d ≡ 0 → TreeIn room d
  scalar d tree none = record { tree = tree; nested = omega (arith, none) }

  shown_in : (s : Slot) (v : Value) → ValueFits rows room below s v → TreeIn room (shown rows s v)
  shown_in s V.null f = scalar T.null tt refl
  shown_in s (V.boolean b) f = scalar (T.boolean b) tt refl
  shown_in s (V.integer i) f =
      let x = formed (FormFits rows room below (V.integer i)) (form_of rows s) f in
      scalar (T.integer i) (int_fits (below (levels_of x.form (V.integer i) - 1)) rows x.form i x.holds.1) refl
  shown_in s (V.text t) f =
      let x = formed (FormFits rows room below (V.text t)) (form_of rows s) f in
      scalar (T.text t) (text_fits (below (levels_of x.form (V.text t) - 1)) rows x.form t x.holds.1) refl
  shown_in s (V.bytes t) f =
      let x = formed (FormFits rows room below (V.bytes t)) (form_of rows s) f in
      scalar (T.bytes t) (bytes_fit (below (levels_of x.form (V.bytes t) - 1)) rows x.form t x.holds.1) refl
  shown_in s (V.link t) f =
      let x = formed (FormFits rows room below (V.link t)) (form_of rows s) f in
      scalar (T.link t) (link_fits (below (levels_of x.form (V.link t) - 1)) rows x.form t x.holds.1) refl
  shown_in s (V.any d) f =
      let x = formed (FormFits rows room below (V.any d)) (form_of rows s) f in
      let y = any_level (below (levels_of x.form (V.any d) - 1)) rows x.form d x.holds.1 in
      let le = x.holds.0 in
      record { tree = y.0; nested = omega (arith, y.1, le) }
  shown_in s V.unit f =
      let x = formed (FormFits rows room below V.unit) (form_of rows s) f in
      let one = unit_level (below (levels_of x.form V.unit - 1)) rows x.form V.unit x.holds.1 in
      let le = x.holds.0 in
      record { tree = tt; nested = omega (arith, one, le) }
  shown_in s (V.enum n) f =
      let x = formed (FormFits rows room below (V.enum n)) (form_of rows s) f in
      let name : Option TypeDef → List ℕ = λ c. option_map_or (λ (m : EnumMember). m.name) (enum_member_at c n) [] in
      subst (λ c. TreeIn room (T.text (name c))) (sym x.is) (text_is room (name (Some x.form)) (enum_text (below (levels_of x.form (V.enum n) - 1)) rows x.form n (named (base rows s.ty.0) x.form x.is)))
  shown_in s (V.hamt d) f = front s d f
  shown_in s (V.list vs) f =
      let x = formed (FormFits rows room below (V.list vs)) (form_of rows s) f in
      let o = levels_of x.form (V.list vs) - 1 in
      let z = list_fits (below o) rows x.form (values_list vs) x.holds.1 in
      let y = values_shown rows (below o) (room - suc o) (good_part o) z.slot vs z.each in
      let up = above room (levels_of x.form (V.list vs)) (list_level (below o) rows x.form (V.list vs) (values_list vs) x.holds.1) x.holds.0 in
      subst (λ k. TreeIn room (T.list (option_map_or (λ u. shown_values rows u vs) k T.no_items))) (sym (ap element_of x.is ∙ z.is)) (record { tree = y.0; nested = omega (arith, y.1, up) })
  shown_in s (V.map ps) f =
      let x = formed (FormFits rows room below (V.map ps)) (form_of rows s) f in
      let o = levels_of x.form (V.map ps) - 1 in
      let z = map_fits (below o) rows x.form (pairs_list ps) x.holds.1 in
      let u = z.slot in
      let y = pairs_shown rows (below o) (room - suc o) (good_part o) u ps z.each in
      let up = above room (levels_of x.form (V.map ps)) (map_level (below o) rows x.form (V.map ps) (pairs_list ps) x.holds.1) x.holds.0 in
      subst (λ k. TreeIn room (map_data (option_map_or (λ w. in_key_order (shown_pairs rows w ps)) k []))) (sym (ap element_of x.is ∙ z.is))
      (in_more ((room - suc o) + 1) room (map_data (in_key_order (shown_pairs rows u ps))) up (map_in (room - suc o) (in_key_order (shown_pairs rows u ps)) (all_sorted (EntryIn (room - suc o)) (shown_pairs rows u ps) y) (rises_sorted (shown_pairs rows u ps))))
  shown_in s (V.struct os) f =
      let x = formed (FormFits rows room below (V.struct os)) (form_of rows s) f in
      let o = levels_of x.form (V.struct os) - 1 in
      let fs = fields_of (Some x.form) in
      let names = struct_names (below o) rows x.form (optionals_list os) (named (base rows s.ty.0) x.form x.is) x.holds.1 in
      let y = fields_shown rows (below o) (room - suc o) (good_part o) fs os names (struct_fits (below o) rows x.form (optionals_list os) x.holds.1) in
      let up = above room (levels_of x.form (V.struct os)) (struct_level (below o) rows x.form (V.struct os) (optionals_list os) x.holds.1) x.holds.0 in
      subst (λ c. TreeIn room (map_data (in_key_order (shown_fields rows (fields_of c) os)))) (sym x.is)
      (in_more ((room - suc o) + 1) room (map_data (in_key_order (shown_fields rows fs os))) up (map_in (room - suc o) (in_key_order (shown_fields rows fs os)) (all_sorted (EntryIn (room - suc o)) (shown_fields rows fs os) y) (rises_sorted (shown_fields rows fs os))))
  shown_in s (V.union n v) f =
      let x = formed (FormFits rows room below (V.union n v)) (form_of rows s) f in
      let o = levels_of x.form (V.union n v) - 1 in
      let z = union_fits (below o) rows x.form n v x.holds.1 in
      let u = slot_of z.member in
      let name = union_name (below o) rows x.form n z.member (named (base rows s.ty.0) x.form x.is) z.is in
      let y = good_part o u v z.holds in
      let up = above room (levels_of x.form (V.union n v)) (union_level (below o) rows x.form (V.union n v) n v x.holds.1) x.holds.0 in
      subst (λ k. TreeIn room (map_data (option_map_or (λ (m : Member). (m.name, shown rows (slot_of m) v) ∷ []) k []))) (sym (ap (λ c. member_at c n) x.is ∙ z.is))
      (in_more ((room - suc o) + 1) room (map_data ((z.member.name, shown rows u v) ∷ [])) up (map_in (room - suc o) ((z.member.name, shown rows u v) ∷ []) ((name, y), tt) (tt, tt)))

hamt_front : (rows : List Row) (room : ℕ) (below : ℕ → Slot → Value → Type 0) (s : Slot) (x : Data) → ValueFits rows room below s (V.hamt x) → represented alone rows s (V.hamt x) ≡ Some x
hamt_front rows room below s x f =
    let y = formed (FormFits rows room below (V.hamt x)) (form_of rows s) f in
    let o = levels_of y.form (V.hamt x) - 1 in
    ap (λ c. layered alone c (Some (L.hamt x))) y.is ∙ hamt_data (below o) rows y.form x (hamt_fits (below o) rows y.form x y.holds.1)

no_front : (rows : List Row) (s : Slot) (x : Data) → IsSpelled rows → Fits rows zero s (V.hamt x) → TreeIn zero x
unfolding FitsPast
no_front rows s x spelled f = alone_tree rows spelled zero s (V.hamt x) x f (hamt_front rows zero (λ over u w. ⊥) s x f)

past_shown : (rows : List Row) → IsSpelled rows → IsNamed rows → (room over : ℕ) (s : Slot) (v : Value) → FitsPast rows room over s v → IsTree (shown rows s v) × (depth (shown rows s v) + over ≤ room)
unfolding FitsPast
past_shown rows spelled named zero zero s v f =
    let x = shown_in rows named zero (λ over u w. ⊥) (λ o u w b. absurd b) (λ u d g. no_front rows u d spelled g) s v f in (x.tree, omega (arith, x.nested))
past_shown rows spelled named zero (suc over) s v f = absurd f
past_shown rows spelled named (suc room) zero s v f =
    let x = shown_in rows named (suc room) (FitsPast rows room) (λ o u w b. let g = past_shown rows spelled named room o u w b in (g.0, omega (arith, g.1)))
    (λ u d g. alone_tree rows spelled (suc room) u (V.hamt d) d g (hamt_front rows (suc room) (FitsPast rows room) u d g)) s v f in
    (x.tree, omega (arith, x.nested))
past_shown rows spelled named (suc room) (suc over) s v f = let g = past_shown rows spelled named room over s v f in (g.0, omega (arith, g.1))

pub shown_tree : (rows : List Row) → IsSpelled rows → IsNamed rows → (room : ℕ) (s : Slot) (v : Value) → Fits rows room s v → TreeIn room (shown rows s v)
shown_tree rows spelled named room s v f = let g = past_shown rows spelled named room zero s v f in record { tree = g.0; nested = omega (arith, g.1) }
