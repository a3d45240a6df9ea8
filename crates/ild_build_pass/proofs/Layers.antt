-- A call that wrote the parts of a layer wrote the layer, by the form of its type.
use Rattle.std.proofs.Common.{◌≡◌, ℕ, ◌+◌, ℤ, Bool, List, [], ◌++◌, length, true, false, Option, Some, option_map, Result, slice_get, refl, sym, ap, ◌∙◌, subst}
use Rattle.std.specs.Prelude.{OnOk, option_and_then}
use Rattle.ild_data.specs.declared.hamt_shape.HamtShape.{HamtShape}
use Rattle.ild_data.specs.Spell.{head, spell, spell_int, spell_text}
use Rattle.ild_emit.specs.Simple.{simple_data}
use Rattle.ild_schema.specs.Clear.{AreNamesApart}
use Rattle.ild_schema.specs.Indexed.{InKeyOrder}
use Rattle.ild_schema.specs.Legible.{IsLegible}
use Rattle.ild_schema.specs.Marks.{mark_text}
use Rattle.ild_schema.specs.Slots.{form_of, plainly}
use Rattle.ild_schema.specs.Value as V
use Rattle.ild_schema.specs.Value.{Value, Values, Pairs, Optionals, values_list, pairs_list, optionals_list}
use Rattle.ild_schema.specs.ValueSeen.{value_of}
use Rattle.ild_schema.specs.declared.number.Slot.{Slot}
use Rattle.ild_schema.specs.declared.number.TypeNo.{TypeNo}
use Rattle.ild_schema.specs.declared.def.Field.{Field}
use Rattle.ild_schema.specs.declared.def.MapForm.{MapForm}
use Rattle.ild_schema.specs.declared.def.MapForm.TheVariants as MF
use Rattle.ild_schema.specs.declared.def.Member.{Member}
use Rattle.ild_schema.specs.declared.def.StructDef.{StructDef}
use Rattle.ild_schema.specs.declared.def.StructForm.TheVariants as S
use Rattle.ild_schema.specs.declared.def.TypeDef.{TypeDef}
use Rattle.ild_schema.specs.declared.def.TypeDef.TheVariants as D
use Rattle.ild_schema.specs.declared.def.UnionDef.{UnionDef}
use Rattle.ild_schema.specs.declared.def.UnionForm.{UnionForm}
use Rattle.ild_schema.specs.declared.def.UnionForm.TheVariants as UF
use Rattle.ild_schema.specs.declared.row.Row.{Row}
use Rattle.ild_schema.specs.declared.val.Val.{Val}
use Rattle.ild_schema.specs.declared.val.Val.TheVariants as W
use Rattle.ild_typed.specs.Composed.{member_form}
use Rattle.ild_typed.specs.Hamt.{alone, whole}
use Rattle.ild_typed.specs.Represented.{represented}
use Rattle.ild_build.specs.TextRep.{is_text_layer, is_text_struct, text_rep}
use Rattle.ild_build.proofs.Turns.{fitting}
use Rattle.ild_build_leaf.specs.Kept.{count_present, count_written}
use Rattle.ild_build_leaf.specs.Made.{IsLeaf, made}
use Rattle.ild_build_leaf.specs.Wrote.{Wrote}
use Rattle.ild_build_entries.specs.declared.nodes.Nodes.{Nodes}
use Rattle.ild_build_entries.proofs.Marked.{on_ok}
use Rattle.ild_build_pass.specs.Fitting.{FitsIn}
use Rattle.ild_build_pass.specs.inside.Made.{counted, entries_made, fields_made, items_made, marked_made, tuple_made}
use Rattle.ild_build_pass.specs.inside.Places.{map_made, texts_of, written_made, written_of}
use Rattle.ild_build_pass.specs.Weights.{Weight, entries_weight, fields_weight, hamt_made, items_weight, places_weight, weigh}
use Rattle.ild_build_pass.specs.Writes.{Writes}
use Rattle.ild_build_pass.proofs.AsText.{layer_text, texts, union_text}
use Rattle.ild_build_pass.proofs.Bare.{bool_wrote, int_wrote, leaf_of, leafs, text_wrote}
use Rattle.ild_build_pass.proofs.Flow.{behind, from}
use Rattle.ild_build_pass.proofs.Forms.{hamt_is_made, list_made, map_is_made, pairs_are_made}
use Rattle.ild_build_pass.proofs.Keyed.{keyed}
use Rattle.ild_build_pass.proofs.Members.{kinded_from, marked_by, union_is_made}
use Rattle.ild_build_pass.proofs.Spread.{fields_spread}
use Rattle.ild_build_pass.proofs.StructForms.{listed_made, fields_in_map, tuple_is_made}
use Rattle.ild_build_pass.proofs.Tagged.{map_kept}
use Rattle.ild_build_pass.proofs.Weighing.{hamt_weigh, list_weight, map_weight, struct_weight, union_weight}

module _ (h : List ℕ → List ℕ) (rows : List Row) {T E : Type 0} (r : Result T E) (old new : List ℕ) (was now : Nodes) where
  -- what the call left, if it ended well
  abbrev Left : Option (List ℕ) → (Weight → ℕ) → Type 0
  Left a N = OnOk r (Writes h rows a N old new was now)

  handed : (a b : Option (List ℕ)) (N M : Weight → ℕ) → ((s : List ℕ) → a ≡ Some s → b ≡ Some s) → ((μ : Weight) → N μ ≡ M μ) → Left b M → Left a N
  handed a b N M less same = on_ok r (Writes h rows b M old new was now) (Writes h rows a N old new was now) (from h rows a b N M old new was now less same)

  -- a value that was told from the outside
  pub told : (s : Slot) (u v : Value) → u ≡ v → Left (made (whole h) rows s v) (λ μ. weigh μ rows s v) → Left (made (whole h) rows s u) (λ μ. weigh μ rows s u)
  told s u v is = subst (λ w. Left (made (whole h) rows s w) (λ μ. weigh μ rows s w)) (sym is)

  -- ---- lists and maps

  pub list_layer : (s elem : Slot) (at : ℕ) (vs : Values) (d : TypeDef) → form_of rows s ≡ Some d → d ≡ D.List elem at
      → Left (counted 4 (length (values_list vs)) (items_made (whole h) rows elem (values_list vs))) (λ μ. items_weight μ rows elem (values_list vs)) → Left (made (whole h) rows s (V.list vs)) (λ μ. weigh μ rows s (V.list vs))
  list_layer s elem at vs d known is =
      handed (made (whole h) rows s (V.list vs)) (counted 4 (length (values_list vs)) (items_made (whole h) rows elem (values_list vs))) (λ μ. weigh μ rows s (V.list vs)) (λ μ. items_weight μ rows elem (values_list vs))
      (list_made h rows s elem at vs (known ∙ ap Some is)) (λ μ. list_weight rows μ s elem at vs (known ∙ ap Some is))

  module _ (s : Slot) (key : TypeNo) (key_at : ℕ) (value : Slot) (at : ℕ) (form : MapForm) (ps : Pairs) (d : TypeDef) (known : form_of rows s ≡ Some d) (is : d ≡ D.Map key key_at value at form) where
    pub map_layer : form ≡ MF.Map → Left (counted 5 (length (pairs_list ps)) (entries_made (whole h) rows false value (pairs_list ps))) (λ μ. entries_weight μ rows value (pairs_list ps)) → Left (made (whole h) rows s (V.map ps)) (λ μ. weigh μ rows s (V.map ps))
    map_layer kind =
        handed (made (whole h) rows s (V.map ps)) (counted 5 (length (pairs_list ps)) (entries_made (whole h) rows false value (pairs_list ps))) (λ μ. weigh μ rows s (V.map ps)) (λ μ. entries_weight μ rows value (pairs_list ps))
        (map_is_made h rows s key key_at value at form ps (known ∙ ap Some is) kind) (λ μ. map_weight rows μ s key key_at value at form MF.Map ps (known ∙ ap Some is) kind refl)

    pub pairs_layer : form ≡ MF.ListPairs → Left (counted 4 (length (pairs_list ps)) (entries_made (whole h) rows true value (pairs_list ps))) (λ μ. entries_weight μ rows value (pairs_list ps)) → Left (made (whole h) rows s (V.map ps)) (λ μ. weigh μ rows s (V.map ps))
    pairs_layer kind =
        handed (made (whole h) rows s (V.map ps)) (counted 4 (length (pairs_list ps)) (entries_made (whole h) rows true value (pairs_list ps))) (λ μ. weigh μ rows s (V.map ps)) (λ μ. entries_weight μ rows value (pairs_list ps))
        (pairs_are_made h rows s key key_at value at form ps (known ∙ ap Some is) kind) (λ μ. map_weight rows μ s key key_at value at form MF.ListPairs ps (known ∙ ap Some is) kind refl)

    pub hamt_layer : (p : HamtShape) → form ≡ MF.Hamt p → Left (hamt_made h p rows value ps) (λ μ. μ p value ps + entries_weight μ rows value (pairs_list ps)) → Left (made (whole h) rows s (V.map ps)) (λ μ. weigh μ rows s (V.map ps))
    hamt_layer p kind =
        handed (made (whole h) rows s (V.map ps)) (hamt_made h p rows value ps) (λ μ. weigh μ rows s (V.map ps)) (λ μ. μ p value ps + entries_weight μ rows value (pairs_list ps))
        (hamt_is_made h rows s key key_at value at form p ps (known ∙ ap Some is) kind) (λ μ. hamt_weigh rows μ s key key_at value at form p ps (known ∙ ap Some is) kind)

  -- ---- structs

  module _ (legible : IsLegible rows) (s : Slot) (sd : StructDef) (os : Optionals) (d : TypeDef) (known : form_of rows s ≡ Some d) (is : d ≡ D.Struct sd) where
    struct_layer : (b : Option (List ℕ)) → ((t : List ℕ) → made (whole h) rows s (V.struct os) ≡ Some t → b ≡ Some t) → Left b (λ μ. fields_weight μ rows sd.fields (optionals_list os)) → Left (made (whole h) rows s (V.struct os)) (λ μ. weigh μ rows s (V.struct os))
    struct_layer b less =
        handed (made (whole h) rows s (V.struct os)) b (λ μ. weigh μ rows s (V.struct os)) (λ μ. fields_weight μ rows sd.fields (optionals_list os)) less (λ μ. struct_weight rows μ s sd os (known ∙ ap Some is))

    pub fields_layer : sd.form ≡ S.Map → Left (map_made (whole h) rows sd.fields (optionals_list os)) (λ μ. fields_weight μ rows sd.fields (optionals_list os)) → Left (made (whole h) rows s (V.struct os)) (λ μ. weigh μ rows s (V.struct os))
    fields_layer kind = struct_layer (map_made (whole h) rows sd.fields (optionals_list os)) (fields_in_map h rows s sd os (fitting rows legible s sd (known ∙ ap Some is)) (known ∙ ap Some is) kind)

    pub tuple_layer : sd.form ≡ S.Tuple → Left (counted 4 (count_present (optionals_list os)) (tuple_made (whole h) rows sd.fields (optionals_list os))) (λ μ. fields_weight μ rows sd.fields (optionals_list os))
        → Left (made (whole h) rows s (V.struct os)) (λ μ. weigh μ rows s (V.struct os))
    tuple_layer kind = struct_layer (counted 4 (count_present (optionals_list os)) (tuple_made (whole h) rows sd.fields (optionals_list os))) (tuple_is_made h rows s sd os (known ∙ ap Some is) kind)

    pub listed_layer : sd.form ≡ S.ListPairs → Left (counted 4 (count_written sd.fields (optionals_list os)) (fields_made (whole h) rows true sd.fields (optionals_list os))) (λ μ. fields_weight μ rows sd.fields (optionals_list os))
        → Left (made (whole h) rows s (V.struct os)) (λ μ. weigh μ rows s (V.struct os))
    listed_layer kind =
        struct_layer (counted 4 (count_written sd.fields (optionals_list os)) (fields_made (whole h) rows true sd.fields (optionals_list os))) (listed_made h rows s sd os (fitting rows legible s sd (known ∙ ap Some is)) (known ∙ ap Some is) kind)

  -- the fields at the places of the key order, behind their head
  pub fields_behind : (fs : List Field) (os : List (Option Value)) (mid : List ℕ) (places : List ℕ) → AreNamesApart fs → InKeyOrder (texts_of fs) places → mid ≡ old ++ head 5 (count_written fs os)
      → OnOk r (Writes h rows (written_made (whole h) rows fs os places) (λ μ. places_weight μ rows fs os (written_of fs os places)) mid new was now) → Left (map_made (whole h) rows fs os) (λ μ. fields_weight μ rows fs os)
  fields_behind fs os mid places apart order begun =
      let some = written_of fs os places in
      on_ok r (Writes h rows (written_made (whole h) rows fs os places) (λ μ. places_weight μ rows fs os some) mid new was now) (Writes h rows (map_made (whole h) rows fs os) (λ μ. fields_weight μ rows fs os) old new was now)
      (λ w. from h rows (map_made (whole h) rows fs os) (counted 5 (count_written fs os) (written_made (whole h) rows fs os places)) (λ μ. fields_weight μ rows fs os) (λ μ. places_weight μ rows fs os some) old new was now
      (λ t e. sym (map_kept h rows fs os apart places order) ∙ e) (λ μ. sym (fields_spread rows μ fs os [] apart some (keyed fs os [] apart places order)))
      (behind h rows (written_made (whole h) rows fs os places) (λ μ. places_weight μ rows fs os some) old mid new (head 5 (count_written fs os)) was now begun w))

  -- ---- unions

  abbrev MemberMade : UnionForm → Member → Value → Option (List ℕ)
  MemberMade form m v = option_map spell (option_and_then (λ d. member_form form d m) (represented (whole h) rows (plainly m.ty) v))

  pub union_layer : (s : Slot) (ud : UnionDef) (n : ℕ) (m : Member) (v : Value) (d : TypeDef) → form_of rows s ≡ Some d → d ≡ D.Union ud → Some m ≡ slice_get ud.members n
      → Left (MemberMade ud.form m v) (λ μ. weigh μ rows (plainly m.ty) v) → Left (made (whole h) rows s (V.union n v)) (λ μ. weigh μ rows s (V.union n v))
  union_layer s ud n m v d known is at =
      handed (made (whole h) rows s (V.union n v)) (MemberMade ud.form m v) (λ μ. weigh μ rows s (V.union n v)) (λ μ. weigh μ rows (plainly m.ty) v)
      (λ t e. sym (union_is_made h rows s ud n m v (known ∙ ap Some is) (sym at)) ∙ e) (λ μ. union_weight rows μ s ud n m v (known ∙ ap Some is) (sym at))

  pub kinded_layer : (form : UnionForm) (m : Member) (u v : Value) → form ≡ UF.Kinded → u ≡ v → Left (made (whole h) rows (plainly m.ty) u) (λ μ. weigh μ rows (plainly m.ty) u) → Left (MemberMade form m v) (λ μ. weigh μ rows (plainly m.ty) v)
  kinded_layer form m u v kind same w =
      handed (MemberMade form m v) (made (whole h) rows (plainly m.ty) v) (λ μ. weigh μ rows (plainly m.ty) v) (λ μ. weigh μ rows (plainly m.ty) v)
      (λ t e. kinded_from m (represented (whole h) rows (plainly m.ty) v) t (ap (λ f. MemberMade f m v) (sym kind) ∙ e)) (λ μ. refl) (told (plainly m.ty) v u (sym same) w)

  -- a member that a text tells
  pub marked_layer : (form g : UnionForm) (m : Member) (t name : List ℕ) (u v : Value) → form ≡ g → (g ≡ UF.Kinded → ⊥) → mark_text m.mark ≡ Some t → name ≡ t → u ≡ v
      → Left (marked_made (whole h) rows g (plainly m.ty) u name) (λ μ. weigh μ rows (plainly m.ty) u) → Left (MemberMade form m v) (λ μ. weigh μ rows (plainly m.ty) v)
  marked_layer form g m t name u v is other mark called same w =
      handed (MemberMade form m v) (marked_made (whole h) rows g (plainly m.ty) v name) (λ μ. weigh μ rows (plainly m.ty) v) (λ μ. weigh μ rows (plainly m.ty) v)
      (λ x e. sym (marked_by form g is other m name (mark ∙ ap Some (sym called)) (represented (whole h) rows (plainly m.ty) v)) ∙ e) (λ μ. refl)
      (subst (λ y. Left (marked_made (whole h) rows g (plainly m.ty) y name) (λ μ. weigh μ rows (plainly m.ty) y)) same w)

-- ---- layers that stand as a text

module _ (h : List ℕ → List ℕ) (rows : List Row) (legible : IsLegible rows) {T E : Type 0} (r : Result T E) (old new : List ℕ) (was : Nodes) (s : Slot) (u : Value) where
  abbrev Spelled : Value → Type 0
  Spelled v = Wrote (option_map spell_text (text_rep rows s v)) old new

  abbrev AsText : Value → Type 0
  AsText v = OnOk r (Spelled u) → OnOk r (Writes h rows (made (whole h) rows s v) (λ μ. weigh μ rows s v) old new was was)

  pub map_text : (ps : Pairs) → u ≡ V.map ps → FitsIn rows s (V.map ps) → (key : TypeNo) (key_at : ℕ) (value : Slot) (at : ℕ) (f g : MapForm) (d : TypeDef) → form_of rows s ≡ Some d → d ≡ D.Map key key_at value at f → f ≡ g
      → is_text_layer (D.Map key key_at value at g) (V.map ps) ≡ true → AsText (V.map ps)
  map_text ps same fits key key_at value at f g d known is form test =
      let text = layer_text rows s (V.map ps) (D.Map key key_at value at g) (known ∙ ap Some is ∙ ap (λ k. Some (D.Map key key_at value at k)) form) test in
      on_ok r (Spelled u) (Writes h rows (made (whole h) rows s (V.map ps)) (λ μ. weigh μ rows s (V.map ps)) old new was was) (λ w. texts h rows legible.made s (V.map ps) text fits old new was (subst Spelled same w))

  pub struct_text : (os : Optionals) → u ≡ V.struct os → FitsIn rows s (V.struct os) → (sd : StructDef) (d : TypeDef) → form_of rows s ≡ Some d → d ≡ D.Struct sd → is_text_struct sd.form ≡ true → AsText (V.struct os)
  struct_text os same fits sd d known is test =
      let text = layer_text rows s (V.struct os) (D.Struct sd) (known ∙ ap Some is) test in
      on_ok r (Spelled u) (Writes h rows (made (whole h) rows s (V.struct os)) (λ μ. weigh μ rows s (V.struct os)) old new was was) (λ w. texts h rows legible.made s (V.struct os) text fits old new was (subst Spelled same w))

  pub prefix_text : (n : ℕ) (v : Value) → u ≡ V.union n v → FitsIn rows s (V.union n v) → (ud : UnionDef) (d : TypeDef) → form_of rows s ≡ Some d → d ≡ D.Union ud → ud.form ≡ UF.StringPrefix → AsText (V.union n v)
  prefix_text n v same fits ud d known is form =
      let text = union_text rows s n v ud (known ∙ ap Some is) form in
      on_ok r (Spelled u) (Writes h rows (made (whole h) rows s (V.union n v)) (λ μ. weigh μ rows s (V.union n v)) old new was was) (λ w. texts h rows legible.made s (V.union n v) text fits old new was (subst Spelled same w))

-- ---- layers with no parts

module _ (h : List ℕ → List ℕ) (rows : List Row) {T E : Type 0} (r : Result T E) (old new : List ℕ) (was : Nodes) (s : Slot) (val : Val) where
  abbrev LeafLeft : Type 0
  LeafLeft = OnOk r (Writes h rows (made (whole h) rows s (value_of val)) (λ μ. weigh μ rows s (value_of val)) old new was was)

  pub leaf_layer : IsLeaf (value_of val) → OnOk r (Wrote (made alone rows s (value_of val)) old new) → LeafLeft
  leaf_layer is = on_ok r (Wrote (made alone rows s (value_of val)) old new) (Writes h rows (made (whole h) rows s (value_of val)) (λ μ. weigh μ rows s (value_of val)) old new was was) (leafs h rows s (value_of val) is old new was)

  leaf_as : (v : Value) (P : Type 0) → value_of val ≡ v → IsLeaf v → (P → Wrote (made alone rows s v) old new) → OnOk r P → LeafLeft
  leaf_as v P is leaf wrote = on_ok r P (Writes h rows (made (whole h) rows s (value_of val)) (λ μ. weigh μ rows s (value_of val)) old new was was) (λ e. leaf_of h rows s val v is leaf old new was (wrote e))

  pub text_leaf : (t u : List ℕ) → val ≡ W.Text t → u ≡ t → OnOk r (new ≡ old ++ spell_text u) → LeafLeft
  text_leaf t u is same = leaf_as (V.text t) (new ≡ old ++ spell_text u) (ap value_of is) tt (λ e. text_wrote rows s t old new (e ∙ ap (λ b. old ++ spell_text b) same))

  pub int_leaf : (n : ℤ) → val ≡ W.Int n → OnOk r (new ≡ old ++ spell_int n) → LeafLeft
  int_leaf n is = leaf_as (V.integer n) (new ≡ old ++ spell_int n) (ap value_of is) tt (λ e. int_wrote rows s n old new e)

  pub bool_leaf : (b : Bool) → val ≡ W.Bool b → OnOk r (new ≡ old ++ spell (simple_data (Some b))) → LeafLeft
  bool_leaf b is = leaf_as (V.boolean b) (new ≡ old ++ spell (simple_data (Some b))) (ap value_of is) tt (λ e. bool_wrote rows s b old new e)
