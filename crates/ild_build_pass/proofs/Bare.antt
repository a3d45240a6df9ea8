-- Values in which no HAMT stands weigh nothing: leaves, and texts.
use Rattle.std.proofs.Common.{rules, ◌≡◌, ℕ, ℤ, zero, suc, ◌+◌, ◌<◌, List, [], ◌∷◌, ◌++◌, Bool, true, false, Option, Some, None, option_map, refl, sym, ap, ◌∙◌, subst, arith}
use Rattle.std.specs.Prelude.{option_and_then}
use Rattle.std.specs.Option.{option_map_or}
use Rattle.std.proofs.lemmas.Option.{none-some}
use Rattle.std.proofs.lemmas.Bool.{or_parts}
use Rattle.ild_data.specs.Data.{Data}
use Rattle.ild_data.specs.Spell.{spell, spell_int, spell_text}
use Rattle.ild_emit.specs.Simple.{simple_data}
use Rattle.ild_schema.specs.declared.number.Slot.{Slot}
use Rattle.ild_schema.specs.declared.def.TypeDef.{TypeDef}
use Rattle.ild_schema.specs.declared.def.TypeDef.TheVariants as D
use Rattle.ild_schema.specs.declared.def.MapForm.{MapForm}
use Rattle.ild_schema.specs.declared.def.MapForm.TheVariants as MF
use Rattle.ild_schema.specs.declared.def.KindWord.{KindWord}
use Rattle.ild_schema.specs.declared.def.KindWord.TheVariants as K
use Rattle.ild_schema.specs.declared.def.Field.{Field}
use Rattle.ild_schema.specs.declared.row.Row.{Row}
use Rattle.ild_schema.specs.DataKinds.{has_kind, same_kind, map_kind}
use Rattle.ild_schema.specs.Made.{HasOnly, IsMade}
use Rattle.ild_schema.specs.Slots.{form_of, plainly}
use Rattle.ild_schema.specs.Value as V
use Rattle.ild_schema.specs.Value.{Value, Values, Pairs, Optionals, height}
use Rattle.ild_schema.specs.ValueSeen.{value_of}
use Rattle.ild_schema.specs.declared.val.Val.{Val}
use Rattle.ild_schema.specs.declared.val.Val.TheVariants as W
use Rattle.ild_data.specs.Trie.{trie}
use Rattle.ild_data.specs.declared.hamt_shape.HamtShape.{HamtShape}
use Rattle.ild_typed.specs.Composed.{map_form}
use Rattle.ild_typed.specs.EachLayer.{some_layer, some_value, some_pair, some_field}
use Rattle.ild_typed.specs.Hamt.{a_map, alone, root_map, whole}
use Rattle.ild_typed.specs.Layer as L
use Rattle.ild_typed.specs.Layer.{Layer, as_map, as_hamt}
use Rattle.ild_typed.specs.OfType.{OfType}
use Rattle.ild_typed.specs.Represented.{represented, layered}
use Rattle.ild_typed.specs.Slots.{element_of, fields_of, member_of}
use Rattle.ild_typed.proofs.OneLayer.{in_layer, of_layer}
use Rattle.ild_build.specs.PartAt.{value_part_at}
use Rattle.ild_build.specs.TextRep.{is_text_layer}
use Rattle.ild_build.proofs.PartFits.{part_text, part_typed, only_of, text_layer}
use Rattle.ild_build.proofs.PartTests.{part_lower, parts_none}
use Rattle.ild_build_leaf.specs.Made.{IsLeaf, made}
use Rattle.ild_build_leaf.specs.Wrote.{Wrote}
use Rattle.ild_build_pass.specs.Writes.{Writes}
use Rattle.ild_build_entries.specs.declared.nodes.Nodes.{Nodes}
use Rattle.ild_build_pass.proofs.Flow.{leaf}
use Rattle.ild_build_pass.proofs.Writing.{wrote_same}
use Rattle.ild_build_pass.specs.Weights.{Weight, weigh, weigh_values, weigh_pairs, weigh_fields, hamt_weight}

-- ---- leaves

pub leaf_weight : (μ : Weight) (rows : List Row) (s : Slot) (v : Value) → IsLeaf v → weigh μ rows s v ≡ 0
leaf_weight μ rows s V.null h = refl
leaf_weight μ rows s (V.boolean b) h = refl
leaf_weight μ rows s (V.integer n) h = refl
leaf_weight μ rows s (V.text t) h = refl
leaf_weight μ rows s (V.bytes t) h = refl
leaf_weight μ rows s (V.link t) h = refl
leaf_weight μ rows s (V.any d) h = refl
leaf_weight μ rows s V.unit h = refl
leaf_weight μ rows s (V.enum n) h = refl
leaf_weight μ rows s (V.list vs) h = absurd h
leaf_weight μ rows s (V.map ps) h = absurd h
leaf_weight μ rows s (V.struct os) h = absurd h
leaf_weight μ rows s (V.union n v) h = absurd h
leaf_weight μ rows s (V.hamt d) h = absurd h

module _ (h : List ℕ → List ℕ) (rows : List Row) where
  map_alone : (f : MapForm) (l : Layer Data) → as_map l ≡ None → as_hamt l ≡ None → map_form (whole h) f l ≡ map_form alone f l
  map_alone MF.Map l a b = refl
  map_alone MF.ListPairs l a b = refl
  map_alone (MF.StringPairs i e) l a b = refl
  map_alone (MF.Hamt p) l a b =
      ap (λ o. option_map (root_map p) (option_and_then (λ es. trie h p es 0) o)) a
      ∙ sym (ap (λ o. option_and_then a_map o) b)

  layer_alone : (o : Option TypeDef) (l : Layer Data) → as_map l ≡ None → as_hamt l ≡ None → layered (whole h) o (Some l) ≡ layered alone o (Some l)
  layer_alone None l a b = refl
  layer_alone (Some (D.Map key key_at value at form)) l a b = map_alone form l a b
  layer_alone (Some D.Bool) l a b = refl
  layer_alone (Some D.Text) l a b = refl
  layer_alone (Some D.Bytes) l a b = refl
  layer_alone (Some D.Int) l a b = refl
  layer_alone (Some D.Any) l a b = refl
  layer_alone (Some (D.Link t)) l a b = refl
  layer_alone (Some (D.Unit f)) l a b = refl
  layer_alone (Some (D.List e at)) l a b = refl
  layer_alone (Some (D.Struct s)) l a b = refl
  layer_alone (Some (D.Union u)) l a b = refl
  layer_alone (Some (D.Enum e)) l a b = refl
  layer_alone (Some (D.Copy t)) l a b = refl

  leaf_alone : (s : Slot) (v : Value) → IsLeaf v → represented (whole h) rows s v ≡ represented alone rows s v
  leaf_alone s V.null k = refl
  leaf_alone s (V.boolean b) k = layer_alone (form_of rows s) (L.boolean b) refl refl
  leaf_alone s (V.integer n) k = layer_alone (form_of rows s) (L.integer n) refl refl
  leaf_alone s (V.text t) k = layer_alone (form_of rows s) (L.text t) refl refl
  leaf_alone s (V.bytes t) k = layer_alone (form_of rows s) (L.bytes t) refl refl
  leaf_alone s (V.link t) k = layer_alone (form_of rows s) (L.link t) refl refl
  leaf_alone s (V.any d) k = layer_alone (form_of rows s) (L.any d) refl refl
  leaf_alone s V.unit k = layer_alone (form_of rows s) L.unit refl refl
  leaf_alone s (V.enum n) k = layer_alone (form_of rows s) (L.enum n) refl refl
  leaf_alone s (V.list vs) k = absurd k
  leaf_alone s (V.map ps) k = absurd k
  leaf_alone s (V.struct os) k = absurd k
  leaf_alone s (V.union n v) k = absurd k
  leaf_alone s (V.hamt d) k = absurd k

  pub leaf_made : (s : Slot) (v : Value) → IsLeaf v → made (whole h) rows s v ≡ made alone rows s v
  leaf_made s v k = ap (option_map spell) (leaf_alone s v k)

pub leafs : (h : List ℕ → List ℕ) (rows : List Row) (s : Slot) (v : Value) → IsLeaf v → (old new : List ℕ) (was : Nodes) → Wrote (made alone rows s v) old new → Writes h rows (made (whole h) rows s v) (λ μ. weigh μ rows s v) old new was was
leafs h rows s v k old new was w =
    leaf h rows (made (whole h) rows s v) (λ μ. weigh μ rows s v) old new was (λ μ. leaf_weight μ rows s v k) (wrote_same (made (whole h) rows s v) (made alone rows s v) old new (leaf_made h rows s v k) w)

pub leaf_of : (h : List ℕ → List ℕ) (rows : List Row) (s : Slot) (val : Val) (v : Value) → value_of val ≡ v → IsLeaf v → (old new : List ℕ) (was : Nodes) → Wrote (made alone rows s v) old new
    → Writes h rows (made (whole h) rows s (value_of val)) (λ μ. weigh μ rows s (value_of val)) old new was was
leaf_of h rows s val v is k old new was w = subst (λ u. Writes h rows (made (whole h) rows s u) (λ μ. weigh μ rows s u) old new was was) (sym is) (leafs h rows s v k old new was w)

pub text_wrote : (rows : List Row) (s : Slot) (t old new : List ℕ) → new ≡ old ++ spell_text t → Wrote (made alone rows s (V.text t)) old new
text_wrote rows s t old new e = search rules

pub int_wrote : (rows : List Row) (s : Slot) (n : ℤ) (old new : List ℕ) → new ≡ old ++ spell_int n → Wrote (made alone rows s (V.integer n)) old new
int_wrote rows s n old new e = search rules

pub bool_wrote : (rows : List Row) (s : Slot) (b : Bool) (old new : List ℕ) → new ≡ old ++ spell (simple_data (Some b)) → Wrote (made alone rows s (V.boolean b)) old new
bool_wrote rows s b old new e = search rules

pub a_leaf : (val : Val) → ((x : Values) → val ≡ W.List x → ⊥) → ((x : Pairs) → val ≡ W.Map x → ⊥) → ((x : Optionals) → val ≡ W.Struct x → ⊥) → ((n : ℕ) (x : Value) → val ≡ W.Union n x → ⊥) → IsLeaf (value_of val)
a_leaf W.Null a b c d = tt
a_leaf (W.Bool x) a b c d = tt
a_leaf (W.Int x) a b c d = tt
a_leaf (W.Text x) a b c d = tt
a_leaf (W.Bytes x) a b c d = tt
a_leaf (W.Link x) a b c d = tt
a_leaf (W.Any x) a b c d = tt
a_leaf W.Unit a b c d = tt
a_leaf (W.Enum x) a b c d = tt
a_leaf (W.List x) a b c d = absurd (a x refl)
a_leaf (W.Map x) a b c d = absurd (b x refl)
a_leaf (W.Struct x) a b c d = absurd (c x refl)
a_leaf (W.Union n x) a b c d = absurd (d n x refl)

-- ---- no HAMT in a value

abbrev pub is_hamt : Option TypeDef → Value → Bool
is_hamt (Some (D.Map key key_at value at (MF.Hamt p))) (V.map ps) = true
is_hamt d v = false

module _ (μ : Weight) (rows : List Row) where
  here_none : (o : Option TypeDef) (ps : Pairs) → is_hamt o (V.map ps) ≡ false → hamt_weight μ o ps ≡ 0
  here_none None ps e = refl
  here_none (Some (D.Map key key_at value at (MF.Hamt p))) ps e = absurd cc
  here_none (Some (D.Map key key_at value at MF.Map)) ps e = refl
  here_none (Some (D.Map key key_at value at MF.ListPairs)) ps e = refl
  here_none (Some (D.Map key key_at value at (MF.StringPairs a b))) ps e = refl
  here_none (Some D.Bool) ps e = refl
  here_none (Some D.Text) ps e = refl
  here_none (Some D.Bytes) ps e = refl
  here_none (Some D.Int) ps e = refl
  here_none (Some D.Any) ps e = refl
  here_none (Some (D.Link t)) ps e = refl
  here_none (Some (D.Unit f)) ps e = refl
  here_none (Some (D.List a at)) ps e = refl
  here_none (Some (D.Struct s)) ps e = refl
  here_none (Some (D.Union u)) ps e = refl
  here_none (Some (D.Enum a)) ps e = refl
  here_none (Some (D.Copy t)) ps e = refl

  given : (f : Slot → Bool) (g : Slot → ℕ) (o : Option Slot) → ((u : Slot) → f u ≡ false → g u ≡ 0) → option_map_or f o false ≡ false → option_map_or g o 0 ≡ 0
  given f g None each e = refl
  given f g (Some u) each e = each u e

  mutual
    pub bare_weight : (s : Slot) (v : Value) → some_layer is_hamt rows s v ≡ false → weigh μ rows s v ≡ 0
    bare_weight s V.null e = refl
    bare_weight s (V.boolean b) e = refl
    bare_weight s (V.integer n) e = refl
    bare_weight s (V.text t) e = refl
    bare_weight s (V.bytes t) e = refl
    bare_weight s (V.link t) e = refl
    bare_weight s (V.any d) e = refl
    bare_weight s V.unit e = refl
    bare_weight s (V.enum n) e = refl
    bare_weight s (V.hamt d) e = refl
    bare_weight s (V.list vs) e =
        given (λ u. some_value is_hamt rows u vs) (λ u. weigh_values μ rows u vs) (element_of (form_of rows s)) (λ u k. bare_values u vs k)
        (or_parts (is_hamt (form_of rows s) (V.list vs)) (option_map_or (λ u. some_value is_hamt rows u vs) (element_of (form_of rows s)) false) e).1
    bare_weight s (V.map ps) e =
        let both = or_parts (is_hamt (form_of rows s) (V.map ps)) (option_map_or (λ u. some_pair is_hamt rows u ps) (element_of (form_of rows s)) false) e in
        let here = here_none (form_of rows s) ps both.0 in
        let parts = given (λ u. some_pair is_hamt rows u ps) (λ u. weigh_pairs μ rows u ps) (element_of (form_of rows s)) (λ u k. bare_pairs u ps k) both.1 in
        omega (arith, here, parts)
    bare_weight s (V.struct os) e = bare_fields (fields_of (form_of rows s)) os (or_parts (is_hamt (form_of rows s) (V.struct os)) (some_field is_hamt rows (fields_of (form_of rows s)) os) e).1
    bare_weight s (V.union n v) e =
        given (λ u. some_layer is_hamt rows u v) (λ u. weigh μ rows u v) (member_of (form_of rows s) n) (λ u k. bare_weight u v k)
        (or_parts (is_hamt (form_of rows s) (V.union n v)) (option_map_or (λ u. some_layer is_hamt rows u v) (member_of (form_of rows s) n) false) e).1

    bare_values : (u : Slot) (vs : Values) → some_value is_hamt rows u vs ≡ false → weigh_values μ rows u vs ≡ 0
    bare_values u V.no_values e = refl
    bare_values u (V.value v vs) e =
        let both = or_parts (some_layer is_hamt rows u v) (some_value is_hamt rows u vs) e in
        omega (arith, bare_weight u v both.0, bare_values u vs both.1)

    bare_pairs : (u : Slot) (ps : Pairs) → some_pair is_hamt rows u ps ≡ false → weigh_pairs μ rows u ps ≡ 0
    bare_pairs u V.no_pairs e = refl
    bare_pairs u (V.pair k v ps) e =
        let both = or_parts (some_layer is_hamt rows u v) (some_pair is_hamt rows u ps) e in
        omega (arith, bare_weight u v both.0, bare_pairs u ps both.1)

    bare_fields : (fs : List Field) (os : Optionals) → some_field is_hamt rows fs os ≡ false → weigh_fields μ rows fs os ≡ 0
    bare_fields fs V.no_optionals e = refl
    bare_fields [] (V.absent os) e = refl
    bare_fields [] (V.present v os) e = refl
    bare_fields (f ∷ fs) (V.absent os) e = bare_fields fs os e
    bare_fields (f ∷ fs) (V.present v os) e =
        let both = or_parts (some_layer is_hamt rows f.slot v) (some_field is_hamt rows fs os) e in
        omega (arith, bare_weight f.slot v both.0, bare_fields fs os both.1)

-- ---- texts

module _ (rows : List Row) (made_is : IsMade rows) where
  no_form : (f : MapForm) (p : HamtShape) → ((k : KindWord) → same_kind (map_kind f) k ≡ true → k ≡ K.Text) → f ≡ MF.Hamt p → ⊥
  no_form f p only e = let k : K.Map ≡ K.Text = only K.Map (ap (λ g. same_kind (map_kind g) K.Map) e) in absurd cc

  here_text : (d : TypeDef) (v : Value) → ((k : KindWord) → has_kind d k ≡ true → k ≡ K.Text) → is_hamt (Some d) v ≡ false
  here_text (D.Map key key_at value at (MF.Hamt p)) (V.map ps) only = absurd (no_form (MF.Hamt p) p only refl)
  here_text (D.Map key key_at value at MF.Map) v only = refl
  here_text (D.Map key key_at value at MF.ListPairs) v only = refl
  here_text (D.Map key key_at value at (MF.StringPairs a b)) v only = refl
  here_text (D.Map key key_at value at (MF.Hamt p)) v only = refl
  here_text d v only = refl

  no_part : (x : Value) (i : ℕ) (u : Slot) (w : Value) → value_part_at None x i ≡ Some (u, w) → ⊥
  no_part (V.list vs) i u w e = none-some {A = Slot × Value} (u, w) e
  no_part (V.map vs) i u w e = none-some {A = Slot × Value} (u, w) e
  no_part (V.struct vs) i u w e = none-some {A = Slot × Value} (u, w) e
  no_part (V.union m vs) i u w e = none-some {A = Slot × Value} (u, w) e
  no_part x i u w e = none-some {A = Slot × Value} (u, w) e

  bare_by : (s : Slot) (v : Value) → OfType rows s v → HasOnly rows s K.Text
      → ((i : ℕ) (u : Slot) (w : Value) → value_part_at (form_of rows s) v i ≡ Some (u, w) → OfType rows u w → HasOnly rows u K.Text → some_layer is_hamt rows u w ≡ false)
      → (o : Option TypeDef) → form_of rows s ≡ o → some_layer is_hamt rows s v ≡ false
  bare_by s v typed only later None is =
      parts_none is_hamt rows s v (ap (λ o. is_hamt o v) is) (λ i u w e. absurd (no_part v i u w (ap (λ o. value_part_at o v i) (sym is) ∙ e)))
  bare_by s v typed only later (Some d) is =
      parts_none is_hamt rows s v (ap (λ o. is_hamt o v) is ∙ here_text d v (only_of rows made_is s d is only))
      (λ i u w e. let k = ap (λ o. value_part_at o v i) (sym is) ∙ e in later i u w e (part_typed rows s v d is typed i u w k) (part_text rows made_is s v d is only i u w k))

  texts_bare : (n : ℕ) (s : Slot) (v : Value) → height v < n → OfType rows s v → HasOnly rows s K.Text → some_layer is_hamt rows s v ≡ false
  texts_bare zero s v less typed only = absurd (omega (arith, less))
  texts_bare (suc n) s v less typed only =
      bare_by s v typed only (λ i u w e t o. texts_bare n u w (next (height w) (height v) n (part_lower (form_of rows s) v i u w e) less) t o) (form_of rows s) refl
    where
      next : (a b c : ℕ) → a < b → b < suc c → a < c
      next a b c x y = omega (arith, x, y)

  -- a value of text form
  pub text_weight : (μ : Weight) (s : Slot) (v : Value) → OfType rows s v → HasOnly rows s K.Text → weigh μ rows s v ≡ 0
  text_weight μ s v typed only = bare_weight μ rows s v (texts_bare (height v + 1) s v (omega arith) typed only)

  -- a layer that stands as a text, in whatever slot
  pub layer_weight : (μ : Weight) (s : Slot) (v : Value) (d : TypeDef) → form_of rows s ≡ Some d → is_text_layer d v ≡ true → OfType rows s v → weigh μ rows (plainly s.ty) v ≡ 0
  layer_weight μ s v d is text typed =
      let layer = text_layer rows s v d is text in
      let y = in_layer rows s v layer.layer layer.is typed in
      let plain = of_layer rows (plainly s.ty) v y.ty layer.layer y.form layer.is y.holds in
      text_weight μ (plainly s.ty) v (plain.0, plain.1) layer.only
