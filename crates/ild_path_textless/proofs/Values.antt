-- The values of a type in text form have texts, where they break no delimiter.
use Rattle.std.proofs.Common.{◌≡◌, ℕ, List, [], ◌∷◌, slice_get, Bool, true, false, Option, Some, option_map, refl, ◌∙◌, ap, subst}
use Rattle.std.specs.Prelude.{option_and_then}
use Rattle.std.specs.List.{AllByRecursion}
use Rattle.std.specs.Option.{option_map_or}
use Rattle.std.proofs.lemmas.Bool.{and_from, or_from}
use Rattle.ild_path_edits.proofs.LayerTesting.{slot_in}
use Rattle.ild_data.proofs.AllOf.{all_at}
use Rattle.ild_build.specs.TextRep.{text_rep}
use Rattle.ild_path_edits.specs.Along.{IsFree}
use Rattle.ild_path_textless.proofs.Slots.{HasTexts, IsText, text_slots}
use Rattle.ild_schema.proofs.Legibly.{legible}
use Rattle.ild_schema.specs.DataKinds.{kind_in, map_kind, struct_kind}
use Rattle.ild_schema.specs.Made.{IsTextSlot}
use Rattle.ild_schema.specs.Slots.{form_of, plainly}
use Rattle.ild_schema.specs.Value as V
use Rattle.ild_schema.specs.Value.{Optionals, Pairs, Value}
use Rattle.ild_schema.specs.Whole.{fields_whole, is_whole, pairs_whole}
use Rattle.ild_schema.specs.declared.def.Field.{Field}
use Rattle.ild_schema.specs.declared.def.KindWord.TheVariants as K
use Rattle.ild_schema.specs.declared.def.MapForm.{MapForm}
use Rattle.ild_schema.specs.declared.def.MapForm.TheVariants as MF
use Rattle.ild_schema.specs.declared.def.Member.{Member}
use Rattle.ild_schema.specs.declared.def.StructForm.{StructForm}
use Rattle.ild_schema.specs.declared.def.StructForm.TheVariants as S
use Rattle.ild_schema.specs.declared.def.TypeDef.{TypeDef}
use Rattle.ild_schema.specs.declared.def.TypeDef.TheVariants as D
use Rattle.ild_schema.specs.declared.def.UnionDef.{UnionDef}
use Rattle.ild_schema.specs.declared.number.Slot.{Slot}
use Rattle.ild_schema.specs.declared.row.Row.{Row}
use Rattle.ild_typed.proofs.Flat.{flat_alone, flat_text}
use Rattle.ild_typed.proofs.Making.{text_slot, itself}
use Rattle.ild_typed.proofs.MakingValues.{typed_tree}
use Rattle.ild_typed.specs.EachLayer.{some_field, some_layer, some_pair}
use Rattle.ild_typed.specs.Hamt.{whole}
use Rattle.ild_typed.specs.Judged.{breaks_delimiter, exhausts, has_hole, is_exhausted, is_hole, map_exhausts, tuple_hole}
use Rattle.ild_typed.specs.OfType.{OfType, TestsKeys}
use Rattle.ild_typed.specs.Represented.{represented_pairs}
use Rattle.ild_typed.specs.Schema.{IsSchema}
use Rattle.ild_typed.specs.Slots.{element_of, fields_of, member_of, slot_of}
use Rattle.ild_typed.specs.Strings.{text_in}
use Rattle.ild_value_meaning.proofs.ByParts.{ByParts, EntriesByParts, FieldsByParts}
use Rattle.ild_value_meaning.proofs.TypedByParts.{to_parts}

member_slot : (F : Option TypeDef) (u : UnionDef) (n : ℕ) (m : Member) → F ≡ Some (D.Union u) → slice_get u.members n ≡ Some m → member_of F n ≡ Some (plainly m.ty)
member_slot F u n m e h = ap (λ g. member_of g n) e ∙ ap (option_map slot_of) h

-- ---- no tuple and no HAMT is of text form

no_tuple : (form : StructForm) (os : Optionals) → struct_kind form ≡ K.Text → tuple_hole form os ≡ false
no_tuple S.Map os e = refl
no_tuple S.Tuple os e = absurd cc
no_tuple S.ListPairs os e = refl
no_tuple (S.StringPairs inner entry) os e = refl
no_tuple (S.StringJoin delim) os e = refl

no_hole : (F : Option TypeDef) → IsText F → (v : Value) → is_hole F v ≡ false
no_hole (Some (D.Struct s)) only (V.struct os) = no_tuple s.form os (only (struct_kind s.form) (itself (struct_kind s.form)))
no_hole F only v = refl

no_hamt : (h : List ℕ → List ℕ) (form : MapForm) (o : _) → map_kind form ≡ K.Text → map_exhausts h form o ≡ false
no_hamt h MF.Map o e = refl
no_hamt h MF.ListPairs o e = refl
no_hamt h (MF.StringPairs inner entry) o e = refl
no_hamt h (MF.Hamt shape) o e = absurd cc

no_trie : (h : List ℕ → List ℕ) (rows : List Row) (F : Option TypeDef) → IsText F → (v : Value) → is_exhausted h rows F v ≡ false
no_trie h rows (Some (D.Map key key_at value at form)) only (V.map ps) = no_hamt h form (represented_pairs (whole h) rows value ps) (only (map_kind form) (itself (map_kind form)))
no_trie h rows F only v = refl

module _ (rows : List Row) (is_key : ℕ → List ℕ → Bool) (schema : IsSchema rows) where
  abbrev Of : Slot → Value → Type 0
  Of s v = ByParts rows is_key s v

  parts_of : (s : Slot) (F : Option TypeDef) → IsTextSlot rows s → form_of rows s ≡ F → HasTexts rows F
  parts_of s F text e = subst (HasTexts rows) e (text_slots rows schema s text)

  -- a test that no layer of text form meets
  module _ (test : Option TypeDef → Value → Bool) (quiet : (F : Option TypeDef) → IsText F → (v : Value) → test F v ≡ false) where
    own : (s : Slot) (v : Value) → IsTextSlot rows s → test (form_of rows s) v ≡ false
    own s v text = quiet (form_of rows s) text.only v

    mutual
      free : (v : Value) (s : Slot) → IsTextSlot rows s → Of s v → IsFree test rows s v
      free V.null s text t = refl
      free (V.boolean b) s text t = refl
      free (V.integer n) s text t = refl
      free (V.text x) s text t = refl
      free (V.bytes x) s text t = refl
      free (V.link x) s text t = refl
      free (V.list vs) s text t = absurd (parts_of s (Some (D.List t.0 t.1)) text t.2)
      free (V.map ps) s text t =
          let elem = parts_of s (Some (D.Map t.0 t.1 t.2 t.3 t.4)) text t.5 in
          or_from (test (form_of rows s) (V.map ps)) (option_map_or (λ u. some_pair test rows u ps) (element_of (form_of rows s)) false) (own s (V.map ps) text)
          (slot_in (element_of (form_of rows s)) t.2 (λ u. some_pair test rows u ps) (ap element_of t.5) (free_pairs ps (t.0).0 t.2 elem t.6))
      free (V.struct os) s text t =
          or_from (test (form_of rows s) (V.struct os)) (some_field test rows (fields_of (form_of rows s)) os) (own s (V.struct os) text)
          (ap (λ F. some_field test rows (fields_of F) os) t.1 ∙ free_fields os (t.0).fields (parts_of s (Some (D.Struct t.0)) text t.1) t.2)
      free (V.union n v) s text t =
          let slot = plainly (t.1).ty in
          let inner = all_at (λ m. IsTextSlot rows (plainly m.ty)) (t.0).members n t.1 (parts_of s (Some (D.Union t.0)) text t.2) t.3 in
          or_from (test (form_of rows s) (V.union n v)) (option_map_or (λ u. some_layer test rows u v) (member_of (form_of rows s) n) false) (own s (V.union n v) text)
          (slot_in (member_of (form_of rows s) n) slot (λ u. some_layer test rows u v) (member_slot (form_of rows s) t.0 n t.1 t.2 t.3) (free v slot inner t.4))
      free (V.enum n) s text t = refl
      free V.unit s text t = refl
      free (V.any d) s text t = refl
      free (V.hamt d) s text t = refl

      free_pairs : (ps : Pairs) (key : ℕ) (s : Slot) → IsTextSlot rows s → EntriesByParts rows is_key key s ps → some_pair test rows s ps ≡ false
      free_pairs V.no_pairs key s text t = refl
      free_pairs (V.pair k v ps) key s text t = or_from (some_layer test rows s v) (some_pair test rows s ps) (free v s text t.1) (free_pairs ps key s text t.2)

      free_fields : (os : Optionals) (fs : List Field) → AllByRecursion (λ f. IsTextSlot rows f.slot) fs → FieldsByParts rows is_key fs os → some_field test rows fs os ≡ false
      free_fields V.no_optionals fs all t = refl
      free_fields (V.absent os) [] all t = refl
      free_fields (V.absent os) (f ∷ fs) all t = free_fields os fs all.1 t.1
      free_fields (V.present v os) [] all t = refl
      free_fields (V.present v os) (f ∷ fs) all t = or_from (some_layer test rows f.slot v) (some_field test rows fs os) (free v f.slot all.0 t.0) (free_fields os fs all.1 t.1)

  -- no root of a HAMT stands in a text
  mutual
    entire : (v : Value) (s : Slot) → IsTextSlot rows s → Of s v → is_whole v ≡ true
    entire V.null s text t = refl
    entire (V.boolean b) s text t = refl
    entire (V.integer n) s text t = refl
    entire (V.text x) s text t = refl
    entire (V.bytes x) s text t = refl
    entire (V.link x) s text t = refl
    entire (V.list vs) s text t = absurd (parts_of s (Some (D.List t.0 t.1)) text t.2)
    entire (V.map ps) s text t = pairs_entire ps (t.0).0 t.2 (parts_of s (Some (D.Map t.0 t.1 t.2 t.3 t.4)) text t.5) t.6
    entire (V.struct os) s text t = fields_entire os (t.0).fields (parts_of s (Some (D.Struct t.0)) text t.1) t.2
    entire (V.union n v) s text t = entire v (plainly (t.1).ty) (all_at (λ m. IsTextSlot rows (plainly m.ty)) (t.0).members n t.1 (parts_of s (Some (D.Union t.0)) text t.2) t.3) t.4
    entire (V.enum n) s text t = refl
    entire V.unit s text t = refl
    entire (V.any d) s text t = refl
    entire (V.hamt d) s text t = let e : K.Map ≡ K.Text = text.only K.Map (ap (λ F. kind_in F K.Map) t.5) in absurd cc

    pairs_entire : (ps : Pairs) (key : ℕ) (s : Slot) → IsTextSlot rows s → EntriesByParts rows is_key key s ps → pairs_whole ps ≡ true
    pairs_entire V.no_pairs key s text t = refl
    pairs_entire (V.pair k v ps) key s text t = and_from (is_whole v) (pairs_whole ps) (entire v s text t.1) (pairs_entire ps key s text t.2)

    fields_entire : (os : Optionals) (fs : List Field) → AllByRecursion (λ f. IsTextSlot rows f.slot) fs → FieldsByParts rows is_key fs os → fields_whole os ≡ true
    fields_entire V.no_optionals fs all t = refl
    fields_entire (V.absent os) [] all t = absurd t
    fields_entire (V.absent os) (f ∷ fs) all t = fields_entire os fs all.1 t.1
    fields_entire (V.present v os) [] all t = absurd t
    fields_entire (V.present v os) (f ∷ fs) all t = and_from (is_whole v) (fields_whole os) (entire v f.slot all.0 t.0) (fields_entire os fs all.1 t.1)

  pub has_text : (h : List ℕ → List ℕ) → TestsKeys rows is_key → (s : Slot) (v : Value) → IsTextSlot rows s → OfType rows s v → breaks_delimiter rows s v ≡ false → (x : List ℕ) × (text_rep rows s v ≡ Some x)
  has_text h keys s v text typed sound =
      let t = to_parts rows is_key keys v s typed in
      let hole : has_hole rows s v ≡ false = free is_hole no_hole v s text t in
      let full : exhausts h rows s v ≡ false = free (is_exhausted h rows) (no_trie h rows) v s text t in
      let d = typed_tree h rows (legible rows schema.accepted).made s v (typed.0, typed.1, entire v s text t) hole sound full in
      let x = text_slot h rows s v d.0 text d.1 in
      (x.text, ap (option_and_then text_in) (flat_alone h rows s v d.0 d.1 (flat_text d.0 x.text x.is)) ∙ x.is)
