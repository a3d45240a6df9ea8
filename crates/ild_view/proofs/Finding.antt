-- The part of a front beside the data that a block shows for it: elements, entries, fields and members.
use Rattle.std.proofs.Common.{◌≡◌, ◌+◌, ℕ, zero, suc, List, [], ◌∷◌, Bool, true, false, cond, Option, Some, None, option_map, refl, sym, ◌∙◌, ap, subst, arith}
use Rattle.std.specs.Prelude.{IsUtf8, bytes_eq, option_and_then, slice_get}
use Rattle.std.specs.List.{position_from}
use Rattle.std.proofs.lemmas.Option.{same_Some, none-some}
use Rattle.ild_cbor.specs.Span.{item_of}
use Rattle.ild_data.specs.Data.{Data}
use Rattle.ild_data.specs.Key.{same_text, value_at}
use Rattle.ild_data.specs.Tree.{IsTree}
use Rattle.ild_data.proofs.Lists.{items_list-items_of}
use Rattle.ild_layer_piece.proofs.Searching.{all_then, text_agrees}
use Rattle.ild_schema.specs.Clear.{IsClear}
use Rattle.ild_schema.specs.Prelude.{anything}
use Rattle.ild_schema.specs.Slots.{form_of, plainly}
use Rattle.ild_schema.specs.Value as V
use Rattle.ild_schema.specs.Value.{Value, Optionals, optionals_list, pairs_list, values_list}
use Rattle.ild_schema.specs.declared.def.Field.{Field}
use Rattle.ild_schema.specs.declared.def.MapForm.{MapForm}
use Rattle.ild_schema.specs.declared.def.StructDef.{StructDef}
use Rattle.ild_schema.specs.declared.def.TypeDef.{TypeDef}
use Rattle.ild_schema.specs.declared.def.TypeDef.TheVariants as D
use Rattle.ild_schema.specs.declared.number.Slot.{Slot}
use Rattle.ild_schema.specs.declared.number.TypeNo.{TypeNo}
use Rattle.ild_schema.specs.declared.row.Row.{Row}
use Rattle.ild_typed.specs.At.{InSlot, seen}
use Rattle.ild_typed.specs.Fits.{Front}
use Rattle.ild_typed.specs.Hamt.{alone}
use Rattle.ild_typed.specs.Holder.{elements}
use Rattle.ild_typed.specs.Layer as L
use Rattle.ild_typed.specs.Layers.{FieldsFit, RepresentsSome}
use Rattle.ild_data.specs.Data.{text}
use Rattle.ild_typed.specs.OfType.{OfType}
use Rattle.ild_typed.specs.Pieces.{is_null_there}
use Rattle.ild_typed.specs.Represented.{represented, represented_fields}
use Rattle.ild_typed.specs.Segment.{field_at}
use Rattle.ild_typed.specs.Strings.{members_in}
use Rattle.ild_typed.proofs.Basics.{map_from}
use Rattle.ild_typed.proofs.Entries.{both_from}
use Rattle.ild_view.proofs.Opening.{front_any, front_fits, front_list, front_map, front_struct, is_hamt}
use Rattle.ild_view.proofs.Parting.{Beside, any_element, any_entry, element_beside, entry_beside, seen_by, seen_list, seen_map, seen_struct}
use Rattle.ild_view.specs.Forms.{element_slot}
use Rattle.ild_view.specs.Parts.{element_at, entry_at, field_named}
use Rattle.ild_view.specs.Safe.{is_safe}
use Rattle.std.specs.Cmp.Lexicographic.{same_text as text_same}
use Rattle.ild_typed.proofs.Entries.{same_text_self}

same_swap : (a b : List ℕ) → same_text a b ≡ same_text b a
same_swap a b = by (same_text a b) (same_text b a) refl refl where
  by : (x y : Bool) → same_text a b ≡ x → same_text b a ≡ y → x ≡ y
  by true true e k = refl
  by false false e k = refl
  by true false e k = sym (same_text_self a) ∙ ap (λ c. same_text c a) (text_same a b (sym e)) ∙ k
  by false true e k = sym e ∙ ap (λ c. same_text a c) (text_same b a (sym k)) ∙ same_text_self a

-- ---- the field of a name

abbrev pub FirstNamed : List ℕ → ℕ → List Field → Type 0
FirstNamed name n [] = ⊥
FirstNamed name zero (f ∷ fs) = same_text name f.name ≡ true
FirstNamed name (suc n) (f ∷ fs) = (same_text name f.name ≡ false) × FirstNamed name n fs

abbrev pub named : List ℕ → Field → Bool
named name f = bytes_eq name f.name

named_same : (name : List ℕ) (f : Field) → named name f ≡ same_text name f.name
named_same name f = text_agrees name f.name ∙ same_swap f.name name

pub record FoundAt (name : List ℕ) (i n : ℕ) (fs : List Field) : Type 0 where
  pub place : ℕ
  pub sum : n ≡ i + place
  pub first : FirstNamed name place fs

found_from : (name : List ℕ) (fs : List Field) (i n : ℕ) → position_from (named name) i fs ≡ Some n → FoundAt name i n fs
found_from name [] i n e = absurd (none-some n e)
found_from name (f ∷ fs) i n e = by (named name f) (named_same name f) (found_from name fs (i + 1) n) e where
  by : (b : Bool) → b ≡ same_text name f.name → (position_from (named name) (i + 1) fs ≡ Some n → FoundAt name (i + 1) n fs)
      → cond b (Some i) (position_from (named name) (i + 1) fs) ≡ Some n → FoundAt name i n (f ∷ fs)
  by true is more k = let same : i ≡ n = same_Some i n k in record { place = zero; sum = omega (arith, same); first = sym is }
  by false is more k =
      let rest : FoundAt name (i + 1) n fs = more k in
      record { place = suc rest.place; sum = let s = rest.sum in omega (arith, s); first = (sym is, rest.first) }

pub first_named : (name : List ℕ) (fs : List Field) (n : ℕ) → position_from (named name) 0 fs ≡ Some n → FirstNamed name n fs
first_named name fs n e =
    let x = found_from name fs 0 n e in
    let same : x.place ≡ n = let s = x.sum in omega (arith, s) in
    subst (λ (k : ℕ). FirstNamed name k fs) same x.first

pub none_named : (name : List ℕ) (fs : List Field) (i : ℕ) → position_from (named name) i fs ≡ None → (os : List (Option Value)) → field_at name fs os ≡ None
none_named name [] i e os = refl
none_named name (f ∷ fs) i e [] = refl
none_named name (f ∷ fs) i e (o ∷ os) = by (named name f) (named_same name f) (none_named name fs (i + 1)) e where
  by : (b : Bool) → b ≡ same_text name f.name → (position_from (named name) (i + 1) fs ≡ None → (us : List (Option Value)) → field_at name fs us ≡ None)
      → cond b (Some i) (position_from (named name) (i + 1) fs) ≡ None → field_at name (f ∷ fs) (o ∷ os) ≡ None
  by true is more k = absurd (none-some i (sym k))
  by false is more k = ap (λ c. cond c (option_map (λ v. (f.slot, v)) o) (field_at name fs os)) (sym is) ∙ more k os

module _ (rows : List Row) (name : List ℕ) where
  -- a field that is passed over
  later : (q : Option InSlot) (f g : Field) (o : Option Value) (held : Option Data) → same_text name f.name ≡ false → Beside rows g.slot held q
      → Beside rows g.slot held (cond (same_text name f.name) (option_map (λ v. (f.slot, v)) o) q)
  later q f g o held other h = subst (λ c. Beside rows g.slot held (cond c (option_map (λ v. (f.slot, v)) o) q)) (sym other) h

  own : (q : Option InSlot) (f : Field) (o : Option Value) (held : Option Data) → same_text name f.name ≡ true → Beside rows f.slot held (option_map (λ v. (f.slot, v)) o)
      → Beside rows f.slot held (cond (same_text name f.name) (option_map (λ v. (f.slot, v)) o) q)
  own q f o held same h = subst (λ c. Beside rows f.slot held (cond c (option_map (λ v. (f.slot, v)) o) q)) (sym same) h

  pub field_beside : (fs : List Field) (os : Optionals) (ds : List (Option Data)) → represented_fields alone rows fs os ≡ Some ds → FieldsFit (OfType rows) fs (optionals_list os)
      → (i : ℕ) (g : Field) (held : Option Data) → slice_get fs i ≡ Some g → slice_get ds i ≡ Some held → FirstNamed name i fs → Beside rows g.slot held (field_at name fs (optionals_list os))
  field_beside [] os ds e fit i g held there at first = absurd first
  field_beside (f ∷ fs) V.no_optionals ds e fit i g held there at first = absurd fit
  field_beside (f ∷ fs) (V.absent os) ds e fit zero g held there at first =
      let b = map_from (λ xs. None ∷ xs) (represented_fields alone rows fs os) ds e in
      let is : None ≡ held = same_Some None held (ap (λ (xs : List (Option Data)). slice_get xs zero) (same_Some (None ∷ b.item) ds b.made) ∙ at) in
      subst (λ (k : Field). Beside rows k.slot held (field_at name (f ∷ fs) (None ∷ optionals_list os))) (same_Some f g there) (own (field_at name fs (optionals_list os)) f None held first (subst (λ (o : Option Data). Beside rows f.slot o None) is tt))
  field_beside (f ∷ fs) (V.absent os) ds e fit (suc i) g held there at first =
      let b = map_from (λ xs. None ∷ xs) (represented_fields alone rows fs os) ds e in
      let is : slice_get b.item i ≡ Some held = ap (λ (xs : List (Option Data)). slice_get xs (suc i)) (same_Some (None ∷ b.item) ds b.made) ∙ at in
      later (field_at name fs (optionals_list os)) f g None held first.0 (field_beside fs os b.item b.there fit.1 i g held there is first.1)
  field_beside (f ∷ fs) (V.present v os) ds e fit zero g held there at first =
      let b = both_from (option_map Some (represented alone rows f.slot v)) (represented_fields alone rows fs os) ds e in
      let x = map_from Some (represented alone rows f.slot v) b.item b.first in
      let is : Some x.item ≡ held = same_Some (Some x.item) held (ap Some (same_Some (Some x.item) b.item x.made) ∙ ap (λ (xs : List (Option Data)). slice_get xs zero) b.all ∙ at) in
      subst (λ (k : Field). Beside rows k.slot held (field_at name (f ∷ fs) (Some v ∷ optionals_list os))) (same_Some f g there)
      (own (field_at name fs (optionals_list os)) f (Some v) held first (subst (λ (o : Option Data). Beside rows f.slot o (Some (f.slot, v))) is (refl, record { typed = fit.0; tree = x.there })))
  field_beside (f ∷ fs) (V.present v os) ds e fit (suc i) g held there at first =
      let b = both_from (option_map Some (represented alone rows f.slot v)) (represented_fields alone rows fs os) ds e in
      let is : slice_get b.items i ≡ Some held = ap (λ (xs : List (Option Data)). slice_get xs (suc i)) b.all ∙ at in
      later (field_at name fs (optionals_list os)) f g (Some v) held first.0 (field_beside fs os b.items b.rest fit.1 i g held there is first.1)

-- ---- the parts of a front

module _ (rows : List Row) (clear : IsClear rows) (s : Slot) (safe : is_safe rows s ≡ true) (room : ℕ) (f : Value) (t : Data) (front : Front rows room s f t) (some : is_null_there s t ≡ false) where
  pub any_tree : form_of rows s ≡ Some D.Any → IsTree t
  any_tree known = (front_fits rows clear s safe room f t front some D.Any known (V.any t) (L.any t) (front_any rows clear s safe room f t front some known) refl).0

  list_beside : (elem : Slot) (at : ℕ) → form_of rows s ≡ Some (D.List elem at) → (i : ℕ) → Beside rows elem (item_of t i) (element_at (seen rows (s, f)) i)
  list_beside elem at known i =
      let x = front_list rows clear s safe room f t front some elem at known in
      let same : item_of t i ≡ slice_get x.parts i = ap (λ d. item_of d i) x.tree ∙ ap (λ (ds : List Data). slice_get ds i) (items_list-items_of x.parts) in
      subst (λ h. Beside rows elem (item_of t i) (element_at h i)) (sym (seen_list rows clear s safe room f t front some elem at known))
      (subst (λ o. Beside rows elem o (element_at (elements elem (values_list x.items)) i)) (sym same) (element_beside rows elem x.items x.parts x.there x.fit i))

  pub element_there : form_of rows anything ≡ Some D.Any → (d : TypeDef) → form_of rows s ≡ Some d → (u : Slot) → element_slot d ≡ Some u → (i : ℕ) → Beside rows u (item_of t i) (element_at (seen rows (s, f)) i)
  element_there any (D.List elem at) known u e i = subst (λ (k : Slot). Beside rows k (item_of t i) (element_at (seen rows (s, f)) i)) (same_Some elem u e) (list_beside elem at known i)
  element_there any D.Any known u e i =
      subst (λ (k : Slot). Beside rows k (item_of t i) (element_at (seen rows (s, f)) i)) (same_Some anything u e)
      (subst (λ h. Beside rows anything (item_of t i) (element_at h i)) (sym (seen_by rows clear s safe room f t front some D.Any known)) (any_element rows any t (any_tree known) i))
  element_there any d known u e i = absurd (none-some u e)

  pub map_entry_there : (key : TypeNo) (key_at : ℕ) (value : Slot) (at : ℕ) (form : MapForm) (plain : is_hamt form ≡ false) (known : form_of rows s ≡ Some (D.Map key key_at value at form)) → (k : List ℕ)
      → Beside rows value (value_at k (front_map rows clear s safe room f t front some key key_at value at form plain known).parts) (entry_at (seen rows (s, f)) k)
  map_entry_there key key_at value at form plain known k =
      let x = front_map rows clear s safe room f t front some key key_at value at form plain known in
      subst (λ h. Beside rows value (value_at k x.parts) (entry_at h k)) (sym (seen_map rows clear s safe room f t front some key key_at value at form plain known))
      (entry_beside rows value x.items x.parts x.there
      (all_then (λ (p : List ℕ × Value). IsUtf8 p.0 × RepresentsSome (OfType rows) rows (plainly key) (text p.0) × OfType rows value p.1) (λ (p : List ℕ × Value). OfType rows value p.1) (pairs_list x.items) (λ p h. h.2) x.fit.1) k)

  pub any_entry_there : form_of rows anything ≡ Some D.Any → form_of rows s ≡ Some D.Any → (k : List ℕ) → Beside rows anything (option_and_then (value_at k) (members_in t)) (entry_at (seen rows (s, f)) k)
  any_entry_there any known k =
      subst (λ h. Beside rows anything (option_and_then (value_at k) (members_in t)) (entry_at h k)) (sym (seen_by rows clear s safe room f t front some D.Any known)) (any_entry rows any t (any_tree known) k)

  pub field_there : (def : StructDef) (known : form_of rows s ≡ Some (D.Struct def)) (name : List ℕ) (n : ℕ) → position_from (named name) 0 def.fields ≡ Some n
      → (g : Field) (held : Option Data) → slice_get def.fields n ≡ Some g → slice_get (front_struct rows clear s safe room f t front some def known).parts n ≡ Some held → Beside rows g.slot held (field_named (seen rows (s, f)) name)
  field_there def known name n found g held there at =
      let x = front_struct rows clear s safe room f t front some def known in
      subst (λ h. Beside rows g.slot held (field_named h name)) (sym (seen_struct rows clear s safe room f t front some def known))
      (field_beside rows name def.fields x.items x.parts x.there x.fit n g held there at (first_named name def.fields n found))

  pub no_field_there : (def : StructDef) → form_of rows s ≡ Some (D.Struct def) → (name : List ℕ) → position_from (named name) 0 def.fields ≡ None → field_named (seen rows (s, f)) name ≡ None
  no_field_there def known name none =
      let x = front_struct rows clear s safe room f t front some def known in
      ap (λ h. field_named h name) (seen_struct rows clear s safe room f t front some def known) ∙ none_named name def.fields 0 none (optionals_list x.items)
