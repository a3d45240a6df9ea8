-- What a view of a part needs: its type is in the table, null stands for null alone, and what is passed over is known.
use Rattle.std.proofs.Common.{◌≡◌, ◌<◌, ◌≤◌, ◌||◌, ℕ, zero, suc, List, [], ◌∷◌, Bool, true, false, not, length, map, Some, refl, sym, ◌∙◌, ap, subst, arith}
use Rattle.std.specs.Prelude.{is_some, option_and_then, slice_get}
use Rattle.std.specs.Option.{option_map_or}
use Rattle.std.specs.List.{All, AllByRecursion}
use Rattle.std.proofs.lemmas.Option.{same_Some, none-some}
use Rattle.ild_view_walk.proofs.Finding.{inline_form}
use Rattle.ild_data.proofs.AllOf.{all_at}
use Rattle.ild_cbor.specs.declared.piece.Piece.{Piece}
use Rattle.ild_cbor.specs.declared.piece.Piece.TheVariants as Q
use Rattle.ild_layer_piece.specs.Pieces.{IsNumbered, inline_key, passed_key}
use Rattle.ild_schema.specs.Clear.{IsSafe}
use Rattle.ild_schema.specs.Copies.{base}
use Rattle.ild_schema.specs.Fitting.{ImplicitFits}
use Rattle.ild_schema.specs.Legible.{IsLegible}
use Rattle.ild_schema.specs.Made.{MadeMember}
use Rattle.ild_schema.specs.Prelude.{anything}
use Rattle.ild_schema.specs.Slots.{form_of, plainly}
use Rattle.ild_schema.specs.Table.{IsTable, IsWithin}
use Rattle.ild_schema.specs.declared.def.Field.{Field}
use Rattle.ild_schema.specs.declared.def.MapForm.{MapForm}
use Rattle.ild_schema.specs.declared.def.Member.{Member}
use Rattle.ild_schema.specs.declared.def.StructDef.{StructDef}
use Rattle.ild_schema.specs.declared.def.TypeDef.{TypeDef}
use Rattle.ild_schema.specs.declared.def.TypeDef.TheVariants as D
use Rattle.ild_schema.specs.declared.def.UnionDef.{UnionDef}
use Rattle.ild_schema.specs.declared.def.UnionForm.TheVariants as UF
use Rattle.ild_schema.specs.declared.number.Slot.{Slot}
use Rattle.ild_schema.specs.declared.number.TypeNo.{TypeNo}
use Rattle.ild_schema.specs.declared.row.Row.{Row}
use Rattle.ild_struct.specs.Source.{types_of}
use Rattle.ild_typed.proofs.OneValue.{element_safe, plain_safe}
use Rattle.ild_union.specs.Forms.{IsPassedBy, passes_over}
use Rattle.ild_view.proofs.Opening.{is_safe_where}
use Rattle.ild_view.proofs.Parting.{any_low, any_safe, any_there}
use Rattle.ild_view.specs.Body.{body_types, is_free, is_placed, is_struct}
use Rattle.ild_view.specs.Forms.{element_slot}
use Rattle.ild_view.specs.Safe.{is_safe}
use Rattle.ild_view.specs.declared.body.Body.{Body}
use Rattle.ild_view.specs.declared.body.Body.TheVariants as B

-- ---- pieces in which nothing is passed over

pub free_numbered : (n : ℕ) (b : Body) → is_free b ≡ true → body_types b ≤ n
free_numbered n (B.Held (Q.Node m)) e = omega arith
free_numbered n (B.Held (Q.Text s)) e = omega arith
free_numbered n (B.Held (Q.Bytes s)) e = omega arith
free_numbered n (B.Held (Q.Inline m u)) e = absurd cc
free_numbered n (B.Implicit c) e = absurd cc

pub free_placed : (rows : List Row) (s : Slot) (b : Body) → is_free b ≡ true → is_placed rows s b ≡ true
free_placed rows s (B.Held p) e = ap (λ c. c || option_map_or is_struct (form_of rows s) false) e
free_placed rows s (B.Implicit c) e = absurd cc

pub numbered_piece : (rows : List Row) (p : Piece) → types_of p ≤ length rows → IsNumbered rows p
numbered_piece rows (Q.Node n) h = tt
numbered_piece rows (Q.Text s) h = tt
numbered_piece rows (Q.Bytes s) h = tt
numbered_piece rows (Q.Inline n u) h = omega (arith, h)

pub piece_numbered : (rows : List Row) (p : Piece) → IsNumbered rows p → types_of p ≤ length rows
piece_numbered rows (Q.Node n) h = omega arith
piece_numbered rows (Q.Text s) h = omega arith
piece_numbered rows (Q.Bytes s) h = omega arith
piece_numbered rows (Q.Inline n u) h = omega (arith, h)

-- ---- the slots of parts

module _ (rows : List Row) (table : IsTable rows) (legible : IsLegible rows) (s : Slot) where
  pub element_in : (d : TypeDef) → IsWithin (length rows) d → (u : Slot) → element_slot d ≡ Some u → u.ty.0 < length rows
  element_in (D.List elem at) w u e = subst (λ (k : Slot). k.ty.0 < length rows) (same_Some elem u e) (w.1 0 0 (omega arith))
  element_in D.Any w u e = subst (λ (k : Slot). k.ty.0 < length rows) (same_Some anything u e) (any_low rows table.prelude_first)
  element_in d w u e = absurd (none-some u e)

  pub anything_safe : is_safe rows anything ≡ true
  anything_safe = is_safe_where rows anything (any_safe rows (any_there rows table.prelude_first))

  pub element_is_safe : (d : TypeDef) → form_of rows s ≡ Some d → (u : Slot) → element_slot d ≡ Some u → is_safe rows u ≡ true
  element_is_safe (D.List elem at) known u e = is_safe_where rows u (element_safe rows (D.List elem at) (legible.clear.parts (base rows s.ty.0) (D.List elem at) known) u e)
  element_is_safe D.Any known u e = subst (λ (k : Slot). is_safe rows k ≡ true) (same_Some anything u e) anything_safe
  element_is_safe d known u e = absurd (none-some u e)

  pub value_is_safe : (key : TypeNo) (key_at : ℕ) (value : Slot) (at : ℕ) (form : MapForm) → form_of rows s ≡ Some (D.Map key key_at value at form) → is_safe rows value ≡ true
  value_is_safe key key_at value at form known = is_safe_where rows value (legible.clear.parts (base rows s.ty.0) (D.Map key key_at value at form) known)

-- ---- fields

number_at : {A : Type 0} (count : ℕ) (number : A → ℕ) (xs : List A) (i : ℕ) (x : A) → All (λ k. k < count) (map number xs) → slice_get xs i ≡ Some x → number x < count
number_at count number [] i x all e = absurd (none-some x e)
number_at count number (y ∷ ys) zero x all e = subst (λ z. number z < count) (same_Some y x e) (all 0 0 (omega arith))
number_at count number (y ∷ ys) (suc i) x all e = number_at count number ys i x (λ j v less. all (suc j) v (omega (arith, less))) e

module _ (rows : List Row) (legible : IsLegible rows) (s : Slot) (def : StructDef) (known : form_of rows s ≡ Some (D.Struct def)) (i : ℕ) (g : Field) (there : slice_get def.fields i ≡ Some g) where
  pub field_in : IsWithin (length rows) (D.Struct def) → g.slot.ty.0 < length rows
  field_in w = number_at (length rows) (λ (f : Field). f.slot.ty.0) def.fields i g w.1 there

  pub field_is_safe : is_safe rows g.slot ≡ true
  field_is_safe = is_safe_where rows g.slot (all_at (λ (f : Field). IsSafe rows f.slot) def.fields i g (legible.clear.parts (base rows s.ty.0) (D.Struct def) known) there)

  pub field_implicit : ImplicitFits rows g
  field_implicit = all_at (ImplicitFits rows) def.fields i g (legible.fitting (base rows s.ty.0) (D.Struct def) known) there

-- ---- members

module _ (rows : List Row) (legible : IsLegible rows) (s : Slot) (u : UnionDef) (known : form_of rows s ≡ Some (D.Union u)) where
  pub member_in : (n : ℕ) (m : Member) → slice_get u.members n ≡ Some m → IsWithin (length rows) (D.Union u) → m.ty.0 < length rows
  member_in n m there w = number_at (length rows) (λ (k : Member). k.ty.0) u.members n m w.1 there

  pub member_is_safe : (m : Member) → is_safe rows (plainly m.ty) ≡ true
  member_is_safe m = is_safe_where rows (plainly m.ty) (plain_safe rows (plainly m.ty) refl)

  -- where the discriminant stands inline, the member is a struct
  pub member_placed : (p part : Piece) → passes_over p ≡ false → IsPassedBy rows s.ty.0 p part → (n : ℕ) (m : Member) → slice_get u.members n ≡ Some m → is_placed rows (plainly m.ty) (B.Held part) ≡ true
  member_placed p part plain passed n m got = by (passes_over part) refl where
    over_struct : passes_over part ≡ true → option_map_or is_struct (form_of rows (plainly m.ty)) false ≡ true
    over_struct over =
        let some : is_some (passed_key rows s.ty.0) ≡ true = or (is_some (passed_key rows s.ty.0)) (ap (λ b. is_some (passed_key rows s.ty.0) || b) (sym plain) ∙ passed over) in
        let form = inline_form u.form (sym (ap (λ o. is_some (option_and_then inline_key o)) known) ∙ some) in
        let all : AllByRecursion (MadeMember rows (UF.Inline form.0)) u.members = subst (λ f. AllByRecursion (MadeMember rows f) u.members) form.1 (legible.made (base rows s.ty.0) (D.Union u) known) in
        let own = (all_at (MadeMember rows (UF.Inline form.0)) u.members n m all got).1 in
        ap (λ o. option_map_or is_struct o false) own.known
      where
        or : (b : Bool) → (b || false) ≡ true → b ≡ true
        or true e = refl
        or false e = e

    by : (b : Bool) → passes_over part ≡ b → (not (passes_over part) || option_map_or is_struct (form_of rows (plainly m.ty)) false) ≡ true
    by true over = ap (λ b. not b || option_map_or is_struct (form_of rows (plainly m.ty)) false) over ∙ over_struct over
    by false over = ap (λ b. not b || option_map_or is_struct (form_of rows (plainly m.ty)) false) over
