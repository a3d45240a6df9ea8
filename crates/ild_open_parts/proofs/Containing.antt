-- The parts of each form are parts of the data of its type.
use Rattle.std.proofs.Common.{◌≡◌, ℕ, zero, suc, ◌+◌, ◌<◌, List, [], ◌∷◌, ◌++◌, length, get_or, slice_get, Option, Some, None, Contains, refl, sym, ap, arith}
use Rattle.std.proofs.lemmas.List.Elements.{Contains-append_right}
use Rattle.ild_data.proofs.AllOf.{contains_first, contains_more}
use Rattle.ild_data.specs.Data.{Data}
use Rattle.ild_schema.specs.Slots.{form_of, plainly}
use Rattle.ild_schema.specs.declared.def.Field.{Field}
use Rattle.ild_schema.specs.declared.def.MapForm.{MapForm}
use Rattle.ild_schema.specs.declared.def.Member.{Member}
use Rattle.ild_schema.specs.declared.def.StructDef.{StructDef}
use Rattle.ild_schema.specs.declared.def.TypeDef.TheVariants as D
use Rattle.ild_schema.specs.declared.def.UnionDef.{UnionDef}
use Rattle.ild_schema.specs.declared.number.Slot.{Slot}
use Rattle.ild_schema.specs.declared.number.TypeNo.{TypeNo}
use Rattle.ild_schema.specs.declared.row.Row.{Row}
use Rattle.ild_typed.specs.Composed.{composed, map_form}
use Rattle.ild_typed.specs.Hamt.{alone}
use Rattle.ild_typed.specs.Layer as L
use Rattle.ild_typed.specs.Levels.{map_levels, struct_levels}
use Rattle.ild_open_held.specs.Splits.{Part, element_parts, entry_parts, field_parts}
use Rattle.ild_open_parts.proofs.Breaking.{AreParts}

pub contains_middle : {X : Type 0} (xs ys : List X) (x : X) → Contains (xs ++ x ∷ ys) x
contains_middle xs ys x = Contains-append_right xs (x ∷ ys) x (contains_first x ys)

-- ---- by a place among the parts

element_at : (elem : Slot) (ds : List Data) (k : ℕ) (p : Part) → k < length (element_parts elem ds) → get_or (element_parts elem ds) k p ≡ p → (p.0 ≡ elem) × Contains ds p.1
element_at elem [] k p lt e = absurd (omega (arith, lt))
element_at elem (d ∷ ds) zero p lt e = (sym (ap (λ (q : Part). q.0) e), (zero, omega arith, ap (λ (q : Part). q.1) e))
element_at elem (d ∷ ds) (suc k) p lt e = let r = element_at elem ds k p (omega (arith, lt)) e in (r.0, contains_more d ds p.1 r.1)

entry_at : (u : Slot) (es : List (List ℕ × Data)) (k : ℕ) (p : Part) → k < length (entry_parts u es) → get_or (entry_parts u es) k p ≡ p → (p.0 ≡ u) × (key : List ℕ) × Contains es (key, p.1)
entry_at u [] k p lt e = absurd (omega (arith, lt))
entry_at u (f ∷ es) zero p lt e = (sym (ap (λ (q : Part). q.0) e), f.0, (zero, omega arith, ap (λ (q : Part). (f.0, q.1)) e))
entry_at u (f ∷ es) (suc k) p lt e = let r = entry_at u es k p (omega (arith, lt)) e in (r.0, r.1, contains_more f es (r.1, p.1) r.2)

record IsField (fs : List Field) (os : List (Option Data)) (p : Part) : Type 0 where
  place : ℕ
  field : Field
  known : slice_get fs place ≡ Some field
  there : slice_get os place ≡ Some (Some p.1)
  slot : p.0 ≡ field.slot

field_at : (fs : List Field) (os : List (Option Data)) (k : ℕ) (p : Part) → k < length (field_parts fs os) → get_or (field_parts fs os) k p ≡ p → IsField fs os p
field_at [] os k p lt e = absurd (omega (arith, lt))
field_at (f ∷ fs) [] k p lt e = absurd (omega (arith, lt))
field_at (f ∷ fs) (None ∷ os) k p lt e = let r = field_at fs os k p lt e in record { place = suc r.place; field = r.field; known = r.known; there = r.there; slot = r.slot }
field_at (f ∷ fs) (Some d ∷ os) zero p lt e =
    record { place = zero; field = f; known = refl; there = ap (λ (q : Part). Some (Some q.1)) e; slot = sym (ap (λ (q : Part). q.0) e) }
field_at (f ∷ fs) (Some d ∷ os) (suc k) p lt e =
    let r = field_at fs os k p (omega (arith, lt)) e in record { place = suc r.place; field = r.field; known = r.known; there = r.there; slot = r.slot }

only_at : (q : Part) (k : ℕ) (p : Part) → k < length (q ∷ []) → get_or (q ∷ []) k p ≡ p → q ≡ p
only_at q zero p lt e = e
only_at q (suc k) p lt e = absurd (omega (arith, lt))

-- ---- by the form

module _ (rows : List Row) (room less : ℕ) (s : Slot) (t : Data) where
  pub list_parts : (elem : Slot) (place : ℕ) (ds : List Data) → form_of rows s ≡ Some (D.List elem place) → composed alone (D.List elem place) (L.list ds) ≡ Some t → room ≡ less + 1
      → AreParts rows room s t less (element_parts elem ds)
  list_parts elem place ds is made left =
      record { type = D.List elem place; form = is; left = left; each = λ p has. record { layer = L.list ds; made = made; part = element_at elem ds has.0 p has.1 has.2 } }

  pub map_parts : (key : TypeNo) (key_at : ℕ) (value : Slot) (place : ℕ) (form : MapForm) (es : List (List ℕ × Data)) → form_of rows s ≡ Some (D.Map key key_at value place form)
      → map_form alone form (L.map es) ≡ Some t → room ≡ less + map_levels form → AreParts rows room s t less (entry_parts value es)
  map_parts key key_at value place form es is made left =
      record { type = D.Map key key_at value place form; form = is; left = left; each = λ p has. record { layer = L.map es; made = made; part = entry_at value es has.0 p has.1 has.2 } }

  pub struct_parts : (def : StructDef) (os : List (Option Data)) → form_of rows s ≡ Some (D.Struct def) → composed alone (D.Struct def) (L.struct os) ≡ Some t → room ≡ less + struct_levels def.form
      → AreParts rows room s t less (field_parts def.fields os)
  struct_parts def os is made left = record {
    type = D.Struct def;
    form = is;
    left = left;
    each = λ p has. let f = field_at def.fields os has.0 p has.1 has.2 in record { layer = L.struct os; made = made; part = (f.place, f.field, f.known, f.there, f.slot) };
  }

  pub union_parts : (def : UnionDef) (k : ℕ) (member : Member) (c : Data) → form_of rows s ≡ Some (D.Union def) → slice_get def.members k ≡ Some member
      → composed alone (D.Union def) (L.union k c) ≡ Some t → room ≡ less + 1 → AreParts rows room s t less ((plainly member.ty, c) ∷ [])
  union_parts def k member c is there made left = record {
    type = D.Union def;
    form = is;
    left = left;
    each = λ p has.
        let e = only_at (plainly member.ty, c) has.0 p has.1 has.2 in
        record { layer = L.union k c; made = made; part = (member, there, sym (ap (λ (q : Part). q.0) e), sym (ap (λ (q : Part). q.1) e)) };
  }
