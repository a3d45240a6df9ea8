-- A part of a tuple that is replaced leaves the absent fields where they were.
use Rattle.std.proofs.Common.{cond, ◌≡◌, ℕ, List, [], ◌∷◌, Bool, true, false, Option, Some, None, option_map, refl, ◌∙◌}
use Rattle.std.proofs.lemmas.Option.{none-some}
use Rattle.std.specs.Prelude.{List}
use Rattle.ild_data.specs.Key.{same_text}
use Rattle.ild_schema.specs.declared.def.Field.{Field}
use Rattle.ild_schema.specs.declared.def.StructForm.{StructForm}
use Rattle.ild_schema.specs.declared.def.StructForm.TheVariants as S
use Rattle.ild_schema.specs.declared.def.TypeDef.{TypeDef}
use Rattle.ild_schema.specs.declared.def.TypeDef.TheVariants as T
use Rattle.ild_schema.specs.declared.number.Slot.{Slot}
use Rattle.ild_schema.specs.declared.row.Row.{Row}
use Rattle.ild_schema.specs.Slots.{form_of}
use Rattle.ild_schema.specs.Value as V
use Rattle.ild_schema.specs.Value.{Value, Optionals, optionals_of}
use Rattle.ild_typed.specs.Holder.{Holder, fields, member, entries, elements, any_entries, any_elements, nothing, value_of}
use Rattle.ild_typed.specs.Judged.{some_present, hole_in, tuple_hole, is_hole}
use Rattle.ild_typed.specs.Segment.{part, set_part, field_at, set_field, member_named}
use Rattle.std.specs.Option.{option_map_or}
use Rattle.ild_schema.specs.declared.def.Member.{Member}
use Rattle.ild_path_edits.specs.Along.{LayerPasses}

-- what has no fields has no hole
abbrev pub IsNoStruct : Value → Type 0
IsNoStruct (V.struct os) = ⊥
IsNoStruct v = Unit {0}

pub no_hole : (F : Option TypeDef) (v : Value) → IsNoStruct v → is_hole F v ≡ false
no_hole None v h = refl
no_hole (Some (T.Struct s)) (V.struct os) h = absurd h
no_hole (Some d) v h = refl

present_set : (s : List ℕ) (c : Value) (fs : List Field) (os : List (Option Value)) (q : Slot × Value) → field_at s fs os ≡ Some q → some_present (optionals_of (set_field s (Some c) fs os)) ≡ some_present (optionals_of os)
present_set s c [] os q e = refl
present_set s c (f ∷ fs) [] q e = refl
present_set s c (f ∷ fs) (o ∷ os) q e = by (same_text s f.name) o e (λ g. present_set s c fs os q g) where
  by : (b : Bool) (o : Option Value) → cond b (option_map (λ v. (f.slot, v)) o) (field_at s fs os) ≡ Some q → (field_at s fs os ≡ Some q → some_present (optionals_of (set_field s (Some c) fs os)) ≡ some_present (optionals_of os))
      → some_present (optionals_of (cond b (Some c ∷ os) (o ∷ set_field s (Some c) fs os))) ≡ some_present (optionals_of (o ∷ os))
  by true None g rest = absurd (none-some q g)
  by true (Some v) g rest = refl
  by false None g rest = rest g
  by false (Some v) g rest = refl

hole_set : (s : List ℕ) (c : Value) (fs : List Field) (os : List (Option Value)) (q : Slot × Value) → field_at s fs os ≡ Some q → hole_in (optionals_of (set_field s (Some c) fs os)) ≡ hole_in (optionals_of os)
hole_set s c [] os q e = refl
hole_set s c (f ∷ fs) [] q e = refl
hole_set s c (f ∷ fs) (o ∷ os) q e = by (same_text s f.name) o e (λ g. hole_set s c fs os q g) (λ g. present_set s c fs os q g) where
  by : (b : Bool) (o : Option Value) → cond b (option_map (λ v. (f.slot, v)) o) (field_at s fs os) ≡ Some q → (field_at s fs os ≡ Some q → hole_in (optionals_of (set_field s (Some c) fs os)) ≡ hole_in (optionals_of os))
      → (field_at s fs os ≡ Some q → some_present (optionals_of (set_field s (Some c) fs os)) ≡ some_present (optionals_of os))
      → hole_in (optionals_of (cond b (Some c ∷ os) (o ∷ set_field s (Some c) fs os))) ≡ hole_in (optionals_of (o ∷ os))
  by true None g rest there = absurd (none-some q g)
  by true (Some v) g rest there = refl
  by false None g rest there = there g
  by false (Some v) g rest there = rest g

same_hole : (F : Option TypeDef) (os ps : Optionals) → hole_in os ≡ hole_in ps → is_hole F (V.struct os) ≡ is_hole F (V.struct ps)
same_hole None os ps e = refl
same_hole (Some (T.Struct s)) os ps e = by s.form where
  by : (f : StructForm) → tuple_hole f os ≡ tuple_hole f ps
  by S.Tuple = e
  by f = refl
same_hole (Some d) os ps e = refl

other_member : (rows : List Row) (slot : Slot) (ms : List Member) (n : ℕ) (v c : Value) (o : Option (ℕ × Member)) → LayerPasses is_hole rows slot (option_map_or (λ (p : ℕ × Member). member ms p.0 c) o (member ms n v))
other_member rows slot ms n v c None = no_hole (form_of rows slot) (V.union n v) tt
other_member rows slot ms n v c (Some p) = no_hole (form_of rows slot) (V.union p.0 c) tt

-- so a holder of which a part is replaced has no hole where it had none
pub steady_hole : (rows : List Row) (slot : Slot) (k : Holder) (s : List ℕ) (q : Slot × Value) (c : Value) → LayerPasses is_hole rows slot k → part k s ≡ Some q → LayerPasses is_hole rows slot (set_part k s c)
steady_hole rows slot (fields fs os) s q c o e = same_hole (form_of rows slot) (optionals_of (set_field s (Some c) fs os)) (optionals_of os) (hole_set s c fs os q e) ∙ o
steady_hole rows slot (member ms n v) s q c o e = other_member rows slot ms n v c (member_named s ms)
steady_hole rows slot (entries key elem paired ps) s q c o e = no_hole (form_of rows slot) (value_of (set_part (entries key elem paired ps) s c)) tt
steady_hole rows slot (elements elem vs) s q c o e = no_hole (form_of rows slot) (value_of (set_part (elements elem vs) s c)) tt
steady_hole rows slot (any_entries ms) s q c o e = tt
steady_hole rows slot (any_elements ds) s q c o e = tt
steady_hole rows slot (nothing v) s q c o e = tt
