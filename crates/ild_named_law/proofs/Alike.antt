-- Two tables that say the same of the first so many types, each of which is made on these.
use Rattle.std.proofs.Common.{◌≡◌, ℕ, ◌<◌, List, [], ◌∷◌, Option, Some, None, map, sym, ◌∙◌, refl, subst}
use Rattle.std.specs.List.{AllByRecursion}
use Rattle.std.proofs.lemmas.List.Elements.{recursion_from_All}
use Rattle.std.proofs.lemmas.Option.{same_Some, none-some}
use Rattle.ild_data.proofs.AllOf.{all_at}
use Rattle.ild_data.proofs.Options.{map_some}
use Rattle.ild_schema.specs.declared.number.Slot.{Slot}
use Rattle.ild_schema.specs.declared.def.TypeDef.{TypeDef}
use Rattle.ild_schema.specs.declared.def.TypeDef.TheVariants as D
use Rattle.ild_schema.specs.declared.def.Field.{Field}
use Rattle.ild_schema.specs.declared.def.Member.{Member}
use Rattle.ild_schema.specs.declared.row.Row.{Row}
use Rattle.ild_schema.specs.Kinds.{meant}
use Rattle.ild_schema.specs.Slots.{form_of}
use Rattle.ild_schema.specs.Table.{IsWithin, numbers_of}
use Rattle.ild_typed.specs.Slots.{element_of, fields_of, member_at, member_of, slot_of}

pub record AreAlike (count : ℕ) (others rows : List Row) : Type 0 where
  pub same : (n : ℕ) → n < count → meant others n ≡ meant rows n
  pub within : (n : ℕ) (d : TypeDef) → n < count → meant rows n ≡ Some d → IsWithin count d

pub alike_back : (count : ℕ) (others rows : List Row) → AreAlike count others rows → AreAlike count rows others
alike_back count others rows alike = record {
  same = λ n low. sym (alike.same n low);
  within = λ n d low e. alike.within n d low (sym (alike.same n low) ∙ e);
}

-- a type that is made on low numbers
abbrev pub IsLow : ℕ → TypeDef → Type 0
IsLow count d = AllByRecursion (λ n. n < count) (numbers_of d)

abbrev pub IsLowIn : ℕ → Option TypeDef → Type 0
IsLowIn count None = Unit {0}
IsLowIn count (Some d) = IsLow count d

pub low_form : (count : ℕ) (others rows : List Row) → AreAlike count others rows → (s : Slot) → s.ty.0 < count → IsLowIn count (form_of rows s)
low_form count others rows alike s low = by (form_of rows s) refl
  where
    by : (o : Option TypeDef) → form_of rows s ≡ o → IsLowIn count o
    by None e = tt
    by (Some d) e = recursion_from_All (λ n. n < count) (numbers_of d) (alike.within s.ty.0 d low e).1

-- ---- its parts

pub low_parts : {X : Type 0} (count : ℕ) (number : X → ℕ) (xs : List X) → AllByRecursion (λ n. n < count) (map number xs) → AllByRecursion (λ x. number x < count) xs
low_parts count number [] h = tt
low_parts count number (x ∷ xs) h = (h.0, low_parts count number xs h.1)

pub low_element : (count : ℕ) (o : Option TypeDef) (u : Slot) → IsLowIn count o → element_of o ≡ Some u → u.ty.0 < count
low_element count None u low e = absurd (none-some u e)
low_element count (Some (D.List elem at)) u low e = subst (λ (u : Slot). u.ty.0 < count) (same_Some elem u e) low.0
low_element count (Some (D.Map key key_at value at form)) u low e = subst (λ (u : Slot). u.ty.0 < count) (same_Some value u e) low.1.0
low_element count (Some d) u low e = absurd (none-some u e)

pub low_fields : (count : ℕ) (o : Option TypeDef) → IsLowIn count o → AllByRecursion (λ (f : Field). f.slot.ty.0 < count) (fields_of o)
low_fields count None low = tt
low_fields count (Some (D.Struct s)) low = low_parts count (λ (f : Field). f.slot.ty.0) s.fields low
low_fields count (Some d) low = tt

pub low_member_at : (count : ℕ) (o : Option TypeDef) (n : ℕ) (m : Member) → IsLowIn count o → member_at o n ≡ Some m → m.ty.0 < count
low_member_at count None n m low e = absurd (none-some m e)
low_member_at count (Some (D.Union u)) n m low e = all_at (λ (m : Member). m.ty.0 < count) u.members n m (low_parts count (λ (m : Member). m.ty.0) u.members low) e
low_member_at count (Some d) n m low e = absurd (none-some m e)

pub low_member : (count : ℕ) (o : Option TypeDef) (n : ℕ) (u : Slot) → IsLowIn count o → member_of o n ≡ Some u → u.ty.0 < count
low_member count o n u low e = let m = map_some slot_of (member_at o n) u e in subst (λ (u : Slot). u.ty.0 < count) m.2 (low_member_at count o n m.0 low m.1)
