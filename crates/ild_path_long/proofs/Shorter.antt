-- The data of a part are no longer than those of its holder, or they are left out of the block and short.
use Rattle.std.proofs.Common.{◌≡◌, ◌≤◌, ℕ, Bool, true, false, cond, List, [], ◌∷◌, length, Option, Some, None, refl, sym, subst, arith}
use Rattle.std.specs.List.{AllByRecursion}
use Rattle.std.specs.Option.{option_map_or}
use Rattle.std.proofs.lemmas.Option.{none-some, same_Some}
use Rattle.ild_data.specs.Data as T
use Rattle.ild_data.specs.Data.{Data}
use Rattle.ild_data.specs.Key.{same_text}
use Rattle.ild_data.specs.Limits.{longest_block}
use Rattle.ild_data.specs.Spell.{spell}
use Rattle.ild_path_changes.specs.Places.{field_named, left_out}
use Rattle.ild_path_sizes.proofs.Longer.{part_shorter}
use Rattle.ild_path_steps.specs.Steps.{is_left_out}
use Rattle.ild_schema.specs.Copies.{base}
use Rattle.ild_schema.specs.Fitting.{ImplicitFits}
use Rattle.ild_schema.specs.Legible.{IsLegible}
use Rattle.ild_schema.specs.Prelude.{anything}
use Rattle.ild_schema.specs.Rules.{is_of}
use Rattle.ild_schema.specs.Slots.{form_of}
use Rattle.ild_schema.specs.declared.def.Field.{Field}
use Rattle.ild_schema.specs.declared.def.Scalar.{Scalar}
use Rattle.ild_schema.specs.declared.def.Scalar.TheVariants as C
use Rattle.ild_schema.specs.declared.def.StructDef.{StructDef}
use Rattle.ild_schema.specs.declared.def.TypeDef.{TypeDef}
use Rattle.ild_schema.specs.declared.def.TypeDef.TheVariants as D
use Rattle.ild_schema.specs.declared.number.Slot.{Slot}
use Rattle.ild_schema.specs.declared.row.Row.{Row}
use Rattle.ild_typed.specs.At.{InSlot, seen}
use Rattle.ild_typed.specs.Fields.{is_implicit}
use Rattle.ild_typed.specs.Hamt.{alone}
use Rattle.ild_typed.specs.Represented.{represented}
use Rattle.ild_typed.specs.Segment.{part}
use Rattle.ild_typed.proofs.Implied.{scalar_short}
use Rattle.ild_typed.proofs.Structs.{scalar_same}

-- ---- implicit values

implicit_short : (o : Option Scalar) (F : Option TypeDef) (t : Data) → ((c : Scalar) → o ≡ Some c → is_of c F ≡ true) → is_implicit o t ≡ true → length (spell t) ≤ longest_block
implicit_short None F t fits is = absurd cc
implicit_short (Some c) F t fits is = subst (λ u. length (spell u) ≤ longest_block) (sym (scalar_same c t is)) (scalar_short c F (fits c refl))

named_at : (P : Field → Type 0) (s : List ℕ) (f g : Field) (fs : List Field) (b : Bool) → cond b (Some f) (field_named s fs) ≡ Some g → P f → (field_named s fs ≡ Some g → P g) → P g
named_at P s f g fs true e p rest = subst P (same_Some f g e) p
named_at P s f g fs false e p rest = rest e

of_named : (P : Field → Type 0) (s : List ℕ) (fs : List Field) (g : Field) → AllByRecursion P fs → field_named s fs ≡ Some g → P g
of_named P s [] g all e = absurd (none-some g e)
of_named P s (f ∷ fs) g all e = named_at P s f g fs (same_text s f.name) e all.0 (λ h. of_named P s fs g all.1 h)

-- ---- what is left out

left_out_field : (rows : List Row) → IsLegible rows → (slot : Slot) (r : StructDef) (s : List ℕ) (t : Data) → form_of rows slot ≡ Some (D.Struct r) → (o : Option Field) → field_named s r.fields ≡ o
    → option_map_or (λ g. left_out g t) o false ≡ true → length (spell t) ≤ longest_block
left_out_field rows legible slot r s t form None named out = absurd cc
left_out_field rows legible slot r s t form (Some g) named out =
    let fits : ImplicitFits rows g = of_named (ImplicitFits rows) s r.fields g (legible.fitting (base rows (slot).ty.0) (D.Struct r) form) named in
    implicit_short g.implicit (form_of rows g.slot) t fits out

left_out_type : (rows : List Row) → IsLegible rows → (slot : Slot) (s : List ℕ) (t : Data) (d : TypeDef) → form_of rows slot ≡ Some d → is_left_out (Some d) s t ≡ true → length (spell t) ≤ longest_block
left_out_type rows legible slot s t (D.Struct r) form out = left_out_field rows legible slot r s t form (field_named s r.fields) refl out
left_out_type rows legible slot s t d form out = absurd cc

left_out_short : (rows : List Row) → IsLegible rows → (slot : Slot) (s : List ℕ) (t : Data) (F : Option TypeDef) → form_of rows slot ≡ F → is_left_out F s t ≡ true → length (spell t) ≤ longest_block
left_out_short rows legible slot s t None form out = absurd cc
left_out_short rows legible slot s t (Some d) form out = left_out_type rows legible slot s t d form out

-- ---- a part

-- of a front whose block is short
pub part_short : (rows : List Row) → IsLegible rows → form_of rows anything ≡ Some D.Any → (p q : InSlot) (s : List ℕ) (t u : Data) → represented alone rows p.0 p.1 ≡ Some u → represented alone rows q.0 q.1 ≡ Some t → part (seen rows p) s ≡ Some q
    → length (spell u) ≤ longest_block → length (spell t) ≤ longest_block
part_short rows legible any_there p q s t u made partly there short = by (is_left_out (form_of rows p.0) s t) refl where
  by : (out : Bool) → is_left_out (form_of rows p.0) s t ≡ out → length (spell t) ≤ longest_block
  by true out = left_out_short rows legible p.0 s t (form_of rows p.0) refl out
  by false out = let less = part_shorter rows legible any_there p q s t u made partly there out in omega (arith, less, short)
