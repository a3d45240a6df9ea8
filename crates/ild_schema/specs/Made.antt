-- What acceptance says of a type, as far as its values are to have data: members have marks, and parts of texts are texts.
use Rattle.std.specs.Prelude.{◌≡◌, ℕ, ℤ, true, false, List, Some, option_and_then}
use Rattle.std.specs.List.{AllByRecursion}
use Rattle.ild_schema.specs.declared.number.Slot.{Slot}
use Rattle.ild_schema.specs.declared.def.TypeDef.{TypeDef}
use Rattle.ild_schema.specs.declared.def.TypeDef.TheVariants as D
use Rattle.ild_schema.specs.declared.def.StructDef.{StructDef}
use Rattle.ild_schema.specs.declared.def.MapForm.{MapForm}
use Rattle.ild_schema.specs.declared.def.MapForm.TheVariants as MF
use Rattle.ild_schema.specs.declared.def.StructForm.{StructForm}
use Rattle.ild_schema.specs.declared.def.StructForm.TheVariants as S
use Rattle.ild_schema.specs.declared.def.UnionForm.{UnionForm}
use Rattle.ild_schema.specs.declared.def.UnionForm.TheVariants as UF
use Rattle.ild_schema.specs.declared.def.EnumForm.{EnumForm}
use Rattle.ild_schema.specs.declared.def.EnumForm.TheVariants as E
use Rattle.ild_schema.specs.declared.def.KindWord.{KindWord}
use Rattle.ild_schema.specs.declared.def.KindWord.TheVariants as K
use Rattle.ild_schema.specs.declared.def.Field.{Field}
use Rattle.ild_schema.specs.declared.def.Member.{Member}
use Rattle.ild_schema.specs.declared.def.EnumMember.{EnumMember}
use Rattle.ild_schema.specs.declared.row.Row.{Row}
use Rattle.ild_schema.specs.Table.{def_at}
use Rattle.ild_schema.specs.DataKinds.{slot_has}
use Rattle.ild_data.specs.Hex.{bytes_of_hex}
use Rattle.ild_schema.specs.Marks.{mark_text, mark_kind, field_text, member_integer}
use Rattle.ild_schema.specs.Slots.{form_of, plainly}

-- of this kind alone
abbrev pub HasOnly : List Row → Slot → KindWord → Type 0
HasOnly rows s k = (l : KindWord) → slot_has rows s l ≡ true → l ≡ k

-- of text form, and never null
pub record IsTextSlot (rows : List Row) (s : Slot) : Type 0 where
  pub plain : s.nullable ≡ false
  pub only : HasOnly rows s K.Text

abbrev pub MadeStruct : List Row → StructForm → List Field → Type 0
MadeStruct rows (S.StringPairs inner entry) fs = AllByRecursion (λ f. IsTextSlot rows f.slot) fs
MadeStruct rows (S.StringJoin delim) fs = AllByRecursion (λ f. IsTextSlot rows f.slot × (f.optional ≡ false)) fs
MadeStruct rows form fs = Unit {0}

abbrev pub MadeMap : List Row → MapForm → Slot → Type 0
MadeMap rows (MF.StringPairs inner entry) value = IsTextSlot rows value
MadeMap rows form value = Unit {0}

abbrev pub HasText : Member → Type 0
HasText m = (s : List ℕ) × (mark_text m.mark ≡ Some s)

-- a struct as a map, no field of which has the key as its name
pub record IsInlined (rows : List Row) (key : List ℕ) (m : Member) : Type 0 where
  pub struct : StructDef
  pub known : form_of rows (plainly m.ty) ≡ Some (D.Struct struct)
  pub form : struct.form ≡ S.Map
  pub apart : AllByRecursion (λ f. key ≡ field_text f → ⊥) struct.fields

abbrev pub MadeMember : List Row → UnionForm → Member → Type 0
MadeMember rows UF.Keyed m = HasText m
MadeMember rows UF.Kinded m = (k : KindWord) × (mark_kind m.mark ≡ Some k) × HasOnly rows (plainly m.ty) k
MadeMember rows UF.StringPrefix m = HasText m × HasOnly rows (plainly m.ty) K.Text
MadeMember rows UF.BytesPrefix m =
    (b : List ℕ) × (option_and_then bytes_of_hex (mark_text m.mark) ≡ Some b) × HasOnly rows (plainly m.ty) K.Bytes
MadeMember rows (UF.Envelope key content) m = HasText m
MadeMember rows (UF.Inline key) m = HasText m × IsInlined rows key m

abbrev pub MadeEnum : EnumForm → EnumMember → Type 0
MadeEnum E.Text m = Unit {0}
MadeEnum E.Int m = (n : ℤ) × (member_integer m ≡ Some n)

abbrev pub MadeType : List Row → TypeDef → Type 0
MadeType rows (D.Map key key_at value at form) = MadeMap rows form value
MadeType rows (D.Struct s) = MadeStruct rows s.form s.fields
MadeType rows (D.Union u) = AllByRecursion (MadeMember rows u.form) u.members
MadeType rows (D.Enum e) = AllByRecursion (MadeEnum e.form) e.members
MadeType rows d = Unit {0}

abbrev pub IsMade : List Row → Type 0
IsMade rows = (n : ℕ) (d : TypeDef) → def_at rows n ≡ Some d → MadeType rows d
