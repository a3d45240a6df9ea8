-- What acceptance says of a type, as far as data are to tell its values: names, prefixes, kinds and marks are apart.
use Rattle.std.specs.Prelude.{◌≡◌, ℕ, true, false, List, [], ◌∷◌, Some, None, slice_get, option_and_then}
use Rattle.std.specs.List.{AllByRecursion}
use Rattle.ild_schema.specs.declared.number.Slot.{Slot}
use Rattle.ild_schema.specs.declared.def.TypeDef.{TypeDef}
use Rattle.ild_schema.specs.declared.def.TypeDef.TheVariants as D
use Rattle.ild_schema.specs.declared.def.MapForm.{MapForm}
use Rattle.ild_schema.specs.declared.def.MapForm.TheVariants as MF
use Rattle.ild_schema.specs.declared.def.StructForm.{StructForm}
use Rattle.ild_schema.specs.declared.def.StructForm.TheVariants as S
use Rattle.ild_schema.specs.declared.def.UnionForm.{UnionForm}
use Rattle.ild_schema.specs.declared.def.UnionForm.TheVariants as UF
use Rattle.ild_schema.specs.declared.def.EnumForm.{EnumForm}
use Rattle.ild_schema.specs.declared.def.EnumForm.TheVariants as E
use Rattle.ild_schema.specs.declared.def.KindWord.{KindWord}
use Rattle.ild_schema.specs.declared.def.KindWord.TheVariants as K
use Rattle.ild_schema.specs.declared.def.Field.{Field}
use Rattle.ild_schema.specs.declared.def.Member.{Member}
use Rattle.ild_schema.specs.declared.def.EnumMember.{EnumMember}
use Rattle.ild_schema.specs.declared.row.Row.{Row}
use Rattle.ild_schema.specs.Table.{def_at}
use Rattle.ild_schema.specs.DataKinds.{same_kind, slot_has}
use Rattle.ild_data.specs.Hex.{bytes_of_hex}
use Rattle.ild_schema.specs.Marks.{mark_text, mark_kind, field_text, member_text, member_integer}
use Rattle.ild_schema.specs.Prefixes.{begins}

abbrev pub IsGiven : List ℕ → Type 0
IsGiven [] = ⊥
IsGiven (c ∷ cs) = Unit {0}

-- no two fields have one name in a block
abbrev pub AreNamesApart : List Field → Type 0
AreNamesApart [] = Unit {0}
AreNamesApart (f ∷ fs) = AllByRecursion (λ g. field_text f ≡ field_text g → ⊥) fs × AreNamesApart fs

-- a field with an implicit value is not optional
abbrev pub IsRequired : Field → Type 0
IsRequired f = f.optional ≡ true → f.implicit ≡ None

pub record AreClearFields (fs : List Field) : Type 0 where
  pub apart : AreNamesApart fs
  pub required : AllByRecursion IsRequired fs

abbrev pub ClearStruct : StructForm → List Field → Type 0
ClearStruct S.Map fs = AreClearFields fs
ClearStruct S.Tuple fs = Unit {0}
ClearStruct S.ListPairs fs = AreClearFields fs
ClearStruct (S.StringPairs inner entry) fs = AreClearFields fs × IsGiven inner
ClearStruct (S.StringJoin delim) fs = Unit {0}

abbrev pub ClearMap : MapForm → Type 0
ClearMap MF.Map = Unit {0}
ClearMap MF.ListPairs = Unit {0}
ClearMap (MF.StringPairs inner entry) = IsGiven inner
ClearMap (MF.Hamt p) = Unit {0}

-- two members that a block could not tell apart
abbrev pub SameText : Member → Member → Type 0
SameText m n = (s : List ℕ) × (mark_text m.mark ≡ Some s) × (mark_text n.mark ≡ Some s)

abbrev pub Clash : UnionForm → Member → Member → Type 0
Clash UF.Keyed m n = SameText m n
Clash UF.Kinded m n = (k l : KindWord) × (mark_kind m.mark ≡ Some k) × (mark_kind n.mark ≡ Some l) × (same_kind k l ≡ true)
Clash UF.StringPrefix m n =
    (p q : List ℕ) × (mark_text m.mark ≡ Some p) × (mark_text n.mark ≡ Some q) × (begins p q ≡ true)
Clash UF.BytesPrefix m n =
    (p q : List ℕ) × (option_and_then bytes_of_hex (mark_text m.mark) ≡ Some p) × (option_and_then bytes_of_hex (mark_text n.mark) ≡ Some q) × (begins p q ≡ true)
Clash (UF.Envelope key content) m n = SameText m n
Clash (UF.Inline key) m n = SameText m n

abbrev pub KeysApart : UnionForm → Type 0
KeysApart (UF.Envelope key content) = key ≡ content → ⊥
KeysApart form = Unit {0}

pub record ClearUnion (form : UnionForm) (ms : List Member) : Type 0 where
  pub apart : (i j : ℕ) (m n : Member) → slice_get ms i ≡ Some m → slice_get ms j ≡ Some n → Clash form m n → i ≡ j
  pub keys : KeysApart form

abbrev pub SameEnum : EnumForm → EnumMember → EnumMember → Type 0
SameEnum E.Text m n = member_text m ≡ member_text n
SameEnum E.Int m n = member_integer m ≡ member_integer n

abbrev pub ClearEnum : EnumForm → List EnumMember → Type 0
ClearEnum form ms = (i j : ℕ) (m n : EnumMember) → slice_get ms i ≡ Some m → slice_get ms j ≡ Some n → SameEnum form m n → i ≡ j

abbrev pub ClearType : TypeDef → Type 0
ClearType (D.Map key key_at value at form) = ClearMap form
ClearType (D.Struct s) = ClearStruct s.form s.fields
ClearType (D.Union u) = ClearUnion u.form u.members
ClearType (D.Enum e) = ClearEnum e.form e.members
ClearType d = Unit {0}

-- null stands for null alone
abbrev pub IsSafe : List Row → Slot → Type 0
IsSafe rows s = s.nullable ≡ true → slot_has rows s K.Null ≡ false

-- the parts that may be null
abbrev pub AreSafe : List Row → TypeDef → Type 0
AreSafe rows (D.List elem at) = IsSafe rows elem
AreSafe rows (D.Map key key_at value at form) = IsSafe rows value
AreSafe rows (D.Struct s) = AllByRecursion (λ f. IsSafe rows f.slot) s.fields
AreSafe rows d = Unit {0}

pub record IsClear (rows : List Row) : Type 0 where
  pub types : (n : ℕ) (d : TypeDef) → def_at rows n ≡ Some d → ClearType d
  pub parts : (n : ℕ) (d : TypeDef) → def_at rows n ≡ Some d → AreSafe rows d
