-- The texts of a schema are UTF-8, and the integers that it gives are those of blocks (IPLD Data Model, "Kinds").
use Rattle.std.specs.Prelude.{◌≡◌, ℕ, IsUtf8, IfSome, List, Some}
use Rattle.std.specs.List.{All, AllByRecursion}
use Rattle.ild_data.specs.Integer.{IsInt}
use Rattle.ild_schema.specs.declared.def.TypeDef.{TypeDef}
use Rattle.ild_schema.specs.declared.def.TypeDef.TheVariants as D
use Rattle.ild_schema.specs.declared.def.MapForm.{MapForm}
use Rattle.ild_schema.specs.declared.def.MapForm.TheVariants as M
use Rattle.ild_schema.specs.declared.def.StructForm.{StructForm}
use Rattle.ild_schema.specs.declared.def.StructForm.TheVariants as S
use Rattle.ild_schema.specs.declared.def.UnionForm.{UnionForm}
use Rattle.ild_schema.specs.declared.def.UnionForm.TheVariants as U
use Rattle.ild_schema.specs.declared.def.Field.{Field}
use Rattle.ild_schema.specs.declared.def.Scalar.{Scalar}
use Rattle.ild_schema.specs.declared.def.Scalar.TheVariants as C
use Rattle.ild_schema.specs.declared.def.Member.{Member}
use Rattle.ild_schema.specs.declared.def.EnumMember.{EnumMember}
use Rattle.ild_schema.specs.declared.row.Row.{Row}
use Rattle.ild_schema.specs.Marks.{mark_text, field_text, member_text}
use Rattle.ild_schema.specs.Rows.{def_at}

-- ---- what stands in blocks: delimiters, keys, and the texts of fields and members

abbrev pub SpelledMap : MapForm → Type 0
SpelledMap (M.StringPairs inner entry) = IsUtf8 inner × IsUtf8 entry
SpelledMap form = Unit {0}

abbrev pub SpelledDelims : StructForm → Type 0
SpelledDelims (S.StringPairs inner entry) = IsUtf8 inner × IsUtf8 entry
SpelledDelims (S.StringJoin join) = IsUtf8 join
SpelledDelims form = Unit {0}

pub record SpelledStruct (form : StructForm) (fs : List Field) : Type 0 where
  pub delims : SpelledDelims form
  pub texts : AllByRecursion (λ f. IsUtf8 (field_text f)) fs

abbrev pub SpelledKeys : UnionForm → Type 0
SpelledKeys (U.Envelope key content) = IsUtf8 key × IsUtf8 content
SpelledKeys (U.Inline key) = IsUtf8 key
SpelledKeys form = Unit {0}

pub record SpelledUnion (form : UnionForm) (ms : List Member) : Type 0 where
  pub marks : AllByRecursion (λ m. IfSome (mark_text m.mark) IsUtf8) ms
  pub keys : SpelledKeys form

abbrev pub SpelledEnum : List EnumMember → Type 0
SpelledEnum ms = AllByRecursion (λ m. IsUtf8 (member_text m)) ms

abbrev pub SpelledType : TypeDef → Type 0
SpelledType (D.Map key key_at value at form) = SpelledMap form
SpelledType (D.Struct s) = SpelledStruct s.form s.fields
SpelledType (D.Union u) = SpelledUnion u.form u.members
SpelledType (D.Enum e) = SpelledEnum e.members
SpelledType def = Unit {0}

abbrev pub IsSpelled : List Row → Type 0
IsSpelled rows = (n : ℕ) (d : TypeDef) → def_at rows n ≡ Some d → SpelledType d

-- ---- the names of fields and members

abbrev pub NamedType : TypeDef → Type 0
NamedType (D.Struct s) = AllByRecursion (λ f. IsUtf8 f.name) s.fields
NamedType (D.Union u) = AllByRecursion (λ m. IsUtf8 m.name) u.members
NamedType (D.Enum e) = AllByRecursion (λ m. IsUtf8 m.name) e.members
NamedType def = Unit {0}

abbrev pub IsNamed : List Row → Type 0
IsNamed rows = (n : ℕ) (d : TypeDef) → def_at rows n ≡ Some d → NamedType d

-- ---- the values that stand for fields left out

abbrev pub SpelledScalar : Scalar → Type 0
SpelledScalar (C.Bool b) = Unit {0}
SpelledScalar (C.Int n) = IsInt n
SpelledScalar (C.Text s) = IsUtf8 s

abbrev pub ImplicitType : TypeDef → Type 0
ImplicitType (D.Struct s) = AllByRecursion (λ f. IfSome f.implicit SpelledScalar) s.fields
ImplicitType def = Unit {0}

abbrev pub HasImplicits : List Row → Type 0
HasImplicits rows = (n : ℕ) (d : TypeDef) → def_at rows n ≡ Some d → ImplicitType d

-- all that a schema says in texts and integers
pub record HasTexts (rows : List Row) : Type 0 where
  pub names : All (λ r. IsUtf8 r.name) rows
  pub spelled : IsSpelled rows
  pub named : IsNamed rows
  pub implicits : HasImplicits rows
