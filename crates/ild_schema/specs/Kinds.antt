-- The kinds of the data model that the representation of a type may have (IPLD Schemas, "Representations").
use Rattle.std.specs.Prelude.{ℕ, List, [], ◌∷◌, Bool, true, false, ◌||◌, ◌&&◌, not, Option, Some, None}
use Rattle.ild_schema.specs.declared.def.TypeDef.{TypeDef}
use Rattle.ild_schema.specs.declared.def.TypeDef.TheVariants as D
use Rattle.ild_schema.specs.declared.def.UnitForm.{UnitForm}
use Rattle.ild_schema.specs.declared.def.UnitForm.TheVariants as N
use Rattle.ild_schema.specs.declared.def.MapForm.{MapForm}
use Rattle.ild_schema.specs.declared.def.MapForm.TheVariants as M
use Rattle.ild_schema.specs.declared.def.StructForm.{StructForm}
use Rattle.ild_schema.specs.declared.def.StructForm.TheVariants as S
use Rattle.ild_schema.specs.declared.def.UnionForm.{UnionForm}
use Rattle.ild_schema.specs.declared.def.UnionForm.TheVariants as U
use Rattle.ild_schema.specs.declared.def.EnumForm.{EnumForm}
use Rattle.ild_schema.specs.declared.def.EnumForm.TheVariants as E
use Rattle.ild_schema.specs.declared.def.Member.{Member}
use Rattle.ild_schema.specs.declared.def.Mark.{Mark}
use Rattle.ild_schema.specs.declared.def.Mark.TheVariants as K
use Rattle.ild_schema.specs.declared.def.KindWord.{KindWord}
use Rattle.ild_schema.specs.declared.def.KindWord.TheVariants as W
use Rattle.ild_schema.specs.declared.kinds.Kinds.{Kinds}
use Rattle.ild_schema.specs.declared.row.Row.{Row}
use Rattle.ild_schema.specs.Table.{def_at}
use Rattle.ild_schema.specs.Copies.{base}

abbrev pub no_kinds : Kinds
no_kinds = record { null = false; boolean = false; int = false; text = false; bytes = false; list = false; map = false; link = false }

abbrev pub all_but_null : Kinds
all_but_null = record { null = false; boolean = true; int = true; text = true; bytes = true; list = true; map = true; link = true }

-- kinds, and one more
abbrev pub with_kind : KindWord → Kinds → Kinds
with_kind W.Null ks = record ks { null = true }
with_kind W.Bool ks = record ks { boolean = true }
with_kind W.Int ks = record ks { int = true }
with_kind W.Text ks = record ks { text = true }
with_kind W.Bytes ks = record ks { bytes = true }
with_kind W.List ks = record ks { list = true }
with_kind W.Map ks = record ks { map = true }
with_kind W.Link ks = record ks { link = true }

-- kinds but for one
abbrev pub without_kind : KindWord → Kinds → Kinds
without_kind W.Null ks = record ks { null = false }
without_kind W.Bool ks = record ks { boolean = false }
without_kind W.Int ks = record ks { int = false }
without_kind W.Text ks = record ks { text = false }
without_kind W.Bytes ks = record ks { bytes = false }
without_kind W.List ks = record ks { list = false }
without_kind W.Map ks = record ks { map = false }
without_kind W.Link ks = record ks { link = false }

abbrev pub has_kind : KindWord → Kinds → Bool
has_kind W.Null ks = ks.null
has_kind W.Bool ks = ks.boolean
has_kind W.Int ks = ks.int
has_kind W.Text ks = ks.text
has_kind W.Bytes ks = ks.bytes
has_kind W.List ks = ks.list
has_kind W.Map ks = ks.map
has_kind W.Link ks = ks.link

abbrev pub has_none : Kinds → Bool
has_none ks = not (ks.null || ks.boolean || ks.int || ks.text || ks.bytes || ks.list || ks.map || ks.link)

abbrev pub has_only : KindWord → Kinds → Bool
has_only w ks = has_kind w ks && has_none (without_kind w ks)

abbrev pub only : KindWord → Kinds
only w = with_kind w no_kinds

abbrev pub with_mark : Mark → Kinds → Kinds
with_mark (K.Kind w) ks = with_kind w ks
with_mark mark ks = ks

-- kinds, and those that are declared behind members
abbrev pub with_declared : Kinds → List Member → Kinds
with_declared ks [] = ks
with_declared ks (m ∷ ms) = with_declared (with_mark m.mark ks) ms

abbrev pub declared_kinds : List Member → Kinds
declared_kinds ms = with_declared no_kinds ms

abbrev pub struct_kinds : StructForm → Kinds
struct_kinds S.Map = only W.Map
struct_kinds S.Tuple = only W.List
struct_kinds S.ListPairs = only W.List
struct_kinds (S.StringPairs inner entry) = only W.Text
struct_kinds (S.StringJoin join) = only W.Text

abbrev pub map_kinds : MapForm → Kinds
map_kinds M.Map = only W.Map
map_kinds M.ListPairs = only W.List
map_kinds (M.StringPairs inner entry) = only W.Text
map_kinds (M.Hamt p) = only W.Map

abbrev pub union_kinds : UnionForm → List Member → Kinds
union_kinds U.Keyed ms = only W.Map
union_kinds U.Kinded ms = declared_kinds ms
union_kinds U.StringPrefix ms = only W.Text
union_kinds U.BytesPrefix ms = only W.Bytes
union_kinds (U.Envelope discriminant content) ms = only W.Map
union_kinds (U.Inline discriminant) ms = only W.Map

abbrev pub enum_kinds : EnumForm → Kinds
enum_kinds E.Text = only W.Text
enum_kinds E.Int = only W.Int

abbrev pub unit_kinds : UnitForm → Kinds
unit_kinds N.Null = only W.Null
unit_kinds N.True = only W.Bool
unit_kinds N.False = only W.Bool
unit_kinds N.EmptyMap = only W.Map

-- those of a type that is no copy
abbrev pub def_kinds : TypeDef → Kinds
def_kinds D.Bool = only W.Bool
def_kinds D.Text = only W.Text
def_kinds D.Bytes = only W.Bytes
def_kinds D.Int = only W.Int
def_kinds D.Any = all_but_null
def_kinds (D.Link target) = only W.Link
def_kinds (D.Unit form) = unit_kinds form
def_kinds (D.List elem at) = only W.List
def_kinds (D.Map key key_at value at form) = map_kinds form
def_kinds (D.Struct s) = struct_kinds s.form
def_kinds (D.Union u) = union_kinds u.form u.members
def_kinds (D.Enum e) = enum_kinds e.form
def_kinds (D.Copy target) = no_kinds

abbrev pub kinds_in : Option TypeDef → Kinds
kinds_in None = no_kinds
kinds_in (Some def) = def_kinds def

-- what the schema says of the type to which a type leads through copies
abbrev pub meant : List Row → ℕ → Option TypeDef
meant rows n = def_at rows (base rows n)

-- a copy has the kinds of its target
abbrev pub kinds_of : List Row → ℕ → Kinds
kinds_of rows n = kinds_in (meant rows n)

-- a type in text form stands in a block as a text
abbrev pub has_text_form : List Row → ℕ → Bool
has_text_form rows n = has_only W.Text (kinds_of rows n)
