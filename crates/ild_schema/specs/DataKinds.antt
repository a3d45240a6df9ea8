-- Whether data of a kind may stand for a value of a type (IPLD Schemas, "Representation Kinds"): what a type's set of
-- kinds says, asked of one kind.
use Rattle.std.specs.Prelude.{◌≡◌, ℕ, Bool, false, not, nat_eq, Option, Some, None, List}
use Rattle.std.specs.List.{list_any}
use Rattle.ild_schema.specs.declared.number.Slot.{Slot}
use Rattle.ild_schema.specs.declared.def.TypeDef.{TypeDef}
use Rattle.ild_schema.specs.declared.def.TypeDef.TheVariants as D
use Rattle.ild_schema.specs.declared.def.UnitForm.{UnitForm}
use Rattle.ild_schema.specs.declared.def.UnitForm.TheVariants as U
use Rattle.ild_schema.specs.declared.def.MapForm.{MapForm}
use Rattle.ild_schema.specs.declared.def.MapForm.TheVariants as MF
use Rattle.ild_schema.specs.declared.def.StructForm.{StructForm}
use Rattle.ild_schema.specs.declared.def.StructForm.TheVariants as S
use Rattle.ild_schema.specs.declared.def.UnionForm.{UnionForm}
use Rattle.ild_schema.specs.declared.def.UnionForm.TheVariants as UF
use Rattle.ild_schema.specs.declared.def.EnumForm.{EnumForm}
use Rattle.ild_schema.specs.declared.def.EnumForm.TheVariants as E
use Rattle.ild_schema.specs.declared.def.Member.{Member}
use Rattle.ild_schema.specs.declared.def.KindWord.{KindWord}
use Rattle.ild_schema.specs.declared.def.KindWord.TheVariants as K
use Rattle.ild_schema.specs.declared.row.Row.{Row}
use Rattle.ild_schema.specs.Kinds as kinds
use Rattle.ild_schema.specs.Marks.{mark_kind}
use Rattle.ild_schema.specs.Slots.{form_of}

abbrev pub kind_number : KindWord → ℕ
kind_number K.Null = 0
kind_number K.Bool = 1
kind_number K.Int = 2
kind_number K.Text = 3
kind_number K.Bytes = 4
kind_number K.List = 5
kind_number K.Map = 6
kind_number K.Link = 7

abbrev pub same_kind : KindWord → KindWord → Bool
same_kind a b = nat_eq (kind_number a) (kind_number b)

abbrev pub unit_kind : UnitForm → KindWord
unit_kind U.Null = K.Null
unit_kind U.True = K.Bool
unit_kind U.False = K.Bool
unit_kind U.EmptyMap = K.Map

abbrev pub map_kind : MapForm → KindWord
map_kind MF.Map = K.Map
map_kind MF.ListPairs = K.List
map_kind (MF.StringPairs inner entry) = K.Text
map_kind (MF.Hamt p) = K.Map

abbrev pub struct_kind : StructForm → KindWord
struct_kind S.Map = K.Map
struct_kind S.Tuple = K.List
struct_kind S.ListPairs = K.List
struct_kind (S.StringPairs inner entry) = K.Text
struct_kind (S.StringJoin delim) = K.Text

abbrev pub enum_kind : EnumForm → KindWord
enum_kind E.Text = K.Text
enum_kind E.Int = K.Int

abbrev pub is_marked : KindWord → Option KindWord → Bool
is_marked k None = false
is_marked k (Some l) = same_kind l k

-- of a kinded union the declared kinds of its members
abbrev pub union_has : UnionForm → List Member → KindWord → Bool
union_has UF.Keyed ms k = same_kind K.Map k
union_has UF.Kinded ms k = list_any (λ m. is_marked k (mark_kind m.mark)) ms
union_has UF.StringPrefix ms k = same_kind K.Text k
union_has UF.BytesPrefix ms k = same_kind K.Bytes k
union_has (UF.Envelope key content) ms k = same_kind K.Map k
union_has (UF.Inline key) ms k = same_kind K.Map k

abbrev pub has_kind : TypeDef → KindWord → Bool
has_kind D.Bool k = same_kind K.Bool k
has_kind D.Text k = same_kind K.Text k
has_kind D.Bytes k = same_kind K.Bytes k
has_kind D.Int k = same_kind K.Int k
has_kind D.Any k = not (same_kind K.Null k)
has_kind (D.Link target) k = same_kind K.Link k
has_kind (D.Unit form) k = same_kind (unit_kind form) k
has_kind (D.List elem at) k = same_kind K.List k
has_kind (D.Map key key_at value at form) k = same_kind (map_kind form) k
has_kind (D.Struct s) k = same_kind (struct_kind s.form) k
has_kind (D.Union u) k = union_has u.form u.members k
has_kind (D.Enum e) k = same_kind (enum_kind e.form) k
has_kind (D.Copy target) k = false

-- of a slot's type, copies followed
abbrev pub kind_in : Option TypeDef → KindWord → Bool
kind_in None k = false
kind_in (Some d) k = has_kind d k

abbrev pub slot_has : List Row → Slot → KindWord → Bool
slot_has rows s k = kind_in (form_of rows s) k

-- the sets of kinds say the same
abbrev pub KindsAreTold : Type 0
KindsAreTold = (rows : List Row) (s : Slot) (k : KindWord) → kinds.has_kind k (kinds.kinds_of rows s.ty.0) ≡ slot_has rows s k
