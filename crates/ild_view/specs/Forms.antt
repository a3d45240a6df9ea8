-- What a type's form says of its parts.
use Rattle.std.specs.Prelude.{Option, Some, None}
use Rattle.ild_data.specs.declared.hamt_shape.HamtShape.{HamtShape}
use Rattle.ild_schema.specs.Prelude.{anything}
use Rattle.ild_schema.specs.declared.def.EnumDef.{EnumDef}
use Rattle.ild_schema.specs.declared.def.MapForm.{MapForm}
use Rattle.ild_schema.specs.declared.def.MapForm.TheVariants as MF
use Rattle.ild_schema.specs.declared.def.StructDef.{StructDef}
use Rattle.ild_schema.specs.declared.def.TypeDef.{TypeDef}
use Rattle.ild_schema.specs.declared.def.TypeDef.TheVariants as D
use Rattle.ild_schema.specs.declared.def.UnionDef.{UnionDef}
use Rattle.ild_schema.specs.declared.number.Slot.{Slot}

-- of the elements of a list
abbrev pub element_slot : TypeDef → Option Slot
element_slot (D.List elem at) = Some elem
element_slot D.Any = Some anything
element_slot d = None

-- of the entries of a map, which a block shows
abbrev pub shown_slot : Slot → MapForm → Option Slot
shown_slot value MF.Map = Some value
shown_slot value MF.ListPairs = Some value
shown_slot value (MF.StringPairs inner entry) = Some value
shown_slot value (MF.Hamt p) = None

abbrev pub entry_slot : TypeDef → Option Slot
entry_slot (D.Map key key_at value at form) = shown_slot value form
entry_slot D.Any = Some anything
entry_slot d = None

abbrev pub struct_in : TypeDef → Option StructDef
struct_in (D.Struct s) = Some s
struct_in d = None

abbrev pub union_in : TypeDef → Option UnionDef
union_in (D.Union u) = Some u
union_in d = None

abbrev pub enum_in : TypeDef → Option EnumDef
enum_in (D.Enum e) = Some e
enum_in d = None

-- the shape of the HAMT that a type is
abbrev pub shape_in_form : MapForm → Option HamtShape
shape_in_form (MF.Hamt p) = Some p
shape_in_form form = None

abbrev pub shape_in : Option TypeDef → Option HamtShape
shape_in (Some (D.Map key key_at value at form)) = shape_in_form form
shape_in d = None
