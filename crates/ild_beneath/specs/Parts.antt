-- The parts of data that are lists and maps, by a type: data in slots, in the order of the type's parts (IPLD Schemas, "Representation
-- Strategies"). Of data that are of no such form there are none, and data that are neither list nor map have no parts here, since what
-- stands in a text holds no block.
use Rattle.std.specs.Prelude.{ℕ, Bool, true, false, cond, List, [], ◌∷◌, ◌++◌, Option, Some, None, slice_get}
use Rattle.std.specs.Option.{option_map_or}
use Rattle.ild_data.specs.Data as T
use Rattle.ild_data.specs.Data.{Data}
use Rattle.ild_data.specs.Key.{same_text, value_at, without}
use Rattle.ild_open_held.specs.Splits.{Part, element_parts, entry_parts, field_parts}
use Rattle.ild_schema.specs.DataKinds.{same_kind}
use Rattle.ild_schema.specs.Marks.{field_text, mark_text, mark_kind}
use Rattle.ild_schema.specs.declared.def.Field.{Field}
use Rattle.ild_schema.specs.declared.def.KindWord.{KindWord}
use Rattle.ild_schema.specs.declared.def.MapForm.{MapForm}
use Rattle.ild_schema.specs.declared.def.MapForm.TheVariants as MF
use Rattle.ild_schema.specs.declared.def.Member.{Member}
use Rattle.ild_schema.specs.declared.def.StructForm.{StructForm}
use Rattle.ild_schema.specs.declared.def.StructForm.TheVariants as S
use Rattle.ild_schema.specs.declared.def.TypeDef.{TypeDef}
use Rattle.ild_schema.specs.declared.def.TypeDef.TheVariants as D
use Rattle.ild_schema.specs.declared.def.UnionForm.{UnionForm}
use Rattle.ild_schema.specs.declared.def.UnionForm.TheVariants as UF
use Rattle.ild_schema.specs.declared.number.Slot.{Slot}
use Rattle.ild_typed.specs.Kinds.{kind_word_of}
use Rattle.ild_typed.specs.Layer as L
use Rattle.ild_typed.specs.Layer.{Layer}
use Rattle.ild_typed.specs.Named.{pair_entries, where_some}
use Rattle.ild_typed.specs.Slots.{slot_of}
use Rattle.ild_typed.specs.Strings.{map_data}

-- neither list nor map
abbrev pub is_flat : Data → Bool
is_flat (T.list ds) = false
is_flat (T.map ms) = false
is_flat d = true

-- ---- by the form of a map

abbrev pub map_parts : MapForm → Slot → Data → List Part
map_parts MF.Map u (T.map ms) = entry_parts u (T.members_list ms)
map_parts MF.ListPairs u (T.list ds) = entry_parts u (pair_entries (T.items_list ds))
map_parts form u t = []

-- ---- by the form of a struct

-- what stands under a field's name
abbrev pub named_part : Field → Option Data → List Part
named_part f None = []
named_part f (Some d) = (f.slot, d) ∷ []

abbrev pub named_parts : List Field → List (List ℕ × Data) → List Part
named_parts [] es = []
named_parts (f ∷ fs) es = named_part f (value_at (field_text f) es) ++ named_parts fs es

abbrev pub ordered_parts : List Field → List Data → List Part
ordered_parts [] ds = []
ordered_parts (f ∷ fs) [] = []
ordered_parts (f ∷ fs) (d ∷ ds) = (f.slot, d) ∷ ordered_parts fs ds

abbrev pub struct_parts : StructForm → List Field → Data → List Part
struct_parts S.Map fs (T.map ms) = named_parts fs (T.members_list ms)
struct_parts S.ListPairs fs (T.list ds) = named_parts fs (pair_entries (T.items_list ds))
struct_parts S.Tuple fs (T.list ds) = ordered_parts fs (T.items_list ds)
struct_parts form fs t = []

-- ---- by the form of a union

abbrev pub has_text : List ℕ → Member → Bool
has_text k m = where_some (λ s. same_text s k) (mark_text m.mark)

abbrev pub has_kind : KindWord → Member → Bool
has_kind w m = where_some (λ k. same_kind k w) (mark_kind m.mark)

-- data of the first member that passes
abbrev pub member_part : (Member → Bool) → List Member → Data → List Part
member_part passes [] d = []
member_part passes (m ∷ ms) d = cond (passes m) ((slot_of m, d) ∷ []) (member_part passes ms d)

-- by the data of a discriminant
abbrev pub marked_part : List Member → Option Data → Option Data → List Part
marked_part ms (Some (T.text k)) (Some d) = member_part (has_text k) ms d
marked_part ms k d = []

abbrev pub union_parts : UnionForm → List Member → Data → List Part
union_parts UF.Keyed ms (T.map (T.member k d es)) = member_part (has_text k) ms d
union_parts UF.Kinded ms t = member_part (has_kind (kind_word_of t)) ms t
union_parts (UF.Envelope key content) ms (T.map es) = marked_part ms (value_at key (T.members_list es)) (value_at content (T.members_list es))
union_parts (UF.Inline key) ms (T.map es) = marked_part ms (value_at key (T.members_list es)) (Some (map_data (without key (T.members_list es))))
union_parts form ms t = []

-- ---- by a type

abbrev pub parts_of : TypeDef → Data → List Part
parts_of (D.List elem at) (T.list ds) = element_parts elem (T.items_list ds)
parts_of (D.Map key key_at value at form) t = map_parts form value t
parts_of (D.Struct s) t = struct_parts s.form s.fields t
parts_of (D.Union u) t = union_parts u.form u.members t
parts_of d t = []

-- ---- of a layer

abbrev pub layer_parts : TypeDef → Layer Data → List Part
layer_parts (D.List elem at) (L.list ds) = element_parts elem ds
layer_parts (D.Map key key_at value at form) (L.map es) = entry_parts value es
layer_parts (D.Struct s) (L.struct os) = field_parts s.fields os
layer_parts (D.Union u) (L.union n d) = option_map_or (λ m. (slot_of m, d) ∷ []) (slice_get u.members n) []
layer_parts d l = []
