-- How one layer of a value stands in a block, where the data of its parts are known (IPLD Schemas, "Representation
-- Strategies"): one clause a form of type. There is no such data where the layer is not of the type's form, or breaks one
-- of the strategy's rules.
use Rattle.std.specs.Prelude.{ℕ, true, false, cond, is_none, List, [], ◌∷◌, ◌++◌, Option, Some, None, option_map, option_and_then, slice_get}
use Rattle.ild_data.specs.Data as T
use Rattle.ild_data.specs.Data.{Data}
use Rattle.ild_data.specs.Key.{put, value_at}
use Rattle.ild_schema.specs.declared.def.TypeDef.{TypeDef}
use Rattle.ild_schema.specs.declared.def.TypeDef.TheVariants as D
use Rattle.ild_schema.specs.declared.def.UnitForm.{UnitForm}
use Rattle.ild_schema.specs.declared.def.UnitForm.TheVariants as U
use Rattle.ild_schema.specs.declared.def.MapForm.{MapForm}
use Rattle.ild_schema.specs.declared.def.MapForm.TheVariants as MF
use Rattle.ild_schema.specs.declared.def.StructForm.{StructForm}
use Rattle.ild_schema.specs.declared.def.StructForm.TheVariants as S
use Rattle.ild_schema.specs.declared.def.UnionForm.{UnionForm}
use Rattle.ild_schema.specs.declared.def.UnionForm.TheVariants as UF
use Rattle.ild_schema.specs.declared.def.EnumForm.{EnumForm}
use Rattle.ild_schema.specs.declared.def.EnumForm.TheVariants as E
use Rattle.ild_schema.specs.declared.def.Field.{Field}
use Rattle.ild_schema.specs.declared.def.Member.{Member}
use Rattle.ild_schema.specs.declared.def.EnumMember.{EnumMember}
use Rattle.ild_data.specs.declared.hamt_shape.HamtShape.{HamtShape}
use Rattle.ild_typed.specs.Layer.{Layer, as_boolean, as_integer, as_text, as_bytes, as_link, as_any, as_unit, as_enum, as_list, as_map, as_struct, as_union}
use Rattle.ild_typed.specs.Fields.{field_entries, tuple_items, all_items}
use Rattle.ild_typed.specs.Strings.{text_in, bytes_in, members_in, in_key_order, map_data, listpairs, stringpairs, stringjoin}
use Rattle.ild_typed.specs.Kinds.{kind_word_of}
use Rattle.ild_schema.specs.DataKinds.{same_kind}
use Rattle.ild_schema.specs.Marks.{member_text, member_integer, mark_text, mark_kind}
use Rattle.ild_data.specs.Hex.{bytes_of_hex}

-- how the layer of a HAMT of a shape stands in a block
abbrev pub Hamts : Type 0
Hamts = HamtShape → Layer Data → Option Data

abbrev pub unit_data : UnitForm → Data
unit_data U.Null = T.null
unit_data U.True = T.boolean true
unit_data U.False = T.boolean false
unit_data U.EmptyMap = T.map T.no_members

-- null is no value of Any
abbrev pub any_data : Data → Option Data
any_data T.null = None
any_data d = Some d

abbrev pub map_form : Hamts → MapForm → Layer Data → Option Data
map_form at MF.Map l = option_map map_data (as_map l)
map_form at MF.ListPairs l = option_map listpairs (as_map l)
map_form at (MF.StringPairs inner entry) l = option_and_then (stringpairs inner entry) (as_map l)
map_form at (MF.Hamt p) l = at p l

abbrev pub struct_form : StructForm → List Field → List (Option Data) → Option Data
struct_form S.Map fs os = option_map (λ es. map_data (in_key_order es)) (field_entries fs os)
struct_form S.Tuple fs os = option_map (λ ds. T.list (T.items_of ds)) (tuple_items fs os)
struct_form S.ListPairs fs os = option_map listpairs (field_entries fs os)
struct_form (S.StringPairs inner entry) fs os = option_and_then (stringpairs inner entry) (field_entries fs os)
struct_form (S.StringJoin delim) fs os = option_and_then (stringjoin delim) (all_items fs os)

-- the member's entries with that of the discriminant
abbrev pub inlined : List ℕ → List ℕ → List (List ℕ × Data) → Option Data
inlined key name ms = cond (is_none (value_at key ms)) (Some (map_data (put key (T.text name) ms))) None

-- the data of a union's member d, where its mark has the text
abbrev pub marked_form : UnionForm → Data → List ℕ → Option Data
marked_form UF.Keyed d name = Some (map_data ((name, d) ∷ []))
marked_form UF.Kinded d name = None
marked_form UF.StringPrefix d name = option_map (λ s. T.text (name ++ s)) (text_in d)
marked_form UF.BytesPrefix d name = option_and_then (λ front. option_map (λ s. T.bytes (front ++ s)) (bytes_in d)) (bytes_of_hex name)
marked_form (UF.Envelope key content) d name = Some (map_data (put key (T.text name) ((content, d) ∷ [])))
marked_form (UF.Inline key) d name = option_and_then (inlined key name) (members_in d)

abbrev pub member_form : UnionForm → Data → Member → Option Data
member_form UF.Kinded d m = option_and_then (λ k. cond (same_kind k (kind_word_of d)) (Some d) None) (mark_kind m.mark)
member_form form d m = option_and_then (marked_form form d) (mark_text m.mark)

abbrev pub union_form : UnionForm → List Member → ℕ × Data → Option Data
union_form form ms p = option_and_then (member_form form p.1) (slice_get ms p.0)

abbrev pub enum_form : EnumForm → EnumMember → Option Data
enum_form E.Text m = Some (T.text (member_text m))
enum_form E.Int m = option_map T.integer (member_integer m)

abbrev pub composed : Hamts → TypeDef → Layer Data → Option Data
composed at D.Bool l = option_map T.boolean (as_boolean l)
composed at D.Text l = option_map T.text (as_text l)
composed at D.Bytes l = option_map T.bytes (as_bytes l)
composed at D.Int l = option_map T.integer (as_integer l)
composed at D.Any l = option_and_then any_data (as_any l)
composed at (D.Link target) l = option_map T.link (as_link l)
composed at (D.Unit form) l = option_map (λ u. unit_data form) (as_unit l)
composed at (D.List elem place) l = option_map (λ ds. T.list (T.items_of ds)) (as_list l)
composed at (D.Map key key_place value place form) l = map_form at form l
composed at (D.Struct s) l = option_and_then (struct_form s.form s.fields) (as_struct l)
composed at (D.Union u) l = option_and_then (union_form u.form u.members) (as_union l)
composed at (D.Enum e) l = option_and_then (λ n. option_and_then (enum_form e.form) (slice_get e.members n)) (as_enum l)
composed at (D.Copy target) l = None
