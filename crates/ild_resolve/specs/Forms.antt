-- The parts of a table that are as the text says them, without names of types.
use Rattle.std.specs.Prelude.{ℕ, List, [], ◌∷◌, Option, Some, None, true, false, map, option_map}
use Rattle.std.specs.Option.{unwrap_or}
use Rattle.ild_data.specs.TrieShape.{usual}
use Rattle.ild_parse_grammar.specs.declared.ast.MapForm.{MapForm as AstMapForm}
use Rattle.ild_parse_grammar.specs.declared.ast.MapForm.TheVariants as AM
use Rattle.ild_parse_grammar.specs.declared.ast.StructForm.{StructForm as AstStructForm}
use Rattle.ild_parse_grammar.specs.declared.ast.StructForm.TheVariants as AS
use Rattle.ild_parse_grammar.specs.declared.ast.UnionForm.{UnionForm as AstUnionForm}
use Rattle.ild_parse_grammar.specs.declared.ast.UnionForm.TheVariants as AU
use Rattle.ild_parse_grammar.specs.declared.ast.EnumForm.{EnumForm as AstEnumForm}
use Rattle.ild_parse_grammar.specs.declared.ast.EnumForm.TheVariants as AE
use Rattle.ild_parse_grammar.specs.declared.ast.UnitForm.{UnitForm as AstUnitForm}
use Rattle.ild_parse_grammar.specs.declared.ast.UnitForm.TheVariants as AN
use Rattle.ild_parse_grammar.specs.declared.ast.Opt.{Opt}
use Rattle.ild_parse_grammar.specs.declared.ast.Opt.TheVariants as AO
use Rattle.ild_parse_grammar.specs.declared.ast.Implicit.{Implicit}
use Rattle.ild_parse_grammar.specs.declared.ast.Implicit.TheVariants as AI
use Rattle.ild_parse_grammar.specs.declared.ast.Mark.{Mark as AstMark}
use Rattle.ild_parse_grammar.specs.declared.ast.Mark.TheVariants as AK
use Rattle.ild_parse_grammar.specs.declared.ast.KindWord.{KindWord as AstKindWord}
use Rattle.ild_parse_grammar.specs.declared.ast.KindWord.TheVariants as AW
use Rattle.ild_parse_grammar.specs.declared.ast.EnumMember.{EnumMember as AstEnumMember}
use Rattle.ild_resolve.specs.Layouts.{shape_named}
use Rattle.ild_schema.specs.declared.def.MapForm.{MapForm}
use Rattle.ild_schema.specs.declared.def.MapForm.TheVariants as M
use Rattle.ild_schema.specs.declared.def.StructForm.{StructForm}
use Rattle.ild_schema.specs.declared.def.StructForm.TheVariants as S
use Rattle.ild_schema.specs.declared.def.UnionForm.{UnionForm}
use Rattle.ild_schema.specs.declared.def.UnionForm.TheVariants as U
use Rattle.ild_schema.specs.declared.def.EnumForm.{EnumForm}
use Rattle.ild_schema.specs.declared.def.EnumForm.TheVariants as E
use Rattle.ild_schema.specs.declared.def.UnitForm.{UnitForm}
use Rattle.ild_schema.specs.declared.def.UnitForm.TheVariants as N
use Rattle.ild_schema.specs.declared.def.Scalar.{Scalar}
use Rattle.ild_schema.specs.declared.def.Scalar.TheVariants as C
use Rattle.ild_schema.specs.declared.def.Mark.{Mark}
use Rattle.ild_schema.specs.declared.def.Mark.TheVariants as K
use Rattle.ild_schema.specs.declared.def.KindWord.TheVariants as W
use Rattle.ild_schema.specs.declared.def.EnumMember.{EnumMember}

-- where none is given: a map, and the text of an enum. Names behind `advanced` are those of layouts, where nothing is at fault
abbrev pub map_form : Option AstMapForm → MapForm
map_form None = M.Map
map_form (Some AM.Map) = M.Map
map_form (Some AM.ListPairs) = M.ListPairs
map_form (Some (AM.StringPairs p)) = M.StringPairs p.inner.text p.entry.text
map_form (Some (AM.Advanced t)) = M.Hamt (unwrap_or (shape_named t.name) usual)

abbrev pub struct_form : Option AstStructForm → StructForm
struct_form None = S.Map
struct_form (Some AS.Map) = S.Map
struct_form (Some AS.Tuple) = S.Tuple
struct_form (Some AS.ListPairs) = S.ListPairs
struct_form (Some (AS.StringPairs p)) = S.StringPairs p.inner.text p.entry.text
struct_form (Some (AS.StringJoin t)) = S.StringJoin t.text

abbrev pub union_form : AstUnionForm → UnionForm
union_form AU.Keyed = U.Keyed
union_form AU.Kinded = U.Kinded
union_form AU.StringPrefix = U.StringPrefix
union_form AU.BytesPrefix = U.BytesPrefix
union_form (AU.Envelope e) = U.Envelope e.discriminant.text e.content.text
union_form (AU.Inline t) = U.Inline t.text

abbrev pub enum_form : Option AstEnumForm → EnumForm
enum_form None = E.Text
enum_form (Some AE.String) = E.Text
enum_form (Some AE.Int) = E.Int

abbrev pub unit_form : AstUnitForm → UnitForm
unit_form AN.Null = N.Null
unit_form AN.True = N.True
unit_form AN.False = N.False
unit_form AN.EmptyMap = N.EmptyMap

-- the rename and the implicit value among a field's opts
abbrev pub renamed : Option (List ℕ) → List Opt → Option (List ℕ)
renamed found [] = found
renamed found (AO.Rename t ∷ os) = renamed (Some t.text) os
renamed found (AO.Implicit i ∷ os) = renamed found os

abbrev pub scalar : Implicit → Scalar
scalar (AI.Text t) = C.Text t.text
scalar (AI.Number n) = C.Int n.value
scalar AI.True = C.Bool true
scalar AI.False = C.Bool false

abbrev pub implied : Option Scalar → List Opt → Option Scalar
implied found [] = found
implied found (AO.Rename t ∷ os) = implied found os
implied found (AO.Implicit i ∷ os) = implied (Some (scalar i)) os

abbrev pub kind_mark : AstKindWord → Mark
kind_mark AW.Null = K.Kind W.Null
kind_mark AW.Bool = K.Kind W.Bool
kind_mark AW.Int = K.Kind W.Int
kind_mark (AW.Float at) = K.Bare  -- it is refused
kind_mark AW.String = K.Kind W.Text
kind_mark AW.Bytes = K.Kind W.Bytes
kind_mark AW.List = K.Kind W.List
kind_mark AW.Map = K.Kind W.Map
kind_mark AW.Link = K.Kind W.Link

abbrev pub mark_of : Option AstMark → Mark
mark_of None = K.Bare
mark_of (Some (AK.Text t)) = K.Text t.text
mark_of (Some (AK.Kind w)) = kind_mark w

abbrev pub enum_member : AstEnumMember → EnumMember
enum_member m = record { name = m.name.name; at = m.name.at; text = option_map (λ t. t.text) m.text }

abbrev pub enum_members : List AstEnumMember → List EnumMember
enum_members ms = map enum_member ms
