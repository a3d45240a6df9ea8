-- The grammar of bodies, fields, members and declarations (IPLD Schemas, the DSL), and the tree that tokens derive.
use Rattle.std.specs.Prelude.{◌≡◌, ℕ, ◌≤◌, Bool, true, false, List, [], ◌∷◌, count_by, codes}
use Rattle.ild_lex.specs.declared.token.Token.{Token}
use Rattle.ild_parse_grammar.specs.declared.ast.Ast.{Ast}
use Rattle.ild_parse_grammar.specs.declared.ast.Decl.{Decl}
use Rattle.ild_parse_grammar.specs.declared.ast.Decl.TheVariants as D
use Rattle.ild_parse_grammar.specs.declared.ast.Body.{Body}
use Rattle.ild_parse_grammar.specs.declared.ast.Body.TheVariants as B
use Rattle.ild_parse_grammar.specs.declared.ast.MapBody.{MapBody}
use Rattle.ild_parse_grammar.specs.declared.ast.StructBody.{StructBody}
use Rattle.ild_parse_grammar.specs.declared.ast.UnionBody.{UnionBody}
use Rattle.ild_parse_grammar.specs.declared.ast.EnumBody.{EnumBody}
use Rattle.ild_parse_grammar.specs.declared.ast.Field.{Field}
use Rattle.ild_parse_grammar.specs.declared.ast.Opt.{Opt}
use Rattle.ild_parse_grammar.specs.declared.ast.Opt.TheVariants as O
use Rattle.ild_parse_grammar.specs.declared.ast.Implicit.{Implicit}
use Rattle.ild_parse_grammar.specs.declared.ast.Implicit.TheVariants as I
use Rattle.ild_parse_grammar.specs.declared.ast.Member.{Member}
use Rattle.ild_parse_grammar.specs.declared.ast.Target.{Target}
use Rattle.ild_parse_grammar.specs.declared.ast.Target.TheVariants as T
use Rattle.ild_parse_grammar.specs.declared.ast.Mark.{Mark}
use Rattle.ild_parse_grammar.specs.declared.ast.Mark.TheVariants as M
use Rattle.ild_parse_grammar.specs.declared.ast.KindWord.{KindWord}
use Rattle.ild_parse_grammar.specs.declared.ast.KindWord.TheVariants as K
use Rattle.ild_parse_grammar.specs.declared.ast.EnumMember.{EnumMember}
use Rattle.ild_parse_grammar.specs.declared.ast.Text.{Text}
use Rattle.ild_parse_grammar.specs.Sign.{Sign, signs_of}
use Rattle.ild_parse_grammar.specs.Derive.{deepest, IsWord, IsTypeName, IsName, IsText, IsNumber, BeginsAt, IsOptionalWord, IsOptional, AreParts, AreBraced, IsFormed, IsReference}
use Rattle.ild_parse_grammar.specs.DeriveForm.{IsMapForm, IsStructForm, IsUnionForm, IsEnumForm, IsUnitForm}

-- Text | Number | "true" | "false"
abbrev pub IsImplicit : Implicit → List Sign → List Sign → Type 0
IsImplicit (I.Text t) xs ys = IsText t xs ys
IsImplicit (I.Number n) xs ys = IsNumber n xs ys
IsImplicit I.True xs ys = IsWord (codes "true") xs ys
IsImplicit I.False xs ys = IsWord (codes "false") xs ys

-- opt = "rename" Text | "implicit" ( Text | Number | "true" | "false" )
abbrev pub IsOpt : Opt → List Sign → List Sign → Type 0
IsOpt (O.Rename t) xs ys = (us : List Sign) × IsWord (codes "rename") xs us × IsText t us ys
IsOpt (O.Implicit v) xs ys = (us : List Sign) × IsWord (codes "implicit") xs us × IsImplicit v us ys

abbrev pub renames : Opt → Bool
renames (O.Rename t) = true
renames (O.Implicit v) = false

abbrev pub is_implicit : Opt → Bool
is_implicit (O.Rename t) = false
is_implicit (O.Implicit v) = true

-- [ "(" opt { opt } ")" ], each opt at most once
abbrev pub AreOpts : List Opt → List Sign → List Sign → Type 0
AreOpts [] xs ys = xs ≡ ys
AreOpts (o ∷ os) xs ys =
    (us vs : List Sign) × IsWord (codes "(") xs us × AreParts IsOpt (o ∷ os) us vs × IsWord (codes ")") vs ys
    × (count_by renames (o ∷ os) ≤ 1) × (count_by is_implicit (o ∷ os) ≤ 1)

-- field = Name [ "optional" ] ref [ "(" opt { opt } ")" ]
abbrev pub IsField : Field → List Sign → List Sign → Type 0
IsField f xs ys =
    (us vs ws : List Sign) × IsName f.name xs us × IsOptionalWord (codes "optional") f.optional us vs × IsReference deepest f.value vs ws × AreOpts f.opts ws ys

-- Type | "&" Type
abbrev pub IsTarget : Target → List Sign → List Sign → Type 0
IsTarget (T.Type n) xs ys = IsTypeName n xs ys
IsTarget (T.Link n) xs ys = (us : List Sign) × IsWord (codes "&") xs us × IsTypeName n us ys

-- kind; `float` with its place
abbrev pub IsKind : KindWord → List Sign → List Sign → Type 0
IsKind K.Null xs ys = IsWord (codes "null") xs ys
IsKind K.Bool xs ys = IsWord (codes "bool") xs ys
IsKind K.Int xs ys = IsWord (codes "int") xs ys
IsKind (K.Float at) xs ys = IsWord (codes "float") xs ys × BeginsAt at xs
IsKind K.String xs ys = IsWord (codes "string") xs ys
IsKind K.Bytes xs ys = IsWord (codes "bytes") xs ys
IsKind K.List xs ys = IsWord (codes "list") xs ys
IsKind K.Map xs ys = IsWord (codes "map") xs ys
IsKind K.Link xs ys = IsWord (codes "link") xs ys

-- Text | kind
abbrev pub IsMark : Mark → List Sign → List Sign → Type 0
IsMark (M.Text t) xs ys = IsText t xs ys
IsMark (M.Kind k) xs ys = IsKind k xs ys

-- "|" ( Type | "&" Type ) [ Text | kind ]
abbrev pub IsMember : Member → List Sign → List Sign → Type 0
IsMember m xs ys = (us vs : List Sign) × IsWord (codes "|") xs us × BeginsAt m.at us × IsTarget m.target us vs × IsOptional IsMark m.mark vs ys

-- "(" Text ")"
abbrev pub IsQuoted : Text → List Sign → List Sign → Type 0
IsQuoted t xs ys = (us vs : List Sign) × IsWord (codes "(") xs us × IsText t us vs × IsWord (codes ")") vs ys

-- "|" Name [ "(" Text ")" ]
abbrev pub IsEnumMember : EnumMember → List Sign → List Sign → Type 0
IsEnumMember m xs ys = (us vs : List Sign) × IsWord (codes "|") xs us × IsName m.name us vs × IsOptional IsQuoted m.text vs ys

-- map = "{" Type ":" ref "}" [ "representation" form ]
abbrev pub IsMap : MapBody → List Sign → List Sign → Type 0
IsMap m xs ys =
    (us vs ws zs ts : List Sign) × IsWord (codes "{") xs us × IsTypeName m.key us vs × IsWord (codes ":") vs ws × IsReference deepest m.value ws zs
    × IsWord (codes "}") zs ts × IsOptional (IsFormed IsMapForm) m.form ts ys

-- struct = "struct" "{" { field } "}" [ "representation" form ]
abbrev pub IsStruct : StructBody → List Sign → List Sign → Type 0
IsStruct b xs ys = (us vs : List Sign) × IsWord (codes "struct") xs us × AreBraced IsField b.fields us vs × IsOptional (IsFormed IsStructForm) b.form vs ys

-- union = "union" "{" { "|" member } "}" "representation" form
abbrev pub IsUnion : UnionBody → List Sign → List Sign → Type 0
IsUnion b xs ys = (us vs : List Sign) × IsWord (codes "union") xs us × AreBraced IsMember b.members us vs × IsFormed IsUnionForm b.form vs ys

-- enum = "enum" "{" { "|" member } "}" [ "representation" form ]
abbrev pub IsEnum : EnumBody → List Sign → List Sign → Type 0
IsEnum b xs ys = (us vs : List Sign) × IsWord (codes "enum") xs us × AreBraced IsEnumMember b.members us vs × IsOptional (IsFormed IsEnumForm) b.form vs ys

abbrev pub IsBody : Body → List Sign → List Sign → Type 0
IsBody (B.Copy n) xs ys = (us : List Sign) × IsWord (codes "=") xs us × IsTypeName n us ys
IsBody B.Bool xs ys = IsWord (codes "bool") xs ys
IsBody B.String xs ys = IsWord (codes "string") xs ys
IsBody B.Bytes xs ys = IsWord (codes "bytes") xs ys
IsBody B.Int xs ys = IsWord (codes "int") xs ys
IsBody (B.Float at) xs ys = IsWord (codes "float") xs ys × BeginsAt at xs
IsBody B.Any xs ys = IsWord (codes "any") xs ys
IsBody (B.Link n) xs ys = (us : List Sign) × IsWord (codes "&") xs us × IsTypeName n us ys
IsBody (B.List r) xs ys = (us vs : List Sign) × IsWord (codes "[") xs us × IsReference deepest r us vs × IsWord (codes "]") vs ys
IsBody (B.Map m) xs ys = IsMap m xs ys
IsBody (B.Struct b) xs ys = IsStruct b xs ys
IsBody (B.Union b) xs ys = IsUnion b xs ys
IsBody (B.Enum b) xs ys = IsEnum b xs ys
IsBody (B.Unit f) xs ys = (us : List Sign) × IsWord (codes "unit") xs us × IsFormed IsUnitForm f us ys

-- decl = "type" Type body | "advanced" Type
abbrev pub IsDecl : Decl → List Sign → List Sign → Type 0
IsDecl (D.Type d) xs ys = (us vs : List Sign) × IsWord (codes "type") xs us × IsTypeName d.name us vs × IsBody d.body vs ys
IsDecl (D.Advanced n) xs ys = (us : List Sign) × IsWord (codes "advanced") xs us × IsTypeName n us ys

-- schema = { decl }: the tree that the tokens of a source derive
abbrev pub Derives : List ℕ → List Token → Ast → Type 0
Derives src ts tree = AreParts IsDecl tree.decls (signs_of src ts) []
