-- The grammar of representations and settings (IPLD Schemas, the DSL).
use Rattle.std.specs.Prelude.{◌⊎◌, List, codes}
use Rattle.ild_parse_grammar.specs.declared.ast.MapForm.{MapForm}
use Rattle.ild_parse_grammar.specs.declared.ast.MapForm.TheVariants as M
use Rattle.ild_parse_grammar.specs.declared.ast.StructForm.{StructForm}
use Rattle.ild_parse_grammar.specs.declared.ast.StructForm.TheVariants as S
use Rattle.ild_parse_grammar.specs.declared.ast.UnionForm.{UnionForm}
use Rattle.ild_parse_grammar.specs.declared.ast.UnionForm.TheVariants as U
use Rattle.ild_parse_grammar.specs.declared.ast.EnumForm.{EnumForm}
use Rattle.ild_parse_grammar.specs.declared.ast.EnumForm.TheVariants as E
use Rattle.ild_parse_grammar.specs.declared.ast.UnitForm.{UnitForm}
use Rattle.ild_parse_grammar.specs.declared.ast.UnitForm.TheVariants as N
use Rattle.ild_parse_grammar.specs.declared.ast.Pairs.{Pairs}
use Rattle.ild_parse_grammar.specs.declared.ast.Envelope.{Envelope}
use Rattle.ild_parse_grammar.specs.declared.ast.Text.{Text}
use Rattle.ild_parse_grammar.specs.Sign.{Sign}
use Rattle.ild_parse_grammar.specs.Derive.{IsWord, IsTypeName, IsText}
use Rattle.std.specs.Prelude.{ℕ}

-- key Text
abbrev pub IsSetting : List ℕ → Text → List Sign → List Sign → Type 0
IsSetting key x xs ys = (us : List Sign) × IsWord key xs us × IsText x us ys

-- "{" key Text "}"
abbrev pub IsOneSetting : List ℕ → Text → List Sign → List Sign → Type 0
IsOneSetting key x xs ys = (us vs : List Sign) × IsWord (codes "{") xs us × IsSetting key x us vs × IsWord (codes "}") vs ys

-- both settings, in one order or the other
abbrev pub AreBothSettings : List ℕ → List ℕ → Text → Text → List Sign → List Sign → Type 0
AreBothSettings a b x y xs ys = ((us : List Sign) × IsSetting a x xs us × IsSetting b y us ys) ⊎ ((us : List Sign) × IsSetting b y xs us × IsSetting a x us ys)

-- "{" a Text b Text "}"
abbrev pub AreTwoSettings : List ℕ → List ℕ → Text → Text → List Sign → List Sign → Type 0
AreTwoSettings a b x y xs ys = (us vs : List Sign) × IsWord (codes "{") xs us × AreBothSettings a b x y us vs × IsWord (codes "}") vs ys

-- "{" "innerDelim" Text "entryDelim" Text "}"
abbrev pub IsPairs : Pairs → List Sign → List Sign → Type 0
IsPairs p xs ys = AreTwoSettings (codes "innerDelim") (codes "entryDelim") p.inner p.entry xs ys

abbrev pub IsMapForm : MapForm → List Sign → List Sign → Type 0
IsMapForm M.Map xs ys = IsWord (codes "map") xs ys
IsMapForm M.ListPairs xs ys = IsWord (codes "listpairs") xs ys
IsMapForm (M.StringPairs p) xs ys = (us : List Sign) × IsWord (codes "stringpairs") xs us × IsPairs p us ys
IsMapForm (M.Advanced n) xs ys = (us : List Sign) × IsWord (codes "advanced") xs us × IsTypeName n us ys

abbrev pub IsStructForm : StructForm → List Sign → List Sign → Type 0
IsStructForm S.Map xs ys = IsWord (codes "map") xs ys
IsStructForm S.Tuple xs ys = IsWord (codes "tuple") xs ys
IsStructForm S.ListPairs xs ys = IsWord (codes "listpairs") xs ys
IsStructForm (S.StringPairs p) xs ys = (us : List Sign) × IsWord (codes "stringpairs") xs us × IsPairs p us ys
IsStructForm (S.StringJoin t) xs ys = (us : List Sign) × IsWord (codes "stringjoin") xs us × IsOneSetting (codes "join") t us ys

abbrev pub IsEnvelope : Envelope → List Sign → List Sign → Type 0
IsEnvelope e xs ys = AreTwoSettings (codes "discriminantKey") (codes "contentKey") e.discriminant e.content xs ys

abbrev pub IsUnionForm : UnionForm → List Sign → List Sign → Type 0
IsUnionForm U.Keyed xs ys = IsWord (codes "keyed") xs ys
IsUnionForm U.Kinded xs ys = IsWord (codes "kinded") xs ys
IsUnionForm U.StringPrefix xs ys = IsWord (codes "stringprefix") xs ys
IsUnionForm U.BytesPrefix xs ys = IsWord (codes "bytesprefix") xs ys
IsUnionForm (U.Envelope e) xs ys = (us : List Sign) × IsWord (codes "envelope") xs us × IsEnvelope e us ys
IsUnionForm (U.Inline t) xs ys = (us : List Sign) × IsWord (codes "inline") xs us × IsOneSetting (codes "discriminantKey") t us ys

abbrev pub IsEnumForm : EnumForm → List Sign → List Sign → Type 0
IsEnumForm E.String xs ys = IsWord (codes "string") xs ys
IsEnumForm E.Int xs ys = IsWord (codes "int") xs ys

abbrev pub IsUnitForm : UnitForm → List Sign → List Sign → Type 0
IsUnitForm N.Null xs ys = IsWord (codes "null") xs ys
IsUnitForm N.True xs ys = IsWord (codes "true") xs ys
IsUnitForm N.False xs ys = IsWord (codes "false") xs ys
IsUnitForm N.EmptyMap xs ys = IsWord (codes "emptymap") xs ys
