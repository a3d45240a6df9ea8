-- Each part has a token or more.
use Rattle.std.proofs.Common.{◌≡◌, ℕ, ◌<◌, ◌≤◌, Bool, true, false, List, [], ◌∷◌, length, Option, Some, None, ap, subst, inl, inr, arith}
use Rattle.std.specs.Prelude.{codes}
use Rattle.ild_parse_grammar.specs.declared.ast.MapForm.{MapForm}
use Rattle.ild_parse_grammar.specs.declared.ast.MapForm.TheVariants as MF
use Rattle.ild_parse_grammar.specs.declared.ast.StructForm.{StructForm}
use Rattle.ild_parse_grammar.specs.declared.ast.StructForm.TheVariants as SF
use Rattle.ild_parse_grammar.specs.declared.ast.UnionForm.{UnionForm}
use Rattle.ild_parse_grammar.specs.declared.ast.UnionForm.TheVariants as UF
use Rattle.ild_parse_grammar.specs.declared.ast.EnumForm.{EnumForm}
use Rattle.ild_parse_grammar.specs.declared.ast.EnumForm.TheVariants as EF
use Rattle.ild_parse_grammar.specs.declared.ast.UnitForm.{UnitForm}
use Rattle.ild_parse_grammar.specs.declared.ast.UnitForm.TheVariants as NF
use Rattle.ild_parse_grammar.specs.declared.ast.TypeName.{TypeName}
use Rattle.ild_parse_grammar.specs.declared.ast.Name.{Name}
use Rattle.ild_parse_grammar.specs.declared.ast.Text.{Text}
use Rattle.ild_parse_grammar.specs.declared.ast.Number.{Number}
use Rattle.ild_parse_grammar.specs.declared.ast.Decl.{Decl}
use Rattle.ild_parse_grammar.specs.declared.ast.Decl.TheVariants as DV
use Rattle.ild_parse_grammar.specs.declared.ast.Body.{Body}
use Rattle.ild_parse_grammar.specs.declared.ast.Body.TheVariants as BV
use Rattle.ild_parse_grammar.specs.declared.ast.Field.{Field}
use Rattle.ild_parse_grammar.specs.declared.ast.Opt.{Opt}
use Rattle.ild_parse_grammar.specs.declared.ast.Opt.TheVariants as OV
use Rattle.ild_parse_grammar.specs.declared.ast.Implicit.{Implicit}
use Rattle.ild_parse_grammar.specs.declared.ast.Implicit.TheVariants as IV
use Rattle.ild_parse_grammar.specs.declared.ast.Member.{Member}
use Rattle.ild_parse_grammar.specs.declared.ast.Target.{Target}
use Rattle.ild_parse_grammar.specs.declared.ast.Target.TheVariants as TV
use Rattle.ild_parse_grammar.specs.declared.ast.Mark.{Mark}
use Rattle.ild_parse_grammar.specs.declared.ast.Mark.TheVariants as MV
use Rattle.ild_parse_grammar.specs.declared.ast.KindWord.{KindWord}
use Rattle.ild_parse_grammar.specs.declared.ast.KindWord.TheVariants as KV
use Rattle.ild_parse_grammar.specs.declared.ast.EnumMember.{EnumMember}
use Rattle.ild_parse_grammar.specs.Reference.{Reference, refer, Refers, named, link, list, map}
use Rattle.ild_parse_grammar.specs.Sign.{Sign}
use Rattle.ild_parse_grammar.specs.Derive.{deepest}
use Rattle.ild_parse_grammar.specs.Derive.{IsWord, IsTypeName, IsName, IsText, IsNumber, IsOptionalWord, IsOptional, AreParts, AreBraced, IsFormed, IsReference, IsInline}
use Rattle.ild_parse_grammar.specs.DeriveForm.{IsSetting, IsOneSetting, AreTwoSettings, AreBothSettings, IsMapForm, IsStructForm, IsUnionForm, IsEnumForm, IsUnitForm}
use Rattle.ild_parse_grammar.specs.DerivePart.{IsImplicit, IsOpt, AreOpts, IsField, IsTarget, IsKind, IsMark, IsMember, IsQuoted, IsEnumMember, IsBody, IsDecl}
use Rattle.ild_parse_grammar.proofs.Complete.{parts_count}

one_less : (t : Sign) (xs ys : List Sign) → xs ≡ ys → length ys < length (t ∷ xs)
one_less t xs ys e = subst (λ (zs : List Sign). length zs < length (t ∷ xs)) e (omega arith)

pub word_shorter : (w : List ℕ) (xs ys : List Sign) → IsWord w xs ys → length ys < length xs
word_shorter w [] ys h = absurd h
word_shorter w (t ∷ xs) ys h = one_less t xs ys h.2

pub type_shorter : (n : TypeName) (xs ys : List Sign) → IsTypeName n xs ys → length ys < length xs
type_shorter n [] ys h = absurd h
type_shorter n (t ∷ xs) ys h = one_less t xs ys h.3

pub name_shorter : (n : Name) (xs ys : List Sign) → IsName n xs ys → length ys < length xs
name_shorter n [] ys h = absurd h
name_shorter n (t ∷ xs) ys h = one_less t xs ys h.3

pub text_shorter : (n : Text) (xs ys : List Sign) → IsText n xs ys → length ys < length xs
text_shorter n [] ys h = absurd h
text_shorter n (t ∷ xs) ys h = one_less t xs ys h.3

pub number_shorter : (n : Number) (xs ys : List Sign) → IsNumber n xs ys → length ys < length xs
number_shorter n [] ys h = absurd h
number_shorter n (t ∷ xs) ys h = one_less t xs ys h.3

optional_word_no_longer : (w : List ℕ) (b : Bool) (xs ys : List Sign) → IsOptionalWord w b xs ys → length ys ≤ length xs
optional_word_no_longer w true xs ys h = omega (arith, word_shorter w xs ys h)
optional_word_no_longer w false xs ys h = omega (arith, ap length h)

abbrev IsShorter : {A : Type 0} → (A → List Sign → List Sign → Type 0) → Type 0
IsShorter {A} part = (a : A) (xs ys : List Sign) → part a xs ys → length ys < length xs

optional_no_longer : {A : Type 0} (part : A → List Sign → List Sign → Type 0) → IsShorter part → (a : Option A) (xs ys : List Sign) → IsOptional part a xs ys → length ys ≤ length xs
optional_no_longer part less None xs ys h = omega (arith, ap length h)
optional_no_longer part less (Some a) xs ys h = omega (arith, less a xs ys h)

parts_no_longer : {A : Type 0} (part : A → List Sign → List Sign → Type 0) → IsShorter part → (all : List A) (xs ys : List Sign) → AreParts part all xs ys → length ys ≤ length xs
parts_no_longer part less all xs ys h = omega (arith, parts_count part less all xs ys h)

braced_shorter : {A : Type 0} (part : A → List Sign → List Sign → Type 0) → IsShorter part → (all : List A) (xs ys : List Sign) → AreBraced part all xs ys → length ys < length xs
braced_shorter part less all xs ys h = omega (arith, word_shorter (codes "{") xs h.0 h.2, parts_no_longer part less all h.0 h.1 h.3, word_shorter (codes "}") h.1 ys h.4)

formed_shorter : {A : Type 0} (form : A → List Sign → List Sign → Type 0) → IsShorter form → (f : A) (xs ys : List Sign) → IsFormed form f xs ys → length ys < length xs
formed_shorter form less f xs ys h = omega (arith, word_shorter (codes "representation") xs h.0 h.1, less f h.0 ys h.2)

setting_shorter : (key : List ℕ) (x : Text) (xs ys : List Sign) → IsSetting key x xs ys → length ys < length xs
setting_shorter key x xs ys h = omega (arith, word_shorter key xs h.0 h.1, text_shorter x h.0 ys h.2)

one_setting_shorter : (key : List ℕ) (x : Text) (xs ys : List Sign) → IsOneSetting key x xs ys → length ys < length xs
one_setting_shorter key x xs ys h = omega (arith, word_shorter (codes "{") xs h.0 h.2, setting_shorter key x h.0 h.1 h.3, word_shorter (codes "}") h.1 ys h.4)

both_settings_shorter : (a b : List ℕ) (x y : Text) (xs ys : List Sign) → AreBothSettings a b x y xs ys → length ys < length xs
both_settings_shorter a b x y xs ys (inl h) = omega (arith, setting_shorter a x xs h.0 h.1, setting_shorter b y h.0 ys h.2)
both_settings_shorter a b x y xs ys (inr h) = omega (arith, setting_shorter b y xs h.0 h.1, setting_shorter a x h.0 ys h.2)

two_settings_shorter : (a b : List ℕ) (x y : Text) (xs ys : List Sign) → AreTwoSettings a b x y xs ys → length ys < length xs
two_settings_shorter a b x y xs ys h = omega (arith, word_shorter (codes "{") xs h.0 h.2, both_settings_shorter a b x y h.0 h.1 h.3, word_shorter (codes "}") h.1 ys h.4)

pub map_form_shorter : (f : MapForm) (xs ys : List Sign) → IsMapForm f xs ys → length ys < length xs
map_form_shorter MF.Map xs ys h = word_shorter (codes "map") xs ys h
map_form_shorter MF.ListPairs xs ys h = word_shorter (codes "listpairs") xs ys h
map_form_shorter (MF.StringPairs p) xs ys h = omega (arith, word_shorter (codes "stringpairs") xs h.0 h.1, two_settings_shorter (codes "innerDelim") (codes "entryDelim") p.inner p.entry h.0 ys h.2)
map_form_shorter (MF.Advanced n) xs ys h = omega (arith, word_shorter (codes "advanced") xs h.0 h.1, type_shorter n h.0 ys h.2)

pub struct_form_shorter : (f : StructForm) (xs ys : List Sign) → IsStructForm f xs ys → length ys < length xs
struct_form_shorter SF.Map xs ys h = word_shorter (codes "map") xs ys h
struct_form_shorter SF.Tuple xs ys h = word_shorter (codes "tuple") xs ys h
struct_form_shorter SF.ListPairs xs ys h = word_shorter (codes "listpairs") xs ys h
struct_form_shorter (SF.StringPairs p) xs ys h = omega (arith, word_shorter (codes "stringpairs") xs h.0 h.1, two_settings_shorter (codes "innerDelim") (codes "entryDelim") p.inner p.entry h.0 ys h.2)
struct_form_shorter (SF.StringJoin t) xs ys h = omega (arith, word_shorter (codes "stringjoin") xs h.0 h.1, one_setting_shorter (codes "join") t h.0 ys h.2)

pub union_form_shorter : (f : UnionForm) (xs ys : List Sign) → IsUnionForm f xs ys → length ys < length xs
union_form_shorter UF.Keyed xs ys h = word_shorter (codes "keyed") xs ys h
union_form_shorter UF.Kinded xs ys h = word_shorter (codes "kinded") xs ys h
union_form_shorter UF.StringPrefix xs ys h = word_shorter (codes "stringprefix") xs ys h
union_form_shorter UF.BytesPrefix xs ys h = word_shorter (codes "bytesprefix") xs ys h
union_form_shorter (UF.Envelope p) xs ys h = omega (arith, word_shorter (codes "envelope") xs h.0 h.1, two_settings_shorter (codes "discriminantKey") (codes "contentKey") p.discriminant p.content h.0 ys h.2)
union_form_shorter (UF.Inline t) xs ys h = omega (arith, word_shorter (codes "inline") xs h.0 h.1, one_setting_shorter (codes "discriminantKey") t h.0 ys h.2)

pub enum_form_shorter : (f : EnumForm) (xs ys : List Sign) → IsEnumForm f xs ys → length ys < length xs
enum_form_shorter EF.String xs ys h = word_shorter (codes "string") xs ys h
enum_form_shorter EF.Int xs ys h = word_shorter (codes "int") xs ys h

pub unit_form_shorter : (f : UnitForm) (xs ys : List Sign) → IsUnitForm f xs ys → length ys < length xs
unit_form_shorter NF.Null xs ys h = word_shorter (codes "null") xs ys h
unit_form_shorter NF.True xs ys h = word_shorter (codes "true") xs ys h
unit_form_shorter NF.False xs ys h = word_shorter (codes "false") xs ys h
unit_form_shorter NF.EmptyMap xs ys h = word_shorter (codes "emptymap") xs ys h

mutual
  pub reference_shorter : (room : ℕ) (r : Reference) (xs ys : List Sign) → IsReference room r xs ys → length ys < length xs
  reference_shorter room (refer at nullable type_at r) xs ys h = omega (arith, optional_word_no_longer (codes "nullable") nullable xs h.0 h.1, inline_shorter room r h.0 ys h.4)

  pub inline_shorter : (room : ℕ) (r : Refers) (xs ys : List Sign) → IsInline room r xs ys → length ys < length xs
  inline_shorter room (named n) xs ys h = type_shorter n xs ys h
  inline_shorter room (link n) xs ys h = omega (arith, word_shorter (codes "&") xs h.2.0 h.2.1, type_shorter n h.2.0 ys h.2.2)
  inline_shorter room (list r) xs ys h = omega (arith, word_shorter (codes "[") xs h.2.0 h.2.2, reference_shorter h.0 r h.2.0 h.2.1 h.2.3, word_shorter (codes "]") h.2.1 ys h.2.4)
  inline_shorter room (map k r) xs ys h =
      omega (arith, word_shorter (codes "{") xs h.2.0 h.2.4, type_shorter k h.2.0 h.2.1 h.2.5, word_shorter (codes ":") h.2.1 h.2.2 h.2.6, reference_shorter h.0 r h.2.2 h.2.3 h.2.7, word_shorter (codes "}") h.2.3 ys h.2.8)

pub implicit_shorter : (v : Implicit) (xs ys : List Sign) → IsImplicit v xs ys → length ys < length xs
implicit_shorter (IV.Text t) xs ys h = text_shorter t xs ys h
implicit_shorter (IV.Number n) xs ys h = number_shorter n xs ys h
implicit_shorter IV.True xs ys h = word_shorter (codes "true") xs ys h
implicit_shorter IV.False xs ys h = word_shorter (codes "false") xs ys h

pub opt_shorter : (p : Opt) (xs ys : List Sign) → IsOpt p xs ys → length ys < length xs
opt_shorter (OV.Rename t) xs ys h = omega (arith, word_shorter (codes "rename") xs h.0 h.1, text_shorter t h.0 ys h.2)
opt_shorter (OV.Implicit v) xs ys h = omega (arith, word_shorter (codes "implicit") xs h.0 h.1, implicit_shorter v h.0 ys h.2)

opts_no_longer : (os : List Opt) (xs ys : List Sign) → AreOpts os xs ys → length ys ≤ length xs
opts_no_longer [] xs ys h = omega (arith, ap length h)
opts_no_longer (p ∷ os) xs ys h = omega (arith, word_shorter (codes "(") xs h.0 h.2, parts_no_longer IsOpt opt_shorter (p ∷ os) h.0 h.1 h.3, word_shorter (codes ")") h.1 ys h.4)

pub field_shorter : (f : Field) (xs ys : List Sign) → IsField f xs ys → length ys < length xs
field_shorter f xs ys h = omega (arith, name_shorter f.name xs h.0 h.3, optional_word_no_longer (codes "optional") f.optional h.0 h.1 h.4, reference_shorter deepest f.value h.1 h.2 h.5, opts_no_longer f.opts h.2 ys h.6)

pub target_shorter : (t : Target) (xs ys : List Sign) → IsTarget t xs ys → length ys < length xs
target_shorter (TV.Type n) xs ys h = type_shorter n xs ys h
target_shorter (TV.Link n) xs ys h = omega (arith, word_shorter (codes "&") xs h.0 h.1, type_shorter n h.0 ys h.2)

pub kind_shorter : (k : KindWord) (xs ys : List Sign) → IsKind k xs ys → length ys < length xs
kind_shorter KV.Null xs ys h = word_shorter (codes "null") xs ys h
kind_shorter KV.Bool xs ys h = word_shorter (codes "bool") xs ys h
kind_shorter KV.Int xs ys h = word_shorter (codes "int") xs ys h
kind_shorter (KV.Float at) xs ys h = word_shorter (codes "float") xs ys h.0
kind_shorter KV.String xs ys h = word_shorter (codes "string") xs ys h
kind_shorter KV.Bytes xs ys h = word_shorter (codes "bytes") xs ys h
kind_shorter KV.List xs ys h = word_shorter (codes "list") xs ys h
kind_shorter KV.Map xs ys h = word_shorter (codes "map") xs ys h
kind_shorter KV.Link xs ys h = word_shorter (codes "link") xs ys h

pub mark_shorter : (m : Mark) (xs ys : List Sign) → IsMark m xs ys → length ys < length xs
mark_shorter (MV.Text t) xs ys h = text_shorter t xs ys h
mark_shorter (MV.Kind k) xs ys h = kind_shorter k xs ys h

pub member_shorter : (m : Member) (xs ys : List Sign) → IsMember m xs ys → length ys < length xs
member_shorter m xs ys h = omega (arith, word_shorter (codes "|") xs h.0 h.2, target_shorter m.target h.0 h.1 h.4, optional_no_longer IsMark mark_shorter m.mark h.1 ys h.5)

pub quoted_shorter : (t : Text) (xs ys : List Sign) → IsQuoted t xs ys → length ys < length xs
quoted_shorter t xs ys h = omega (arith, word_shorter (codes "(") xs h.0 h.2, text_shorter t h.0 h.1 h.3, word_shorter (codes ")") h.1 ys h.4)

pub enum_member_shorter : (m : EnumMember) (xs ys : List Sign) → IsEnumMember m xs ys → length ys < length xs
enum_member_shorter m xs ys h = omega (arith, word_shorter (codes "|") xs h.0 h.2, name_shorter m.name h.0 h.1 h.3, optional_no_longer IsQuoted quoted_shorter m.text h.1 ys h.4)

pub body_shorter : (b : Body) (xs ys : List Sign) → IsBody b xs ys → length ys < length xs
body_shorter (BV.Copy n) xs ys h = omega (arith, word_shorter (codes "=") xs h.0 h.1, type_shorter n h.0 ys h.2)
body_shorter BV.Bool xs ys h = word_shorter (codes "bool") xs ys h
body_shorter BV.String xs ys h = word_shorter (codes "string") xs ys h
body_shorter BV.Bytes xs ys h = word_shorter (codes "bytes") xs ys h
body_shorter BV.Int xs ys h = word_shorter (codes "int") xs ys h
body_shorter BV.Any xs ys h = word_shorter (codes "any") xs ys h
body_shorter (BV.Float at) xs ys h = word_shorter (codes "float") xs ys h.0
body_shorter (BV.Link n) xs ys h = omega (arith, word_shorter (codes "&") xs h.0 h.1, type_shorter n h.0 ys h.2)
body_shorter (BV.List r) xs ys h = omega (arith, word_shorter (codes "[") xs h.0 h.2, reference_shorter deepest r h.0 h.1 h.3, word_shorter (codes "]") h.1 ys h.4)
body_shorter (BV.Map m) xs ys h = omega (arith, word_shorter (codes "{") xs h.0 h.5, type_shorter m.key h.0 h.1 h.6, word_shorter (codes ":") h.1 h.2 h.7, reference_shorter deepest m.value h.2 h.3 h.8, word_shorter (codes "}") h.3 h.4 h.9, optional_no_longer (IsFormed IsMapForm) (formed_shorter IsMapForm map_form_shorter) m.form h.4 ys h.10)
body_shorter (BV.Struct b) xs ys h = omega (arith, word_shorter (codes "struct") xs h.0 h.2, braced_shorter IsField field_shorter b.fields h.0 h.1 h.3, optional_no_longer (IsFormed IsStructForm) (formed_shorter IsStructForm struct_form_shorter) b.form h.1 ys h.4)
body_shorter (BV.Union b) xs ys h = omega (arith, word_shorter (codes "union") xs h.0 h.2, braced_shorter IsMember member_shorter b.members h.0 h.1 h.3, formed_shorter IsUnionForm union_form_shorter b.form h.1 ys h.4)
body_shorter (BV.Enum b) xs ys h = omega (arith, word_shorter (codes "enum") xs h.0 h.2, braced_shorter IsEnumMember enum_member_shorter b.members h.0 h.1 h.3, optional_no_longer (IsFormed IsEnumForm) (formed_shorter IsEnumForm enum_form_shorter) b.form h.1 ys h.4)
body_shorter (BV.Unit f) xs ys h = omega (arith, word_shorter (codes "unit") xs h.0 h.1, formed_shorter IsUnitForm unit_form_shorter f h.0 ys h.2)

pub decl_shorter : (d : Decl) (xs ys : List Sign) → IsDecl d xs ys → length ys < length xs
decl_shorter (DV.Type d) xs ys h = omega (arith, word_shorter (codes "type") xs h.0 h.2, type_shorter d.name h.0 h.1 h.3, body_shorter d.body h.1 ys h.4)
decl_shorter (DV.Advanced n) xs ys h = omega (arith, word_shorter (codes "advanced") xs h.0 h.1, type_shorter n h.0 ys h.2)
