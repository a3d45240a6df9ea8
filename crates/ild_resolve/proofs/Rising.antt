-- The events of a derived tree stand in the order of its tokens, rule by rule.
use Rattle.std.proofs.Common.{◌≡◌, ℕ, ◌≤◌, Bool, true, false, List, [], ◌∷◌, ◌++◌, Option, Some, None, refl, sym, ◌∙◌, subst, append_assoc, inl, inr, arith}
use Rattle.std.specs.Prelude.{suc, codes}
use Rattle.std.specs.List.{flat_map}
use Rattle.std.proofs.lemmas.List.{append-nil}
use Rattle.ild_lex.specs.declared.token.Token.{Token}
use Rattle.ild_lex.specs.Lex.{Stop, Lexes, all_read}
use Rattle.ild_parse_grammar.specs.Sign.{Sign, signs_of}
use Rattle.ild_parse_grammar.specs.Reference.{Reference, refer, Refers, named, link, list, map}
use Rattle.ild_parse_grammar.specs.declared.ast.Ast.{Ast}
use Rattle.ild_parse_grammar.specs.declared.ast.TypeName.{TypeName}
use Rattle.ild_parse_grammar.specs.declared.ast.Name.{Name}
use Rattle.ild_parse_grammar.specs.declared.ast.Text.{Text}
use Rattle.ild_parse_grammar.specs.declared.ast.Number.{Number}
use Rattle.ild_parse_grammar.specs.declared.ast.Decl.{Decl}
use Rattle.ild_parse_grammar.specs.declared.ast.Decl.TheVariants as D
use Rattle.ild_parse_grammar.specs.declared.ast.Body.{Body}
use Rattle.ild_parse_grammar.specs.declared.ast.Body.TheVariants as B
use Rattle.ild_parse_grammar.specs.declared.ast.MapForm.{MapForm}
use Rattle.ild_parse_grammar.specs.declared.ast.MapForm.TheVariants as F
use Rattle.ild_parse_grammar.specs.declared.ast.StructForm.{StructForm}
use Rattle.ild_parse_grammar.specs.declared.ast.StructForm.TheVariants as S
use Rattle.ild_parse_grammar.specs.declared.ast.UnionForm.{UnionForm}
use Rattle.ild_parse_grammar.specs.declared.ast.UnionForm.TheVariants as U
use Rattle.ild_parse_grammar.specs.declared.ast.EnumForm.{EnumForm}
use Rattle.ild_parse_grammar.specs.declared.ast.EnumForm.TheVariants as E
use Rattle.ild_parse_grammar.specs.declared.ast.UnitForm.{UnitForm}
use Rattle.ild_parse_grammar.specs.declared.ast.UnitForm.TheVariants as N
use Rattle.ild_parse_grammar.specs.declared.ast.Field.{Field}
use Rattle.ild_parse_grammar.specs.declared.ast.Opt.{Opt}
use Rattle.ild_parse_grammar.specs.declared.ast.Opt.TheVariants as O
use Rattle.ild_parse_grammar.specs.declared.ast.Implicit.{Implicit}
use Rattle.ild_parse_grammar.specs.declared.ast.Implicit.TheVariants as I
use Rattle.ild_parse_grammar.specs.declared.ast.Member.{Member}
use Rattle.ild_parse_grammar.specs.declared.ast.Target.{Target}
use Rattle.ild_parse_grammar.specs.declared.ast.Target.TheVariants as T
use Rattle.ild_parse_grammar.specs.declared.ast.Mark.{Mark}
use Rattle.ild_parse_grammar.specs.declared.ast.Mark.TheVariants as M
use Rattle.ild_parse_grammar.specs.declared.ast.KindWord.TheVariants as K
use Rattle.ild_parse_grammar.specs.declared.ast.EnumMember.{EnumMember}
use Rattle.ild_parse_grammar.specs.Derive.{IsWord, IsTypeName, IsName, IsText, IsNumber, BeginsAt, IsOptionalWord, IsOptional, AreParts, AreBraced, IsFormed, IsReference, IsInline, deepest}
use Rattle.ild_parse_grammar.specs.DeriveForm.{IsSetting, IsOneSetting, AreBothSettings, AreTwoSettings, IsMapForm, IsStructForm, IsUnionForm, IsEnumForm, IsUnitForm}
use Rattle.ild_parse_grammar.specs.DerivePart.{IsImplicit, IsOpt, AreOpts, IsField, IsTarget, IsMark, IsMember, IsQuoted, IsEnumMember, IsBody, IsDecl, Derives}
use Rattle.ild_resolve.specs.Events.{Event, declares, begins, uses, advances, floats, part, reference_events, inline_events, map_form_events, field_events, target_events, mark_events, member_events, enum_member_events, each_events, body_events, decl_events, events_of}
use Rattle.ild_resolve.specs.Rise.{place_in, RiseFrom}

-- ---- tokens rise, and events with them

abbrev Ordered : ℕ → List Sign → Type 0
Ordered at [] = Unit {0}
Ordered at (t ∷ xs) = (at ≤ t.at) × Ordered t.at xs

-- wherever these tokens stand, the events are not before them
abbrev After : List Sign → List Event → Type 0
After xs es = (at : ℕ) → Ordered at xs → RiseFrom at es

-- the tokens xs, up to ys, tell these events
abbrev Tells : List Event → List Sign → List Sign → Type 0
Tells es xs ys = (more : List Event) → After ys more → After xs (es ++ more)

rise_before : (a b : ℕ) (es : List Event) → a ≤ b → RiseFrom b es → RiseFrom a es
rise_before a b [] le h = tt
rise_before a b (e ∷ es) le h = (omega (arith, le, h.0), h.1)

ordered_before : (a b : ℕ) (xs : List Sign) → a ≤ b → Ordered b xs → Ordered a xs
ordered_before a b [] le h = tt
ordered_before a b (t ∷ xs) le h = (omega (arith, le, h.0), h.1)

itself : (n : ℕ) → n ≤ n
itself n = omega arith

-- ---- one token, and one behind the other

nothing : (xs ys : List Sign) → xs ≡ ys → Tells [] xs ys
nothing xs ys e more k = subst (λ (zs : List Sign). After zs more) (sym e) k

passed : (t : Sign) (xs ys : List Sign) → xs ≡ ys → Tells [] (t ∷ xs) ys
passed t xs ys e more k at o = rise_before at t.at more o.0 (k t.at (subst (Ordered t.at) e o.1))

-- an event at the first token, and what these tokens tell
told_here : (e : Event) (at : ℕ) (es : List Event) (xs ys : List Sign) → place_in e ≡ at → BeginsAt at xs → Tells es xs ys → Tells (e ∷ es) xs ys
told_here e at es [] ys same b tell = absurd b
told_here e at es (t ∷ xs) ys same b tell = λ more k from o.
    let there : place_in e ≡ t.at = same ∙ b in
    (subst (λ (n : ℕ). from ≤ n) (sym there) o.0, subst (λ (n : ℕ). RiseFrom n (es ++ more)) (sym there) (tell more k t.at (itself t.at, o.1)))

joined : (es fs : List Event) (xs us ys : List Sign) → Tells es xs us → Tells fs us ys → Tells (es ++ fs) xs ys
joined es fs xs us ys f g more k = subst (After xs) (sym (append_assoc es fs more)) (f (fs ++ more) (g more k))

then_quiet : (es : List Event) (xs us ys : List Sign) → Tells es xs us → Tells [] us ys → Tells es xs ys
then_quiet es xs us ys f g more k = f more (g more k)

quiet_then : (es : List Event) (xs us ys : List Sign) → Tells [] xs us → Tells es us ys → Tells es xs ys
quiet_then es xs us ys f g more k = f (es ++ more) (g more k)

-- ---- words, names, texts and numbers

word : (w : List ℕ) (xs ys : List Sign) → IsWord w xs ys → Tells [] xs ys
word w [] ys h = absurd h
word w (t ∷ xs) ys h = passed t xs ys h.2

type_begins : (n : TypeName) (xs ys : List Sign) → IsTypeName n xs ys → BeginsAt n.at xs
type_begins n [] ys h = absurd h
type_begins n (t ∷ xs) ys h = h.1

type_passed : (n : TypeName) (xs ys : List Sign) → IsTypeName n xs ys → Tells [] xs ys
type_passed n [] ys h = absurd h
type_passed n (t ∷ xs) ys h = passed t xs ys h.3

type_told : (e : Event) (n : TypeName) (xs ys : List Sign) → place_in e ≡ n.at → IsTypeName n xs ys → Tells (e ∷ []) xs ys
type_told e n xs ys same h = told_here e n.at [] xs ys same (type_begins n xs ys h) (type_passed n xs ys h)

name_begins : (n : Name) (xs ys : List Sign) → IsName n xs ys → BeginsAt n.at xs
name_begins n [] ys h = absurd h
name_begins n (t ∷ xs) ys h = h.1

name_passed : (n : Name) (xs ys : List Sign) → IsName n xs ys → Tells [] xs ys
name_passed n [] ys h = absurd h
name_passed n (t ∷ xs) ys h = passed t xs ys h.3

part_told : (n : Name) (before : ℕ) (xs ys : List Sign) → IsName n xs ys → Tells (part n.at before ∷ []) xs ys
part_told n before xs ys h = told_here (part n.at before) n.at [] xs ys refl (name_begins n xs ys h) (name_passed n xs ys h)

text : (x : Text) (xs ys : List Sign) → IsText x xs ys → Tells [] xs ys
text x [] ys h = absurd h
text x (t ∷ xs) ys h = passed t xs ys h.3

number : (n : Number) (xs ys : List Sign) → IsNumber n xs ys → Tells [] xs ys
number n [] ys h = absurd h
number n (t ∷ xs) ys h = passed t xs ys h.3

optional_word : (w : List ℕ) (b : Bool) (xs ys : List Sign) → IsOptionalWord w b xs ys → Tells [] xs ys
optional_word w true xs ys h = word w xs ys h
optional_word w false xs ys h = nothing xs ys h

-- ---- parts without events

abbrev IsQuiet : {A : Type 0} → (A → List Sign → List Sign → Type 0) → Type 0
IsQuiet {A} is = (a : A) (xs ys : List Sign) → is a xs ys → Tells [] xs ys

parts_quiet : {A : Type 0} (is : A → List Sign → List Sign → Type 0) → IsQuiet is → (all : List A) (xs ys : List Sign) → AreParts is all xs ys → Tells [] xs ys
parts_quiet is each [] xs ys h = nothing xs ys h
parts_quiet is each (a ∷ all) xs ys h = quiet_then [] xs h.0 ys (each a xs h.0 h.1) (parts_quiet is each all h.0 ys h.2)

optional_quiet : {A : Type 0} (is : A → List Sign → List Sign → Type 0) → IsQuiet is → (a : Option A) (xs ys : List Sign) → IsOptional is a xs ys → Tells [] xs ys
optional_quiet is each None xs ys h = nothing xs ys h
optional_quiet is each (Some a) xs ys h = each a xs ys h

formed_quiet : {A : Type 0} (is : A → List Sign → List Sign → Type 0) → IsQuiet is → (a : A) (xs ys : List Sign) → IsFormed is a xs ys → Tells [] xs ys
formed_quiet is each a xs ys h = quiet_then [] xs h.0 ys (word (codes "representation") xs h.0 h.1) (each a h.0 ys h.2)

-- a word and a quiet part
after_word : (w : List ℕ) (es : List Event) (xs us ys : List Sign) → IsWord w xs us → Tells es us ys → Tells es xs ys
after_word w es xs us ys h f = quiet_then es xs us ys (word w xs us h) f

before_word : (w : List ℕ) (es : List Event) (xs us ys : List Sign) → Tells es xs us → IsWord w us ys → Tells es xs ys
before_word w es xs us ys f h = then_quiet es xs us ys f (word w us ys h)

setting : (key : List ℕ) (x : Text) (xs ys : List Sign) → IsSetting key x xs ys → Tells [] xs ys
setting key x xs ys h = after_word key [] xs h.0 ys h.1 (text x h.0 ys h.2)

one_setting : (key : List ℕ) (x : Text) (xs ys : List Sign) → IsOneSetting key x xs ys → Tells [] xs ys
one_setting key x xs ys h = after_word (codes "{") [] xs h.0 ys h.2 (before_word (codes "}") [] h.0 h.1 ys (setting key x h.0 h.1 h.3) h.4)

both_settings : (a b : List ℕ) (x y : Text) (xs ys : List Sign) → AreBothSettings a b x y xs ys → Tells [] xs ys
both_settings a b x y xs ys (inl h) = quiet_then [] xs h.0 ys (setting a x xs h.0 h.1) (setting b y h.0 ys h.2)
both_settings a b x y xs ys (inr h) = quiet_then [] xs h.0 ys (setting b y xs h.0 h.1) (setting a x h.0 ys h.2)

two_settings : (a b : List ℕ) (x y : Text) (xs ys : List Sign) → AreTwoSettings a b x y xs ys → Tells [] xs ys
two_settings a b x y xs ys h = after_word (codes "{") [] xs h.0 ys h.2 (before_word (codes "}") [] h.0 h.1 ys (both_settings a b x y h.0 h.1 h.3) h.4)

struct_form : (f : StructForm) (xs ys : List Sign) → IsStructForm f xs ys → Tells [] xs ys
struct_form S.Map xs ys h = word (codes "map") xs ys h
struct_form S.Tuple xs ys h = word (codes "tuple") xs ys h
struct_form S.ListPairs xs ys h = word (codes "listpairs") xs ys h
struct_form (S.StringPairs p) xs ys h = after_word (codes "stringpairs") [] xs h.0 ys h.1 (two_settings (codes "innerDelim") (codes "entryDelim") p.inner p.entry h.0 ys h.2)
struct_form (S.StringJoin t) xs ys h = after_word (codes "stringjoin") [] xs h.0 ys h.1 (one_setting (codes "join") t h.0 ys h.2)

union_form : (f : UnionForm) (xs ys : List Sign) → IsUnionForm f xs ys → Tells [] xs ys
union_form U.Keyed xs ys h = word (codes "keyed") xs ys h
union_form U.Kinded xs ys h = word (codes "kinded") xs ys h
union_form U.StringPrefix xs ys h = word (codes "stringprefix") xs ys h
union_form U.BytesPrefix xs ys h = word (codes "bytesprefix") xs ys h
union_form (U.Envelope e) xs ys h = after_word (codes "envelope") [] xs h.0 ys h.1 (two_settings (codes "discriminantKey") (codes "contentKey") e.discriminant e.content h.0 ys h.2)
union_form (U.Inline t) xs ys h = after_word (codes "inline") [] xs h.0 ys h.1 (one_setting (codes "discriminantKey") t h.0 ys h.2)

enum_form : (f : EnumForm) (xs ys : List Sign) → IsEnumForm f xs ys → Tells [] xs ys
enum_form E.String xs ys h = word (codes "string") xs ys h
enum_form E.Int xs ys h = word (codes "int") xs ys h

unit_form : (f : UnitForm) (xs ys : List Sign) → IsUnitForm f xs ys → Tells [] xs ys
unit_form N.Null xs ys h = word (codes "null") xs ys h
unit_form N.True xs ys h = word (codes "true") xs ys h
unit_form N.False xs ys h = word (codes "false") xs ys h
unit_form N.EmptyMap xs ys h = word (codes "emptymap") xs ys h

implicit : (v : Implicit) (xs ys : List Sign) → IsImplicit v xs ys → Tells [] xs ys
implicit (I.Text t) xs ys h = text t xs ys h
implicit (I.Number n) xs ys h = number n xs ys h
implicit I.True xs ys h = word (codes "true") xs ys h
implicit I.False xs ys h = word (codes "false") xs ys h

opt : (o : Opt) (xs ys : List Sign) → IsOpt o xs ys → Tells [] xs ys
opt (O.Rename t) xs ys h = after_word (codes "rename") [] xs h.0 ys h.1 (text t h.0 ys h.2)
opt (O.Implicit v) xs ys h = after_word (codes "implicit") [] xs h.0 ys h.1 (implicit v h.0 ys h.2)

opts : (os : List Opt) (xs ys : List Sign) → AreOpts os xs ys → Tells [] xs ys
opts [] xs ys h = nothing xs ys h
opts (o ∷ os) xs ys h = after_word (codes "(") [] xs h.0 ys h.2 (before_word (codes ")") [] h.0 h.1 ys (parts_quiet IsOpt opt (o ∷ os) h.0 h.1 h.3) h.4)

quoted : (t : Text) (xs ys : List Sign) → IsQuoted t xs ys → Tells [] xs ys
quoted t xs ys h = after_word (codes "(") [] xs h.0 ys h.2 (before_word (codes ")") [] h.0 h.1 ys (text t h.0 h.1 h.3) h.4)

-- ---- references

mutual
  reference : (room : ℕ) (r : Reference) (xs ys : List Sign) → IsReference room r xs ys → Tells (reference_events r) xs ys
  reference room (refer at nullable type_at r) xs ys h =
      quiet_then (inline_events type_at r) xs h.0 ys (optional_word (codes "nullable") nullable xs h.0 h.1) (inline room type_at r h.0 ys h.3 h.4)

  inline : (room at : ℕ) (r : Refers) (xs ys : List Sign) → BeginsAt at xs → IsInline room r xs ys → Tells (inline_events at r) xs ys
  inline room at (named n) xs ys b h = type_told (uses n) n xs ys refl h
  inline room at (link n) xs ys b h =
      told_here (begins at) at (uses n ∷ []) xs ys refl b (after_word (codes "&") (uses n ∷ []) xs h.2.0 ys h.2.1 (type_told (uses n) n h.2.0 ys refl h.2.2))
  inline room at (list r) xs ys b h =
      told_here (begins at) at (reference_events r) xs ys refl b
      (after_word (codes "[") (reference_events r) xs h.2.0 ys h.2.2 (before_word (codes "]") (reference_events r) h.2.0 h.2.1 ys (reference h.0 r h.2.0 h.2.1 h.2.3) h.2.4))
  inline room at (map k r) xs ys b h =
      let value = before_word (codes "}") (reference_events r) h.2.2 h.2.3 ys (reference h.0 r h.2.2 h.2.3 h.2.7) h.2.8 in
      let behind = after_word (codes ":") (reference_events r) h.2.1 h.2.2 ys h.2.6 value in
      told_here (begins at) at (uses k ∷ reference_events r) xs ys refl b
      (after_word (codes "{") (uses k ∷ reference_events r) xs h.2.0 ys h.2.4 (joined (uses k ∷ []) (reference_events r) h.2.0 h.2.1 ys (type_told (uses k) k h.2.0 h.2.1 refl h.2.5) behind))

-- ---- fields and members

abbrev AreTold : {A : Type 0} → (A → List Sign → List Sign → Type 0) → (ℕ → A → List Event) → Type 0
AreTold {A} is events = (before : ℕ) (a : A) (xs ys : List Sign) → is a xs ys → Tells (events before a) xs ys

parts : {A : Type 0} (is : A → List Sign → List Sign → Type 0) (events : ℕ → A → List Event) → AreTold is events
    → (before : ℕ) (all : List A) (xs ys : List Sign) → AreParts is all xs ys → Tells (each_events events before all) xs ys
parts is events each before [] xs ys h = nothing xs ys h
parts is events each before (a ∷ all) xs ys h =
    joined (events before a) (each_events events (suc before) all) xs h.0 ys (each before a xs h.0 h.1) (parts is events each (suc before) all h.0 ys h.2)

braced : {A : Type 0} (is : A → List Sign → List Sign → Type 0) (events : ℕ → A → List Event) → AreTold is events
    → (all : List A) (xs ys : List Sign) → AreBraced is all xs ys → Tells (each_events events 0 all) xs ys
braced is events each all xs ys h =
    after_word (codes "{") (each_events events 0 all) xs h.0 ys h.2 (before_word (codes "}") (each_events events 0 all) h.0 h.1 ys (parts is events each 0 all h.0 h.1 h.3) h.4)

field : (before : ℕ) (f : Field) (xs ys : List Sign) → IsField f xs ys → Tells (field_events before f) xs ys
field before f xs ys h =
    let value = then_quiet (reference_events f.value) h.1 h.2 ys (reference deepest f.value h.1 h.2 h.5) (opts f.opts h.2 ys h.6) in
    let behind = quiet_then (reference_events f.value) h.0 h.1 ys (optional_word (codes "optional") f.optional h.0 h.1 h.4) value in
    joined (part f.name.at before ∷ []) (reference_events f.value) xs h.0 ys (part_told f.name before xs h.0 h.3) behind

target : (at : ℕ) (t : Target) (xs ys : List Sign) → BeginsAt at xs → IsTarget t xs ys → Tells (target_events at t) xs ys
target at (T.Type n) xs ys b h = type_told (uses n) n xs ys refl h
target at (T.Link n) xs ys b h =
    told_here (begins at) at (uses n ∷ []) xs ys refl b (after_word (codes "&") (uses n ∷ []) xs h.0 ys h.1 (type_told (uses n) n h.0 ys refl h.2))

mark : (m : Option Mark) (xs ys : List Sign) → IsOptional IsMark m xs ys → Tells (mark_events m) xs ys
mark None xs ys h = nothing xs ys h
mark (Some (M.Text t)) xs ys h = text t xs ys h
mark (Some (M.Kind K.Null)) xs ys h = word (codes "null") xs ys h
mark (Some (M.Kind K.Bool)) xs ys h = word (codes "bool") xs ys h
mark (Some (M.Kind K.Int)) xs ys h = word (codes "int") xs ys h
mark (Some (M.Kind (K.Float at))) xs ys h = told_here (floats at) at [] xs ys refl h.1 (word (codes "float") xs ys h.0)
mark (Some (M.Kind K.String)) xs ys h = word (codes "string") xs ys h
mark (Some (M.Kind K.Bytes)) xs ys h = word (codes "bytes") xs ys h
mark (Some (M.Kind K.List)) xs ys h = word (codes "list") xs ys h
mark (Some (M.Kind K.Map)) xs ys h = word (codes "map") xs ys h
mark (Some (M.Kind K.Link)) xs ys h = word (codes "link") xs ys h

member : (before : ℕ) (m : Member) (xs ys : List Sign) → IsMember m xs ys → Tells (member_events before m) xs ys
member before m xs ys h =
    let behind : List Event = target_events m.at m.target ++ mark_events m.mark in
    let told = joined (target_events m.at m.target) (mark_events m.mark) h.0 h.1 ys (target m.at m.target h.0 h.1 h.3 h.4) (mark m.mark h.1 ys h.5) in
    after_word (codes "|") (part m.at before ∷ behind) xs h.0 ys h.2 (told_here (part m.at before) m.at behind h.0 ys refl h.3 told)

enum_member : (before : ℕ) (m : EnumMember) (xs ys : List Sign) → IsEnumMember m xs ys → Tells (enum_member_events before m) xs ys
enum_member before m xs ys h =
    let told : List Event = part m.name.at before ∷ [] in
    after_word (codes "|") told xs h.0 ys h.2 (then_quiet told h.0 h.1 ys (part_told m.name before h.0 h.1 h.3) (optional_quiet IsQuoted quoted m.text h.1 ys h.4))

-- ---- bodies and declarations

map_form : (f : Option MapForm) (xs ys : List Sign) → IsOptional (IsFormed IsMapForm) f xs ys → Tells (map_form_events f) xs ys
map_form None xs ys h = nothing xs ys h
map_form (Some F.Map) xs ys h = after_word (codes "representation") [] xs h.0 ys h.1 (word (codes "map") h.0 ys h.2)
map_form (Some F.ListPairs) xs ys h = after_word (codes "representation") [] xs h.0 ys h.1 (word (codes "listpairs") h.0 ys h.2)
map_form (Some (F.StringPairs p)) xs ys h =
    after_word (codes "representation") [] xs h.0 ys h.1 (after_word (codes "stringpairs") [] h.0 h.2.0 ys h.2.1 (two_settings (codes "innerDelim") (codes "entryDelim") p.inner p.entry h.2.0 ys h.2.2))
map_form (Some (F.Advanced n)) xs ys h =
    after_word (codes "representation") (advances n ∷ []) xs h.0 ys h.1 (after_word (codes "advanced") (advances n ∷ []) h.0 h.2.0 ys h.2.1 (type_told (advances n) n h.2.0 ys refl h.2.2))

body : (b : Body) (xs ys : List Sign) → IsBody b xs ys → Tells (body_events b) xs ys
body (B.Copy n) xs ys h = after_word (codes "=") (uses n ∷ []) xs h.0 ys h.1 (type_told (uses n) n h.0 ys refl h.2)
body B.Bool xs ys h = word (codes "bool") xs ys h
body B.String xs ys h = word (codes "string") xs ys h
body B.Bytes xs ys h = word (codes "bytes") xs ys h
body B.Int xs ys h = word (codes "int") xs ys h
body (B.Float at) xs ys h = told_here (floats at) at [] xs ys refl h.1 (word (codes "float") xs ys h.0)
body B.Any xs ys h = word (codes "any") xs ys h
body (B.Link n) xs ys h = after_word (codes "&") (uses n ∷ []) xs h.0 ys h.1 (type_told (uses n) n h.0 ys refl h.2)
body (B.List r) xs ys h =
    after_word (codes "[") (reference_events r) xs h.0 ys h.2 (before_word (codes "]") (reference_events r) h.0 h.1 ys (reference deepest r h.0 h.1 h.3) h.4)
body (B.Map m) xs ys h =
    let values : List Event = reference_events m.value in
    let rest : List Event = values ++ map_form_events m.form in
    let value = before_word (codes "}") values h.2 h.3 h.4 (reference deepest m.value h.2 h.3 h.8) h.9 in
    let behind = joined values (map_form_events m.form) h.2 h.4 ys value (map_form m.form h.4 ys h.10) in
    after_word (codes "{") (uses m.key ∷ rest) xs h.0 ys h.5
    (joined (uses m.key ∷ []) rest h.0 h.1 ys (type_told (uses m.key) m.key h.0 h.1 refl h.6) (after_word (codes ":") rest h.1 h.2 ys h.7 behind))
body (B.Struct s) xs ys h =
    let told = each_events field_events 0 s.fields in
    after_word (codes "struct") told xs h.0 ys h.2 (then_quiet told h.0 h.1 ys (braced IsField field_events field s.fields h.0 h.1 h.3) (optional_quiet (IsFormed IsStructForm) (formed_quiet IsStructForm struct_form) s.form h.1 ys h.4))
body (B.Union u) xs ys h =
    let told = each_events member_events 0 u.members in
    after_word (codes "union") told xs h.0 ys h.2 (then_quiet told h.0 h.1 ys (braced IsMember member_events member u.members h.0 h.1 h.3) (formed_quiet IsUnionForm union_form u.form h.1 ys h.4))
body (B.Enum e) xs ys h =
    let told = each_events enum_member_events 0 e.members in
    after_word (codes "enum") told xs h.0 ys h.2 (then_quiet told h.0 h.1 ys (braced IsEnumMember enum_member_events enum_member e.members h.0 h.1 h.3) (optional_quiet (IsFormed IsEnumForm) (formed_quiet IsEnumForm enum_form) e.form h.1 ys h.4))
body (B.Unit f) xs ys h = after_word (codes "unit") [] xs h.0 ys h.1 (formed_quiet IsUnitForm unit_form f h.0 ys h.2)

decl : (d : Decl) (xs ys : List Sign) → IsDecl d xs ys → Tells (decl_events d) xs ys
decl (D.Type d) xs ys h =
    after_word (codes "type") (declares d.name ∷ body_events d.body) xs h.0 ys h.2
    (joined (declares d.name ∷ []) (body_events d.body) h.0 h.1 ys (type_told (declares d.name) d.name h.0 h.1 refl h.3) (body d.body h.1 ys h.4))
decl (D.Advanced n) xs ys h = after_word (codes "advanced") (advances n ∷ []) xs h.0 ys h.1 (type_told (advances n) n h.0 ys refl h.2)

decls : (ds : List Decl) (xs ys : List Sign) → AreParts IsDecl ds xs ys → Tells (flat_map decl_events ds) xs ys
decls [] xs ys h = nothing xs ys h
decls (d ∷ ds) xs ys h = joined (decl_events d) (flat_map decl_events ds) xs h.0 ys (decl d xs h.0 h.1) (decls ds h.0 ys h.2)

-- ---- the tokens of a text

lexed : (src : List ℕ) (at : ℕ) (bytes : List ℕ) (ts : List Token) (stop : Stop) → Lexes at bytes ts stop → Ordered at (signs_of src ts)
lexed src at bytes [] stop h = tt
lexed src at bytes (t ∷ ts) stop h = (omega (arith, h.6), ordered_before t.at t.end (signs_of src ts) (omega (arith, h.7)) (lexed src t.end h.2 ts stop h.8))

pub events_rise_lem : (src : List ℕ) (tokens : List Token) (ast : Ast) → Lexes 0 src tokens all_read → Derives src tokens ast → RiseFrom 0 (events_of ast)
events_rise_lem src tokens ast lexes derived =
    let told : After (signs_of src tokens) (events_of ast ++ []) = decls ast.decls (signs_of src tokens) [] derived [] (λ at o. tt) in
    subst (RiseFrom 0) (append-nil (events_of ast)) (told 0 (lexed src 0 src tokens all_read lexes))
