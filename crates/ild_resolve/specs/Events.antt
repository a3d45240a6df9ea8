-- What the text of a schema says that resolving looks at, in the order of the text.
use Rattle.std.specs.Prelude.{ℕ, suc, List, [], ◌∷◌, ◌++◌, Option, Some}
use Rattle.std.specs.List.{flat_map}
use Rattle.ild_parse_grammar.specs.Reference.{Reference, refer, Refers, named, link, list, map}
use Rattle.ild_parse_grammar.specs.declared.ast.Ast.{Ast}
use Rattle.ild_parse_grammar.specs.declared.ast.Decl.{Decl}
use Rattle.ild_parse_grammar.specs.declared.ast.Decl.TheVariants as A
use Rattle.ild_parse_grammar.specs.declared.ast.Body.{Body}
use Rattle.ild_parse_grammar.specs.declared.ast.Body.TheVariants as B
use Rattle.ild_parse_grammar.specs.declared.ast.MapForm.{MapForm}
use Rattle.ild_parse_grammar.specs.declared.ast.MapForm.TheVariants as F
use Rattle.ild_parse_grammar.specs.declared.ast.Field.{Field}
use Rattle.ild_parse_grammar.specs.declared.ast.Member.{Member}
use Rattle.ild_parse_grammar.specs.declared.ast.Target.{Target}
use Rattle.ild_parse_grammar.specs.declared.ast.Target.TheVariants as T
use Rattle.ild_parse_grammar.specs.declared.ast.Mark.{Mark}
use Rattle.ild_parse_grammar.specs.declared.ast.Mark.TheVariants as M
use Rattle.ild_parse_grammar.specs.declared.ast.KindWord.TheVariants as K
use Rattle.ild_parse_grammar.specs.declared.ast.EnumMember.{EnumMember}
use Rattle.ild_parse_grammar.specs.declared.ast.TypeName.{TypeName}

pub data Event : Type 0 where
  -- a type is declared
  declares : TypeName → Event
  -- an inline type begins at this place
  begins : ℕ → Event
  -- a type is named
  uses : TypeName → Event
  -- a name stands behind `advanced`
  advances : TypeName → Event
  -- the word `float` stands at this place, as a body or a kind
  floats : ℕ → Event
  -- a field or a member begins at this place, behind so many others of its type
  part : ℕ → ℕ → Event

-- an inline type that is no bare name begins at its first token, and then come its parts
abbrev mutual
  pub reference_events : Reference → List Event
  reference_events (refer at nullable type_at r) = inline_events type_at r

  pub inline_events : ℕ → Refers → List Event
  inline_events at (named t) = uses t ∷ []
  inline_events at (link t) = begins at ∷ uses t ∷ []
  inline_events at (list r) = begins at ∷ reference_events r
  inline_events at (map k r) = begins at ∷ uses k ∷ reference_events r

abbrev pub map_form_events : Option MapForm → List Event
map_form_events (Some (F.Advanced t)) = advances t ∷ []
map_form_events form = []

abbrev pub field_events : ℕ → Field → List Event
field_events before f = part f.name.at before ∷ reference_events f.value

-- a member `&T` is an inline type
abbrev pub target_events : ℕ → Target → List Event
target_events at (T.Type t) = uses t ∷ []
target_events at (T.Link t) = begins at ∷ uses t ∷ []

abbrev pub mark_events : Option Mark → List Event
mark_events (Some (M.Kind (K.Float at))) = floats at ∷ []
mark_events mark = []

abbrev pub member_events : ℕ → Member → List Event
member_events before m = part m.at before ∷ target_events m.at m.target ++ mark_events m.mark

abbrev pub enum_member_events : ℕ → EnumMember → List Event
enum_member_events before m = part m.name.at before ∷ []

-- the events of parts, each with the number of those before it
abbrev pub each_events : {A : Type 0} → (ℕ → A → List Event) → ℕ → List A → List Event
each_events events before [] = []
each_events events before (a ∷ more) = events before a ++ each_events events (suc before) more

abbrev pub body_events : Body → List Event
body_events (B.Copy t) = uses t ∷ []
body_events (B.Float at) = floats at ∷ []
body_events (B.Link t) = uses t ∷ []
body_events (B.List r) = reference_events r
body_events (B.Map m) = uses m.key ∷ reference_events m.value ++ map_form_events m.form
body_events (B.Struct s) = each_events field_events 0 s.fields
body_events (B.Union u) = each_events member_events 0 u.members
body_events (B.Enum e) = each_events enum_member_events 0 e.members
body_events body = []

abbrev pub decl_events : Decl → List Event
decl_events (A.Type d) = declares d.name ∷ body_events d.body
decl_events (A.Advanced t) = advances t ∷ []

abbrev pub events_of : Ast → List Event
events_of ast = flat_map decl_events ast.decls

-- how many types begin there
abbrev pub types_in : List Event → ℕ
types_in [] = 0
types_in (declares t ∷ es) = suc (types_in es)
types_in (begins at ∷ es) = suc (types_in es)
types_in (e ∷ es) = types_in es
