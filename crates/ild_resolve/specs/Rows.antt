-- The rows of the declared types and of their inline types, in the order in which they begin. `numbers` says for which
-- numbers names stand (one that stands for none is refused), and n is the number of the next type.
use Rattle.std.specs.Prelude.{ℕ, suc, ◌+◌, List, [], ◌∷◌, ◌++◌, Option, None, codes, length}
use Rattle.std.specs.Option.{unwrap_or}
use Rattle.ild_parse_grammar.specs.Reference.{Reference, refer, Refers, named, link, list, map}
use Rattle.ild_parse_grammar.specs.declared.ast.Decl.{Decl}
use Rattle.ild_parse_grammar.specs.declared.ast.Decl.TheVariants as A
use Rattle.ild_parse_grammar.specs.declared.ast.Body.{Body}
use Rattle.ild_parse_grammar.specs.declared.ast.Body.TheVariants as B
use Rattle.ild_parse_grammar.specs.declared.ast.Field.{Field as AstField}
use Rattle.ild_parse_grammar.specs.declared.ast.Member.{Member as AstMember}
use Rattle.ild_parse_grammar.specs.declared.ast.Target.{Target}
use Rattle.ild_parse_grammar.specs.declared.ast.Target.TheVariants as T
use Rattle.ild_parse_grammar.specs.declared.ast.TypeName.{TypeName}
use Rattle.ild_schema.specs.Prelude.{number}
use Rattle.ild_schema.specs.declared.number.TypeNo.{TypeNo}
use Rattle.ild_schema.specs.declared.number.Slot.{Slot}
use Rattle.ild_schema.specs.declared.def.TypeDef.{TypeDef}
use Rattle.ild_schema.specs.declared.def.TypeDef.TheVariants as D
use Rattle.ild_schema.specs.declared.def.MapForm.TheVariants as M
use Rattle.ild_schema.specs.declared.def.Field.{Field}
use Rattle.ild_schema.specs.declared.def.Member.{Member}
use Rattle.ild_schema.specs.declared.row.Row.{Row}
use Rattle.ild_schema.specs.declared.row.Origin.TheVariants as O
use Rattle.ild_resolve.specs.Forms.{map_form, struct_form, union_form, enum_form, unit_form, renamed, implied, mark_of, enum_members}

module _ (numbers : List ℕ → Option ℕ) where
  abbrev pub type_of : TypeName → TypeNo
  type_of t = number (unwrap_or (numbers t.name) 0)

  -- a bare name is the type that it names; every other inline type is the next one
  abbrev pub type_in : ℕ → Refers → TypeNo
  type_in n (named t) = type_of t
  type_in n r = number n

  abbrev pub slot : ℕ → Reference → Slot
  slot n (refer at nullable type_at r) = record { ty = type_in n r; nullable = nullable }

  -- the place of the first token, `nullable` where it stands
  abbrev pub first_token : Reference → ℕ
  first_token (refer at nullable type_at r) = at

  abbrev pub inline : List ℕ → TypeDef → ℕ → Row
  inline name def at = record { def = def; name = name; at = at; origin = O.Inline }

  -- the inline types of a reference, an outer one before those inside it
  abbrev mutual
    pub reference_rows : ℕ → Reference → List Row
    reference_rows n (refer at nullable type_at r) = inline_rows n type_at r

    pub inline_rows : ℕ → ℕ → Refers → List Row
    inline_rows n at (named t) = []
    inline_rows n at (link t) = inline [] (D.Link (type_of t)) at ∷ []
    inline_rows n at (list r) = inline [] (D.List (slot (suc n) r) (first_token r)) at ∷ reference_rows (suc n) r
    inline_rows n at (map k r) = inline [] (D.Map (type_of k) k.at (slot (suc n) r) (first_token r) M.Map) at ∷ reference_rows (suc n) r

  -- ---- fields, each behind the inline types of those before it

  abbrev pub field : ℕ → AstField → Field
  field n f = record { name = f.name.name; at = f.name.at; optional = f.optional; slot = slot n f.value; rename = renamed None f.opts; implicit = implied None f.opts }

  abbrev pub fields : ℕ → List AstField → List Field
  fields n [] = []
  fields n (f ∷ fs) = field n f ∷ fields (n + length (reference_rows n f.value)) fs

  abbrev pub field_rows : ℕ → List AstField → List Row
  field_rows n [] = []
  field_rows n (f ∷ fs) = reference_rows n f.value ++ field_rows (n + length (reference_rows n f.value)) fs

  -- ---- members: `&T` is an inline type of that name

  abbrev pub link_name : TypeName → List ℕ
  link_name t = codes "&" ++ t.name

  abbrev pub target_name : Target → List ℕ
  target_name (T.Type t) = t.name
  target_name (T.Link t) = link_name t

  abbrev pub target_type : ℕ → Target → TypeNo
  target_type n (T.Type t) = type_of t
  target_type n (T.Link t) = number n

  abbrev pub target_rows : ℕ → Target → List Row
  target_rows at (T.Type t) = []
  target_rows at (T.Link t) = inline (link_name t) (D.Link (type_of t)) at ∷ []

  abbrev pub member : ℕ → AstMember → Member
  member n m = record { name = target_name m.target; at = m.at; ty = target_type n m.target; mark = mark_of m.mark }

  abbrev pub members : ℕ → List AstMember → List Member
  members n [] = []
  members n (m ∷ ms) = member n m ∷ members (n + length (target_rows m.at m.target)) ms

  abbrev pub member_rows : List AstMember → List Row
  member_rows [] = []
  member_rows (m ∷ ms) = target_rows m.at m.target ++ member_rows ms

  -- ---- declarations

  abbrev pub body_def : ℕ → Body → TypeDef
  body_def n (B.Copy t) = D.Copy (type_of t)
  body_def n B.Bool = D.Bool
  body_def n B.String = D.Text
  body_def n B.Bytes = D.Bytes
  body_def n B.Int = D.Int
  body_def n (B.Float at) = D.Any  -- it is refused
  body_def n B.Any = D.Any
  body_def n (B.Link t) = D.Link (type_of t)
  body_def n (B.List r) = D.List (slot n r) (first_token r)
  body_def n (B.Map m) = D.Map (type_of m.key) m.key.at (slot n m.value) (first_token m.value) (map_form m.form)
  body_def n (B.Struct s) = D.Struct (record { fields = fields n s.fields; form = struct_form s.form })
  body_def n (B.Union u) = D.Union (record { members = members n u.members; form = union_form u.form })
  body_def n (B.Enum e) = D.Enum (record { members = enum_members e.members; form = enum_form e.form })
  body_def n (B.Unit u) = D.Unit (unit_form u)

  abbrev pub body_rows : ℕ → Body → List Row
  body_rows n (B.List r) = reference_rows n r
  body_rows n (B.Map m) = reference_rows n m.value
  body_rows n (B.Struct s) = field_rows n s.fields
  body_rows n (B.Union u) = member_rows u.members
  body_rows n body = []

  abbrev pub decl_rows : ℕ → Decl → List Row
  decl_rows n (A.Type d) = record { def = body_def (suc n) d.body; name = d.name.name; at = d.name.at; origin = O.Declared } ∷ body_rows (suc n) d.body
  decl_rows n (A.Advanced t) = []

  abbrev pub decls_rows : ℕ → List Decl → List Row
  decls_rows n [] = []
  decls_rows n (d ∷ ds) = decl_rows n d ++ decls_rows (n + length (decl_rows n d)) ds
