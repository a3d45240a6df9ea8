-- The types that begin, each with the name by which a text can use it: the text and its rows have the same.
use Rattle.std.proofs.Common.{◌≡◌, ℕ, suc, ◌+◌, List, [], ◌∷◌, ◌++◌, Option, Some, None, length, map, refl, ap, sym, ◌∙◌}
use Rattle.std.specs.List.{flat_map}
use Rattle.std.proofs.lemmas.List.{map-append, append-nil}
use Rattle.ild_parse_grammar.specs.Reference.{Reference, refer, Refers, named, link, list, map as map_to}
use Rattle.ild_parse_grammar.specs.declared.ast.Decl.{Decl}
use Rattle.ild_parse_grammar.specs.declared.ast.Decl.TheVariants as A
use Rattle.ild_parse_grammar.specs.declared.ast.Body.{Body}
use Rattle.ild_parse_grammar.specs.declared.ast.Body.TheVariants as B
use Rattle.ild_parse_grammar.specs.declared.ast.MapForm.{MapForm}
use Rattle.ild_parse_grammar.specs.declared.ast.MapForm.TheVariants as F
use Rattle.ild_parse_grammar.specs.declared.ast.Field.{Field}
use Rattle.ild_parse_grammar.specs.declared.ast.Member.{Member}
use Rattle.ild_parse_grammar.specs.declared.ast.Target.{Target}
use Rattle.ild_parse_grammar.specs.declared.ast.Target.TheVariants as T
use Rattle.ild_parse_grammar.specs.declared.ast.Mark.{Mark}
use Rattle.ild_parse_grammar.specs.declared.ast.Mark.TheVariants as M
use Rattle.ild_parse_grammar.specs.declared.ast.KindWord.TheVariants as K
use Rattle.ild_parse_grammar.specs.declared.ast.EnumMember.{EnumMember}
pub use Rattle.ild_schema.specs.Names.{open_name}
use Rattle.ild_schema.specs.declared.row.Row.{Row}
use Rattle.ild_resolve.specs.Events.{Event, declares, begins, reference_events, inline_events, map_form_events, field_events, target_events, mark_events, member_events, enum_member_events, each_events, body_events, decl_events}
use Rattle.ild_resolve.specs.Rows.{reference_rows, inline_rows, field_rows, target_rows, member_rows, body_rows, decl_rows, decls_rows}

-- the names of the types that begin in a text; an inline type has none
abbrev pub opened : List Event → List (Option (List ℕ))
opened [] = []
opened (declares t ∷ es) = Some t.name ∷ opened es
opened (begins at ∷ es) = None ∷ opened es
opened (e ∷ es) = opened es

-- the rows are those of the types that begin in the text
abbrev pub AreOf : List Event → List Row → Type 0
AreOf es rows = map open_name rows ≡ opened es

pub opened-append : (es fs : List Event) → opened (es ++ fs) ≡ opened es ++ opened fs
opened-append [] fs = refl
opened-append (declares t ∷ es) fs = ap (λ names. Some t.name ∷ names) (opened-append es fs)
opened-append (begins at ∷ es) fs = ap (λ names. None ∷ names) (opened-append es fs)
opened-append (e ∷ es) fs = opened-append es fs

joined : (es fs : List Event) (xs ys : List Row) → AreOf es xs → AreOf fs ys → AreOf (es ++ fs) (xs ++ ys)
joined es fs xs ys h k =
    map-append open_name xs ys ∙ ap (λ names. names ++ map open_name ys) h ∙ ap (λ names. opened es ++ names) k ∙ sym (opened-append es fs)

-- events behind, with which no type begins
quiet_behind : (es fs : List Event) (rows : List Row) → AreOf es rows → opened fs ≡ [] → AreOf (es ++ fs) rows
quiet_behind es fs rows h quiet =
    h ∙ sym (append-nil (opened es)) ∙ ap (λ names. opened es ++ names) (sym quiet) ∙ sym (opened-append es fs)

map_form_quiet : (form : Option MapForm) → opened (map_form_events form) ≡ []
map_form_quiet (Some (F.Advanced t)) = refl
map_form_quiet form = refl

mark_quiet : (mark : Option Mark) → opened (mark_events mark) ≡ []
mark_quiet (Some (M.Kind (K.Float at))) = refl
mark_quiet mark = refl

enum_quiet : (before : ℕ) (ms : List EnumMember) → opened (each_events enum_member_events before ms) ≡ []
enum_quiet before [] = refl
enum_quiet before (m ∷ ms) = enum_quiet (suc before) ms

module _ (numbers : List ℕ → Option ℕ) where
  mutual
    pub reference_opened : (n : ℕ) (r : Reference) → AreOf (reference_events r) (reference_rows numbers n r)
    reference_opened n (refer at nullable type_at r) = inline_opened n type_at r

    pub inline_opened : (n at : ℕ) (r : Refers) → AreOf (inline_events at r) (inline_rows numbers n at r)
    inline_opened n at (named t) = refl
    inline_opened n at (link t) = refl
    inline_opened n at (list r) = ap (λ names. None ∷ names) (reference_opened (suc n) r)
    inline_opened n at (map_to k r) = ap (λ names. None ∷ names) (reference_opened (suc n) r)

  pub fields_opened : (n before : ℕ) (fs : List Field) → AreOf (each_events field_events before fs) (field_rows numbers n fs)
  fields_opened n before [] = refl
  fields_opened n before (f ∷ fs) =
      let next : ℕ = n + length (reference_rows numbers n f.value) in
      joined (reference_events f.value) (each_events field_events (suc before) fs) (reference_rows numbers n f.value) (field_rows numbers next fs) (reference_opened n f.value) (fields_opened next (suc before) fs)

  target_opened : (at : ℕ) (t : Target) → AreOf (target_events at t) (target_rows numbers at t)
  target_opened at (T.Type t) = refl
  target_opened at (T.Link t) = refl

  pub members_opened : (before : ℕ) (ms : List Member) → AreOf (each_events member_events before ms) (member_rows numbers ms)
  members_opened before [] = refl
  members_opened before (m ∷ ms) =
      let here = quiet_behind (target_events m.at m.target) (mark_events m.mark) (target_rows numbers m.at m.target) (target_opened m.at m.target) (mark_quiet m.mark) in
      joined (member_events before m) (each_events member_events (suc before) ms) (target_rows numbers m.at m.target) (member_rows numbers ms) here (members_opened (suc before) ms)

  pub body_opened : (n : ℕ) (b : Body) → AreOf (body_events b) (body_rows numbers n b)
  body_opened n (B.List r) = reference_opened n r
  body_opened n (B.Map m) =
      quiet_behind (reference_events m.value) (map_form_events m.form) (reference_rows numbers n m.value) (reference_opened n m.value) (map_form_quiet m.form)
  body_opened n (B.Struct s) = fields_opened n 0 s.fields
  body_opened n (B.Union u) = members_opened 0 u.members
  body_opened n (B.Enum e) = sym (enum_quiet 0 e.members)
  body_opened n b = refl

  pub decl_opened : (n : ℕ) (d : Decl) → AreOf (decl_events d) (decl_rows numbers n d)
  decl_opened n (A.Type d) = ap (λ names. Some d.name.name ∷ names) (body_opened (suc n) d.body)
  decl_opened n (A.Advanced t) = refl

  pub decls_opened : (n : ℕ) (ds : List Decl) → AreOf (flat_map decl_events ds) (decls_rows numbers n ds)
  decls_opened n [] = refl
  decls_opened n (d ∷ ds) =
      let next : ℕ = n + length (decl_rows numbers n d) in
      joined (decl_events d) (flat_map decl_events ds) (decl_rows numbers n d) (decls_rows numbers next ds) (decl_opened n d) (decls_opened next ds)
