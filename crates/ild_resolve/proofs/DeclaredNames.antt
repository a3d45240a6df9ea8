-- The declared names of the rows are those of the text, in its order.
use Rattle.std.proofs.Common.{◌≡◌, ℕ, suc, ◌+◌, List, [], ◌∷◌, ◌++◌, Option, length, map, filter, refl, ap, ◌∙◌}
use Rattle.std.proofs.lemmas.List.{map-append}
use Rattle.std.proofs.lemmas.List.Elements.{filter-append}
use Rattle.ild_parse_grammar.specs.Reference.{Reference, refer, Refers, named, link, list, map as map_to}
use Rattle.ild_parse_grammar.specs.declared.ast.Ast.{Ast}
use Rattle.ild_parse_grammar.specs.declared.ast.Decl.{Decl}
use Rattle.ild_parse_grammar.specs.declared.ast.Decl.TheVariants as A
use Rattle.ild_parse_grammar.specs.declared.ast.Body.{Body}
use Rattle.ild_parse_grammar.specs.declared.ast.Body.TheVariants as B
use Rattle.ild_parse_grammar.specs.declared.ast.Field.{Field}
use Rattle.ild_parse_grammar.specs.declared.ast.Member.{Member}
use Rattle.ild_parse_grammar.specs.declared.ast.Target.{Target}
use Rattle.ild_parse_grammar.specs.declared.ast.Target.TheVariants as T
use Rattle.ild_schema.specs.Names.{declared_names, is_declared}
use Rattle.ild_schema.specs.declared.row.Row.{Row}
use Rattle.ild_resolve.specs.Events.{events_of}
use Rattle.ild_resolve.specs.Names.{declared_name, names_in, number_of}
use Rattle.ild_resolve.specs.Rows.{reference_rows, inline_rows, field_rows, target_rows, member_rows, body_rows, decl_rows, decls_rows}
use Rattle.ild_resolve.specs.Table.{rows_of}

declared-append : (xs ys : List Row) → declared_names (xs ++ ys) ≡ declared_names xs ++ declared_names ys
declared-append xs ys =
    ap (map (λ (r : Row). r.name)) (filter-append (λ (r : Row). is_declared r.origin) xs ys)
    ∙ map-append (λ (r : Row). r.name) (filter (λ (r : Row). is_declared r.origin) xs) (filter (λ (r : Row). is_declared r.origin) ys)

none_both : (xs ys : List Row) → declared_names xs ≡ [] → declared_names ys ≡ [] → declared_names (xs ++ ys) ≡ []
none_both xs ys h k = declared-append xs ys ∙ ap (λ names. names ++ declared_names ys) h ∙ k

module _ (numbers : List ℕ → Option ℕ) where
  mutual
    reference_none : (n : ℕ) (r : Reference) → declared_names (reference_rows numbers n r) ≡ []
    reference_none n (refer at nullable type_at r) = inline_none n type_at r

    inline_none : (n at : ℕ) (r : Refers) → declared_names (inline_rows numbers n at r) ≡ []
    inline_none n at (named t) = refl
    inline_none n at (link t) = refl
    inline_none n at (list r) = reference_none (suc n) r
    inline_none n at (map_to k r) = reference_none (suc n) r

  fields_none : (n : ℕ) (fs : List Field) → declared_names (field_rows numbers n fs) ≡ []
  fields_none n [] = refl
  fields_none n (f ∷ fs) =
      let next : ℕ = n + length (reference_rows numbers n f.value) in
      none_both (reference_rows numbers n f.value) (field_rows numbers next fs) (reference_none n f.value) (fields_none next fs)

  target_none : (at : ℕ) (t : Target) → declared_names (target_rows numbers at t) ≡ []
  target_none at (T.Type t) = refl
  target_none at (T.Link t) = refl

  members_none : (ms : List Member) → declared_names (member_rows numbers ms) ≡ []
  members_none [] = refl
  members_none (m ∷ ms) = none_both (target_rows numbers m.at m.target) (member_rows numbers ms) (target_none m.at m.target) (members_none ms)

  body_none : (n : ℕ) (b : Body) → declared_names (body_rows numbers n b) ≡ []
  body_none n (B.List r) = reference_none n r
  body_none n (B.Map m) = reference_none n m.value
  body_none n (B.Struct s) = fields_none n s.fields
  body_none n (B.Union u) = members_none u.members
  body_none n b = refl

  decl_names : (n : ℕ) (d : Decl) → declared_names (decl_rows numbers n d) ≡ declared_name d
  decl_names n (A.Type d) = ap (λ names. d.name.name ∷ names) (body_none (suc n) d.body)
  decl_names n (A.Advanced t) = refl

  decls_names : (n : ℕ) (ds : List Decl) → declared_names (decls_rows numbers n ds) ≡ names_in ds
  decls_names n [] = refl
  decls_names n (d ∷ ds) =
      let next : ℕ = n + length (decl_rows numbers n d) in
      declared-append (decl_rows numbers n d) (decls_rows numbers next ds) ∙ ap (λ names. names ++ declared_names (decls_rows numbers next ds)) (decl_names n d)
      ∙ ap (λ names. declared_name d ++ names) (decls_names next ds)

pub names_of_rows : (ast : Ast) → declared_names (rows_of ast) ≡ names_in ast.decls
names_of_rows ast = decls_names (λ name. number_of name (events_of ast)) 8 ast.decls
