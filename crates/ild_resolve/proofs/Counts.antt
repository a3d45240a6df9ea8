-- There is a row for each type that begins.
use Rattle.std.proofs.Common.{◌≡◌, ℕ, suc, ◌+◌, List, [], ◌∷◌, ◌++◌, Option, length, refl, ap, sym, ◌∙◌, arith}
use Rattle.std.specs.List.{flat_map}
use Rattle.std.proofs.lemmas.List.{length-map}
use Rattle.ild_parse_grammar.specs.Reference.{Reference}
use Rattle.ild_parse_grammar.specs.declared.ast.Ast.{Ast}
use Rattle.ild_parse_grammar.specs.declared.ast.Decl.{Decl}
use Rattle.ild_parse_grammar.specs.declared.ast.Body.{Body}
use Rattle.ild_parse_grammar.specs.declared.ast.Field.{Field}
use Rattle.ild_parse_grammar.specs.declared.ast.Member.{Member}
use Rattle.ild_parse_grammar.specs.declared.ast.Target.{Target}
use Rattle.ild_parse_grammar.specs.declared.ast.Target.TheVariants as T
use Rattle.ild_schema.specs.declared.row.Row.{Row}
use Rattle.ild_resolve.specs.Events.{Event, declares, begins, types_in, reference_events, target_events, field_events, member_events, each_events, body_events, decl_events, events_of}
use Rattle.ild_resolve.specs.Rows.{reference_rows, target_rows, field_rows, member_rows, body_rows, decl_rows, decls_rows}
use Rattle.ild_resolve.specs.Table.{rows_of}
use Rattle.ild_resolve.specs.Names.{number_of}
use Rattle.ild_resolve.proofs.Opened.{opened, open_name, AreOf, reference_opened, fields_opened, members_opened, body_opened, decl_opened, decls_opened}

pub types_in-append : (es fs : List Event) → types_in (es ++ fs) ≡ types_in es + types_in fs
types_in-append [] fs = omega arith
types_in-append (declares t ∷ es) fs = omega (arith, types_in-append es fs)
types_in-append (begins at ∷ es) fs = omega (arith, types_in-append es fs)
types_in-append (e ∷ es) fs = types_in-append es fs

length-opened : (es : List Event) → length (opened es) ≡ types_in es
length-opened [] = refl
length-opened (declares t ∷ es) = ap suc (length-opened es)
length-opened (begins at ∷ es) = ap suc (length-opened es)
length-opened (e ∷ es) = length-opened es

counted : (es : List Event) (rows : List Row) → AreOf es rows → length rows ≡ types_in es
counted es rows h = sym (length-map rows open_name) ∙ ap length h ∙ length-opened es

module _ (numbers : List ℕ → Option ℕ) where
  pub target_count : (at : ℕ) (t : Target) → length (target_rows numbers at t) ≡ types_in (target_events at t)
  target_count at (T.Type t) = refl
  target_count at (T.Link t) = refl

  pub reference_count : (n : ℕ) (r : Reference) → length (reference_rows numbers n r) ≡ types_in (reference_events r)
  reference_count n r = counted (reference_events r) (reference_rows numbers n r) (reference_opened numbers n r)

  pub fields_count : (n before : ℕ) (fs : List Field) → length (field_rows numbers n fs) ≡ types_in (each_events field_events before fs)
  fields_count n before fs = counted (each_events field_events before fs) (field_rows numbers n fs) (fields_opened numbers n before fs)

  pub members_count : (before : ℕ) (ms : List Member) → length (member_rows numbers ms) ≡ types_in (each_events member_events before ms)
  members_count before ms = counted (each_events member_events before ms) (member_rows numbers ms) (members_opened numbers before ms)

  pub body_count : (n : ℕ) (b : Body) → length (body_rows numbers n b) ≡ types_in (body_events b)
  body_count n b = counted (body_events b) (body_rows numbers n b) (body_opened numbers n b)

  pub decl_count : (n : ℕ) (d : Decl) → length (decl_rows numbers n d) ≡ types_in (decl_events d)
  decl_count n d = counted (decl_events d) (decl_rows numbers n d) (decl_opened numbers n d)

  pub decls_count : (n : ℕ) (ds : List Decl) → length (decls_rows numbers n ds) ≡ types_in (flat_map decl_events ds)
  decls_count n ds = counted (flat_map decl_events ds) (decls_rows numbers n ds) (decls_opened numbers n ds)

pub rows_count : (ast : Ast) → length (rows_of ast) ≡ 8 + types_in (events_of ast)
rows_count ast = omega (arith, decls_count (λ name. number_of name (events_of ast)) 8 ast.decls)
