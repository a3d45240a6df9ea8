-- The declared names, one after the other: those before a declaration, and those that are left.
use Rattle.std.proofs.Common.{◌≡◌, ℕ, zero, suc, ◌+◌, ◌<◌, List, [], ◌∷◌, ◌++◌, length, take, drop, get_or, slice_get, Some, ap, sym, ◌∙◌, arith, add-one}
use Rattle.std.proofs.Math.Seq.{drop-cons, take-suc}
use Rattle.std.proofs.lemmas.Grind.{flat_map-append}
use Rattle.std.proofs.lemmas.List.{append-nil}
use Rattle.ild_parse_grammar.specs.declared.ast.Decl.{Decl}
use Rattle.ild_parse_grammar.specs.declared.ast.Decl.TheVariants as A
use Rattle.ild_parse_grammar.specs.declared.ast.TypeDecl.{TypeDecl}
use Rattle.ild_parse_grammar.specs.declared.ast.TypeName.{TypeName}
use Rattle.ild_resolve.specs.Names.{declared_name, names_in}

pub names_before : (decls : List Decl) (i : ℕ) (d : Decl) → i < length decls → d ≡ get_or decls i d → names_in (take (i + 1) decls) ≡ names_in (take i decls) ++ declared_name d
names_before decls i d within here =
    ap (λ n. names_in (take n decls)) (add-one i) ∙ ap names_in (take-suc decls i d within) ∙ ap (λ x. names_in (take i decls ++ x ∷ [])) (sym here)
    ∙ flat_map-append declared_name (take i decls) (d ∷ []) ∙ ap (λ names. names_in (take i decls) ++ names) (append-nil (declared_name d))

names_behind : (decls : List Decl) (i : ℕ) (d : Decl) → i < length decls → d ≡ get_or decls i d → names_in (drop i decls) ≡ declared_name d ++ names_in (drop (i + 1) decls)
names_behind decls i d within here =
    ap names_in (drop-cons decls i d within) ∙ ap (λ x. declared_name x ++ names_in (drop (suc i) decls)) (sym here)
    ∙ ap (λ n. declared_name d ++ names_in (drop n decls)) (sym (add-one i))

-- a name stands at a place, and others behind it
pub record StandsAt (names : List (List ℕ)) (place : ℕ) (name : List ℕ) (rest : List (List ℕ)) : Type 0 where
  pub within : place < length names
  pub here : slice_get names place ≡ Some name
  pub behind : drop (suc place) names ≡ rest

stands_at : (names : List (List ℕ)) (place : ℕ) (name : List ℕ) (rest : List (List ℕ)) → drop place names ≡ name ∷ rest → StandsAt names place name rest
stands_at [] zero name rest h = absurd cc
stands_at [] (suc place) name rest h = absurd cc
stands_at (x ∷ xs) zero name rest h = record { within = omega arith; here = cc; behind = cc }
stands_at (x ∷ xs) (suc place) name rest h =
    let more = stands_at xs place name rest h in
    record { within = omega (arith, more.within); here = more.here; behind = more.behind }

-- Before one of the declarations: the names from a place on are those of the declarations that are left.
pub record NamesLeft (names : List (List ℕ)) (decls : List Decl) (place i : ℕ) : Type 0 where
  pub same : drop place names ≡ names_in (drop i decls)

module _ (names : List (List ℕ)) (decls : List Decl) (place i : ℕ) (item : Decl) (within : i < length decls) (here : item ≡ get_or decls i item) (left : NamesLeft names decls place i) where
  -- the name of the declared type stands next
  pub name_next : (d : TypeDecl) → item ≡ A.Type d → StandsAt names place d.name.name (names_in (drop (i + 1) decls))
  name_next d is =
      stands_at names place d.name.name (names_in (drop (i + 1) decls))
      (left.same ∙ names_behind decls i item within here ∙ ap (λ x. declared_name x ++ names_in (drop (i + 1) decls)) is)

  pub name_passed : (d : TypeDecl) → item ≡ A.Type d → NamesLeft names decls (place + 1) (i + 1)
  name_passed d is = record { same = ap (λ n. drop n names) (add-one place) ∙ (name_next d is).behind }

  pub name_kept : (t : TypeName) → item ≡ A.Advanced t → NamesLeft names decls place (i + 1)
  name_kept t is = record { same = left.same ∙ names_behind decls i item within here ∙ ap (λ x. declared_name x ++ names_in (drop (i + 1) decls)) is }
