-- Reading from left to right tells the one tree of a source, or its wrong place.
use Rattle.std.proofs.Common.{◌≡◌, ◌⊎◌, ℕ, true, List, [], ◌∷◌, Result, Ok, Err, refl, sym, subst, ◌∙◌, inl, inr}
use Rattle.std.proofs.lemmas.Bool.{false≢true}
use Rattle.ild_lex.specs.declared.token.Token.{Token}
use Rattle.ild_parse_grammar.specs.declared.ast.Ast.{Ast}
use Rattle.ild_parse_grammar.specs.DerivePart.{IsDecl, Derives}
use Rattle.ild_parse_grammar.specs.Fault.{IsWrongAt}
use Rattle.ild_parse_grammar.proofs.Stream.{stream}
use Rattle.ild_parse_grammar.specs.Sign.{Sign}
use Rattle.ild_parse_grammar.specs.Derive.{AreParts}
use Rattle.ild_parse_grammar.proofs.Stream.{Stream, most, is_end, none_left}
use Rattle.ild_parse_grammar.proofs.Read.{many_at}
use Rattle.ild_parse_grammar.proofs.Grammar.{decl_at, schema_at}
use Rattle.ild_parse_grammar.proofs.Results.{bind_ok, ok_is, done, many_ends}
use Rattle.ild_parse_grammar.proofs.Opens.{opens_sound}
use Rattle.ild_parse_grammar.proofs.OpensBodies.{decls-opens}
use Rattle.ild_parse_grammar.proofs.CompleteParts.{schema-complete}
use Rattle.ild_parse_grammar.proofs.Fault.{schema_wrong}

pub one_tree_lem : (src : List ℕ) (ts : List Token) (tree other : Ast) → Derives src ts tree → Derives src ts other → tree ≡ other
one_tree_lem src ts tree other d e = ok_is tree other (sym (schema-complete src ts tree d) ∙ schema-complete src ts other e)

no_more : (xs : List Sign) → none_left xs ≡ true → xs ≡ []
no_more [] e = refl
no_more (t ∷ xs) e = absurd (false≢true e)

-- the tree that is read is derived
schema-sound : (src : List ℕ) (ts : List Token) (tree : Ast) → schema_at (stream src ts) ≡ Ok tree → Derives src ts tree
unfolding schema_at
schema-sound src ts tree e =
    let s : Stream = stream src ts in
    let a = bind_ok (many_at decl_at is_end (most s) s) (λ ds. done {A = Ast} (record { decls = ds.0 })) tree e in
    let read : AreParts IsDecl a.0.0 s.signs a.0.1.signs = opens_sound (λ r. many_at decl_at is_end (most r) r) (AreParts IsDecl) s.end s.signs a.0 (decls-opens s.end s.signs) a.1 in
    let all : AreParts IsDecl a.0.0 s.signs [] = subst (λ (ys : List Sign). AreParts IsDecl a.0.0 s.signs ys) (no_more a.0.1.signs (many_ends decl_at is_end (most s) s a.0 a.1)) read in
    subst (Derives src ts) (ok_is (record { decls = a.0.0 }) tree a.2) all

abbrev pub IsTold : List ℕ → List Token → Result Ast ℕ → Type 0
IsTold src ts (Ok tree) = Derives src ts tree
IsTold src ts (Err at) = IsWrongAt src ts at

pub schema_told : (src : List ℕ) (ts : List Token) → IsTold src ts (schema_at (stream src ts))
schema_told src ts =
    let Q : Result Ast ℕ → Type 0 = λ r. schema_at (stream src ts) ≡ r → IsTold src ts r in
    (elim (schema_at (stream src ts)) as Q [ Ok tree ↦ schema-sound src ts tree | Err at ↦ schema_wrong src ts at ]) refl

pub some_tree_or_place_lem : (src : List ℕ) (ts : List Token) → ((tree : Ast) × Derives src ts tree) ⊎ ((at : ℕ) × IsWrongAt src ts at)
some_tree_or_place_lem src ts = told (schema_at (stream src ts)) (schema_told src ts)
  where
    told : (r : Result Ast ℕ) → IsTold src ts r → ((tree : Ast) × Derives src ts tree) ⊎ ((at : ℕ) × IsWrongAt src ts at)
    told (Ok tree) h = inl (tree, h)
    told (Err at) h = inr (at, h)
