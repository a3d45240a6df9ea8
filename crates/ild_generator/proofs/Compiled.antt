-- The text of the schema is compiled to its table.
use Rattle.std.proofs.Common.{◌≡◌, ℕ, zero, suc, List, [], ◌∷◌, Option, Some, None, refl, sym, ap, ◌∙◌, subst, arith, Bool, true, false, drop}
use Rattle.std.specs.Prelude.{codes, IsUtf8, IsAscii, option_map, option_and_then, Contains, nat_lt, ◌&&◌, ◌<◌}
use Rattle.std.specs.List.{AllByRecursion, list_all}
use Rattle.std.proofs.lemmas.Bool.Decides.{nat_tests}
use Rattle.std.proofs.lemmas.Str.{IsUtf8-from_ascii}
use Rattle.ild_compile.specs.Compile.{HasTree, OneVerdict, Compiles, table, faulty}
use Rattle.ild_compile.specs.declared.error.SchemaFault.{SchemaFault}
use Rattle.ild_parse_grammar.specs.Derive.{IsWord}
use Rattle.ild_parse_grammar.specs.DerivePart.{Derives}
use Rattle.ild_parse_grammar.specs.Sign.{Sign, signs_of}
use Rattle.ild_parse_grammar.specs.Reference.{refer, named}
use Rattle.ild_parse_grammar.specs.declared.ast.Ast.{Ast}
use Rattle.ild_parse_grammar.specs.declared.ast.Body.TheVariants as B
use Rattle.ild_parse_grammar.specs.declared.ast.Decl.TheVariants as D
use Rattle.ild_parse_grammar.specs.declared.ast.MapForm.TheVariants as M
use Rattle.ild_parse_grammar.specs.declared.ast.TypeName.{TypeName}
use Rattle.ild_schema.specs.Accept.{IsAccepted}
use Rattle.ild_schema.specs.Copies.{target_of, target_in, leads, NoneIsCircular}
use Rattle.ild_schema.specs.Cycles.{steps_of, steps_at, NoneIsCyclic}
use Rattle.ild_schema.specs.Rows.{def_at}
use Rattle.ild_schema.specs.declared.row.Row.{Row}
use Rattle.ild_generator.specs.Schema.{source, generator_rows, IsCompiledTo}
use Rattle.ild_generator.proofs.Ascii.{ascii}
use Rattle.ild_generator.proofs.Tokens.{source_tokens, are_tokens}

abbrev name_at : ℕ → List ℕ → TypeName
name_at at name = record { at = at; name = name }

abbrev tree : Ast
tree = record {
  decls = D.Type (record {
    name = name_at 5 (codes "G");
    body = B.Map (record { key = name_at 8 (codes "String"); value = refer 15 false 15 (named (name_at 15 (codes "Int"))); form = Some (M.Advanced (name_at 44 (codes "HAMT"))) });
  }) ∷ [];
}

-- ---- no type of the table is a copy, or is represented as another

abbrev IsPlainRow : Row → Type 0
IsPlainRow r = (target_of r.def ≡ None) × (steps_of r.def ≡ [])

no_target : (rows : List Row) → AllByRecursion IsPlainRow rows → (n : ℕ) → target_in (def_at rows n) ≡ None
no_target [] all n = refl
no_target (r ∷ rows) all zero = (all.0).0
no_target (r ∷ rows) all (suc n) = no_target rows all.1 n

no_steps : (rows : List Row) → AllByRecursion IsPlainRow rows → (n : ℕ) → steps_at rows n ≡ []
no_steps [] all n = refl
no_steps (r ∷ rows) all zero = (all.0).1
no_steps (r ∷ rows) all (suc n) = no_steps rows all.1 n

are_plain : AllByRecursion IsPlainRow generator_rows
are_plain = ((refl, refl), ((refl, refl), ((refl, refl), ((refl, refl), ((refl, refl), ((refl, refl), ((refl, refl), ((refl, refl), ((refl, refl), tt)))))))))

not_circular : NoneIsCircular generator_rows
not_circular n is =
    let k = is.0 in
    let e : None ≡ Some n = sym (ap (λ o. option_and_then (λ target. leads generator_rows k target) o) (no_target generator_rows are_plain n)) ∙ is.1 in cc

not_cyclic : NoneIsCyclic generator_rows
not_cyclic n is =
    let step = is.1 in
    let among = subst (λ (ts : List ℕ). Contains ts step.0) (no_steps generator_rows are_plain n) step.1 in
    let low = among.1 in omega (arith, low)

accepted : IsAccepted generator_rows
accepted = record { none_cyclic = not_cyclic; none_fails = refl }

-- ---- the text

abbrev signs : List Sign
signs = signs_of source source_tokens

derived : Derives source source_tokens tree
derived = (
  [],
  (
    drop 1 signs,
    drop 2 signs,
    (refl, refl, refl),
    (refl, refl, refl, refl),
    (
      drop 3 signs,
      drop 4 signs,
      drop 5 signs,
      drop 6 signs,
      drop 7 signs,
      (refl, refl, refl),
      (refl, refl, refl, refl),
      (refl, refl, refl),
      (drop 5 signs, refl, refl, refl, (refl, refl, refl, refl)),
      (refl, refl, refl),
      (drop 8 signs, (refl, refl, refl), (drop 9 signs, (refl, refl, refl), (refl, refl, refl, refl))),
    ),
  ),
  refl,
)

has_tree : HasTree source tree
has_tree = record { text = IsUtf8-from_ascii source (ascii source refl); tokens = source_tokens; lexed = are_tokens; derived = derived }

pub compiled : IsCompiledTo
compiled = record {
  table = record { ast = tree; tree = has_tree; resolves = (refl, not_circular, refl) };
  accepted = accepted;
}

-- ---- and to nothing else

pub same_rows : OneVerdict → IsCompiledTo → (rows : List Row) → Compiles source (table rows) → rows ≡ generator_rows
same_rows one is rows compiles = let e = one source (table rows) (table generator_rows) compiles is in cc

pub not_faulty : OneVerdict → IsCompiledTo → (f : SchemaFault) → Compiles source (faulty f) → ⊥
not_faulty one is f compiles = let e = one source (faulty f) (table generator_rows) compiles is in cc
