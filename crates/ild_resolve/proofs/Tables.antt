-- The rows of a syntax tree without a fault are a table.
use Rattle.std.proofs.Common.{◌≡◌, ℕ, ◌+◌, ◌≤◌, List, ◌++◌, Option, None, length, refl, ap, arith}
use Rattle.std.specs.List.{All}
use Rattle.std.proofs.Math.Path.{fun_ext}
use Rattle.std.proofs.lemmas.List.Elements.{All-append}
use Rattle.ild_parse_grammar.specs.declared.ast.Ast.{Ast}
use Rattle.ild_schema.specs.Prelude.{prelude}
use Rattle.ild_schema.specs.Copies.{NoneIsCircular}
use Rattle.ild_schema.specs.Spelled.{HasTexts}
use Rattle.ild_schema.specs.Table.{AreNamedOnce, IsTable}
use Rattle.ild_resolve.specs.Events.{types_in, events_of}
use Rattle.ild_resolve.specs.Faults.{first_again, taken_names, declared_fault, fault_in}
use Rattle.ild_resolve.specs.Names.{number_of}
use Rattle.ild_resolve.specs.Rows.{decls_rows}
use Rattle.ild_resolve.specs.Table.{rows_of}
use Rattle.ild_resolve.proofs.Opened.{decls_opened}
use Rattle.ild_resolve.proofs.Counts.{rows_count}
use Rattle.ild_resolve.proofs.Limits.{types_few, few_parts, none_declared, no_faults}
use Rattle.ild_resolve.proofs.Within.{IsRowWithin, prelude_within, decls_within}
use Rattle.ild_resolve.proofs.Named.{number_below}
use Rattle.ild_resolve.proofs.Once.{named_once}

pub rows_few : (ast : Ast) → declared_fault (events_of ast) ≡ None → length (rows_of ast) ≤ 65543
rows_few ast h =
    omega (arith, rows_count ast, types_few (events_of ast) (none_declared (events_of ast) h).above)

pub rows_within : (ast : Ast) → declared_fault (events_of ast) ≡ None → All (IsRowWithin (length (rows_of ast))) (rows_of ast)
rows_within ast h =
    let numbers : List ℕ → Option ℕ = λ name. number_of name (events_of ast) in
    let count : ℕ = length (rows_of ast) in
    let types : 8 + types_in (events_of ast) ≤ count = omega (arith, rows_count ast) in
    let rows : 8 + length (decls_rows numbers 8 ast.decls) ≤ count = omega arith in
    let few = few_parts 0 (events_of ast) (none_declared (events_of ast) h).above in
    All-append (IsRowWithin count) prelude (decls_rows numbers 8 ast.decls) (prelude_within count (omega arith)) (decls_within numbers count (number_below (events_of ast) count types) 8 ast.decls few rows)

pub rows_once : (ast : Ast) → first_again taken_names (events_of ast) ≡ None → AreNamedOnce (rows_of ast)
rows_once ast h =
    let numbers : List ℕ → Option ℕ = λ name. number_of name (events_of ast) in
    named_once (events_of ast) (decls_rows numbers 8 ast.decls) (decls_opened numbers 8 ast.decls) h

-- the limits and the declared names are enough for a table whose types are no copies of themselves and whose texts are
-- UTF-8: a name that is refused still stands for some type
pub declared_table : (ast : Ast) → declared_fault (events_of ast) ≡ None → NoneIsCircular (rows_of ast) → HasTexts (rows_of ast) → IsTable (rows_of ast)
declared_table ast h none texts =
    record {
      prelude_first = refl;
      size = omega (arith, rows_few ast h);
      within = rows_within ast h;
      named_once = rows_once ast (none_declared (events_of ast) h).again;
      none_circular = none;
      texts = texts;
    }

pub table : (ast : Ast) → fault_in (events_of ast) ≡ None → NoneIsCircular (rows_of ast) → HasTexts (rows_of ast) → IsTable (rows_of ast)
table ast h none texts = declared_table ast (no_faults (events_of ast) h).0 none texts

-- the rows by any numbers that agree with the text's
pub rows_by : (ast : Ast) (numbers : List ℕ → Option ℕ) → ((name : List ℕ) → numbers name ≡ number_of name (events_of ast)) → prelude ++ decls_rows numbers 8 ast.decls ≡ rows_of ast
rows_by ast numbers h = ap (λ by. prelude ++ decls_rows by 8 ast.decls) (fun_ext h)
