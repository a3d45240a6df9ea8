-- The table of a syntax tree, or its first fault.
use Rattle.std.specs.Prelude.{◌≡◌, ◌⊎◌, ℕ, List, ◌++◌, Some, None, Result, Ok, Err}
use Rattle.ild_parse_grammar.specs.declared.ast.Ast.{Ast}
use Rattle.ild_schema.specs.Prelude.{prelude}
use Rattle.ild_schema.specs.Table.{place_at}
use Rattle.ild_schema.specs.Copies.{NoneIsCircular, FirstIsCircular}
use Rattle.ild_schema.specs.declared.row.Row.{Row}
use Rattle.ild_resolve.specs.Events.{events_of}
use Rattle.ild_resolve.specs.Faults.{fault_in}
use Rattle.ild_resolve.specs.Names.{number_of}
use Rattle.ild_resolve.specs.Rows.{decls_rows}
use Rattle.ild_resolve.specs.declared.error.ResolveErr.{ResolveErr}
use Rattle.ild_resolve.specs.declared.error.ResolveErr.TheVariants as E

-- the prelude, and then the types that the text declares, each with its inline types behind it
abbrev pub rows_of : Ast → List Row
rows_of ast = prelude ++ decls_rows (λ name. number_of name (events_of ast)) 8 ast.decls

-- the first type that is a copy of itself stands at this place
abbrev pub IsCopyCycle : List Row → ℕ → Type 0
IsCopyCycle rows at = (n : ℕ) × FirstIsCircular rows n × (place_at rows n ≡ Some at)

abbrev pub IsOfCopies : List Row → ResolveErr → Type 0
IsOfCopies rows (E.CopyCycle at) = IsCopyCycle rows at
IsOfCopies rows e = ⊥

-- the first fault of the limits, the declared names and the words, or where there is none, that of the copies
abbrev pub IsFault : Ast → ResolveErr → Type 0
IsFault ast e = (fault_in (events_of ast) ≡ Some e) ⊎ ((fault_in (events_of ast) ≡ None) × IsOfCopies (rows_of ast) e)

-- what resolving a syntax tree gives
abbrev pub Resolves : Ast → Result (List Row) ResolveErr → Type 0
Resolves ast (Ok rows) = (fault_in (events_of ast) ≡ None) × NoneIsCircular rows × (rows ≡ rows_of ast)
Resolves ast (Err e) = IsFault ast e
