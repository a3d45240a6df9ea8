-- From the survey, the rows and the copies to the result.
use Rattle.std.proofs.Common.{◌≡◌, ℕ, ◌≤◌, List, Option, Some, None, sym, ap, ◌∙◌, subst, inr}
use Rattle.std.specs.Option.{option_or}
use Rattle.std.proofs.Math.Path.{fun_ext}
use Rattle.ild_parse_grammar.specs.declared.ast.Ast.{Ast}
use Rattle.ild_resolve.specs.Events.{Event, events_of, types_in}
use Rattle.ild_resolve.specs.Faults.{declared_fault, first_wrong, fault_in}
use Rattle.ild_resolve.specs.Names.{number_of}
use Rattle.ild_schema.specs.Copies.{FirstIsCircular}
use Rattle.ild_schema.specs.Table.{place_at}
use Rattle.ild_schema.specs.declared.row.Row.{Row}
use Rattle.ild_resolve.specs.Table.{rows_of, IsCopyCycle, IsFault}
use Rattle.ild_resolve.specs.declared.error.ResolveErr.{ResolveErr}
use Rattle.ild_resolve.specs.declared.error.ResolveErr.TheVariants as E
use Rattle.ild_resolve.proofs.Limits.{types_few, none_declared}

pub types_small : (ast : Ast) → declared_fault (events_of ast) ≡ None → types_in (events_of ast) ≤ 65535
types_small ast free = types_few (events_of ast) (none_declared (events_of ast) free).above

-- the fault of the text, by the numbers that were found
pub fault_by : (ast : Ast) (numbers : List ℕ → Option ℕ) → declared_fault (events_of ast) ≡ None → ((name : List ℕ) → numbers name ≡ number_of name (events_of ast))
    → fault_in (events_of ast) ≡ first_wrong numbers (events_of ast)
fault_by ast numbers free same =
    let es : List Event = events_of ast in
    ap (λ o. option_or o (first_wrong (λ name. number_of name es) es)) free ∙ ap (λ ns. first_wrong ns es) (sym (fun_ext same))

pub fault_free : (ast : Ast) (numbers : List ℕ → Option ℕ) → declared_fault (events_of ast) ≡ None → ((name : List ℕ) → numbers name ≡ number_of name (events_of ast))
    → first_wrong numbers (events_of ast) ≡ None → fault_in (events_of ast) ≡ None
fault_free ast numbers free same none = fault_by ast numbers free same ∙ none

pub fault_declared : (ast : Ast) (e : ResolveErr) → declared_fault (events_of ast) ≡ Some e → fault_in (events_of ast) ≡ Some e
fault_declared ast e is = ap (λ o. option_or o (first_wrong (λ name. number_of name (events_of ast)) (events_of ast))) is

-- where the text has no fault, one of its copies
pub copy_cycle : (ast : Ast) (rows : List Row) (n at : ℕ) → rows ≡ rows_of ast → fault_in (events_of ast) ≡ None → FirstIsCircular rows n → place_at rows n ≡ Some at → IsFault ast (E.CopyCycle at)
copy_cycle ast rows n at is clean first place = inr (clean, subst (λ (rs : List Row). IsCopyCycle rs at) is (n, first, place))
