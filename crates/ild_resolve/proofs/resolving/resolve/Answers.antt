use Rattle.std.proofs.Common.{◌≡◌, ◌≤◌, List, length, Some, Ok, inr, sym, ap, ◌∙◌, subst}
use Rattle.ild_schema.specs.Names.{declared_names}
use Rattle.ild_schema.specs.Spelled.{HasTexts}
use Rattle.ild_schema.specs.Table.{IsTable, place_at}
use Rattle.ild_schema.specs.Copies.{NoneIsCircular, FirstIsCircular}
use Rattle.ild_schema.specs.declared.row.Row.{Row}
use Rattle.ild_resolve.specs.Events.{events_of}
use Rattle.ild_resolve.proofs.DeclaredNames.{names_of_rows}
use Rattle.ild_resolve.proofs.Limits.{no_faults}
use Rattle.ild_resolve.proofs.Tables.{table, rows_few}
use Rattle.ild_resolve.proofs.Together.{copy_cycle}
use Rattle.ild_resolve.proofs.resolving.resolve.Goals as goal

pub first_circular-requires : goal.first_circular-requires
first_circular-requires c =
    record { small = subst (λ (rs : List Row). length rs ≤ 65543) (sym (c.deref-2.ensures.value ∙ c.in_ok-rows.ensures.rows)) (rows_few c.args.ast (no_faults (events_of c.args.ast) c.in_ok-rows.ensures.free).0) }

pub returns-in-Some-clause-fault : goal.returns-in-Some-clause-fault
returns-in-Some-clause-fault c =
    let first = rw c.in-Some.is at c.in_ok-n.ensures.first in
    inr (copy_cycle c.args.ast c.in_ok-rows.rows.items c.in-Some.n c.place_of.result c.in_ok-rows.ensures.rows c.in_ok-rows.ensures.free
    (subst (λ (rs : List Row). FirstIsCircular rs c.in-Some.n) c.deref-2.ensures.value first.1) (subst (λ (rs : List Row). place_at rs c.in-Some.n ≡ Some c.place_of.result) c.deref-in-Some.ensures.value c.place_of.ensures))

pub with_names-requires : goal.with_names-requires
with_names-requires c =
    let rows = c.in_ok-rows.ensures.rows in
    let none : NoneIsCircular c.in_ok-rows.rows.items = subst NoneIsCircular c.deref-2.ensures.value (c.in_ok-n.ensures.none (ap Ok c.in_default.is)) in
    let texts : HasTexts c.in_ok-rows.rows.items = subst HasTexts c.deref-3.ensures.value c.texts_of.ensures in
    record {
      table = subst IsTable (sym rows) (table c.args.ast c.in_ok-rows.ensures.free (subst NoneIsCircular rows none) (subst HasTexts rows texts));
      names = c.in_ok-names.ensures ∙ sym (names_of_rows c.args.ast) ∙ ap declared_names (sym rows);
    }

pub returns-clause-table : goal.returns-clause-table
returns-clause-table c =
    (c.in_ok-rows.ensures.free, subst NoneIsCircular (c.deref-2.ensures.value ∙ sym c.in_ok-with_names.ensures) (c.in_ok-n.ensures.none (ap Ok c.in_default.is)), c.in_ok-with_names.ensures ∙ c.in_ok-rows.ensures.rows)
