use Rattle.std.proofs.Common.{inl, inr, ◌∙◌}
use Rattle.std.proofs.lemmas.Result.{err_from_is_err_and}
use Rattle.ild_resolve.specs.inside.Numbers.{number_in}
use Rattle.ild_resolve.proofs.Tables.{rows_by}
use Rattle.ild_resolve.proofs.Together.{types_small, fault_free, fault_by, fault_declared}
use Rattle.ild_resolve.proofs.resolving.rows_of.Goals as goal

pub table_of-requires : goal.table_of-requires
table_of-requires c = record { small = types_small c.args.ast c.in_ok-numbers.ensures.free }

pub returns-in_err-numbers-clause-fault : goal.returns-in_err-numbers-clause-fault
returns-in_err-numbers-clause-fault c =
    let p = err_from_is_err_and c.from_residual.result c.from_residual.ensures.1 in
    rw (p.1, p.2) (elim c.in_err-numbers.ensures.fault [
      | inl memory ↦ inl memory
      | inr declared ↦ inr (fault_declared c.args.ast c.in_err-numbers.field-0.0 declared)
    ])

pub returns-in_err-rows-clause-fault : goal.returns-in_err-rows-clause-fault
returns-in_err-rows-clause-fault c =
    let p = err_from_is_err_and c.from_residual-in_err-rows.result c.from_residual-in_err-rows.ensures.1 in
    rw (p.1, p.2) (elim c.in_err-rows.ensures.fault [
      | inl memory ↦ inl memory
      | inr word ↦ inr (fault_by c.args.ast (number_in c.in_ok-numbers.numbers) c.in_ok-numbers.ensures.free c.in_ok-numbers.ensures.numbers ∙ word)
    ])

pub returns-clause-free : goal.returns-clause-free
returns-clause-free c = fault_free c.args.ast (number_in c.in_ok-numbers.numbers) c.in_ok-numbers.ensures.free c.in_ok-numbers.ensures.numbers c.in_ok-rows.ensures.free

pub returns-clause-rows : goal.returns-clause-rows
returns-clause-rows c = c.in_ok-rows.ensures.rows ∙ rows_by c.args.ast (number_in c.in_ok-numbers.numbers) c.in_ok-numbers.ensures.numbers
