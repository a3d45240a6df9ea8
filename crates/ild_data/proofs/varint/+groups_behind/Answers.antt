use Rattle.std.proofs.Common.{◌<◌, ◌^◌, arith}
use Rattle.ild_data.proofs.Varints.{more_below, one_below, more_fits}
use Rattle.ild_data.proofs.varint.+groups_behind.Goals as goal

pub overflow_mul-result : goal.overflow_mul-result
overflow_mul-result t c =
    let h : c.in_ok-number-in-len1-up.number < 2 ^ 49 = more_fits c.args.room c.in_ok-number-in-len1-up.number (omega arith) (omega arith) c.in_ok-number-in-len1-up.ensures.small in
    omega arith

pub overflow_add-result : goal.overflow_add-result
overflow_add-result t c =
    let h : c.in_ok-number-in-len1-up.number < 2 ^ 49 = more_fits c.args.room c.in_ok-number-in-len1-up.number (omega arith) (omega arith) c.in_ok-number-in-len1-up.ensures.small in
    let b : c.from-in-len1-up.result < 128 = search (arith, c.from-in-len1-up.ensures) in
    omega arith

pub returns-in-1-to-127-clause-small : goal.returns-in-1-to-127-clause-small
returns-in-1-to-127-clause-small t c = one_below c.args.room c.from.result (omega arith) (search (arith, c.from.ensures))

pub returns-in_ok-number-in-len1-up-clause-small : goal.returns-in_ok-number-in-len1-up-clause-small
returns-in_ok-number-in-len1-up-clause-small t c =
    more_below c.args.room c.in_ok-number-in-len1-up.number c.from-in-len1-up.result (omega arith) c.in_ok-number-in-len1-up.ensures.small (search (arith, c.from-in-len1-up.ensures))
