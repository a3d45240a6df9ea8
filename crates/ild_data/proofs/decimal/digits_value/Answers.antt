use Rattle.std.proofs.Common.{refl, arith}
use Rattle.ild_data.proofs.Digits.{too_large}
use Rattle.ild_data.proofs.decimal.digits_value.Goals as goal

pub returns-then-value-from : goal.returns-then-value-from
returns-then-value-from c = rw (too_large c.args.bytes.now c.loop-digit.digit-index c.loop-digit.value c.loop-digit-test.true c.loop-digit.invariant.so_far (omega arith)) refl
