use Rattle.std.proofs.Common.{◌≡◌, ◌^◌, ◌<◌, drop}
use Rattle.ild_data.specs.Decimal.{digits_value}
use Rattle.ild_data.proofs.decimal.digits_value.Given as goal

abbrev pub invariant-loop-digit : goal.invariant-loop-digit
invariant-loop-digit l = record {
  small : l.value < 2 ^ 64;
  so_far : digits_value l.value (drop l.digit-index l.bytes) ≡ digits_value 0 l.bytes;
}
