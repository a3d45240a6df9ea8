use Rattle.std.proofs.Common.{◌≡◌, ◌++◌, length, drop, arith, string_bytes}
use Rattle.std.proofs.lemmas.Grind.{common_steps}
use Rattle.ild_data.specs.Base32.{base32, bytes_bits}
use Rattle.ild_data.proofs.Regroup.{written, written_filled, filled_len, none_left}
use Rattle.ild_data.proofs.base32.push_base32.Goals as goal

pub loop-byte-init : goal.loop-byte-init
unfolding base32
loop-byte-init c = grind (arith, common_steps)

pub push_letter-requires : goal.push_letter-requires
push_letter-requires c =
    let e : length c.push-then-left-gt0.new.self ≡ 5 = filled_len c.loop-byte.held c.push-then-left-gt0.new.self c.len-left.result c.len-left.ensures c.loop-byte.invariant.short c.push-then-left-gt0.ensures.bits in
    omega (arith, e)

pub returns-in_ok-push_letter : goal.returns-in_ok-push_letter
returns-in_ok-push_letter c =
    let e : length c.push-then-left-gt0.new.self ≡ 5 = filled_len c.loop-byte.held c.push-then-left-gt0.new.self c.len-left.result c.len-left.ensures c.loop-byte.invariant.short c.push-then-left-gt0.ensures.bits in
    written_filled (string_bytes c.loop-byte.out) (string_bytes c.push_letter.new.out) (string_bytes c.args.out.now ++ base32 c.args.bytes.now)
    c.loop-byte.held c.push_letter.new.held c.push-then-left-gt0.new.self (bytes_bits (drop c.loop-byte.byte-index c.args.bytes.now)) c.len-left.result c.len-left.ensures
    c.loop-byte.invariant.text (none_left c.loop-byte.byte-index c.args.bytes.now (omega arith)) (omega (arith, c.len-left.ensures)) c.loop-byte.invariant.short
    c.push-then-left-gt0.ensures.bits c.in_ok-push_letter.ensures.text (omega (arith, e, c.push_letter.ensures.len))

pub returns-else-left-gt0 : goal.returns-else-left-gt0
returns-else-left-gt0 c =
    written (string_bytes c.loop-byte.out) (string_bytes c.args.out.now ++ base32 c.args.bytes.now) c.loop-byte.held (bytes_bits (drop c.loop-byte.byte-index c.args.bytes.now))
    c.loop-byte.invariant.text (omega (arith, c.len-left.ensures)) (none_left c.loop-byte.byte-index c.args.bytes.now (omega arith))
