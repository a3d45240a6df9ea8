use Rattle.std.proofs.Common.{inr, true, false, arith, sym}
use Rattle.ild_data.proofs.TextBits.{next_letter, bad_letter, text_read}
use Rattle.ild_data.specs.Base32.{bytes_bits}
use Rattle.ild_data.proofs.base32.read_base32.Goals as goal

pub returns-in_default-clause-fault : goal.returns-in_default-clause-fault
returns-in_default-clause-fault c = inr (bad_letter c.args.letters.now c.loop-letter.letter-index (bytes_bits c.loop-letter.out.items) c.loop-letter.held (omega arith) (sym c.in_default.ensures.same) c.loop-letter.invariant.bits)

pub returns-then-is_filling-clause-bytes : goal.returns-then-is_filling-clause-bytes
returns-then-is_filling-clause-bytes c =
    text_read c.args.letters.now c.loop-letter.letter-index c.loop-letter.out.items c.loop-letter.held true (omega arith) c.loop-letter.invariant.bytes c.loop-letter.invariant.short (sym c.if-is_filling.ensures) c.loop-letter.invariant.bits

pub returns-else-is_filling-clause-fault : goal.returns-else-is_filling-clause-fault
returns-else-is_filling-clause-fault c = inr (
    text_read c.args.letters.now c.loop-letter.letter-index c.loop-letter.out.items c.loop-letter.held false (omega arith) c.loop-letter.invariant.bytes c.loop-letter.invariant.short (sym c.if-is_filling.ensures) c.loop-letter.invariant.bits)

pub loop-letter-preserved : goal.loop-letter-preserved
loop-letter-preserved c = record {
  bits = next_letter c.args.letters.now c.loop-letter.letter-index c.in-Some.number (bytes_bits c.loop-letter.out.items) (bytes_bits c.push_number.new.out.items) c.loop-letter.held c.push_number.new.held
      (omega arith) (sym c.in-Some.ensures.same) c.loop-letter.invariant.bits c.in_ok-push_number.ensures.bits;
  bytes = c.in_ok-push_number.ensures.bytes c.loop-letter.invariant.bytes;
  short = c.in_ok-push_number.ensures.short;
}
