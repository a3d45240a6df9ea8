use Rattle.std.proofs.Common.{◌<◌, length, sym, ◌∙◌, arith}
use Rattle.ild_schema.specs.Indexed.{labels}
use Rattle.ild_schema.proofs.Seats.{seat_last}
use Rattle.ild_schema.proofs.by_text.seat.Goals as goal

pub returns-then-key_less : goal.returns-then-key_less
returns-then-key_less c =
    let some : 0 < length c.args.numbers.now = omega (arith, c.if-count-eq0.false) in
    seat_last (labels c.args.label c.args.def.now) c.args.text.now c.args.numbers.now c.text_or_empty.result.now c.requires some c.text_or_empty.ensures (sym c.key_less.ensures ∙ c.if-key_less.true)
