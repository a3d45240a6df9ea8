use Rattle.std.proofs.Common.{is_some, not, sym, ap, ◌∙◌}
use Rattle.ild_data.proofs.Hexing.{hex_goes, hex_stops, hex_ends}
use Rattle.ild_data.proofs.hex.is_hex.Goals as goal

pub loop-rest-preserved : goal.loop-rest-preserved
loop-rest-preserved c = hex_goes c.loop-rest.rest.now c.in-len2-up.len_at_least (ap is_some (sym c.hex_byte.ensures) ∙ c.is_none.ensures ∙ ap not c.if-is_none.false) ∙ c.loop-rest.invariant

pub returns-then-is_none : goal.returns-then-is_none
returns-then-is_none c = sym (hex_stops c.loop-rest.rest.now c.in-len2-up.len_at_least (ap is_some (sym c.hex_byte.ensures) ∙ c.is_none.ensures ∙ ap not c.if-is_none.true)) ∙ c.loop-rest.invariant

pub returns : goal.returns
returns c = c.is_empty.ensures ∙ hex_ends c.loop-rest.rest.now c.in_default.len_below ∙ c.loop-rest.invariant
