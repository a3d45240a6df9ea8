use Rattle.std.proofs.Common.{sym}
use Rattle.ild_data.proofs.Hexing.{hex_next}
use Rattle.ild_accept_rules.proofs.hex.bytes_of_hex.Goals as goal

pub loop-rest-preserved : goal.loop-rest-preserved
loop-rest-preserved c = hex_next _ c.loop-rest.bytes.items c.push.new.self.items c.in-Some.byte c.loop-rest.rest.now c.in-len2-up.len_at_least (sym c.in-Some.ensures) c.in_ok-push-in-Some.ensures.items c.loop-rest.invariant
