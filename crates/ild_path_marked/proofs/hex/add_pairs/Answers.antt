use Rattle.std.proofs.Common.{sym}
use Rattle.ild_data.proofs.Hexing.{hex_next}
use Rattle.ild_path_marked.proofs.hex.add_pairs.Goals as goal

pub loop-rest-preserved : goal.loop-rest-preserved
loop-rest-preserved c = hex_next _ c.loop-rest.out c.spelled.new.self c.in-Some.byte c.loop-rest.rest.now c.in-len2-up.len_at_least (sym c.in-Some.ensures) c.in_ok-spelled-in-Some.ensures.ok c.loop-rest.invariant
