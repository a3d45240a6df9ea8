use Rattle.std.proofs.Common.{map, map-id, length, sym, ap, ◌∙◌, rules}
use Rattle.std.proofs.lemmas.Iterator.Adapters.{YieldsList-from_vec}
use Rattle.std.proofs.lemmas.Iterator.Consumers.{YieldsList-end, YieldsList-turn}
use Rattle.ild_data.specs.Seen.{data_of}
use Rattle.ild_run_verify.proofs.Blocks.{no_blocks}
use Rattle.ild_run_verify.proofs.input.proof_of_items.Goals as goal

pub returns-in_default : goal.returns-in_default
returns-in_default c =
    let at = YieldsList-turn (YieldsList-from_vec {s = c.into_iter-item-iterator.result} c.args.items.items (search rules) (search rules)) c.loop-item.yielded c.loop-item.item-iterator c.loop-item.yielded_by c.next.result c.next.new.self
    c.in-Some.item c.in-Some.is c.next.ensures.steps in
    no_blocks c.args.items.items (length c.loop-item.yielded) c.in-Some.item c.in-Some.item at.1 at.0 c.in_default.not-Bytes

pub returns : goal.returns
returns c =
    let end = YieldsList-end (YieldsList-from_vec {s = c.into_iter-item-iterator.result} c.args.items.items (search rules) (search rules)) c.loop-item.yielded c.loop-item.item-iterator c.loop-item.yielded_by c.next.result c.next.new.self
    c.in-None.is c.next.ensures.steps in
    ap (map data_of) (sym (sym (map-id c.loop-item.yielded) ∙ end.0)) ∙ c.loop-item.invariant
