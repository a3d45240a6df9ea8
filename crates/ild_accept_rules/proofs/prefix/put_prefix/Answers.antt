use Rattle.ild_accept_rules.proofs.Orders.{put_apart, put_seen}
use Rattle.ild_accept_rules.proofs.prefix.put_prefix.Goals as goal

pub returns-in_ok-insert-in-Err-clause-apart : goal.returns-in_ok-insert-in-Err-clause-apart
returns-in_ok-insert-in-Err-clause-apart c =
    put_apart c.args.seen.now.items c.deref.result.now c.insert.new.self.items c.args.prefix c.as_slice-2.result.now c.in-Err.i c.deref.ensures.value c.as_slice-2.ensures.same c.requires c.in-Err.ensures.between c.in_ok-insert-in-Err.ensures.items

pub returns-in_ok-insert-in-Err-clause-seen : goal.returns-in_ok-insert-in-Err-clause-seen
returns-in_ok-insert-in-Err-clause-seen c = λ e. put_seen c.args.seen.now.items c.insert.new.self.items c.args.prefix c.in-Err.i c.in_ok-insert-in-Err.ensures.items
