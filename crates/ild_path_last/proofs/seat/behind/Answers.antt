use Rattle.ild_path_last.proofs.Seeking.{none_passed, not_passed, passed}
use Rattle.ild_path_last.proofs.seat.behind.Goals as goal

pub returns-then-is_keyed : goal.returns-then-is_keyed
returns-then-is_keyed c = λ es h. passed c.args.key.now c.args.items c.next.new.self c.in-Some.item _ c.in-Some.ensures.steps c.is_keyed.ensures c.if-is_keyed.true es h

pub returns-else-is_keyed : goal.returns-else-is_keyed
returns-else-is_keyed c = λ es h. not_passed c.args.key.now c.args.items c.next.new.self c.in-Some.item _ c.in-Some.ensures.steps c.is_keyed.ensures c.if-is_keyed.false es h

pub returns-in-None : goal.returns-in-None
returns-in-None c = λ es h. none_passed c.args.key.now c.args.items c.next.new.self c.in-None.ensures.steps es h
