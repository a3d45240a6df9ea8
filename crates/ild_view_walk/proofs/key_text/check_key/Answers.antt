use Rattle.std.proofs.Common.{refl}
use Rattle.ild_data.specs.Data as T
use Rattle.ild_view_walk.proofs.key_text.check_key.Goals as goal

pub returns-then-is_leaf : goal.returns-then-is_leaf
returns-then-is_leaf c = c.is_leaf.ensures c.if-is_leaf.true (T.text c.args.text.now) refl c.utf8.text c.args.room

pub returns-in-Ok : goal.returns-in-Ok
returns-in-Ok c = c.in-Ok.ensures.checks (T.text c.args.text.now) refl c.utf8.text

pub returns-in-Err : goal.returns-in-Err
returns-in-Err c = c.key_refusal.ensures c.args.acc.now c.args.room c.args.text.now (c.in-Err.ensures.checks (T.text c.args.text.now) refl c.utf8.text)
