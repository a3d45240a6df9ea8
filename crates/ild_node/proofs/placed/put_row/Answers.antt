use Rattle.std.proofs.Common.{refl, arith}
use Rattle.ild_node.proofs.Placing.{row-set, row-inserted, as-rows-set, as-rows-insert}
use Rattle.ild_node.proofs.placed.put_row.Goals as goal

pub index_mut-requires : goal.index_mut-requires
index_mut-requires c = let lt = (c.in-Ok.ensures.found c.args.row.value).0 in omega (arith, c.deref.ensures.len)

pub insert-requires : goal.insert-requires
insert-requires c = let le = (c.in-Err.ensures.none c.args.row.value).0 in omega (arith, c.deref.ensures.len)

pub returns-in-Ok-clause-ok : goal.returns-in-Ok-clause-ok
returns-in-Ok-clause-ok c =
    row-set c.args.rows.now.items _ c.in-Ok.i c.args.row c.as_str.result.now refl c.as_str.ensures.same
    (as-rows-set c.deref.result.now c.args.rows.now.items c.as_str.result.now c.args.row.value c.in-Ok.i c.deref.ensures.value (c.in-Ok.ensures.found c.args.row.value).1)

pub returns-in_ok-insert-in-Err-clause-ok : goal.returns-in_ok-insert-in-Err-clause-ok
returns-in_ok-insert-in-Err-clause-ok c =
    row-inserted c.args.rows.now.items c.insert.new.self.items c.in-Err.i c.args.row c.as_str.result.now c.in_ok-insert-in-Err.ensures.items c.as_str.ensures.same
    (as-rows-insert c.deref.result.now c.args.rows.now.items c.as_str.result.now c.args.row.value c.in-Err.i c.deref.ensures.value (c.in-Err.ensures.none c.args.row.value).1)
