use Rattle.std.proofs.Common.{ℕ, List, Ok, Err, subst}
use Rattle.std.proofs.lemmas.Result.{err_from_is_err_and}
use Rattle.ild_bulk.specs.Putting.{PutsOne}
use Rattle.ild_view.specs.View.{slot_of, table_of}
use Rattle.ild_path_hops.specs.HopLaws.{path_of_hops}
use Rattle.ild_path_outward.specs.Outward.{with_end}
use Rattle.ild_path_ends.proofs.Finishing.{caused_put, outward_failed, outward_left, put_done, put_failed}
use Rattle.ild_edges.proofs.Later.{Later-trans}
use Rattle.ild_path_ends.proofs.finish.finish.Goals as goal

pub returns-in_err-block-clause-finishes : goal.returns-in_err-block-clause-finishes
returns-in_err-block-clause-finishes g c = λ is_key was v w t u told new.
    let rows = table_of c.args.root.now in
    let s = slot_of c.args.root.now in
    let p = err_from_is_err_and c.from_residual.result c.from_residual.ensures.1 in
    rw (p.1, p.2) (outward_failed g.H.KeyHash.hash_of rows s (with_end rows s v c.args.hops.items w) u (path_of_hops c.args.hops.items) (g.K.Store.moment c.args.store.now) was told (g.K.Store.moment c.outward.new.store) c.in_err-block.field-0.0
    (c.in_err-block.ensures.carries is_key was _ v w t u told new))

pub returns-in_err-put_one-clause-finishes : goal.returns-in_err-put_one-clause-finishes
returns-in_err-put_one-clause-finishes g c = λ is_key was v w t u told new.
    let rows = table_of c.args.root.now in
    let s = slot_of c.args.root.now in
    let p = err_from_is_err_and c.from_residual-in_err-put_one.result c.from_residual-in_err-put_one.ensures.1 in
    rw (p.1, p.2) (put_failed g.H.KeyHash.hash_of rows s (with_end rows s v c.args.hops.items w) u (path_of_hops c.args.hops.items) (g.K.Store.moment c.args.store.now) was told (g.K.Store.moment c.outward.new.store) c.in_ok-block.block
    (c.in_ok-block.ensures.carries is_key was _ v w t u told new) (g.K.Store.moment c.put_one.new.store) c.in_err-put_one.field-0.0
    (subst (λ (b : List ℕ). PutsOne (g.K.Store.moment c.outward.new.store) b (Err c.in_err-put_one.field-0.0) (g.K.Store.moment c.put_one.new.store)) c.of-named.ensures c.in_err-put_one.ensures))

pub returns-clause-finishes : goal.returns-clause-finishes
returns-clause-finishes g c = λ is_key was v w t u told new.
    let rows = table_of c.args.root.now in
    let s = slot_of c.args.root.now in
    rw c.of-named.ensures (put_done g.H.KeyHash.hash_of rows s (with_end rows s v c.args.hops.items w) u (path_of_hops c.args.hops.items) (g.K.Store.moment c.args.store.now) was told (g.K.Store.moment c.outward.new.store) c.in_ok-block.block
    (c.in_ok-block.ensures.carries is_key was _ v w t u told new) (g.K.Store.moment c.put_one.new.store) c.in_ok-put_one.field-0
    (subst (λ (b : List ℕ). PutsOne (g.K.Store.moment c.outward.new.store) b (Ok c.in_ok-put_one.field-0) (g.K.Store.moment c.put_one.new.store)) c.of-named.ensures c.in_ok-put_one.ensures))

pub returns-in_err-put_one-clause-caused : goal.returns-in_err-put_one-clause-caused
returns-in_err-put_one-clause-caused g c =
    let p = err_from_is_err_and c.from_residual-in_err-put_one.result c.from_residual-in_err-put_one.ensures.1 in
    rw (p.1, p.2) (caused_put (g.K.Store.moment c.args.store.now) (g.K.Store.moment c.outward.new.store) (g.K.Store.moment c.put_one.new.store) c.in_ok-block.block c.in_err-put_one.field-0.0 c.in_ok-block.ensures.caused.later
    (subst (λ (b : List ℕ). PutsOne (g.K.Store.moment c.outward.new.store) b (Err c.in_err-put_one.field-0.0) (g.K.Store.moment c.put_one.new.store)) c.of-named.ensures c.in_err-put_one.ensures))

pub returns-clause-caused : goal.returns-clause-caused
returns-clause-caused g c = record { cause = tt; later = Later-trans _ _ _ c.in_ok-block.ensures.caused.later c.in_ok-put_one.ensures.later }

pub returns-then-not-is_block_of-clause-finishes : goal.returns-then-not-is_block_of-clause-finishes
returns-then-not-is_block_of-clause-finishes g c = λ is_key was v w t u told new.
    let rows = table_of c.args.root.now in
    let s = slot_of c.args.root.now in
    outward_left g.H.KeyHash.hash_of rows s (with_end rows s v c.args.hops.items w) u (path_of_hops c.args.hops.items) (g.K.Store.moment c.args.store.now) was told (g.K.Store.moment c.outward.new.store) c.in_ok-block.block
    (c.in_ok-block.ensures.carries is_key was _ v w t u told new)
