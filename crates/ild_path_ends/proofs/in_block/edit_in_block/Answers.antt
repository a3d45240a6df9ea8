use Rattle.std.proofs.Common.{[]}
use Rattle.std.specs.Prelude.{Err}
use Rattle.std.proofs.lemmas.Result.{err_from_is_err_and}
use Rattle.ild_edges.proofs.Later.{Later-refl}
use Rattle.ild_path_reroot.proofs.Causing.{caused_after}
use Rattle.ild_path_ends.proofs.Ending.{new_end, whole_done, whole_failed}
use Rattle.ild_path_ends.proofs.in_block.edit_in_block.Goals as goal

pub returns-in_err-block-clause-edits : goal.returns-in_err-block-clause-edits
returns-in_err-block-clause-edits g c = λ is_key was v w x t u q less told level leads inside ended change.
    let h = g.H.KeyHash.hash_of in
    let y = rw c.as_slice.ensures.value at (c.in_err-block.ensures.made h is_key was v w x t u q less) level leads inside ended change in
    let p = err_from_is_err_and c.from_residual.result c.from_residual.ensures.1 in
    rw (p.1, p.2) (whole_failed h is_key was v t c.args.root.now c.args.hops.items q less level leads c.args.path.now x u y.tree y.change change.tree change.fits (g.K.Store.moment c.args.store.now) c.in_err-block.field-0.0 y.made)

pub returns-clause-edits : goal.returns-clause-edits
returns-clause-edits g c = λ is_key was v w x t u q less told level leads inside ended change.
    let h = g.H.KeyHash.hash_of in
    let y = rw c.as_slice.ensures.value at (c.in_ok-block.ensures.made h is_key was v w x t u q less) level leads inside ended change in
    whole_done h is_key was v t c.args.root.now c.args.hops.items q less level leads c.args.path.now x u y.tree y.change change.tree change.fits (g.K.Store.moment c.args.store.now) (g.K.Store.moment c.finish.new.store) c.finish.result
    (c.finish.ensures.finishes is_key was v y.change.new t u told (new_end h is_key was v t c.args.root.now c.args.hops.items q less level leads c.args.path.now x u y.tree y.change change.tree change.fits c.in_ok-block.block y.made))

pub returns-in_err-block-clause-caused : goal.returns-in_err-block-clause-caused
returns-in_err-block-clause-caused g c =
    let m = g.K.Store.moment c.args.store.now in
    let p = err_from_is_err_and c.from_residual.result c.from_residual.ensures.1 in
    rw (p.1, p.2) (caused_after m m [] (Err c.in_err-block.field-0.0) (record { cause = tt; later = Later-refl m }) c.in_err-block.ensures.fault)
