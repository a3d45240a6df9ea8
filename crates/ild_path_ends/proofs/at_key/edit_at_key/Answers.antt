use Rattle.std.proofs.Common.{List, sym, subst}
use Rattle.ild_path_hops.specs.Links.{RootBehind}
use Rattle.ild_path_hops.specs.declared.hop.Hop.{Hop}
use Rattle.std.proofs.lemmas.Result.{err_from_is_err_and}
use Rattle.ild_path_ends.proofs.Carried.{Next, key_done, key_end, key_failed}
use Rattle.ild_path_ends.proofs.Finishing.{caused_then}
use Rattle.ild_path_ends.proofs.at_key.edit_at_key.Goals as goal

pub returns-in_err-block-clause-edits : goal.returns-in_err-block-clause-edits
returns-in_err-block-clause-edits g c = λ is_key was v w x t u q less k told level leads key change.
    let h = g.H.KeyHash.hash_of in
    let y = rw c.as_slice.ensures.value at (c.in_err-block.ensures.changes is_key was v w x t u q less k told) level leads key change in
    let p = err_from_is_err_and c.from_residual.result c.from_residual.ensures.1 in
    rw (p.1, p.2) (key_failed h is_key was v t c.args.root.now c.args.hops.items q less level leads _ x u change.tree change.fits (g.K.Store.moment c.args.store.now) (g.K.Store.moment c.changed_at_key.new.store) told _ y c.in_err-block.field-0.0 y.ends.answer)

pub returns-clause-caused : goal.returns-clause-caused
returns-clause-caused g c = caused_then (g.K.Store.moment c.args.store.now) (g.K.Store.moment c.changed_at_key.new.store) (g.K.Store.moment c.finish.new.store) c.finish.result c.in_ok-block.ensures.caused.later c.finish.ensures.caused

pub returns-clause-edits : goal.returns-clause-edits
returns-clause-edits g c = λ is_key was v w x t u q less k told level leads key change.
    let h = g.H.KeyHash.hash_of in
    let y = rw c.as_slice.ensures.value at (c.in_ok-block.ensures.changes is_key was v w x t u q less k told) level leads key change in
    let m = g.K.Store.moment c.args.store.now in
    let n = g.K.Store.moment c.changed_at_key.new.store in
    let now = Next h is_key was v t c.args.root.now c.args.hops.items q less level leads _ x u change.tree change.fits m n told _ y in
    key_done h is_key was v t c.args.root.now c.args.hops.items q less level leads _ x u change.tree change.fits m n told _ y (g.K.Store.moment c.finish.new.store) c.finish.result y.ends.given
    (c.finish.ensures.finishes is_key now.0 v y.new t u now.1 (key_end h is_key was v t c.args.root.now c.args.hops.items q less level leads _ x u change.tree change.fits m n told _ y c.in_ok-block.block y.ends.answer))

pub changed_at_key-requires : goal.changed_at_key-requires
changed_at_key-requires g c = subst (λ (hs : List Hop). ∥ RootBehind c.args.root.now hs c.args.front.now ∥₁) (sym c.as_slice.ensures.value) c.requires.leads
