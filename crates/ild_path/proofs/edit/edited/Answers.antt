use Rattle.std.proofs.Common.{◌≡◌, Some, subst}
use Rattle.ild_data.specs.Limits.{deepest}
use Rattle.ild_path.proofs.Answering.{never_block, replaced}
use Rattle.ild_path.proofs.edit.edited.Goals as goal
use Rattle.ild_path_ends.specs.Ends.{EditsWhole}
use Rattle.ild_typed.specs.Fits.{Fits}
use Rattle.ild_typed.specs.Hamt.{whole}
use Rattle.ild_typed.specs.Represented.{represented}
use Rattle.ild_view.specs.View.{table_of}

pub returns-clause-edits : goal.returns-clause-edits
returns-clause-edits g c = λ is_key was n v w x u path told slot pieces change.
    let h = g.H.KeyHash.hash_of in
    let m = g.K.Store.moment c.args.store.now in
    let k = g.K.Store.moment c.edit_parts.new.store in
    let rows = table_of c.args.parts.root in
    replaced h rows n x u m k was told pieces.level.schema is_key pieces.level.keys
    (subst (λ s. Fits rows deepest s x) slot change.fits) (subst (λ s. represented (whole h) rows s x ≡ Some u) slot change.tree) path c.edit_parts.result c.answer_of.result
    (subst (λ s. EditsWhole h rows s x u path m c.edit_parts.result k) slot (c.edit_parts.ensures.edits is_key was v w x u path told pieces change)) c.answer_of.ensures

pub answer_of-requires : goal.answer_of-requires
answer_of-requires g c = never_block (g.K.Store.moment c.args.store.now) (g.K.Store.moment c.edit_parts.new.store) c.edit_parts.result c.edit_parts.ensures.caused
