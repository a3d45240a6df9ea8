use Rattle.std.proofs.Common.{◌∙◌, ap, refl}
use Rattle.ild_bulk.specs.Build.{any_long, is_long}
use Rattle.ild_schema.specs.ValueSeen.{value_of}
use Rattle.ild_build_blocks.proofs.Verdict.{is_exhausted, is_planned, is_too_long, whole_fits}
use Rattle.ild_build_blocks.proofs.plan.plan.Goals as goal

pub add-requires-clause-fits : goal.add-requires-clause-fits
add-requires-clause-fits g c = whole_fits _ _ _ c.requires.typed c.requires.hole c.requires.delimiter c.requires.fits

pub returns-then-nodes : goal.returns-then-nodes
returns-then-nodes g c =
    let fit = whole_fits c.args.acc.now c.args.slot (value_of c.args.val.now) c.requires.typed c.requires.hole c.requires.delimiter c.requires.fits in
    is_exhausted g.H.KeyHash.hash_of c.args.acc.now c.recall.ensures.legible.made c.args.slot (value_of c.args.val.now) fit c.new-out.result c.add.new.out _ c.add.new.nodes c.new-out.ensures (record { exhausted = refl; long = refl }) c.in_ok-add.ensures.ok
    c.if-nodes.true

pub returns-then-long : goal.returns-then-long
returns-then-long g c =
    let fit = whole_fits c.args.acc.now c.args.slot (value_of c.args.val.now) c.requires.typed c.requires.hole c.requires.delimiter c.requires.fits in
    is_too_long g.H.KeyHash.hash_of c.args.acc.now c.recall.ensures.legible.made c.args.slot (value_of c.args.val.now) fit c.new-out.result c.add.new.out _ c.add.new.nodes c.new-out.ensures (record { exhausted = refl; long = refl }) c.in_ok-add.ensures.ok
    c.new.ensures.items c.if-nodes.false c.add.new.nodes.long c.is_long.result c.any_long.result refl (c.is_long.ensures ∙ ap is_long c.finish-block.ensures) (c.any_long.ensures ∙ ap any_long c.deref.ensures.value) c.if-long.true

pub returns : goal.returns
returns g c =
    let fit = whole_fits c.args.acc.now c.args.slot (value_of c.args.val.now) c.requires.typed c.requires.hole c.requires.delimiter c.requires.fits in
    is_planned g.H.KeyHash.hash_of c.args.acc.now c.recall.ensures.legible.made c.args.slot (value_of c.args.val.now) fit c.new-out.result c.add.new.out _ c.add.new.nodes c.new-out.ensures (record { exhausted = refl; long = refl }) c.in_ok-add.ensures.ok
    c.new.ensures.items c.if-nodes.false _ c.finish-block.ensures refl c.add.new.nodes.long c.is_long.result c.any_long.result refl (c.is_long.ensures ∙ ap is_long c.finish-block.ensures) (c.any_long.ensures ∙ ap any_long c.deref.ensures.value) c.if-long.false
