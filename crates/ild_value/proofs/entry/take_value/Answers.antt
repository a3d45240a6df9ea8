use Rattle.std.proofs.Common.{ap, ◌∙◌}
use Rattle.ild_data.specs.Key.{value_at}
use Rattle.ild_data.proofs.Rising.{rises_put}
use Rattle.ild_splice_changes.proofs.Maps.{put-other}
use Rattle.ild_value.proofs.Taken.{nulled}
use Rattle.ild_value.proofs.entry.take_value.Goals as goal

pub returns-in-Ok-clause-rises : goal.returns-in-Ok-clause-rises
returns-in-Ok-clause-rises c =
    let e = nulled c.args.key.now c.args.pairs.now.items c.deref.result.now c.in-Ok.i c.index_mut.result.now c.replace.new.dest c.deref.ensures.value c.in-Ok.ensures.found c.index_mut.ensures.value c.in-Ok.ensures.same
    c.in-Ok.ensures.set in
    rw e (rises_put c.args.key.now c.replace.new.dest c.args.pairs.now.items c.requires)

pub returns-in-Ok-clause-others : goal.returns-in-Ok-clause-others
returns-in-Ok-clause-others c = λ k apart.
    ap (value_at k)
    (nulled c.args.key.now c.args.pairs.now.items c.deref.result.now c.in-Ok.i c.index_mut.result.now c.replace.new.dest c.deref.ensures.value c.in-Ok.ensures.found c.index_mut.ensures.value c.in-Ok.ensures.same c.in-Ok.ensures.set)
    ∙ put-other c.args.key.now k c.replace.new.dest c.args.pairs.now.items apart
