use Rattle.std.proofs.Common.{◌∙◌, ap, arith}
use Rattle.std.proofs.lemmas.List.{take_all}
use Rattle.ild_hamt_climb.specs.inside.Gathering.{put_each}
use Rattle.ild_hamt_climb.proofs.PutEach.{entry-more}
use Rattle.ild_hamt_climb.proofs.gathering.put_bucket.Goals as goal

pub loop-i-preserved : goal.loop-i-preserved
loop-i-preserved c = λ es has.
    entry-more es c.args.rows.now c.loop-i.rows c.put_entry.new.rows c.loop-i.i (omega (arith, c.loop-i-test.true, c.len-i-end.ensures es has)) (c.loop-i.invariant es has) (c.in_ok-put_entry.ensures es has)

pub returns : goal.returns
returns c = λ es has.
    c.loop-i.invariant es has ∙ ap (λ xs. put_each xs c.args.rows.now) (take_all c.loop-i.i es (omega (arith, c.loop-i-test.false, c.len-i-end.ensures es has)))
