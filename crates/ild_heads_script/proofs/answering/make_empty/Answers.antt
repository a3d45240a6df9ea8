use Rattle.std.proofs.Common.{sym, ◌∙◌, inr}
use Rattle.ild_heads_script.proofs.Heading.{head_takes}
use Rattle.ild_heads_script.proofs.answering.make_empty.Goals as goal

pub returns-in-Ok-clause-said : goal.returns-in-Ok-clause-said
returns-in-Ok-clause-said g c =
    let stays = c.take.ensures.stays in
    inr (
      c.in-Ok.root,
      (λ y. let v = c.in-Ok.ensures.ok (sym stays.same ∙ y) in (v.0, stays.stood c.in-Ok.root.0 v.0 (sym stays.same ∙ y) v.1)),
      g.met.R.Roots.empty_stays c.empty.new.self c.take.new.work c.in-Ok.root.0 c.take.ensures.later c.in-Ok.ensures.empty,
      head_takes _ _ _ _ c.empty.new.self c.take.new.work _ c.args.name c.in-Ok.root _ _ c.take.ensures.said,
    )
