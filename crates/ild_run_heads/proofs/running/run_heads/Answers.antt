use Rattle.std.proofs.Common.{sym, ap, ◌∙◌}
use Rattle.ild_run_work.specs.Held.{moment_in, root_rules}
use Rattle.ild_run_heads.proofs.Moments.{heads_run}
use Rattle.ild_run_heads.proofs.running.run_heads.Goals as goal

pub returns : goal.returns
returns g c =
    let w = c.of-work.result in
    let x = c.run_lines.new.work in
    heads_run root_rules (moment_in g.K.Store.moment) c.args.script.now w x (g.W.Sink.output c.args.out.now) (g.W.Sink.output c.run_lines.new.out) c.run_lines.ensures.faults _ _ _
    (ap (λ r. r.rules) c.of-work.ensures.rules) c.of-work.ensures.same
    (sym (ap g.K.Store.moment (c.store-1.given.1 (sym (ap (λ r. r.store) (c.run_lines.ensures.same ∙ c.of-work.ensures.rules))))))
    c.run_lines.result c.run_lines.ensures.done c.run_lines.ensures.part c.run_lines.ensures.sink
