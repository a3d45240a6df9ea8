use Rattle.std.proofs.Common.{◌-◌, ◌∙◌, ap, arith}
use Rattle.std.specs.List.{slice_get}
use Rattle.ild_links_walk.proofs.Lasts.{crossed_at}
use Rattle.ild_links_walk.proofs.last.crossed.Goals as goal

pub returns : goal.returns
returns c = c.get.ensures ∙ ap (λ n. slice_get c.args.hops.now (n - 1)) c.len-count.ensures ∙ crossed_at c.args.hops.now (omega arith)
