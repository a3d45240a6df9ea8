use Rattle.std.proofs.Common.{◌≡◌, List, ℕ, subst, ◌∙◌}
use Rattle.std.specs.FinMap as fin
use Rattle.std.specs.List.{flat_map}
use Rattle.ild_edges.specs.Sink.{AppendsFront}
use Rattle.ild_heads_run.specs.Ends.{end_of}
use Rattle.ild_heads_run.proofs.Ended.{one_cut}
use Rattle.ild_heads_run.proofs.Stopped.{on_err_always}
use Rattle.ild_heads_run.proofs.ending.write_heads.Goals as goal

pub returns-in_err-write_head-clause-err : goal.returns-in_err-write_head-clause-err
returns-in_err-write_head-clause-err g c =
    let h = c.args.heads.now in
    let was = (g.W.Sink.output c.args.out.now).written in
    let then = (g.W.Sink.output c.loop-name.out).written in
    let now = (g.W.Sink.output c.write_head.new.out).written in
    let xs = c.as_slice-name-items.result.now in
    let keys : xs ≡ fin.keys h.heads = c.as_slice-name-items.ensures ∙ c.in-Ok.ensures.all in
    let one : AppendsFront then now (end_of h c.name-item.result) = subst (λ (name : List ℕ). AppendsFront then now (end_of h name)) c.as_str.ensures.same c.in_err-write_head.ensures.err in
    on_err_always c.from_residual.result _
    (subst (λ (ks : List (List ℕ)). AppendsFront was now (flat_map (end_of h) ks)) keys
    (one_cut (end_of h) xs c.loop-name.name-index c.name-item.result c.loop-name-test.true c.name-item.is was then now c.loop-name.invariant.written one))
