use Rattle.std.proofs.Common.{◌≡◌, true, sym, ◌∙◌, arith}
use Rattle.std.specs.Prelude.{nat_lt}
use Rattle.std.specs.List.{list_all}
use Rattle.ild_accept.specs.inside.Search.{rank_of}
use Rattle.ild_accept.proofs.Ranking.{all_lower, ranked_next, ranked_all}
use Rattle.ild_accept.proofs.cycle.are_ranked.Goals as goal

pub loop-n-preserved : goal.loop-n-preserved
loop-n-preserved c =
    let test : list_all (λ x. nat_lt (rank_of c.args.ranks.now x) c.saturating_add.result) c.deref.result.now ≡ true = sym c.are_lower.ensures ∙ c.if-not-are_lower.false in
    ranked_next c.args.schema.now c.args.ranks.now c.loop-n.n c.loop-n.invariant
    (λ t k. omega (arith, c.saturating_add.ensures, c.rank_of.ensures, all_lower c.args.schema.now c.args.ranks.now c.saturating_add.result c.loop-n.n c.deref.result.now (c.deref.ensures.value ∙ c.in_ok-steps.ensures.same) test t k))

pub returns : goal.returns
returns c = λ e. ranked_all c.args.schema.now c.args.ranks.now c.loop-n.n (omega arith) c.loop-n.invariant
