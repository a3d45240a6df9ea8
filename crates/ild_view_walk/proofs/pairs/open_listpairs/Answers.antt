use Rattle.std.proofs.Common.{subst, arith}
use Rattle.ild_data.specs.Data.{items_list}
use Rattle.ild_layer_pairs.specs.Judged.{IsJudged}
use Rattle.ild_view_walk.proofs.Paired.{pairs_deep, pairs_open, pairs_refused, under_two}
use Rattle.ild_view_walk.proofs.pairs.open_listpairs.Goals as goal

pub returns-in-Some-cause-clause-opens : goal.returns-in-Some-cause-clause-opens
returns-in-Some-cause-clause-opens c = λ rows key_at at t stands.
    pairs_refused c.args.room c.args.key key_at c.args.value at t c.in-Some.items (c.in-Some.ensures rows t stands) c.in-Some-cause.why
    (λ ds has. subst (IsJudged (items_list ds)) c.in-Some-cause.is (c.in-Ok.ensures ds has))

pub returns-in_default-checked_sub-clause-opens : goal.returns-in_default-checked_sub-clause-opens
returns-in_default-checked_sub-clause-opens c = λ rows key_at at t stands.
    pairs_deep c.args.room c.args.key key_at c.args.value at t c.in-Some.items (c.in-Some.ensures rows t stands)
    (λ ds has. subst (IsJudged (items_list ds)) c.in_default-cause.is (c.in-Ok.ensures ds has)) (under_two c.args.room c.in_default-checked_sub.ensures)

pub returns-clause-opens : goal.returns-clause-opens
returns-clause-opens c = λ rows key_at at t stands.
    pairs_open c.args.room c.args.key key_at c.args.value at t c.in-Some.items (c.in-Some.ensures rows t stands)
    (λ ds has. subst (IsJudged (items_list ds)) c.in_default-cause.is (c.in-Ok.ensures ds has)) rows c.in-Some-checked_sub.room (omega (arith, c.in-Some-checked_sub.ensures)) c.of.result c.of.ensures.has
