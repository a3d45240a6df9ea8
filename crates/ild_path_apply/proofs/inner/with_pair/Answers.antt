use Rattle.std.proofs.Common.{◌∙◌, sym, arith}
use Rattle.ild_path_apply.proofs.Listing.{clipped, not_list}
use Rattle.ild_splice.specs.Splices.{pair_of}
use Rattle.ild_path_apply.proofs.inner.with_pair.Goals as goal

pub insert_pair-requires-clause-place : goal.insert_pair-requires-clause-place
insert_pair-requires-clause-place c = λ d n stands is. let e = c.place_in.ensures d n stands is in omega (arith, e)

pub returns-in-List : goal.returns-in-List
returns-in-List c =
    λ x stands. clipped c.args.list.now c.args.at c.place_in.result (pair_of c.args.key.now x) c.insert_pair.result (λ d here. sym (c.kind.ensures d here) ∙ c.in-List.is) c.place_in.ensures (c.insert_pair.ensures x stands)

pub returns-in_default : goal.returns-in_default
returns-in_default c = λ x stands. not_list c.args.list.now c.args.at (pair_of c.args.key.now x) c.same.result c.same.ensures (λ d here is. c.in_default.not-List (c.kind.ensures d here ∙ is))
