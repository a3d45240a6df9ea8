use Rattle.std.proofs.Common.{◌≡◌, ◌+◌, ◌++◌, ◌∙◌, ap, arith}
use Rattle.ild_data.specs.Spell.{head}
use Rattle.ild_build_leaf.specs.Kept.{count_written}
use Rattle.ild_schema.specs.Value.{optionals_list}
use Rattle.ild_build_pass.proofs.fronts.begin_inline.Goals as goal

pub returns-clause-ok : goal.returns-clause-ok
returns-clause-ok c =
    let count : c.in-Some.count ≡ count_written c.args.def.now.fields (optionals_list c.args.vals.now) + 1 = omega (arith, c.in-Some.ensures, c.written.ensures) in
    c.in_ok-head.ensures.ok ∙ ap (λ n. c.args.out.now ++ head 5 n) count
