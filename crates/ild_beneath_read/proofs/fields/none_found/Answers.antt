use Rattle.std.proofs.Common.{[], ◌++◌, ◌∷◌, None, sym, ap, ◌∙◌, subst, arith}
use Rattle.std.specs.Prelude.{replicate}
use Rattle.ild_beneath_read.specs.inside.Fields.{AllFound, looked_up}
use Rattle.ild_beneath_read.proofs.Looking.{nothing_yet, replicate_more}
use Rattle.ild_beneath_read.proofs.fields.none_found.Goals as goal

pub loop-preserved : goal.loop-preserved
loop-preserved c = c.in_ok-push.ensures.items ∙ ap (λ ns. ns ++ None ∷ []) c.loop.invariant ∙ sym (replicate_more None c.loop.counter)

pub returns : goal.returns
returns c =
    subst (AllFound (looked_up c.args.fields.now.def.now.fields [])) (sym (c.loop.invariant ∙ ap (λ n. replicate n None) (omega arith))) (nothing_yet c.args.fields.now.def.now.fields)
