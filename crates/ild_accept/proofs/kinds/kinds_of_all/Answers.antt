use Rattle.std.proofs.Common.{rules, ◌≡◌, ◌++◌, [], ◌∷◌, take, map, sym, ap, ◌∙◌}
use Rattle.ild_schema.specs.Kinds.{def_kinds}
use Rattle.ild_accept.proofs.Holding.{kinds_more}
use Rattle.ild_accept.proofs.kinds.kinds_of_all.Goals as goal

pub loop-n-preserved : goal.loop-n-preserved
loop-n-preserved c =
    let pushed : c.push.new.self.items ≡ c.loop-n.kinds.items ++ c.def_kinds.result ∷ [] = search rules in
    pushed
    ∙ ap (λ kinds. kinds ++ c.def_kinds.result ∷ []) c.loop-n.invariant
    ∙ ap (λ kinds. map (λ r. def_kinds r.def) (take c.loop-n.n c.args.schema.now) ++ kinds ∷ []) c.def_kinds.ensures
    ∙ sym (kinds_more c.args.schema.now c.loop-n.n c.def.result.now c.def.ensures.same)
