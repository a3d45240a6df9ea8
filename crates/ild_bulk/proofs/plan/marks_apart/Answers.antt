use Rattle.std.proofs.Common.{ℕ, List, ◌∙◌, arith, subst}
use Rattle.std.proofs.lemmas.List.{length-set}
use Rattle.ild_data.specs.Data.{Data}
use Rattle.ild_bulk.specs.Keyed.{HasMarks}
use Rattle.ild_bulk.proofs.Apart.{apart-none, apart-more}
use Rattle.ild_bulk.proofs.Marking.{all-taken}
use Rattle.ild_bulk.proofs.plan.marks_apart.Goals as goal

pub loop-marked-init : goal.loop-marked-init
loop-marked-init g c = record {
  many = c.in_ok-parts.ensures.many;
  apart = λ h b es are. apart-none c.args.shape h c.args.depth b _ c.in_ok-parts.ensures;
}

pub index_mut-requires : goal.index_mut-requires
index_mut-requires g c = let many = c.loop-marked.invariant.many in let held = c.loop-marked.parts.ok.0 in omega (arith, many, held, c.index_of-index.ensures.slot)

pub returns-clause-parts : goal.returns-clause-parts
returns-clause-parts g c = λ h b es are.
    subst (λ (fs : List (List ℕ × Data)). HasMarks h c.args.shape c.args.depth b fs c.loop-marked.parts.items) (all-taken g.M.Marked.mark_seen h b es c.args.marks.now c.loop-marked.marked-index are (omega arith)) (c.loop-marked.invariant.apart h b es are)

pub loop-marked-preserved : goal.loop-marked-preserved
loop-marked-preserved g c = record {
  many = length-set c.loop-marked.parts.items c.index_of-index.result c.push.new.self ∙ c.loop-marked.invariant.many;
  apart = λ h b es are.
      apart-more c.args.shape g.M.Marked.mark_seen h b es c.args.depth c.args.marks.now c.loop-marked.marked-index c.marked-item.result _ c.loop-marked.parts.items c.index_of-index.result c.index_mut.result.now c.push.new.self
      are (c.loop-marked.invariant.apart h b es are) (omega arith) c.marked-item.is c.mark-mark.ensures c.index_of-index.ensures.index c.index_mut.ensures.value c.in_ok-push.ensures.items;
}
