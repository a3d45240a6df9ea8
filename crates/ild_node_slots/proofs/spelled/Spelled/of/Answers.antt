use Rattle.std.proofs.Common.{◌∙◌}
use Rattle.std.proofs.Math.Logic.{∥∥₁_elim}
use Rattle.std.proofs.Math.Bool.{Bool-set}
use Rattle.ild_node_slots.proofs.Trees.{faultless, spelled-value, spelling-of}
use Rattle.ild_node_slots.proofs.spelled.Spelled.of.Goals as goal

pub invariant_of-result : goal.invariant_of-result
invariant_of-result c = ∥∥₁_elim c.args.node.now.stands (Bool-set _ _) (λ s. faultless _ s.of s.spells.within (c.in_ok-bytes.ensures ∙ c.spelling.ensures s.of s.spells))

pub returns-clause-same : goal.returns-clause-same
returns-clause-same c = λ t h. spelled-value t _ h.within (c.in_ok-bytes.ensures ∙ c.spelling.ensures t h)

pub returns-clause-within : goal.returns-clause-within
returns-clause-within c = (spelling-of _ c.as_slice-bytes.ensures.bytes
    (∥∥₁_elim c.args.node.now.stands (Bool-set _ _) (λ s. faultless _ s.of s.spells.within (c.in_ok-bytes.ensures ∙ c.spelling.ensures s.of s.spells)))).within
