use Rattle.std.proofs.Common.{ℕ, ◌≤◌, List, length, subst}
use Rattle.ild_data.specs.Limits.{longest_block}
use Rattle.ild_node.proofs.laws.written_are_read.Goals as goal

pub returns : goal.returns
returns c = λ p slots b is short. record {
  within = record { tree = is.tree.tree; nested = is.tree.nested; sized = subst (λ (s : List ℕ). length s ≤ longest_block) is.spelled short };
  spelled = is.spelled;
}
