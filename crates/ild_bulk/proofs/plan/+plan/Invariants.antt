use Rattle.std.proofs.Common.{◌+◌, ◌-◌, ◌*◌, ◌^◌, ◌≤◌, ℕ, List}
use Rattle.ild_data.specs.Data.{Data}
use Rattle.ild_data.specs.TrieShape.{trie_levels}
use Rattle.ild_node.specs.Hashed.{AreHashed}
use Rattle.ild_node.specs.Rows.{AreRows}
use Rattle.ild_bulk.specs.Keyed.{HasParts}
use Rattle.ild_bulk.proofs.Building.{PlansParts}
use Rattle.ild_bulk.proofs.plan.+plan.Given as goal

abbrev pub decreases-plan_node : goal.decreases-plan_node
decreases-plan_node l = 5 * (trie_levels l.shape - l.depth)

abbrev pub decreases-plan_many : goal.decreases-plan_many
decreases-plan_many l = 5 * (trie_levels l.shape - (l.depth + 1)) + 4

abbrev pub decreases-plan_parts : goal.decreases-plan_parts
decreases-plan_parts l = 5 * (trie_levels l.shape - (l.depth + 1)) + 3

abbrev pub decreases-plan_few : goal.decreases-plan_few
decreases-plan_few l = 5 * (trie_levels l.shape - (l.depth + 1)) + 3

abbrev pub decreases-plan_part : goal.decreases-plan_part
decreases-plan_part l = 5 * (trie_levels l.shape - l.depth) + 2

abbrev pub decreases-plan_child : goal.decreases-plan_child
decreases-plan_child l = 5 * (trie_levels l.shape - l.depth) + 1

abbrev pub invariant-plan_parts-loop-i : goal.invariant-plan_parts-loop-i
invariant-plan_parts-loop-i l = (h : List ℕ → List ℕ) (es : List (List ℕ × Data)) → HasParts h l.shape l.depth es l.parts → AreRows es → PlansParts h l.shape l.depth es l.i l.draft l.initial.blocks.items l.blocks.items

abbrev pub invariant-plan_few-loop-i : goal.invariant-plan_few-loop-i
invariant-plan_few-loop-i l = record {
  most : l.i ≤ 2 ^ l.shape.width;
  plans : (h : List ℕ → List ℕ) (es : List (List ℕ × Data)) → AreHashed h es l.entries → AreRows es → PlansParts h l.shape l.depth es l.i l.draft l.initial.blocks.items l.blocks.items;
}

abbrev pub decreases-plan_few-loop-i : goal.decreases-plan_few-loop-i
decreases-plan_few-loop-i l = 2 ^ l.shape.width - l.i
