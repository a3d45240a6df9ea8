use Rattle.std.proofs.Common.{◌≡◌, ◌-◌, arith, rules}
use Rattle.ild_data.specs.TrieShape.{trie_levels}
use Rattle.ild_node.specs.Keyed.{keyed_rows}
use Rattle.ild_hamt.proofs.Leaving.{plans-few}
use Rattle.ild_hamt.proofs.rewriting.slot_of.Goals as goal

pub returns-then-len-trail-clause-plans : goal.returns-then-len-trail-clause-plans
returns-then-len-trail-clause-plans c = λ h hashed are.
    let le = c.len.ensures.count in
    plans-few h c.args.trail.now.shape (trie_levels c.args.trail.now.shape - c.args.depth) c.args.depth c.args.rows c.few_slot.result c.args.plan.now.items (omega (arith, le)) (c.few_slot.ensures.same (omega (arith, le)))

pub returns-clause-plans : goal.returns-clause-plans
returns-clause-plans c = λ h hashed are.
    let rows : keyed_rows c.deref-2.result.now ≡ c.args.rows = search rules in
    rw rows at (c.plan_keyed.ensures.plans h (rw c.deref-2.ensures.value (c.in_ok-keyed.ensures.hashes h (search rules) (search rules))))
