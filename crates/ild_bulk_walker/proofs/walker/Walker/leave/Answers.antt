use Rattle.std.proofs.Common.{refl, sym, ◌∙◌, arith}
use Rattle.std.proofs.lemmas.Bool.{eqb-true}
use Rattle.ild_bulk_walker.proofs.Walking.{left-early, left-root, left-popped, not-empty, some-step}
use Rattle.ild_bulk_walker.specs.Todo.{leave}
use Rattle.ild_bulk_walker.proofs.walker.Walker.leave.Goals as goal

pub returns-then-saturating_sub-self-clause-leaves : goal.returns-then-saturating_sub-self-clause-leaves
returns-then-saturating_sub-self-clause-leaves c =
    left-early c.args.self.now.shape c.args.self.now c.args.before c.fault.result c.requires (omega (arith, c.if-saturating_sub-self.true, c.saturating_sub.ensures)) c.fault.ensures.trie c.fault.ensures.here

pub returns-then-is_empty-clause-leaves : goal.returns-then-is_empty-clause-leaves
returns-then-is_empty-clause-leaves c =
    left-root c.args.self.now.shape c.args.self.now c.args.before c.fault-then-is_empty.result c.requires (let none = eqb-true _ 0 (sym c.is_empty.ensures ∙ c.if-is_empty.true) in omega (arith, none)) c.fault-then-is_empty.ensures.trie

pub returns-clause-leaves : goal.returns-clause-leaves
returns-clause-leaves c =
    left-popped c.args.self.now.shape c.args.self.now _ c.args.before c.pop.result c.pop-2.result c.requires c.pop.ensures.items (c.pop.ensures.variant.1 (omega (arith, some-step c.args.self.now (leave c.args.before) c.requires))) c.pop-2.ensures.items (c.pop-2.ensures.variant.1 (not-empty _ (sym c.is_empty.ensures ∙ c.if-is_empty.false)))
    (omega (arith, c.if-saturating_sub-self.false, c.saturating_sub.ensures)) refl refl
