use Rattle.std.proofs.Common.{◌-◌, ℕ, length, sym, refl, subst, arith}
use Rattle.std.specs.Coded.{le_prop}
use Rattle.std.proofs.Math.Logic.{∥∥₁_elim, ∥∥₁_map}
use Rattle.ild_cbor.specs.Spelled.{SpellsSomeItems}
use Rattle.ild_cbor.proofs.Unfolding.{opened_some, not_opened, none_to_open, unfolds}
use Rattle.ild_cbor.proofs.items.Items.unfold.Goals as goal

pub returns-then-self-eq0 : goal.returns-then-self-eq0
returns-then-self-eq0 c = λ ds h. none_to_open c.args.self.now ds h (omega arith)

pub returns-then-start-ne4 : goal.returns-then-start-ne4
returns-then-start-ne4 c = λ ds h. not_opened c.args.self.now c.of-start.result ds h (λ four. omega arith) c.of-start.ensures.start

pub overflow_sub-behind : goal.overflow_sub-behind
overflow_sub-behind c = ∥∥₁_elim c.args.self.now.stands le_prop (λ s. (opened_some c.args.self.now.block.now c.args.self.now.from c.args.self.now.left c.of-start.result s.of s.spells (omega arith) (omega arith) c.of-start.ensures.start).fits)

pub invariant_of-self-clause-stands : goal.invariant_of-self-clause-stands
invariant_of-self-clause-stands c = ∥∥₁_map c.args.self.now.stands
    (λ s. subst (λ (k : ℕ). SpellsSomeItems c.args.self.now.block.now (length c.args.self.now.block.now - length c.of-start.result.rest.now) k) (sym c.saturating_add.ensures)
    (opened_some c.args.self.now.block.now c.args.self.now.from c.args.self.now.left c.of-start.result s.of s.spells (omega arith) (omega arith) c.of-start.ensures.start).some)

pub returns : goal.returns
returns c = λ ds h. unfolds c.args.self.now _ c.of-start.result ds h (omega arith) (omega arith) c.of-start.ensures.start refl refl c.saturating_add.ensures
