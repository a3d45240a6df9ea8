use Rattle.std.proofs.Common.{refl, true, ◌∙◌, arith}
use Rattle.std.specs.Coded.{le_prop}
use Rattle.std.specs.Str.{is_utf8}
use Rattle.std.proofs.Math.Bool.{Bool-set}
use Rattle.std.proofs.Math.Logic.{∥∥₁_elim, ∥∥₁_map}
use Rattle.std.proofs.lemmas.Str.{is_utf8-from_IsUtf8, IsUtf8-from_is_utf8}
use Rattle.ild_cbor.proofs.Iterations.{next_entry}
use Rattle.ild_cbor.proofs.iterate.PairsIterator.next.Goals as goal

pub known_text-key-requires : goal.known_text-key-requires
known_text-key-requires c = IsUtf8-from_is_utf8 c.first_key.result.0.now (∥∥₁_elim c.args.self.now.stands (Bool-set (is_utf8 c.first_key.result.0.now) true)
    (λ s. is_utf8-from_IsUtf8 c.first_key.result.0.now (next_entry _ _ c.args.self.now.left c.first_key.result.0.now c.first_key.result.1.now c.skip-after.result.now s.of s.spells (omega arith) (omega arith) c.first_key.ensures.key c.first_key.ensures.value c.skip-after.ensures).utf8))

pub overflow_sub-behind : goal.overflow_sub-behind
overflow_sub-behind c = ∥∥₁_elim c.args.self.now.stands le_prop
    (λ s. (next_entry _ _ c.args.self.now.left c.first_key.result.0.now c.first_key.result.1.now c.skip-after.result.now s.of s.spells (omega arith) (omega arith) c.first_key.ensures.key c.first_key.ensures.value c.skip-after.ensures).fits)

pub overflow_sub-node : goal.overflow_sub-node
overflow_sub-node c = ∥∥₁_elim c.args.self.now.stands le_prop
    (λ s. (next_entry _ _ c.args.self.now.left c.first_key.result.0.now c.first_key.result.1.now c.skip-after.result.now s.of s.spells (omega arith) (omega arith) c.first_key.ensures.key c.first_key.ensures.value c.skip-after.ensures).value_fits)

pub invariant_of-self-clause-stands : goal.invariant_of-self-clause-stands
invariant_of-self-clause-stands c = ∥∥₁_map c.args.self.now.stands
    (λ s. let f = next_entry _ _ c.args.self.now.left c.first_key.result.0.now c.first_key.result.1.now c.skip-after.result.now s.of s.spells (omega arith) (omega arith) c.first_key.ensures.key c.first_key.ensures.value c.skip-after.ensures in
    record { of = f.more; spells = f.others })

pub invariant_of-node-clause-order : goal.invariant_of-node-clause-order
invariant_of-node-clause-order c = ∥∥₁_elim c.args.self.now.stands le_prop
    (λ s. (next_entry _ _ c.args.self.now.left c.first_key.result.0.now c.first_key.result.1.now c.skip-after.result.now s.of s.spells (omega arith) (omega arith) c.first_key.ensures.key c.first_key.ensures.value c.skip-after.ensures).order)

pub invariant_of-node-clause-stands : goal.invariant_of-node-clause-stands
invariant_of-node-clause-stands c = ∥∥₁_map c.args.self.now.stands
    (λ s. let f = next_entry _ _ c.args.self.now.left c.first_key.result.0.now c.first_key.result.1.now c.skip-after.result.now s.of s.spells (omega arith) (omega arith) c.first_key.ensures.key c.first_key.ensures.value c.skip-after.ensures in
    record { of = f.d; spells = f.first })

pub returns-clause-steps : goal.returns-clause-steps
returns-clause-steps c = λ ms h.
    let f = next_entry _ _ c.args.self.now.left c.first_key.result.0.now c.first_key.result.1.now c.skip-after.result.now ms h (omega arith) (omega arith) c.first_key.ensures.key c.first_key.ensures.value c.skip-after.ensures in
    rw f.is (record { key_is = c.known_text-key.ensures ∙ f.key_is; stands = f.first; block_is = refl; start_is = f.value_place; left = f.others; same_block = refl; place = f.place })
