use Rattle.std.proofs.Common.{◌≡◌, ℕ, Some, subst, arith}
use Rattle.ild_cbor.specs.Steps.{Unfolds}
use Rattle.ild_node_slots.proofs.Telling.{pair-none, pair-other, pair-first, pair-second, pair-told}
use Rattle.ild_node_slots.proofs.told.next_pair.Goals as goal

pub returns-in_err-unfold : goal.returns-in_err-unfold
returns-in_err-unfold c = λ d ds h. rw c.from_residual.ensures (pair-none c.args.items.now c.unfold.new.self c.unfold.new.self d ds h c.in_err-unfold.ensures)

pub returns-then-branch-ne2 : goal.returns-then-branch-ne2
returns-then-branch-ne2 c = λ d ds h. pair-other c.args.items.now c.unfold.new.self c.unfold.new.self d ds c.in_ok-unfold.field-0 h c.in_ok-unfold.ensures (λ two. omega arith)

pub returns-in_err-first : goal.returns-in_err-first
returns-in_err-first c = λ d ds h.
    let two : c.in_ok-unfold.field-0 ≡ 2 = omega arith in
    let gives : Unfolds c.args.items.now (Some 2) c.unfold.new.self = subst (λ (k : ℕ). Unfolds c.args.items.now (Some k) c.unfold.new.self) two c.in_ok-unfold.ensures in
    absurd (pair-first c.args.items.now c.unfold.new.self c.next.new.self d ds h gives c.in_err-first.ensures.steps)

pub returns-in_err-second : goal.returns-in_err-second
returns-in_err-second c = λ d ds h.
    let two : c.in_ok-unfold.field-0 ≡ 2 = omega arith in
    let gives : Unfolds c.args.items.now (Some 2) c.unfold.new.self = subst (λ (k : ℕ). Unfolds c.args.items.now (Some k) c.unfold.new.self) two c.in_ok-unfold.ensures in
    absurd (pair-second c.args.items.now c.unfold.new.self c.next.new.self c.next-2.new.self d ds c.in_ok-first.first h gives c.in_ok-first.ensures.steps c.in_err-second.ensures.steps)

pub returns : goal.returns
returns c = λ d ds h.
    let two : c.in_ok-unfold.field-0 ≡ 2 = omega arith in
    let gives : Unfolds c.args.items.now (Some 2) c.unfold.new.self = subst (λ (k : ℕ). Unfolds c.args.items.now (Some k) c.unfold.new.self) two c.in_ok-unfold.ensures in
    pair-told c.args.items.now c.unfold.new.self c.next.new.self c.next-2.new.self d ds c.in_ok-first.first c.in_ok-second.second h gives c.in_ok-first.ensures.steps c.in_ok-second.ensures.steps
