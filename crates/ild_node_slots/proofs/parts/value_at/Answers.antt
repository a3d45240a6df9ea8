use Rattle.std.proofs.Common.{sym, ◌∙◌, rules}
use Rattle.std.proofs.lemmas.Bool.{false≢true}
use Rattle.ild_node_slots.proofs.Left.{values-first, value-step, value-here, value-missing, value-done}
use Rattle.ild_node_slots.proofs.parts.value_at.Goals as goal

pub loop-item-init : goal.loop-item-init
loop-item-init c = search (rules, values-first)

pub returns-then-is_bytes : goal.returns-then-is_bytes
returns-then-is_bytes c = λ es at.
    value-here _ _ _ c.in-Some.item _ es (c.in_ok-found.found, c.in_ok-found.value) (c.loop-item.invariant es at) c.in-Some.ensures.steps c.in_ok-found.ensures
    (λ d s. (c.is_bytes.ensures d s).0 c.if-is_bytes.true)

pub loop-item-preserved : goal.loop-item-preserved
loop-item-preserved c = λ es at.
    value-step _ _ _ c.in-Some.item _ es (c.in_ok-found.found, c.in_ok-found.value) (c.loop-item.invariant es at) c.in-Some.ensures.steps c.in_ok-found.ensures
    (λ d s is. false≢true (sym c.if-is_bytes.false ∙ (c.is_bytes.ensures d s).1 is))

pub returns-in_err-found : goal.returns-in_err-found
returns-in_err-found c = λ es at. absurd (value-missing _ _ _ c.in-Some.item _ es (c.loop-item.invariant es at) c.in-Some.ensures.steps c.in_err-found.ensures)

pub returns : goal.returns
returns c = λ es at. value-done _ _ _ _ es (c.loop-item.invariant es at) c.in-None.ensures.steps
