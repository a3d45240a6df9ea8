use Rattle.std.proofs.Common.{◌≡◌, sym, ◌∙◌, rules}
use denote.Enum.Bare.{same_true}
use Rattle.ild_cbor.specs.contracts.kind.Kind.{the_type}
use Rattle.ild_layer_parts.proofs.Passing.{pair_behind}
use Rattle.ild_layer_parts.proofs.behind.behind_pair.Goals as goal

pub returns-then-eq-clause-behind : goal.returns-then-eq-clause-behind
returns-then-eq-clause-behind c = λ es h.
    let same : c.kind.result ≡ c.args.wanted = same_true the_type (search rules) _ _ (sym c.if-eq.ensures) in
    pair_behind c.args.items.now c.in_ok-value.field-0-0.now c.in_ok-value.value c.in_ok-value.left c.args.wanted (λ ds has. c.in_ok-value.ensures.pair ds has) (λ d stands. sym (c.kind.ensures d stands) ∙ same) es h
