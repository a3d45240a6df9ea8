use Rattle.std.proofs.Common.{◌≡◌, sym, ◌∙◌, rules}
use denote.Enum.Bare.{same_true}
use Rattle.ild_cbor.specs.contracts.kind.Kind.{the_type}
use Rattle.ild_layer_parts.proofs.Scalars.{scalar_plain}
use Rattle.ild_view_walk.proofs.scalar.open_scalar.Goals as goal

pub returns-then-eq-clause-opens : goal.returns-then-eq-clause-opens
returns-then-eq-clause-opens c = λ rows d t stands k.
    let same : c.kind.result ≡ c.args.wanted = same_true the_type (search rules) _ _ (sym c.if-eq.ensures) in
    scalar_plain c.args.room d t c.args.wanted k (sym (c.kind.ensures rows t stands) ∙ same)
