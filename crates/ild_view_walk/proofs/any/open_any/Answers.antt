use Rattle.std.proofs.Common.{sym, subst, ◌∙◌}
use Rattle.ild_layer_piece.specs.Pieces.{StandsFor}
use Rattle.ild_view_walk.proofs.Nesting.{any_plain, bytes_any, text_any}
use Rattle.ild_view_walk.proofs.any.open_any.Goals as goal

pub returns-then-nests_within-clause-opens : goal.returns-then-nests_within-clause-opens
returns-then-nests_within-clause-opens c = λ rows t stands.
    let own = subst (λ p. StandsFor rows p t) c.in-Node.is stands in
    any_plain c.args.room t (λ e. c.in_default.not-Null (c.kind.ensures t own ∙ e)) (sym (c.nests_within.ensures t own) ∙ c.if-nests_within.true)

pub returns-in-Text-clause-opens : goal.returns-in-Text-clause-opens
returns-in-Text-clause-opens c = λ rows t stands. text_any c.args.room t c.in-Text.field-0.now (subst (λ p. StandsFor rows p t) c.in-Text.is stands)

pub returns-in-Bytes-clause-opens : goal.returns-in-Bytes-clause-opens
returns-in-Bytes-clause-opens c = λ rows t stands. bytes_any c.args.room t c.in-Bytes.field-0.now (subst (λ p. StandsFor rows p t) c.in-Bytes.is stands)
