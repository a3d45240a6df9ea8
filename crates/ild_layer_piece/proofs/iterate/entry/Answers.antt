use Rattle.std.proofs.Common.{◌≡◌, true, false, sym, ◌∙◌, ap, subst}
use Rattle.ild_cbor.specs.declared.piece.Piece.{Piece}
use Rattle.ild_layer_piece.specs.Pieces.{StandsFor, is_key, passed_key}
use Rattle.ild_layer_piece.proofs.Stand.{finds_entry, passed_none, passed_other}
use Rattle.ild_cbor.specs.Span.{place_of, index_of}
use Rattle.ild_layer_piece.proofs.iterate.entry.Goals as goal

pub returns-then-is_at : goal.returns-then-is_at
returns-then-is_at c = λ t h.
    let at : is_key c.args.key.now (passed_key c.args.acc.now c.in-Inline.union) ≡ true =
    ap (is_key c.args.key.now) (sym c.discriminant_key.ensures) ∙ sym c.is_at.ensures ∙ c.if-is_at.true in
    passed_none (passed_key c.args.acc.now c.in-Inline.union) c.in-Inline.node t c.args.key.now at (subst (λ (p : Piece). StandsFor c.args.acc.now p t) c.in-Inline.is h)

pub returns-else-is_at : goal.returns-else-is_at
returns-else-is_at c = λ t h.
    let at : is_key c.args.key.now (passed_key c.args.acc.now c.in-Inline.union) ≡ false =
    ap (is_key c.args.key.now) (sym c.discriminant_key.ensures) ∙ sym c.is_at.ensures ∙ c.if-is_at.false in
    passed_other (passed_key c.args.acc.now c.in-Inline.union) c.in-Inline.node t c.args.key.now c.entry-else-is_at.result at
    (λ d s. finds_entry c.in-Inline.node (place_of d (index_of c.args.key.now d)) c.args.key.now d c.entry-else-is_at.result (c.entry-else-is_at.ensures d s))
    (subst (λ (p : Piece). StandsFor c.args.acc.now p t) c.in-Inline.is h)
