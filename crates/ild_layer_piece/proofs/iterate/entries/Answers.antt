use Rattle.std.proofs.Common.{subst}
use Rattle.ild_cbor.specs.declared.piece.Piece.{Piece}
use Rattle.ild_layer_piece.specs.Pieces.{StandsFor, passed_key}
use Rattle.ild_layer_piece.proofs.Stand.{left_maps, has_maps}
use Rattle.ild_layer_piece.proofs.iterate.entries.Goals as goal

pub returns-in_err-entries-in-Inline : goal.returns-in_err-entries-in-Inline
returns-in_err-entries-in-Inline c = λ t h.
    absurd (has_maps (passed_key c.args.acc.now c.in-Inline.union) c.in-Inline.node t c.in_err-entries-in-Inline.ensures (subst (λ (p : Piece). StandsFor c.args.acc.now p t) c.in-Inline.is h))

pub returns-in_ok-entries-in-Inline : goal.returns-in_ok-entries-in-Inline
returns-in_ok-entries-in-Inline c = λ t h.
    left_maps (passed_key c.args.acc.now c.in-Inline.union) c.in-Inline.node t c.in_ok-entries-in-Inline.field-0 c.discriminant_key.result c.discriminant_key.ensures
    c.in_ok-entries-in-Inline.ensures (subst (λ (p : Piece). StandsFor c.args.acc.now p t) c.in-Inline.is h)
