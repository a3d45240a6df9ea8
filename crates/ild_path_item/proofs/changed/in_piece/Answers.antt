use Rattle.std.proofs.Common.{sym, ◌∙◌, ap, subst}
use Rattle.std.specs.Prelude.{option_map}
use Rattle.ild_layer_piece.specs.Pieces.{IsWithout, StandsFor}
use Rattle.ild_path_item.proofs.changed.in_piece.Goals as goal

pub returns-in-Node : goal.returns-in-Node
returns-in-Node c = λ t stands parts. c.in_item.ensures t (c.apart.ensures t (subst (λ p. StandsFor c.args.acc.now p t) c.in-Node.is stands))

pub returns-in-Some : goal.returns-in-Some
returns-in-Some c = λ t stands parts.
    c.without_entry.ensures t
    (subst (λ o. IsWithout o c.in-Inline.node t) (sym c.discriminant.ensures ∙ ap (option_map (λ k. k.now)) c.in-Some.is) (subst (λ p. StandsFor c.args.acc.now p t) c.in-Inline.is stands))
