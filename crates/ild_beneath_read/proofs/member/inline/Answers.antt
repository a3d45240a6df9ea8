use Rattle.std.proofs.Common.{sym, ap, ◌∙◌, subst}
use Rattle.ild_beneath.specs.Parts.{has_text, union_parts}
use Rattle.ild_cbor.specs.declared.piece.Piece.{Piece}
use Rattle.ild_cbor.specs.declared.piece.Piece.TheVariants as Q
use Rattle.ild_layer_piece.specs.Pieces.{StandsFor}
use Rattle.ild_schema.specs.declared.def.UnionForm.TheVariants as UF
use Rattle.ild_beneath_read.specs.inside.Opened.{IsReady, Parted, opened_member}
use Rattle.ild_beneath_read.proofs.Choosing.{inline_parted, inline_pass, member_ready}
use Rattle.ild_beneath_read.proofs.member.inline.Goals as goal

pub returns-in-Node-clause-parted : goal.returns-in-Node-clause-parted
returns-in-Node-clause-parted c = λ t stands.
    subst (Parted c.args.acc.now (union_parts (UF.Inline c.args.key.now) c.args.def.now.members t))
    (sym (c.member_of.ensures ∙ ap (λ o. opened_member o (Q.Inline c.in-Node.node c.args.own.0)) c.slot_by_text.ensures))
    (inline_parted c.args.acc.now c.args.def.now.members c.args.key.now t c.in-Some.mark (c.in-Some.ensures t stands) c.in-Some-text.name.now c.in-Node.node c.args.own.0 c.requires.passed
    (subst (λ (p : Piece). StandsFor c.args.acc.now p t) c.in-Node.is stands) c.in-Some-text.ensures)

pub returns-in-Node-clause-ready : goal.returns-in-Node-clause-ready
returns-in-Node-clause-ready c =
    subst (IsReady c.args.acc.now) (sym (c.member_of.ensures ∙ ap (λ o. opened_member o (Q.Inline c.in-Node.node c.args.own.0)) c.slot_by_text.ensures))
    (member_ready c.args.acc.now (Q.Inline c.in-Node.node c.args.own.0) c.requires.own (has_text c.in-Some-text.name.now) c.args.def.now.members c.requires.members
    (inline_pass c.args.acc.now c.in-Node.node c.args.own.0 c.args.def.now.members c.requires.structs))
