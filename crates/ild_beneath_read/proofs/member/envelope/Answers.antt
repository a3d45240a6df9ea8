use Rattle.std.proofs.Common.{sym, ap, ◌∙◌, subst}
use Rattle.ild_beneath.specs.Parts.{has_text, union_parts}
use Rattle.ild_cbor.specs.declared.piece.Piece.TheVariants as Q
use Rattle.ild_schema.specs.declared.def.UnionForm.TheVariants as UF
use Rattle.ild_beneath_read.specs.inside.Opened.{IsReady, Parted, opened_member}
use Rattle.ild_beneath_read.proofs.Choosing.{envelope_parted, member_ready, whole_pass}
use Rattle.ild_beneath_read.proofs.member.envelope.Goals as goal

pub returns-clause-parted : goal.returns-clause-parted
returns-clause-parted c = λ t stands.
    subst (Parted c.args.acc.now (union_parts (UF.Envelope c.args.key.now c.args.content.now) c.args.def.now.members t))
    (sym (c.member_of.ensures ∙ ap (λ o. opened_member o (Q.Node c.in-Some-entry.node)) c.slot_by_text.ensures))
    (envelope_parted c.args.acc.now c.args.def.now.members c.args.key.now t c.args.content.now c.in-Some.mark (c.in-Some.ensures t stands) c.in-Some-text.name.now c.in-Some-entry.node c.in-Some-text.ensures
    (c.in-Some-entry.ensures t stands))

pub returns-clause-ready : goal.returns-clause-ready
returns-clause-ready c =
    subst (IsReady c.args.acc.now) (sym (c.member_of.ensures ∙ ap (λ o. opened_member o (Q.Node c.in-Some-entry.node)) c.slot_by_text.ensures))
    (member_ready c.args.acc.now (Q.Node c.in-Some-entry.node) tt (has_text c.in-Some-text.name.now) c.args.def.now.members c.requires.members
    (whole_pass c.args.acc.now (Q.Node c.in-Some-entry.node) c.args.def.now.members tt))
