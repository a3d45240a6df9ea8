use Rattle.std.proofs.Common.{sym, ap, ◌∙◌, subst}
use Rattle.ild_beneath.specs.Parts.{has_kind, union_parts}
use Rattle.ild_schema.specs.declared.def.UnionForm.TheVariants as UF
use Rattle.ild_typed.specs.Kinds.{kind_word_of}
use Rattle.ild_beneath_read.specs.inside.Opened.{IsReady, Parted, opened_member, slot_found}
use Rattle.ild_beneath_read.proofs.Choosing.{member_parted, member_ready, of_kind, whole_pass}
use Rattle.ild_beneath_read.proofs.member.kinded.Goals as goal

pub returns-clause-parted : goal.returns-clause-parted
returns-clause-parted c = λ t stands.
    subst (Parted c.args.acc.now (union_parts UF.Kinded c.args.def.now.members t))
    (sym (c.member_of.ensures ∙ ap (λ o. opened_member o c.args.piece.now) (c.slot_by_kind.ensures t (c.kind.ensures c.args.acc.now t stands) ∙ ap (slot_found (has_kind (kind_word_of t))) c.as_slice.ensures)))
    (member_parted c.args.acc.now (has_kind (kind_word_of t)) c.args.def.now.members t c.args.piece.now stands)

pub returns-clause-ready : goal.returns-clause-ready
returns-clause-ready c =
    let w = of_kind c.kind.result in
    subst (IsReady c.args.acc.now) (sym (c.member_of.ensures ∙ ap (λ o. opened_member o c.args.piece.now) (c.slot_by_kind.ensures w.0 w.1 ∙ ap (slot_found (has_kind (kind_word_of w.0))) c.as_slice.ensures)))
    (member_ready c.args.acc.now c.args.piece.now c.requires.numbered (has_kind (kind_word_of w.0)) c.args.def.now.members c.requires.members
    (whole_pass c.args.acc.now c.args.piece.now c.args.def.now.members c.requires.whole))
