use Rattle.std.proofs.lemmas.Result.{err_from_is_err_and}
use Rattle.ild_cbor.specs.declared.piece.Piece.TheVariants as P
use Rattle.ild_schema.specs.Rows.{def_at}
use Rattle.ild_schema.specs.declared.def.TypeDef.TheVariants as D
use Rattle.ild_schema.specs.declared.def.UnionForm.TheVariants as UF
use Rattle.ild_layer_piece.proofs.Stand.{piece_rises}
use Rattle.ild_layer_piece.proofs.Walking.{walked, members_rise}
use Rattle.ild_union.proofs.Enveloping.{keys_apart, envelope_told, no_text_there, entries_off, text_seen, no_text_seen}
use Rattle.ild_union.proofs.Marking.{answered}
use Rattle.ild_union.proofs.envelope.envelope.Goals as goal

pub returns-in_err-discriminant-clause-answer : goal.returns-in_err-discriminant-clause-answer
returns-in_err-discriminant-clause-answer c = λ t u stands known form.
    let w = walked t c.in-Some.left (c.in-Some.ensures t stands) in
    let up = members_rise t w.entries w.is (piece_rises c.args.acc.now c.args.piece.now t stands) in
    let apart = keys_apart u c.args.key.now c.args.content.now form (c.recall.ensures.legible.clear.types c.args.ty.0 (D.Union u) known) in
    let p = err_from_is_err_and c.from_residual.result c.from_residual.ensures.1 in
    rw (p.1, p.2) (entries_off c.args.key.now c.args.content.now w.entries c.in_err-discriminant.field-0.0 u t form w.is (c.in_err-discriminant.ensures w.entries w.left up apart))

pub returns-in_default-text-clause-answer : goal.returns-in_default-text-clause-answer
returns-in_default-text-clause-answer c = λ t u stands known form.
    let w = walked t c.in-Some.left (c.in-Some.ensures t stands) in
    let up = members_rise t w.entries w.is (piece_rises c.args.acc.now c.args.piece.now t stands) in
    let apart = keys_apart u c.args.key.now c.args.content.now form (c.recall.ensures.legible.clear.types c.args.ty.0 (D.Union u) known) in
    let b = c.in_ok-discriminant.ensures w.entries w.left up apart in
    no_text_there c.args.key.now c.args.content.now b.0 b.1 w.entries apart up u t form w.is b.4 (no_text_seen b.0 (c.in_default-text.ensures b.0 b.2))

pub returns-clause-answer : goal.returns-clause-answer
returns-clause-answer c = λ t u stands known form.
    let w = walked t c.in-Some.left (c.in-Some.ensures t stands) in
    let up = members_rise t w.entries w.is (piece_rises c.args.acc.now c.args.piece.now t stands) in
    let apart = keys_apart u c.args.key.now c.args.content.now form (c.recall.ensures.legible.clear.types c.args.ty.0 (D.Union u) known) in
    let b = c.in_ok-discriminant.ensures w.entries w.left up apart in
    let told = envelope_told c.args.key.now c.args.content.now b.0 b.1 w.entries apart up t c.in-Some-text.name.now w.is b.4 (text_seen b.0 c.in-Some-text.name.now (c.in-Some-text.ensures b.0 b.2)) in
    answered c.args.acc.now u (UF.Envelope c.args.key.now c.args.content.now) t c.in-Some-text.name.now b.1 form told (P.Node c.in_ok-discriminant.content_node) b.3
    (def_at c.args.acc.now c.args.ty.0) known c.member.result c.member.ensures.answer
