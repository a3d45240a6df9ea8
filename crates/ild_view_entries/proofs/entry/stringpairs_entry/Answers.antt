use Rattle.std.proofs.Common.{Some, None, refl, sym, ◌∙◌, ap, subst}
use Rattle.std.proofs.Common.{option_map}
use Rattle.ild_data.specs.Data as T
use Rattle.ild_struct.proofs.Splitting.{only_text}
use Rattle.ild_text.specs.Parts.{pairs_in}
use Rattle.ild_view_entries.proofs.Texting.{text_split, text_value_there}
use Rattle.ild_view_entries.specs.Found.{FindsPiece}
use Rattle.ild_cbor.specs.declared.piece.Piece.TheVariants as Q
use Rattle.ild_view_entries.proofs.entry.stringpairs_entry.Goals as goal

pub returns-in-Some-text_value-clause-found : goal.returns-in-Some-text_value-clause-found
returns-in-Some-text_value-clause-found c = λ rows es t stands made.
    let is = only_text t c.in-Some.whole.now (c.in-Some.ensures rows t stands) in
    let there = text_value_there c.args.inner.now c.args.entry.now c.requires.inner_some c.requires.entry_some es t made c.in-Some.whole.now is (pairs_in c.in-Ok.split) c.in-Ok.ensures.pairs c.args.key.now in
    subst (λ o. FindsPiece rows o (Some (Q.Text c.in-Some-text_value.value))) (sym (there ∙ ap (option_map T.text) (sym c.in-Some-text_value.ensures))) refl

pub returns-in-None-text_value-clause-found : goal.returns-in-None-text_value-clause-found
returns-in-None-text_value-clause-found c = λ rows es t stands made.
    let is = only_text t c.in-Some.whole.now (c.in-Some.ensures rows t stands) in
    let there = text_value_there c.args.inner.now c.args.entry.now c.requires.inner_some c.requires.entry_some es t made c.in-Some.whole.now is (pairs_in c.in-Ok.split) c.in-Ok.ensures.pairs c.args.key.now in
    subst (λ o. FindsPiece rows o None) (sym (there ∙ ap (option_map T.text) (sym c.in-None-text_value.ensures))) tt

pub returns-in-Err-clause-found : goal.returns-in-Err-clause-found
returns-in-Err-clause-found c = λ rows es t stands made.
    let is = only_text t c.in-Some.whole.now (c.in-Some.ensures rows t stands) in
    absurd (text_split c.args.inner.now c.args.entry.now c.requires.inner_some c.requires.entry_some es t made c.in-Some.whole.now is c.in-Err.ensures.complete)
