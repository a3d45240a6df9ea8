use Rattle.std.proofs.Common.{List, Option, Some, None, false, true, subst}
use Rattle.ild_layer_piece.specs.Answers.{told}
use Rattle.ild_schema.specs.declared.def.Field.{Field}
use Rattle.ild_text.specs.Parts.{pairs_in}
use Rattle.ild_typed.specs.Named.{names}
use Rattle.ild_typed.specs.Why.{Why}
use Rattle.ild_layer_fields.specs.Entries.{text_entries}
use Rattle.ild_struct.proofs.Forms.{Tells}
use Rattle.ild_struct.proofs.Splitting.{only_text, pairs_answer, pairs_shown, unsplit_answer}
use Rattle.ild_struct.proofs.texts.stringpairs_source.Goals as goal

pub returns-in-Err-clause-answers : goal.returns-in-Err-clause-answers
returns-in-Err-clause-answers c = λ apart rows t stands.
    unsplit_answer c.args.inner.now c.args.entry.now c.in-Some.text.now c.requires.inner_some c.requires.entry_some c.in-Err.ensures.complete c.args.fields.now.def.now.fields t
    (only_text t c.in-Some.text.now (c.in-Some.ensures rows t stands))

pub returns-in-Some-first_cause-clause-answers : goal.returns-in-Some-first_cause-clause-answers
returns-in-Some-first_cause-clause-answers c = λ apart rows t stands.
    let why : Option Why = Some (told c.in-Some-first_cause.why) in
    let fs = c.args.fields.now.def.now.fields in
    let es = text_entries (pairs_in c.in-Ok.split) in
    pairs_answer c.args.inner.now c.args.entry.now c.in-Some.text.now c.requires.inner_some c.requires.entry_some (pairs_in c.in-Ok.split) c.in-Ok.ensures.pairs fs t
    (only_text t c.in-Some.text.now (c.in-Some.ensures rows t stands)) why
    (subst (λ (gs : List Field). Tells gs c.note_texts.result false true why) c.as_slice.ensures c.in-Some-first_cause.ensures apart (names es) es (c.note_texts.ensures apart))

pub returns-in-None-clause-answers : goal.returns-in-None-clause-answers
returns-in-None-clause-answers c = λ apart rows t stands.
    let why : Option Why = None in
    let fs = c.args.fields.now.def.now.fields in
    let es = text_entries (pairs_in c.in-Ok.split) in
    let is = only_text t c.in-Some.text.now (c.in-Some.ensures rows t stands) in (
      pairs_answer c.args.inner.now c.args.entry.now c.in-Some.text.now c.requires.inner_some c.requires.entry_some (pairs_in c.in-Ok.split) c.in-Ok.ensures.pairs fs t is why
          (subst (λ (gs : List Field). Tells gs c.note_texts.result false true why) c.as_slice.ensures c.in-None.ensures apart (names es) es (c.note_texts.ensures apart)),
      pairs_shown c.args.inner.now c.args.entry.now c.in-Some.text.now c.requires.inner_some c.requires.entry_some (pairs_in c.in-Ok.split) c.in-Ok.ensures.pairs t is,
    )
