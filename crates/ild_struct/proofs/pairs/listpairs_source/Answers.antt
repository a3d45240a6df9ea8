use Rattle.std.proofs.Common.{List, Option, Some, None, true, subst}
use Rattle.ild_layer_piece.specs.Answers.{told}
use Rattle.ild_schema.specs.declared.def.Field.{Field}
use Rattle.ild_typed.specs.Why.{Why}
use Rattle.ild_struct.proofs.Forms.{Tells, items_of_list, pairs_even, pairs_odd}
use Rattle.ild_struct.proofs.pairs.listpairs_source.Goals as goal

pub returns-in_default-note_pairs-clause-answers : goal.returns-in_default-note_pairs-clause-answers
returns-in_default-note_pairs-clause-answers c = λ apart rows t stands.
    pairs_odd c.args.fields.now.def.now.fields t c.in-Some.items (c.in-Some.ensures rows t stands) (c.in_default-note_pairs.ensures apart)

pub returns-in-Some-first_cause-clause-answers : goal.returns-in-Some-first_cause-clause-answers
returns-in-Some-first_cause-clause-answers c = λ apart rows t stands.
    let x = c.in-Some-note_pairs in
    let why : Option Why = Some (told c.in-Some-first_cause.why) in
    pairs_even c.args.fields.now.def.now.fields t c.in-Some.items x.notes x.miscounted (c.in-Some.ensures rows t stands) (x.ensures apart) why apart
    (subst (λ (fs : List Field). Tells fs x.notes x.miscounted true why) c.as_slice.ensures c.in-Some-first_cause.ensures)

pub returns-in-None-clause-answers : goal.returns-in-None-clause-answers
returns-in-None-clause-answers c = λ apart rows t stands.
    let x = c.in-Some-note_pairs in
    let why : Option Why = None in
    let list = c.in-Some.ensures rows t stands in
    let there = items_of_list t c.in-Some.items list in (
      pairs_even c.args.fields.now.def.now.fields t c.in-Some.items x.notes x.miscounted list (x.ensures apart) why apart
          (subst (λ (fs : List Field). Tells fs x.notes x.miscounted true why) c.as_slice.ensures c.in-None.ensures),
      (there.items, there.is, there.left),
    )
