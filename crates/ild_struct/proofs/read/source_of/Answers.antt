use Rattle.std.proofs.Common.{List, sym, ◌∙◌, ap, subst}
use Rattle.ild_schema.specs.Clear.{ClearStruct}
use Rattle.ild_schema.specs.declared.def.Field.{Field}
use Rattle.ild_schema.specs.declared.def.StructForm.TheVariants as S
use Rattle.ild_schema.specs.declared.row.Row.{Row}
use Rattle.ild_struct.specs.inside.Reading.{FormIsRead}
use Rattle.ild_struct.proofs.read.source_of.Goals as goal

pub returns-in-Tuple-clause-answers : goal.returns-in-Tuple-clause-answers
returns-in-Tuple-clause-answers c = λ t stands.
    let rows : List Row = c.args.fields.now.acc.now in
    let fs : List Field = c.args.fields.now.def.now.fields in
    let is = c.in-Tuple.is in
    c.untold.ensures.answers rows _ fs t (subst (λ f. FormIsRead rows f fs t c.tuple_source.result) (sym is) (subst (λ gs. FormIsRead rows S.Tuple gs t c.tuple_source.result) c.as_slice.ensures (c.tuple_source.ensures.answers rows t stands)))

pub returns-in-ListPairs-clause-answers : goal.returns-in-ListPairs-clause-answers
returns-in-ListPairs-clause-answers c = λ t stands.
    let rows : List Row = c.args.fields.now.acc.now in
    let fs : List Field = c.args.fields.now.def.now.fields in
    let is = c.in-ListPairs.is in
    let clear = subst (λ f. ClearStruct f fs) is c.requires.clear in
    c.untold-in-ListPairs.ensures.answers rows _ fs t (subst (λ f. FormIsRead rows f fs t c.listpairs_source.result) (sym is) (c.listpairs_source.ensures.answers clear.apart rows t stands))

pub returns-in-StringPairs-clause-answers : goal.returns-in-StringPairs-clause-answers
returns-in-StringPairs-clause-answers c = λ t stands.
    let rows : List Row = c.args.fields.now.acc.now in
    let fs : List Field = c.args.fields.now.def.now.fields in
    let is = c.in-StringPairs.is in
    let clear = subst (λ f. ClearStruct f fs) is c.requires.clear in
    let same = ap (λ x. S.StringPairs x c.as_str-in-StringPairs.result.now) c.as_str.ensures.same ∙ ap (λ y. S.StringPairs c.in-StringPairs.inner y) c.as_str-in-StringPairs.ensures.same in
    c.untold-in-StringPairs.ensures.answers rows _ fs t (subst (λ f. FormIsRead rows f fs t c.stringpairs_source.result) (same ∙ sym is) (c.stringpairs_source.ensures.answers clear.0.apart rows t stands))

pub returns-in-StringJoin-clause-answers : goal.returns-in-StringJoin-clause-answers
returns-in-StringJoin-clause-answers c = λ t stands.
    let rows : List Row = c.args.fields.now.acc.now in
    let fs : List Field = c.args.fields.now.def.now.fields in
    let is = c.in-StringJoin.is in
    let same = ap S.StringJoin c.as_str-in-StringJoin.ensures.same in
    c.untold-in-StringJoin.ensures.answers rows _ fs t (subst (λ f. FormIsRead rows f fs t c.stringjoin_source.result) (same ∙ sym is) (c.stringjoin_source.ensures.answers rows fs t c.len.ensures stands))
