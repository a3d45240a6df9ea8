use Rattle.std.proofs.Common.{length, refl, []}
use Rattle.ild_layer_fields.proofs.Surveying.{survey_on, survey_end}
use Rattle.ild_layer_fields.proofs.Telling.{telling_on, telling_end}
use Rattle.ild_layer_fields.proofs.survey.note_entries.Goals as goal

pub loop-name-init : goal.loop-name-init
loop-name-init c =
    let fs = c.args.fields.now in (
      λ apart es h. record { done = []; rest = es; is = refl; left = h; noted = record { names = c.new-notes.ensures.noted (length fs.def.now.fields) fs.most; needless = c.new-notes.ensures.needless } },
      λ apart es h. record { done = []; rest = es; is = refl; left = h; told = λ yes. tt },
    )

pub loop-name-preserved : goal.loop-name-preserved
loop-name-preserved c =
    let fs = c.args.fields.now in (
      λ apart es h. survey_on fs.def.now.fields es c.loop-name.left c.next.new.self c.loop-name.notes c.note_placed.new.self c.in-Some.name c.in-Some.value c.in-Some.ensures.steps
          (c.note_placed.ensures apart c.in-Some.name.now (c.place_by_key-place.ensures.place apart) fs.acc.now) (c.loop-name.invariant.0 apart es h),
      λ apart es h. telling_on fs.acc.now fs.def.now.fields es c.loop-name.left c.next.new.self c.loop-name.told _ c.is_told_at-told.result c.in-Some.name c.place_by_key-place.result.0 c.in-Some.value refl
          (c.place_by_key-place.ensures.place apart) c.in-Some.ensures.steps c.is_told_at-told.ensures (c.loop-name.invariant.1 apart es h),
    )

pub returns-clause-noted : goal.returns-clause-noted
returns-clause-noted c = λ apart es h.
    survey_end c.args.fields.now.def.now.fields es c.loop-name.left c.next.new.self c.loop-name.notes c.in_default.ensures.steps (c.loop-name.invariant.0 apart es h)

pub returns-clause-told : goal.returns-clause-told
returns-clause-told c = λ yes apart es h.
    telling_end c.args.fields.now.acc.now c.args.fields.now.def.now.fields es c.loop-name.left c.next.new.self c.loop-name.told c.in_default.ensures.steps (c.loop-name.invariant.1 apart es h) yes
