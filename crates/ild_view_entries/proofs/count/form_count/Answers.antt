use Rattle.std.proofs.Common.{◌∙◌, sym, subst}
use Rattle.ild_schema.specs.declared.def.MapForm.{MapForm}
use Rattle.ild_view_entries.proofs.Tallying.{members_counted, pairs_counted}
use Rattle.ild_view_entries.specs.Forms.{FormCount, ShowsMap}
use Rattle.ild_view_entries.proofs.count.form_count.Goals as goal

pub returns-in-Map : goal.returns-in-Map
returns-in-Map c = λ rows t es free stands shows.
    subst (λ (form : MapForm). FormCount form es c.parts_count.result) (sym c.in-Map.is)
    (c.parts_count.ensures rows t free stands ∙ members_counted t es (subst (λ (form : MapForm). ShowsMap form es t) c.in-Map.is shows))

pub returns-in-ListPairs : goal.returns-in-ListPairs
returns-in-ListPairs c = λ rows t es free stands shows.
    subst (λ (form : MapForm). FormCount form es c.parts_count-in-ListPairs.result) (sym c.in-ListPairs.is)
    (c.parts_count-in-ListPairs.ensures rows t free stands ∙ pairs_counted t es (subst (λ (form : MapForm). ShowsMap form es t) c.in-ListPairs.is shows))
