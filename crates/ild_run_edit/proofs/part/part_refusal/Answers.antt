use Rattle.std.proofs.Common.{ap, ◌∙◌}
use Rattle.std.specs.Prelude.{unwrap_or}
use Rattle.ild_run_edit.specs.inside.Judges.{first_told}
use Rattle.ild_run_edit.proofs.Around.{judged_as}
use Rattle.ild_run_edit.proofs.part.part_refusal.Goals as goal

pub returns : goal.returns
returns c = record {
  judged = c.in_ok-judged.judged;
  by = judged_as _ _ _ _ _ _ _ _ c.requires.table (c.unwrap_or.ensures ∙ ap (λ o. unwrap_or o 96) c.room-room.ensures.same) c.slot.ensures.same c.in_ok-judged.ensures;
  around = c.in_ok-around.around;
  tells = c.in_ok-around.ensures;
  full = c.exhausted.result;
  exhausts = c.exhausted.ensures;
  is = c.first_told.ensures ∙ (λ i. first_told (c.key_fits.ensures i) (c.hole.ensures i) c.in_ok-judged.judged c.in_ok-around.around (c.room-room.ensures.same i) c.exhausted.result);
}
