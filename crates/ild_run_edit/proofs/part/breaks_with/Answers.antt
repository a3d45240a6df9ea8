use Rattle.std.proofs.Common.{ap, ◌∙◌, sym, None, Some}
use Rattle.std.specs.Prelude.{option_map, string_bytes}
use Rattle.ild_schema.specs.ValueSeen.{value_of}
use Rattle.ild_run_edit.proofs.Around.{tells_around, text_as}
use Rattle.ild_run_edit.proofs.Reading.{safe_here}
use Rattle.ild_run_edit.proofs.part.breaks_with.Goals as goal

pub returns-in-Some : goal.returns-in-Some
returns-in-Some c =
    tells_around c.args.place.now (value_of c.args.val.now) (Some c.as_str.result) _ (safe_here _ _ _ c.slot.ensures.same c.slot.ensures.safe)
    (ap Some c.as_str.ensures.value ∙ ap (option_map string_bytes) (sym c.in-Some.is) ∙ text_as _ _ _ _ _ _ c.requires c.slot.ensures.same c.in_ok-text.ensures)
    c.breaks_around.ensures.coming

pub returns-in-None : goal.returns-in-None
returns-in-None c =
    tells_around c.args.place.now (value_of c.args.val.now) None _ (safe_here _ _ _ c.slot.ensures.same c.slot.ensures.safe)
    (ap (option_map string_bytes) (sym c.in-None.is) ∙ text_as _ _ _ _ _ _ c.requires c.slot.ensures.same c.in_ok-text.ensures)
    c.breaks_around-in-None.ensures.coming
