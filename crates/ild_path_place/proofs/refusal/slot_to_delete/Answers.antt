use Rattle.std.proofs.Common.{sym, ap, ◌∙◌}
use Rattle.std.specs.Prelude.{option_map}
use Rattle.ild_path_rules.specs.Refusal.{refusal_of}
use Rattle.ild_view.specs.View.{slot_of, table_of}
use Rattle.ild_path_place.proofs.Slotted.{may_go}
use Rattle.ild_path_place.proofs.refusal.slot_to_delete.Goals as goal

pub returns-in-Some-clause-answer : goal.returns-in-Some-clause-answer
returns-in-Some-clause-answer c = λ f is. sym (c.refusal_to_delete.ensures f is) ∙ ap (option_map refusal_of) c.in-Some.is

pub returns-in-None-clause-answer : goal.returns-in-None-clause-answer
returns-in-None-clause-answer c = λ f is. may_go (table_of c.args.holder.now) (slot_of c.args.holder.now, f) c.args.segment.now c.slot_there.result (sym (c.refusal_to_delete.ensures f is) ∙ ap (option_map refusal_of) c.in-None.is) (c.slot_there.ensures.answer f is)
