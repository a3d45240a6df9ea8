use Rattle.std.proofs.Common.{◌∙◌, ap}
use Rattle.std.specs.Prelude.{is_some}
use Rattle.std.proofs.lemmas.Option.{none-some, same_Some}
use Rattle.ild_path_edits.specs.Table.{new_index}
use Rattle.ild_path_rules.proofs.insert.is_place.Goals as goal

pub returns-in-Some : goal.returns-in-Some
returns-in-Some c = λ f n x is. c.is_new_index.ensures ∙ ap (λ k. is_some (new_index k c.args.segment.now)) (same_Some c.in-Some.count n (c.in-Some.ensures f x ∙ is))

pub returns-in-None : goal.returns-in-None
returns-in-None c = λ f n x is. absurd (none-some n (c.in-None.ensures f x ∙ is))
