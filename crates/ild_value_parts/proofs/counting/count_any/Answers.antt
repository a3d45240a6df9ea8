use Rattle.std.proofs.Common.{Some, ◌∙◌, sym, ap}
use Rattle.std.specs.Prelude.{pos}
use Rattle.ild_data.specs.Data.{integer, items_list}
use Rattle.ild_value_parts.proofs.Lists.{counts_any}
use Rattle.ild_value_parts.proofs.counting.count_any.Goals as goal

pub returns-in-List : goal.returns-in-List
returns-in-List c = rw c.in-List.is (ap Some (c.number.ensures ∙ ap (λ n. integer (pos n)) (c.len.ensures.count ∙ sym (counts_any (items_list c.in-List.trees)))))
