use Rattle.std.proofs.Common.{Some, ◌∙◌, sym, ap}
use Rattle.ild_data.specs.Data.{items_list, members_list}
use Rattle.ild_value_parts.proofs.Lists.{any_elements_are, any_entries_are}
use Rattle.ild_value_parts.proofs.listed.parts_any.Goals as goal

pub returns-in_ok-pairs-in-List : goal.returns-in_ok-pairs-in-List
returns-in_ok-pairs-in-List c = λ rows. rw c.in-List.is (ap Some (c.in_ok-pairs-in-List.ensures ∙ sym (any_elements_are rows (items_list c.in-List.items))))

pub returns-in_ok-pairs-in-Map : goal.returns-in_ok-pairs-in-Map
returns-in_ok-pairs-in-Map c = λ rows. rw c.in-Map.is (ap Some (c.in_ok-pairs-in-Map.ensures ∙ sym (any_entries_are rows (members_list c.in-Map.members))))
