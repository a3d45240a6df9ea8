use Rattle.ild_path_entered.proofs.Editing.{below_entries, at_entries, through_entries, sets_stand, sets_have_data, none_met}
use Rattle.ild_path_entered.proofs.laws.entries_are_edited.Goals as goal

pub returns : goal.returns
returns c = record { below = below_entries; keys = at_entries; through = through_entries; stand = sets_stand; have = sets_have_data; met = none_met }
