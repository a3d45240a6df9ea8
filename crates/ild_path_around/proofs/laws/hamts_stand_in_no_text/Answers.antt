use Rattle.ild_path_around.proofs.Entries.{outside_of_entries}
use Rattle.ild_path_around.proofs.Keys.{keys_break_nothing}
use Rattle.ild_path_around.proofs.Outside.{outside_of_hamts}
use Rattle.ild_path_around.proofs.laws.hamts_stand_in_no_text.Goals as goal

pub returns : goal.returns
returns c = record { outside = outside_of_hamts c.only_texts_break.ensures.breaks; entries = outside_of_entries c.only_texts_break.ensures.breaks; keys = keys_break_nothing c.only_texts_break.ensures.breaks }
