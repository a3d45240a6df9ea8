use Rattle.ild_text.proofs.Firsts.{first_of_entries, only_entry}
use Rattle.ild_text.proofs.place.first_entry.Goals as goal

pub returns-in-Some : goal.returns-in-Some
returns-in-Some c = λ inner there keyed. first_of_entries inner c.args.entry.now c.args.text.now _ _ c.requires c.in-Some.ensures there keyed

pub returns-in-None : goal.returns-in-None
returns-in-None c = λ inner there keyed. only_entry c.args.entry.now c.args.text.now c.requires c.in-None.ensures there
