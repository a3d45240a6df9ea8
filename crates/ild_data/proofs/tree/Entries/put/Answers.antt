use Rattle.ild_data.proofs.Places.{seen_rises}
use Rattle.ild_data.proofs.Rising.{AreEntries-put, rises_list}
use Rattle.ild_data.proofs.tree.Entries.put.Goals as goal

pub put_pair-requires : goal.put_pair-requires
put_pair-requires c = seen_rises _ (rises_list _ c.self.invariant)

pub invariant_of-self-2 : goal.invariant_of-self-2
invariant_of-self-2 c =
    rw (c.in_ok-put_pair.ensures.ok) (AreEntries-put _ _ _ c.self.invariant c.as_str-text.ensures.utf8 c.well_formed-2.ensures)
