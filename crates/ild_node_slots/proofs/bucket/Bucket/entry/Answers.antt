use Rattle.ild_node_slots.specs.Form.{bucket_data}
use Rattle.ild_node_slots.proofs.InSlot.{entry-past, entry-here}
use Rattle.ild_node_slots.proofs.bucket.Bucket.entry.Goals as goal

pub returns-in-Some : goal.returns-in-Some
returns-in-Some c = λ es h. entry-here c.args.self.now es c.args.i c.in-Some.item c.entry_in.result h.texts (c.in-Some.ensures (bucket_data es) h.stands) c.entry_in.ensures

pub returns-in-None : goal.returns-in-None
returns-in-None c = λ es h. entry-past c.args.self.now es c.args.i _ (c.in-None.ensures (bucket_data es) h.stands)
