use Rattle.ild_node_slots.specs.Form.{bucket_data}
use Rattle.ild_node_slots.proofs.InSlot.{len-some, len-none}
use Rattle.ild_node_slots.proofs.bucket.Bucket.len.Goals as goal

pub returns-in-Some : goal.returns-in-Some
returns-in-Some c = λ es h. len-some es _ (c.in-Some.ensures (bucket_data es) h.stands)

pub returns-in-None : goal.returns-in-None
returns-in-None c = λ es h. len-none es (c.in-None.ensures (bucket_data es) h.stands)
