use Rattle.ild_data.specs.CidView.{cid_bytes}
use Rattle.ild_node_slots.proofs.InSlot.{child-block}
use Rattle.ild_node_slots.proofs.parts.child_in.Goals as goal

pub returns-in-Some : goal.returns-in-Some
returns-in-Some c = λ t h. child-block t (cid_bytes c.in-Some.cid) c.block.result _ (c.in-Some.ensures t h) c.block.ensures.some c.block.ensures.id c.block.ensures.whole c.block.ensures.only
