use Rattle.std.proofs.Common.{ℕ, List, map, subst}
use Rattle.std.specs.FinMap.{find}
use Rattle.ild_data.specs.ByteOrder.{bytewise}
use Rattle.ild_data.specs.Trie.{entry_data}
use Rattle.ild_node_slots.specs.Form.{bucket_data}
use Rattle.ild_node_slots.specs.Views.{ValueIn}
use Rattle.ild_node_slots.proofs.Iter.{iter-first}
use Rattle.ild_node_slots.proofs.bucket.Bucket.find.Goals as goal

pub returns-in-Some : goal.returns-in-Some
returns-in-Some c = λ es h. subst (λ (k : List ℕ). ValueIn c.args.self.now.node es k (find bytewise k es) c.value_at.result) c.as_bytes.ensures.value
    (c.value_at.ensures es (iter-first c.args.self.now.node (map entry_data es) c.in-Some.items (c.in-Some.ensures (bucket_data es) h.stands)))

pub returns-in-None : goal.returns-in-None
returns-in-None c = λ es h. absurd (c.in-None.ensures (bucket_data es) h.stands)
