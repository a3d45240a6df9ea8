use Rattle.std.proofs.Common.{subst, sym}
use Rattle.std.specs.Prelude.{OnOk}
use Rattle.ild_node.specs.NewSlots.{hold_seen, IsFilled}
use Rattle.ild_node.specs.Written.{IsSound}
use Rattle.ild_node.specs.declared.hold.NewHold.{NewHold}
use Rattle.ild_node.proofs.Nodes.{bucket-on}
use Rattle.ild_node.proofs.write.add_hold.Goals as goal

pub returns-in-Bucket-clause-sound : goal.returns-in-Bucket-clause-sound
returns-in-Bucket-clause-sound c = λ p.
    subst (λ (h : NewHold). IsFilled p h → OnOk c.add_bucket.result (IsSound p (hold_seen h))) (sym c.in-Bucket.is)
    (λ filled. bucket-on p c.add_bucket.result _ c.add_bucket.ensures.rows filled)
