use Rattle.ild_hamt_climb.proofs.Shown.{child-shown, empty-shown, bucket-shown}
use Rattle.ild_hamt.proofs.reaching.child_at.Goals as goal

pub returns-in-Child : goal.returns-in-Child
returns-in-Child c = λ slots has. child-shown c.in-Child.id _ (rw c.in-Child.is at c.slot_at.ensures.shows slots has)

pub returns-in-Empty : goal.returns-in-Empty
returns-in-Empty c = λ slots has. empty-shown _ (rw c.in-Empty.is at c.slot_at.ensures.shows slots has)

pub returns-in-Bucket : goal.returns-in-Bucket
returns-in-Bucket c = λ slots has. bucket-shown c.in-Bucket.field-0 _ (rw c.in-Bucket.is at c.slot_at.ensures.shows slots has)
