use Rattle.ild_hamt.proofs.Hashed.{missing-found, missing-none, missing-empty, missing-child}
use Rattle.ild_hamt.proofs.ending.is_missing.Goals as goal

pub returns-in-Some : goal.returns-in-Some
returns-in-Some c = λ s shows. missing-found c.in-Bucket.bucket s c.args.key.now c.in-Some.field-0 (rw c.in-Bucket.is at shows) c.in-Some.ensures

pub returns-in-None : goal.returns-in-None
returns-in-None c = λ s shows. missing-none c.in-Bucket.bucket s c.args.key.now (rw c.in-Bucket.is at shows) c.in-None.ensures

pub returns-in-Empty : goal.returns-in-Empty
returns-in-Empty c = λ s shows. missing-empty s c.args.key.now (rw c.in-Empty.is at shows)

pub returns-in-Child : goal.returns-in-Child
returns-in-Child c = λ s shows. missing-child c.in-Child.field-0 s c.args.key.now (rw c.in-Child.is at shows)
