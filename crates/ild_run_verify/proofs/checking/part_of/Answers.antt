use Rattle.ild_run_verify.proofs.Lines.{says_wrong, unread}
use Rattle.ild_run_verify.proofs.checking.part_of.Goals as goal

pub returns-in-Err : goal.returns-in-Err
returns-in-Err g c = unread g.H.KeyHash.hash_of c.args.acc.now c.args.ty c.args.root.now.0 c.args.path.now c.args.input.now c.in-Err.fault c.in-Err.ensures

pub returns-in-Ok-verify_part : goal.returns-in-Ok-verify_part
returns-in-Ok-verify_part g c = record { blocks = c.in-Ok.proof; proof = c.in-Ok.ensures; says = c.in-Ok-verify_part.ensures.answer }

pub returns-in-Err-Reject : goal.returns-in-Err-Reject
returns-in-Err-Reject g c =
    says_wrong g.H.KeyHash.hash_of c.args.acc.now c.args.ty c.args.root.now.0 c.args.path.now c.args.input.now c.in-Ok.proof _ c.in-Ok.ensures (rw c.in-Err-Reject.field-0-is at c.in-Err-Reject.ensures).answer
