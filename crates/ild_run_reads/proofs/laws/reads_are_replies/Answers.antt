use Rattle.ild_run_reads.proofs.Quiet.{reads_are_replies}
use Rattle.ild_run_reads.proofs.laws.reads_are_replies.Goals as goal

pub returns : goal.returns
returns c = reads_are_replies
