use Rattle.ild_run_verify.proofs.Blocks.{reads_list}
use Rattle.ild_run_verify.proofs.input.proof_of_tree.Goals as goal

pub returns-in-List : goal.returns-in-List
returns-in-List c = rw c.in-List.is (reads_list c.in-List.items _ c.proof_of_items.result c.into_vec.ensures c.proof_of_items.ensures)
