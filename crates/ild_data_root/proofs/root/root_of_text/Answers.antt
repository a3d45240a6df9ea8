use Rattle.ild_data_root.proofs.Roots.{root_seen, no_root_seen}
use Rattle.ild_data_root.proofs.root.root_of_text.Goals as goal

pub returns-in-Ok : goal.returns-in-Ok
returns-in-Ok c = root_seen c.args.text.now c.in-Ok.cid c.block.result c.in-Ok.ensures.read (rw c.view.ensures at c.block.ensures.some) (rw c.view.ensures at c.block.ensures.id)

pub returns-in-Err : goal.returns-in-Err
returns-in-Err c = no_root_seen c.args.text.now c.in-Err.err c.no_root.result c.in-Err.ensures.fault c.no_root.ensures
