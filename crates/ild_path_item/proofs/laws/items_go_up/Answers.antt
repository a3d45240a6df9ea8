use Rattle.ild_path_item.proofs.Upward as U
use Rattle.ild_path_item.proofs.laws.items_go_up.Goals as goal

pub returns-clause-set : goal.returns-clause-set
returns-clause-set c = U.parts_are_set

pub returns-clause-begin : goal.returns-clause-begin
returns-clause-begin c = U.items_begin

pub returns-clause-up : goal.returns-clause-up
returns-clause-up c = U.items_go_up

pub returns-clause-blocks : goal.returns-clause-blocks
returns-clause-blocks c = U.items_are_blocks
