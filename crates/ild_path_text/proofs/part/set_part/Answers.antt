use Rattle.ild_path_text.proofs.Changes.{part_done}
use Rattle.ild_path_text.proofs.part.set_part.Goals as goal

pub returns : goal.returns
returns c = λ ps is many lt.
    part_done c.joins_are_joins.ensures c.args.delimiter.now c.args.text.now c.args.new.now _ ps c.args.count c.args.place _ c.requires is many lt c.in_ok-out.ensures c.joined_text.ensures
