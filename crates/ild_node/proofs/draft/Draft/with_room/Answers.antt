use Rattle.std.proofs.Common.{refl}
use Rattle.ild_node.proofs.Drafting.{written-none}
use Rattle.ild_node.proofs.draft.Draft.with_room.Goals as goal

pub returns : goal.returns
returns c = written-none c.args.shape _ refl refl refl c.in_ok-with_room.ensures
