use Rattle.std.proofs.Common.{sym}
use Rattle.std.proofs.Math.Logic.{∥∥₁_elim}
use Rattle.std.proofs.Props.{props}
use Rattle.ild_path_ends.proofs.Leading.{entry_room}
use Rattle.ild_path_inward.proofs.Leading.{hamt_valued}
use Rattle.ild_path_ends.proofs.entry.entry_of.Goals as goal

pub returns-in-Ok-clause-room : goal.returns-in-Ok-clause-room
returns-in-Ok-clause-room c = entry_room _ _ _ c.args.item.now c.in-Ok.entry c.in-Ok.ensures

pub unreachable-requires : goal.unreachable-requires
unreachable-requires c = ∥∥₁_elim c.requires (hlevel props) (λ x. hamt_valued _ c.args.map.now (sym c.schema-acc.ensures) x.0 x.1 c.in_default.ensures)
