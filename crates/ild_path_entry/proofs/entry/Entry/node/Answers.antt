use Rattle.std.proofs.Common.{subst, ◌≤◌}
use Rattle.std.specs.Coded.{le_prop}
use Rattle.std.proofs.Math.Logic.{∥∥₁_elim}
use Rattle.ild_cbor.proofs.Blocks.{block_again, one_tree_lem}
use Rattle.ild_data.specs.Data.{depth}
use Rattle.ild_typed.proofs.TreeValues.{alone_tree}
use Rattle.ild_path_entry.specs.Entry.{room_in}
use Rattle.ild_path_entry.proofs.entry.Entry.node.Goals as goal

pub known_root-requires : goal.known_root-requires
known_root-requires c = block_again _ c.args.self.now.item (record { within = c.as_slice.ensures.within; spelled = c.as_slice.ensures.spelled })

pub returns-clause-nests : goal.returns-clause-nests
returns-clause-nests c = λ t stands.
    let own = (c.known_root.ensures c.args.self.now.item (record { within = c.as_slice.ensures.within; spelled = c.as_slice.ensures.spelled })).stands in
    ∥∥₁_elim c.args.self.now.stands le_prop (λ h. subst (λ d. depth d ≤ room_in c.args.self.now) (one_tree_lem _ _ _ _ c.args.self.now.item t own stands)
    (alone_tree c.args.self.now.acc.now c.recall.ensures.table.texts.spelled c.args.self.now.room c.args.self.now.slot h.value c.args.self.now.item h.front.fits h.front.tree).nested)
