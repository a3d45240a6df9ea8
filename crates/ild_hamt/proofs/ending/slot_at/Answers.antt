use Rattle.std.proofs.Math.Logic.{∥∥₁_map}
use Rattle.ild_data.specs.TrieShape.{index}
use Rattle.ild_node_slots.specs.Views.{view_shape}
use Rattle.ild_node_slots.proofs.Fits.{some-node}
use Rattle.ild_hamt_climb.proofs.Nested.{some-next}
use Rattle.ild_hamt_climb.proofs.Shown.{slot-shows}
use Rattle.ild_hamt.proofs.ending.slot_at.Goals as goal

pub returns-clause-known : goal.returns-clause-known
returns-clause-known c =
    let p = view_shape c.args.view in
    ∥∥₁_map (some-node c.args.view) (λ n. some-next p c.args.view n.slots c.index_of.result c.slot.result n.has (c.slot.ensures p n.slots n.has))

pub returns-clause-shows : goal.returns-clause-shows
returns-clause-shows c = λ slots has. slot-shows c.args.view slots c.index_of.result (index c.args.shape c.args.hash.now c.args.depth) c.slot.result c.index_of.ensures.index (c.slot.ensures c.args.shape slots has)
