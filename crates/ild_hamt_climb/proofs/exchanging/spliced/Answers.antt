use Rattle.ild_node.specs.NewSlots.{hold_seen}
use Rattle.ild_hamt_climb.proofs.Replaced.{element_block, node_spliced, spells_same}
use Rattle.ild_hamt_climb.proofs.exchanging.spliced.Goals as goal

pub replaced-requires : goal.replaced-requires
replaced-requires c = element_block c.args.shape (hold_seen c.args.hold.now) c.as_slice.result.now (spells_same c.args.shape (hold_seen c.args.hold.now) c.in_ok-new.new c.as_slice.result.now c.as_slice.ensures.same (c.in_ok-new.ensures c.args.shape c.requires))

pub returns : goal.returns
returns c = λ slots has lt.
    node_spliced c.args.shape c.args.view slots c.args.i (hold_seen c.args.hold.now) c.in-Some.old c.as_slice.result.now c.replaced.result has lt (c.in-Some.ensures c.args.shape slots has lt)
    (spells_same c.args.shape (hold_seen c.args.hold.now) c.in_ok-new.new c.as_slice.result.now c.as_slice.ensures.same (c.in_ok-new.ensures c.args.shape c.requires)) c.replaced.ensures
