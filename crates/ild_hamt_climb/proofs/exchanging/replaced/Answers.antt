use Rattle.std.proofs.Common.{◌≤◌, length, arith}
use Rattle.ild_data.specs.Limits.{longest_block}
use Rattle.ild_cbor.proofs.Blocks.{block_again}
use Rattle.ild_hamt_climb.proofs.Replaced.{block_is, item_replaced}
use Rattle.ild_hamt_climb.proofs.exchanging.replaced.Goals as goal

pub known_root-requires : goal.known_root-requires
known_root-requires c =
    let short : length c.args.new.now ≤ longest_block = omega (arith, c.if-new-gt-LONGEST_BLOCK.false) in
    block_again c.args.new.now c.requires.of (block_is c.args.new.now c.requires.of c.requires.fits c.requires.is short)

pub returns-in-Ok : goal.returns-in-Ok
returns-in-Ok c =
    let short : length c.args.new.now ≤ longest_block = omega (arith, c.if-new-gt-LONGEST_BLOCK.false) in
    item_replaced c.args.old.now c.known_root.result c.args.new.now c.in-Ok.block short c.known_root.ensures c.in-Ok.ensures
