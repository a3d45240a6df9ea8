use Rattle.std.proofs.Math.Logic.{∥∥₁_map}
use Rattle.ild_cbor.proofs.Blocks.{block_again}
use Rattle.ild_cbor.specs.Block.{IsBlockOf}
use Rattle.ild_path_entry.proofs.entry.Entry.view.Goals as goal

pub known_root-node-requires : goal.known_root-node-requires
known_root-node-requires c = block_again _ c.args.self.now.item (record { within = c.as_slice.ensures.within; spelled = c.as_slice.ensures.spelled })

pub of-requires-clause-front : goal.of-requires-clause-front
of-requires-clause-front c = ∥∥₁_map c.args.self.now.stands (λ h. record {
  value = h.value;
  room = c.args.self.now.room;
  tree = c.args.self.now.item;
  stands = (c.known_root-node.ensures c.args.self.now.item (record { within = c.as_slice.ensures.within; spelled = c.as_slice.ensures.spelled })).stands;
  front = h.front;
})

pub returns-clause-whole : goal.returns-clause-whole
returns-clause-whole c =
    let block : IsBlockOf c.as_slice.result.now c.args.self.now.item = record { within = c.as_slice.ensures.within; spelled = c.as_slice.ensures.spelled } in
    record { node = c.known_root-node.result; piece = c.of.ensures.piece; block = c.as_slice.result.now; spelled = block; root = c.known_root-node.ensures c.args.self.now.item block }
