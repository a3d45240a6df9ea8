use Rattle.std.proofs.Common.{◌≡◌, Some, sym, refl, arith}
use Rattle.ild_edges.specs.Store.{block_at}
use Rattle.ild_edges.specs.Blocks.{blocks_of}
use Rattle.ild_edges.proofs.Held.{block_at_id, keeps_all}
use Rattle.ild_edges.proofs.mem_store.MemStoreStore.get.Goals as goal

pub returns-in_ok-copy-in-Some-clause-gets : goal.returns-in_ok-copy-in-Some-clause-gets
returns-in_ok-copy-in-Some-clause-gets c =
    let was : block_at (blocks_of c.args.self.now.held) c.args.id.now.0 ≡ Some c.in_ok-copy-in-Some.field-0 = rw c.in_ok-copy-in-Some.ensures (sym c.in-Some.ensures) in record {
      answer = (block_at_id (blocks_of c.args.self.now.held) _ _ was, was);
      later = record { keeps = keeps_all (blocks_of c.args.self.now.held); given = tt; gets = omega arith; puts = omega arith; lacks = omega arith; faults = omega arith; beneath = λ i. tt };
      blocks = refl;
      given = refl;
      gets = c.saturating_add-self.ensures;
      puts = refl;
    }
