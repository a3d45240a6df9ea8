use Rattle.std.proofs.Common.{◌≡◌, ◌≢◌, Some, refl, sym, arith}
use Rattle.std.specs.Cmp.Lexicographic.{other_text}
use Rattle.ild_data.specs.Spell.{id_of}
use Rattle.ild_edges.specs.Store.{block_at}
use Rattle.ild_edges.specs.Blocks.{blocks_of}
use Rattle.ild_edges.proofs.Held.{block_at_id, keeps_all}
use Rattle.ild_edges.proofs.mem_store.MemStoreStore.put.Goals as goal

pub returns-in_ok-copy-clause-puts : goal.returns-in_ok-copy-clause-puts
returns-in_ok-copy-clause-puts c =
    let was : block_at (blocks_of c.args.self.now.held) (id_of c.args.bytes.now) ≡ Some c.in_ok-copy.field-0 =
    rw (c.in_ok-copy.ensures, ← c.requires) (sym c.in-Some.ensures) in
    let apart : c.in_ok-copy.field-0 ≢ c.args.bytes.now = rw (c.in_ok-copy.ensures, ← c.as_slice.ensures.same) (other_text _ _ c.if-eq.ensures) in record {
      answer = (block_at_id (blocks_of c.args.self.now.held) _ _ was, apart, refl, was, refl);
      later = record { keeps = keeps_all (blocks_of c.args.self.now.held); given = tt; gets = omega arith; puts = omega arith; lacks = omega arith; faults = omega arith; beneath = λ i. tt };
      gets = refl;
      puts = c.saturating_add-self.ensures;
    }
