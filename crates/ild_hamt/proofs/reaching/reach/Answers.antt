use Rattle.std.proofs.Common.{subst, List, ℕ}
use Rattle.ild_hamt_climb.specs.NodeBytes.{IsNodeBlock}
use Rattle.ild_hamt_climb.proofs.NodeTests.{node-tested}
use Rattle.ild_hamt.proofs.reaching.reach.Goals as goal

pub returns-in-None-clause-fetched : goal.returns-in-None-clause-fetched
returns-in-None-clause-fetched g c =
    let got = rw c.in-Ok-Some.field-0-is at c.in-Ok-Some.ensures in
    record {
      answer = (record { named = got.answer.0; held = got.answer.1 }, subst (λ (b : List ℕ). IsNodeBlock c.args.shape b) c.as_slice.ensures.same c.in-None.ensures);
      later = got.later;
      blocks = got.blocks;
      given = got.given;
      gets = got.gets;
      puts = got.puts;
    }

pub returns-in-None-clause-known : goal.returns-in-None-clause-known
returns-in-None-clause-known g c = node-tested c.args.shape _ (subst (λ (b : List ℕ). IsNodeBlock c.args.shape b) c.as_slice.ensures.same c.in-None.ensures)

pub child_in-child-requires-clause-known : goal.child_in-child-requires-clause-known
child_in-child-requires-clause-known g c = node-tested c.args.shape _ (subst (λ (b : List ℕ). IsNodeBlock c.args.shape b) c.as_slice.ensures.same c.in-None.ensures)
