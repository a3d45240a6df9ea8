use Rattle.std.proofs.Common.{refl, ap, ◌∙◌, arith}
use Rattle.std.proofs.lemmas.List.{take_all}
use Rattle.ild_data.specs.ByteOrder.{without}
use Rattle.ild_node.specs.Rows.{rows_seen}
use Rattle.ild_hamt.specs.Ends.{hashes_of}
use Rattle.ild_bulk.proofs.Tries.{keyed-more}
use Rattle.ild_hamt.proofs.Hashed.{rows-from, rows-more}
use Rattle.ild_hamt.proofs.hashing.keyed.Goals as goal

pub loop-row-preserved : goal.loop-row-preserved
loop-row-preserved c = (
  rows-more c.args.rows.now c.loop-row.row-index c.loop-row.keyed.items c.push.new.self.items _ c.row-item.result c.loop-row.invariant.0 c.in_ok-push.ensures.items refl (omega (arith, c.loop-row-test.true)) c.row-item.is,
  λ h hashed are.
      let was = c.loop-row.invariant.1 h hashed are in
      let took = c.take_hash.ensures h _ hashed
      (was.1 ∙ ap (λ xs. hashes_of h (without c.args.key.now xs)) (rows-from c.args.rows.now c.loop-row.row-index c.row-item.result (omega (arith, c.loop-row-test.true)) c.row-item.is)) in (
        keyed-more h c.args.rows.now c.loop-row.row-index c.loop-row.keyed.items c.push.new.self.items _ c.row-item.result was.0 c.in_ok-push.ensures.items refl took.0 (omega (arith, c.loop-row-test.true)) c.row-item.is,
        took.1,
      ),
)

pub returns-clause-rows : goal.returns-clause-rows
returns-clause-rows c = c.loop-row.invariant.0 ∙ ap rows_seen (take_all c.loop-row.row-index c.args.rows.now (omega (arith, c.loop-row-test.false)))

pub returns-clause-hashes : goal.returns-clause-hashes
returns-clause-hashes c = λ h hashed are. (c.loop-row.invariant.1 h hashed are).0.hashes
