use Rattle.ild_build_entries.proofs.Marked.{ends_null, ends_own, fine_of, not_fine}
use Rattle.ild_build_entries.proofs.hamt.end_of_entry.Goals as goal

pub returns-then-nodes : goal.returns-then-nodes
returns-then-nodes c = λ before value is at fits.
    ends_null c.args.key.now value c.args.out.now c.begin_entry.new.out _ c.args.nodes.now c.len-again.result (not_fine c.args.nodes.now c.if-nodes.true) c.in_ok-begin_entry.ensures c.in_ok-simple.ensures.ok c.len-again.ensures

pub returns : goal.returns
returns c = λ before value is at fits. ends_own c.args.key.now before value c.args.out.now c.args.nodes.now c.args.from is at (fits (fine_of c.args.nodes.now c.if-nodes.false))
