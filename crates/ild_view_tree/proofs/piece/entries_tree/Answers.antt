use Rattle.ild_data.specs.Seen.{data_of}
use Rattle.ild_view_tree.proofs.Treeing.{entries_end, entries_made, entries_on}
use Rattle.ild_view_tree.proofs.piece.entries_tree.Goals as goal

pub loop-key-preserved : goal.loop-key-preserved
loop-key-preserved c = λ es h rises.
    entries_on es rises c.loop-key.members c.loop-key.left c.next.new.self (c.loop-key.invariant es h rises) (c.in-Some.key, c.in-Some.value) c.put.new.self c.in_ok-name.name (data_of c.in_ok-tree.tree) c.in-Some.ensures.steps c.in_ok-name.ensures c.in_ok-tree.ensures c.in_ok-put.ensures.ok

pub returns : goal.returns
returns c = λ es h rises. entries_made es c.loop-key.members (entries_end es rises c.loop-key.members c.loop-key.left c.next.new.self (c.loop-key.invariant es h rises) c.in_default.ensures.steps)
