use Rattle.ild_node.specs.Rows.{row_seen}
use Rattle.ild_bulk.proofs.Marking.{entries-more}
use Rattle.ild_bulk.proofs.entries.add.Goals as goal

pub returns : goal.returns
returns c = λ h es has same.
    entries-more h es c.args.entries.now _ (row_seen c.args.row.now) _ has c.in_ok-add_entry.ensures c.in_ok-push.ensures.items
    (c.mark_of.ensures h (row_seen c.args.row.now) c.args.entries.now.out c.in_ok-add_entry.ensures c.len-from.ensures same)
