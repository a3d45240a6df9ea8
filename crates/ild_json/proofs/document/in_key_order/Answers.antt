use Rattle.ild_json.proofs.Documents.{sorted_members}
use Rattle.ild_json.proofs.document.in_key_order.Goals as goal

pub returns-then-sort_by_key : goal.returns-then-sort_by_key
returns-then-sort_by_key c = sorted_members c.args.members.items c.sort_by_key.new.rows.items c.sort_by_key.ensures.same (c.sort_by_key.ensures.yes c.if-sort_by_key.true)
