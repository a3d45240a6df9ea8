use Rattle.ild_data.specs.Data.{items_list, members_list, text}
use Rattle.ild_data.specs.Seen.{data_of}
use Rattle.ild_value_shown.proofs.Forms.{made_all, made_more}
use Rattle.ild_value_parts.specs.Lists.{named}
use Rattle.ild_value_parts.proofs.Lists.{named_entry}
use Rattle.ild_value_parts.proofs.listed.any_entries.Goals as goal

pub loop-key-preserved : goal.loop-key-preserved
loop-key-preserved c =
    made_more named_entry (members_list c.args.members.now) (items_list c.loop-key.pairs) (items_list c.push_named.new.pairs) c.len.result (c.in-Some.key.now, data_of c.in-Some.tree.now)
    (named (text c.in_ok-copy.field-0) (data_of c.in_ok-part.part))
    c.loop-key.invariant c.len.ensures.count c.in-Some.ensures (λ i. named (text (c.in_ok-copy.ensures i)) (c.in_ok-part.ensures i)) c.in_ok-push_named.ensures

pub returns : goal.returns
returns c = made_all named_entry (members_list c.args.members.now) (items_list c.loop-key.pairs) c.len.result c.loop-key.invariant c.len.ensures.count c.in_default.ensures
