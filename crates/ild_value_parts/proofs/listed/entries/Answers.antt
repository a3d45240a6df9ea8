use Rattle.ild_data.specs.Data.{items_list, text}
use Rattle.ild_data.specs.Seen.{data_of}
use Rattle.ild_schema.specs.Value.{pairs_list}
use Rattle.ild_schema.specs.ValueSeen.{pair_of}
use Rattle.ild_value_shown.proofs.Forms.{made_all, made_more}
use Rattle.ild_value_parts.specs.Lists.{named}
use Rattle.ild_value_parts.proofs.Lists.{entry_shown}
use Rattle.ild_value_parts.proofs.listed.entries.Goals as goal

pub loop-entry-preserved : goal.loop-entry-preserved
loop-entry-preserved c =
    made_more (entry_shown c.args.acc.now c.args.elem) (pairs_list c.args.vals.now) (items_list c.loop-entry.pairs) (items_list c.push_named.new.pairs) c.len.result (pair_of c.in-Some.entry.now)
    (named (text c.in_ok-copy.field-0) (data_of c.in_ok-part.part))
    c.loop-entry.invariant c.len.ensures.count c.in-Some.ensures (λ i. named (text (c.in_ok-copy.ensures i)) (c.in_ok-part.ensures i)) c.in_ok-push_named.ensures

pub returns : goal.returns
returns c = made_all (entry_shown c.args.acc.now c.args.elem) (pairs_list c.args.vals.now) (items_list c.loop-entry.pairs) c.len.result c.loop-entry.invariant c.len.ensures.count c.in_default.ensures
