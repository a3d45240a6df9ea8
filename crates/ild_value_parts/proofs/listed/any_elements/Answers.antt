use Rattle.std.proofs.Common.{◌∙◌, sym, ap}
use Rattle.std.specs.Prelude.{pos}
use Rattle.ild_data.specs.Data.{integer, items_list}
use Rattle.ild_data.specs.Seen.{data_of}
use Rattle.ild_value_parts.specs.Lists.{items_from, named}
use Rattle.ild_value_parts.proofs.Lists.{itself, map_itself, num_all, num_more}
use Rattle.ild_value_parts.proofs.listed.any_elements.Goals as goal

pub loop-item-preserved : goal.loop-item-preserved
loop-item-preserved c =
    let name = c.number-name.ensures ∙ ap (λ n. integer (pos n)) (c.len-in-Some.ensures.count ∙ sym c.len.ensures.count) in
    num_more itself (items_list c.args.items.now) (items_list c.loop-item.pairs) (items_list c.push_named.new.pairs) c.len.result (data_of c.in-Some.item.now)
    (named (data_of c.number-name.result) (data_of c.in_ok-part.part))
    c.loop-item.invariant c.len.ensures.count c.in-Some.ensures (λ i. named (name i) (c.in_ok-part.ensures i)) c.in_ok-push_named.ensures

pub returns : goal.returns
returns c =
    num_all itself (items_list c.args.items.now) (items_list c.loop-item.pairs) c.len.result c.loop-item.invariant c.len.ensures.count c.in_default.ensures
    ∙ ap (items_from 0) (map_itself (items_list c.args.items.now))
